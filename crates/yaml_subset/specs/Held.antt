-- How a reader's own lists stand to the front of a layout.
use Rattle.std.specs.Prelude.{◌≡◌, ℕ, ◌||◌, bytes_eq, Bool, List, [], ◌∷◌, ◌++◌, length, map, if◌then◌else◌, Option, Some, Result, Ok, Err}
use Rattle.yaml_lines.specs.LineParts.{Name}
use Rattle.yaml_lines.specs.declared.kind.PartKind.{PartKind}
use Rattle.yaml_subset.specs.declared.error.YamlErr.{YamlErr}
use Rattle.yaml_subset.specs.declared.error.YamlErr.TheVariants.{Tab, Indent, LeftOut, Repeated, Scalar, NotUtf8, NoMemory}
use Rattle.yaml_subset.specs.Refusal.{is_repeated, name_is_taken, repeats}
use Rattle.yaml_subset.specs.Names.{has_name}
use Rattle.yaml_subset.specs.declared.node.Node.{Node}
use Rattle.yaml_subset.specs.declared.open.Open.{Open}
use Rattle.yaml_subset.specs.declared.open.Tip.{Tip}
use Rattle.yaml_subset.specs.declared.open.Tip.TheVariants as tips
use Rattle.yaml_subset.specs.declared.reader.Reader.{Reader}
use Rattle.yaml_subset.specs.Tree.{What, absent, leaf, rows, Entry, entries, row_entries}
use Rattle.yaml_subset.specs.Front.{Frame, Front}

abbrev pub node_shown : Node → Entry
node_shown node = record { depth = node.depth; line = node.line; kind = node.kind; name = node.name.items; text = node.text.items }

-- all rows that have begun, of which the last has this
unfoldable pub entries_open : List Frame → What → List Entry
entries_open [] what = []
entries_open (f ∷ outer) what = entries_open outer (rows f.holder f.column) ++ (entries (length outer) f.before ++ row_entries (length outer) f.line f.name what)

abbrev pub opened : Frame → Open
opened f = record { holder = f.holder; column = f.column }

-- the parts that are open, the outermost first
unfoldable pub openings : List Frame → List Open
openings [] = []
openings (f ∷ outer) = openings outer ++ opened f ∷ []

-- the names of rows that are open
abbrev pub AreNamesOf : Frame → List (List ℕ) → Type 0
AreNamesOf f names = (name : List ℕ) → has_name names name ≡ (bytes_eq name f.name || name_is_taken f.before name)

-- those of all parts that are open, of the outermost first
unfoldable pub AreNames : List Frame → List (List (List ℕ)) → Type 0
AreNames [] all = all ≡ []
AreNames (f ∷ outer) all = (others : List (List (List ℕ))) × (own : List (List ℕ)) × (all ≡ others ++ own ∷ []) × AreNamesOf f own × AreNames outer others

-- a part was opened, whose first row has the name
pub record OpensNames (old new : List (List (List ℕ))) (name : List ℕ) : Type 0 where
  pub own : List (List ℕ)
  pub is : new ≡ old ++ own ∷ []
  pub has : (other : List ℕ) → has_name own other ≡ bytes_eq other name

-- the last one got a row of this name
pub record AddsName (outer : List (List (List ℕ))) (last : List (List ℕ)) (new : List (List (List ℕ))) (name : List ℕ) (was_there : Bool) : Type 0 where
  pub own : List (List ℕ)
  pub is : new ≡ outer ++ own ∷ []
  pub has : (other : List ℕ) → has_name own other ≡ (bytes_eq other name || has_name last other)
  pub told : was_there ≡ has_name last name

abbrev pub tip_of : What → Tip
tip_of absent = tips.Absent
tip_of (leaf line column value) = if value.plain then tips.Plain else tips.Other
tip_of (rows holder column) = tips.Other

-- the reader stands at this front
pub record Stands (reader : Reader) (front : Front) : Type 0 where
  pub nodes : map node_shown reader.nodes.items ≡ entries_open front.frames front.tip
  pub openings_are : reader.opened.items ≡ openings front.frames
  pub names_are : AreNames front.frames reader.names.items
  pub tip : reader.tip ≡ tip_of front.tip

-- entries of which the last one has this kind and text
abbrev pub with_kind : PartKind → List ℕ → Entry → Entry
with_kind kind text e = record { depth = e.depth; line = e.line; kind = kind; name = e.name; text = text }

unfoldable pub last_with : PartKind → List ℕ → List Entry → List Entry
last_with kind text [] = []
last_with kind text (e ∷ []) = with_kind kind text e ∷ []
last_with kind text (e ∷ f ∷ es) = e ∷ last_with kind text (f ∷ es)

-- an error is that of the definition, or want of memory
abbrev pub IsCause : YamlErr → Result Front YamlErr → Type 0
IsCause NoMemory r = Unit {0}
IsCause (Tab line) r = r ≡ Err (Tab line)
IsCause (Indent line) r = r ≡ Err (Indent line)
IsCause (LeftOut line what) r = r ≡ Err (LeftOut line what)
IsCause (Repeated line) r = r ≡ Err (Repeated line)
IsCause (Scalar line) r = r ≡ Err (Scalar line)
IsCause (NotUtf8 at) r = r ≡ Err (NotUtf8 at)

-- the reader stands where the definition leads
pub record StandsAfter (reader : Reader) (r : Result Front YamlErr) : Type 0 where
  pub next : Front
  pub is : r ≡ Ok next
  pub stands : Stands reader next

abbrev pub Placed : Reader → Result (Unit {0}) YamlErr → Result Front YamlErr → Type 0
Placed reader (Ok done) r = StandsAfter reader r
Placed reader (Err error) r = IsCause error r

-- and tells whether the name of the last row is taken
pub record LedAfter (reader : Reader) (repeated : Bool) (r : Result Front YamlErr) : Type 0 where
  pub next : Front
  pub is : r ≡ Ok next
  pub stands : Stands reader next
  pub tells : repeated ≡ is_repeated next.frames

abbrev pub Led : Reader → Result Bool YamlErr → Result Front YamlErr → Type 0
Led reader (Ok repeated) r = LedAfter reader repeated r
Led reader (Err error) r = IsCause error r

-- the rows of a kind in a column have taken one more
pub record Turned (reader : Reader) (repeated : Bool) (turned_to : Option (List Frame)) : Type 0 where
  pub next : List Frame
  pub is : turned_to ≡ Some next
  pub stands : Stands reader (record { frames = next; tip = absent })
  pub tells : repeated ≡ is_repeated next

-- the reader stands where a line's parts lead, and tells whether the line's name is taken
pub record ToldAfter (reader : Reader) (repeated : Bool) (name : Option Name) (r : Result Front YamlErr) : Type 0 where
  pub next : Front
  pub is : r ≡ Ok next
  pub stands : Stands reader next
  pub tells : repeated ≡ repeats name next.frames

abbrev pub Told : Reader → Result Bool YamlErr → Option Name → Result Front YamlErr → Type 0
Told reader (Ok repeated) name r = ToldAfter reader repeated name r
Told reader (Err error) name r = IsCause error r

-- the last tests of a line say this
abbrev pub IsCheck : Result (Unit {0}) YamlErr → Result Front YamlErr → Front → Type 0
IsCheck (Ok done) r front = r ≡ Ok front
IsCheck (Err error) r front = IsCause error r
