-- What a text that has been read shows.
use Rattle.std.specs.Prelude.{◌≡◌, ℕ, ◌+◌, ◌<◌, List, [], ◌∷◌, ◌++◌, length, drop, slice_index_or, ⊤, ◌⊎◌, if◌then◌else◌, Option, Some, None, MatchOption}
use Rattle.json_text.specs.Unescape.{HasName}
use Rattle.json_text.specs.declared.spot.Spot.{Spot}
use Rattle.json_text.specs.declared.spot.Entry.{Entry}
use Rattle.json_text.specs.declared.doc.Doc.{Doc}
use Rattle.json_text.specs.declared.doc.Node.{Node}
use Rattle.json_text.specs.Forest.{Forest, empty, grows, count}
use Rattle.json_text.specs.Grammar.{IsText}
use Rattle.json_text.specs.Faults.{IsClean}
use Rattle.json_text.specs.Reading.{entries}
use Rattle.json_text.specs.Shape.{is_null}

-- the bytes that were read
abbrev pub bytes_read : Doc → List ℕ
bytes_read doc = doc.bytes.now

-- its values, each before what it holds
abbrev pub values_kept : Doc → List Entry
values_kept doc = doc.nodes.items

-- the document has this value
abbrev pub IsNode : Doc → Node → Type 0
IsNode doc node = node.number < length (values_kept doc)

-- the value that the text is
abbrev pub IsRoot : Node → Type 0
IsRoot node = node.number ≡ 0

-- the value of this number stands in so many lists and maps
pub record IsDepthAt (doc : Doc) (number depth : ℕ) : Type 0 where
  pub inside : number < length (values_kept doc)
  pub is : (entry : Entry) → depth ≡ (slice_index_or (values_kept doc) number entry).depth

abbrev pub Shallower : ℕ → List Entry → Type 0
Shallower depth [] = ⊤
Shallower depth (entry ∷ others) = entry.depth < depth

-- from number n on stand these values, and no more of their row
pub record StandAt (doc : Doc) (n : ℕ) (values : Forest) : Type 0 where
  pub depth : ℕ
  pub others : List Entry
  pub are : drop n (values_kept doc) ≡ entries depth values ++ others
  pub end : Shallower depth others

-- the node and these values, and no more of their row
abbrev pub StandsAt : Doc → Node → Forest → Type 0
StandsAt doc node values = StandAt doc node.number values

-- a value that comes later
abbrev pub IsAfter : Node → Node → Type 0
IsAfter earlier later = earlier.number < later.number

-- none of these values in a row is a member of the name
abbrev pub NoneNamed : List ℕ → List ℕ → Forest → Type 0
NoneNamed bytes name empty = ⊤
NoneNamed bytes name (grows spot children later) = (¬ HasName bytes spot name) × NoneNamed bytes name later

-- the last values of a row, from one of them on
abbrev pub IsTailOf : Forest → Forest → Type 0
IsTailOf tail empty = tail ≡ empty
IsTailOf tail (grows spot children later) = (tail ≡ grows spot children later) ⊎ IsTailOf tail later

-- the node is that of a member of the name, behind which no other has it
pub record IsLastMember (doc : Doc) (name : List ℕ) (values : Forest) (node : Node) : Type 0 where
  pub spot : Spot
  pub children : Forest
  pub later : Forest
  pub here : StandsAt doc node (grows spot children later)
  pub of_them : IsTailOf (grows spot children later) values
  pub named : HasName (bytes_read doc) spot name
  pub last : NoneNamed (bytes_read doc) name later

-- what a search for the last member of a name finds among the values of a map
abbrev pub IsLastNamed : Doc → List ℕ → Forest → Option Node → Type 0
IsLastNamed doc name values found = MatchOption found (NoneNamed (bytes_read doc) name values) (IsLastMember doc name values)

-- a fact of the first of some values, if there is one: of itself, of what it holds, and of the values after it
abbrev pub ForFirst : Forest → (Spot → Forest → Forest → Type 0) → Type 0
ForFirst empty fact = ⊤
ForFirst (grows spot children later) fact = fact spot children later

-- of a node
abbrev pub OfNode : Doc → Node → (Spot → Forest → Forest → Type 0) → Type 0
OfNode doc node fact = (values : Forest) → StandsAt doc node values → ForFirst values fact

-- the value that was found, unless it is null
abbrev pub IsUnlessNull : Doc → Option Node → Option Node → Type 0
IsUnlessNull doc None there = there ≡ None
IsUnlessNull doc (Some node) there = OfNode doc node (λ spot children later. there ≡ (if is_null spot.kind then None else Some node))

-- the last of these values that is a member of the name, unless it is null
abbrev pub IsLastThere : Doc → List ℕ → Forest → Option Node → Type 0
IsLastThere doc name values there = (found : Option Node) × IsLastNamed doc name values found × IsUnlessNull doc found there

-- the document shows all values of the text, which are those of one reading alone, and nothing was wrong with it
pub record Shows (doc : Doc) (bytes : List ℕ) : Type 0 where
  pub values : Forest
  pub text : IsText bytes values
  pub only : (others : Forest) → IsText bytes others → others ≡ values
  pub clean : IsClean bytes (length bytes + 1)
  pub from_root : (node : Node) → IsRoot node → StandsAt doc node values
  pub same : bytes_read doc ≡ bytes
  pub all : length (values_kept doc) ≡ count values
