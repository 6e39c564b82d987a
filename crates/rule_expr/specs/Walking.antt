-- What reading a part of a rule comes to by the table: where it leads, or where it stops.
use Rattle.std.specs.Prelude.{◌≡◌, ◌≢◌, ◌+◌, ℕ, Bool, true, false, not, ◌&&◌, if◌then◌else◌, List, ◌∷◌, length, None, Err}
use Rattle.rule_value.specs.declared.part.Part.{Part}
use Rattle.rule_value.specs.declared.part.Part.TheVariants as parts
use Rattle.rule_value.specs.declared.part.Word.{Word}
use Rattle.rule_value.specs.declared.part.Word.TheVariants as words
use Rattle.rule_expr.specs.declared.stop.Stop.{Stop}
use Rattle.rule_expr.specs.declared.stop.Stop.TheVariants as stops
use Rattle.rule_expr.specs.Parts.{part_at, behind, quoted}
use Rattle.rule_expr.specs.Places.{Tail, Home, Place, Bracket, path_end, value_end, alone, asked, operand, after, open_round, in_list, state, stop, why_not, after_path, tail_next, test_next, both_next, either_next, round_row, list_row, is_open}
use Rattle.rule_expr.specs.Walks.{Goes, Comes}

-- whatever brackets are open, if `room` more may be, the table leads from the one place and text to the other
pub record Walks (room : ℕ) (from : Place) (text : List ℕ) (to : Place) (rest : List ℕ) : Type 0 where
  pub goes : (brackets : List Bracket) → length brackets + room ≡ 32 → Goes (state from brackets) text (state to brackets) rest

-- it comes to an end at which it has nothing for what stands next, unless memory ran out
pub record Halts (room : ℕ) (from : Place) (text : List ℕ) (why : Stop) : Type 0 where
  pub comes : why ≢ stops.NoMemory → (brackets : List Bracket) → length brackets + room ≡ 32 → Comes (state from brackets) text (stop why)

-- the same of an operand, behind which an operator may follow or not
pub record HaltsOperand (room : ℕ) (text : List ℕ) (why : Stop) : Type 0 where
  pub halts : (more : Bool) → Halts room (operand more) text why

-- the same in a list
pub record HaltsItems (room : ℕ) (text : List ℕ) (why : Stop) : Type 0 where
  pub comes : why ≢ stops.NoMemory → (outer : List Bracket) → length (in_list ∷ outer) + room ≡ 32 → Comes (state (operand true) (in_list ∷ outer)) text (stop why)

-- what an operand is behind which no list stands
abbrev pub tail_of : Bool → Tail
tail_of is_path = if is_path then path_end else value_end

abbrev pub is_call : Word → Bool
is_call (words.Call call) = true
is_call word = false

abbrev pub is_end : Part → Bool
is_end parts.End = true
is_end part = false

abbrev pub is_bang : Part → Bool
is_bang parts.Bang = true
is_bang part = false

abbrev pub is_close_round : Part → Bool
is_close_round parts.Close = true
is_close_round part = false

abbrev pub is_event : Part → Bool
is_event (parts.Named words.Event) = true
is_event part = false

abbrev pub is_named_call : Part → Bool
is_named_call (parts.Named word) = is_call word
is_named_call part = false

-- a call, by its name and the bracket behind it
abbrev pub is_called : List ℕ → Bool
is_called text = is_named_call (part_at text) && is_open (part_at (behind text))

-- a path goes on by a bracket, and by a dot behind which no call stands
abbrev pub path_next : Part → Bool → Bool
path_next parts.Dot calls = not calls
path_next parts.OpenList calls = true
path_next part calls = false

abbrev pub begins_call : Bool → List ℕ → Bool
begins_call in_has text = not in_has && is_called text

abbrev pub goes_on : Bool → List ℕ → Bool
goes_on in_has text = path_next (part_at text) (begins_call in_has (behind text))

abbrev pub home_of : Bool → Bool → Home
home_of in_has more = if in_has then asked else alone more

-- steps of a path
pub record WalksSteps (in_has : Bool) (text rest : List ℕ) : Type 0 where
  pub walks : (room : ℕ) (more : Bool) → Walks room (after_path (home_of in_has more)) text (after_path (home_of in_has more)) rest

-- they break off
pub record HaltsSteps (in_has : Bool) (text : List ℕ) (why : Stop) : Type 0 where
  pub halts : (room : ℕ) (more : Bool) → Halts room (after_path (home_of in_has more)) text why

-- the same of what follows a dot, or a bracket, of a path
pub record WalksHome (from : Home → Place) (in_has : Bool) (text rest : List ℕ) : Type 0 where
  pub walks : (room : ℕ) (more : Bool) → Walks room (from (home_of in_has more)) text (after_path (home_of in_has more)) rest

pub record HaltsHome (from : Home → Place) (in_has : Bool) (text : List ℕ) (why : Stop) : Type 0 where
  pub halts : (room : ℕ) (more : Bool) → Halts room (from (home_of in_has more)) text why

-- a text in quotes breaks off
pub record Breaks (text : List ℕ) (why : Stop) : Type 0 where
  pub place : List ℕ
  pub broken : why ≢ stops.NoMemory → quoted text ≡ Err place
  pub why_is : why ≢ stops.NoMemory → why ≡ stops.Bad (length place)

-- `!` before an operand
pub record WalksBangs (room : ℕ) (text rest : List ℕ) : Type 0 where
  pub walks : (more : Bool) → Walks room (operand more) text (operand more) rest

-- an atom, of which a path doesn't go on
pub record WalksAtom (room : ℕ) (text rest : List ℕ) : Type 0 where
  pub is_path : Bool
  pub walks : (more : Bool) → Walks room (operand more) text (after more (tail_of is_path)) rest
  pub over : is_path ≡ true → goes_on false rest ≡ false

-- an operand, which doesn't go on
pub record WalksOperand (room : ℕ) (text rest : List ℕ) : Type 0 where
  pub tail : Tail
  pub walks : (more : Bool) → Walks room (operand more) text (after more tail) rest
  pub over : (more : Bool) → tail_next more tail (part_at rest) ≡ None

-- the brackets of a call with what stands in them
pub record WalksRound (room : ℕ) (text rest : List ℕ) : Type 0 where
  pub walks : (more : Bool) → Walks room (open_round more) text (after more value_end) rest

pub record HaltsRound (room : ℕ) (text : List ℕ) (why : Stop) : Type 0 where
  pub halts : (more : Bool) → Halts room (open_round more) text why

-- the last operand doesn't go on, and no operator follows it
abbrev pub IsRelationOver : Bool → Tail → Part → Type 0
IsRelationOver more tail part = (tail_next more tail part ≡ None) × (test_next more part ≡ None)

abbrev pub IsAndOver : Bool → Tail → Part → Type 0
IsAndOver more tail part = IsRelationOver more tail part × (both_next part ≡ None)

abbrev pub IsOrOver : Bool → Tail → Part → Type 0
IsOrOver more tail part = IsAndOver more tail part × (either_next part ≡ None)

abbrev pub is_comma : Part → Bool
is_comma parts.Comma = true
is_comma part = false

abbrev pub IsItemsOver : Bool → Tail → Part → Type 0
IsItemsOver more tail part = IsOrOver more tail part × (is_comma part ≡ false)

-- operands with what joins them, where `over` holds of what stands next
pub record Went (over : Bool → Tail → Part → Type 0) (room : ℕ) (text rest : List ℕ) : Type 0 where
  pub more : Bool
  pub tail : Tail
  pub walks : Walks room (operand true) text (after more tail) rest
  pub over_is : over more tail (part_at rest)

pub record WentItems (over : Bool → Tail → Part → Type 0) (room : ℕ) (text rest : List ℕ) : Type 0 where
  pub more : Bool
  pub tail : Tail
  pub goes : (outer : List Bracket) → length (in_list ∷ outer) + room ≡ 32 → Goes (state (operand true) (in_list ∷ outer)) text (state (after more tail) (in_list ∷ outer)) rest
  pub over_is : over more tail (part_at rest)

-- a bracket that isn't there, or that would be one too many
pub record NoRound (room : ℕ) (text : List ℕ) (why : Stop) : Type 0 where
  pub row : (more : Bool) (inside : Place) (brackets : List Bracket) → length brackets + room ≡ 32 → round_row more inside (part_at text) brackets text ≡ stop why

pub record NoSquare (room : ℕ) (text : List ℕ) (why : Stop) : Type 0 where
  pub row : (brackets : List Bracket) → length brackets + room ≡ 32 → list_row (part_at text) brackets text ≡ stop why

-- a part that isn't there
pub record Lacks (is : Part → Bool) (named : Bool) (text : List ℕ) (why : Stop) : Type 0 where
  pub other : is (part_at text) ≡ false
  pub why_is : why ≡ why_not named (part_at text) (length text)
