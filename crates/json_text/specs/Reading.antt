-- How a reader's own lists stand to what it has seen.
use Rattle.std.specs.Prelude.{◌≡◌, ℕ, suc, ◌+◌, ◌<◌, ◌≤◌, List, [], ◌∷◌, ◌++◌, length, take, slice_index, Option, Some, None, ⊤}
use Rattle.json_lexemes.specs.declared.kind.Kind.{Kind}
use Rattle.json_lexemes.specs.declared.kind.Kind.TheVariants as kinds
use Rattle.json_text.specs.declared.spot.Span.{Span}
use Rattle.json_text.specs.declared.spot.Entry.{Entry}
use Rattle.json_text.specs.declared.part.Bracket.{Bracket}
use Rattle.json_text.specs.declared.part.Part.{Part}
use Rattle.json_text.specs.declared.part.Part.TheVariants.{Named as named, Rest as rest}
use Rattle.json_text.specs.declared.part.Opening.{Opening}
use Rattle.json_lexemes.specs.declared.lexeme.Lexeme.{Lexeme}
use Rattle.json_text.specs.Forest.{Forest, empty, grows, one, append, count}
use Rattle.json_lexemes.specs.Lexeme.{ends}
use Rattle.json_text.specs.Grammar.{bracket_kind, IsText}
use Rattle.json_text.specs.Progress.{Frame, part, value, naming, State, refused, reading, spot, step, part_step, after}
use Rattle.json_text.specs.Faults.{IsClean, IsFirstBad, IsFirstDeep, max_depth}
use Rattle.json_text.specs.declared.error.JsonErr.{JsonErr}
use Rattle.json_text.specs.declared.error.JsonErr.TheVariants.{Bad, Deep, NoMemory}

-- values as they are kept, each before what it holds
unfoldable pub entries : ℕ → Forest → List Entry
entries depth empty = []
entries depth (grows s children later) =
    record { spot = s; depth = depth; size = 1 + count children } ∷ (entries (suc depth) children ++ entries depth later)

-- a list or a map that is open, which has no end yet
abbrev pub opened : Frame → ℕ → Entry
opened frame depth = record { spot = spot (bracket_kind frame.bracket) frame.place frame.place frame.name; depth = depth; size = 0 }

-- all values that have begun
unfoldable pub open_entries : List Frame → Forest → List Entry
open_entries [] values = entries 0 values
open_entries (frame ∷ outer) values = open_entries outer frame.outer ++ (opened frame (length outer) ∷ entries (suc (length outer)) values)

unfoldable pub openings : List Frame → List Opening
openings [] = []
openings (frame ∷ outer) = openings outer ++ record { bracket = frame.bracket; node = length (open_entries outer frame.outer) } ∷ []

-- the bracket of the last one
abbrev pub innermost : List Opening → Option Bracket
innermost [] = None
innermost (opening ∷ []) = Some opening.bracket
innermost (opening ∷ other ∷ others) = innermost (other ∷ others)

abbrev pub settled_value : ℕ → Forest → List Frame → Lexeme → ℕ → Option Span → Option Kind → State
settled_value i values frames word from name None = reading values frames (value word from name)
settled_value i values frames word from name (Some kind) = reading (append values (one (spot kind from i name) empty)) frames (part rest)

abbrev pub settled_name : ℕ → Forest → List Frame → Lexeme → ℕ → Option Kind → State
settled_name i values frames word from (Some kinds.Text) = reading values frames (part (named (record { start = from; end = i })))
settled_name i values frames word from other = reading values frames (naming word from)

-- a word that may end at place i has ended
abbrev pub settled : ℕ → State → State
settled i refused = refused
settled i (reading values frames (part here)) = reading values frames (part here)
settled i (reading values frames (value word from name)) = settled_value i values frames word from name (ends word)
settled i (reading values frames (naming word from)) = settled_name i values frames word from (ends word)

-- the bytes before the place lead between two words, and nothing is wrong before it
pub record Stands (bytes : List ℕ) (at : ℕ) (here : Part) (values : Forest) (frames : List Frame) : Type 0 where
  pub inside : at ≤ length bytes
  pub state : settled at (after (take at bytes)) ≡ reading values frames (part here)
  pub goes : at < length bytes → step at (after (take at bytes)) (slice_index bytes at) ≡ part_step at values frames here (slice_index bytes at)
  pub clean : IsClean bytes at

-- and these are the values that have begun, and the lists and maps that are open
pub record Reads (bytes : List ℕ) (at : ℕ) (here : Part) (nodes : List Entry) (open_ones : List Opening) : Type 0 where
  pub values : Forest
  pub frames : List Frame
  pub stands : Stands bytes at here values frames
  pub nodes_are : nodes ≡ open_entries frames values
  pub open_are : open_ones ≡ openings frames
  pub shallow : length frames ≤ max_depth

-- a fault is the first one
abbrev pub IsCause : List ℕ → JsonErr → Type 0
IsCause bytes (Bad at) = IsFirstBad bytes at
IsCause bytes (Deep at) = IsFirstDeep bytes at
IsCause bytes NoMemory = ⊤

-- these are all the values of a text in which nothing is wrong
pub record Holds (bytes : List ℕ) (nodes : List Entry) : Type 0 where
  pub values : Forest
  pub text : IsText bytes values
  pub nodes_are : nodes ≡ entries 0 values
  pub clean : IsClean bytes (length bytes + 1)
