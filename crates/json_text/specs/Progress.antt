-- How far a reader has come once it has seen some bytes: a fold over them, one byte at a time.
use Rattle.std.specs.Prelude.{ℕ, suc, false, ◌&&◌, ◌==◌, if◌then◌else◌, List, [], ◌∷◌, Option, Some, None}
use Rattle.json_lexemes.specs.declared.kind.Kind.{Kind}
use Rattle.json_lexemes.specs.declared.kind.Kind.TheVariants as kinds
use Rattle.json_text.specs.declared.spot.Span.{Span}
use Rattle.json_text.specs.declared.spot.Spot.{Spot}
use Rattle.json_text.specs.Forest.{Forest, empty, one, append}
use Rattle.json_lexemes.specs.declared.lexeme.Lexeme.{Lexeme}
use Rattle.json_lexemes.specs.declared.lexeme.Lexeme.TheVariants.{Plain as plain}
use Rattle.json_lexemes.specs.Lexeme.{next, begins, ends}
use Rattle.json_text.specs.declared.part.Bracket.{Bracket}
use Rattle.json_text.specs.declared.part.Part.{Part}
use Rattle.json_text.specs.declared.part.Part.TheVariants.{Start as start, Named as named, Rest as rest}
use Rattle.json_text.specs.Grammar.{bracket_kind, is_blank, opens, closes, turns, takes_value, takes_name}

-- a list or a map that is open: what stood before it where it stands, its bracket, its place and its name
pub record Frame : Type 0 where
  pub outer : Forest
  pub bracket : Bracket
  pub place : ℕ
  pub name : Option Span

-- between two words, or within one that began at a place: a value with its name, or a name
pub data Doing : Type 0 where
  part : Part → Doing
  value : Lexeme → ℕ → Option Span → Doing
  naming : Lexeme → ℕ → Doing

-- refused, or reading on: the values so far of the innermost open list or map, and what is open, innermost first
pub data State : Type 0 where
  refused : State
  reading : Forest → List Frame → Doing → State

abbrev pub level_of : List Frame → Option Bracket
level_of [] = None
level_of (frame ∷ outer) = Some frame.bracket

abbrev pub spot : Kind → ℕ → ℕ → Option Span → Spot
spot kind from to name = record { kind = kind; span = record { start = from; end = to }; name = name }

-- the row in which the list or map stands, with it at its end
abbrev pub closed_in : Frame → Forest → ℕ → Forest
closed_in frame values end = append frame.outer (one (spot (bracket_kind frame.bracket) frame.place end frame.name) values)

abbrev pub close_step : ℕ → Forest → List Frame → State
close_step i values [] = refused
close_step i values (frame ∷ outer) = reading (closed_in frame values (suc i)) outer (part rest)

abbrev pub word_step : ℕ → Forest → List Frame → Option Span → Option Lexeme → State
word_step i values frames name None = refused
word_step i values frames name (Some first) = reading values frames (value first i name)

abbrev pub value_step : ℕ → Forest → List Frame → Option Span → ℕ → Option Bracket → State
value_step i values frames name byte None = word_step i values frames name (begins byte)
value_step i values frames name byte (Some bracket) = reading empty (record { outer = values; bracket = bracket; place = i; name = name } ∷ frames) (part start)

abbrev pub other_step : ℕ → Forest → List Frame → Part → ℕ → Option (Option Span) → State
other_step i values frames here byte (Some name) = value_step i values frames name byte (opens byte)
other_step i values frames here byte None = if takes_name (level_of frames) here && byte == 34 then reading values frames (naming (plain false) i) else refused

abbrev pub turn_step : ℕ → Forest → List Frame → Part → ℕ → Option Part → State
turn_step i values frames here byte (Some there) = reading values frames (part there)
turn_step i values frames here byte None = other_step i values frames here byte (takes_value (level_of frames) here)

-- a byte at place i, between two words
unfoldable pub part_step : ℕ → Forest → List Frame → Part → ℕ → State
part_step i values frames here byte =
    if is_blank byte then reading values frames (part here)
    else if closes (level_of frames) here byte then close_step i values frames
    else turn_step i values frames here byte (turns (level_of frames) here byte)

abbrev pub value_end : ℕ → Forest → List Frame → ℕ → Option Span → ℕ → Option Kind → State
value_end i values frames from name byte None = refused
value_end i values frames from name byte (Some kind) = part_step i (append values (one (spot kind from i name) empty)) frames rest byte

abbrev pub name_end : ℕ → Forest → List Frame → ℕ → ℕ → Option Kind → State
name_end i values frames from byte (Some kinds.Text) = part_step i values frames (named (record { start = from; end = i })) byte
name_end i values frames from byte other = refused

abbrev pub value_goes : ℕ → Forest → List Frame → Lexeme → ℕ → Option Span → ℕ → Option Lexeme → State
value_goes i values frames word from name byte (Some after) = reading values frames (value after from name)
value_goes i values frames word from name byte None = value_end i values frames from name byte (ends word)

abbrev pub name_goes : ℕ → Forest → List Frame → Lexeme → ℕ → ℕ → Option Lexeme → State
name_goes i values frames word from byte (Some after) = reading values frames (naming after from)
name_goes i values frames word from byte None = name_end i values frames from byte (ends word)

-- a word goes on as long as it can
abbrev pub doing_step : ℕ → Forest → List Frame → Doing → ℕ → State
doing_step i values frames (part here) byte = part_step i values frames here byte
doing_step i values frames (value word from name) byte = value_goes i values frames word from name byte (next word byte)
doing_step i values frames (naming word from) byte = name_goes i values frames word from byte (next word byte)

-- a byte at place i
abbrev pub step : ℕ → State → ℕ → State
step i refused byte = refused
step i (reading values frames doing) byte = doing_step i values frames doing byte

unfoldable pub after_from : ℕ → State → List ℕ → State
after_from i state [] = state
after_from i state (byte ∷ bytes) = after_from (suc i) (step i state byte) bytes

abbrev pub first_state : State
first_state = reading empty [] (part start)

-- where a reader stands after these bytes of a text
abbrev pub after : List ℕ → State
after bytes = after_from 0 first_state bytes
