-- The grammar of JSON (RFC 8259, sections 2 to 5). Blanks may stand before and after each value and each of `[`, `]`,
-- `{`, `}`, `:` and `,`.
use Rattle.std.specs.Prelude.{◌≡◌, ℕ, suc, Bool, true, false, ◌||◌, ◌==◌, if◌then◌else◌, List, [], ◌∷◌, length, Option, Some, None}
use Rattle.json_lexemes.specs.declared.kind.Kind.{Kind}
use Rattle.json_lexemes.specs.declared.kind.Kind.TheVariants as kinds
use Rattle.json_text.specs.declared.spot.Span.{Span}
use Rattle.json_text.specs.declared.part.Bracket.{Bracket}
use Rattle.json_text.specs.declared.part.Bracket.TheVariants.{List as list, Map as map}
use Rattle.json_text.specs.declared.part.Part.{Part}
use Rattle.json_text.specs.declared.part.Part.TheVariants.{Start as start, Next as next, Named as named, Member as member, Rest as rest}
use Rattle.json_text.specs.Forest.{Forest, empty, grows}
use Rattle.json_lexemes.specs.declared.lexeme.Lexeme.{Lexeme}
use Rattle.json_lexemes.specs.declared.lexeme.Lexeme.TheVariants.{Plain as plain}
use Rattle.json_lexemes.specs.Lexeme.{Spells, begins}

-- the value that it is
abbrev pub bracket_kind : Bracket → Kind
bracket_kind list = kinds.List
bracket_kind map = kinds.Map

-- space, tab, line feed and carriage return
abbrev pub is_blank : ℕ → Bool
is_blank byte = byte == 32 || byte == 9 || byte == 10 || byte == 13

-- the bracket that a byte opens
abbrev pub opens : ℕ → Option Bracket
opens byte = if byte == 91 then Some list else if byte == 123 then Some map else None

-- whether a byte closes the list or the map that a reader stands in: none is closed behind a comma or a name
unfoldable pub closes : Option Bracket → Part → ℕ → Bool
closes None part byte = false
closes (Some list) start byte = byte == 93
closes (Some list) rest byte = byte == 93
closes (Some list) next byte = false
closes (Some list) (named name) byte = false
closes (Some list) (member name) byte = false
closes (Some map) start byte = byte == 125
closes (Some map) rest byte = byte == 125
closes (Some map) next byte = false
closes (Some map) (named name) byte = false
closes (Some map) (member name) byte = false

abbrev pub on_byte : ℕ → ℕ → Part → Option Part
on_byte wanted byte part = if byte == wanted then Some part else None

-- commas stand after values, and colons after names
unfoldable pub turns : Option Bracket → Part → ℕ → Option Part
turns None part byte = None
turns (Some list) rest byte = on_byte 44 byte next
turns (Some list) start byte = None
turns (Some list) next byte = None
turns (Some list) (named name) byte = None
turns (Some list) (member name) byte = None
turns (Some map) rest byte = on_byte 44 byte next
turns (Some map) (named name) byte = on_byte 58 byte (member name)
turns (Some map) start byte = None
turns (Some map) next byte = None
turns (Some map) (member name) byte = None

-- where a value may stand, with its name
unfoldable pub takes_value : Option Bracket → Part → Option (Option Span)
takes_value (Some map) (member name) = Some (Some name)
takes_value (Some map) (named name) = None
takes_value (Some map) start = None
takes_value (Some map) next = None
takes_value level rest = None
takes_value level part = Some None

-- where a name may stand
unfoldable pub takes_name : Option Bracket → Part → Bool
takes_name (Some map) start = true
takes_name (Some map) next = true
takes_name level part = false

-- Of the bytes s that stand at place i, those up to place j, where t stands, are what is still to come of the list, the
-- map or the text from this part on; `values` are the values among them.
pub data Completes : Option Bracket → Part → ℕ → List ℕ → ℕ → List ℕ → Forest → Type 0 where
  blank : {level : Option Bracket} {part : Part} {byte i j : ℕ} {s t : List ℕ} {values : Forest} → is_blank byte ≡ true → Completes level part (suc i) s j t values → Completes level part i (byte ∷ s) j t values
  -- a number, a string or a literal
  word : {level : Option Bracket} {part : Part} {name : Option Span} {kind : Kind} {first : Lexeme} {byte i j k : ℕ} {s t u : List ℕ} {values : Forest} → takes_value level part ≡ Some name → begins byte ≡ Some first → Spells first (suc i) s j t kind → Completes level rest j t k u values → Completes level part i (byte ∷ s) k u (grows (record { kind = kind; span = record { start = i; end = j }; name = name }) empty values)
  -- a list or a map
  nested : {level : Option Bracket} {part : Part} {name : Option Span} {bracket : Bracket} {byte i j k : ℕ} {s t u : List ℕ} {children values : Forest} → takes_value level part ≡ Some name → opens byte ≡ Some bracket → Completes (Some bracket) start (suc i) s j t children → Completes level rest j t k u values → Completes level part i (byte ∷ s) k u (grows (record { kind = bracket_kind bracket; span = record { start = i; end = j }; name = name }) children values)
  -- the name of a member
  member_name : {level : Option Bracket} {part : Part} {byte i j k : ℕ} {s t u : List ℕ} {values : Forest} → takes_name level part ≡ true → byte ≡ 34 → Spells (plain false) (suc i) s j t kinds.Text → Completes level (named (record { start = i; end = j })) j t k u values → Completes level part i (byte ∷ s) k u values
  -- a comma or a colon
  turn : {level : Option Bracket} {part after : Part} {byte i j : ℕ} {s t : List ℕ} {values : Forest} → turns level part byte ≡ Some after → Completes level after (suc i) s j t values → Completes level part i (byte ∷ s) j t values
  -- the end of a list or a map
  close : {level : Option Bracket} {part : Part} {byte i : ℕ} {s : List ℕ} → closes level part byte ≡ true → Completes level part i (byte ∷ s) (suc i) s empty
  -- the end of the text
  finish : {level : Option Bracket} {i : ℕ} → level ≡ None → Completes level rest i [] i [] empty

-- the bytes are a JSON text, and these are its values: one, and all that it holds
abbrev pub IsText : List ℕ → Forest → Type 0
IsText bytes values = Completes None start 0 bytes (length bytes) [] values
