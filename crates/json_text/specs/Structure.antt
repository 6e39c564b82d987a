-- The structure of a JSON text as RFC 8259 gives it by its productions (sections 2, 3, 4 and 5), with the values that it has.
-- Each production is told of bytes s that stand at place i: those up to place j, where t stands, are what it produces.
use Rattle.std.specs.Prelude.{◌≡◌, ℕ, suc, true, List, [], ◌∷◌, length, Option, Some, None}
use Rattle.json_lexemes.specs.declared.kind.Kind.{Kind}
use Rattle.json_lexemes.specs.declared.kind.Kind.TheVariants as kinds
use Rattle.json_text.specs.declared.spot.Span.{Span}
use Rattle.json_text.specs.Forest.{Forest, empty, one, append}
use Rattle.json_text.specs.Grammar.{is_blank}
use Rattle.json_text.specs.Progress.{spot}
use Rattle.json_lexemes.specs.Words.{HasProduced}

-- ws = *( %x20 / %x09 / %x0A / %x0D )
pub data Blanks : ℕ → List ℕ → ℕ → List ℕ → Type 0 where
  no_blank : {i : ℕ} {s : List ℕ} → Blanks i s i s
  one_blank : {byte i j : ℕ} {s t : List ℕ} → is_blank byte ≡ true → Blanks (suc i) s j t → Blanks i (byte ∷ s) j t

-- a structural character, ws before it and ws behind it; the character itself stands at place `at`
pub record Structural (byte i : ℕ) (s : List ℕ) (at j : ℕ) (t : List ℕ) : Type 0 where
  pub behind : List ℕ
  pub before : Blanks i s at (byte ∷ behind)
  pub after : Blanks (suc at) behind j t

-- a value, which may have a name; value *( value-separator value ); and member *( value-separator member )
pub data Production : Type 0 where
  a_value : Option Span → Production
  items : Production
  members : Production

pub data Produces : Production → ℕ → List ℕ → ℕ → List ℕ → Forest → Type 0 where
  -- value = false / null / true / object / array / number / string
  a_word : {name : Option Span} {kind : Kind} {i j : ℕ} {s t : List ℕ} → HasProduced kind i s j t → Produces (a_value name) i s j t (one (spot kind i j name) empty)
  -- array = begin-array [ value *( value-separator value ) ] end-array
  empty_array : {name : Option Span} {i at k end j : ℕ} {s u t : List ℕ} → Structural 0x5b i s at k u → Structural 0x5d k u end j t → Produces (a_value name) i s j t (one (spot kinds.List at (suc end) name) empty)
  array : {name : Option Span} {i at k m end j : ℕ} {s u v t : List ℕ} {held : Forest} → Structural 0x5b i s at k u → Produces items k u m v held → Structural 0x5d m v end j t → Produces (a_value name) i s j t (one (spot kinds.List at (suc end) name) held)
  -- object = begin-object [ member *( value-separator member ) ] end-object
  empty_object : {name : Option Span} {i at k end j : ℕ} {s u t : List ℕ} → Structural 0x7b i s at k u → Structural 0x7d k u end j t → Produces (a_value name) i s j t (one (spot kinds.Map at (suc end) name) empty)
  object : {name : Option Span} {i at k m end j : ℕ} {s u v t : List ℕ} {held : Forest} → Structural 0x7b i s at k u → Produces members k u m v held → Structural 0x7d m v end j t → Produces (a_value name) i s j t (one (spot kinds.Map at (suc end) name) held)
  -- value *( value-separator value )
  last_item : {i j : ℕ} {s t : List ℕ} {values : Forest} → Produces (a_value None) i s j t values → Produces items i s j t values
  more_items : {i k at m j : ℕ} {s u v t : List ℕ} {first others : Forest} → Produces (a_value None) i s k u first → Structural 0x2c k u at m v → Produces items m v j t others → Produces items i s j t (append first others)
  -- member *( value-separator member ), where member = string name-separator value
  last_member : {i k at m j : ℕ} {s u v t : List ℕ} {values : Forest} → HasProduced kinds.Text i s k u → Structural 0x3a k u at m v → Produces (a_value (Some (record { start = i; end = k }))) m v j t values → Produces members i s j t values
  more_members : {i k at m n comma p j : ℕ} {s u v w x t : List ℕ} {first others : Forest} → HasProduced kinds.Text i s k u → Structural 0x3a k u at m v → Produces (a_value (Some (record { start = i; end = k }))) m v n w first → Structural 0x2c n w comma p x → Produces members p x j t others → Produces members i s j t (append first others)

-- JSON-text = ws value ws, and these are its values: one, and all that it holds
pub record IsJsonText (bytes : List ℕ) (values : Forest) : Type 0 where
  pub from : ℕ
  pub front : List ℕ
  pub to : ℕ
  pub back : List ℕ
  pub before : Blanks 0 bytes from front
  pub produced : Produces (a_value None) from front to back values
  pub after : Blanks to back (length bytes) []
