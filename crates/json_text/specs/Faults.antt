-- Where a text goes wrong.
use Rattle.std.specs.Prelude.{◌≡◌, ℕ, suc, ◌<◌, Bool, true, List, ◌++◌, length, take, Option, Some, None}
use Rattle.json_lexemes.specs.declared.lexeme.Lexeme.{Lexeme}
use Rattle.json_lexemes.specs.declared.lexeme.Lexeme.TheVariants.{Plain as plain}
use Rattle.json_text.specs.Forest.{Forest}
unfoldable pub use Rattle.json_lexemes.specs.Surrogates.{is_numbered, unit_of}
pub use Rattle.json_lexemes.specs.Surrogates.{hex_at, is_high_escape, is_low_escape, is_lone, is_lone_in}
use Rattle.json_text.specs.Grammar.{IsText}
use Rattle.json_text.specs.Progress.{Doing, part, value, naming, State, refused, reading, after}

-- how deep lists and maps may stand within one another
abbrev pub max_depth : ℕ
max_depth = 64

-- the bytes begin some JSON text
abbrev pub IsFront : List ℕ → Type 0
IsFront bytes = (others : List ℕ) × (values : Forest) × IsText (bytes ++ others) values

-- how many lists and maps are open
abbrev pub open_count : State → ℕ
open_count refused = 0
open_count (reading values frames doing) = length frames

-- the word that a reader is within
abbrev pub word_in : Doing → Option Lexeme
word_in (part here) = None
word_in (value word from name) = Some word
word_in (naming word from) = Some word

abbrev pub word_of : State → Option Lexeme
word_of refused = None
word_of (reading values frames doing) = word_in doing

-- the escape of a lone surrogate begins at the place
abbrev pub IsLoneAt : List ℕ → ℕ → Type 0
IsLoneAt bytes at = (high : Bool) × (word_of (after (take at bytes)) ≡ Some (plain high)) × (is_lone high bytes at ≡ true)

-- why a place is bad
pub data IsBad : List ℕ → ℕ → Type 0 where
  -- no JSON text begins with the bytes before and at the place
  dead : {bytes : List ℕ} {at : ℕ} → at < length bytes → ¬ IsFront (take (suc at) bytes) → IsBad bytes at
  -- the bytes end there, and are no text
  short : {bytes : List ℕ} {at : ℕ} → at ≡ length bytes → ((values : Forest) → ¬ IsText bytes values) → IsBad bytes at
  lone : {bytes : List ℕ} {at : ℕ} → IsLoneAt bytes at → IsBad bytes at

-- one list or map more than may be open begins at the place
abbrev pub IsDeep : List ℕ → ℕ → Type 0
IsDeep bytes at = (open_count (after (take at bytes)) ≡ max_depth) × (open_count (after (take (suc at) bytes)) ≡ suc max_depth)

-- no place before `at` is bad or too deep
abbrev pub IsClean : List ℕ → ℕ → Type 0
IsClean bytes at = (k : ℕ) → k < at → ¬ IsBad bytes k × ¬ IsDeep bytes k

-- the first place of all that is bad, and of all that is too deep
pub record IsFirstBad (bytes : List ℕ) (at : ℕ) : Type 0 where
  pub bad : IsBad bytes at
  pub before : IsClean bytes at

pub record IsFirstDeep (bytes : List ℕ) (at : ℕ) : Type 0 where
  pub deep : IsDeep bytes at
  pub before : IsClean bytes at
