-- What passing over the bytes of one word comes to.
use Rattle.std.specs.Prelude.{◌≡◌, ◌⊎◌, ℕ, suc, ◌<◌, ◌≤◌, true, false, List, length, slice_index, take, Some, None}
use Rattle.std.specs.Str.{IsUtf8}
use Rattle.json_lexemes.specs.declared.kind.Kind.{Kind}
use Rattle.json_lexemes.specs.declared.lexeme.Lexeme.{Lexeme}
use Rattle.json_lexemes.specs.Lexeme.{next, ends}
use Rattle.json_lexemes.specs.Surrogates.{is_lone_in}

-- the bytes from place i up to place j lead from one state of a word to another, past no lone surrogate
pub data Passes (bytes : List ℕ) (i : ℕ) (first : Lexeme) : ℕ → Lexeme → Type 0 where
  stay : Passes bytes i first i first
  go : {j : ℕ} {word after : Lexeme} → Passes bytes i first j word → j < length bytes → is_lone_in word bytes j ≡ false → next word (slice_index bytes j) ≡ Some after → Passes bytes i first (suc j) after

-- the word can't go on at place j
abbrev pub IsOver : List ℕ → ℕ → Lexeme → Type 0
IsOver bytes j word = (j < length bytes → next word (slice_index bytes j) ≡ None)

-- the word ends before place j, and means `kind`
pub record EndsAt (bytes : List ℕ) (i : ℕ) (first : Lexeme) (j : ℕ) (kind : Kind) : Type 0 where
  pub word : Lexeme
  pub passes : Passes bytes i first j word
  pub ends_there : ends word ≡ Some kind
  pub over : IsOver bytes j word

-- at place j the word breaks off, or is followed by a lone surrogate
pub record BreaksAt (bytes : List ℕ) (i : ℕ) (first : Lexeme) (j : ℕ) : Type 0 where
  pub word : Lexeme
  pub passes : Passes bytes i first j word
  pub why : (is_lone_in word bytes j ≡ true) ⊎ ((ends word ≡ None) × IsOver bytes j word)

-- the bytes before place `text` are UTF-8
pub record IsTextUpTo (bytes : List ℕ) (text : ℕ) : Type 0 where
  pub within : text ≤ length bytes
  pub utf8 : IsUtf8 (take text bytes)
