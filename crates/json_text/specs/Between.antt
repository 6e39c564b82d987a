-- What a reader knows of the byte where it stands.
use Rattle.std.specs.Prelude.{◌≡◌, ℕ, ◌<◌, false, List, length, slice_index, Option}
use Rattle.json_text.specs.declared.part.Bracket.{Bracket}
use Rattle.json_text.specs.declared.part.Opening.{Opening}
use Rattle.json_text.specs.Grammar.{is_blank}
use Rattle.json_text.specs.Reading.{innermost}

-- it is there, and no blank; `level` is the innermost list or map
pub record Between (bytes : List ℕ) (at : ℕ) (level : Option Bracket) (open_ones : List Opening) : Type 0 where
  pub inside : at < length bytes
  pub level_is : level ≡ innermost open_ones
  pub not_blank : is_blank (slice_index bytes at) ≡ false
