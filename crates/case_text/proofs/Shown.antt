-- What is shown of bytes.
use Rattle.std.proofs.Common.{◌≡◌, ◌∙◌, ℕ, Bool, true, false, if◌then◌else◌, List, refl, sym, ap}
use Rattle.std.specs.Prelude.{codes}
use Rattle.std.specs.Str.{IsUtf8, is_utf8}
use Rattle.std.proofs.lemmas.Str.{IsUtf8-from_is_utf8, is_utf8-from_IsUtf8}
use Rattle.case_text.specs.Lines.{shown}

pub a_text : (text bytes : List ℕ) → text ≡ bytes → IsUtf8 bytes → text ≡ shown bytes
a_text text bytes is utf8 = is ∙ sym (ap (λ (b : Bool). if b then bytes else codes "no text") (is_utf8-from_IsUtf8 bytes utf8))

unless : (bytes : List ℕ) (is : Bool) → (is ≡ true → IsUtf8 bytes) → ¬ (IsUtf8 bytes) → codes "no text" ≡ (if is then bytes else codes "no text")
unless bytes true utf8 none = absurd (none (utf8 refl))
unless bytes false utf8 none = refl

pub no_text : (bytes : List ℕ) → ¬ (IsUtf8 bytes) → codes "no text" ≡ shown bytes
no_text bytes none = unless bytes (is_utf8 bytes) (IsUtf8-from_is_utf8 bytes) none
