-- Values of fields as texts.
use Rattle.std.proofs.Common.{◌≡◌, ◌≢◌, ◌∙◌, ap, sym, refl, cond, ℕ, Bool, true, false, List, Some, None}
use Rattle.std.specs.Str.{IsUtf8, is_utf8}
use Rattle.std.proofs.lemmas.Str.{IsUtf8-from_is_utf8, is_utf8-from_IsUtf8}
use Rattle.side_base.specs.Text.{IsNotUtf8At}
use Rattle.pubsub_api.specs.Publishing.{as_text}

not_true : (b : Bool) → b ≢ true → b ≡ false
not_true true no_true = absurd (no_true refl)
not_true false no_true = refl

pub a_text : (bytes text : List ℕ) → text ≡ bytes → IsUtf8 bytes → Some text ≡ as_text (Some bytes)
a_text bytes text same utf8 = ap Some same ∙ ap (λ b. cond b (Some bytes) None) (sym (is_utf8-from_IsUtf8 bytes utf8))

pub no_text : (bytes : List ℕ) (at : ℕ) → IsNotUtf8At bytes at → None ≡ as_text (Some bytes)
no_text bytes at bad = ap (λ b. cond b (Some bytes) None) (sym (not_true (is_utf8 bytes) (λ valid. bad.0 (IsUtf8-from_is_utf8 bytes valid))))
