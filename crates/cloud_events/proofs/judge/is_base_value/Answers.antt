use Rattle.std.proofs.Common.{◌≡◌, List, ℕ, true, sym, subst}
use Rattle.std.specs.Prelude.{◌↔◌}
use Rattle.std.proofs.lemmas.Result.{IfOk-weaker}
use Rattle.cloud_events.specs.declared.item.Value.{Value}
use Rattle.cloud_events.specs.Base.{IsBase64}
use Rattle.cloud_events.specs.Judge.{IsBaseValue}
use Rattle.cloud_events.proofs.judge.is_base_value.Goals as goal

pub returns-in-Text : goal.returns-in-Text
returns-in-Text c =
    IfOk-weaker c.is_base64.result _ _ (λ is h. subst (λ (v : Value). (is ≡ true) ↔ IsBaseValue v) (sym c.in-Text.is) (subst (λ (b : List ℕ). (is ≡ true) ↔ IsBase64 b) c.bytes.ensures.value h)) c.is_base64.ensures
