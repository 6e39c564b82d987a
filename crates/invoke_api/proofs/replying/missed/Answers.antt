use Rattle.std.proofs.Common.{◌≡◌, sym, subst}
use Rattle.std.specs.Prelude.{IfOk}
use Rattle.invoke_api.specs.Invoking.{missed}
use Rattle.invoke_api.proofs.replying.missed.Goals as goal

pub returns-in-Failed : goal.returns-in-Failed
returns-in-Failed c = subst (λ m. IfOk c.not_invoked.result (λ response. response ≡ missed m)) (sym c.in-Failed.is) c.not_invoked.ensures

pub returns-in-Expired : goal.returns-in-Expired
returns-in-Expired c = subst (λ m. IfOk c.not_invoked-in-Expired.result (λ response. response ≡ missed m)) (sym c.in-Expired.is) c.not_invoked-in-Expired.ensures
