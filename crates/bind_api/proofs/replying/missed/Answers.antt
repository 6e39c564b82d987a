use Rattle.std.proofs.Common.{◌≡◌, sym, subst}
use Rattle.std.specs.Prelude.{IfOk}
use Rattle.bind_api.specs.Binding.{missed}
use Rattle.bind_api.proofs.replying.missed.Goals as goal

pub returns-in-Failed : goal.returns-in-Failed
returns-in-Failed c = subst (λ m. IfOk c.not_bound.result (λ response. response ≡ missed m)) (sym c.in-Failed.is) c.not_bound.ensures

pub returns-in-Expired : goal.returns-in-Expired
returns-in-Expired c = subst (λ m. IfOk c.not_bound-in-Expired.result (λ response. response ≡ missed m)) (sym c.in-Expired.is) c.not_bound-in-Expired.ensures
