use Rattle.std.proofs.Common.{sym, subst}
use Rattle.bind_api.specs.Malformed.{malformed}
use Rattle.bind_api.specs.Binding.{UnaskedReplies}
use Rattle.bind_api.proofs.invoking.unasked.Goals as goal

pub returns-in-Malformed : goal.returns-in-Malformed
returns-in-Malformed c = subst (λ e. UnaskedReplies e c.given.result) (sym c.in-Malformed.is) (c.given.ensures (malformed c.in-Malformed.what) c.malformed_response.ensures)
