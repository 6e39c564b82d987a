use Rattle.std.proofs.Common.{codes, sym, subst}
use Rattle.std.specs.Prelude.{Err}
use Rattle.actor_api.specs.Calling.{Replies, not_invoked}
use Rattle.actor_api.proofs.replying.missed.Goals as goal

pub returns-in-Failed : goal.returns-in-Failed
returns-in-Failed c = subst (λ e. Replies (Err e) c.given.result) (sym c.in-Failed.is) (c.given.ensures (not_invoked (codes "call failed")) c.not_invoked.ensures)

pub returns-in-Expired : goal.returns-in-Expired
returns-in-Expired c = subst (λ e. Replies (Err e) c.given-in-Expired.result) (sym c.in-Expired.is) (c.given-in-Expired.ensures (not_invoked (codes "call expired")) c.not_invoked-in-Expired.ensures)
