use Rattle.std.proofs.Common.{refl}
use Rattle.sidecar_turns.proofs.Samples.{earlier_told, first, not_quiet, second}
use Rattle.sidecar_turns.proofs.laws.ledgers_are_asked_in_order.Goals as goal

pub returns-clause-first : goal.returns-clause-first
returns-clause-first c setting settings did turn delivery busy = first 0 setting settings did turn delivery busy

pub returns-clause-second : goal.returns-clause-second
returns-clause-second c one two settings = second one two settings

pub returns-clause-earlier : goal.returns-clause-earlier
returns-clause-earlier c one two = earlier_told one two

pub returns-clause-nowhere : goal.returns-clause-nowhere
returns-clause-nowhere c inbound subs = (refl, refl)

pub returns-clause-quiet : goal.returns-clause-quiet
returns-clause-quiet c inbound subs event events turn = not_quiet inbound subs event events turn
