use Rattle.std.proofs.Common.{All, sym, subst}
use Rattle.std.proofs.lemmas.List.Elements.{All-push}
use Rattle.retry_core.specs.Bound.{IsWithinLimit}
use Rattle.sidecar_turns.proofs.brokers.add_broker.Goals as goal

pub returns-clause-within : goal.returns-clause-within
returns-clause-within c all = subst (All IsWithinLimit) (sym c.in_ok-push.ensures.items) (All-push IsWithinLimit c.args.inbound.now.items c.inbound_of.result all c.inbound_of.ensures.within)
