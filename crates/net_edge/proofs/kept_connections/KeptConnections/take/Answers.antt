use Rattle.std.proofs.Common.{rules, ◌≡◌, ◌<◌, ◌-◌, ℕ, List, length, sym, subst}
use Rattle.std.specs.Prelude.{slice_index_or}
use Rattle.net_edge.specs.Calls.{young}
use Rattle.net_edge.proofs.KeptLemmas.{among_on, among_young, young_at}
use Rattle.net_edge.proofs.kept_connections.KeptConnections.take.Goals as goal

pub returns-in-Some-clause-young : goal.returns-in-Some-clause-young
returns-in-Some-clause-young c = young_at _ _ _ _ c.take_at.result c.let_go.ensures c.in-Some.ensures.within c.take_at.ensures.it

pub returns-in-Some-clause-among : goal.returns-in-Some-clause-among
returns-in-Some-clause-among c = among_on _ _ _ (among_young c.args.now _ _ c.let_go.ensures) c.take_at.ensures.among

pub returns-in-None-clause-among : goal.returns-in-None-clause-among
returns-in-None-clause-among c = among_young c.args.now _ _ c.let_go.ensures
