use Rattle.std.proofs.Common.{rules}
use Rattle.std.proofs.lemmas.Fn.{filter_same}
use Rattle.net_edge.specs.Calls.{is_young, young}
use Rattle.net_edge.proofs.KeptLemmas.{single_of_young}
use Rattle.net_edge.proofs.kept_connections.KeptConnections.let_go.Goals as goal

pub invariant_of-self-clause-single : goal.invariant_of-self-clause-single
unfolding young
invariant_of-self-clause-single c =
    single_of_young c.args.now _ _ c.args.self.now.single (filter_same _ (is_young c.args.now) _ (λ x b f' k. search rules) _ _ c.retain.ensures.filtered)

pub returns : goal.returns
unfolding young
returns c = filter_same _ (is_young c.args.now) _ (λ x b f' k. search rules) _ _ c.retain.ensures.filtered
