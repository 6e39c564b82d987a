use Rattle.std.proofs.Common.{◌≡◌, ◌∙◌, ap, sym, subst, Option}
use Rattle.net_edge.specs.Calls.{IsOutcome, AreAmong}
use Rattle.net_edge.specs.declared.call_connection.CallConnection.{CallConnection}
use Rattle.net_edge.specs.declared.kept_connections.KeptConnections.{KeptConnections}
use Rattle.net_edge.proofs.KeptLemmas.{keeps_none, keeps_one}
use Rattle.net_edge.proofs.tcp_link.attempt.Goals as goal
use Rattle.net_edge.proofs.tcp_link.attempt.Goals.{in-Some, in_default}

pub returns-clause-keeps : goal.returns-clause-keeps
returns-clause-keeps g c =
    elim c.match-left.branch [
      | in-Some w ↦ keeps_one c.args.request.now c.ask_over-answer.result.0 c.args.kept.now.kept.items c.connection_to.new.kept.kept.items _ w.in-Some.connection
          w.now_ms-in-Some.result c.connection_to.ensures.among
          (subst (λ (left : Option CallConnection). IsOutcome c.args.request.now c.ask_over-answer.result.0 left) w.in-Some.is c.ask_over-answer.ensures.outcome)
          w.put.result (ap (λ (k : KeptConnections). k.kept.items) w.kept-is ∙ w.put.ensures)
      | in_default w ↦ keeps_none c.args.request.now c.ask_over-answer.result.0 c.args.kept.now.kept.items _
          (subst (λ (k : KeptConnections). AreAmong c.args.kept.now.kept.items k.kept.items) (sym w.kept-is) c.connection_to.ensures.among)
    ]
