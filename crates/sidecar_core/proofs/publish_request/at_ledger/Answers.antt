use Rattle.std.proofs.Common.{◌≡◌, ◌∙◌, length, refl, ap, arith}
use Rattle.std.proofs.lemmas.List.{length-map}
use Rattle.atomic_table.proofs.Lists.{at_index, set_here}
use Rattle.ledger_core.specs.Ledger.{plans_of}
use Rattle.sidecar_objects.specs.Kind.{ledgers}
use Rattle.sidecar_core.specs.Plans.{plan_of, plans_in}
use Rattle.sidecar_core.proofs.Beginning.{all_at}
use Rattle.sidecar_core.proofs.Entering.{entered_at}
use Rattle.sidecar_core.proofs.publish_request.at_ledger.Goals as goal

pub index_mut-requires : goal.index_mut-requires
index_mut-requires g c = omega (arith, c.requires.ledger, (c.requires.pass.each ledgers).wide)

pub publish-requires-clause-seat : goal.publish-requires-clause-seat
publish-requires-clause-seat g c = (c.requires.pass.each ledgers).each c.args.ledger c.index.result.now c.index_mut.result.now
    (at_index c.args.shared.now.objects.ledgers.items c.args.ledger c.index.result.now c.requires.ledger c.index.ensures)
    (at_index c.args.pass.now.ledgers.items c.args.ledger c.index_mut.result.now (omega (arith, c.requires.ledger, (c.requires.pass.each ledgers).wide)) c.index_mut.ensures.value)

pub publish-requires-clause-plans : goal.publish-requires-clause-plans
publish-requires-clause-plans g c = ap length (all_at (λ cell. plans_of cell.first ≡ plans_in c.args.shared.now.config) c.args.shared.now.objects.ledgers.items c.args.shared.now.plans c.args.ledger c.index.result.now
    (at_index c.args.shared.now.objects.ledgers.items c.args.ledger c.index.result.now c.requires.ledger c.index.ensures)) ∙ length-map c.args.shared.now.config.subs (plan_of c.args.shared.now.config.policies)

pub returns-clause-does : goal.returns-clause-does
returns-clause-does g c = λ link. let r = c.publish.ensures.publishes in record {
  events = _;
  held = record {
    what = _;
    is = record { of_request = refl; of_component = refl; of_topic = refl; of_app = refl; of_subs = refl };
    steps = r.0;
    publishes = r.1;
    whole = refl;
  };
  went = entered_at _ _ _ _ _ _ _ link c.args.ledger c.index.result.now c.index_mut.result.now _
      (at_index c.args.shared.now.objects.ledgers.items c.args.ledger c.index.result.now c.requires.ledger c.index.ensures)
      (at_index c.args.pass.now.ledgers.items c.args.ledger c.index_mut.result.now (omega (arith, c.requires.ledger, (c.requires.pass.each ledgers).wide)) c.index_mut.ensures.value)
      r.0 r.2;
}

pub returns-clause-shows : goal.returns-clause-shows
returns-clause-shows g c = λ count is. (c.publish.new.seat, set_here c.args.pass.now.ledgers.items c.args.ledger c.publish.new.seat (omega (arith, c.requires.ledger, (c.requires.pass.each ledgers).wide)), c.publish.ensures.shows count is)
