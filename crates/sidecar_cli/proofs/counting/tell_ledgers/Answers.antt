use Rattle.std.proofs.Common.{◌∙◌, ◌≡◌, ◌<◌, length, true, sym, ap, arith}
use Rattle.conn_serve.specs.Ends.{sink_at}
use Rattle.sidecar_objects.specs.contracts.kinds.StoreObjectKinds.TheImpl.{ghosts}
use Rattle.sidecar_objects.specs.Pass.{cells_of, seats_of}
use Rattle.sidecar_turns.specs.Brokers.{is_broker, brokers_of}
use Rattle.sidecar_cli.proofs.Countings.{few, none_counted, place_within, one_counted, passed_over, so_far_by, all_counted}
use Rattle.sidecar_cli.proofs.counting.tell_ledgers.Goals as goal
use Rattle.sidecar_cli.proofs.counting.tell_ledgers.Goals.{then-is_broker, else-is_broker}

pub loop-at-init : goal.loop-at-init
loop-at-init g c = record { so_far = none_counted _ _ c.args.shared.now.config.components (seats_of c.args.pass.now) (sink_at g.E.Sink c.args.note.now) c.requires }

pub tell_ledger-requires-clause-place : goal.tell_ledger-requires-clause-place
tell_ledger-requires-clause-place g c =
    let low : c.loop-at.at < length c.args.shared.now.config.components = omega (arith, c.loop-at-test.true, c.len-at-end.ensures.exact) in
    let chosen : is_broker c.at-component.result.now.kind ≡ true = sym (ap is_broker c.kind.ensures.kind) ∙ sym c.is_broker.ensures ∙ c.if-is_broker.true in
    let within : c.loop-at.place < length (brokers_of c.args.shared.now.config.components) =
    place_within (ghosts g.row.K g.K.Keeper g.K.Keeper-dict g.K.Destruct-dict).kinds (cells_of c.args.shared.now.objects) c.args.shared.now.config.components c.loop-at.at c.at-component.result.now low c.at-component.ensures c.loop-at.place chosen c.loop-at.invariant.so_far.wide in
    let ledgers = c.args.shared.now.ledgers in
    omega (arith, within, ledgers)

pub overflow_add-place : goal.overflow_add-place
overflow_add-place g c =
    let low : c.loop-at.at < length c.args.shared.now.config.components = omega (arith, c.loop-at-test.true, c.len-at-end.ensures.exact) in
    let chosen : is_broker c.at-component.result.now.kind ≡ true = sym (ap is_broker c.kind.ensures.kind) ∙ sym c.is_broker.ensures ∙ c.if-is_broker.true in
    let within : c.loop-at.place < length (brokers_of c.args.shared.now.config.components) =
    place_within (ghosts g.row.K g.K.Keeper g.K.Keeper-dict g.K.Destruct-dict).kinds (cells_of c.args.shared.now.objects) c.args.shared.now.config.components c.loop-at.at c.at-component.result.now low c.at-component.ensures c.loop-at.place chosen c.loop-at.invariant.so_far.wide in
    let most = few c.args.shared.now.config.components in
    let exact = c.len-at-end.ensures.exact in
    let all = c.len-at-end.ensures.within in
    omega (arith, within, most, exact, all)

pub loop-at-preserved : goal.loop-at-preserved
loop-at-preserved g c =
    let so_far = c.loop-at.invariant.so_far in
    let components = c.args.shared.now.config.components in
    let low : c.loop-at.at < length c.args.shared.now.config.components = omega (arith, c.loop-at-test.true, c.len-at-end.ensures.exact) in
    elim c.if-is_broker.branch [
      | then-is_broker w ↦ record {
        so_far = so_far_by _ _ w.place-is (ap seats_of w.pass-is) (ap (sink_at g.E.Sink) w.note-is) (w.spent-is ∙ w.or-spent.ensures)
            (one_counted _ (cells_of c.args.shared.now.objects) components c.loop-at.at c.at-component.result.now low c.at-component.ensures c.loop-at.place _ _ _ _ _ _ _ _ _ _ w.name.ensures
            (sym (ap is_broker c.kind.ensures.kind) ∙ sym c.is_broker.ensures ∙ w.if-is_broker.true) so_far w.tell_ledger.ensures.1 w.tell_ledger.ensures.2);
      }
      | else-is_broker w ↦ record {
        so_far = so_far_by _ _ w.place-is (ap seats_of w.pass-is) (ap (sink_at g.E.Sink) w.note-is) w.spent-is
            (passed_over _ (cells_of c.args.shared.now.objects) components c.loop-at.at c.at-component.result.now low c.at-component.ensures c.loop-at.place _ _ _ _ _
            (sym (ap is_broker c.kind.ensures.kind) ∙ sym c.is_broker.ensures ∙ w.if-is_broker.false) so_far);
      }
    ]

pub returns : goal.returns
returns g c = all_counted _ _ _ _ _ _ _ _ _ _ (omega (arith, c.loop-at-test.false, c.len-at-end.ensures.exact)) c.loop-at.invariant.so_far
