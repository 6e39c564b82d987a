use Rattle.std.proofs.Common.{◌∙◌, ◌+◌, ◌∷◌, [], ℕ, length, length-append, sym, ap, arith}
use Rattle.sidecar_turns.specs.Brokers.{is_broker, brokers_of}
use Rattle.sidecar_core.proofs.Gathered.{more_chosen}
use Rattle.sidecar_core.proofs.starting.ledgers_for.Goals as goal

pub loop-place-preserved : goal.loop-place-preserved
loop-place-preserved c =
    let more = more_chosen c.args.config.now.components c.loop-place.place c.at.result.now (omega (arith, c.loop-place-test.true, c.len-place-end.ensures.exact)) c.at.ensures (λ z. is_broker z.kind) in record {
      wide = c.in_ok-add_ledger.ensures.wide ∙ ap (λ (n : ℕ). n + length (brokers_of (c.at.result.now ∷ []))) c.loop-place.invariant.wide ∙ sym (ap length more ∙ length-append _ (brokers_of (c.at.result.now ∷ [])));
      planned = c.in_ok-add_ledger.ensures.planned c.loop-place.invariant.planned;
      unused = c.in_ok-add_ledger.ensures.unused c.loop-place.invariant.unused;
    }
