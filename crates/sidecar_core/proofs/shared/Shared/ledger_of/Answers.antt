use Rattle.std.proofs.Common.{◌∙◌, ◌+◌, ◌∷◌, [], ℕ, length, length-append, take, sym, ap, arith}
use Rattle.sidecar_turns.specs.Brokers.{is_broker, brokers_of}
use Rattle.sidecar_core.proofs.Gathered.{more_chosen}
use Rattle.sidecar_core.proofs.shared.Shared.ledger_of.Goals as goal

pub loop-before-preserved : goal.loop-before-preserved
loop-before-preserved g c =
    let more = more_chosen c.args.self.now.config.components c.loop-before.before c.at.result.now (omega (arith, c.loop-before-test.true, c.requires)) c.at.ensures (λ z. is_broker z.kind) in record {
      exact = ap (λ (n : ℕ). n + c.brokers_in-ledger.result) c.loop-before.invariant.exact ∙ ap (λ (n : ℕ). length (brokers_of (take c.loop-before.before c.args.self.now.config.components)) + n) c.brokers_in-ledger.ensures.exact ∙ sym (ap length more ∙ length-append _ (brokers_of (c.at.result.now ∷ [])));
      within = omega (arith, c.brokers_in-ledger.ensures.within, c.loop-before.invariant.within);
    }
