use Rattle.std.proofs.Common.{◌∙◌, ◌+◌, ◌∷◌, [], ℕ, length, length-append, take, sym, ap, arith}
use Rattle.sidecar_core.specs.Sites.{is_store, stores_of}
use Rattle.sidecar_core.proofs.Gathered.{more_chosen}
use Rattle.sidecar_core.proofs.starting.count_of_stores.Goals as goal

pub loop-place-preserved : goal.loop-place-preserved
loop-place-preserved c =
    let more = more_chosen c.args.components.now c.loop-place.place c.at.result.now (omega (arith, c.loop-place-test.true, c.len-place-end.ensures.exact)) c.at.ensures (λ z. is_store z.kind) in record {
      exact = ap (λ (n : ℕ). n + c.count_of-count.result) c.loop-place.invariant.exact ∙ ap (λ (n : ℕ). length (stores_of (take c.loop-place.place c.args.components.now)) + n) c.count_of-count.ensures.exact ∙ sym (ap length more ∙ length-append _ (stores_of (c.at.result.now ∷ [])));
      within = omega (arith, c.count_of-count.ensures.within, c.loop-place.invariant.within);
    }
