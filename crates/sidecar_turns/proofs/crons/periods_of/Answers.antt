use Rattle.std.proofs.Common.{arith}
use Rattle.sidecar_turns.specs.Crons.{is_cron, period_of}
use Rattle.sidecar_turns.proofs.Gathered.{more_made}
use Rattle.sidecar_turns.proofs.crons.periods_of.Goals as goal

pub loop-place-preserved : goal.loop-place-preserved
loop-place-preserved c = let h = c.loop-place.invariant in record {
  exact = more_made c.args.components.now c.loop-place.place c.at.result.now (omega (arith, c.loop-place-test.true, c.len-place-end.ensures.exact)) c.at.ensures (λ z. is_cron z.kind) period_of _ _ h.exact c.in_ok-add_period.ensures.added;
  each = c.in_ok-add_period.ensures.each h.each;
  few = omega (arith, h.few, c.in_ok-add_period.ensures.few);
}

pub returns-clause-few : goal.returns-clause-few
returns-clause-few c = omega (arith, c.loop-place.invariant.few, c.loop-place.auto.place-end, c.len-place-end.ensures.within)
