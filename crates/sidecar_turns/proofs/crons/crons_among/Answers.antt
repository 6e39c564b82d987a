use Rattle.std.proofs.Common.{arith}
use Rattle.sidecar_turns.specs.Crons.{cron_by, is_cron}
use Rattle.sidecar_turns.proofs.Gathered.{more_made}
use Rattle.sidecar_turns.proofs.crons.crons_among.Goals as goal

pub loop-place-preserved : goal.loop-place-preserved
loop-place-preserved c = let h = c.loop-place.invariant in record {
  exact = more_made c.args.components.now c.loop-place.place c.at.result.now (omega (arith, c.loop-place-test.true, c.len-place-end.ensures.exact)) c.at.ensures (λ z. is_cron z.kind) (cron_by c.args.policies.now) _ _ h.exact c.in_ok-add_cron.ensures.added;
  within = c.in_ok-add_cron.ensures.within h.within;
  breakers = c.in_ok-add_cron.ensures.breakers h.breakers;
}
