use Rattle.std.proofs.Common.{arith}
use Rattle.sidecar_objects.specs.Composed.{pass_stays}
use Rattle.sidecar_turns.specs.Ticking.{Ticks}
use Rattle.sidecar_turns.specs.Taking.{TicksEnd, TicksOn}
use Rattle.sidecar_turns.proofs.Ended.{ticks_ended}
use Rattle.sidecar_turns.proofs.Turned.{all_taken, last_taken, none_taken, one_taken}
use Rattle.sidecar_turns.proofs.taking.take_ticks.Goals as goal

pub loop-taken-init : goal.loop-taken-init
loop-taken-init g c = record { so_far = none_taken (Ticks c.args.crons.now) TicksOn TicksEnd _ _ _ }

pub take_once-requires-clause-pass : goal.take_once-requires-clause-pass
take_once-requires-clause-pass g c = pass_stays _ _ _ _ _ c.loop-taken.invariant.so_far.went c.requires.pass

pub returns-in-Some-clause-does : goal.returns-in-Some-clause-does
returns-in-Some-clause-does g c = last_taken (Ticks c.args.crons.now) TicksOn TicksEnd _ _ _ _ _ c.loop-taken._taken c.loop-taken.invariant.so_far c.in-Some.how (ticks_ended c.in-Some.how) (omega (arith, c.loop-taken-test.true)) c.in-Some.ensures.does

pub loop-taken-preserved : goal.loop-taken-preserved
loop-taken-preserved g c = record { so_far = one_taken (Ticks c.args.crons.now) TicksOn TicksEnd _ _ _ _ _ c.loop-taken._taken c.loop-taken.invariant.so_far c.in_default.ensures.does }

pub returns-clause-does : goal.returns-clause-does
returns-clause-does g c = all_taken (Ticks c.args.crons.now) TicksOn TicksEnd _ _ _ _ c.loop-taken._taken (omega (arith, c.loop-taken-test.false)) c.loop-taken.invariant.so_far
