use Rattle.std.proofs.Common.{rules}
use Rattle.policy_run.specs.Effects.{clocked}
use Rattle.policy_run.proofs.Trying.{gives_up, waits}
use Rattle.policy_run.proofs.run.goes_on.Goals as goal

pub returns-in-GiveUp : goal.returns-in-GiveUp
returns-in-GiveUp g c policy words is = gives_up policy words (clocked g.C.Clock c.args.clock.now) _ _ c.next_u64.result c.next_u64.ensures c.next.new.self c.in-GiveUp.attempts (search rules)

pub returns-in-Wait : goal.returns-in-Wait
returns-in-Wait g c policy words is = waits policy words (clocked g.C.Clock c.args.clock.now) _ _ c.next_u64.result c.next_u64.ensures _ (clocked g.C.Clock c.pause.new.self) c.in-Wait.ms (search rules) (search rules) c.pause.ensures.later c.pause.ensures.paused c.pause.ensures.ticks
