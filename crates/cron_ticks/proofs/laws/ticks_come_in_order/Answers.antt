use Rattle.cron_ticks.specs.Ticks.{schedule_of}
use Rattle.cron_ticks.proofs.Counting.{in_order}
use Rattle.cron_ticks.proofs.laws.ticks_come_in_order.Goals as goal

pub returns : goal.returns
returns c = λ first history legal. in_order (schedule_of first) history first.bounded.each (λ earlier later entry whole. (legal.each earlier later entry whole).1)
