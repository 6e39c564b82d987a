use Rattle.cron_ticks.specs.Ticks.{schedule_of}
use Rattle.cron_ticks.proofs.Counting.{takes_all}
use Rattle.cron_ticks.proofs.laws.an_idle_answer_has_taken_all_that_are_due.Goals as goal

pub returns : goal.returns
returns c = λ first history legal. takes_all (schedule_of first) history first.bounded.each (λ earlier later entry whole. (legal.each earlier later entry whole).1)
