use Rattle.resource_spec.proofs.Schedules.{says_period}
use Rattle.resource_spec.proofs.schedule.a_schedule_says_its_period.Goals as goal

pub returns : goal.returns
returns c = λ text ms. says_period text ms
