use Rattle.resource_spec.proofs.Schedules.{period_read, period_lacks}
use Rattle.resource_spec.proofs.schedule.period_behind.Goals as goal

pub returns-in-Ok : goal.returns-in-Ok
returns-in-Ok c = period_read c.args.text.now c.duration_ms.result c.duration_ms.ensures.ok c.in-Ok.ms c.at_least.result c.in-Ok.is c.at_least.ensures

pub returns-in-Err : goal.returns-in-Err
returns-in-Err c = period_lacks c.args.text.now c.duration_ms.result c.duration_ms.ensures.ok _ c.in-Err.is
