use Rattle.sidecar_turns.proofs.Periods.{period_so}
use Rattle.sidecar_turns.proofs.crons.period_of.Goals as goal

pub returns-clause-exact : goal.returns-clause-exact
returns-clause-exact c = period_so c.args.component.now c.period.result c.requires.kind c.requires.needs c.period.ensures.says
