use Rattle.std.proofs.Common.{ap, sym, ◌∙◌}
use Rattle.std.specs.Prelude.{option_copied, is_some}
use Rattle.cloud_events.proofs.item.is_there.Goals as goal

pub returns-in-Some : goal.returns-in-Some
returns-in-Some c = ap is_some (ap option_copied (sym c.in-Some.is) ∙ c.find.ensures)

pub returns-in-None : goal.returns-in-None
returns-in-None c = ap is_some (ap option_copied (sym c.in-None.is) ∙ c.find.ensures)
