use Rattle.std.proofs.Common.{ap, sym, ◌∙◌}
use Rattle.std.specs.Prelude.{option_copied}
use Rattle.std.proofs.lemmas.Result.{IfOk-weaker}
use Rattle.cloud_events.proofs.Judged.{bad_at, no_base}
use Rattle.cloud_events.proofs.judge.bad_base.Goals as goal

pub returns-in-Some : goal.returns-in-Some
returns-in-Some c = IfOk-weaker c.bad_start.result _ _ (λ bad h. bad_at c.args.items.now c.in-Some.item.now (ap option_copied (sym c.in-Some.is) ∙ c.find.ensures) bad h) c.bad_start.ensures

pub returns-in-None : goal.returns-in-None
returns-in-None c = no_base c.args.items.now (ap option_copied (sym c.in-None.is) ∙ c.find.ensures)
