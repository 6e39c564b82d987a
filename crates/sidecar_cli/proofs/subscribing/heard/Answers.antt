use Rattle.std.proofs.Common.{Err, subst, sym}
use Rattle.sidecar_cli.specs.Subscribed.{Hears}
use Rattle.sidecar_cli.proofs.Refusing.{hears_refused}
use Rattle.sidecar_cli.proofs.subscribing.heard.Goals as goal

pub returns-in-Ok : goal.returns-in-Ok
returns-in-Ok c = subst (λ answer. Hears c.args.declared answer (Err c.without_list.result)) (sym c.in-Ok.is) (hears_refused c.args.declared c.in-Ok.reply c.in-Err.error c.without_list.result c.in-Err.ensures c.without_list.ensures)
