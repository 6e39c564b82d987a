use Rattle.resource_files.proofs.Subscribing.{read, unread}
use Rattle.resource_files.proofs.adding.add_subscriptions.Goals as goal

pub returns-in-Ok : goal.returns-in-Ok
returns-in-Ok c = read c.args.app.now c.args.docs.now c.args.all.now c.join.new.one c.in-Ok.more c.join.result c.in-Ok.ensures c.join.ensures

pub returns-in-Err : goal.returns-in-Err
returns-in-Err c = unread c.args.app.now c.args.docs.now c.args.all.now c.args.all.now c.in-Err.error c.in-Err.ensures
