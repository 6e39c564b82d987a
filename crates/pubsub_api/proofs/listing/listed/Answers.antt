use Rattle.std.proofs.Common.{◌≢◌, [], rules}
use Rattle.pubsub_api.proofs.Listed.{list_read, list_unread}
use Rattle.pubsub_api.proofs.listing.listed.Goals as goal

pub returns-in-Ok : goal.returns-in-Ok
returns-in-Ok c =
    let some : c.args.body.now ≢ [] = search rules in
    list_read c.args.body.now some c.the_root_is_the_value_of_the_text.ensures c.in-Ok.doc c.app_list.result c.in-Ok.ensures.ok c.app_list.ensures

pub returns-in-Err : goal.returns-in-Err
returns-in-Err c =
    let some : c.args.body.now ≢ [] = search rules in
    list_unread c.args.body.now some c.in-Err.error c.unlisted.result c.unlisted.ensures c.in-Err.ensures.bad c.in-Err.ensures.deep
