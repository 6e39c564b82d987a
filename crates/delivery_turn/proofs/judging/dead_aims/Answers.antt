use Rattle.std.proofs.Common.{rules}
use Rattle.delivery_turn.specs.Posting.{AimsAt, DeadAims, HasLetter}
use Rattle.delivery_turn.proofs.Choosing.{dead_at, dead_nowhere, each_err, has_letter, more_ok, sub_there}
use Rattle.delivery_turn.proofs.judging.dead_aims.Goals as goal

pub returns-in-Some-clause-aims : goal.returns-in-Some-clause-aims
returns-in-Some-clause-aims c =
    let sub = c.at-sub.result.now in
    let there = sub_there c.args.what.now.subs.now c.args.row.now.sub sub sub c.requires c.at-sub.ensures in
    more_ok c.aims_at.result (AimsAt c.args.what.now.subs.now c.args.row.now.event sub.pubsub c.in-Some.topic) (DeadAims c.args.what.now.subs.now c.args.row.now)
    (λ aims are. dead_at c.args.what.now.subs.now c.args.row.now sub there c.in-Some.topic aims (search rules) are) c.aims_at.ensures.aims

pub returns-in-None-clause-aims : goal.returns-in-None-clause-aims
returns-in-None-clause-aims c =
    let sub = c.at-sub.result.now in
    let there = sub_there c.args.what.now.subs.now c.args.row.now.sub sub sub c.requires c.at-sub.ensures in
    dead_nowhere c.args.what.now.subs.now c.args.row.now sub there c.new.result (search rules) c.new.ensures

pub returns-in-Some-clause-lacks : goal.returns-in-Some-clause-lacks
returns-in-Some-clause-lacks c =
    let sub = c.at-sub.result.now in
    let there = sub_there c.args.what.now.subs.now c.args.row.now.sub sub sub c.requires c.at-sub.ensures in
    each_err c.aims_at.result (λ e. HasLetter c.args.what.now.subs.now c.args.row.now) (λ e. has_letter c.args.what.now.subs.now c.args.row.now sub there c.in-Some.topic (search rules))
