use Rattle.http_frames.proofs.HeadStepLemmas.{judged_need, judged_long, judged_bad, no_head_none, judged_may}
use Rattle.std.proofs.Common.{subst, append-nil, take, []}
use Rattle.httparse.specs.Grammar.{HasNoRequest}
use Rattle.http_frames.proofs.head.judged.Goals as goal

pub place_after-requires : goal.place_after-requires
place_after-requires c =
    let read = rw c.in-Partial.is at c.requires.read in
    let short = c.if-pending-lt-HEAD_LIMIT.true in
    let need = judged_need c.args.pending.now short read.0 read.1 in
    record { short = short; place = c.requires.place; none = need.0; may = judged_may c.args.pending.now short read.1 }

pub returns-then-pending-lt-HEAD_LIMIT : goal.returns-then-pending-lt-HEAD_LIMIT
returns-then-pending-lt-HEAD_LIMIT c =
    let read = rw c.in-Partial.is at c.requires.read in
    let need = judged_need c.args.pending.now c.if-pending-lt-HEAD_LIMIT.true read.0 read.1 in
    (need.0, need.1, no_head_none c.args.pending.now read.0, c.place_after.ensures, c.if-pending-lt-HEAD_LIMIT.true)

pub returns-else-pending-lt-HEAD_LIMIT : goal.returns-else-pending-lt-HEAD_LIMIT
returns-else-pending-lt-HEAD_LIMIT c =
    let read = rw c.in-Partial.is at c.requires.read in
    (judged_long c.args.pending.now c.if-pending-lt-HEAD_LIMIT.false read.0 read.1, no_head_none c.args.pending.now read.0)

pub returns-in-Invalid : goal.returns-in-Invalid
returns-in-Invalid c =
    let read = rw c.in-Invalid.is at c.requires.read in (
      judged_bad c.args.pending.now read.0 read.1,
      no_head_none c.args.pending.now (subst HasNoRequest (append-nil (take 16384 c.args.pending.now)) (read.0 [])),
    )
