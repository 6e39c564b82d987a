use Rattle.std.proofs.Common.{◌∙◌, ℕ, drop, length, ap, arith}
use Rattle.std.proofs.lemmas.Bool.Decides.{nat_tests}
use Rattle.http_frames.proofs.FeedLemmas.{piece_taken, taken_at, none_of}
use Rattle.http_frames.proofs.progress.feed_left.Goals as goal

pub returns-in-Ok-clause-ok : goal.returns-in-Ok-clause-ok
returns-in-Ok-clause-ok c = λ pending is.
    let taken = c.in-Ok.ensures.ok in
    let piece = c.args.piece.now in
    let count = c.min.ensures ∙ taken_at c.args.left _ c.take_due.new.at (length piece) taken.counts taken.within taken.all in
    piece_taken pending c.args.bytes.now.items _ _ piece c.take_due.new.at c.args.content.now c.take_due.new.body c.args.left _
    (none_of c.args.bytes.now.items (grind (arith, nat_tests))) c.in_ok-extend_from_slice.ensures.items
    (c.split_at.ensures.back ∙ ap (λ (n : ℕ). drop n piece) count) c.requires.left taken is
