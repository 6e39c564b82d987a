use Rattle.http_frames.proofs.OpenLemmas.{partial_behind, invalid_behind}
use Rattle.http_frames.proofs.PlaceLemmas.{partial_open}
use Rattle.http_frames.proofs.lines.read_behind.Goals as goal

pub unless_in_target-requires : goal.unless_in_target-requires
unless_in_target-requires c =
    let read = rw c.in-Invalid.is at c.in_ok-read.ensures in
    invalid_behind c.args.text.now c.args.place.lines c.requires.place.lines c.if-place-eq0.false read

pub returns-in-Partial : goal.returns-in-Partial
returns-in-Partial c =
    let read = rw c.in-Partial.is at c.in_ok-read.ensures in
    partial_behind c.args.text.now c.args.place.lines c.requires.place.lines c.if-place-eq0.false read

pub returns-then-goes_on : goal.returns-then-goes_on
returns-then-goes_on c =
    partial_open c.args.place.part c.args.text.now c.args.place.lines c.requires.place.lines (c.goes_on.ensures c.if-goes_on.true)
