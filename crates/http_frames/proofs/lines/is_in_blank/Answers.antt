use Rattle.std.proofs.Common.{subst}
use Rattle.http_frames.specs.Lines.{IsBegunEnd}
use Rattle.http_frames.proofs.BlankLemmas.{in_blank}
use Rattle.http_frames.proofs.lines.is_in_blank.Goals as goal

pub returns : goal.returns
returns c = λ plain. in_blank c.args.text.now (subst IsBegunEnd c.after_blank.ensures (c.is_begun_end.ensures plain))
