use Rattle.std.proofs.Common.{◌≡◌, length}
use Rattle.http_frames.specs.InTarget.{after_blank}
use Rattle.http_frames.proofs.target.after_blank.Given as goal

abbrev pub invariant-loop-rest : goal.invariant-loop-rest
invariant-loop-rest l = after_blank l.rest ≡ after_blank l.text

abbrev pub decreases-loop-rest : goal.decreases-loop-rest
decreases-loop-rest l = length l.rest
