use Rattle.std.proofs.Common.{arith}
use Rattle.json_text.specs.Faults.{lone}
use Rattle.json_text.proofs.Depths.{low_text, nothing_wrong}
use Rattle.json_text.proofs.laws.what_may_be_wrong_with_a_text.Goals as goal

pub returns : goal.returns
returns c bytes values text =
    (λ clean. (low_text bytes values text clean, λ at le l. (clean at (omega (arith, le))).0 (lone l)), λ h. nothing_wrong bytes values text h.0 h.1)
