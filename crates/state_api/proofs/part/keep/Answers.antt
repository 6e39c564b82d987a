use Rattle.std.proofs.Common.{arith}
use Rattle.state_api.proofs.Fewness.{kept_next, kept_more}
use Rattle.state_api.proofs.part.keep.Goals as goal

pub returns-then-len-ge-MOST-clause-kept : goal.returns-then-len-ge-MOST-clause-kept
returns-then-len-ge-MOST-clause-kept g c read kept = kept_more _ _ _ _ (omega arith) kept

pub returns-in-Ok-clause-kept : goal.returns-in-Ok-clause-kept
returns-in-Ok-clause-kept g c read kept = kept_next _ _ _ _ _ (omega arith) c.in-Ok.ensures.ok kept
