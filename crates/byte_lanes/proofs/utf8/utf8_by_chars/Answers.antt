use Rattle.std.proofs.Common.{inl, inr, arith}
use Rattle.std.proofs.lemmas.Bool.{cases_lt}
use Rattle.byte_lanes.proofs.utf8.utf8_by_chars.Goals as goal

pub returns-in-Err-clause-most : goal.returns-in-Err-clause-most
returns-in-Err-clause-most c k within utf8 = elim (cases_lt c.valid_up_to.result k) [
  | inl more ↦ absurd (c.in-Err.ensures.cases.1.longest k (omega (arith, more, c.valid_up_to.ensures)) utf8)
  | inr less ↦ less
]
