use Rattle.std.proofs.Common.{refl}
use Rattle.delivery_turn.proofs.Verdicts.{absent, failing, no_body}
use Rattle.delivery_turn.proofs.laws.some_replies_are_judged_by_status.Goals as goal

pub returns-clause-absent : goal.returns-clause-absent
returns-clause-absent c = absent

pub returns-clause-failing : goal.returns-clause-failing
returns-clause-failing c = failing

pub returns-clause-empty : goal.returns-clause-empty
returns-clause-empty c fields = no_body fields 204 _ refl
