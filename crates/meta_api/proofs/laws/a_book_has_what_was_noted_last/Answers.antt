use Rattle.std.proofs.Common.{[]}
use Rattle.meta_api.proofs.Noting.{rise_after, value_after}
use Rattle.std.proofs.Common.{refl, None}
use Rattle.meta_api.proofs.laws.a_book_has_what_was_noted_last.Goals as goal

pub returns-clause-rise : goal.returns-clause-rise
returns-clause-rise c history = rise_after history [] tt

pub returns-clause-last : goal.returns-clause-last
returns-clause-last c history name = value_after history name [] None refl
