use Rattle.std.proofs.Common.{refl, arith}
use Rattle.policy_run.specs.declared.outcome.Refusal.TheVariants.{Opened, TooMany}
use Rattle.delivery_turn.proofs.Written.{refused_turn}
use Rattle.delivery_turn.proofs.laws.a_refused_delivery_is_postponed.Goals as goal

pub returns-clause-opened : goal.returns-clause-opened
returns-clause-opened c rules event = refused_turn rules event (Opened 45000) 45001 (omega arith) refl

pub returns-clause-too_many : goal.returns-clause-too_many
returns-clause-too_many c rules event = refused_turn rules event (TooMany 1) 1007 tt refl
