use Rattle.ledger_core.specs.declared.reply.LedgerReply.TheVariants.{Again, Dead}
use Rattle.delivery_turn.proofs.Written.{attempt, letter}
use Rattle.delivery_turn.proofs.laws.a_letter_is_delivered.Goals as goal

pub returns-clause-first : goal.returns-clause-first
returns-clause-first c rules event values drawn = attempt rules 0 1 drawn event values (Again 100) (λ e. let bad : ⊥ = cc in bad) tt

pub returns-clause-second : goal.returns-clause-second
returns-clause-second c rules event values drawn = attempt rules 100 2 drawn event values (Again 200) (λ e. let bad : ⊥ = cc in bad) tt

pub returns-clause-third : goal.returns-clause-third
returns-clause-third c rules event values drawn = attempt rules 200 3 drawn event values (Dead 2) (λ e. let bad : ⊥ = cc in bad) tt

pub returns-clause-letter : goal.returns-clause-letter
returns-clause-letter c rules event = letter rules 200 4 event
