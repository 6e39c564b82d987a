use Rattle.delivery_turn.proofs.Refused.{twice, no_report, call_first, call_idle, no_draw, no_retry}
use Rattle.delivery_turn.proofs.laws.wrong_turns_are_refused.Goals as goal

pub returns-clause-twice : goal.returns-clause-twice
returns-clause-twice c setting drawn event = twice setting drawn event

pub returns-clause-unreported : goal.returns-clause-unreported
returns-clause-unreported c setting drawn event = no_report setting drawn event

pub returns-clause-first : goal.returns-clause-first
returns-clause-first c setting event = call_first setting 0 event

pub returns-clause-idle : goal.returns-clause-idle
returns-clause-idle c setting event = call_idle setting 0 event

pub returns-clause-undrawn : goal.returns-clause-undrawn
returns-clause-undrawn c setting event = no_draw setting 0 event

pub returns-clause-overdrawn : goal.returns-clause-overdrawn
returns-clause-overdrawn c setting drawn event = no_retry setting drawn event
