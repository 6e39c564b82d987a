use Rattle.std.proofs.Common.{unwrap_or}
use Rattle.sidecar_turns.proofs.Placed.{at_no_store, breaker, calls, elsewhere, here}
use Rattle.sidecar_turns.proofs.laws.a_turn_keeps_to_its_ledger.Goals as goal

pub returns-clause-here : goal.returns-clause-here
returns-clause-here c place bound did = here place (unwrap_or bound.breaker 0) did

pub returns-clause-elsewhere : goal.returns-clause-elsewhere
returns-clause-elsewhere c place k bound did far = elsewhere place (unwrap_or bound.breaker 0) did k far

pub returns-clause-stores : goal.returns-clause-stores
returns-clause-stores c place k bound did = at_no_store place (unwrap_or bound.breaker 0) did k

pub returns-clause-calls : goal.returns-clause-calls
returns-clause-calls c place bound did = calls place (unwrap_or bound.breaker 0) did

pub returns-clause-breaker : goal.returns-clause-breaker
returns-clause-breaker c place bound did = breaker place (unwrap_or bound.breaker 0) did
