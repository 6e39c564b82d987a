-- What contracts see of an acceptor in memory.
use Rattle.std.specs.Prelude.{◌≡◌, ◌⊎◌, ℕ, false, List, [], ◌∷◌, Option, Some, None}
use Rattle.side_world.specs.Answer.{Answer, Back, conn, idle, closed, failed}
use Rattle.side_world.specs.declared.acceptor.Accepted.{Accepted}
use Rattle.side_world.specs.declared.acceptor.Accepted.TheVariants as accepted
use Rattle.side_memory.specs.declared.memory_acceptor.AcceptorAnswer.{AcceptorAnswer}
use Rattle.side_memory.specs.declared.memory_acceptor.AcceptorAnswer.TheVariants as answer
use Rattle.side_memory.specs.declared.memory_acceptor.Visit.{Visit}
use Rattle.disk_memory.specs.Plan.{Plan, begun}
use Rattle.side_memory.specs.MemorySource.{SourceState}
use Rattle.side_memory.specs.MemorySink.{SinkState}
use Rattle.side_memory.specs.declared.memory_acceptor.AcceptorNote.{AcceptorNote}
use Rattle.side_memory.specs.declared.memory_acceptor.AcceptorNote.TheVariants as note
use Rattle.side_memory.specs.declared.memory_acceptor.Visited.{Visited}

-- what came back of a connection
abbrev pub back_of : Visited → Back
back_of visited = record { read = visited.source.taken; earlier = visited.source.earlier; written = visited.sink.contents; ended = visited.source.ended; faults = visited.source.faults; sink_faults = visited.sink.faults }

abbrev pub told_of : AcceptorNote → Answer
told_of (note.Conn None) = conn None
told_of (note.Conn (Some visited)) = conn (Some (back_of visited))
told_of note.Idle = idle
told_of note.Closed = closed
told_of note.Failed = failed

pub record AcceptorState : Type 0 where
  -- the answers that are left
  pub answers : List AcceptorAnswer
  -- the answers so far, with what came back, where they are told
  pub notes : Option (List AcceptorNote)
  pub faults : ℕ
  -- which calls of `accept` are to fail
  pub plan : Plan

-- the connection that a visit makes
abbrev pub IsVisit : Visit → SourceState → SinkState → Type 0
IsVisit visit source sink =
    (source ≡ record { taken = []; earlier = []; left = visit.input; ended = false; faults = 0; plan = begun visit.failing_reads })
    × (sink ≡ record { contents = []; faults = 0; plan = begun visit.failing_writes })

-- an answer is the first of a list, of which these are left then; behind its end no connection comes
abbrev pub StartsWith : List AcceptorAnswer → Accepted SourceState SinkState → List AcceptorAnswer → Type 0
StartsWith answers (accepted.Conn source sink) rest = (visit : Visit) × (answers ≡ answer.Conn visit ∷ rest) × IsVisit visit source sink
StartsWith answers accepted.Idle rest = answers ≡ answer.Idle ∷ rest
StartsWith answers accepted.Closed rest = (answers ≡ answer.Closed ∷ rest) ⊎ ((answers ≡ []) × (rest ≡ []))
StartsWith answers accepted.Failed rest = rest ≡ answers

-- the answer is a fault
abbrev pub IsFailed : Accepted SourceState SinkState → Type 0
IsFailed (accepted.Conn source sink) = ⊥
IsFailed accepted.Idle = ⊥
IsFailed accepted.Closed = ⊥
IsFailed accepted.Failed = Unit {0}
