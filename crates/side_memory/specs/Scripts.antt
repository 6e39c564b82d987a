-- What is prepared for the workers of an outside in memory.
use Rattle.std.specs.Prelude.{◌≡◌, ◌<◌, ℕ, List, [], length, slice_index_or, Option, Some, None}
use Rattle.side_world.specs.declared.outside.WorkerParts.{WorkerParts}
use Rattle.disk_memory.specs.Plan.{begun}
use Rattle.side_memory.specs.MemoryAcceptor.{AcceptorState}
use Rattle.side_memory.specs.MemoryLink.{LinkState}
use Rattle.side_memory.specs.MemoryClock.{ClockState}
use Rattle.side_memory.specs.declared.worker_script.WorkerScript.{WorkerScript}

-- what was prepared for this number
abbrev pub IsAt : List (Option WorkerScript) → ℕ → WorkerScript → Type 0
IsAt scripts number script = (number < length scripts) × (slice_index_or scripts number None ≡ Some script)

-- the parts that a script makes
pub record IsBegun (script : WorkerScript) (parts : WorkerParts AcceptorState LinkState ClockState) : Type 0 where
  pub acceptor : parts.acceptor ≡ record { answers = script.answers; notes = Some []; faults = 0; plan = begun script.failing_accepts }
  pub link : parts.link ≡ record { answers = script.link_answers; calls = Some []; faults = 0; expiries = 0; plan = begun script.failing_calls }
  pub clock : parts.clock ≡ record { last = script.first; paused = 0; steps = script.steps; ticks = Some [] }
