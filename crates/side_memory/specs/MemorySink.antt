-- What contracts see of a sink in memory.
use Rattle.std.specs.Prelude.{ℕ, List}
use Rattle.disk_memory.specs.Plan.{Plan}

pub record SinkState : Type 0 where
  -- all bytes that were written
  pub contents : List ℕ
  pub faults : ℕ
  -- which writes are to fail
  pub plan : Plan
