-- What contracts see of a source in memory.
use Rattle.std.specs.Prelude.{ℕ, Bool, List}
use Rattle.disk_memory.specs.Plan.{Plan}

pub record SourceState : Type 0 where
  -- all bytes that reads have given
  pub taken : List ℕ
  -- those that all reads but the last have given
  pub earlier : List ℕ
  -- the bytes that are left
  pub left : List ℕ
  -- whether a read has answered the end of the input
  pub ended : Bool
  pub faults : ℕ
  -- which reads are to fail
  pub plan : Plan
