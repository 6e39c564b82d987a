-- What the devices of a drill show.
use Rattle.std.specs.Prelude.{ℕ, List}

-- a sink: its bytes, and how often a write found no memory
pub record Written : Type 0 where
  pub contents : List ℕ
  pub faults : ℕ
