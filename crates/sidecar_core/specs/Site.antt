-- A store as requests find it.
use Rattle.std.specs.Prelude.{ℕ, List}
use Rattle.retry_core.specs.declared.policy.Bound.{Bound}
use Rattle.state_core.specs.declared.command.Prefix.{Prefix}

-- the name of its component, what stands before its keys, and what is bound to the calls that are sent to it
pub record Site : Type 0 where
  pub name : List ℕ
  pub prefix : Prefix
  pub bound : Bound
