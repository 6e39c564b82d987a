-- What contracts see of a source that never fails.
use Rattle.std.specs.Prelude.{ℕ, Bool, List}

pub record BytesState : Type 0 where
  -- all bytes that reads have given
  pub taken : List ℕ
  -- those that all reads but the last have given
  pub earlier : List ℕ
  -- the bytes that are left
  pub left : List ℕ
  -- whether a read has answered the end of the input
  pub ended : Bool
