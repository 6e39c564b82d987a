-- Writes of a store. Their versions are not theirs: the upserts of all writes are numbered in order.
use Rattle.std.specs.Prelude.{ℕ, ◌+◌, List, [], ◌∷◌, take, map}
use Rattle.keeper_core.specs.Rows.{Rows, lapsed}
use Rattle.keeper_core.specs.Changes.{after_changes}
use Rattle.keeper_core.specs.declared.changes.Change.{Change}
use Rattle.keeper_core.specs.declared.changes.Change.TheVariants.{Put, Remove}

pub data Write : Type 0 where
  -- `until` is when it ends to live, 0 for never
  upsert : (key value : List ℕ) → (until : ℕ) → Write
  removal : (key : List ℕ) → Write

-- how many of the writes are upserts
abbrev pub upserts : List Write → ℕ
upserts [] = 0
upserts (upsert key value until ∷ writes) = 1 + upserts writes
upserts (removal key ∷ writes) = upserts writes

-- the writes as a keeper gets them, the first upsert with the version `next`, each further one with the next greater
abbrev pub numbered : ℕ → List Write → List Change
numbered next [] = []
numbered next (upsert key value until ∷ writes) = Put key value next until ∷ numbered (next + 1) writes
numbered next (removal key ∷ writes) = Remove key ∷ numbered next writes

-- what the last write of each key leaves, over these rows
abbrev pub rows_after : Rows → ℕ → List Write → Rows
rows_after rows next writes = after_changes rows (numbered next writes)

-- the removals of the first 1,024 keys, in byte order, whose rows are not live
abbrev pub sweep : Rows → ℕ → List Write
sweep rows moment = map (λ key. removal key) (take 1024 (lapsed rows moment))
