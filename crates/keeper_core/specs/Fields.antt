-- What a change of one node's fields is.
use Rattle.std.specs.Prelude.{◌≡◌, ◌≢◌, ℕ, List, length, slice_get, option_map}
use Rattle.keeper_core.specs.declared.links.Link.{Link}

-- one node was changed so; the others are as they were
pub record Rewritten (change : Link → Link) (old new : List Link) (at : ℕ) : Type 0 where
  pub here : slice_get new at ≡ option_map change (slice_get old at)
  pub others : (slot : ℕ) → slot ≢ at → slice_get new slot ≡ slice_get old slot
  pub len : length new ≡ length old

abbrev pub with_left : ℕ → Link → Link
with_left left link = record link { left = left }

abbrev pub with_right : ℕ → Link → Link
with_right right link = record link { right = right }

abbrev pub with_parent : ℕ → Link → Link
with_parent parent link = record link { parent = parent }

abbrev pub with_marks : ℕ → ℕ → Link → Link
with_marks least height link = record link { least = least; height = height }

abbrev pub with_until : ℕ → Link → Link
with_until until link = record link { until = until }

abbrev pub with_least : ℕ → Link → Link
with_least least link = record link { least = least }
