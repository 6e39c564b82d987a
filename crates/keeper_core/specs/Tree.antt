-- What a list of ends holds, and what is true of it.
use Rattle.std.specs.Prelude.{ℕ, ◌-◌, min, ◌==◌, if◌then◌else◌, ◌^◌, List, [], ◌∷◌, not}
use Rattle.std.specs.List.{filter}
use Rattle.std.specs.Ordering.{eq_by_cmp}
use Rattle.std.specs.FinMap.{put}
use Rattle.keeper_core.specs.Rows.{Entry, byte_order}
use Rattle.keeper_core.specs.Ends.{end_alone}

-- the entries of the other keys
abbrev pub without : List ℕ → List Entry → List Entry
without key entries = filter (λ entry. not (eq_by_cmp byte_order key entry.0)) entries

-- the entries with this end of a key, whatever it had; 0 is none
abbrev pub with_end : List ℕ → ℕ → List Entry → List Entry
with_end key until entries = if until == 0 then without key entries else put byte_order key (end_alone until) entries

-- the last moment at which a row with this `until` is live
abbrev pub last_moment : ℕ → ℕ
last_moment until = if until == 0 then 2 ^ 64 - 1 else until - 1

-- the last moment at which each of these rows is live
abbrev pub least_of : List Entry → ℕ
least_of [] = 2 ^ 64 - 1
least_of (entry ∷ entries) = min (last_moment entry.1.until) (least_of entries)
