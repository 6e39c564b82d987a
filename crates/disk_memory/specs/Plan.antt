-- What contracts see of which calls of a device in memory are to fail, and how many bytes the others move.
use Rattle.std.specs.Prelude.{ℕ, ◌+◌, ◌-◌, ◌^◌, min, max, List, [], ◌∷◌, Contains}
use Rattle.disk_memory.specs.declared.schedule.Schedule.{Schedule}

pub record Plan : Type 0 where
  -- the calls that are to fail, counted from 0
  pub failing : List ℕ
  -- how many calls were made; the count stops at 2^64 - 1
  pub made : ℕ

-- no call was made, and these are to fail
abbrev pub begun : List ℕ → Plan
begun failing = record { failing = failing; made = 0 }

-- the next call is one that is to fail
abbrev pub FailsNext : Plan → Type 0
FailsNext plan = Contains plan.failing plan.made

-- after one call more
abbrev pub counted : Plan → Plan
counted plan = record { failing = plan.failing; made = min (plan.made + 1) (2 ^ 64 - 1) }

abbrev pub plan_in : Schedule → Plan
plan_in schedule = record { failing = schedule.failing; made = schedule.calls }

-- how many of the possible bytes a call moves that does not fail: at most the first of these sizes, where 0 counts as 1, and all behind their end
abbrev pub moved : List ℕ → ℕ → ℕ
moved [] possible = possible
moved (size ∷ sizes) possible = min (max size 1) possible
