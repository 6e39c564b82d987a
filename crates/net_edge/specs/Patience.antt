-- How much of a worker's time a peer owes, and for how long it is waited for.
use Rattle.std.specs.Prelude.{ℕ, ◌+◌, ◌-◌, ◌*◌, ◌/◌, ◌^◌, min}
use Rattle.net_edge.specs.declared.door_limits.DoorLimits.{DoorLimits}
use Rattle.net_edge.specs.declared.pace.Pace.{Pace}

-- no more than the greatest number of 64 bits
abbrev pub capped : ℕ → ℕ
capped n = min n (2 ^ 64 - 1)

-- after so many bytes, each of which gives one back of what is owed
abbrev pub after_bytes : ℕ → Pace → Pace
after_bytes n pace = record { owed = pace.owed - n; owed_while_pressed = pace.owed_while_pressed - n; waited = pace.waited }

-- after a wait of so many milliseconds, of which each has 1024 parts where others want the worker
abbrev pub after_wait : ℕ → Pace → Pace
after_wait ms pace = record { owed = capped (pace.owed + ms); owed_while_pressed = capped (pace.owed_while_pressed + capped (ms * 1024)); waited = capped (pace.waited + ms) }

-- how many milliseconds are left where nothing else wants the worker
abbrev pub left_alone : DoorLimits → Pace → ℕ
left_alone limits pace = limits.patience_ms - pace.owed

-- how many are left where something else wants it: whatever the bytes are worth, `held_ms` in all
abbrev pub left_while_pressed : DoorLimits → Pace → ℕ
left_while_pressed limits pace = min (limits.pressed_ms - pace.owed_while_pressed / 1024) (limits.held_ms - pace.waited)
