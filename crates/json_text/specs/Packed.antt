-- How the name of a value is kept.
use Rattle.std.specs.Prelude.{ℕ, ◌==◌, if◌then◌else◌, Option, Some, None}
use Rattle.json_text.specs.declared.spot.Span.{Span}

-- the bytes between two places; no name where the second is 0
abbrev pub name_kept : ℕ → ℕ → Option Span
name_kept start end = if end == 0 then None else Some (record { start = start; end = end })
