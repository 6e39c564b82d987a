use Rattle.std.proofs.Common.{◌≡◌, drop, find}
use Rattle.side_base.specs.Field.{is_named}
use Rattle.side_base.proofs.field.first_named.Given as goal

abbrev pub invariant-loop-i : goal.invariant-loop-i
invariant-loop-i l = find (is_named l.name) (drop l.i l.fields) ≡ find (is_named l.name) l.fields
