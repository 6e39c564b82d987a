use Rattle.std.proofs.Common.{◌≡◌, ◌≤◌, take}
use Rattle.std.specs.List.{count_by}
use Rattle.side_base.specs.Field.{is_named}
use Rattle.http_client.proofs.framing.count_named.Given as goal

abbrev pub invariant-loop-i : goal.invariant-loop-i
invariant-loop-i l = (l.count ≤ l.i) × (l.count ≡ count_by (is_named l.name) (take l.i l.fields))
