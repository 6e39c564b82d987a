use Rattle.std.proofs.Common.{◌≡◌, drop}
use Rattle.std.specs.List.{list_all}
use Rattle.http_client.specs.Written.{is_field}
use Rattle.http_client.proofs.written.are_fields.Given as goal

abbrev pub invariant-loop-i : goal.invariant-loop-i
invariant-loop-i l = list_all is_field (drop l.i l.fields) ≡ list_all is_field l.fields
