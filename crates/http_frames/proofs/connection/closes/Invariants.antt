use Rattle.std.proofs.Common.{◌≡◌, drop}
use Rattle.std.specs.List.{list_any}
use Rattle.http_frames.specs.Closes.{is_close}
use Rattle.http_frames.proofs.connection.closes.Given as goal

abbrev pub invariant-loop-i : goal.invariant-loop-i
invariant-loop-i l = list_any is_close (drop l.i l.request.fields) ≡ list_any is_close l.request.fields
