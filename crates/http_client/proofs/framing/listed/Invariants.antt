use Rattle.std.proofs.Common.{◌≡◌, take}
use Rattle.std.specs.List.{flat_map}
use Rattle.http_client.specs.Replies.{listed_by}
use Rattle.http_client.proofs.framing.listed.Given as goal

abbrev pub invariant-loop-i : goal.invariant-loop-i
invariant-loop-i l = l.value ≡ flat_map listed_by (take l.i l.fields)
