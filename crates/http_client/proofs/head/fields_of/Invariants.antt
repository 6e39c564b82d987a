use Rattle.std.proofs.Common.{◌≡◌, take, map}
use Rattle.http_client.specs.Taken.{header_field}
use Rattle.http_client.proofs.head.fields_of.Given as goal

abbrev pub invariant-loop-header : goal.invariant-loop-header
invariant-loop-header l = l.fields ≡ map (header_field l.text) (take l.header-index l.headers)
