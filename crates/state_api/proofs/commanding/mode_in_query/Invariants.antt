use Rattle.std.proofs.Common.{◌≡◌, map, length}
use Rattle.std.specs.Prelude.{codes}
use Rattle.form_urlencoded.specs.Parse.{pairs_left}
use Rattle.form_urlencoded.specs.Form.{raw_pairs}
use Rattle.state_api.specs.Asked.{decoded, value_of}
use Rattle.state_api.proofs.commanding.mode_in_query.Given as goal

abbrev pub invariant-loop-pair : goal.invariant-loop-pair
invariant-loop-pair l = value_of (codes "concurrency") (map decoded (pairs_left l.pairs)) ≡ value_of (codes "concurrency") (map decoded (raw_pairs l.query))

abbrev pub decreases-loop-pair : goal.decreases-loop-pair
decreases-loop-pair l = length (pairs_left l.pairs)
