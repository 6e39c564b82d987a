use Rattle.std.proofs.Common.{◌≡◌, ◌++◌, map, take, codes}
use Rattle.state_api.specs.Response.{joined, row_text}
use Rattle.state_api.proofs.responding.bulk_response.Given as goal

abbrev pub invariant-loop-i : goal.invariant-loop-i
invariant-loop-i l = l.body ≡ codes "[" ++ joined (map (row_text l.fn.skip) (take l.i l.fn.rows))
