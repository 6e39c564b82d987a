use Rattle.std.proofs.Common.{◌≡◌, ◌++◌, map, take}
use Rattle.meta_api.specs.Body.{joined}
use Rattle.meta_api.proofs.response.push_all.Given as goal

abbrev pub invariant-loop-i : goal.invariant-loop-i
invariant-loop-i g l = l.body ≡ l.fn.body ++ joined (map g.L.Listed.text (take l.i l.list))
