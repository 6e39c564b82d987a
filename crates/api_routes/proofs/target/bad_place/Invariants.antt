use Rattle.std.proofs.Common.{◌≡◌, ◌<◌, ℕ, false, drop}
use Rattle.api_routes.specs.Path.{is_bad_start}
use Rattle.api_routes.proofs.target.bad_place.Given as goal

abbrev pub invariant-loop-at : goal.invariant-loop-at
invariant-loop-at l = (before : ℕ) → before < l.at → is_bad_start (drop before l.path) ≡ false
