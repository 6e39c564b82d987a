use Rattle.std.proofs.Common.{◌≡◌, ◌++◌, take, drop}
use Rattle.meta_api.specs.declared.command.Pair.{Pair}
use Rattle.meta_api.specs.Book.{put}
use Rattle.meta_api.proofs.pairs.place_of.Given as goal

abbrev pub invariant-loop-at : goal.invariant-loop-at
invariant-loop-at l = (pair : Pair) → pair.name ≡ l.name → put pair l.pairs ≡ take l.at l.pairs ++ put pair (drop l.at l.pairs)
