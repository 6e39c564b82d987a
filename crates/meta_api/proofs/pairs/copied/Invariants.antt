use Rattle.std.proofs.Common.{◌≡◌, take}
use Rattle.meta_api.proofs.pairs.copied.Given as goal

abbrev pub invariant-loop-pair : goal.invariant-loop-pair
invariant-loop-pair l = l.copy ≡ take l.pair-index l.pairs
