use Rattle.std.proofs.Common.{ℕ, ◌<◌, true}
use Rattle.state_api.specs.Values.{IsTextAt}
use Rattle.state_api.proofs.values.all_texts.Given as goal

abbrev pub invariant-loop-i : goal.invariant-loop-i
invariant-loop-i l = (k : ℕ) → k < l.i → IsTextAt l.doc l.members true k
