use Rattle.drill.specs.Requests.{words_of}
use Rattle.drill.proofs.Words.{Drawn}
use Rattle.drill.proofs.generating.push_requests.Given as goal

abbrev pub invariant-loop-left : goal.invariant-loop-left
invariant-loop-left g l = Drawn (words_of l.fn.n (g.R.Rng.stream l.fn.words)) l.fn.out l.out l.left (g.R.Rng.stream l.words)

abbrev pub decreases-loop-left : goal.decreases-loop-left
decreases-loop-left g l = l.left
