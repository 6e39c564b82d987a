use Rattle.std.proofs.Common.{◌≡◌, length}
use Rattle.std.specs.Prelude.{All}
use Rattle.state_api.specs.Given.{each}
use Rattle.state_api.proofs.Following.{joined}
use Rattle.state_api.proofs.part.ask_all.Given as goal

abbrev pub invariant-loop-part : goal.invariant-loop-part
invariant-loop-part g l = record {
  same : joined l.asked (each (g.P.Part.means l.prefix) l.parts) ≡ each (g.P.Part.means l.prefix) l.fn.parts;
  fine : All (g.P.Part.fine l.prefix) l.asked;
}

abbrev pub decreases-loop-part : goal.decreases-loop-part
decreases-loop-part g l = length l.parts
