use Rattle.std.proofs.Common.{◌≡◌, ◌∷◌, false, length}
use Rattle.yaml_lines.specs.declared.flow.Within.TheVariants.{Before as before}
use Rattle.yaml_lines.specs.Flow.{pieces, gathered, gathered_none}
use Rattle.yaml_lines.specs.Gathering.{gathering_shown}
use Rattle.yaml_lines.proofs.flow.gather_items.Given as goal

abbrev pub invariant-loop-gathering : goal.invariant-loop-gathering
invariant-loop-gathering l = record {
  items : gathered (gathering_shown l.gathering) ((pieces (before false) l.left).first ∷ (pieces (before false) l.left).others) ≡ gathered gathered_none ((pieces (before false) l.bytes).first ∷ (pieces (before false) l.bytes).others);
  rest : (pieces (before false) l.left).rest ≡ (pieces (before false) l.bytes).rest;
}

abbrev pub decreases-loop-gathering : goal.decreases-loop-gathering
decreases-loop-gathering l = length l.left
