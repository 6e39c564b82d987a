use Rattle.std.proofs.Common.{take}
use Rattle.side_world.proofs.Listed.{KeptOf}
use Rattle.side_world.proofs.names.yaml_names.Given as goal

-- those of the first names that end so
abbrev pub invariant-loop-i : goal.invariant-loop-i
invariant-loop-i l = KeptOf (take l.i l.names) l.kept.keys
