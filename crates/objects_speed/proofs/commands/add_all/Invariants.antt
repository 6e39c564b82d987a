use Rattle.std.proofs.Common.{All}
use Rattle.state_core.specs.Taken.{IsTaken}
use Rattle.objects_speed.proofs.commands.add_all.Given as goal

abbrev pub invariant-loop-i : goal.invariant-loop-i
invariant-loop-i l = All IsTaken l.cmds.items
