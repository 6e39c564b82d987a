use Rattle.std.proofs.Common.{◌≡◌, max, drop}
use Rattle.json_text.specs.Levels.{levels_below}
use Rattle.json_text.proofs.levels.levels_below.Given as goal

abbrev pub invariant-loop-entry : goal.invariant-loop-entry
invariant-loop-entry l = max l.deepest (levels_below l.depth (drop l.entry-index l.values)) ≡ levels_below l.depth l.values
