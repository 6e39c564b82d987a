use Rattle.std.proofs.Common.{◌≡◌, ◌++◌}
use Rattle.std.specs.Prelude.{map}
use Rattle.yaml_lines.specs.Shown.{item_shown}
use Rattle.yaml_subset.specs.Held.{node_shown}
use Rattle.yaml_subset.specs.Tree.{item_entries}
use Rattle.yaml_subset.proofs.grow.push_items.Given as goal

abbrev pub invariant-loop-item : goal.invariant-loop-item
invariant-loop-item l = map node_shown l.nodes.items ≡ map node_shown l.fn.nodes.items ++ item_entries l.depth l.line (map item_shown l.yielded)
