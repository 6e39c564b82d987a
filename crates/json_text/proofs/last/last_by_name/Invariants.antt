use Rattle.std.proofs.Common.{ℕ, List, length}
use Rattle.std.specs.Prelude.{IfSome}
use Rattle.std.specs.BTreeMap.{IsOrdered, get_by_text}
use Rattle.std.specs.String.{string_cmp}
use Rattle.json_text.specs.Doc.{values_kept, IsNode, OfNode}
use Rattle.json_text.proofs.Members.{Going, nodes_left}
use Rattle.json_text.proofs.last.last_by_name.Given as goal

abbrev pub invariant-loop-here : goal.invariant-loop-here
invariant-loop-here l = record {
  here_is : IfSome l.here (IsNode l.doc);
  ordered : IsOrdered string_cmp l.map;
  going : OfNode l.doc l.fn.n (λ spot children later. (name : List ℕ) → Going l.doc name children l.here (get_by_text l.map name));
}

abbrev pub decreases-loop-here : goal.decreases-loop-here
decreases-loop-here l = nodes_left (length (values_kept l.doc)) l.here
