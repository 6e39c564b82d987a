use Rattle.std.proofs.Common.{length}
use Rattle.std.specs.Prelude.{IfSome}
use Rattle.json_text.specs.Doc.{values_kept, IsNode, IsAfter, OfNode}
use Rattle.json_text.proofs.Members.{Going, nodes_left}
use Rattle.json_text.proofs.doc.Doc.member.Given as goal

abbrev pub invariant-loop-here : goal.invariant-loop-here
invariant-loop-here l = record {
  here_is : IfSome l.here (IsNode l.self);
  found_is : IfSome l.found (IsNode l.self);
  here_after : IfSome l.here (IsAfter l.fn.n);
  found_after : IfSome l.found (IsAfter l.fn.n);
  going : OfNode l.self l.fn.n (λ spot children later. Going l.self l.name children l.here l.found);
}

abbrev pub decreases-loop-here : goal.decreases-loop-here
decreases-loop-here l = nodes_left (length (values_kept l.self)) l.here
