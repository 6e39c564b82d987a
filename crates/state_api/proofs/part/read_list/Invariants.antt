use Rattle.std.proofs.Common.{List, length}
use Rattle.std.specs.Prelude.{IfSome}
use Rattle.json_text.specs.Doc.{IsNode, bytes_read, values_kept}
use Rattle.state_api.specs.Values.{IsAt, Value}
use Rattle.state_api.specs.Kept.{Kept}
use Rattle.state_api.proofs.Gathering.{Gathered, nodes_left}
use Rattle.state_api.proofs.part.read_list.Given as goal

abbrev pub invariant-loop-here : goal.invariant-loop-here
invariant-loop-here g l = record {
  here_is : IfSome l.here (IsNode l.doc);
  going : (value : Value) → IsAt l.doc l.fn.n value → (read : List g.row.P.Denot) × Gathered (g.P.Part.says (bytes_read l.doc)) l.doc value l.here read × Kept l.many l.parts read;
}

abbrev pub decreases-loop-here : goal.decreases-loop-here
decreases-loop-here g l = nodes_left (length (values_kept l.doc)) l.here
