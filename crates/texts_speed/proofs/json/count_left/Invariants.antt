use Rattle.std.proofs.Common.{All}
use Rattle.json_text.specs.Doc.{IsNode}
use Rattle.texts_speed.proofs.json.count_left.Given as goal

abbrev pub invariant-loop : goal.invariant-loop
invariant-loop l = All (IsNode l.doc) l.left.items
