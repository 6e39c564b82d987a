use Rattle.std.proofs.Common.{◌≡◌, drop}
use Rattle.json_text.proofs.FirstHolders.{first_in}
use Rattle.json_text.proofs.doc.Doc.first_inside.Given as goal

abbrev pub invariant-loop-number : goal.invariant-loop-number
invariant-loop-number l = first_in l.depth (drop l.number l.entry-items) ≡ first_in l.depth l.entry-items
