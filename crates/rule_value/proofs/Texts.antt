-- The texts of an event are UTF-8.
use Rattle.std.proofs.Common.{◌≡◌, ◌∙◌, ap, sym, ℕ, List, true, IsUtf8}
use Rattle.std.specs.Str.{is_utf8}
use Rattle.std.proofs.lemmas.Str.{IsUtf8-from_is_utf8}
use Rattle.std.proofs.Math.Logic.{∥∥₁_elim}
use mathlib.Core.Bool.{Bool-set}
use Rattle.json_text.specs.declared.doc.Doc.{Doc}
use Rattle.json_text.specs.declared.doc.Node.{Node}
use Rattle.json_text.specs.declared.spot.Entry.{Entry}
use Rattle.json_text.specs.Forest.{grows}
use Rattle.json_text.specs.Shape.{IsPlaced}
use Rattle.json_text.specs.Unescape.{text_shown}
use Rattle.json_text.specs.Doc.{bytes_read, IsNode, OfNode}
use Rattle.json_text.proofs.ValueFacts.{ValueAt, placed_in}
use Rattle.json_text.proofs.Walks.{own_entry}

-- the text that a node shows
pub told_utf8 : (doc : Doc) (node : Node) (shown : List ℕ) → IsNode doc node → OfNode doc node (λ spot children later. shown ≡ text_shown (bytes_read doc) spot) → IsUtf8 shown
told_utf8 doc node shown inside is = IsUtf8-from_is_utf8 shown (∥∥₁_elim doc.read (Bool-set _ _) (λ holds. known (placed_in doc node.number holds inside)))
  where
    known : ValueAt (IsPlaced (bytes_read doc)) doc node.number → is_utf8 shown ≡ true
    known value =
        let some : Entry = record { spot = value.spot; depth = 0; size = 0 } in
        let own = ap (λ e. e.spot) (own_entry doc node.number value.spot value.children value.later value.stands some) in
        ap is_utf8 (is (grows value.spot value.children value.later) value.stands ∙ ap (text_shown (bytes_read doc)) (sym own)) ∙ (doc.readable node.number some inside).0
