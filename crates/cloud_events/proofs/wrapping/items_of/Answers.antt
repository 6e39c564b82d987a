use Rattle.std.proofs.Common.{List, sym, subst, ◌∙◌}
use Rattle.json_text.specs.Forest.{grows}
use Rattle.json_text.specs.Doc.{bytes_read}
use Rattle.cloud_events.specs.declared.item.Item.{Item}
use Rattle.cloud_events.specs.Items.{AreSaid, item_in}
use Rattle.cloud_events.specs.Judge.{AreEvents}
use Rattle.cloud_events.proofs.Results.{err_weaker, ok_both}
use Rattle.cloud_events.proofs.Wraps.{root_at, sent_from, refused_from, no_map}
use Rattle.cloud_events.proofs.wrapping.items_of.Goals as goal

pub returns-then-not-is_map-clause-err : goal.returns-then-not-is_map-clause-err
returns-then-not-is_map-clause-err c bytes shows =
    let at = root_at c.args.doc.now bytes c.root-root.result shows c.root-root.ensures.first in
    no_map c.args.doc.now bytes c.root-root.result at (sym (c.is_map.ensures (grows at.spot at.children at.later) at.stands) ∙ c.if-not-is_map.true)

pub returns-in-Ok-clause-ok : goal.returns-in-Ok-clause-ok
returns-in-Ok-clause-ok c bytes shows =
    let doc = c.args.doc.now in
    let root = c.root-root.result in
    let at = root_at doc bytes root shows c.root-root.ensures.first in
    ok_both c.judged.result _ _ _ (λ those e events. sent_from doc bytes root shows at those.items (sym (c.is_map.ensures (grows at.spot at.children at.later) at.stands) ∙ c.if-not-is_map.false)
    (subst (λ (xs : List Item). AreSaid (bytes_read doc) at.children xs) (sym e) (c.in-Ok.ensures (grows at.spot at.children at.later) at.stands)) (subst (λ (xs : List Item). AreEvents (λ name. item_in name xs)) (sym e) events)) c.judged.ensures.same c.judged.ensures.ok

pub returns-in-Ok-clause-err : goal.returns-in-Ok-clause-err
returns-in-Ok-clause-err c bytes shows =
    let doc = c.args.doc.now in
    let root = c.root-root.result in
    let at = root_at doc bytes root shows c.root-root.ensures.first in
    let said = c.in-Ok.ensures (grows at.spot at.children at.later) at.stands in
    err_weaker c.judged.result _ _ (λ e h. refused_from doc bytes root shows at c.in-Ok.items.items (sym (c.is_map.ensures (grows at.spot at.children at.later) at.stands) ∙ c.if-not-is_map.false) said e h) (c.judged.ensures.err said.rise)
