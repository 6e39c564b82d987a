use Rattle.std.proofs.Common.{◌≡◌, ap, sym, ◌∙◌}
use Rattle.json_text.specs.Told.{told_at, inside_of}
use Rattle.json_text.specs.Unescape.{text_shown}
use Rattle.json_text.specs.Doc.{bytes_read}
use Rattle.json_text.proofs.Walks.{own_spot, for_first}
use Rattle.json_text.proofs.doc.Doc.text.Goals as goal

pub returns : goal.returns
returns c values h =
    let doc = c.args.self.now in
    for_first values _ _ (own_spot doc c.args.n.number c.entry.result values c.entry.ensures h) (λ s children later e.
    c.text.ensures ∙ ap (told_at doc.told c.args.n.number) (c.text_inside.ensures.inside ∙ ap (λ x. inside_of (bytes_read doc) x.spot) c.entry.ensures)
    ∙ doc.whole c.args.n.number c.entry.result c.requires ∙ ap (text_shown (bytes_read doc)) (ap (λ x. x.spot) (sym c.entry.ensures) ∙ e))
