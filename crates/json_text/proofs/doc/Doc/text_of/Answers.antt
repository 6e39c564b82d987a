use Rattle.std.proofs.Common.{◌≡◌, ◌++◌, sym, subst, ap, ◌∙◌}
use Rattle.std.specs.Prelude.{IfOk}
use Rattle.std.specs.Str.{IsUtf8}
use Rattle.std.proofs.lemmas.Str.{IsUtf8-from_is_utf8}
use Rattle.json_text.specs.Unescape.{text_shown}
use Rattle.json_text.specs.Doc.{bytes_read}
use Rattle.json_text.proofs.Walks.{own_spot, for_first}
use Rattle.json_text.proofs.doc.Doc.text_of.Goals as goal

pub text_from-requires : goal.text_from-requires
text_from-requires c =
    let bytes = bytes_read c.args.self.now in
    subst IsUtf8 (sym (c.in-Ok.ensures.ok ∙ ap (λ l. l ++ text_shown bytes c.entry.result.spot) c.new-out.ensures ∙ ap (λ e. text_shown bytes e.spot) c.entry.ensures))
    (IsUtf8-from_is_utf8 _ (c.args.self.now.readable c.args.n.number c.entry.result c.requires).0)

pub returns-in-Ok : goal.returns-in-Ok
returns-in-Ok c values h =
    let bytes = bytes_read c.args.self.now in
    for_first values _ _ (own_spot c.args.self.now c.args.n.number c.entry.result values c.entry.ensures h)
    (λ s children later e. subst (λ x. IfOk c.text_from.result (λ text. text ≡ x)) (c.in-Ok.ensures.ok ∙ ap (λ l. l ++ text_shown bytes c.entry.result.spot) c.new-out.ensures ∙ ap (text_shown bytes) e) c.text_from.ensures)
