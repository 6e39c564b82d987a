use Rattle.std.proofs.Common.{sym, ap, ◌∙◌}
use Rattle.std.specs.String.{string_bytes}
use Rattle.json_text.specs.Doc.{bytes_read}
use Rattle.json_text.proofs.Walks.{own_spot, for_first}
use Rattle.json_lexemes.proofs.Spelled.{on_ok}
use Rattle.json_text.proofs.LastNames.{noted_none, noted_some, for_both}
use Rattle.json_text.proofs.last.note.Goals as goal

pub returns-in-None-clause-noted : goal.returns-in-None-clause-noted
returns-in-None-clause-noted c values h =
    for_first values _ _ (own_spot c.args.doc.now c.args.node.number c.entry.result values c.entry.ensures h)
    (λ s children later e name. noted_none (bytes_read c.args.doc.now) s name c.args.node _ (ap (λ x. x.name) (sym e) ∙ c.in-None.is))

pub returns-in-Ok-clause-noted : goal.returns-in-Ok-clause-noted
returns-in-Ok-clause-noted c values h =
    for_both values _ _ _ (own_spot c.args.doc.now c.args.node.number c.entry.result values c.entry.ensures h) (c.in-Ok.ensures values h)
    (λ s children later e shown. on_ok c.put.result _ _ c.put.ensures.put (λ put name. noted_some (bytes_read c.args.doc.now) s c.in-Some.field-0 name (string_bytes c.in-Ok.name) c.args.node _ _ (ap (λ x. x.name) (sym e) ∙ c.in-Some.is) shown (put name)))
