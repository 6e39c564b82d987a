use Rattle.std.proofs.Common.{ap, ◌∙◌}
use Rattle.json_text.specs.Unescape.{text_shown}
use Rattle.json_text.specs.Doc.{bytes_read}
use Rattle.json_text.proofs.Walks.{own_spot, for_first}
use Rattle.json_text.proofs.doc.Doc.text_bytes.Goals as goal

pub returns : goal.returns
returns c values h = for_first values _ _ (own_spot c.args.self.now c.args.n.number c.entry.result values c.entry.ensures h) (λ s children later e. c.of_inside.ensures ∙ c.text_inside.ensures.spells ∙ ap (text_shown (bytes_read c.args.self.now)) e)
