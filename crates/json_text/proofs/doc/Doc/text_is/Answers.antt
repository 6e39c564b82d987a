use Rattle.std.proofs.Common.{subst}
use Rattle.std.specs.Prelude.{IsTrue, ◌↔◌}
use Rattle.json_text.specs.Unescape.{HasText}
use Rattle.json_text.specs.Doc.{bytes_read}
use Rattle.json_text.proofs.Walks.{own_spot, for_first}
use Rattle.json_text.proofs.doc.Doc.text_is.Goals as goal

pub returns : goal.returns
returns c values h = for_first values _ _ (own_spot c.args.self.now c.args.n.number c.entry.result values c.entry.ensures h) (λ s children later e. subst (λ x. IsTrue c.has_text.result ↔ HasText (bytes_read c.args.self.now) x c.args.text.now) e c.has_text.ensures)
