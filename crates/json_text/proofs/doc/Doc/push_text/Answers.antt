use Rattle.std.proofs.Common.{◌≡◌, ◌++◌, subst}
use Rattle.std.specs.Prelude.{OnOk}
use Rattle.json_text.specs.Unescape.{text_shown}
use Rattle.json_text.specs.Doc.{bytes_read}
use Rattle.json_text.proofs.Walks.{own_spot, for_first}
use Rattle.json_text.proofs.doc.Doc.push_text.Goals as goal

pub returns-clause-ok : goal.returns-clause-ok
returns-clause-ok c values h =
    let bytes = bytes_read c.args.self.now in
    for_first values _ _ (own_spot c.args.self.now c.args.n.number c.entry.result values c.entry.ensures h)
    (λ s children later e. subst (λ x. OnOk c.push_text_of.result (c.push_text_of.new.out ≡ c.args.out.now ++ text_shown bytes x)) e c.push_text_of.ensures.ok)
