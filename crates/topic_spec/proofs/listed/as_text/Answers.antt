use Rattle.std.proofs.Common.{◌≡◌, ap, sym, ◌∙◌, Bool, true}
use Rattle.std.specs.Prelude.{Ok}
use Rattle.json_text.specs.Doc.{bytes_read}
use Rattle.topic_spec.specs.Listed.{is_text, kind_of, shown, provided}
use Rattle.topic_spec.proofs.Members.{at_node}
use Rattle.topic_spec.proofs.listed.as_text.Goals as goal

pub returns-in-Ok : goal.returns-in-Ok
returns-in-Ok c values at =
    let doc = c.args.doc.now in
    let text : is_text (kind_of values) ≡ true = sym (c.is_text.ensures values at) ∙ c.if-not-is_text.false in
    ap (λ test. provided test c.args.field.now (Ok (shown (bytes_read doc) values))) text
    ∙ ap Ok (ap (shown (bytes_read doc)) at.are ∙ sym (at_node doc c.args.n _ c.in-Ok.ensures values at))
