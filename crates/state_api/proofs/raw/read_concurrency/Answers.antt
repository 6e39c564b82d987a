use Rattle.std.proofs.Common.{sym, ◌∙◌}
use Rattle.json_text.specs.Doc.{bytes_read}
use Rattle.state_api.specs.Given.{Gives}
use Rattle.state_api.specs.Raw.{concurrency_in}
use Rattle.state_api.proofs.Nodes.{at_some}
use Rattle.state_api.proofs.Following.{held_on, failed}
use Rattle.state_api.proofs.raw.read_concurrency.Goals as goal

pub returns-then-not-is_map : goal.returns-then-not-is_map
returns-then-not-is_map c = at_some c.args.doc.now c.args.options c.in-Some.n _ c.in-Some.is (λ v st. failed _ _ _ (sym (c.is_map.ensures v st) ∙ c.if-not-is_map.true))

pub returns-else-not-is_map : goal.returns-else-not-is_map
returns-else-not-is_map c = at_some c.args.doc.now c.args.options c.in-Some.n (λ v. Gives c.optional.result (concurrency_in (bytes_read c.args.doc.now) v)) c.in-Some.is (λ v st. held_on _ _ _ c.optional.result (sym (c.is_map.ensures v st) ∙ c.if-not-is_map.false) (c.optional.ensures v st))
