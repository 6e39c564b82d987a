use Rattle.std.proofs.Common.{sym, ◌∙◌, Err, List, ℕ, Option}
use Rattle.json_text.specs.Doc.{bytes_read}
use Rattle.state_api.specs.Given.{Gives}
use Rattle.state_api.specs.Raw.{ttl_text_in}
use Rattle.state_api.proofs.Nodes.{at_some}
use Rattle.state_api.proofs.Following.{held, held_on, failed, in_ok, of_ok}
use Rattle.state_api.proofs.raw.read_ttl.Goals as goal

pub returns-then-not-is_map : goal.returns-then-not-is_map
returns-then-not-is_map c = at_some c.args.doc.now c.args.metadata c.in-Some.n _ c.in-Some.is (λ v st. failed _ _ _ (sym (c.is_map.ensures v st) ∙ c.if-not-is_map.true))

pub returns-then-all : goal.returns-then-all
returns-then-all c = at_some c.args.doc.now c.args.metadata c.in-Some.n (λ v. Gives c.optional.result (ttl_text_in (bytes_read c.args.doc.now) v)) c.in-Some.is (λ v st.
    held_on _ _ _ c.optional.result (sym (c.is_map.ensures v st) ∙ c.if-not-is_map.false)
    (held_on _ _ _ c.optional.result (in_ok _ _ (c.in-Ok.ensures v st) ∙ c.if-all.true) (c.optional.ensures v st)))

pub returns-else-all : goal.returns-else-all
returns-else-all c = at_some c.args.doc.now c.args.metadata c.in-Some.n _ c.in-Some.is (λ v st.
    held _ _ _ _ (sym (c.is_map.ensures v st) ∙ c.if-not-is_map.false)
    (failed _ _ _ (in_ok _ _ (c.in-Ok.ensures v st) ∙ c.if-all.false)))

pub returns-in-Err : goal.returns-in-Err
returns-in-Err c = at_some c.args.doc.now c.args.metadata c.in-Some.n (λ v. Gives {A = Option (List ℕ)} (Err c.in-Err.error) (ttl_text_in (bytes_read c.args.doc.now) v)) c.in-Some.is (λ v st. of_ok _ _ _ (c.in-Err.ensures v st))
