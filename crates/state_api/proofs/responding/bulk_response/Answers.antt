use Rattle.std.proofs.Common.{rules, arith, ◌∙◌, ◌++◌, ◌∷◌, [], take, ap, sym, refl, ◌==◌, codes}
use Rattle.std.proofs.lemmas.List.{take_more}
use Rattle.state_api.specs.Response.{row_text}
use Rattle.json_text.proofs.Joined.{appended_next}
use Rattle.state_api.proofs.responding.bulk_response.Goals as goal

pub loop-i-preserved : goal.loop-i-preserved
loop-i-preserved c = appended_next (row_text c.args.skip) c.args.rows c.loop-i.i c.at.result.now (c.loop-i.i == 0) (codes "[") c.loop-i.body c.push_row.new.body (take_more c.args.rows c.loop-i.i c.at.result.now (omega (arith, c.loop-i-test.true)) ∙ ap (λ x. take c.loop-i.i c.args.rows ++ x ∷ []) (sym c.at.ensures)) refl (omega (arith, c.loop-i-test.true)) c.loop-i.invariant (search rules)
