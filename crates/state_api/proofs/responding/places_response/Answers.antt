use Rattle.std.proofs.Common.{rules, arith, ◌∙◌, ◌++◌, ◌∷◌, [], take, ap, sym, refl, ◌==◌, codes, decimal}
use Rattle.std.proofs.lemmas.List.{take_more}
use Rattle.json_text.proofs.Joined.{appended_next}
use Rattle.state_api.proofs.responding.places_response.Goals as goal

pub loop-i-preserved : goal.loop-i-preserved
loop-i-preserved c = appended_next decimal c.args.places c.loop-i.i c.at.result.now (c.loop-i.i == 0) (codes "refused ") c.loop-i.text c.push_next.new.text (take_more c.args.places c.loop-i.i c.at.result.now (omega (arith, c.loop-i-test.true)) ∙ ap (λ x. take c.loop-i.i c.args.places ++ x ∷ []) (sym c.at.ensures)) refl (omega (arith, c.loop-i-test.true)) c.loop-i.invariant (search rules)
