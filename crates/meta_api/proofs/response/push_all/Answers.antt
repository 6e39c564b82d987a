use Rattle.std.proofs.Common.{rules, arith, ◌∙◌, ◌++◌, ◌∷◌, [], take, ap, sym, refl, ◌==◌, append_assoc, append-nil}
use Rattle.std.proofs.lemmas.List.{take_more}
use Rattle.json_text.proofs.Joined.{appended_next}
use Rattle.meta_api.proofs.response.push_all.Goals as goal

pub loop-i-init : goal.loop-i-init
loop-i-init g c = sym (append-nil c.args.body.now)

pub loop-i-preserved : goal.loop-i-preserved
loop-i-preserved g c =
    appended_next g.L.Listed.text c.args.list.now c.loop-i.i c.at.result.now (c.loop-i.i == 0) c.args.body.now c.loop-i.body c.push_to.new.body
    (take_more c.args.list.now c.loop-i.i c.at.result.now (omega (arith, c.loop-i-test.true)) ∙ ap (λ x. take c.loop-i.i c.args.list.now ++ x ∷ []) (sym c.at.ensures)) refl (omega (arith, c.loop-i-test.true)) c.loop-i.invariant (search (rules, append_assoc))
