use Rattle.std.proofs.Common.{◌≡◌, ◌+◌, ◌<◌, length, arith, rules, get_or, sym, subst}
use Rattle.json_text.proofs.Whole.{telling_next}
use Rattle.json_text.proofs.told.texts_told.Goals as goal

pub loop-i-preserved : goal.loop-i-preserved
loop-i-preserved c =
    telling_next c.args.bytes.now c.args.nodes.now c.loop-i.i c.loop-i.told c.add.new.told c.unpacked.result c.text_inside.result.now (subst (λ e. e ≡ get_or c.args.nodes.now c.loop-i.i e) (sym c.unpacked.ensures) c.index-nodes-i.is) (omega (arith, c.loop-i-test.true)) c.text_inside.ensures.inside
    c.in-Ok.ensures c.loop-i.invariant
