use Rattle.std.proofs.Common.{◌≡◌, ◌+◌, ◌∷◌, ◌++◌, [], take, sym, ap, ◌∙◌, arith}
use Rattle.std.proofs.lemmas.List.{take_more}
use Rattle.keeper_core.specs.Growth.{bytes_put}
use Rattle.keeper_core.proofs.Overlay.{bytes_put-append}
use Rattle.keeper_core.proofs.growth.bytes_put.Goals as goal

pub overflow_add-put : goal.overflow_add-put
overflow_add-put c = omega (arith, c.bytes_after-put.ensures.limit, c.loop-change.invariant.few)

pub loop-change-preserved : goal.loop-change-preserved
loop-change-preserved c =
    let i = c.loop-change.change-index in
    let put : bytes_put (take (i + 1) c.args.changes.now) ≡ bytes_put (take i c.args.changes.now ++ c.change-item.result ∷ []) =
    ap bytes_put (take_more c.args.changes.now i c.change-item.result (omega arith) ∙ ap (λ change. take i c.args.changes.now ++ change ∷ []) (sym c.change-item.is)) in
    record {
      so_far = omega (arith, put, bytes_put-append (take i c.args.changes.now) c.change-item.result, c.loop-change.invariant.so_far, c.bytes_after-put.ensures.exact);
      few = omega (arith, c.bytes_after-put.ensures.limit, c.loop-change.invariant.few);
    }
