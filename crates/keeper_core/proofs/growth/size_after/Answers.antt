use Rattle.std.proofs.Common.{◌≡◌, ◌+◌, ◌-◌, ◌∷◌, ◌++◌, [], take, sym, ap, ◌∙◌, subst, arith}
use Rattle.std.specs.Prelude.{unwrap_or}
use Rattle.std.specs.BTreeMap.{get as got}
use Rattle.std.proofs.lemmas.List.{take_more}
use Rattle.keeper_core.specs.Rows.{bytes_in}
use Rattle.keeper_core.specs.Changes.{after_change, after_changes}
use Rattle.keeper_core.specs.Growth.{bytes_at}
use Rattle.keeper_core.proofs.Overlay.{Notes, borrowed_order, noted_most, notes_more, bytes_more, after_changes-append}
use Rattle.keeper_core.proofs.growth.size_after.Goals as goal

pub overflow_sub-len : goal.overflow_sub-len
overflow_sub-len c =
    let before : c.noted_or_kept-before.result ≡ unwrap_or (got borrowed_order c.loop-change.taken c.key_of-key.result) (bytes_at c.args.table.now.rows c.key_of-key.result.now) = c.noted_or_kept-before.ensures ∙ ap (λ noted. unwrap_or noted (bytes_at c.args.table.now.rows c.key_of-key.result.now)) c.in_ok-noted.ensures.old in
    omega (arith, noted_most _ _ _ c.key_of-key.result _ c.loop-change.invariant.notes before, c.loop-change.invariant.len_is)

pub loop-change-preserved : goal.loop-change-preserved
loop-change-preserved c =
    let before : c.noted_or_kept-before.result ≡ unwrap_or (got borrowed_order c.loop-change.taken c.key_of-key.result) (bytes_at c.args.table.now.rows c.key_of-key.result.now) = c.noted_or_kept-before.ensures ∙ ap (λ noted. unwrap_or noted (bytes_at c.args.table.now.rows c.key_of-key.result.now)) c.in_ok-noted.ensures.old in
    let fits = noted_most _ _ _ c.key_of-key.result _ c.loop-change.invariant.notes before in
    let changes : after_changes c.args.table.now.rows (take (c.loop-change.change-index + 1) c.args.changes.now) ≡ after_change (after_changes c.args.table.now.rows (take c.loop-change.change-index c.args.changes.now)) c.change-item.result =
    ap (after_changes c.args.table.now.rows) (take_more c.args.changes.now c.loop-change.change-index c.change-item.result (omega arith))
    ∙ ap (λ change. after_changes c.args.table.now.rows (take c.loop-change.change-index c.args.changes.now ++ change ∷ [])) (sym c.change-item.is)
    ∙ after_changes-append c.args.table.now.rows (take c.loop-change.change-index c.args.changes.now) c.change-item.result in
    record {
      len_is = ap (λ len. len - c.noted_or_kept-before.result + c.bytes_after-after.result) c.loop-change.invariant.len_is
          ∙ bytes_more _ _ _ _ c.key_of-key.result _ _ c.loop-change.invariant.notes c.key_of-key.ensures c.bytes_after-after.ensures.exact before
          ∙ ap bytes_in (sym changes);
      notes = subst (Notes c.insert.new.self c.args.table.now.rows) (sym changes) (notes_more _ _ _ _ _ c.key_of-key.result _ c.loop-change.invariant.notes c.key_of-key.ensures c.bytes_after-after.ensures.exact c.in_ok-noted.ensures.updates);
      few = omega (arith, c.bytes_after-after.ensures.limit, c.loop-change.invariant.few);
    }
