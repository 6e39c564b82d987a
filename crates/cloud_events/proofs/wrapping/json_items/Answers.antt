use Rattle.std.proofs.Common.{List, ℕ, Err, ap, subst}
use Rattle.json_text.specs.declared.error.JsonErr.{JsonErr}
use Rattle.cloud_events.specs.Wrapped.{IsDataRefusal}
use Rattle.cloud_events.proofs.Results.{err_weaker}
use Rattle.cloud_events.proofs.Wraps.{unread_data}
use Rattle.cloud_events.proofs.wrapping.json_items.Goals as goal

pub returns-in-Ok-clause-ok : goal.returns-in-Ok-clause-ok
returns-in-Ok-clause-ok c = c.root_items.ensures.ok c.bytes.result.now c.in-Ok.ensures.ok c.bytes.ensures

pub returns-in-Ok-clause-err : goal.returns-in-Ok-clause-err
returns-in-Ok-clause-err c = err_weaker c.root_items.result _ _ (λ e h. subst (λ (b : List ℕ). IsDataRefusal b e) c.bytes.ensures h) (c.root_items.ensures.err c.bytes.result.now c.in-Ok.ensures.ok)

pub returns-in-Err-clause-err : goal.returns-in-Err-clause-err
returns-in-Err-clause-err c =
    subst (λ (b : List ℕ). IsDataRefusal b c.unread.result) c.bytes.ensures (unread_data c.bytes.result.now c.in-Err.error c.unread.result c.unread.ensures (λ at e. c.in-Err.ensures.bad at (ap (λ (x : JsonErr). Err x) e)) (λ at e. c.in-Err.ensures.deep at (ap (λ (x : JsonErr). Err x) e)))
