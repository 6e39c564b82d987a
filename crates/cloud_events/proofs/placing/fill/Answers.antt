use Rattle.std.proofs.Common.{sym, ◌∙◌}
use Rattle.std.proofs.lemmas.Result.{on_ok_weaker}
use Rattle.cloud_events.proofs.Putting.{kept_by, put_by}
use Rattle.cloud_events.proofs.placing.fill.Goals as goal

pub returns-then-is_there : goal.returns-then-is_there
returns-then-is_there c = kept_by c.args.items.now.items c.args.item c.bytes.result.now c.as_slice.result.now c.bytes.ensures.value c.as_slice.ensures.value (sym c.is_there.ensures ∙ c.if-is_there.true)

pub returns : goal.returns
returns c =
    on_ok_weaker c.put.result (λ e. put_by c.args.items.now.items c.put.new.items.items c.args.item c.bytes.result.now c.as_slice.result.now c.bytes.ensures.value c.as_slice.ensures.value (sym c.is_there.ensures ∙ c.if-is_there.false) e) c.put.ensures
