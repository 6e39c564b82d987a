use Rattle.std.proofs.Common.{ap, sym, ◌∙◌}
use Rattle.cloud_events.specs.Placing.{put, put_at}
use Rattle.std.proofs.lemmas.Result.{on_ok_weaker}
use Rattle.cloud_events.proofs.placing.put.Goals as goal

pub returns : goal.returns
returns c = on_ok_weaker c.store.result (λ e. e ∙ ap (put_at c.place_of-place.result c.args.item) (sym c.as_slice.ensures.value) ∙ sym (c.place_of-place.ensures.place c.args.item (sym c.bytes.ensures.value)) ∙ ap (put c.args.item) c.as_slice.ensures.value) c.store.ensures
