use Rattle.std.proofs.Common.{rules, tests}
use Rattle.std.proofs.lemmas.Iterator.Splits.{YieldsList-from_slice_split}
use Rattle.std.proofs.lemmas.Iterator.Search.{any_from_yields_List}
use Rattle.topic_spec.specs.Scopes.{has_topic, is_name}
use Rattle.topic_spec.proofs.scopes.has_topic.Goals as goal

pub returns : goal.returns
unfolding has_topic
returns c =
    let parts = YieldsList-from_slice_split _ _ c.args.text.now c.split.ensures.rest c.split.ensures.done c.split.ensures.closure (λ x b q k. search (rules, tests)) in
    any_from_yields_List (is_name c.args.topic.now) _ _ c.any.result c.any.ensures.ran parts (λ x b q k. search (rules, tests))
