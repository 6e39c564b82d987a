use Rattle.std.proofs.Common.{◌≡◌, ℕ, ◌<◌, subst}
use Rattle.std.proofs.lemmas.Result.{IfOk-weaker}
use Rattle.json_text.specs.declared.spot.Spot.{Spot}
use Rattle.json_text.specs.declared.doc.Node.{Node}
use Rattle.json_text.specs.Forest.{grows}
use Rattle.cloud_events.proofs.Nodes.{at_value}
use Rattle.cloud_events.proofs.Results.{err_weaker}
use Rattle.cloud_events.proofs.Wraps.{root_at, data_from, deep_from, no_memory_data}
use Rattle.cloud_events.proofs.wrapping.root_items.Goals as goal
use Rattle.std.proofs.Common.{refl}

pub returns-in-Some-clause-err : goal.returns-in-Some-clause-err
returns-in-Some-clause-err c bytes shows =
    let doc = c.args.doc.now in
    let n = c.in-Some.n in
    let root : Node = record { number = 0 } in
    let at = root_at doc bytes root shows refl in
    let v = c.a_walk_visits_all_items.ensures.stands doc bytes n shows (subst (λ (z : ℕ). n.number < z) shows.all c.in-Some.ensures.node) in
    deep_from doc bytes root n at v.0 (c.in-Some.ensures.first root refl (grows at.spot at.children at.later) at.stands v.0 v.1 v.2 v.3) c.span-at.result.0
    (at_value doc n (λ (s : Spot). c.span-at.result.0 ≡ s.span.start) c.span-at.ensures.start v.0 (v.1, v.2, v.3))

pub returns-in-None-clause-ok : goal.returns-in-None-clause-ok
returns-in-None-clause-ok c bytes shows e =
    let doc = c.args.doc.now in
    let root = c.root.result in
    let at = root_at doc bytes root shows c.root.ensures.first in
    IfOk-weaker c.span_items.result _ _ (λ items h. data_from doc bytes root c.args.sent.now shows at items.items c.span-start.result.0 c.span-start.result.1 e
    (c.in-None.ensures.first root c.root.ensures.first (grows at.spot at.children at.later) at.stands)
    (at_value doc root (λ (s : Spot). c.span-start.result.0 ≡ s.span.start) c.span-start.ensures.start at.spot (at.children, at.later, at.stands))
    (at_value doc root (λ (s : Spot). c.span-start.result.1 ≡ s.span.end) c.span-start.ensures.end at.spot (at.children, at.later, at.stands)) h) c.span_items.ensures.ok

pub returns-in-None-clause-err : goal.returns-in-None-clause-err
returns-in-None-clause-err c bytes shows = err_weaker c.span_items.result _ _ (λ e h. no_memory_data bytes e h) c.span_items.ensures.err
