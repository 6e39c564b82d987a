use Rattle.std.proofs.Common.{◌≡◌, ◌∙◌, ap, sym, ◌+◌, ◌∷◌, drop, rules, arith}
use Rattle.std.proofs.lemmas.List.{drop_more, drop_all}
use Rattle.topic_spec.proofs.Aimed.{aims_on, aims_done, below_on, apart_on}
use Rattle.topic_spec.proofs.Unruled.{ruled_past, ruled_here, ruled_done}
use Rattle.topic_spec.proofs.aiming.default_aims.Goals as goal

pub loop-i-preserved : goal.loop-i-preserved
loop-i-preserved c =
    let subs = c.args.subs.now in
    let i = c.loop-i.i in
    let sub = c.at-sub.result.now in
    let at : drop i subs ≡ sub ∷ drop (i + 1) subs = drop_more subs i sub (omega arith) ∙ ap (λ x. x ∷ drop (i + 1) subs) (search rules) in
    record {
      aims = λ event. aims_on event c.args.pubsub.now c.args.topic.now _ i sub (drop i subs) (drop (i + 1) subs) c.loop-i.aims c.add_default.new.aims at (c.in-Ok.ensures.aims event) (c.loop-i.invariant.aims event);
      ruled = ruled_past c.args.pubsub.now c.args.topic.now _ (drop i subs) (drop (i + 1) subs) sub at c.loop-i.invariant.ruled (sym c.is_ruled.ensures ∙ c.if-is_ruled.false);
      below = below_on i c.loop-i.aims c.add_default.new.aims c.in-Ok.ensures.place c.loop-i.invariant.below;
      once = apart_on i c.loop-i.aims c.add_default.new.aims c.in-Ok.ensures.place c.loop-i.invariant.below c.loop-i.invariant.once;
    }

pub returns-then-is_ruled-clause-ruled : goal.returns-then-is_ruled-clause-ruled
returns-then-is_ruled-clause-ruled c =
    let subs = c.args.subs.now in
    let i = c.loop-i.i in
    let sub = c.at-sub.result.now in
    let at : drop i subs ≡ sub ∷ drop (i + 1) subs = drop_more subs i sub (omega arith) ∙ ap (λ x. x ∷ drop (i + 1) subs) (search rules) in
    ruled_here c.args.pubsub.now c.args.topic.now _ (drop i subs) (drop (i + 1) subs) sub at c.loop-i.invariant.ruled (sym c.is_ruled.ensures ∙ c.if-is_ruled.true)

pub returns-clause-aims : goal.returns-clause-aims
returns-clause-aims c event =
    let subs = c.args.subs.now in
    let i = c.loop-i.i in
    aims_done event c.args.pubsub.now c.args.topic.now _ i (drop i subs) c.loop-i.aims (drop_all i subs (omega arith)) (c.loop-i.invariant.aims event)

pub returns-clause-ruled : goal.returns-clause-ruled
returns-clause-ruled c =
    let subs = c.args.subs.now in
    let i = c.loop-i.i in
    ruled_done c.args.pubsub.now c.args.topic.now _ (drop i subs) (drop_all i subs (omega arith)) c.loop-i.invariant.ruled
