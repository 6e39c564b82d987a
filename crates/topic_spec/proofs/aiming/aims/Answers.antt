use Rattle.std.proofs.Common.{◌≡◌, ◌∙◌, ap, ◌+◌, ◌∷◌, drop, rules, arith}
use Rattle.std.proofs.lemmas.List.{drop_more, drop_all}
use Rattle.topic_spec.proofs.Aimed.{aims_on, aims_done, below_on, apart_on}
use Rattle.topic_spec.proofs.Pathing.{aiming_start, aiming_on, aiming_end}
use Rattle.topic_spec.proofs.aiming.aims.Goals as goal

pub loop-i-preserved : goal.loop-i-preserved
loop-i-preserved c =
    let subs = c.args.subs.now in
    let i = c.loop-i.i in
    let sub = c.at.result.now in
    let at : drop i subs ≡ sub ∷ drop (i + 1) subs = drop_more subs i sub (omega arith) ∙ ap (λ x. x ∷ drop (i + 1) subs) (search rules) in
    record {
      aims = λ shown is. aims_on shown c.args.pubsub.now c.args.topic.now _ i sub (drop i subs) (drop (i + 1) subs) c.loop-i.aims c.add_aim.new.aims at (c.in-Ok.ensures.aims shown is) (c.loop-i.invariant.aims shown is);
      values = λ shown drafts is are. aiming_on shown c.args.pubsub.now c.args.topic.now drafts i sub (drop i subs) (drop (i + 1) subs) c.loop-i.aims c.add_aim.new.aims at (λ draft own. c.in-Ok.ensures.values shown draft is own) (c.loop-i.invariant.values shown drafts is are);
      below = below_on i c.loop-i.aims c.add_aim.new.aims c.in-Ok.ensures.place c.loop-i.invariant.below;
      once = apart_on i c.loop-i.aims c.add_aim.new.aims c.in-Ok.ensures.place c.loop-i.invariant.below c.loop-i.invariant.once;
    }

pub returns-clause-aims : goal.returns-clause-aims
returns-clause-aims c shown is =
    let subs = c.args.subs.now in
    let i = c.loop-i.i in
    aims_done shown c.args.pubsub.now c.args.topic.now _ i (drop i subs) c.loop-i.aims (drop_all i subs (omega arith)) (c.loop-i.invariant.aims shown is)

pub returns-clause-values : goal.returns-clause-values
returns-clause-values c shown drafts is are =
    let subs = c.args.subs.now in
    let i = c.loop-i.i in
    aiming_end shown c.args.pubsub.now c.args.topic.now drafts i (drop i subs) c.loop-i.aims (drop_all i subs (omega arith)) (c.loop-i.invariant.values shown drafts is are)
