use Rattle.std.proofs.Common.{◌≡◌, ◌<◌, ◌∙◌, refl, subst, arith, length, nat_lt}
use Rattle.std.proofs.lemmas.Grind.{get_or_default_zero}
use Rattle.cron_ticks.specs.Following.{schedule, IsFirstLater, IsEarlier, IsFoundBelow}
use Rattle.cron_ticks.proofs.Order.{one_more}
use Rattle.cron_ticks.proofs.following.following.Goals as goal

pub loop-at-init : goal.loop-at-init
loop-at-init c = refl

pub loop-at-preserved : goal.loop-at-preserved
loop-at-preserved c =
    let periods = c.args.periods.now in
    let there : c.loop-at.at < length periods = omega (arith, c.loop-at-test.true, c.len-at-end.ensures) in
    let period = c.at.ensures ∙ get_or_default_zero periods c.loop-at.at c.at.result.now there in
    let is = subst (λ p. IsFirstLater p c.args.start c.args.due (nat_lt c.args.place c.loop-at.at) c.first_later-turn.result) period c.first_later-turn.ensures in
    let other = subst (λ o. IsEarlier c.loop-at.first o c.earlier-first.result) c.tick_at.ensures c.earlier-first.ensures in
    one_more (schedule periods c.args.start) c.args.due c.args.place c.loop-at.at c.first_later-turn.result there is c.loop-at.first c.earlier-first.result c.loop-at.invariant other

pub returns : goal.returns
returns c =
    subst (λ n. IsFoundBelow (schedule c.args.periods.now c.args.start) c.args.due c.args.place n c.loop-at.first) (omega (arith, c.loop-at-test.false, c.loop-at.auto.at-end, c.len-at-end.ensures)) c.loop-at.invariant
