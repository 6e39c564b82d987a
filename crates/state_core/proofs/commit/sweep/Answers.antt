use Rattle.std.proofs.Common.{sym, subst, ◌≡◌, None, arith, option_map}
use Rattle.state_core.proofs.Sweeps.{Swept, swept_none, swept_pushed, swept_all, swept_most}
use Rattle.state_core.proofs.commit.sweep.Goals as goal

pub loop-init : goal.loop-init
loop-init g c = subst (Swept (g.K.Keeper.rows c.args.keeper.now) c.args.moment 0 None) (sym c.new-changes.ensures.items) (swept_none (g.K.Keeper.rows c.args.keeper.now) c.args.moment)

pub returns-in-None : goal.returns-in-None
returns-in-None g c = λ next. swept_all _ c.args.moment next c.loop.counter _ _ c.loop.invariant (sym c.in-None.ensures) (omega (arith, c.loop-test.true))

pub loop-preserved : goal.loop-preserved
loop-preserved g c =
    swept_pushed (g.K.Keeper.rows c.args.keeper.now) c.args.moment c.loop.counter (option_map (λ k. k.now) c.loop.after) c.loop.changes.items c.push.new.self.items c.in-Some.key.now c.in_ok-from_bytes-in-Some.field-0
    c.loop.invariant (sym c.in-Some.ensures) c.in_ok-from_bytes-in-Some.ensures c.in_ok-push-in-Some.ensures.items

pub returns : goal.returns
returns g c = λ next.
    let all : c.loop.counter ≡ 1024 = omega (arith, c.loop-test.false, c.loop.auto.counter-end) in
    swept_most _ c.args.moment next _ _ (subst (λ n. Swept (g.K.Keeper.rows c.args.keeper.now) c.args.moment n (option_map (λ key. key.now) c.loop.after) c.loop.changes.items) all c.loop.invariant)
