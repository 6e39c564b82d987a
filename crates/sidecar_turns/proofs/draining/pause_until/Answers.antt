use Rattle.std.proofs.Common.{◌≡◌, ◌-◌, ◌∙◌, ℕ, ap, subst, ◌∷◌, []}
use Rattle.side_world.specs.declared.clock.Tick.TheVariants as tick
use Rattle.side_world.specs.Moments.{Rises}
use Rattle.side_world.specs.Told.{Tells}
use Rattle.policy_run.specs.Effects.{clocked}
use Rattle.sidecar_turns.proofs.draining.pause_until.Goals as goal

pub returns : goal.returns
returns g c = let is : c.saturating_sub.result ≡ c.args.due - c.now-last.result = c.saturating_sub.ensures ∙ ap (λ (n : ℕ). c.args.due - n) c.ms.ensures.same in (
  c.now-last.result,
  clocked g.C.Clock c.now-last.new.self,
  record { later = c.now-last.ensures.later; last = c.now-last.ensures.last; paused = c.now-last.ensures.paused; ticks = c.now-last.ensures.ticks },
  c.pause.ensures.later,
  subst (λ n. Rises (g.C.Clock.paused c.now-last.new.self) n (g.C.Clock.paused c.pause.new.self)) is c.pause.ensures.paused,
  subst (λ n. Tells (g.C.Clock.ticks c.now-last.new.self) (g.C.Clock.ticks c.pause.new.self) (tick.Paused n ∷ [])) is c.pause.ensures.ticks,
)
