-- What holds of every history of a breaker.
use Rattle.std.specs.Prelude.{◌≡◌, ◌<◌, ◌≤◌, ◌+◌, ℕ, List, [], ◌∷◌, ◌++◌, reverse, count_by, true}
use Rattle.std.specs.List.{flat_map, AllByRecursion}
use Rattle.retry_core.specs.declared.policy.BreakerPolicy.{BreakerPolicy}
use Rattle.breaker_core.specs.declared.phase.Phase.TheVariants.{Open, HalfOpen}
use Rattle.breaker_core.specs.Fits.{Fits}
use Rattle.breaker_core.specs.Course.{Step, Generation, begun, is_admission, now_in, course_of, IsStep}

-- every entry is a step after those before it
abbrev pub EachSteps : BreakerPolicy → List Step → Type 0
EachSteps policy history = (before after : List Step) (entry : Step) → history ≡ before ++ entry ∷ after → IsStep policy before entry

-- an entry opens the breaker at a moment
pub record Opens (policy : BreakerPolicy) (before : List Step) (entry : Step) (moment : ℕ) : Type 0 where
  pub earlier : List Generation
  pub generations : (course_of policy (before ++ entry ∷ [])).generations ≡ begun (Open (moment + policy.timeout_ms)) moment ∷ earlier

-- each reply fits its command
abbrev pub AreFitting : List Step → Type 0
AreFitting history = (before after : List Step) (entry : Step) → history ≡ before ++ entry ∷ after → Fits entry.cmd entry.reply

-- from an opening on, a call is let through only after the timeout
abbrev pub Rests : BreakerPolicy → List Step → Type 0
Rests policy history =
    (before between after : List Step) (opening admission : Step) (moment : ℕ) → history ≡ before ++ opening ∷ (between ++ admission ∷ after) →
    Opens policy before opening moment → is_admission admission ≡ true →
    moment + policy.timeout_ms < now_in (course_of policy (before ++ opening ∷ between)) admission.cmd

-- a half-open generation lets at most `max_requests` calls through
abbrev pub IsCareful : BreakerPolicy → Generation → Type 0
IsCareful policy g = g.phase ≡ HalfOpen → count_by is_admission g.entries ≤ policy.max_requests

-- each generation of the history does
abbrev pub IsCarefulAlways : BreakerPolicy → List Step → Type 0
IsCarefulAlways policy history = AllByRecursion (IsCareful policy) (course_of policy history).generations

-- each entry of the history is in one generation, in order
abbrev pub IsDivided : BreakerPolicy → List Step → Type 0
IsDivided policy history = flat_map (λ (g : Generation). g.entries) (course_of policy history).generations ≡ reverse history
