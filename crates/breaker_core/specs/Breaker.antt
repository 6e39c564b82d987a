-- What a breaker stands for.
use Rattle.std.specs.Prelude.{◌≡◌, true, List, [], length, Option, Some, None, is_none, refl}
use Rattle.std.proofs.lemmas.Bool.{false≢true}
use Rattle.retry_core.specs.declared.policy.BreakerPolicy.{BreakerPolicy}
use Rattle.breaker_core.specs.declared.breaker.Breaker.{Breaker}
use Rattle.breaker_core.specs.Course.{Step, course_of}
use Rattle.breaker_core.specs.Present.{shown_of}

-- the policy that a breaker keeps
abbrev pub policy_of : Breaker → BreakerPolicy
policy_of breaker = breaker.policy

-- after this history from the breaker `first`
pub record Stands (first : Breaker) (history : List Step) (breaker : Breaker) : Type 0 where
  pub policy : breaker.policy ≡ first.policy
  pub used : breaker.used ≡ length history
  pub latest : breaker.latest ≡ (course_of first.policy history).latest
  pub present : breaker.present ≡ shown_of (course_of first.policy history).generations

none_is : {X : Type 0} (o : Option X) → is_none o ≡ true → o ≡ None
none_is None e = refl
none_is (Some x) e = absurd (false≢true e)

-- a breaker that was told nothing stands for the empty history
pub opens : (first : Breaker) → first.used ≡ 0 → Stands first [] first
opens first unused = record {
  policy = refl;
  used = unused;
  latest = first.fresh.latest_is unused;
  present = none_is first.present (first.fresh.present_is unused);
}
