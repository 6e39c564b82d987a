-- How a row may be settled, by what its post came to.
use Rattle.std.proofs.Common.{◌≡◌, ◌<◌, ◌+◌, refl, ap, sym, subst, ◌∙◌, ℕ, List}
use Rattle.std.specs.Prelude.{Some}
use Rattle.side_base.specs.declared.message.Response.{Response}
use Rattle.link_call.specs.declared.miss.Miss.{Miss}
use Rattle.link_call.specs.declared.miss.Miss.TheVariants as miss
use Rattle.policy_run.specs.declared.outcome.Outcome.{Outcome}
use Rattle.policy_run.specs.declared.outcome.Outcome.TheVariants as outcome
use Rattle.policy_run.specs.declared.outcome.Refusal.TheVariants as refusal
use Rattle.policy_run.specs.Event.{Event}
use Rattle.topic_spec.specs.declared.sub.Sub.{Sub}
use Rattle.delivery_turn.specs.declared.row.Row.{Row}
use Rattle.delivery_turn.specs.declared.settling.Early.TheVariants as early
use Rattle.delivery_turn.specs.declared.settling.Settling.{Settling}
use Rattle.delivery_turn.specs.Settling.{Own}
use Rattle.delivery_turn.specs.Turning.{IsWithinYears, Judges, Retries, Settled, early_of}
use Rattle.delivery_turn.specs.Turning as turning

module _ (subs : List Sub) (row : Row) (settling : Settling) (events : List (Event Own)) where
  judged_within : (response : Response) → Judges subs row response settling events → IsWithinYears settling
  judged_within response (turning.judged v drawn dead is_judged is draws) = subst IsWithinYears (sym is) tt
  judged_within response (turning.lacks lacking is none_drawn) = subst IsWithinYears (sym is) tt

  retried_within : Retries subs row settling events → IsWithinYears settling
  retried_within (turning.again drawn dead is draws) = subst IsWithinYears (sym is) tt
  retried_within (turning.lacks lacking is none_drawn) = subst IsWithinYears (sym is) tt

  pub within_years : (came : Outcome Response Miss) → Settled subs row came settling events → ((until : ℕ) → came ≡ outcome.Refused (refusal.Opened until) → until < 253402300800000 + 31536000000) → IsWithinYears settling
  within_years (outcome.Good response) chosen bound = judged_within response chosen
  within_years (outcome.Bad (miss.Replied response)) chosen bound = judged_within response chosen
  within_years (outcome.Bad miss.Failed) chosen bound = retried_within chosen
  within_years (outcome.Bad miss.Expired) chosen bound = retried_within chosen
  within_years (outcome.Refused (refusal.Opened until)) chosen bound = subst IsWithinYears (sym chosen.0) (bound until refl)
  within_years (outcome.Refused (refusal.TooMany out)) chosen bound = subst IsWithinYears (sym chosen.0) tt
  within_years (outcome.Exhausted count) chosen bound = subst IsWithinYears (sym chosen.0) tt
  within_years outcome.NoMemory chosen bound = subst IsWithinYears (sym chosen.0) tt

  module _ (count : ℕ) (spent : early_of settling ≡ Some (early.Exhausted count)) where
    judged_unspent : (response : Response) → Judges subs row response settling events → ⊥
    judged_unspent response (turning.judged v drawn dead is_judged is draws) = (let e = ap early_of (sym is) ∙ spent in let bad : ⊥ = cc in bad)
    judged_unspent response (turning.lacks lacking is none_drawn) = (let e = ap early_of (sym is) ∙ spent in let bad : ⊥ = cc in bad)

    retried_unspent : Retries subs row settling events → ⊥
    retried_unspent (turning.again drawn dead is draws) = (let e = ap early_of (sym is) ∙ spent in let bad : ⊥ = cc in bad)
    retried_unspent (turning.lacks lacking is none_drawn) = (let e = ap early_of (sym is) ∙ spent in let bad : ⊥ = cc in bad)

    pub spent_by : (came : Outcome Response Miss) → Settled subs row came settling events → came ≡ outcome.Exhausted count
    spent_by (outcome.Good response) chosen = absurd (judged_unspent response chosen)
    spent_by (outcome.Bad (miss.Replied response)) chosen = absurd (judged_unspent response chosen)
    spent_by (outcome.Bad miss.Failed) chosen = absurd (retried_unspent chosen)
    spent_by (outcome.Bad miss.Expired) chosen = absurd (retried_unspent chosen)
    spent_by (outcome.Refused why) chosen = (let e = ap early_of (sym chosen.0) ∙ spent in let bad : ⊥ = cc in absurd bad)
    spent_by (outcome.Exhausted other) chosen = (let e = ap early_of (sym chosen.0) ∙ spent in let same : other ≡ count = cc in ap outcome.Exhausted same)
    spent_by outcome.NoMemory chosen = (let e = ap early_of (sym chosen.0) ∙ spent in let bad : ⊥ = cc in absurd bad)
