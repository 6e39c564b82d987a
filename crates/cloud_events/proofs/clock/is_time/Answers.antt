use Rattle.std.proofs.Common.{◌≡◌, true, false, sym, ◌∙◌}
use Rattle.cloud_events.proofs.Moments.{same_date}
use Rattle.cloud_events.proofs.clock.is_time.Goals as goal

pub returns-then-not-has_form : goal.returns-then-not-has_form
returns-then-not-has_form c = ((λ h. let bad : ⊥ = cc in absurd bad), λ h. let e : false ≡ true = sym c.if-not-has_form.true ∙ c.has_form.ensures.exact ∙ h.0 in let bad : ⊥ = cc in absurd bad)

pub returns : goal.returns
returns c =
    let form = sym c.has_form.ensures.exact ∙ c.if-not-has_form.false in (
      (λ h. (form, same_date _ _ _ _ _ _ c.four_at.ensures c.two_at.ensures.value c.two_at-2.ensures.value (c.is_day.ensures.0 h))),
      λ h. c.is_day.ensures.1 (same_date _ _ _ _ _ _ (sym c.four_at.ensures) (sym c.two_at.ensures.value) (sym c.two_at-2.ensures.value) h.1),
    )
