-- What the schedule of a cron component says.
use Rattle.std.proofs.Common.{◌≡◌, ◌∙◌, ℕ, true, List, codes, Option, Some, None, refl, sym, ap, true≢false, unwrap_or}
use Rattle.resource_spec.specs.declared.component.ComponentKind.{ComponentKind}
use Rattle.resource_spec.specs.declared.component.ComponentKind.TheVariants as kinds
use Rattle.resource_spec.specs.Component.{HasNeeds, HasSchedule, Loaded, setting_of}
use Rattle.resource_spec.specs.Schedule.{period_in}
use Rattle.sidecar_turns.specs.Crons.{is_cron, period_of, period_said}

ticks : (kind : ComponentKind) → is_cron kind ≡ true → kind ≡ kinds.BindingCron
ticks kinds.StateMemory is = absurd (true≢false (sym is))
ticks kinds.StateJournal is = absurd (true≢false (sym is))
ticks kinds.PubsubMemory is = absurd (true≢false (sym is))
ticks kinds.BindingHttp is = absurd (true≢false (sym is))
ticks kinds.BindingCron is = refl

scheduled : (c : Loaded) → c.kind ≡ kinds.BindingCron → HasNeeds c → HasSchedule c
scheduled c is needs = rw is at needs

unscheduled : (c : Loaded) → setting_of c (codes "schedule") ≡ None → HasSchedule c → ⊥
unscheduled c none has = rw none at has

pub period_so : (c : Loaded) (period : ℕ) → is_cron c.kind ≡ true → HasNeeds c → ((text : List ℕ) → setting_of c (codes "schedule") ≡ Some text → period_in text ≡ Some period) → period ≡ period_of c
period_so c period is needs says = by (setting_of c (codes "schedule")) refl
  where
    by : (said : Option (List ℕ)) → setting_of c (codes "schedule") ≡ said → period ≡ period_of c
    by None none = absurd (unscheduled c none (scheduled c (ticks c.kind is) needs))
    by (Some text) some-is = sym (ap period_said some-is ∙ ap (λ o. unwrap_or o 0) (says text some-is))
