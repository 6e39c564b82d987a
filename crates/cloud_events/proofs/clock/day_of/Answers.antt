use Rattle.std.proofs.Common.{arith, w64, ◌≡◌, ℕ, ◌≤◌, false, true, ℤ, pos, ◌+ℤ◌, ap, refl, to_z, ◌∙◌}
use Rattle.std.specs.Prelude.{unsigned_abs}
use Rattle.std.proofs.lemmas.Int.{to_z_pos}
use Rattle.jiff.specs.Words.{epoch_day, IsEpochDay}
use Rattle.jiff.proofs.OnLiterals.{jiff_on_literals}
use Rattle.jiff.proofs.SpanFacts.{signed_arith, date_add-days, can_add-days}
use Rattle.cloud_events.specs.declared.clock.Day.{Day}
use Rattle.cloud_events.proofs.clock.day_of.Goals as goal

zero_day : (day : Day) → day.date.year ≡ pos 1970 → day.date.month ≡ 1 → day.date.day ≡ 1 → epoch_day day.date ≡ pos 0
unfolding jiff_on_literals
zero_day day y m d = rw (y, m, d) refl

small : (days : ℕ) → days ≤ 2932896 → to_z w64 days ≡ pos days
small days le = to_z_pos w64 days (omega (arith, le))

within : (base number : ℤ) (days : ℕ) → base ≡ pos 0 → number ≡ pos days → days ≤ 2932896 → IsEpochDay (base +ℤ number)
within base number days b n le = omega (arith, signed_arith, b, n, le)

sum : (base number : ℤ) (days : ℕ) → base ≡ pos 0 → number ≡ pos days → base +ℤ number ≡ pos days
sum base number days b n = omega (arith, signed_arith, b, n)

pub unreachable-requires : goal.unreachable-requires
unreachable-requires c =
    let day : Day = record { date = c.date.result } in
    let base : epoch_day c.date.result ≡ pos 0 = zero_day day c.date.ensures.0 (ap unsigned_abs c.date.ensures.1) (ap unsigned_abs c.date.ensures.2) in
    let can = (can_add-days c.date.result (to_z w64 c.args.days) c.days.result c.days.ensures).1 (within (epoch_day c.date.result) (to_z w64 c.args.days) c.args.days base (small c.args.days c.requires) c.requires) in
    let wrong : false ≡ true = c.in-Err.ensures.succeeds.1 can in
    let bad : ⊥ = cc in bad

pub returns : goal.returns
returns c =
    let day : Day = record { date = c.date.result } in
    let base : epoch_day c.date.result ≡ pos 0 = zero_day day c.date.ensures.0 (ap unsigned_abs c.date.ensures.1) (ap unsigned_abs c.date.ensures.2) in
    c.in-Ok.ensures.value ∙ date_add-days c.date.result (to_z w64 c.args.days) c.days.result c.days.ensures
    ∙ sum (epoch_day c.date.result) (to_z w64 c.args.days) c.args.days base (small c.args.days c.requires)
