use Rattle.std.proofs.Common.{◌≡◌, ◌∙◌, sym, true, false, codes, nat_eq, refl}
use Rattle.std.specs.List.{starts_with}
use Rattle.retry_core.specs.TripText.{word_at}
use Rattle.retry_core.proofs.trip_text.counter_of.Goals as goal

pub returns-then-starts_with-clause-some : goal.returns-then-starts_with-clause-some
unfolding word_at
returns-then-starts_with-clause-some c =
    let first : starts_with nat_eq c.args.text.now (codes "consecutiveFailures") ≡ true = sym c.starts_with.ensures.value ∙ c.if-starts_with.true in
    (codes "consecutiveFailures", rw first refl, refl)

pub returns-then-starts_with-2-clause-some : goal.returns-then-starts_with-2-clause-some
unfolding word_at
returns-then-starts_with-2-clause-some c =
    let first : starts_with nat_eq c.args.text.now (codes "consecutiveFailures") ≡ false = sym c.starts_with.ensures.value ∙ c.if-starts_with.false in
    let second : starts_with nat_eq c.args.text.now (codes "requests") ≡ true = sym c.starts_with-else-starts_with.ensures.value ∙ c.if-starts_with-2.true in
    (codes "requests", rw (first, second) refl, refl)

pub returns-then-starts_with-3-clause-some : goal.returns-then-starts_with-3-clause-some
unfolding word_at
returns-then-starts_with-3-clause-some c =
    let first : starts_with nat_eq c.args.text.now (codes "consecutiveFailures") ≡ false = sym c.starts_with.ensures.value ∙ c.if-starts_with.false in
    let second : starts_with nat_eq c.args.text.now (codes "requests") ≡ false = sym c.starts_with-else-starts_with.ensures.value ∙ c.if-starts_with-2.false in
    let third : starts_with nat_eq c.args.text.now (codes "totalFailures") ≡ true = sym c.starts_with-else-starts_with-2.ensures.value ∙ c.if-starts_with-3.true in
    (codes "totalFailures", rw (first, second, third) refl, refl)
