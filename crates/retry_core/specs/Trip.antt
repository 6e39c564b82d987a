-- What a trip means: whether it is true of the counts of a breaker.
use Rattle.std.specs.Prelude.{ℕ, Bool, List, nat_lt, nat_le, ◌==◌}
use Rattle.std.specs.List.{list_all, list_any, filter_map}
use Rattle.retry_core.specs.declared.trip.Counter.{Counter}
use Rattle.retry_core.specs.declared.trip.Counter.TheVariants.{ConsecutiveFailures, Requests, TotalFailures}
use Rattle.retry_core.specs.declared.trip.Sign.{Sign}
use Rattle.retry_core.specs.declared.trip.Sign.TheVariants.{AtLeast, Above, AtMost, Below, Equal}
use Rattle.retry_core.specs.declared.trip.Join.{Join}
use Rattle.retry_core.specs.declared.trip.Join.TheVariants.{All, Any}
use Rattle.retry_core.specs.declared.trip.Comparison.{Comparison}
use Rattle.retry_core.specs.declared.trip.Counts.{Counts}
use Rattle.retry_core.specs.declared.trip.Trip.{Trip}

-- the count that a comparison speaks of
abbrev pub count_of : Counter → Counts → ℕ
count_of ConsecutiveFailures counts = counts.consecutive_failures
count_of Requests counts = counts.requests
count_of TotalFailures counts = counts.total_failures

abbrev pub compares : Sign → ℕ → ℕ → Bool
compares AtLeast count number = nat_le number count
compares Above count number = nat_lt number count
compares AtMost count number = nat_le count number
compares Below count number = nat_lt count number
compares Equal count number = count == number

-- whether a comparison holds of the counts
abbrev pub holds : Counts → Comparison → Bool
holds counts comparison = compares comparison.sign (count_of comparison.counter counts) comparison.number

-- the comparisons of a trip, in their order
abbrev pub comparisons_of : Trip → List Comparison
comparisons_of trip = filter_map (λ comparison. comparison) trip.comparisons

abbrev pub joined : Join → (Comparison → Bool) → List Comparison → Bool
joined All test comparisons = list_all test comparisons
joined Any test comparisons = list_any test comparisons

-- whether the trip is true of the counts: each of its comparisons holds, or one of them
abbrev pub is_tripped : Trip → Counts → Bool
is_tripped trip counts = joined trip.join (holds counts) (comparisons_of trip)
