-- What durations and trips say, as functions of their texts.
use Rattle.std.specs.Prelude.{◌≡◌, ℕ, ◌≤◌, List, Option, Some, ◌↔◌}
use Rattle.side_base.specs.Duration.{IsDuration}
use Rattle.retry_core.specs.declared.trip.Trip.{Trip}
use Rattle.retry_core.specs.TripText.{IsTrip}

pub record Readers : Type 0 where
  pub duration : List ℕ → Option ℕ
  pub trip : List ℕ → Option Trip

-- they read each duration of at most 8,760 hours and each trip, and nothing else
pub record AreReaders (readers : Readers) : Type 0 where
  pub durations : (text : List ℕ) (ms : ℕ) → (readers.duration text ≡ Some ms) ↔ (IsDuration text ms × (ms ≤ 31536000000))
  pub trips : (text : List ℕ) (trip : Trip) → (readers.trip text ≡ Some trip) ↔ IsTrip text trip
