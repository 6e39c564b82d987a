-- The text of a trip, as in `requests > 100 && totalFailures >= 3`, read from the left.
use Rattle.std.specs.Prelude.{◌≡◌, ◌≢◌, ◌⊎◌, ◌-◌, ◌<◌, ◌≤◌, ◌^◌, ◌==◌, ℕ, List, [], ◌∷◌, ◌++◌, length, take, drop, map, replicate, find, codes, nat_eq, Option, Some, None, Result, Ok, Err}
use Rattle.std.specs.List.{starts_with, prefix_len}
use Rattle.std.specs.Str.Parse.{digits_value}
use Rattle.side_base.specs.Decimal.{digits_at, after_digits}
use Rattle.retry_core.specs.declared.trip.Counter.{Counter}
use Rattle.retry_core.specs.declared.trip.Counter.TheVariants.{ConsecutiveFailures, Requests, TotalFailures}
use Rattle.retry_core.specs.declared.trip.Sign.{Sign}
use Rattle.retry_core.specs.declared.trip.Sign.TheVariants.{AtLeast, Above, AtMost, Below, Equal}
use Rattle.retry_core.specs.declared.trip.Join.{Join}
use Rattle.retry_core.specs.declared.trip.Join.TheVariants.{All, Any}
use Rattle.retry_core.specs.declared.trip.Comparison.{Comparison}
use Rattle.retry_core.specs.declared.trip.Trip.{Trip}
use Rattle.retry_core.specs.declared.trip_text.TripErr.{TripErr}
use Rattle.retry_core.specs.declared.trip_text.TripErr.TheVariants.{Counter as NoCounter, Sign as NoSign, Number as NoNumber, Mixed, Long}

-- the words of each part, and what they stand for; of two that begin alike the longer one is tried first
abbrev pub counters : List (List ℕ × Counter)
counters =
    (codes "consecutiveFailures", ConsecutiveFailures) ∷ (codes "requests", Requests) ∷ (codes "totalFailures", TotalFailures) ∷ []

abbrev pub signs : List (List ℕ × Sign)
signs = (codes ">=", AtLeast) ∷ (codes ">", Above) ∷ (codes "<=", AtMost) ∷ (codes "<", Below) ∷ (codes "==", Equal) ∷ []

abbrev pub joins : List (List ℕ × Join)
joins = (codes "&&", All) ∷ (codes "||", Any) ∷ []

-- the first of the words that stands at the beginning of a text
unfoldable pub word_at : {X : Type 0} → List (List ℕ × X) → List ℕ → Option (List ℕ × X)
word_at words text = find (λ word. starts_with nat_eq text word.0) words

-- the text without the spaces at its beginning
unfoldable pub after_spaces : List ℕ → List ℕ
after_spaces text = drop (prefix_len (λ byte. byte == 32) text) text

-- the text begins with a word for `x`, and `rest` is left after it and the spaces that follow
pub record Takes {X : Type 0} (words : List (List ℕ × X)) (text : List ℕ) (x : X) (rest : List ℕ) : Type 0 where
  pub word : List ℕ
  pub stands : word_at words text ≡ Some (word, x)
  pub rest_is : rest ≡ after_spaces (drop (length word) text)

-- the text begins with a number of 32 bits, or with none
abbrev pub HasNumber : List ℕ → ℕ → Type 0
HasNumber text number = (digits_at text ≢ []) × (digits_value 10 (digits_at text) ≡ number) × (number < 2 ^ 32)

abbrev pub LacksNumber : List ℕ → Type 0
LacksNumber text = (digits_at text ≡ []) ⊎ (2 ^ 32 ≤ digits_value 10 (digits_at text))

-- the text begins with a comparison, and `rest` is left after it
pub record Compares (text : List ℕ) (comparison : Comparison) (rest : List ℕ) : Type 0 where
  pub signed : List ℕ
  pub numbered : List ℕ
  pub counter : Takes counters text comparison.counter signed
  pub sign : Takes signs signed comparison.sign numbered
  pub number : HasNumber numbered comparison.number
  pub rest_is : rest ≡ after_digits numbered

-- the text begins with a counter, and what follows, `rest`, with no sign
pub record StopsAtSign (text rest : List ℕ) : Type 0 where
  pub named : Counter
  pub counter : Takes counters text named rest
  pub absent : word_at signs rest ≡ None

-- the text begins with a counter and a sign, and what follows, `rest`, with no number
pub record StopsAtNumber (text rest : List ℕ) : Type 0 where
  pub signed : List ℕ
  pub named : Counter
  pub relation : Sign
  pub counter : Takes counters text named signed
  pub sign : Takes signs signed relation rest
  pub absent : LacksNumber rest

-- the text begins with a comparison, and what follows, up to `rest`, is neither the end nor a join
pub record StopsAtJoin (text rest : List ℕ) : Type 0 where
  pub comparison : Comparison
  pub after : List ℕ
  pub compares : Compares text comparison after
  pub some : after ≢ []
  pub rest_is : rest ≡ after_spaces after
  pub absent : word_at joins rest ≡ None

-- the text begins with a comparison and this join, which begins at `rest`
pub record MeetsJoin (text : List ℕ) (join : Join) (rest : List ℕ) : Type 0 where
  pub comparison : Comparison
  pub after : List ℕ
  pub next : List ℕ
  pub compares : Compares text comparison after
  pub rest_is : rest ≡ after_spaces after
  pub joins_is : Takes joins rest join next

-- the text begins with comparisons, each with the join after it, and `rest` is left after them
pub data Joined (join : Join) (rest : List ℕ) : List ℕ → List Comparison → Type 0 where
  none : Joined join rest rest []
  more : (text : List ℕ) (comparison : Comparison) (after next : List ℕ) (comparisons : List Comparison) → Compares text comparison after
      → Takes joins (after_spaces after) join next → Joined join rest next comparisons → Joined join rest text (comparison ∷ comparisons)

-- up to three comparisons, each with the join after it, lead to `rest`
pub record Leads (text : List ℕ) (join : Join) (comparisons : List Comparison) (rest : List ℕ) : Type 0 where
  pub joined : Joined join rest text comparisons
  pub few : length comparisons < 4

-- the trip of up to four comparisons
abbrev pub trip_with : Join → List Comparison → Trip
trip_with join comparisons = record { join = join; comparisons = take 4 (map (λ comparison. Some comparison) comparisons ++ replicate 4 None) }

-- one to four comparisons under one join, which is `&&` for a single one
pub record IsTrip (text : List ℕ) (trip : Trip) : Type 0 where
  pub join : Join
  pub front : List Comparison
  pub last : Comparison
  pub rest : List ℕ
  pub leads : Leads text join front rest
  pub compares : Compares rest last []
  pub alone : front ≡ [] → join ≡ All
  pub trip_is : trip ≡ trip_with join (front ++ last ∷ [])

-- where the rest of a text begins
abbrev pub IsPlaceOf : List ℕ → List ℕ → ℕ → Type 0
IsPlaceOf text rest at = at ≡ length text - length rest

-- a comparison begins at `at`, without a counter
pub record LacksCounterAt (text : List ℕ) (at : ℕ) : Type 0 where
  pub join : Join
  pub front : List Comparison
  pub rest : List ℕ
  pub leads : Leads text join front rest
  pub absent : word_at counters rest ≡ None
  pub place : IsPlaceOf text rest at

-- a sign or a join belongs at `at`, and none stands there
pub record LacksSignAt (text : List ℕ) (at : ℕ) : Type 0 where
  pub join : Join
  pub front : List Comparison
  pub rest : List ℕ
  pub stop : List ℕ
  pub leads : Leads text join front rest
  pub absent : StopsAtSign rest stop ⊎ StopsAtJoin rest stop
  pub place : IsPlaceOf text stop at

-- a number of 32 bits belongs at `at`, and none stands there
pub record LacksNumberAt (text : List ℕ) (at : ℕ) : Type 0 where
  pub join : Join
  pub front : List Comparison
  pub rest : List ℕ
  pub stop : List ℕ
  pub leads : Leads text join front rest
  pub absent : StopsAtNumber rest stop
  pub place : IsPlaceOf text stop at

-- the join at `at` is unlike the first
pub record MixesJoinsAt (text : List ℕ) (at : ℕ) : Type 0 where
  pub join : Join
  pub other : Join
  pub front : List Comparison
  pub rest : List ℕ
  pub stop : List ℕ
  pub leads : Leads text join front rest
  pub later : front ≢ []
  pub meets : MeetsJoin rest other stop
  pub unlike : other ≢ join
  pub place : IsPlaceOf text stop at

-- the join at `at` is the fourth
pub record IsLongAt (text : List ℕ) (at : ℕ) : Type 0 where
  pub join : Join
  pub front : List Comparison
  pub rest : List ℕ
  pub stop : List ℕ
  pub leads : Leads text join front rest
  pub fourth : length front ≡ 3
  pub meets : MeetsJoin rest join stop
  pub place : IsPlaceOf text stop at

-- what each answer of `trip_of` says of the text
abbrev pub TripResult : List ℕ → Result Trip TripErr → Type 0
TripResult text (Ok trip) = IsTrip text trip
TripResult text (Err (NoCounter at)) = LacksCounterAt text at
TripResult text (Err (NoSign at)) = LacksSignAt text at
TripResult text (Err (NoNumber at)) = LacksNumberAt text at
TripResult text (Err (Mixed at)) = MixesJoinsAt text at
TripResult text (Err (Long at)) = IsLongAt text at

-- why no comparison stands at the beginning of a text, which is the rest of a whole one
abbrev pub LacksComparison : List ℕ → List ℕ → TripErr → Type 0
LacksComparison whole text (NoCounter at) = (word_at counters text ≡ None) × IsPlaceOf whole text at
LacksComparison whole text (NoSign at) = (stop : List ℕ) × StopsAtSign text stop × IsPlaceOf whole stop at
LacksComparison whole text (NoNumber at) = (stop : List ℕ) × StopsAtNumber text stop × IsPlaceOf whole stop at
LacksComparison whole text (Mixed at) = ⊥
LacksComparison whole text (Long at) = ⊥
