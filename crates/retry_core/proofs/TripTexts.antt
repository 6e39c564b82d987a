-- A text is read as a trip in one way.
use Rattle.std.proofs.Common.{◌≡◌, ◌≢◌, ◌+◌, ◌-◌, ◌<◌, ◌^◌, ◌⊎◌, inl, inr, ◌↔◌, ◌∙◌, ℕ, Bool, true, false, cond, ltb, List, [], ◌∷◌, ◌++◌, length, drop, Option, Some, None, unwrap_or, Result, Ok, Err, sym, ap, subst, zero-add, arith, refl}
use Rattle.std.proofs.lemmas.Bool.Decides.{nat_tests}
use Rattle.std.specs.Option.{option_map_or}
use Rattle.std.specs.Str.Parse.{digits_value}
use Rattle.side_base.specs.Decimal.{digits_at, after_digits}
use Rattle.retry_core.specs.declared.trip.Counter.{Counter}
use Rattle.retry_core.specs.declared.trip.Sign.{Sign}
use Rattle.retry_core.specs.declared.trip.Join.{Join}
use Rattle.retry_core.specs.declared.trip.Join.TheVariants.{All, Any}
use Rattle.retry_core.specs.declared.trip.Comparison.{Comparison}
use Rattle.retry_core.specs.declared.trip.Trip.{Trip}
use Rattle.retry_core.specs.declared.trip_text.TripErr.{TripErr}
use Rattle.retry_core.specs.declared.trip_text.TripErr.TheVariants.{Counter as NoCounter, Sign as NoSign, Number as NoNumber, Mixed, Long}
use Rattle.retry_core.specs.TripText.{word_at, after_spaces, counters, signs, joins, Takes, HasNumber, LacksNumber, Compares, StopsAtSign, StopsAtNumber, StopsAtJoin, MeetsJoin, Joined, none, more, Leads, trip_with, IsPlaceOf, TripResult}

-- each part of a text is read in one way
pub Takes-same : {X : Type 0} (words : List (List ℕ × X)) (text : List ℕ) (x y : X) (rest other : List ℕ) → Takes words text x rest → Takes words text y other → (x ≡ y) × (rest ≡ other)
Takes-same {X} words text x y rest other p q =
    let both : ◌≡◌ {A = List ℕ × X} (p.word, x) (q.word, y) = cc in
    let word : p.word ≡ q.word = ap (λ (w : List ℕ × X). w.0) both in
    (ap (λ (w : List ℕ × X). w.1) both, p.rest_is ∙ ap (λ (w : List ℕ). after_spaces (drop (length w) text)) word ∙ sym q.rest_is)

abbrev comparison : Counter → Sign → ℕ → Comparison
comparison counter sign number = record { counter = counter; sign = sign; number = number }

Comparison-same : (c d : Comparison) → c.counter ≡ d.counter → c.sign ≡ d.sign → c.number ≡ d.number → c ≡ d
Comparison-same c d p q r =
    ap (λ (x : Counter). comparison x c.sign c.number) p ∙ ap (λ (x : Sign). comparison d.counter x c.number) q ∙ ap (λ (x : ℕ). comparison d.counter d.sign x) r

pub Compares-same : (text : List ℕ) (c d : Comparison) (rest other : List ℕ) → Compares text c rest → Compares text d other → (c ≡ d) × (rest ≡ other)
Compares-same text c d rest other p q =
    let first = Takes-same counters text c.counter d.counter p.signed q.signed p.counter q.counter in
    let sign = subst (λ (t : List ℕ). Takes signs t d.sign q.numbered) (sym first.1) q.sign in
    let second = Takes-same signs p.signed c.sign d.sign p.numbered q.numbered p.sign sign in
    let number : c.number ≡ d.number = sym p.number.1 ∙ ap (λ t. digits_value 10 (digits_at t)) second.1 ∙ q.number.1 in
    (Comparison-same c d first.0 second.0 number, p.rest_is ∙ ap after_digits second.1 ∙ sym q.rest_is)

no_join_at_end : word_at joins (after_spaces []) ≡ None
unfolding word_at after_spaces
no_join_at_end = refl

-- no further comparison and join can be read from `rest`, after `n` of them with this join
abbrev pub IsStuck : ℕ → Join → List ℕ → Type 0
IsStuck n join rest =
    (c : Comparison) (after next : List ℕ) (j : Join) → Compares rest c after → Takes joins (after_spaces after) j next → n < 3 → (n ≢ 0 → j ≡ join) → ⊥

-- comparisons and joins end at `rest`, or one more stands there
abbrev Step : Join → List ℕ → List ℕ → List Comparison → Type 0
Step join rest text front =
    ((text ≡ rest) × (front ≡ []))
    ⊎ ((c : Comparison) × (after : List ℕ) × (next : List ℕ) × (tail : List Comparison) × Compares text c after × Takes joins (after_spaces after) join next × Joined join rest next tail × (front ≡ c ∷ tail))

Joined-step : (join : Join) (rest text : List ℕ) (front : List Comparison) → Joined join rest text front → Step join rest text front
Joined-step join rest text front none = inl (refl, refl)
Joined-step join rest text front (more t c after next tail compares takes p) = inr (c, after, next, tail, compares, takes, p, refl)

-- the same comparisons, and the same join where it is known, lead to where no more can be read
pub Joined-same : (j i : Join) (rest other : List ℕ) → (text : List ℕ) (front : List Comparison) → Joined j rest text front → (k : ℕ) (back : List Comparison) → Joined i other text back
    → k + length front < 4 → k + length back < 4 → IsStuck (k + length front) j rest → IsStuck (k + length back) i other → (k ≢ 0 → j ≡ i)
    → (front ≡ back) × (rest ≡ other) × (k + length front ≢ 0 → j ≡ i)
Joined-same j i rest other text front none k back q few few_too s o known =
    elim (Joined-step i other rest back q) [
      | inl (same, empty) ↦ (sym empty, same, λ later. known (λ zero_k. later (omega arith)))
      | inr (c, after, next, tail, compares, takes, p, is) ↦
          absurd (s c after next i compares takes (omega (arith, ap length is)) (λ later. sym (known (λ zero_k. later (omega arith)))))
    ]
Joined-same j i rest other text front (more t c after next tail compares takes p) k back q few few_too s o known =
    elim (Joined-step i other t back q) [
      | inl (same, empty) ↦
          absurd (o c after next j (subst (λ (x : List ℕ). Compares x c after) same compares) takes (omega (arith, ap length empty)) (λ later. known (λ zero_k. later (omega (arith, ap length empty)))))
      | inr (d, between, then, end, compares_too, takes_too, p_too, is) ↦
          (let first = Compares-same t c d after between compares compares_too in
          let takes_here = subst (λ (x : List ℕ). Takes joins (after_spaces x) i then) (sym first.1) takes_too in
          let second = Takes-same joins (after_spaces after) j i next then takes takes_here in
          let more_too = subst (λ (x : List ℕ). Joined i other x end) (sym second.1) p_too in
          let here : k + length (c ∷ tail) ≡ (k + 1) + length tail = omega arith in
          let there : k + length back ≡ (k + 1) + length end = omega (arith, ap length is) in
          let ends = Joined-same j i rest other next tail p (k + 1) end more_too (omega arith) (omega arith)
          (subst (λ (n : ℕ). IsStuck n j rest) here s) (subst (λ (n : ℕ). IsStuck n i other) there o) (λ later. second.0)
          in
          (ap (λ (x : Comparison). x ∷ tail) first.0 ∙ ap (λ (xs : List Comparison). d ∷ xs) ends.0 ∙ sym is, ends.1, λ later. second.0))
    ]

-- how a trip ends at `rest`, after these comparisons and joins
abbrev Ends : List ℕ → Join → List Comparison → List ℕ → Result Trip TripErr → Type 0
Ends text join front rest (Ok trip) = (last : Comparison) × Compares rest last [] × (front ≡ [] → join ≡ All) × (trip ≡ trip_with join (front ++ last ∷ []))
Ends text join front rest (Err (NoCounter at)) = (word_at counters rest ≡ None) × IsPlaceOf text rest at
Ends text join front rest (Err (NoSign at)) = (stop : List ℕ) × (StopsAtSign rest stop ⊎ StopsAtJoin rest stop) × IsPlaceOf text stop at
Ends text join front rest (Err (NoNumber at)) = (stop : List ℕ) × StopsAtNumber rest stop × IsPlaceOf text stop at
Ends text join front rest (Err (Mixed at)) = (other : Join) × (stop : List ℕ) × (front ≢ []) × MeetsJoin rest other stop × (other ≢ join) × IsPlaceOf text stop at
Ends text join front rest (Err (Long at)) = (stop : List ℕ) × (length front ≡ 3) × MeetsJoin rest join stop × IsPlaceOf text stop at

abbrev Ended : List ℕ → Result Trip TripErr → Type 0
Ended text r = (join : Join) × (front : List Comparison) × (rest : List ℕ) × Leads text join front rest × Ends text join front rest r

ended : (text : List ℕ) (r : Result Trip TripErr) → TripResult text r → Ended text r
ended text (Ok trip) h = (h.join, h.front, h.rest, h.leads, (h.last, h.compares, h.alone, h.trip_is))
ended text (Err (NoCounter at)) h = (h.join, h.front, h.rest, h.leads, (h.absent, h.place))
ended text (Err (NoSign at)) h = (h.join, h.front, h.rest, h.leads, (h.stop, h.absent, h.place))
ended text (Err (NoNumber at)) h = (h.join, h.front, h.rest, h.leads, (h.stop, h.absent, h.place))
ended text (Err (Mixed at)) h = (h.join, h.front, h.rest, h.leads, (h.other, h.stop, h.later, h.meets, h.unlike, h.place))
ended text (Err (Long at)) h = (h.join, h.front, h.rest, h.leads, (h.stop, h.fourth, h.meets, h.place))

sign_stops : (rest stop : List ℕ) (c : Comparison) (after : List ℕ) → StopsAtSign rest stop → Compares rest c after → ⊥
sign_stops rest stop c after h p =
    let same = Takes-same counters rest h.named c.counter stop p.signed h.counter p.counter in
    let absent : word_at signs p.signed ≡ None = ap (λ (t : List ℕ). word_at signs t) (sym same.1) ∙ h.absent in
    let stands = p.sign.stands in
    cc

number_stops : (rest stop : List ℕ) (c : Comparison) (after : List ℕ) → StopsAtNumber rest stop → Compares rest c after → ⊥
number_stops rest stop c after h p =
    let first = Takes-same counters rest h.named c.counter h.signed p.signed h.counter p.counter in
    let sign = subst (λ (t : List ℕ). Takes signs t c.sign p.numbered) (sym first.1) p.sign in
    let second = Takes-same signs h.signed h.relation c.sign stop p.numbered h.sign sign in
    let number = subst (λ (t : List ℕ). HasNumber t c.number) (sym second.1) p.number in
    elim h.absent [ inl none_here ↦ number.0 none_here | inr wide ↦ omega (arith, number.1, number.2) ]

no_join : (after next : List ℕ) (j : Join) → word_at joins (after_spaces after) ≡ None → Takes joins (after_spaces after) j next → ⊥
no_join after next j absent takes = let stands = takes.stands in cc

empty : (xs : List Comparison) → length xs ≡ 0 → xs ≡ []
empty [] h = refl
empty (x ∷ xs) h = absurd (omega (arith, h))

stuck : (text : List ℕ) (r : Result Trip TripErr) (join : Join) (front : List Comparison) (rest : List ℕ) → Ends text join front rest r → IsStuck (length front) join rest
stuck text (Ok trip) join front rest (last, compares, alone, is) c after next j p takes few known =
    let same = Compares-same rest last c [] after compares p in
    no_join after next j (subst (λ (t : List ℕ). word_at joins (after_spaces t) ≡ None) same.1 no_join_at_end) takes
stuck text (Err (NoCounter at)) join front rest (absent, place) c after next j p takes few known =
    let stands = p.counter.stands in cc
stuck text (Err (NoSign at)) join front rest (stop, inl h, place) c after next j p takes few known = sign_stops rest stop c after h p
stuck text (Err (NoSign at)) join front rest (stop, inr h, place) c after next j p takes few known =
    let same = Compares-same rest h.comparison c h.after after h.compares p in
    no_join after next j (ap (λ (t : List ℕ). word_at joins (after_spaces t)) (sym same.1) ∙ ap (λ (t : List ℕ). word_at joins t) (sym h.rest_is) ∙ h.absent) takes
stuck text (Err (NoNumber at)) join front rest (stop, h, place) c after next j p takes few known = number_stops rest stop c after h p
stuck text (Err (Mixed at)) join front rest (other, stop, later, meets, unlike, place) c after next j p takes few known =
    let same = Compares-same rest meets.comparison c meets.after after meets.compares p in
    let stop_is = meets.rest_is ∙ ap (λ (t : List ℕ). after_spaces t) same.1 in
    let takes_too = subst (λ (t : List ℕ). Takes joins t other meets.next) stop_is meets.joins_is in
    let join_is = Takes-same joins (after_spaces after) other j meets.next next takes_too takes in
    unlike (join_is.0 ∙ known (λ zero_long. later (empty front zero_long)))
stuck text (Err (Long at)) join front rest (stop, fourth, meets, place) c after next j p takes few known = omega (arith, fourth)

abbrev is_empty : {X : Type 0} → List X → Bool
is_empty [] = true
is_empty (x ∷ xs) = false

is_empty-none : {X : Type 0} (xs : List X) → xs ≡ [] → is_empty xs ≡ true
is_empty-none [] h = refl
is_empty-none (x ∷ xs) h = cc

is_empty-some : {X : Type 0} (xs : List X) → xs ≢ [] → is_empty xs ≡ false
is_empty-some [] h = absurd (h refl)
is_empty-some (x ∷ xs) h = refl

abbrev same_join : Join → Join → Bool
same_join All All = true
same_join Any Any = true
same_join All Any = false
same_join Any All = false

same_join-self : (j : Join) → same_join j j ≡ true
same_join-self All = refl
same_join-self Any = refl

same_join-other : (j i : Join) → j ≢ i → same_join j i ≡ false
same_join-other All All h = absurd (h refl)
same_join-other Any Any h = absurd (h refl)
same_join-other All Any h = refl
same_join-other Any All h = refl

-- the join after these comparisons, where there is one
abbrev known_join : List Comparison → Join → Option Join
known_join [] join = None
known_join (x ∷ xs) join = Some join

abbrev place : List ℕ → List ℕ → ℕ
place text rest = length text - length rest

-- the answer where a comparison ends before `after`
abbrev answer_after : List ℕ → Option Join → List Comparison → Comparison → List ℕ → Result Trip TripErr
answer_after text known front c after =
    cond (is_empty after)
    (Ok (trip_with (unwrap_or known All) (front ++ c ∷ [])))
    (option_map_or
    (λ w. option_map_or (λ j. cond (same_join w.1 j) (Err (Long (place text (after_spaces after)))) (Err (Mixed (place text (after_spaces after))))) known (Err (Long (place text (after_spaces after)))))
    (word_at joins (after_spaces after))
    (Err (NoSign (place text (after_spaces after)))))

-- the answer where a number belongs at `numbered`
abbrev answer_number : List ℕ → Option Join → List Comparison → Counter → Sign → List ℕ → Result Trip TripErr
answer_number text known front counter sign numbered =
    cond (is_empty (digits_at numbered))
    (Err (NoNumber (place text numbered)))
    (cond (ltb (digits_value 10 (digits_at numbered)) (2 ^ 32))
    (answer_after text known front (comparison counter sign (digits_value 10 (digits_at numbered))) (after_digits numbered))
    (Err (NoNumber (place text numbered))))

abbrev answer_sign : List ℕ → Option Join → List Comparison → Counter → List ℕ → Result Trip TripErr
answer_sign text known front counter signed =
    option_map_or (λ w. answer_number text known front counter w.1 (after_spaces (drop (length w.0) signed))) (word_at signs signed) (Err (NoSign (place text signed)))

-- the answer where a comparison begins at `rest`
abbrev answer_at : List ℕ → Option Join → List Comparison → List ℕ → Result Trip TripErr
answer_at text known front rest =
    option_map_or (λ w. answer_sign text known front w.1 (after_spaces (drop (length w.0) rest))) (word_at counters rest) (Err (NoCounter (place text rest)))

at_counter : (text : List ℕ) (known : Option Join) (front : List Comparison) (rest signed : List ℕ) (counter : Counter) → Takes counters rest counter signed
    → answer_at text known front rest ≡ answer_sign text known front counter signed
at_counter text known front rest signed counter p = rw (p.stands, p.rest_is) refl

at_sign : (text : List ℕ) (known : Option Join) (front : List Comparison) (counter : Counter) (signed numbered : List ℕ) (sign : Sign) → Takes signs signed sign numbered
    → answer_sign text known front counter signed ≡ answer_number text known front counter sign numbered
at_sign text known front counter signed numbered sign p = rw (p.stands, p.rest_is) refl

at_comparison : (text : List ℕ) (known : Option Join) (front : List Comparison) (rest after : List ℕ) (c : Comparison) → Compares rest c after
    → answer_at text known front rest ≡ answer_after text known front c after
at_comparison text known front rest after c p =
    let few : ltb (digits_value 10 (digits_at p.numbered)) (2 ^ 32) ≡ true = grind (arith, nat_tests, p.number.1, p.number.2) in
    at_counter text known front rest p.signed c.counter p.counter ∙ at_sign text known front c.counter p.signed p.numbered c.sign p.sign
    ∙ rw (is_empty-some (digits_at p.numbered) p.number.0, few, p.number.1, p.rest_is) refl

no_comparison : (text : List ℕ) (known : Option Join) (front : List Comparison) (rest : List ℕ) (at : ℕ) → word_at counters rest ≡ None → IsPlaceOf text rest at
    → ◌≡◌ {A = Result Trip TripErr} (Err (NoCounter at)) (answer_at text known front rest)
no_comparison text known front rest at absent is = rw (absent, is) refl

no_sign : (text : List ℕ) (known : Option Join) (front : List Comparison) (rest stop : List ℕ) (at : ℕ) → StopsAtSign rest stop → IsPlaceOf text stop at
    → ◌≡◌ {A = Result Trip TripErr} (Err (NoSign at)) (answer_at text known front rest)
no_sign text known front rest stop at h is =
    (let here : ◌≡◌ {A = Result Trip TripErr} (Err (NoSign at)) (answer_sign text known front h.named stop) = rw (h.absent, is) refl in here)
    ∙ sym (at_counter text known front rest stop h.named h.counter)

cond_same : (b : Bool) (r : Result Trip TripErr) → cond b r r ≡ r
cond_same true r = refl
cond_same false r = refl

no_number : (text : List ℕ) (known : Option Join) (front : List Comparison) (counter : Counter) (sign : Sign) (stop : List ℕ) (at : ℕ) → LacksNumber stop → IsPlaceOf text stop at
    → ◌≡◌ {A = Result Trip TripErr} (Err (NoNumber at)) (answer_number text known front counter sign stop)
no_number text known front counter sign stop at (inl none_here) is = rw (is_empty-none (digits_at stop) none_here, is) refl
no_number text known front counter sign stop at (inr wide) is =
    let over : ltb (digits_value 10 (digits_at stop)) (2 ^ 32) ≡ false = grind (arith, nat_tests) in
    rw (over, is) (sym (cond_same (is_empty (digits_at stop)) (Err (NoNumber (place text stop)))))

at_number : (text : List ℕ) (known : Option Join) (front : List Comparison) (rest stop : List ℕ) (at : ℕ) → StopsAtNumber rest stop → IsPlaceOf text stop at
    → ◌≡◌ {A = Result Trip TripErr} (Err (NoNumber at)) (answer_at text known front rest)
at_number text known front rest stop at h is =
    no_number text known front h.named h.relation stop at h.absent is
    ∙ sym (at_sign text known front h.named h.signed stop h.relation h.sign)
    ∙ sym (at_counter text known front rest h.signed h.named h.counter)

-- the answer at a join, by the join
abbrev answer_join : List ℕ → Option Join → Join → List ℕ → Result Trip TripErr
answer_join text known found stop = option_map_or (λ j. cond (same_join found j) (Err (Long (place text stop))) (Err (Mixed (place text stop)))) known (Err (Long (place text stop)))

at_join : (text : List ℕ) (known : Option Join) (front : List Comparison) (rest stop : List ℕ) (found : Join) → MeetsJoin rest found stop
    → answer_at text known front rest ≡ answer_join text known found stop
at_join text known front rest stop found h =
    at_comparison text known front rest h.after h.comparison h.compares
    ∙ (let stands : word_at joins (after_spaces h.after) ≡ Some (h.joins_is.word, found) = ap (λ (t : List ℕ). word_at joins t) (sym h.rest_is) ∙ h.joins_is.stands in
    rw (is_empty-some h.after (λ ends. no_join [] h.next found no_join_at_end (subst (λ (t : List ℕ). Takes joins t found h.next) (h.rest_is ∙ ap (λ (t : List ℕ). after_spaces t) ends) h.joins_is)), stands, h.rest_is) refl)

known_some : (front : List Comparison) (join : Join) → front ≢ [] → known_join front join ≡ Some join
known_some [] join later = absurd (later refl)
known_some (x ∷ xs) join later = refl

known_or : (front : List Comparison) (join : Join) → (front ≡ [] → join ≡ All) → unwrap_or (known_join front join) All ≡ join
known_or [] join alone = sym (alone refl)
known_or (x ∷ xs) join alone = refl

not_nil : (front : List Comparison) → length front ≡ 3 → front ≢ []
not_nil [] h empty = omega (arith, h)
not_nil (x ∷ xs) h empty = cc

canonical : (text : List ℕ) (r : Result Trip TripErr) (join : Join) (front : List Comparison) (rest : List ℕ) → Ends text join front rest r → r ≡ answer_at text (known_join front join) front rest
canonical text (Ok trip) join front rest (last, compares, alone, is) =
    ap (λ (t : Trip). Ok t) is
    ∙ ap (λ (j : Join). Ok (trip_with j (front ++ last ∷ []))) (sym (known_or front join alone))
    ∙ sym (at_comparison text (known_join front join) front rest [] last compares)
canonical text (Err (NoCounter at)) join front rest (absent, is) = no_comparison text (known_join front join) front rest at absent is
canonical text (Err (NoSign at)) join front rest (stop, inl h, is) = no_sign text (known_join front join) front rest stop at h is
canonical text (Err (NoSign at)) join front rest (stop, inr h, is) =
    let here : word_at joins (after_spaces h.after) ≡ None = ap (λ (t : List ℕ). word_at joins t) (sym h.rest_is) ∙ h.absent in
    let ends : ◌≡◌ {A = Result Trip TripErr} (Err (NoSign at)) (answer_after text (known_join front join) front h.comparison h.after) =
    rw (is_empty-some h.after h.some, here, is, h.rest_is) refl
    in
    ends ∙ sym (at_comparison text (known_join front join) front rest h.after h.comparison h.compares)
canonical text (Err (NoNumber at)) join front rest (stop, h, is) = at_number text (known_join front join) front rest stop at h is
canonical text (Err (Mixed at)) join front rest (other, stop, later, meets, unlike, is) =
    let here : ◌≡◌ {A = Result Trip TripErr} (Err (Mixed at)) (answer_join text (known_join front join) other stop) =
    rw (known_some front join later, same_join-other other join unlike, is) refl
    in
    here ∙ sym (at_join text (known_join front join) front rest stop other meets)
canonical text (Err (Long at)) join front rest (stop, fourth, meets, is) =
    let here : ◌≡◌ {A = Result Trip TripErr} (Err (Long at)) (answer_join text (known_join front join) join stop) =
    rw (known_some front join (not_nil front fourth), same_join-self join, is) refl
    in
    here ∙ sym (at_join text (known_join front join) front rest stop join meets)

known_same : (front : List Comparison) (j i : Join) → (length front ≢ 0 → j ≡ i) → known_join front j ≡ known_join front i
known_same [] j i h = refl
known_same (x ∷ xs) j i h = ap (λ (y : Join). Some y) (h (λ e. omega (arith, e)))

-- a text has one answer
pub TripResult-same : (text : List ℕ) (r s : Result Trip TripErr) → TripResult text r → TripResult text s → r ≡ s
TripResult-same text r s h k =
    let (j, front, rest, leads, ends) = ended text r h in
    let (i, back, other, leads_too, ends_too) = ended text s k in
    let same = Joined-same j i rest other text front leads.joined 0 back leads_too.joined (omega (arith, leads.few)) (omega (arith, leads_too.few))
    (subst (λ (n : ℕ). IsStuck n j rest) (sym (zero-add (length front))) (stuck text r j front rest ends))
    (subst (λ (n : ℕ). IsStuck n i other) (sym (zero-add (length back))) (stuck text s i back other ends_too))
    (λ later. absurd (later refl))
    in
    let known = known_same front j i (λ later. same.2 (λ none_yet. later (omega (arith, none_yet)))) in
    canonical text r j front rest ends
    ∙ ap (λ (k : Option Join). answer_at text k front rest) known
    ∙ ap (λ (f : List Comparison). answer_at text (known_join f i) f rest) same.0
    ∙ ap (λ (t : List ℕ). answer_at text (known_join back i) back t) same.1
    ∙ sym (canonical text s i back other ends_too)

pub trip_answers : (text : List ℕ) (r : Result Trip TripErr) → TripResult text r → (s : Result Trip TripErr) → (r ≡ s) ↔ TripResult text s
trip_answers text r h s = (λ e. subst (TripResult text) e h, λ k. TripResult-same text r s h k)
