-- Each text is read as one duration or none, and as one trip or none.
use Rattle.std.proofs.Common.{◌≡◌, ◌≢◌, ◌<◌, ◌≤◌, ◌+◌, ◌-◌, ◌*◌, ◌^◌, ◌⊎◌, ◌↔◌, ◌∙◌, inl, inr, ℕ, zero, suc, List, [], ◌∷◌, ◌++◌, length, drop, Option, Some, None, sym, ap, subst, arith, refl}
use Rattle.std.proofs.lemmas.List.{length-drop}
use Rattle.std.proofs.lemmas.Bool.{cases_lt}
use Rattle.std.specs.Str.Parse.{digits_value}
use Rattle.side_base.specs.Decimal.{digits_at, after_digits}
use Rattle.side_base.specs.Duration.{TimeUnit, unit_at, Parts, none, part, IsDuration}
use Rattle.retry_core.specs.declared.trip.Counter.{Counter}
use Rattle.retry_core.specs.declared.trip.Sign.{Sign}
use Rattle.retry_core.specs.declared.trip.Join.{Join}
use Rattle.retry_core.specs.declared.trip.Join.TheVariants.{All, Any}
use Rattle.retry_core.specs.declared.trip.Comparison.{Comparison}
use Rattle.retry_core.specs.declared.trip.Trip.{Trip}
use Rattle.retry_core.specs.TripText.{word_at, after_spaces, counters, signs, joins, Takes, HasNumber, Compares, Joined, none as end, more, Leads, trip_with, IsTrip}
use Rattle.policy_spec.specs.Readers.{Readers, AreReaders}

-- there is one value of this kind, or none, and which
abbrev Finds : {A : Type 0} → (A → Type 0) → Type 0
Finds {A} P = (r : Option A) × ((a : A) → (r ≡ Some a) ↔ P a)

finds_none : {A : Type 0} (P : A → Type 0) → ((a : A) → P a → ⊥) → Finds P
finds_none {A} P never = (None, λ a. (λ e. absurd (let h : ◌≡◌ {A = Option A} None (Some a) = e in cc), λ p. absurd (never a p)))

value_same : {A : Type 0} (a b : A) → ◌≡◌ {A = Option A} (Some a) (Some b) → a ≡ b
value_same a b e = cc

finds_one : {A : Type 0} (P : A → Type 0) (a : A) → P a → ((b : A) → P b → a ≡ b) → Finds P
finds_one {A} P a p only = (Some a, λ b. (λ e. subst P (value_same a b e) p, λ q. ap (λ (x : A). Some x) (only b q)))

nothing : {A : Type 0} (P : A → Type 0) → ((a : A) → (◌≡◌ {A = Option A} None (Some a)) ↔ P a) → (a : A) → P a → ⊥
nothing {A} P exact a p = let h : ◌≡◌ {A = Option A} None (Some a) = (exact a).1 p in cc

only_one : {A : Type 0} (P : A → Type 0) (a : A) → ((b : A) → (◌≡◌ {A = Option A} (Some a) (Some b)) ↔ P b) → (b : A) → P b → a ≡ b
only_one P a exact b p = value_same a b ((exact b).1 p)

nil_or : {A : Type 0} (xs : List A) → (xs ≡ []) ⊎ (xs ≢ [])
nil_or [] = inl refl
nil_or (x ∷ xs) = inr (λ e. cc)

some_or : {A : Type 0} (o : Option A) → (o ≡ None) ⊎ ((a : A) × (o ≡ Some a))
some_or None = inl refl
some_or (Some a) = inr (a, refl)

within_or : (n m : ℕ) → (n ≤ m) ⊎ (m < n)
within_or n m = elim (cases_lt m n) [ inl over ↦ inr over | inr within ↦ inl within ]

-- durations

abbrev Step : List ℕ → ℕ → Type 0
Step text ms =
    ((text ≡ []) × (ms ≡ 0))
    ⊎ ((unit : TimeUnit) × (n : ℕ) × (digits_at text ≢ []) × (unit_at (after_digits text) ≡ Some unit) × Parts [] (drop (length unit.letters) (after_digits text)) n
    × (ms ≡ digits_value 10 (digits_at text) * unit.ms + n))

step_of : (text : List ℕ) (ms : ℕ) → Parts [] text ms → Step text ms
step_of text ms none = inl (refl, refl)
step_of text ms (part t v n e w p) = inr (v, n, e, w, p, refl)

no_parts : (text : List ℕ) → text ≢ [] → ((unit : TimeUnit) → digits_at text ≢ [] → unit_at (after_digits text) ≡ Some unit → (n : ℕ) → Parts [] (drop (length unit.letters) (after_digits text)) n → ⊥) → (ms : ℕ) → Parts [] text ms → ⊥
no_parts text some never ms p = elim (step_of text ms p) [ inl (e, z) ↦ some e | inr (unit, n, d, ahead, q, is) ↦ never unit d ahead n q ]

at_unit : (text : List ℕ) (unit other : TimeUnit) (n : ℕ) → unit_at (after_digits text) ≡ Some unit → unit_at (after_digits text) ≡ Some other → Parts [] (drop (length other.letters) (after_digits text)) n → (other ≡ unit) × Parts [] (drop (length unit.letters) (after_digits text)) n
at_unit text unit other n here there p =
    let one : other ≡ unit = value_same other unit (sym there ∙ here) in
    (one, subst (λ (u : TimeUnit). Parts [] (drop (length u.letters) (after_digits text)) n) one p)

with_rest : (text : List ℕ) (unit : TimeUnit) → text ≢ [] → digits_at text ≢ [] → unit_at (after_digits text) ≡ Some unit → Finds (Parts [] (drop (length unit.letters) (after_digits text))) → Finds (Parts [] text)
with_rest text unit some digits ahead (None, exact) =
    finds_none (Parts [] text) (no_parts text some (λ other d there n q. nothing (Parts [] (drop (length unit.letters) (after_digits text))) exact n (at_unit text unit other n ahead there q).1))
with_rest text unit some digits ahead (Some n, exact) =
    finds_one (Parts [] text) (digits_value 10 (digits_at text) * unit.ms + n) (part text unit n digits ahead ((exact n).0 refl))
    (λ ms p. elim (step_of text ms p) [
      | inl (e, z) ↦ absurd (some e)
      | inr (other, k, d, there, q, is) ↦
          (let same = at_unit text unit other k ahead there q in
          let number : n ≡ k = only_one (Parts [] (drop (length unit.letters) (after_digits text))) n exact k same.1 in
          ap (λ (x : ℕ). digits_value 10 (digits_at text) * unit.ms + x) number ∙ ap (λ (u : TimeUnit). digits_value 10 (digits_at text) * u.ms + k) (sym same.0) ∙ sym is)
    ])

length_some : {A : Type 0} (xs : List A) → xs ≢ [] → 1 ≤ length xs
length_some [] some = absurd (some refl)
length_some (x ∷ xs) some = omega arith

more_parts : (fuel : ℕ) (text : List ℕ) → text ≢ [] → length text ≤ suc fuel → ((rest : List ℕ) → length rest ≤ fuel → Finds (Parts [] rest)) → Finds (Parts [] text)
more_parts fuel text some within next =
    elim (nil_or (digits_at text)) [
      | inl absent ↦ finds_none (Parts [] text) (no_parts text some (λ unit d ahead n q. d absent))
      | inr digits ↦
          elim (some_or (unit_at (after_digits text))) [
            | inl absent ↦ finds_none (Parts [] text) (no_parts text some (λ unit d ahead n q. let both : ◌≡◌ {A = Option TimeUnit} None (Some unit) = sym absent ∙ ahead in cc))
            | inr (unit, ahead) ↦
                with_rest text unit some digits ahead
                (next (drop (length unit.letters) (after_digits text))
                (omega (arith, within, length_some (digits_at text) digits, length_some text some, length-drop (length unit.letters) (after_digits text), length-drop (length (digits_at text)) text)))
          ]
    ]

parts_in : (fuel : ℕ) (text : List ℕ) → length text ≤ fuel → Finds (Parts [] text)
parts_in fuel [] within =
    finds_one (Parts [] []) 0 none (λ ms p. elim (step_of [] ms p) [ inl (e, z) ↦ sym z | inr (unit, n, d, ahead, q, is) ↦ absurd (d refl) ])
parts_in zero (b ∷ bs) within = absurd (omega (arith, within))
parts_in (suc fuel) (b ∷ bs) within = more_parts fuel (b ∷ bs) (λ e. cc) within (parts_in fuel)

abbrev IsTime : List ℕ → ℕ → Type 0
IsTime text ms = IsDuration text ms × (ms ≤ 31536000000)

within_limit : (text : List ℕ) → text ≢ [] → Finds (Parts [] text) → Finds (IsTime text)
within_limit text some (None, exact) = finds_none (IsTime text) (λ ms p. nothing (Parts [] text) exact ms p.0.1)
within_limit text some (Some n, exact) =
    elim (within_or n 31536000000) [
      | inl few ↦ finds_one (IsTime text) n ((some, (exact n).0 refl), few) (λ ms p. only_one (Parts [] text) n exact ms p.0.1)
      | inr many ↦ finds_none (IsTime text) (λ ms p. let same : n ≡ ms = only_one (Parts [] text) n exact ms p.0.1 in omega (arith, many, p.1, same))
    ]

duration_in : (text : List ℕ) → Finds (IsTime text)
duration_in text =
    elim (nil_or text) [
      | inl empty ↦ finds_none (IsTime text) (λ ms p. p.0.0 empty)
      | inr some ↦ within_limit text some (parts_in (length text) text (omega arith))
    ]

-- trips

-- what a word or a comparison reads of a text, and what it leaves
abbrev Reads : {X : Type 0} → (X → List ℕ → Type 0) → Type 0
Reads {X} P = (r : Option (X × List ℕ)) × ((x : X) (rest : List ℕ) → (r ≡ Some (x, rest)) ↔ P x rest)

pair_same : {X : Type 0} (x y : X) (a b : List ℕ) → x ≡ y → a ≡ b → ◌≡◌ {A = X × List ℕ} (x, a) (y, b)
pair_same x y a b e f = cc

first_same : {X : Type 0} (x y : X) (a b : List ℕ) → ◌≡◌ {A = Option (X × List ℕ)} (Some (x, a)) (Some (y, b)) → (x ≡ y) × (a ≡ b)
first_same {X} x y a b e =
    let whole : ◌≡◌ {A = X × List ℕ} (x, a) (y, b) = value_same (x, a) (y, b) e in
    (ap (λ (w : X × List ℕ). w.0) whole, ap (λ (w : X × List ℕ). w.1) whole)

reads_none : {X : Type 0} (P : X → List ℕ → Type 0) → ((x : X) (rest : List ℕ) → P x rest → ⊥) → Reads P
reads_none {X} P never = (None, λ x rest. (λ e. absurd (let h : ◌≡◌ {A = Option (X × List ℕ)} None (Some (x, rest)) = e in cc), λ p. absurd (never x rest p)))

reads_one : {X : Type 0} (P : X → List ℕ → Type 0) (x : X) (rest : List ℕ) → P x rest → ((y : X) (other : List ℕ) → P y other → (x ≡ y) × (rest ≡ other)) → Reads P
reads_one {X} P x rest p only = (
  Some (x, rest),
  λ y other. (
    λ e. let same = first_same x y rest other e in subst (λ (z : X). P z other) same.0 (subst (λ (t : List ℕ). P x t) same.1 p),
    λ q. let same = only y other q in ap (λ (w : X × List ℕ). Some w) (pair_same x y rest other same.0 same.1),
  ),
)

reads_nothing : {X : Type 0} (P : X → List ℕ → Type 0) → ((x : X) (rest : List ℕ) → (◌≡◌ {A = Option (X × List ℕ)} None (Some (x, rest))) ↔ P x rest) → (x : X) (rest : List ℕ) → P x rest → ⊥
reads_nothing {X} P exact x rest p = let h : ◌≡◌ {A = Option (X × List ℕ)} None (Some (x, rest)) = (exact x rest).1 p in cc

reads_only : {X : Type 0} (P : X → List ℕ → Type 0) (x : X) (rest : List ℕ) → ((y : X) (other : List ℕ) → (◌≡◌ {A = Option (X × List ℕ)} (Some (x, rest)) (Some (y, other))) ↔ P y other) → (y : X) (other : List ℕ) → P y other → (x ≡ y) × (rest ≡ other)
reads_only P x rest exact y other p = first_same x y rest other ((exact y other).1 p)

takes : {X : Type 0} (words : List (List ℕ × X)) (text : List ℕ) → Reads (λ (x : X) (rest : List ℕ). Takes words text x rest)
takes {X} words text =
    elim (some_or (word_at words text)) [
      | inl absent ↦ reads_none (λ (x : X) (rest : List ℕ). Takes words text x rest) (λ x rest p. let both : ◌≡◌ {A = Option (List ℕ × X)} None (Some (p.word, x)) = sym absent ∙ p.stands in cc)
      | inr (word, stands) ↦
          reads_one (λ (x : X) (rest : List ℕ). Takes words text x rest) word.1 (after_spaces (drop (length word.0) text)) (record { word = word.0; stands = stands; rest_is = refl })
          (λ y other p.
          let whole : ◌≡◌ {A = List ℕ × X} word (p.word, y) = value_same word (p.word, y) (sym stands ∙ p.stands) in
          (ap (λ (w : List ℕ × X). w.1) whole, ap (λ (w : List ℕ × X). after_spaces (drop (length w.0) text)) whole ∙ sym p.rest_is))
    ]

number : (text : List ℕ) → Finds (HasNumber text)
number text =
    elim (nil_or (digits_at text)) [
      | inl absent ↦ finds_none (HasNumber text) (λ n p. p.0 absent)
      | inr digits ↦
          elim (within_or (2 ^ 32) (digits_value 10 (digits_at text))) [
            | inl wide ↦ finds_none (HasNumber text) (λ n p. omega (arith, wide, p.1, p.2))
            | inr few ↦ finds_one (HasNumber text) (digits_value 10 (digits_at text)) (digits, refl, few) (λ n p. p.1)
          ]
    ]

abbrev comparison : Counter → Sign → ℕ → Comparison
comparison counter sign n = record { counter = counter; sign = sign; number = n }

comparison_same : (c d : Comparison) → c.counter ≡ d.counter → c.sign ≡ d.sign → c.number ≡ d.number → c ≡ d
comparison_same c d p q r =
    ap (λ (x : Counter). comparison x c.sign c.number) p ∙ ap (λ (x : Sign). comparison d.counter x c.number) q ∙ ap (λ (x : ℕ). comparison d.counter d.sign x) r

abbrev IsCompared : List ℕ → Comparison → List ℕ → Type 0
IsCompared text c rest = Compares text c rest

compared_number : (text : List ℕ) (counter : Counter) (signed : List ℕ) (sign : Sign) (numbered : List ℕ) → ((c : Counter) (rest : List ℕ) → Takes counters text c rest → (counter ≡ c) × (signed ≡ rest))
    → ((s : Sign) (rest : List ℕ) → Takes signs signed s rest → (sign ≡ s) × (numbered ≡ rest)) → Takes counters text counter signed → Takes signs signed sign numbered → Finds (HasNumber numbered) → Reads (IsCompared text)
compared_number text counter signed sign numbered one_counter one_sign counts signs_it (None, exact) =
    reads_none (IsCompared text) (λ c rest p.
    let first = one_counter c.counter p.signed p.counter in
    let second = one_sign c.sign p.numbered (subst (λ (t : List ℕ). Takes signs t c.sign p.numbered) (sym first.1) p.sign) in
    nothing (HasNumber numbered) exact c.number (subst (λ (t : List ℕ). HasNumber t c.number) (sym second.1) p.number))
compared_number text counter signed sign numbered one_counter one_sign counts signs_it (Some n, exact) =
    reads_one (IsCompared text) (comparison counter sign n) (after_digits numbered)
    (record { signed = signed; numbered = numbered; counter = counts; sign = signs_it; number = (exact n).0 refl; rest_is = refl })
    (λ c rest p.
    let first = one_counter c.counter p.signed p.counter in
    let second = one_sign c.sign p.numbered (subst (λ (t : List ℕ). Takes signs t c.sign p.numbered) (sym first.1) p.sign) in
    let third : n ≡ c.number = only_one (HasNumber numbered) n exact c.number (subst (λ (t : List ℕ). HasNumber t c.number) (sym second.1) p.number) in
    (comparison_same (comparison counter sign n) c first.0 second.0 third, ap (λ (t : List ℕ). after_digits t) second.1 ∙ sym p.rest_is))

compared_sign : (text : List ℕ) (counter : Counter) (signed : List ℕ) → ((c : Counter) (rest : List ℕ) → Takes counters text c rest → (counter ≡ c) × (signed ≡ rest))
    → Takes counters text counter signed → Reads (λ (s : Sign) (rest : List ℕ). Takes signs signed s rest) → Reads (IsCompared text)
compared_sign text counter signed one_counter counts (None, exact) =
    reads_none (IsCompared text) (λ c rest p.
    let first = one_counter c.counter p.signed p.counter in
    reads_nothing (λ (s : Sign) (rest : List ℕ). Takes signs signed s rest) exact c.sign p.numbered (subst (λ (t : List ℕ). Takes signs t c.sign p.numbered) (sym first.1) p.sign))
compared_sign text counter signed one_counter counts (Some (sign, numbered), exact) =
    compared_number text counter signed sign numbered one_counter (reads_only (λ (s : Sign) (rest : List ℕ). Takes signs signed s rest) sign numbered exact) counts ((exact sign numbered).0 refl) (number numbered)

compared_counter : (text : List ℕ) → Reads (λ (c : Counter) (rest : List ℕ). Takes counters text c rest) → Reads (IsCompared text)
compared_counter text (None, exact) = reads_none (IsCompared text) (λ c rest p. reads_nothing (λ (c : Counter) (rest : List ℕ). Takes counters text c rest) exact c.counter p.signed p.counter)
compared_counter text (Some (counter, signed), exact) =
    compared_sign text counter signed (reads_only (λ (c : Counter) (rest : List ℕ). Takes counters text c rest) counter signed exact) ((exact counter signed).0 refl) (takes signs signed)

compared : (text : List ℕ) → Reads (IsCompared text)
compared text = compared_counter text (takes counters text)

-- comparisons under one join up to the end of the text, the last of them with none behind it
pub record Tail (most : ℕ) (join : Join) (text : List ℕ) (all : List Comparison) : Type 0 where
  pub front : List Comparison
  pub last : Comparison
  pub rest : List ℕ
  pub joined : Joined join rest text front
  pub few : length front < most
  pub compares : Compares rest last []
  pub all_is : all ≡ front ++ last ∷ []

-- the first comparison stands alone, or a join and more follow
abbrev First : ℕ → Join → List ℕ → List Comparison → Type 0
First most join text all =
    ((c : Comparison) × Compares text c [] × (all ≡ c ∷ []))
    ⊎ ((c : Comparison) × (after : List ℕ) × (next : List ℕ) × (others : List Comparison) × Compares text c after × Takes joins (after_spaces after) join next × Tail most join next others × (all ≡ c ∷ others))

first_part : (most : ℕ) (join : Join) (text rest : List ℕ) (front : List Comparison) (last : Comparison) → Joined join rest text front → length front < suc most → Compares rest last [] → First most join text (front ++ last ∷ [])
first_part most join text rest front last end few compares_last = inl (last, compares_last, refl)
first_part most join text rest front last (more t c after next others compares takes_it p) few compares_last =
    inr (c, after, next, others ++ last ∷ [], compares, takes_it, record { front = others; last = last; rest = rest; joined = p; few = omega (arith, few); compares = compares_last; all_is = refl }, refl)

no_join_at_end : (join : Join) (next : List ℕ) → Takes joins (after_spaces []) join next → ⊥
unfolding word_at after_spaces
no_join_at_end join next p = let stands = p.stands in cc

cons_some : {A : Type 0} (x : A) (xs : List A) → (x ∷ xs) ≡ [] → ⊥
cons_some x xs e = cc

join_or : (j i : Join) → (j ≡ i) ⊎ (j ≢ i)
join_or All All = inl refl
join_or All Any = inr (λ e. cc)
join_or Any All = inr (λ e. cc)
join_or Any Any = inl refl

tail_first : (most : ℕ) (join : Join) (text : List ℕ) (all : List Comparison) → Tail (suc most) join text all → First most join text all
tail_first most join text all t =
    subst (First most join text) (sym t.all_is) (first_part most join text t.rest t.front t.last t.joined t.few t.compares)

tail_push : (most : ℕ) (join : Join) (text after next : List ℕ) (c : Comparison) (others : List Comparison) → Compares text c after → Takes joins (after_spaces after) join next → Tail most join next others → Tail (suc most) join text (c ∷ others)
tail_push most join text after next c others compares takes_it t =
    record { front = c ∷ t.front; last = t.last; rest = t.rest; joined = more text c after next t.front compares takes_it t.joined; few = omega (arith, t.few); compares = t.compares; all_is = ap (λ (xs : List Comparison). c ∷ xs) t.all_is }

-- what the first comparison of a text is, and what it leaves, where both are known
abbrev Only : List ℕ → Comparison → List ℕ → Type 0
Only text c after = (d : Comparison) (other : List ℕ) → Compares text d other → (c ≡ d) × (after ≡ other)

abbrev OnlyJoin : List ℕ → Join → List ℕ → Type 0
OnlyJoin after join next = (i : Join) (other : List ℕ) → Takes joins (after_spaces after) i other → (join ≡ i) × (next ≡ other)

moved_join : (after other : List ℕ) (join : Join) (next : List ℕ) → after ≡ other → Takes joins (after_spaces other) join next → Takes joins (after_spaces after) join next
moved_join after other join next same p = subst (λ (t : List ℕ). Takes joins (after_spaces t) join next) (sym same) p

-- further comparisons can't be read behind this one
no_tail : (most : ℕ) (join : Join) (text : List ℕ) (c : Comparison) (after : List ℕ) → Only text c after → after ≢ [] → ((next : List ℕ) (others : List Comparison) → Takes joins (after_spaces after) join next → Tail most join next others → ⊥)
    → (all : List Comparison) → Tail (suc most) join text all → ⊥
no_tail most join text c after only goes never all t =
    elim (tail_first most join text all t) [
      | inl (d, p, is) ↦ goes (only d [] p).1
      | inr (d, other, next, others, p, takes_it, behind, is) ↦ never next others (moved_join after other join next (only d other p).1 takes_it) behind
    ]

tail_next : (most : ℕ) (join : Join) (text : List ℕ) (c : Comparison) (after next : List ℕ) → Only text c after → after ≢ [] → OnlyJoin after join next → Compares text c after → Takes joins (after_spaces after) join next
    → Finds (Tail most join next) → Finds (Tail (suc most) join text)
tail_next most join text c after next only goes only_join compares takes_it (None, found) =
    finds_none (Tail (suc most) join text) (no_tail most join text c after only goes (λ other others p behind. nothing (Tail most join next) found others (subst (λ (t : List ℕ). Tail most join t others) (sym (only_join join other p).1) behind)))
tail_next most join text c after next only goes only_join compares takes_it (Some others, found) =
    finds_one (Tail (suc most) join text) (c ∷ others) (tail_push most join text after next c others compares takes_it ((found others).0 refl))
    (λ all t. elim (tail_first most join text all t) [
      | inl (d, p, is) ↦ absurd (goes (only d [] p).1)
      | inr (d, other, further, rest, p, joined, behind, is) ↦
          (let first = only d other p in
          let second = only_join join further (moved_join after other join further first.1 joined) in
          let same : others ≡ rest = only_one (Tail most join next) others found rest (subst (λ (t : List ℕ). Tail most join t rest) (sym second.1) behind) in
          ap (λ (x : Comparison). x ∷ others) first.0 ∙ ap (λ (xs : List Comparison). d ∷ xs) same ∙ sym is)
    ])

tail_join : (most : ℕ) (join : Join) (text : List ℕ) (c : Comparison) (after : List ℕ) → Only text c after → after ≢ [] → Compares text c after → Reads (λ (i : Join) (rest : List ℕ). Takes joins (after_spaces after) i rest)
    → ((next : List ℕ) → Finds (Tail most join next)) → Finds (Tail (suc most) join text)
tail_join most join text c after only goes compares (None, exact) next =
    finds_none (Tail (suc most) join text) (no_tail most join text c after only goes (λ other others p behind. reads_nothing (λ (i : Join) (rest : List ℕ). Takes joins (after_spaces after) i rest) exact join other p))
tail_join most join text c after only goes compares (Some (i, rest), exact) next =
    let one : OnlyJoin after i rest = reads_only (λ (i : Join) (rest : List ℕ). Takes joins (after_spaces after) i rest) i rest exact in
    elim (join_or i join) [
      | inl same ↦
          tail_next most join text c after rest only goes (subst (λ (k : Join). OnlyJoin after k rest) same one) compares (subst (λ (k : Join). Takes joins (after_spaces after) k rest) same ((exact i rest).0 refl)) (next rest)
      | inr unlike ↦ finds_none (Tail (suc most) join text) (no_tail most join text c after only goes (λ other others p behind. unlike (one join other p).0))
    ]

tail_after : (most : ℕ) (join : Join) (text : List ℕ) → Reads (IsCompared text) → ((next : List ℕ) → Finds (Tail most join next)) → Finds (Tail (suc most) join text)
tail_after most join text (None, exact) next =
    finds_none (Tail (suc most) join text) (λ all t. elim (tail_first most join text all t) [
      | inl (d, p, is) ↦ reads_nothing (IsCompared text) exact d [] p
      | inr (d, other, further, rest, p, joined, behind, is) ↦ reads_nothing (IsCompared text) exact d other p
    ])
tail_after most join text (Some (c, after), exact) next =
    let only : Only text c after = reads_only (IsCompared text) c after exact in
    let compares : Compares text c after = (exact c after).0 refl in
    elim (nil_or after) [
      | inl ends ↦
          finds_one (Tail (suc most) join text) (c ∷ []) (record { front = []; last = c; rest = text; joined = end; few = omega arith; compares = subst (λ (t : List ℕ). Compares text c t) ends compares; all_is = refl })
          (λ all t. elim (tail_first most join text all t) [
            | inl (d, p, is) ↦ ap (λ (x : Comparison). x ∷ []) (only d [] p).0 ∙ sym is
            | inr (d, other, further, rest, p, joined, behind, is) ↦ absurd (no_join_at_end join further (moved_join [] other join further (sym ends ∙ (only d other p).1) joined))
          ])
      | inr goes ↦ tail_join most join text c after only goes compares (takes joins (after_spaces after)) next
    ]

tail : (most : ℕ) (join : Join) (text : List ℕ) → Finds (Tail most join text)
tail zero join text = finds_none (Tail zero join text) (λ all t. omega (arith, t.few))
tail (suc most) join text = tail_after most join text (compared text) (tail most join)

-- a trip of one comparison, or of more under a join
abbrev TripStep : List ℕ → Trip → Type 0
TripStep text trip =
    ((c : Comparison) × Compares text c [] × (trip ≡ trip_with All (c ∷ [])))
    ⊎ ((join : Join) × (c : Comparison) × (after : List ℕ) × (next : List ℕ) × (others : List Comparison) × Compares text c after × Takes joins (after_spaces after) join next × Tail 3 join next others × (trip ≡ trip_with join (c ∷ others)))

trip_part : (join : Join) (text rest : List ℕ) (front : List Comparison) (last : Comparison) (trip : Trip) → Joined join rest text front → length front < 4 → Compares rest last [] → (front ≡ [] → join ≡ All) → trip ≡ trip_with join (front ++ last ∷ []) → TripStep text trip
trip_part join text rest front last trip end few compares alone is = inl (last, compares, is ∙ ap (λ (j : Join). trip_with j (last ∷ [])) (alone refl))
trip_part join text rest front last trip (more t c after next others first joined p) few compares alone is =
    inr (join, c, after, next, others ++ last ∷ [], first, joined, record { front = others; last = last; rest = rest; joined = p; few = omega (arith, few); compares = compares; all_is = refl }, is)

trip_step : (text : List ℕ) (trip : Trip) → IsTrip text trip → TripStep text trip
trip_step text trip h = trip_part h.join text h.rest h.front h.last trip h.leads.joined h.leads.few h.compares h.alone h.trip_is

trip_one : (text : List ℕ) (c : Comparison) → Compares text c [] → IsTrip text (trip_with All (c ∷ []))
trip_one text c compares = record { join = All; front = []; last = c; rest = text; leads = record { joined = end; few = omega arith }; compares = compares; alone = λ e. refl; trip_is = refl }

trip_more : (text after next : List ℕ) (join : Join) (c : Comparison) (others : List Comparison) → Compares text c after → Takes joins (after_spaces after) join next → Tail 3 join next others → IsTrip text (trip_with join (c ∷ others))
trip_more text after next join c others compares takes_it t =
    record {
      join = join;
      front = c ∷ t.front;
      last = t.last;
      rest = t.rest;
      leads = record { joined = more text c after next t.front compares takes_it t.joined; few = omega (arith, t.few) };
      compares = t.compares;
      alone = λ e. absurd (cons_some c t.front e);
      trip_is = ap (λ (xs : List Comparison). trip_with join (c ∷ xs)) t.all_is;
    }

trip_tail : (text : List ℕ) (c : Comparison) (after : List ℕ) (join : Join) (next : List ℕ) → Only text c after → after ≢ [] → OnlyJoin after join next → Compares text c after → Takes joins (after_spaces after) join next → Finds (Tail 3 join next) → Finds (IsTrip text)
trip_tail text c after join next only goes only_join compares takes_it (None, found) =
    finds_none (IsTrip text) (λ trip h. elim (trip_step text trip h) [
      | inl (d, p, is) ↦ goes (only d [] p).1
      | inr (i, d, other, further, rest, p, joined, behind, is) ↦
          (let second = only_join i further (moved_join after other i further (only d other p).1 joined) in
          nothing (Tail 3 join next) found rest (subst (λ (t : List ℕ). Tail 3 join t rest) (sym second.1) (subst (λ (k : Join). Tail 3 k further rest) (sym second.0) behind)))
    ])
trip_tail text c after join next only goes only_join compares takes_it (Some others, found) =
    finds_one (IsTrip text) (trip_with join (c ∷ others)) (trip_more text after next join c others compares takes_it ((found others).0 refl))
    (λ trip h. elim (trip_step text trip h) [
      | inl (d, p, is) ↦ absurd (goes (only d [] p).1)
      | inr (i, d, other, further, rest, p, joined, behind, is) ↦
          (let first = only d other p in
          let second = only_join i further (moved_join after other i further first.1 joined) in
          let same : others ≡ rest = only_one (Tail 3 join next) others found rest (subst (λ (t : List ℕ). Tail 3 join t rest) (sym second.1) (subst (λ (k : Join). Tail 3 k further rest) (sym second.0) behind)) in
          ap (λ (k : Join). trip_with k (c ∷ others)) second.0 ∙ ap (λ (x : Comparison). trip_with i (x ∷ others)) first.0 ∙ ap (λ (xs : List Comparison). trip_with i (d ∷ xs)) same ∙ sym is)
    ])

trip_join : (text : List ℕ) (c : Comparison) (after : List ℕ) → Only text c after → after ≢ [] → Compares text c after → Reads (λ (i : Join) (rest : List ℕ). Takes joins (after_spaces after) i rest) → Finds (IsTrip text)
trip_join text c after only goes compares (None, exact) =
    finds_none (IsTrip text) (λ trip h. elim (trip_step text trip h) [
      | inl (d, p, is) ↦ goes (only d [] p).1
      | inr (i, d, other, further, rest, p, joined, behind, is) ↦
          reads_nothing (λ (i : Join) (rest : List ℕ). Takes joins (after_spaces after) i rest) exact i further (moved_join after other i further (only d other p).1 joined)
    ])
trip_join text c after only goes compares (Some (join, next), exact) =
    trip_tail text c after join next only goes (reads_only (λ (i : Join) (rest : List ℕ). Takes joins (after_spaces after) i rest) join next exact) compares ((exact join next).0 refl) (tail 3 join next)

trip_after : (text : List ℕ) → Reads (IsCompared text) → Finds (IsTrip text)
trip_after text (None, exact) =
    finds_none (IsTrip text) (λ trip h. elim (trip_step text trip h) [
      | inl (d, p, is) ↦ reads_nothing (IsCompared text) exact d [] p
      | inr (i, d, other, further, rest, p, joined, behind, is) ↦ reads_nothing (IsCompared text) exact d other p
    ])
trip_after text (Some (c, after), exact) =
    let only : Only text c after = reads_only (IsCompared text) c after exact in
    let compares : Compares text c after = (exact c after).0 refl in
    elim (nil_or after) [
      | inl ends ↦
          finds_one (IsTrip text) (trip_with All (c ∷ [])) (trip_one text c (subst (λ (t : List ℕ). Compares text c t) ends compares))
          (λ trip h. elim (trip_step text trip h) [
            | inl (d, p, is) ↦ ap (λ (x : Comparison). trip_with All (x ∷ [])) (only d [] p).0 ∙ sym is
            | inr (i, d, other, further, rest, p, joined, behind, is) ↦ absurd (no_join_at_end i further (moved_join [] other i further (sym ends ∙ (only d other p).1) joined))
          ])
      | inr goes ↦ trip_join text c after only goes compares (takes joins (after_spaces after))
    ]

trip_in : (text : List ℕ) → Finds (IsTrip text)
trip_in text = trip_after text (compared text)

abbrev reading : Readers
reading = record { duration = λ text. (duration_in text).0; trip = λ text. (trip_in text).0 }

-- there are readers
pub there_are : (readers : Readers) × AreReaders readers
there_are = (reading, record { durations = λ text ms. (duration_in text).1 ms; trips = λ text trip. (trip_in text).1 trip })
