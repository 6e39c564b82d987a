-- The periods that schedules say.
use Rattle.std.proofs.Common.{◌≡◌, ◌≢◌, ◌≤◌, ◌+◌, ◌*◌, ◌↔◌, ◌∙◌, ℕ, zero, suc, cond, leb, nat_eq, ◌&&◌, List, [], ◌∷◌, ◌++◌, length, drop, Bool, true, false, Option, Some, None, Result, Ok, Err, sym, ap, subst, arith, refl, codes}
use Rattle.std.specs.Prelude.{option_map}
use Rattle.std.specs.List.{starts_with}
use Rattle.std.specs.Str.Parse.{digits_value}
use Rattle.std.proofs.lemmas.Bool.Decides.{nat_tests, Decides-eqb}
use Rattle.std.proofs.lemmas.List.{length-drop}
use Rattle.std.proofs.lemmas.Slice.Eq.{starts_is}
use Rattle.side_base.specs.declared.duration.DurationErr.{DurationErr}
use Rattle.side_base.specs.Limits.{greatest_duration}
use Rattle.side_base.specs.Decimal.{digits_at, after_digits}
use Rattle.side_base.specs.Duration.{TimeUnit, unit_at, Parts, none, part, IsDuration}
use Rattle.resource_spec.specs.Schedule.{SaysPeriod, one_part, parts_in, duration_in, if_within, period_in}

none_some : {A : Type 0} {B : Type 0} (x : A) → None ≡ Some x → B
none_some x e = let bad : ⊥ = cc in absurd bad

same_some : {A : Type 0} {x y : A} → Some x ≡ Some y → x ≡ y
same_some e = cc

-- ---- what a part gives

record OnePart (digits : List ℕ) (found : Option TimeUnit) (others : TimeUnit → Option ℕ) (ms : ℕ) : Type 0 where
  unit : TimeUnit
  rest : ℕ
  some : digits ≢ []
  unit_is : found ≡ Some unit
  rest_is : others unit ≡ Some rest
  ms_is : ms ≡ digits_value 10 digits * unit.ms + rest

mapped : (digits : List ℕ) (scale : ℕ) (found : Option ℕ) (ms : ℕ) → option_map (λ m. digits_value 10 digits * scale + m) found ≡ Some ms → (rest : ℕ) × (found ≡ Some rest) × (ms ≡ digits_value 10 digits * scale + rest)
mapped digits scale None ms e = none_some ms e
mapped digits scale (Some rest) ms e = (rest, refl, sym (same_some e))

of_part : (digits : List ℕ) (found : Option TimeUnit) (others : TimeUnit → Option ℕ) (ms : ℕ) → one_part digits found others ≡ Some ms → OnePart digits found others ms
of_part [] found others ms e = none_some ms e
of_part (d ∷ digits) None others ms e = none_some ms e
of_part (d ∷ digits) (Some unit) others ms e =
    let rest = mapped (d ∷ digits) unit.ms (others unit) ms e in
    record { unit = unit; rest = rest.0; some = λ bad. (let no : ⊥ = cc in no); unit_is = refl; rest_is = rest.1; ms_is = rest.2 }

part_is : (digits : List ℕ) (found : Option TimeUnit) (others : TimeUnit → Option ℕ) (unit : TimeUnit) (rest : ℕ) → digits ≢ [] → found ≡ Some unit → others unit ≡ Some rest → one_part digits found others ≡ Some (digits_value 10 digits * unit.ms + rest)
part_is [] found others unit rest some is left = absurd (some refl)
part_is (d ∷ digits) None others unit rest some is left = none_some unit is
part_is (d ∷ digits) (Some other) others unit rest some is left =
    let same : other ≡ unit = same_some is in
    ap (λ (u : TimeUnit). option_map (λ m. digits_value 10 (d ∷ digits) * u.ms + m) (others u)) same ∙ ap (option_map (λ m. digits_value 10 (d ∷ digits) * unit.ms + m)) left

-- ---- all parts

sound : (most : ℕ) (text : List ℕ) (ms : ℕ) → parts_in most text ≡ Some ms → Parts [] text ms
unfolding parts_in
sound zero [] ms e = subst (λ (m : ℕ). Parts [] [] m) (same_some e) none
sound zero (byte ∷ text) ms e = none_some ms e
sound (suc most) [] ms e = subst (λ (m : ℕ). Parts [] [] m) (same_some e) none
sound (suc most) (byte ∷ text) ms e =
    let one = of_part (digits_at (byte ∷ text)) (unit_at (after_digits (byte ∷ text))) _ ms e in
    subst (λ (m : ℕ). Parts [] (byte ∷ text) m) (sym one.ms_is) (part (byte ∷ text) one.unit one.rest one.some one.unit_is (sound most _ one.rest one.rest_is))

some_length : (xs : List ℕ) → xs ≢ [] → 1 ≤ length xs
some_length [] some = absurd (some refl)
some_length (x ∷ xs) some = omega arith

complete : (most : ℕ) (text : List ℕ) (ms : ℕ) → Parts [] text ms → length text ≤ most → parts_in most text ≡ Some ms
unfolding parts_in
complete zero text ms none le = refl
complete zero text ms (part [] unit rest some is left) le = absurd (some refl)
complete zero text ms (part (byte ∷ others) unit rest some is left) le = absurd (omega (arith, le))
complete (suc most) text ms none le = refl
complete (suc most) text ms (part [] unit rest some is left) le = absurd (some refl)
complete (suc most) text ms (part (byte ∷ others) unit rest some is left) le =
    let t : List ℕ = byte ∷ others in
    let next : List ℕ = drop (length unit.letters) (after_digits t) in
    let shorter : length next ≤ most = omega (arith, le, some_length (digits_at t) some, length-drop (length unit.letters) (after_digits t), length-drop (length (digits_at t)) t) in
    part_is (digits_at t) (unit_at (after_digits t)) (λ u. parts_in most (drop (length u.letters) (after_digits t))) unit rest some is (complete most next rest left shorter)

pub duration_says : (text : List ℕ) (ms : ℕ) → duration_in text ≡ Some ms → IsDuration text ms
duration_says [] ms e = none_some ms e
duration_says (byte ∷ text) ms e = ((λ bad. (let no : ⊥ = cc in no)), sound (length (byte ∷ text)) (byte ∷ text) ms e)

pub duration_is : (text : List ℕ) (ms : ℕ) → IsDuration text ms → duration_in text ≡ Some ms
duration_is [] ms says = absurd (says.0 refl)
duration_is (byte ∷ text) ms says = complete (length (byte ∷ text)) (byte ∷ text) ms says.1 (omega arith)

-- ---- the reader's answer

module _ (text : List ℕ) (result : Result ℕ DurationErr) (told : (ms : ℕ) → (result ≡ Ok ms) ↔ (IsDuration text ms × (ms ≤ greatest_duration))) where
  pub period_read : (ms : ℕ) (found : Option ℕ) → result ≡ Ok ms → (ms ≤ greatest_duration → found ≡ if_within (Some ms)) → found ≡ if_within (duration_in text)
  period_read ms found is within =
      let says = (told ms).0 is in
      within says.1 ∙ ap if_within (sym (duration_is text ms says.0))

  pub period_lacks : (error : DurationErr) → result ≡ Err error → None ≡ if_within (duration_in text)
  period_lacks error is = by (duration_in text) refl
    where
      too_long : (ms : ℕ) → (ms ≤ greatest_duration → ⊥) → None ≡ if_within (Some ms)
      too_long ms long =
          let high : leb ms greatest_duration ≡ false = grind (arith, nat_tests) in
          let both : (leb 1000 ms && leb ms greatest_duration) ≡ false = ap (λ b. leb 1000 ms && b) high ∙ and_false (leb 1000 ms) in
          sym (ap (λ b. cond b (Some ms) None) both)
        where
          and_false : (b : Bool) → (b && false) ≡ false
          and_false true = refl
          and_false false = refl

      by : (found : Option ℕ) → duration_in text ≡ found → None ≡ if_within found
      by None e = refl
      by (Some ms) e = too_long ms (λ le. (let ok = (told ms).1 (duration_says text ms e, le) in let bad : ⊥ = cc in bad))

-- ---- the schedule

within_is : (found : Option ℕ) (ms : ℕ) → if_within found ≡ Some ms → (found ≡ Some ms) × (1000 ≤ ms) × (ms ≤ greatest_duration)
within_is None ms e = none_some ms e
within_is (Some m) ms e = by (leb 1000 m) (leb m greatest_duration) refl refl e
  where
    by : (a b : Bool) → leb 1000 m ≡ a → leb m greatest_duration ≡ b → cond (a && b) (Some m) None ≡ Some ms → (Some m ≡ Some ms) × (1000 ≤ ms) × (ms ≤ greatest_duration)
    by true true x y e =
        let low : 1000 ≤ m = grind (arith, nat_tests) in
        let high : m ≤ greatest_duration = grind (arith, nat_tests) in
        (e, subst (λ (n : ℕ). 1000 ≤ n) (same_some e) low, subst (λ (n : ℕ). n ≤ greatest_duration) (same_some e) high)
    by true false x y e = none_some ms e
    by false b x y e = none_some ms e

is_within : (ms : ℕ) → 1000 ≤ ms → ms ≤ greatest_duration → if_within (Some ms) ≡ Some ms
is_within ms low high =
    let a : leb 1000 ms ≡ true = grind (arith, nat_tests) in
    let b : leb ms greatest_duration ≡ true = grind (arith, nat_tests) in
    ap (λ (x : Bool). cond (x && leb ms greatest_duration) (Some ms) None) a ∙ ap (λ (x : Bool). cond x (Some ms) None) b

every : (text : List ℕ) → (starts_with nat_eq text (codes "@every ") ≡ true → text ≡ codes "@every " ++ drop 7 text) × ((rest : List ℕ) → text ≡ codes "@every " ++ rest → starts_with nat_eq text (codes "@every ") ≡ true)
every text = starts_is Decides-eqb text (codes "@every ") (starts_with nat_eq text (codes "@every ")) refl

pub says_period : (text : List ℕ) (ms : ℕ) → (period_in text ≡ Some ms) ↔ SaysPeriod text ms
says_period text ms = (there (starts_with nat_eq text (codes "@every ")) refl, back)
  where
    there : (b : Bool) → starts_with nat_eq text (codes "@every ") ≡ b → cond b (if_within (duration_in (drop 7 text))) None ≡ Some ms → SaysPeriod text ms
    there true is e =
        let found = within_is (duration_in (drop 7 text)) ms e in
        record { behind = drop 7 text; text_is = (every text).0 is; duration = duration_says (drop 7 text) ms found.0; low = found.1; high = found.2 }
    there false is e = none_some ms e

    back : SaysPeriod text ms → period_in text ≡ Some ms
    back says =
        let same : drop 7 text ≡ says.behind = ap (drop 7) says.text_is in
        ap (λ (b : Bool). cond b (if_within (duration_in (drop 7 text))) None) ((every text).1 says.behind says.text_is)
        ∙ ap (λ (t : List ℕ). if_within (duration_in t)) same ∙ ap if_within (duration_is says.behind ms says.duration) ∙ is_within ms says.low says.high
