-- The text of a moment is a timestamp.
use Rattle.std.proofs.Common.{◌≡◌, inl, ℕ, ◌+◌, ◌-◌, ◌*◌, ◌/◌, ◌%◌, ◌<◌, ◌≤◌, Bool, true, false, cond, ◌&&◌, List, [], ◌∷◌, ◌++◌, refl, sym, ap, subst, ◌∙◌, arith, codes, ℤ, pos, negsuc, ◌≤ℤ◌, rules}
use Rattle.std.specs.Prelude.{decimal, nat_le, nat_lt, unsigned_abs}
use Rattle.std.specs.Char.{is_ascii_digit}
use Rattle.std.proofs.lemmas.Bool.Decides.{nat_tests}
use Rattle.std.proofs.lemmas.Fmt.{decimal_digit, decimal_step}
use Rattle.std.proofs.lemmas.Int.{by_lt_z}
use Rattle.jiff.specs.Words.{IsDate, IsYear, days_in_month, epoch_day}
use Rattle.jiff.proofs.Family.{epoch_day-lt}
use Rattle.jiff.proofs.OnLiterals.{jiff_on_literals}
use Rattle.jiff.proofs.SpanFacts.{signed_arith}
use Rattle.cloud_events.specs.declared.clock.Day.{Day}
use Rattle.cloud_events.specs.Clock.{IsTime, IsTimeOf, four_at, has_form, two, two_at}

-- ---- digits

-- a number of two digits
record Two (number : ℕ) : Type 0 where
  ten : ℕ
  one : ℕ
  ten_is : ten ≤ 9
  one_is : one ≤ 9
  number_is : number ≡ 10 * ten + one
  spelled : two number ≡ (48 + ten) ∷ (48 + one) ∷ []

two_by : (number : ℕ) (low : Bool) → nat_lt number 10 ≡ low → number < 100 → Two number
two_by number true e lt =
    let small : number < 10 = grind (arith, nat_tests) in
    record { ten = 0; one = number; ten_is = omega arith; one_is = omega (arith, small); number_is = omega arith; spelled = ap (λ b. cond b (48 ∷ decimal number) (decimal number)) e ∙ ap (λ l. 48 ∷ l) (decimal_digit number small) }
two_by number false e lt =
    let great : 10 ≤ number = grind (arith, nat_tests) in
    let ten : number / 10 < 10 = omega (arith, lt) in
    record {
      ten = number / 10;
      one = number % 10;
      ten_is = omega (arith, lt);
      one_is = omega arith;
      number_is = omega arith;
      spelled = ap (λ b. cond b (48 ∷ decimal number) (decimal number)) e ∙ decimal_step number great (omega (arith, lt)) ∙ ap (λ l. l ++ (48 + number % 10) ∷ []) (decimal_digit (number / 10) ten);
    }

two_of : (number : ℕ) → number < 100 → Two number
two_of number lt = two_by number (nat_lt number 10) refl lt

-- a number of four digits
record Four (number : ℕ) : Type 0 where
  front : Two (number / 100)
  back : Two (number % 100)
  spelled : decimal number ≡ (48 + front.ten) ∷ (48 + front.one) ∷ (48 + back.ten) ∷ (48 + back.one) ∷ []

last_digit : (number : ℕ) → 10 ≤ number → number ≤ 9999 → decimal number ≡ decimal (number / 10) ++ (48 + number % 10) ∷ []
last_digit number low high = decimal_step number low (omega (arith, high))

four_of : (number : ℕ) → 1000 ≤ number → number ≤ 9999 → Four number
four_of number low high =
    let front = two_of (number / 100) (omega (arith, high)) in
    let back = two_of (number % 100) (omega arith) in
    let a : number / 10 / 10 / 10 ≡ front.ten = omega (arith, front.number_is, front.one_is) in
    let b : number / 10 / 10 % 10 ≡ front.one = omega (arith, front.number_is, front.one_is) in
    let c : number / 10 % 10 ≡ back.ten = omega (arith, back.number_is, back.one_is) in
    let d : number % 10 ≡ back.one = omega (arith, back.number_is, back.one_is) in
    record {
      front = front;
      back = back;
      spelled = last_digit number (omega (arith, low)) high
          ∙ ap (λ l. l ++ (48 + number % 10) ∷ []) (last_digit (number / 10) (omega (arith, low)) (omega (arith, high))
          ∙ ap (λ l. l ++ (48 + number / 10 % 10) ∷ []) (last_digit (number / 10 / 10) (omega (arith, low)) (omega (arith, high))
          ∙ ap (λ l. l ++ (48 + number / 10 / 10 % 10) ∷ []) (decimal_digit (number / 10 / 10 / 10) (omega (arith, high)))))
          ∙ (λ i. (48 + a i) ∷ (48 + b i) ∷ (48 + c i) ∷ (48 + d i) ∷ []);
    }

-- ---- a stamp

both : (a b : Bool) → a ≡ true → b ≡ true → (a && b) ≡ true
both true b h k = k
both false b h k = h

digit : (n : ℕ) → n ≤ 9 → is_ascii_digit (48 + n) ≡ true
digit n le = grind (arith, nat_tests)

digits : (a b : ℕ) → a ≤ 9 → b ≤ 9 → (is_ascii_digit (48 + a) && is_ascii_digit (48 + b)) ≡ true
digits a b h k = both _ _ (digit a h) (digit b k)

number_back : (a b : ℕ) → 10 * (48 + a - 48) + (48 + b - 48) ≡ 10 * a + b
number_back a b = omega arith

most_is : (n most : ℕ) → n ≤ most → nat_le n most ≡ true
most_is n most le = grind (arith, nat_tests)

within : (a b n most : ℕ) → a ≤ 9 → b ≤ 9 → n ≡ 10 * a + b → n ≤ most → ((is_ascii_digit (48 + a) && is_ascii_digit (48 + b)) && nat_le (10 * (48 + a - 48) + (48 + b - 48)) most) ≡ true
within a b n most h k e le = both _ _ (digits a b h k) (most_is (10 * (48 + a - 48) + (48 + b - 48)) most (omega (arith, number_back a b, e, le)))

-- the bytes of a year, a month, a day, an hour, a minute and a second
abbrev stamp : (year : ℕ) → Four year → (month : ℕ) → Two month → (day : ℕ) → Two day → (hour : ℕ) → Two hour → (minute : ℕ) → Two minute → (second : ℕ) → Two second → List ℕ
stamp year y month m day d hour h minute n second s =
    (48 + y.front.ten) ∷ (48 + y.front.one) ∷ (48 + y.back.ten) ∷ (48 + y.back.one) ∷ 45 ∷ (48 + m.ten) ∷ (48 + m.one) ∷ 45 ∷ (48 + d.ten) ∷ (48 + d.one) ∷ 84 ∷ (48 + h.ten) ∷ (48 + h.one) ∷ 58 ∷ (48 + n.ten) ∷ (48 + n.one) ∷ 58 ∷ (48 + s.ten) ∷ (48 + s.one) ∷ 90 ∷ []

module _ (year : ℕ) (y : Four year) (month : ℕ) (m : Two month) (day : ℕ) (d : Two day) (hour : ℕ) (h : Two hour) (minute : ℕ) (n : Two minute) (second : ℕ) (s : Two second) where
  stamp_form : hour ≤ 23 → minute ≤ 59 → second ≤ 59 → has_form (stamp year y month m day d hour h minute n second s) ≡ true
  stamp_form p q r =
      both _ _ refl (both _ _
      (both _ _ refl (both _ _ (digits y.front.ten y.front.one y.front.ten_is y.front.one_is) (both _ _ (digits y.back.ten y.back.one y.back.ten_is y.back.one_is)
      (both _ _ (digits m.ten m.one m.ten_is m.one_is) (digits d.ten d.one d.ten_is d.one_is)))))
      (both _ _
      (both _ _ refl (both _ _ refl (both _ _ (within h.ten h.one hour 23 h.ten_is h.one_is h.number_is p) (both _ _ (within n.ten n.one minute 59 n.ten_is n.one_is n.number_is q) (within s.ten s.one second 59 s.ten_is s.one_is s.number_is r)))))
      refl))

  year_back : four_at (stamp year y month m day d hour h minute n second s) ≡ year
  year_back = omega (arith, number_back y.front.ten y.front.one, number_back y.back.ten y.back.one, y.front.number_is, y.back.number_is)

  month_back : two_at (stamp year y month m day d hour h minute n second s) 5 ≡ month
  month_back = number_back m.ten m.one ∙ sym m.number_is

  day_back : two_at (stamp year y month m day d hour h minute n second s) 8 ≡ day
  day_back = number_back d.ten d.one ∙ sym d.number_is

pub same_date : (y z m n d e : ℕ) → y ≡ z → m ≡ n → d ≡ e → IsDate (pos y) (pos m) (pos d) → IsDate (pos z) (pos n) (pos e)
same_date y z m n d e p q r h = subst (λ (a : ℕ). IsDate (pos a) (pos n) (pos e)) p (subst (λ (b : ℕ). IsDate (pos y) (pos b) (pos e)) q (subst (λ (x : ℕ). IsDate (pos y) (pos m) (pos x)) r h))

-- ---- the day of a moment

epoch : Day
epoch = record { date = record { year = pos 1970; month = 1; day = 1; year_in = search rules; month_in = search rules; day_in = search rules } }

epoch_is : epoch_day epoch.date ≡ pos 0
unfolding epoch jiff_on_literals
epoch_is = refl

record IsLate (year : ℤ) : Type 0 where
  is : year ≡ pos (unsigned_abs year)
  low : 1000 ≤ unsigned_abs year
  high : unsigned_abs year ≤ 9999

late_by : (year : ℤ) → IsYear year → pos 1970 ≤ℤ year → IsLate year
late_by (pos n) h k = record { is = refl; low = omega (arith, signed_arith, k); high = omega (arith, signed_arith, h.1) }
late_by (negsuc n) h k = absurd (omega (arith, signed_arith, k))

late : (day : Day) (n : ℕ) → epoch_day day.date ≡ pos n → IsLate day.date.year
unfolding epoch
late day n e =
    late_by day.date.year day.date.year_in
    (by_lt_z day.date.year (pos 1970) (λ lt. absurd (omega (arith, signed_arith, e, epoch_is, epoch_day-lt day.date epoch.date (inl lt)))) (λ ge. ge))

-- ---- the text of a moment

record Clocked (second : ℕ) : Type 0 where
  hour : Two (second / 3600)
  minute : Two (second / 60 % 60)
  last : Two (second % 60)

clocked : (second : ℕ) → second < 86400 → Clocked second
clocked second lt = record { hour = two_of (second / 3600) (omega (arith, lt)); minute = two_of (second / 60 % 60) (omega arith); last = two_of (second % 60) (omega arith) }

month_low : (day : Day) → day.date.month < 100
month_low day = omega (arith, day.date.month_in.1)

month_most : (year : ℤ) (month : ℕ) → days_in_month year month ≤ 31
month_most year month = grind arith

day_low : (day : Day) → day.date.day < 100
day_low day = omega (arith, day.date.day_in.1, month_most day.date.year day.date.month)

civil : (day : Day) → IsDate day.date.year (pos day.date.month) (pos day.date.day)
civil day = (
  day.date.year_in,
  (omega (arith, signed_arith, day.date.month_in.0), omega (arith, signed_arith, day.date.month_in.1)),
  (omega (arith, signed_arith, day.date.day_in.0), omega (arith, signed_arith, day.date.day_in.1)),
)

civil_date : (day : Day) → IsLate day.date.year → IsDate (pos (unsigned_abs day.date.year)) (pos day.date.month) (pos day.date.day)
civil_date day late = subst (λ (z : ℤ). IsDate z (pos day.date.month) (pos day.date.day)) late.is (civil day)

abbrev date_by : List ℕ → List ℕ → List ℕ → List ℕ
date_by year month day = year ++ codes "-" ++ month ++ codes "-" ++ day

abbrev clock_by : List ℕ → List ℕ → List ℕ → List ℕ
clock_by hour minute second = codes "T" ++ hour ++ codes ":" ++ minute ++ codes ":" ++ second ++ codes "Z"

pub moment_is_time : (now : ℕ) (text : List ℕ) → IsTimeOf now text → IsTime text
moment_is_time now text h =
    let year = late h.day (now / 86400000) h.number in
    let y = four_of (unsigned_abs h.day.date.year) year.low year.high in
    let m = two_of h.day.date.month (month_low h.day) in
    let d = two_of h.day.date.day (day_low h.day) in
    let second = now % 86400000 / 1000 in
    let lt : second < 86400 = omega arith in
    let c = clocked second lt in
    let a = stamp (unsigned_abs h.day.date.year) y h.day.date.month m h.day.date.day d (second / 3600) c.hour (second / 60 % 60) c.minute (second % 60) c.last in
    let same : a ≡ text = sym (h.spelled ∙ (λ i. date_by (y.spelled i) (m.spelled i) (d.spelled i) ++ clock_by (c.hour.spelled i) (c.minute.spelled i) (c.last.spelled i))) in
    subst IsTime same (
      stamp_form _ y _ m _ d _ c.hour _ c.minute _ c.last (omega (arith, lt)) (omega arith) (omega arith),
      same_date _ _ _ _ _ _ (sym (year_back _ y _ m _ d _ c.hour _ c.minute _ c.last)) (sym (month_back _ y _ m _ d _ c.hour _ c.minute _ c.last)) (sym (day_back _ y _ m _ d _ c.hour _ c.minute _ c.last)) (civil_date h.day year),
    )
