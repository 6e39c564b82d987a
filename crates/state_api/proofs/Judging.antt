-- The words of an item, judged.
use Rattle.std.proofs.Common.{◌≡◌, ◌≤◌, ◌<◌, ◌^◌, ◌++◌, ◌∷◌, ◌&&◌, ◌||◌, ◌==◌, inl, inr, ℕ, Bool, true, false, not, cond, nat_le, List, [], length, get_or, Option, Some, None, refl, sym, ap, ◌∙◌, arith}
use Rattle.std.specs.Prelude.{Result, Ok, Err, codes, decimal}
use Rattle.std.specs.Str.{bytes_eq}
use Rattle.std.specs.List.{list_all}
use Rattle.std.specs.Char.{is_ascii_digit}
use Rattle.std.specs.Str.Parse.{digits_value, AllDigits}
use Rattle.std.proofs.lemmas.Bool.Decides.{nat_tests}
use Rattle.std.proofs.lemmas.Slice.Eq.{bytes_eq-Decides}
use Rattle.std.proofs.lemmas.Str.Parse.{numerals_by_value, tells_digits, digit_from_value}
use Rattle.std.proofs.lemmas.Fmt.{decimal-digits_value, digits_value-decimal, digits_decimal, decimal_nonempty, first_decimal, length-decimal-le}
use Rattle.state_core.specs.declared.command.Prefix.{Prefix}
use Rattle.state_core.specs.declared.command.Mode.{Mode}
use Rattle.state_core.specs.declared.command.Mode.TheVariants.{Unsaid, FirstWrite, LastWrite}
use Rattle.state_api.specs.declared.what.What.{What}
use Rattle.state_api.specs.declared.what.What.TheVariants.{Key, Concurrency, Ttl}
use Rattle.state_api.specs.Words.{front_of, begins_with_bar, has_bars, is_key, stored_key, mode_of, starts_with_zero, is_number, is_seconds, ttl_of}
use Rattle.state_api.specs.Laws.{HasNoBars, IsKey, IsConcurrency, IsSeconds, IsTtlText}
use Rattle.state_api.proofs.Members.{false_true}
use Rattle.state_api.proofs.Wording.{both_true, number_digits}
use Rattle.state_api.proofs.Keyed.{err_ok, key_is, le_of, not_of}

pub in_err : {A : Type 0} (one other : What) → ◌≡◌ {A = Result A What} (Err one) (Err other) → one ≡ other
in_err one other e = cc

pub ok_err : {A : Type 0} (what : What) (a : A) (B : Type 0) → ◌≡◌ {A = Result A What} (Ok a) (Err what) → B
ok_err what a B h = err_ok what a B (sym h)

and_true : (a b : Bool) → a ≡ true → b ≡ true → (a && b) ≡ true
and_true a b ha hb = ap (λ x. x && b) ha ∙ hb

le_back : (n m : ℕ) → n ≤ m → nat_le n m ≡ true
le_back n m h = grind (arith, nat_tests)

eq_of : (n m : ℕ) → (n == m) ≡ true → n ≡ m
eq_of n m h = grind (arith, nat_tests)

-- ---- keys

bars_by : (first : ℕ) (rest : List ℕ) (b : Bool) → (first == 124 && begins_with_bar rest) ≡ b → (b || has_bars rest) ≡ true
    → (has_bars rest ≡ true → (before : List ℕ) × (after : List ℕ) × (rest ≡ before ++ codes "||" ++ after)) → (before : List ℕ) × (after : List ℕ) × (first ∷ rest ≡ before ++ codes "||" ++ after)
bars_by first [] true is h later = false_true _ (both_true (first == 124) false is).1
bars_by first (second ∷ rest) true is h later =
    let two = both_true (first == 124) (second == 124) is in
    ([], rest, ap (λ x. x ∷ second ∷ rest) (eq_of first 124 two.0) ∙ ap (λ x. 124 ∷ x ∷ rest) (eq_of second 124 two.1))
bars_by first rest false is h later = let there = later h in (first ∷ there.0, there.1, ap (λ z. first ∷ z) there.2)

-- where two bars are found, they stand
bars_stand : (key : List ℕ) → has_bars key ≡ true → (before : List ℕ) × (after : List ℕ) × (key ≡ before ++ codes "||" ++ after)
bars_stand [] h = false_true _ h
bars_stand (first ∷ rest) h = bars_by first rest (first == 124 && begins_with_bar rest) refl h (bars_stand rest)

not_bars : (key : List ℕ) (b : Bool) → has_bars key ≡ b → HasNoBars key → not b ≡ true
not_bars key true is h = let there = bars_stand key is in absurd (h there.0 there.1 there.2)
not_bars key false is h = refl

key_back : (key : List ℕ) → IsKey key → is_key key ≡ true
key_back key h =
    and_true (nat_le 1 (length key) && nat_le (length key) 1024) (not (has_bars key))
    (and_true (nat_le 1 (length key)) (nat_le (length key) 1024) (le_back 1 (length key) h.least) (le_back (length key) 1024 h.most)) (not_bars key (has_bars key) refl h.no_bars)

module _ (prefix : Prefix) (key : List ℕ) where
  key_ok_by : (b : Bool) (stored : List ℕ) → is_key key ≡ b → cond b (Ok (front_of prefix ++ key)) (Err Key) ≡ Ok stored → IsKey key
  key_ok_by true stored is h = key_is key is
  key_ok_by false stored is h = err_ok Key stored _ h

  pub key_ok : (stored : List ℕ) → stored_key prefix key ≡ Ok stored → IsKey key
  key_ok stored h = key_ok_by (is_key key) stored refl h

  key_err_by : (b : Bool) (what : What) → is_key key ≡ b → cond b (Ok (front_of prefix ++ key)) (Err Key) ≡ Err what → (Key ≡ what) × (¬ IsKey key)
  key_err_by true what is h = ok_err what (front_of prefix ++ key) _ h
  key_err_by false what is h = (in_err Key what h, λ good. false_true ⊥ (sym is ∙ key_back key good))

  pub key_err : (what : What) → stored_key prefix key ≡ Err what → (Key ≡ what) × (¬ IsKey key)
  key_err what h = key_err_by (is_key key) what refl h

-- ---- concurrencies

same_of : (word other : List ℕ) → bytes_eq word other ≡ true → word ≡ other
same_of word other h = (bytes_eq-Decides word other).0 h

apart_of : (word other : List ℕ) → bytes_eq word other ≡ false → word ≡ other → ⊥
apart_of word other h is = false_true ⊥ (sym h ∙ (bytes_eq-Decides word other).1 is)

abbrev mode_by : Bool → Bool → Bool → Bool → Result Mode What
mode_by a b c d = cond a (Ok FirstWrite) (cond b (Ok LastWrite) (cond (c || d) (Ok Unsaid) (Err Concurrency)))

mode_word : (word : List ℕ) (a b c d : Bool) (mode : Mode) → bytes_eq word (codes "first-write") ≡ a → bytes_eq word (codes "last-write") ≡ b → bytes_eq word [] ≡ c → bytes_eq word (codes "unspecified") ≡ d
    → mode_by a b c d ≡ Ok mode → IsConcurrency (Some word)
mode_word word true b c d mode ha hb hc hd h = inl (same_of word _ ha)
mode_word word false true c d mode ha hb hc hd h = inr (inl (same_of word _ hb))
mode_word word false false true d mode ha hb hc hd h = inr (inr (inl (same_of word _ hc)))
mode_word word false false false true mode ha hb hc hd h = inr (inr (inr (same_of word _ hd)))
mode_word word false false false false mode ha hb hc hd h = err_ok Concurrency mode _ h

no_word : (word : List ℕ) → bytes_eq word (codes "first-write") ≡ false → bytes_eq word (codes "last-write") ≡ false → bytes_eq word [] ≡ false → bytes_eq word (codes "unspecified") ≡ false → ¬ IsConcurrency (Some word)
no_word word ha hb hc hd (inl is) = apart_of word _ ha is
no_word word ha hb hc hd (inr (inl is)) = apart_of word _ hb is
no_word word ha hb hc hd (inr (inr (inl is))) = apart_of word _ hc is
no_word word ha hb hc hd (inr (inr (inr is))) = apart_of word _ hd is

mode_fault : (word : List ℕ) (a b c d : Bool) (what : What) → bytes_eq word (codes "first-write") ≡ a → bytes_eq word (codes "last-write") ≡ b → bytes_eq word [] ≡ c → bytes_eq word (codes "unspecified") ≡ d
    → mode_by a b c d ≡ Err what → (Concurrency ≡ what) × (¬ IsConcurrency (Some word))
mode_fault word true b c d what ha hb hc hd h = ok_err what FirstWrite _ h
mode_fault word false true c d what ha hb hc hd h = ok_err what LastWrite _ h
mode_fault word false false true d what ha hb hc hd h = ok_err what Unsaid _ h
mode_fault word false false false true what ha hb hc hd h = ok_err what Unsaid _ h
mode_fault word false false false false what ha hb hc hd h = (in_err Concurrency what h, no_word word ha hb hc hd)

pub mode_ok : (concurrency : Option (List ℕ)) (mode : Mode) → mode_of concurrency ≡ Ok mode → IsConcurrency concurrency
mode_ok None mode h = tt
mode_ok (Some word) mode h = mode_word word _ _ _ _ mode refl refl refl refl h

pub mode_err : (concurrency : Option (List ℕ)) (what : What) → mode_of concurrency ≡ Err what → (Concurrency ≡ what) × (¬ IsConcurrency concurrency)
mode_err None what h = ok_err what Unsaid _ h
mode_err (Some word) what h = mode_fault word _ _ _ _ what refl refl refl refl h

-- ---- times to live

no_zero : (text : List ℕ) → starts_with_zero text ≡ false → get_or text 0 0 ≡ 48 → length text ≡ 1
no_zero [] h is = absurd (omega (arith, is))
no_zero (digit ∷ digits) h is = false_true _ (sym h ∙ ap (λ d. d == 48) is)

seconds_is : (text : List ℕ) → is_seconds text ≡ true → IsSeconds text
seconds_is text h =
    let seconds = digits_value 10 text in
    let both = both_true (is_number text) (nat_le 1 seconds && nat_le seconds 4294967295) h in
    let range = both_true (nat_le 1 seconds) (nat_le seconds 4294967295) both.1 in
    let number = both_true (list_all is_ascii_digit text) (nat_le 1 (length text) && (nat_le (length text) 10 && not (starts_with_zero text))) both.0 in
    let some = both_true (nat_le 1 (length text)) (nat_le (length text) 10 && not (starts_with_zero text)) number.1 in
    let short = both_true (nat_le (length text) 10) (not (starts_with_zero text)) some.1 in
    let least = le_of 1 seconds range.0 in
    let most = le_of seconds 4294967295 range.1 in
    let length-is = le_of 1 (length text) some.0 in
    (seconds, least, most, sym (decimal-digits_value (numerals_by_value _ tells_digits) text (number_digits text both.0) (omega (arith, length-is)) (no_zero text (not_of _ short.1)) (omega (arith, most))))

digit_is : (c : ℕ) → 48 ≤ c → c ≤ 57 → is_ascii_digit c ≡ true
digit_is c low high = grind (arith, nat_tests)

are_digits : (text : List ℕ) → AllDigits 10 text → list_all is_ascii_digit text ≡ true
are_digits [] h = refl
are_digits (c ∷ text) h = let range = digit_from_value c h.0 in and_true (is_ascii_digit c) (list_all is_ascii_digit text) (digit_is c (omega (arith, range)) (omega (arith, range))) (are_digits text h.1)

no_zero_first : (text : List ℕ) → 48 < get_or text 0 0 → not (starts_with_zero text) ≡ true
no_zero_first [] h = absurd (omega (arith, h))
no_zero_first (digit ∷ digits) h = grind (arith, nat_tests)

seconds_back : (text : List ℕ) → IsSeconds text → is_seconds text ≡ true
seconds_back text h =
    let n = h.0 in
    let own = numerals_by_value _ tells_digits in
    let small : n < 2 ^ 64 = omega (arith, h.2) in
    let value = digits_value-decimal own n small in
    let digits = are_digits (decimal n) (digits_decimal own n small) in
    let some = decimal_nonempty n small in
    let short = length-decimal-le 10 n (omega arith) (omega (arith, h.2)) small in
    let lead = first_decimal n (omega (arith, h.1)) small in
    ap is_seconds h.3 ∙ and_true (is_number (decimal n)) (nat_le 1 (digits_value 10 (decimal n)) && nat_le (digits_value 10 (decimal n)) 4294967295)
    (and_true (list_all is_ascii_digit (decimal n)) (nat_le 1 (length (decimal n)) && (nat_le (length (decimal n)) 10 && not (starts_with_zero (decimal n)))) digits
    (and_true (nat_le 1 (length (decimal n))) (nat_le (length (decimal n)) 10 && not (starts_with_zero (decimal n))) (le_back 1 _ (omega (arith, some)))
    (and_true (nat_le (length (decimal n)) 10) (not (starts_with_zero (decimal n))) (le_back _ 10 short) (no_zero_first (decimal n) lead))))
    (and_true (nat_le 1 (digits_value 10 (decimal n))) (nat_le (digits_value 10 (decimal n)) 4294967295) (le_back 1 _ (omega (arith, value, h.1))) (le_back _ 4294967295 (omega (arith, value, h.2))))

ttl_word : (text : List ℕ) (a b : Bool) (ttl : Option ℕ) → bytes_eq text (codes "-1") ≡ a → is_seconds text ≡ b → cond a (Ok None) (cond b (Ok (Some (digits_value 10 text))) (Err Ttl)) ≡ Ok ttl → IsTtlText (Some text)
ttl_word text true b ttl ha hb h = inl (same_of text _ ha)
ttl_word text false true ttl ha hb h = inr (seconds_is text hb)
ttl_word text false false ttl ha hb h = err_ok Ttl ttl _ h

no_ttl : (text : List ℕ) → bytes_eq text (codes "-1") ≡ false → is_seconds text ≡ false → ¬ IsTtlText (Some text)
no_ttl text ha hb (inl is) = apart_of text _ ha is
no_ttl text ha hb (inr is) = false_true ⊥ (sym hb ∙ seconds_back text is)

ttl_fault : (text : List ℕ) (a b : Bool) (what : What) → bytes_eq text (codes "-1") ≡ a → is_seconds text ≡ b → cond a (Ok None) (cond b (Ok (Some (digits_value 10 text))) (Err Ttl)) ≡ Err what → (Ttl ≡ what) × (¬ IsTtlText (Some text))
ttl_fault text true b what ha hb h = ok_err what None _ h
ttl_fault text false true what ha hb h = ok_err what (Some (digits_value 10 text)) _ h
ttl_fault text false false what ha hb h = (in_err Ttl what h, no_ttl text ha hb)

pub ttl_ok : (text : Option (List ℕ)) (ttl : Option ℕ) → ttl_of text ≡ Ok ttl → IsTtlText text
ttl_ok None ttl h = tt
ttl_ok (Some text) ttl h = ttl_word text _ _ ttl refl refl h

pub ttl_err : (text : Option (List ℕ)) (what : What) → ttl_of text ≡ Err what → (Ttl ≡ what) × (¬ IsTtlText text)
ttl_err None what h = ok_err what None _ h
ttl_err (Some text) what h = ttl_fault text _ _ what refl refl h
