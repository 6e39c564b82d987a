-- From the lanes of comparisons to their tests, and from these to the order of a byte and the three before it.
use Rattle.std.proofs.Common.{◌≡◌, ◌⊎◌, inl, inr, ℕ, ◌%◌, ◌^◌, ◌<◌, ◌≤◌, Bool, true, false, not, ◌&&◌, ◌||◌, cond, eqb, leb, List, length, map, replicate, get_or, bit_and, bit_or, bit_xor, refl, sym, ap, ap₂, ◌∙◌, arith}
use Rattle.std.specs.Simd.Lanes.{mask_l, zip2, top}
use Rattle.std.specs.Int.{bit_at}
use Rattle.std.proofs.lemmas.Nat.Bits.{bit_at-zero}
use Rattle.std.proofs.lemmas.Bool.{cases_lt, le-leb, leb-true, leb-false, eq-eqb, eqb-true}
use Rattle.std.proofs.lemmas.List.{get_or-map, length-map}
use Rattle.std.proofs.lemmas.Simd.{bit_mask_l, get_or-zip2, length-zip2, mask_l-mod, zip2_splat, zip2_splat_left}
use Rattle.byte_lanes.specs.Utf8.{Follows, mark}

-- lane k of 32 tells b
pub record Tells (lanes : List ℕ) (k : ℕ) (b : Bool) : Type 0 where
  pub wide : length lanes ≡ 32
  pub within : k < 32
  pub is : get_or lanes k 0 ≡ mark b

-- where a lane is at least n, and where it is n
abbrev pub at_least : ℕ → List ℕ → List ℕ
at_least n xs = zip2 (λ a b. cond (leb a b) 255 0) (replicate 32 n) xs

abbrev pub equals : ℕ → List ℕ → List ℕ
equals n xs = zip2 (λ a b. cond (eqb a b) 255 0) xs (replicate 32 n)

lane : (p : ℕ → Bool) (xs lanes : List ℕ) (k : ℕ) → lanes ≡ map (λ x. mark (p x)) xs → length xs ≡ 32 → k < 32 → Tells lanes k (p (get_or xs k 0))
lane p xs lanes k are long within = record {
  wide = ap length are ∙ length-map xs (λ x. mark (p x)) ∙ long;
  within = within;
  is = ap (λ l. get_or l k 0) are ∙ get_or-map (λ x. mark (p x)) xs k 0 0 (omega (arith, within, long));
}

pub least_lane : (n : ℕ) (xs : List ℕ) (k : ℕ) → length xs ≡ 32 → k < 32 → Tells (at_least n xs) k (leb n (get_or xs k 0))
least_lane n xs k long within = lane (λ x. leb n x) xs (at_least n xs) k (zip2_splat_left (λ a b. mark (leb a b)) n 32 xs long) long within

pub equal_lane : (n : ℕ) (xs : List ℕ) (k : ℕ) → length xs ≡ 32 → k < 32 → Tells (equals n xs) k (eqb (get_or xs k 0) n)
equal_lane n xs k long within = lane (λ x. eqb x n) xs (equals n xs) k (zip2_splat (λ a b. mark (eqb a b)) xs 32 n long) long within

-- lane by lane
joined : (f : ℕ → ℕ → ℕ) (g : Bool → Bool → Bool) → ((b c : Bool) → f (mark b) (mark c) ≡ mark (g b c)) → (m n : List ℕ) (k : ℕ) (b c : Bool) → Tells m k b → Tells n k c → Tells (zip2 f m n) k (g b c)
joined f g law m n k b c h i = record {
  wide = length-zip2 f m n (h.wide ∙ sym i.wide) ∙ h.wide;
  within = h.within;
  is = get_or-zip2 f m n k 0 0 0 (omega (arith, h.within, h.wide)) (omega (arith, h.within, i.wide)) ∙ ap₂ f h.is i.is ∙ law b c;
}

or_marks : (b c : Bool) → bit_or (mark b) (mark c) ≡ mark (b || c)
or_marks true true = refl
or_marks true false = refl
or_marks false true = refl
or_marks false false = refl

and_marks : (b c : Bool) → bit_and (mark b) (mark c) ≡ mark (b && c)
and_marks true true = refl
and_marks true false = refl
and_marks false true = refl
and_marks false false = refl

-- one of the two, and not both
abbrev pub differ : Bool → Bool → Bool
differ b c = cond b (not c) c

xor_marks : (b c : Bool) → bit_xor (mark b) (mark c) ≡ mark (differ b c)
xor_marks true true = refl
xor_marks true false = refl
xor_marks false true = refl
xor_marks false false = refl

pub either : (m n : List ℕ) (k : ℕ) (b c : Bool) → Tells m k b → Tells n k c → Tells (zip2 bit_or m n) k (b || c)
either = joined bit_or (λ b c. b || c) or_marks

pub both : (m n : List ℕ) (k : ℕ) (b c : Bool) → Tells m k b → Tells n k c → Tells (zip2 bit_and m n) k (b && c)
both = joined bit_and (λ b c. b && c) and_marks

pub one : (m n : List ℕ) (k : ℕ) (b c : Bool) → Tells m k b → Tells n k c → Tells (zip2 bit_xor m n) k (differ b c)
one = joined bit_xor differ xor_marks

-- where no lane is set, this one isn't
pub none : (m : List ℕ) (k : ℕ) (b : Bool) → eqb (mask_l (map (top 7) m) % 2 ^ 64) 0 ≡ true → Tells m k b → b ≡ false
none m k false e h = refl
none m k true e h =
    let short : length (map (top 7) m) ≤ 64 = omega (arith, length-map m (top 7), h.wide) in
    let empty : mask_l (map (top 7) m) ≡ 0 = sym (mask_l-mod (map (top 7) m) 64 short) ∙ eqb-true _ 0 e in
    let set : get_or (map (top 7) m) k false ≡ true = get_or-map (top 7) m k 0 false (omega (arith, h.within, h.wide)) ∙ ap (top 7) h.is in
    absurd (omega (arith, sym (bit_at-zero k) ∙ sym (ap (λ n. bit_at n k) empty) ∙ bit_mask_l (map (top 7) m) k ∙ ap (λ b. cond b 1 0) set))

or_no : (a b : Bool) → (a || b) ≡ false → (a ≡ false) × (b ≡ false)
or_no true b h = absurd (cc)
or_no false b h = (refl, h)

or_left : (a b c : Bool) → a ≡ true → (a || b || c) ≡ true
or_left true b c h = refl
or_left false b c h = absurd (cc)

or_middle : (a b c : Bool) → b ≡ true → (a || b || c) ≡ true
or_middle true b c h = refl
or_middle false true c h = refl
or_middle false false c h = absurd (cc)

or_right : (a b c : Bool) → c ≡ true → (a || b || c) ≡ true
or_right true b c h = refl
or_right false true c h = refl
or_right false false c h = h

or_none : (a b c : Bool) → a ≡ false → b ≡ false → c ≡ false → (a || b || c) ≡ false
or_none true b c h i j = absurd (cc)
or_none false true c h i j = absurd (cc)
or_none false false c h i j = j

and_no : (a b : Bool) → (a && b) ≡ false → a ≡ true → b ≡ false
and_no true b h i = h
and_no false b h i = absurd (cc)

-- where they don't differ they are the same
pub alike : (a b : Bool) → differ a b ≡ false → a ≡ b
alike true true h = refl
alike true false h = absurd (cc)
alike false true h = absurd (cc)
alike false false h = refl

apart : (a b : Bool) → differ a b ≡ true → b ≡ false → a ≡ true
apart true b h i = refl
apart false true h i = absurd (cc)
apart false false h i = absurd (cc)

and_all : (a b : Bool) → differ (a && b) a ≡ false → a ≡ true → b ≡ true
and_all true b h i = alike b true h
and_all false b h i = absurd (cc)

below : (n x : ℕ) → x < n → leb n x ≡ false
below n x h = decided (leb n x) refl
  where
    decided : (b : Bool) → leb n x ≡ b → leb n x ≡ false
    decided true e = absurd (omega (arith, leb-true n x e, h))
    decided false e = e

-- the byte goes on with a character
goes_on : (byte : ℕ) → differ (leb 0x80 byte) (leb 0xc0 byte) ≡ true → (0x80 ≤ byte) × (byte < 0xc0)
goes_on byte h = elim (cases_lt byte 0xc0) [
  | inl low ↦ (leb-true 0x80 byte (apart (leb 0x80 byte) (leb 0xc0 byte) h (below 0xc0 byte low)), low)
  | inr wide ↦ absurd (
      let first : leb 0x80 byte ≡ true = le-leb 0x80 byte (omega (arith, wide)) in
      let second : leb 0xc0 byte ≡ true = le-leb 0xc0 byte wide in
      let same : differ (leb 0x80 byte) (leb 0xc0 byte) ≡ false = rw (first, second) refl in
      let bad : ⊥ = cc in bad)
]

begins_here : (byte : ℕ) → differ (leb 0x80 byte) (leb 0xc0 byte) ≡ false → differ (leb 0xc2 byte) (leb 0xc0 byte) ≡ false → leb 0xf5 byte ≡ false → (byte < 0x80) ⊎ ((0xc2 ≤ byte) × (byte < 0xf5))
begins_here byte alone shortest f5 = elim (cases_lt byte 0x80) [
  | inl low ↦ inl low
  | inr high ↦ inr (leb-true 0xc2 byte (alike (leb 0xc2 byte) (leb 0xc0 byte) shortest ∙ sym (alike (leb 0x80 byte) (leb 0xc0 byte) alone) ∙ le-leb 0x80 byte high), leb-false 0xf5 byte f5)
]

-- a byte may not stand behind these three
abbrev pub wrong : ℕ → ℕ → ℕ → ℕ → Bool
wrong t s f b =
    ((differ (leb 0xf0 t || leb 0xe0 s || leb 0xc0 f) (differ (leb 0x80 b) (leb 0xc0 b)) || (differ (leb 0xc2 b) (leb 0xc0 b) || leb 0xf5 b)) || (differ (eqb f 0xe0 && leb 0xa0 b) (eqb f 0xe0) || differ (eqb f 0xf0 && leb 0x90 b) (eqb f 0xf0))) || (eqb f 0xed && leb 0xa0 b || eqb f 0xf4 && leb 0x90 b)

-- the same lane by lane
abbrev pub wrong_lanes : List ℕ → List ℕ → List ℕ → List ℕ → List ℕ
wrong_lanes t s f b =
    zip2 bit_or (zip2 bit_or (zip2 bit_or (zip2 bit_xor (zip2 bit_or (zip2 bit_or (at_least 0xf0 t) (at_least 0xe0 s)) (at_least 0xc0 f)) (zip2 bit_xor (at_least 0x80 b) (at_least 0xc0 b))) (zip2 bit_or (zip2 bit_xor (at_least 0xc2 b) (at_least 0xc0 b)) (at_least 0xf5 b)))
    (zip2 bit_or (zip2 bit_xor (zip2 bit_and (equals 0xe0 f) (at_least 0xa0 b)) (equals 0xe0 f)) (zip2 bit_xor (zip2 bit_and (equals 0xf0 f) (at_least 0x90 b)) (equals 0xf0 f))))
    (zip2 bit_or (zip2 bit_and (equals 0xed f) (at_least 0xa0 b)) (zip2 bit_and (equals 0xf4 f) (at_least 0x90 b)))

pub wrong_lane : (t s f b : List ℕ) (k : ℕ) → length t ≡ 32 → length s ≡ 32 → length f ≡ 32 → length b ≡ 32 → k < 32 → Tells (wrong_lanes t s f b) k (wrong (get_or t k 0) (get_or s k 0) (get_or f k 0) (get_or b k 0))
wrong_lane t s f b k tl sl fl bl within =
    let lead = least_lane 0xc0 b k bl within in
    let far = least_lane 0xa0 b k bl within in
    let near = least_lane 0x90 b k bl within in
    let e0 = equal_lane 0xe0 f k fl within in
    let f0 = equal_lane 0xf0 f k fl within in
    let wanted = either _ _ k _ _ (either _ _ k _ _ (least_lane 0xf0 t k tl within) (least_lane 0xe0 s k sl within)) (least_lane 0xc0 f k fl within) in
    let never = either _ _ k _ _ (one _ _ k _ _ (least_lane 0xc2 b k bl within) lead) (least_lane 0xf5 b k bl within) in
    let low = either _ _ k _ _ (one _ _ k _ _ (both _ _ k _ _ e0 far) e0) (one _ _ k _ _ (both _ _ k _ _ f0 near) f0) in
    let high = either _ _ k _ _ (both _ _ k _ _ (equal_lane 0xed f k fl within) far) (both _ _ k _ _ (equal_lane 0xf4 f k fl within) near) in
    either _ _ k _ _ (either _ _ k _ _ (either _ _ k _ _ (one _ _ k _ _ wanted (one _ _ k _ _ (least_lane 0x80 b k bl within) lead)) never) low) high

pub follows : (t s f b : ℕ) → wrong t s f b ≡ false → Follows t s f b
follows t s f b h0 =
    let wanted = (leb 0xf0 t || leb 0xe0 s || leb 0xc0 f) in
    let within = differ (leb 0x80 b) (leb 0xc0 b) in
    let never = (differ (leb 0xc2 b) (leb 0xc0 b) || leb 0xf5 b) in
    let low = (differ (eqb f 0xe0 && leb 0xa0 b) (eqb f 0xe0) || differ (eqb f 0xf0 && leb 0x90 b) (eqb f 0xf0)) in
    let parts = or_no ((differ wanted within || never) || low) (eqb f 0xed && leb 0xa0 b || eqb f 0xf4 && leb 0x90 b) h0 in
    let front = or_no (differ wanted within || never) low parts.0 in
    let firsts = or_no (differ wanted within) never front.0 in
    let nevers = or_no (differ (leb 0xc2 b) (leb 0xc0 b)) (leb 0xf5 b) firsts.1 in
    let lows = or_no (differ (eqb f 0xe0 && leb 0xa0 b) (eqb f 0xe0)) (differ (eqb f 0xf0 && leb 0x90 b) (eqb f 0xf0)) front.1 in
    let highs = or_no (eqb f 0xed && leb 0xa0 b) (eqb f 0xf4 && leb 0x90 b) parts.1 in
    let is : wanted ≡ within = alike wanted within firsts.0 in
    record {
      in_two = λ h. goes_on b (sym is ∙ or_right (leb 0xf0 t) (leb 0xe0 s) (leb 0xc0 f) (le-leb 0xc0 f h));
      in_three = λ h. goes_on b (sym is ∙ or_middle (leb 0xf0 t) (leb 0xe0 s) (leb 0xc0 f) (le-leb 0xe0 s h));
      in_four = λ h. goes_on b (sym is ∙ or_left (leb 0xf0 t) (leb 0xe0 s) (leb 0xc0 f) (le-leb 0xf0 t h));
      begins = λ a c d. begins_here b (sym is ∙ or_none (leb 0xf0 t) (leb 0xe0 s) (leb 0xc0 f) (below 0xf0 t d) (below 0xe0 s c) (below 0xc0 f a)) nevers.0 nevers.1;
      behind_e0 = λ h. leb-true 0xa0 b (and_all (eqb f 0xe0) (leb 0xa0 b) lows.0 (eq-eqb f 0xe0 h));
      behind_ed = λ h. leb-false 0xa0 b (and_no (eqb f 0xed) (leb 0xa0 b) highs.0 (eq-eqb f 0xed h));
      behind_f0 = λ h. leb-true 0x90 b (and_all (eqb f 0xf0) (leb 0x90 b) lows.1 (eq-eqb f 0xf0 h));
      behind_f4 = λ h. leb-false 0x90 b (and_no (eqb f 0xf4) (leb 0x90 b) highs.1 (eq-eqb f 0xf4 h));
    }
