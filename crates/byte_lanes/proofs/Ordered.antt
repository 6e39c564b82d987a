-- Bytes in order up to a place are UTF-8 up to the last whole character before it.
use Rattle.std.proofs.Common.{take-add, false, ◌≡◌, inl, inr, ℕ, zero, suc, ◌+◌, ◌-◌, ◌<◌, ◌≤◌, List, [], ◌∷◌, length, take, drop, get_or, slice_index, refl, sym, ap, ap₂, subst, ◌∙◌, arith, length-drop}
use Rattle.std.proofs.lemmas.Str.{IsUtf8-from_ascii, IsUtf8-append, IsUtf8-drop, IsCharBoundary-from_take}
use Rattle.std.proofs.lemmas.List.{get_or-take, get_or_past, length-take-le, take-take, drop-drop, drop-take}
use Rattle.std.proofs.lemmas.Simd.{get_or-chunk}
use Rattle.std.proofs.lemmas.Bool.{cases_lt, leb-false}
use Rattle.std.specs.Simd.Lanes.{chunk}
use Rattle.std.proofs.Math.Seq.{take-length}
use Rattle.std.specs.Str.{IsUtf8}
use Rattle.byte_lanes.specs.Bytes.{is_above}
use Rattle.byte_lanes.specs.Places.{NonePasses}
use Rattle.byte_lanes.specs.Utf8.{Follows, AreInOrder}
use Rattle.byte_lanes.proofs.InOrder.{Run, begun, left, texts}

run_of : (w x y : ℕ) (zs : List ℕ) → ((k : ℕ) → k < length zs → Follows (get_or (w ∷ x ∷ y ∷ zs) k 0) (get_or (x ∷ y ∷ zs) k 0) (get_or (y ∷ zs) k 0) (get_or zs k 0)) → Run w x y zs
run_of w x y [] h = tt
run_of w x y (z ∷ zs) h = (h zero (omega arith), run_of x y z zs (λ k lt. h (suc k) (omega (arith, lt))))

left_of : (w x y : ℕ) (zs : List ℕ) → left w x y zs ≡ begun (get_or (w ∷ x ∷ y ∷ zs) (length zs) 0) (get_or (x ∷ y ∷ zs) (length zs) 0) (get_or (y ∷ zs) (length zs) 0)
left_of w x y [] = refl
left_of w x y (z ∷ zs) = left_of x y z zs

-- of the bytes before place m, of which a character begins the first, the last `few` are of no whole one
pub record IsWhole (bytes : List ℕ) (m few : ℕ) : Type 0 where
  pub within : few ≤ m
  pub text : IsUtf8 (take (m - few) bytes)

pub whole_text : (m w x y : ℕ) (zs : List ℕ) → m ≤ length zs → w < 0xf0 → x < 0xe0 → y < 0xc0 → AreInOrder (w ∷ x ∷ y ∷ zs) (suc (suc (suc m))) → IsWhole zs m (begun (get_or (w ∷ x ∷ y ∷ zs) m 0) (get_or (x ∷ y ∷ zs) m 0) (get_or (y ∷ zs) m 0))
whole_text m w x y zs room a b c order = found
  where
    ts : List ℕ
    ts = take m zs

    long : length ts ≡ m
    long = length-take-le m zs room

    at_y : (k : ℕ) → k ≤ m → get_or (y ∷ ts) k 0 ≡ get_or (y ∷ zs) k 0
    at_y zero h = refl
    at_y (suc k) h = get_or-take m zs k 0 (omega (arith, h))

    at_x : (k : ℕ) → k ≤ m → get_or (x ∷ y ∷ ts) k 0 ≡ get_or (x ∷ y ∷ zs) k 0
    at_x zero h = refl
    at_x (suc k) h = at_y k (omega (arith, h))

    at_w : (k : ℕ) → k ≤ m → get_or (w ∷ x ∷ y ∷ ts) k 0 ≡ get_or (w ∷ x ∷ y ∷ zs) k 0
    at_w zero h = refl
    at_w (suc k) h = at_x k (omega (arith, h))

    run : Run w x y ts
    run = run_of w x y ts (λ k lt.
        let low : k < m = omega (arith, lt, long) in
        let le : k ≤ m = omega (arith, low) in
        rw (at_w k le, at_x k le, at_y k le, get_or-take m zs k 0 low) (order k (omega (arith, low))))

    few : ℕ
    few = left w x y ts

    is : few ≡ begun (get_or (w ∷ x ∷ y ∷ zs) m 0) (get_or (x ∷ y ∷ zs) m 0) (get_or (y ∷ zs) m 0)
    is =
        let le : m ≤ m = omega arith in
        left_of w x y ts ∙ ap (λ n. begun (get_or (w ∷ x ∷ y ∷ ts) n 0) (get_or (x ∷ y ∷ ts) n 0) (get_or (y ∷ ts) n 0)) long ∙ rw (at_w m le, at_x m le, at_y m le) refl

    found : IsWhole zs m (begun (get_or (w ∷ x ∷ y ∷ zs) m 0) (get_or (x ∷ y ∷ zs) m 0) (get_or (y ∷ zs) m 0))
    found =
        let text = texts m w x y ts (omega (arith, long)) a b c run in
        let within : few ≤ m = omega (arith, text.within, long) in
        let same : take (length ts - few) ts ≡ take (m - few) zs = ap (λ n. take (n - few) ts) long ∙ take-take (m - few) m zs (omega arith) in
        subst (IsWhole zs m) is (record { within = within; text = subst IsUtf8 same text.text })

-- one more block
pub block_more : (bytes : List ℕ) (at : ℕ) → 3 ≤ at → AreInOrder bytes at
    → ((k : ℕ) → k < 32 → Follows (slice_index (chunk (at - 3) 32 bytes) k) (slice_index (chunk (at - 2) 32 bytes) k) (slice_index (chunk (at - 1) 32 bytes) k) (slice_index (chunk at 32 bytes) k))
    → AreInOrder bytes (at + 32)
block_more bytes at low before lanes k high = elim (cases_lt (suc (suc (suc k))) at) [
  | inl near ↦ before k near
  | inr far ↦ (
      let j = suc (suc (suc k)) - at in
      let within : j < 32 = omega (arith, far, high) in
      let third : at - 3 + j ≡ k = omega (arith, far, low) in
      let second : at - 2 + j ≡ suc k = omega (arith, far, low) in
      let first : at - 1 + j ≡ suc (suc k) = omega (arith, far, low) in
      let place : at + j ≡ suc (suc (suc k)) = omega (arith, far) in
      let t = get_or-chunk (at - 3) 32 bytes j 0 within ∙ ap (λ i. get_or bytes i 0) third in
      let s = get_or-chunk (at - 2) 32 bytes j 0 within ∙ ap (λ i. get_or bytes i 0) second in
      let f = get_or-chunk (at - 1) 32 bytes j 0 within ∙ ap (λ i. get_or bytes i 0) first in
      let b = get_or-chunk at 32 bytes j 0 within ∙ ap (λ i. get_or bytes i 0) place in
      subst (λ x. x) (ap₂ (λ x y. Follows x y (get_or bytes (suc (suc k)) 0) (get_or bytes (suc (suc (suc k))) 0)) t s) (subst (λ x. x) (ap₂ (λ x y. Follows (get_or (chunk (at - 3) 32 bytes) j 0) (get_or (chunk (at - 2) 32 bytes) j 0) x y) f b) (lanes j within)))
]

-- the text behind the first three bytes, up to the last whole character before place `end`
pub whole_before : (bytes : List ℕ) (end few : ℕ) → 3 ≤ end → end ≤ length bytes → (get_or bytes 0 0 < 0xf0) × (get_or bytes 1 0 < 0xe0) × (get_or bytes 2 0 < 0xc0) → AreInOrder bytes end → few ≡ begun (get_or bytes (end - 3) 0) (get_or bytes (end - 2) 0) (get_or bytes (end - 1) 0) → (3 ≤ end - few) × IsUtf8 (take (end - few - 3) (drop 3 bytes))
whole_before [] end few low high first order is = absurd (omega (arith, low, high))
whole_before (w ∷ []) end few low high first order is = absurd (omega (arith, low, high))
whole_before (w ∷ x ∷ []) end few low high first order is = absurd (omega (arith, low, high))
whole_before (w ∷ x ∷ y ∷ zs) end few low high first order is =
    let m = end - 3 in
    let there : end ≡ suc (suc (suc m)) = omega (arith, low) in
    let second : end - 2 ≡ suc m = omega (arith, low) in
    let last : end - 1 ≡ suc (suc m) = omega (arith, low) in
    let whole = whole_text m w x y zs (omega (arith, high, there)) first.0 first.1 first.2 (λ k h. order k (omega (arith, h, there))) in
    let same : few ≡ begun (get_or (w ∷ x ∷ y ∷ zs) m 0) (get_or (x ∷ y ∷ zs) m 0) (get_or (y ∷ zs) m 0) = is ∙ ap₂ (λ i j. begun (get_or (w ∷ x ∷ y ∷ zs) m 0) (get_or (w ∷ x ∷ y ∷ zs) i 0) (get_or (w ∷ x ∷ y ∷ zs) j 0)) second last in
    let within : few ≤ m = omega (arith, whole.within, same) in
    let cut : m - begun (get_or (w ∷ x ∷ y ∷ zs) m 0) (get_or (x ∷ y ∷ zs) m 0) (get_or (y ∷ zs) m 0) ≡ end - few - 3 = ap (λ n. m - n) (sym same) ∙ omega (arith, there, within) in
    (omega (arith, there, within), subst (λ n. IsUtf8 (take n zs)) cut whole.text)

pub all_ascii : (bytes : List ℕ) → NonePasses is_above bytes 0 (length bytes) → IsUtf8 bytes
all_ascii bytes plain = IsUtf8-from_ascii bytes (λ k. elim (cases_lt k (length bytes)) [
  | inl within ↦ leb-false 128 (get_or bytes k 0) (plain k (omega arith) within)
  | inr past ↦ rw (get_or_past bytes k 0 past) (omega arith)
])

-- the rest as a slice
pub rest_is_drop : (bytes : List ℕ) (n : ℕ) → take (length bytes - n) (drop n bytes) ≡ drop n bytes
rest_is_drop bytes n = ap (λ m. take m (drop n bytes)) (sym (length-drop n bytes)) ∙ take-length (drop n bytes)

pub ascii_text : (bytes : List ℕ) (n : ℕ) → n ≤ length bytes → NonePasses is_above bytes 0 n → IsUtf8 (take n bytes)
ascii_text bytes n room plain =
    let long : length (take n bytes) ≡ n = length-take-le n bytes room in
    all_ascii (take n bytes) (λ k low high.
    let within : k < n = omega (arith, high, long) in
    subst (λ x. is_above x ≡ false) (sym (get_or-take n bytes k 0 within)) (plain k low within))

-- a text, and what follows it behind the three bytes at its end
pub text_more : (bytes : List ℕ) (start more : ℕ) → 3 ≤ start → 3 ≤ more → IsUtf8 (take start bytes) → IsUtf8 (take (more - 3) (drop 3 (take (length bytes - (start - 3)) (drop (start - 3) bytes)))) → IsUtf8 (take (start - 3 + more) bytes)
text_more bytes start more low high before behind =
    let place : start - 3 + 3 ≡ start = omega (arith, low) in
    let rest : drop 3 (take (length bytes - (start - 3)) (drop (start - 3) bytes)) ≡ drop start bytes = ap (drop 3) (rest_is_drop bytes (start - 3)) ∙ drop-drop 3 (start - 3) bytes ∙ ap (λ n. drop n bytes) place in
    let sum : start + (more - 3) ≡ start - 3 + more = omega (arith, low, high) in
    subst (λ n. IsUtf8 (take n bytes)) sum (subst IsUtf8 (sym (take-add start (more - 3) bytes)) (IsUtf8-append (take start bytes) (take (more - 3) (drop start bytes)) before (subst (λ l. IsUtf8 (take (more - 3) l)) rest behind)))

-- what follows a text within a longer one
pub text_behind : (bytes : List ℕ) (n m : ℕ) → n + m ≤ length bytes → IsUtf8 (take n bytes) → IsUtf8 (take (n + m) bytes) → IsUtf8 (take m (drop n bytes))
text_behind bytes n m room short long =
    let within : n ≤ length (take (n + m) bytes) = omega (arith, length-take-le (n + m) bytes room) in
    let front : IsUtf8 (take n (take (n + m) bytes)) = subst IsUtf8 (sym (take-take n (n + m) bytes (omega arith))) short in
    subst IsUtf8 (drop-take n m bytes) (IsUtf8-drop (take (n + m) bytes) n long (IsCharBoundary-from_take (take (n + m) bytes) n long within front))

-- where at most m bytes behind a text of n bytes are a text, no front of more than n + m bytes is one
pub longest_behind : (bytes : List ℕ) (n m : ℕ) → n ≤ length bytes → IsUtf8 (take n bytes) → ((j : ℕ) → j ≤ length (drop n bytes) → IsUtf8 (take j (drop n bytes)) → j ≤ m) → (k : ℕ) → k ≤ length bytes → IsUtf8 (take k bytes) → k ≤ n + m
longest_behind bytes n m room short most k within long = elim (cases_lt n k) [
  | inl more ↦ (
      let j = k - n in
      let sum : n + j ≡ k = omega (arith, more) in
      let behind : IsUtf8 (take j (drop n bytes)) = text_behind bytes n j (omega (arith, sum, within)) short (subst (λ i. IsUtf8 (take i bytes)) (sym sum) long) in
      omega (arith, sum, most j (omega (arith, within, length-drop n bytes)) behind)
      )
  | inr less ↦ omega (arith, less)
]
