-- The masks of a block.
use Rattle.std.proofs.Common.{◌≡◌, ℕ, ◌+◌, ◌*◌, ◌^◌, ◌<◌, Bool, true, false, not, ◌||◌, cond, eqb, List, [], ◌∷◌, length, map, bit_or, refl, sym, ap, ◌∙◌, lit≤, arith}
use Rattle.std.specs.Simd.Lanes.{mask_l}
use Rattle.std.specs.List.{prefix_len}
use Rattle.std.specs.Int.Count.{count_trailing_zeros}
use Rattle.std.proofs.lemmas.Nat.{or_block}
use Rattle.std.proofs.lemmas.Bool.{ne_eqb}
use Rattle.std.proofs.lemmas.Simd.{first_set_mask_l}

lowest_bit : (b c : Bool) → bit_or (cond b 1 0) (cond c 1 0) ≡ cond (b || c) 1 0
lowest_bit true true = refl
lowest_bit true false = refl
lowest_bit false true = refl
lowest_bit false false = refl

bit_below : (b : Bool) → cond b 1 0 < 2 ^ 1
bit_below true = omega arith
bit_below false = omega arith

joined_bit : (b c : Bool) (m n : ℕ) → bit_or (cond b 1 0 + 2 * m) (cond c 1 0 + 2 * n) ≡ cond (b || c) 1 0 + 2 * bit_or m n
joined_bit b c m n =
    let left : cond b 1 0 + 2 * m ≡ m * 2 ^ 1 + cond b 1 0 = omega arith in
    let right : cond c 1 0 + 2 * n ≡ n * 2 ^ 1 + cond c 1 0 = omega arith in
    let joined = or_block 1 m n (cond b 1 0) (cond c 1 0) (bit_below b) (bit_below c) in
    rw (left, right, joined, lowest_bit b c) (omega arith)

-- two masks together are the mask of the bytes that pass either test
pub bit_or-mask_l : (p q : ℕ → Bool) (xs : List ℕ) → bit_or (mask_l (map p xs)) (mask_l (map q xs)) ≡ mask_l (map (λ x. p x || q x) xs)
bit_or-mask_l p q [] = refl
bit_or-mask_l p q (x ∷ xs) = joined_bit (p x) (q x) (mask_l (map p xs)) (mask_l (map q xs)) ∙ ap (λ m. cond (p x || q x) 1 0 + 2 * m) (bit_or-mask_l p q xs)

pub all_before : (p : ℕ → Bool) (xs : List ℕ) (m : ℕ) → length xs ≡ 32 → m ≡ mask_l (map p xs) → m ≡ 0 → 32 ≡ prefix_len (λ x. not (p x)) xs
all_before p xs m long masked none =
    let zero_mask : mask_l (map p xs) ≡ 0 = sym masked ∙ none in
    rw zero_mask at (first_set_mask_l p xs 32 long (lit≤ tt))

pub lowest_before : (p : ℕ → Bool) (xs : List ℕ) (m : ℕ) → length xs ≡ 32 → m ≡ mask_l (map p xs) → (m ≡ 0 → ⊥) → count_trailing_zeros 64 m ≡ prefix_len (λ x. not (p x)) xs
lowest_before p xs m long masked some =
    let set : eqb (mask_l (map p xs)) 0 ≡ false = ne_eqb (mask_l (map p xs)) 0 (λ z. some (masked ∙ z)) in
    rw masked (rw set at (first_set_mask_l p xs 32 long (lit≤ tt)))
