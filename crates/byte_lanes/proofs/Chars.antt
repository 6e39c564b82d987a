-- Characters of several bytes in UTF-8.
use Rattle.std.proofs.Common.{◌≡◌, ◌⊎◌, inl, inr, ℕ, ◌+◌, ◌-◌, ◌*◌, ◌/◌, ◌<◌, ◌≤◌, true, lt-ltb, le-ltb, le-leb, List, [], ◌∷◌, ◌++◌, refl, ◌∙◌, arith}
use Rattle.std.specs.Str.{IsUtf8}
use lib.Utf8.{scalar, encode, next as next_byte, low_scalar}

pub two : (c : ℕ) → 128 ≤ c → c < 2048 → encode c ≡ (192 + c / 64) ∷ next_byte c ∷ []
unfolding encode
two c l h = rw (le-ltb c 128 l, lt-ltb c 2048 h) refl

pub three : (c : ℕ) → 2048 ≤ c → c < 65536 → encode c ≡ (224 + c / 4096) ∷ next_byte (c / 64) ∷ next_byte c ∷ []
unfolding encode
three c l h = rw (le-ltb c 128 (omega arith), le-ltb c 2048 l, lt-ltb c 65536 h) refl

pub four : (c : ℕ) → 65536 ≤ c → encode c ≡ (240 + c / 262144) ∷ next_byte (c / 4096) ∷ next_byte (c / 64) ∷ next_byte c ∷ []
unfolding encode
four c l = rw (le-ltb c 128 (omega arith), le-ltb c 2048 (omega arith), le-ltb c 65536 l) refl

pub high_scalar : (c : ℕ) → 57344 ≤ c → c < 1114112 → scalar c ≡ true
high_scalar c l h = rw (le-ltb c 55296 (omega arith), le-leb 57344 c l, lt-ltb c 1114112 h) refl

-- the bytes are one character above ASCII
pub record IsOneChar (bytes : List ℕ) : Type 0 where
  pub c : ℕ
  pub ok : scalar c ≡ true
  pub high : 128 ≤ c
  pub is : encode c ≡ bytes

-- a text with a character in front
pub front : (bytes rest : List ℕ) → IsOneChar bytes → IsUtf8 rest → IsUtf8 (bytes ++ rest)
front bytes rest one u = (one.c ∷ u.0, (rw one.ok u.1.0, λ i. one.is i ++ u.1.1 i))

pub char_two : (x y : ℕ) → 0xc2 ≤ x → x < 0xe0 → 128 ≤ y → y < 192 → IsOneChar (x ∷ y ∷ [])
char_two x y l h a b =
    let c = (x - 192) * 64 + (y - 128) in
    let p : 192 + c / 64 ≡ x = omega arith in
    let q : next_byte c ≡ y = omega arith in
    record { c = c; ok = low_scalar c (omega arith); high = omega arith; is = two c (omega arith) (omega arith) ∙ (λ k. p k ∷ q k ∷ []) }

-- the number of three bytes lies between these, and is no surrogate
pub char_three : (x y z : ℕ) → 224 ≤ x → x < 240 → 128 ≤ y → y < 192 → 128 ≤ z → z < 192 → 2048 ≤ (x - 224) * 4096 + (y - 128) * 64 + (z - 128) → ((x - 224) * 4096 + (y - 128) * 64 + (z - 128) < 55296) ⊎ (57344 ≤ (x - 224) * 4096 + (y - 128) * 64 + (z - 128)) → IsOneChar (x ∷ y ∷ z ∷ [])
char_three x y z l h a b d e low gap =
    let c = (x - 224) * 4096 + (y - 128) * 64 + (z - 128) in
    let p : 224 + c / 4096 ≡ x = omega arith in
    let q : next_byte (c / 64) ≡ y = omega arith in
    let r : next_byte c ≡ z = omega arith in
    let ok : scalar c ≡ true = elim gap [ inl s ↦ low_scalar c s | inr s ↦ high_scalar c s (omega arith) ] in
    record { c = c; ok = ok; high = omega (arith, low); is = three c low (omega arith) ∙ (λ k. p k ∷ q k ∷ r k ∷ []) }

pub char_four : (x y z w : ℕ) → 240 ≤ x → x < 245 → 128 ≤ y → y < 192 → 128 ≤ z → z < 192 → 128 ≤ w → w < 192 → 65536 ≤ (x - 240) * 262144 + (y - 128) * 4096 + (z - 128) * 64 + (w - 128) → (x - 240) * 262144 + (y - 128) * 4096 + (z - 128) * 64 + (w - 128) < 1114112 → IsOneChar (x ∷ y ∷ z ∷ w ∷ [])
char_four x y z w l h a b d e f g low high =
    let c = (x - 240) * 262144 + (y - 128) * 4096 + (z - 128) * 64 + (w - 128) in
    let k4 : c / 64 ≡ (x - 240) * 4096 + (y - 128) * 64 + (z - 128) = omega arith in
    let p : 240 + c / 262144 ≡ x = omega arith in
    let q : next_byte (c / 4096) ≡ y = omega arith in
    let r : next_byte (c / 64) ≡ z = rw k4 (omega arith) in
    let t : next_byte c ≡ w = omega arith in
    record { c = c; ok = high_scalar c (omega arith) high; high = omega (arith, low); is = four c low ∙ (λ k. p k ∷ q k ∷ r k ∷ t k ∷ []) }
