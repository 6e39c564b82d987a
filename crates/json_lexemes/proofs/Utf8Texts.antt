-- The text that a string spells is UTF-8.
use Rattle.std.proofs.Common.{append_assoc, subst, ◌≡◌, ◌≢◌, ◌⊎◌, inl, inr, ℕ, zero, suc, ◌+◌, ◌-◌, ◌*◌, ◌<◌, ◌≤◌, Bool, true, false, cond, eqb, ltb, List, [], ◌∷◌, ◌++◌, Some, None, refl, arith}
use Rattle.std.proofs.lemmas.Bool.{cases_lt, ltb-true, ltb-false, eqb-false}
use Rattle.std.specs.Str.{IsUtf8}
pub use Rattle.byte_lanes.proofs.Chars.{two, three, four, high_scalar, IsOneChar}
use Rattle.byte_lanes.proofs.Chars.{front, char_two, char_three, char_four}
use Rattle.json_lexemes.specs.declared.lexeme.Second.{Second}
use Rattle.json_lexemes.specs.declared.lexeme.Second.TheVariants.{Any as any, FromA0 as from_a0, To9F as to_9f, From90 as from_90, To8F as to_8f}
use Rattle.json_lexemes.specs.declared.lexeme.Lexeme.{Lexeme}
use Rattle.json_lexemes.specs.declared.lexeme.Lexeme.TheVariants.{Tail as tail}
use Rattle.json_lexemes.specs.Lexeme.{least, greatest, leads}
use Rattle.json_lexemes.proofs.Tables.{none_some, is_it}

-- the bytes that end a character of several bytes
abbrev pub Continues : Second → ℕ → List ℕ → Type 0
Continues second more [] = ⊥
Continues second zero (y ∷ []) = (least second ≤ y) × (y ≤ greatest second)
Continues second zero (y ∷ z ∷ ys) = ⊥
Continues second (suc more) (y ∷ ys) = (least second ≤ y) × (y ≤ greatest second) × Continues any more ys

-- with such bytes these make a character
pub record Begun (bytes : List ℕ) (second : Second) (more : ℕ) : Type 0 where
  pub char : (ys : List ℕ) → Continues second more ys → IsOneChar (bytes ++ ys)

pub begun_utf8 : (bytes : List ℕ) (second : Second) (more : ℕ) → Begun bytes second more → (ys rest : List ℕ) → Continues second more ys → IsUtf8 rest → IsUtf8 (bytes ++ (ys ++ rest))
begun_utf8 bytes second more h ys rest c u =
    let one = h.char ys c in
    subst IsUtf8 (append_assoc bytes ys rest) (front (bytes ++ ys) rest one u)

begun_two : (x : ℕ) → 0xc2 ≤ x → x < 0xe0 → Begun (x ∷ []) any 0
begun_two x l h = record { char = char }
  where
    char : (ys : List ℕ) → Continues any 0 ys → IsOneChar (x ∷ ys)
    char [] c = absurd c
    char (y ∷ []) c = char_two x y l h (omega (arith, c.0)) (omega (arith, c.1))
    char (y ∷ z ∷ ys) c = absurd c

begun_three : (x : ℕ) (second : Second) → 224 ≤ x → x < 240 → ((y : ℕ) → least second ≤ y → y ≤ greatest second → (128 ≤ y) × (y < 192) × (2048 ≤ (x - 224) * 4096 + (y - 128) * 64) × (((x - 224) * 4096 + (y - 128) * 64 + 63 < 55296) ⊎ (57344 ≤ (x - 224) * 4096 + (y - 128) * 64))) → Begun (x ∷ []) second 1
begun_three x second l h f = record { char = char }
  where
    gap : (y z : ℕ) → z < 192 → (((x - 224) * 4096 + (y - 128) * 64 + 63 < 55296) ⊎ (57344 ≤ (x - 224) * 4096 + (y - 128) * 64)) → ((x - 224) * 4096 + (y - 128) * 64 + (z - 128) < 55296) ⊎ (57344 ≤ (x - 224) * 4096 + (y - 128) * 64 + (z - 128))
    gap y z lt (inl s) = inl (omega (arith, s, lt))
    gap y z lt (inr s) = inr (omega (arith, s))

    char : (ys : List ℕ) → Continues second 1 ys → IsOneChar (x ∷ ys)
    char [] c = absurd c
    char (y ∷ []) c = absurd c.2
    char (y ∷ z ∷ []) c =
        let g = f y c.0 c.1 in
        char_three x y z l h g.0 g.1 (omega (arith, c.2.0)) (omega (arith, c.2.1)) (omega (arith, g.2)) (gap y z (omega (arith, c.2.1)) g.3)
    char (y ∷ z ∷ w ∷ ys) c = absurd c.2

begun_four : (x : ℕ) (second : Second) → 240 ≤ x → x < 245 → ((y : ℕ) → least second ≤ y → y ≤ greatest second → (128 ≤ y) × (y < 192) × (65536 ≤ (x - 240) * 262144 + (y - 128) * 4096) × ((x - 240) * 262144 + (y - 128) * 4096 + 4095 < 1114112)) → Begun (x ∷ []) second 2
begun_four x second l h f = record { char = char }
  where
    char : (ys : List ℕ) → Continues second 2 ys → IsOneChar (x ∷ ys)
    char [] c = absurd c
    char (y ∷ []) c = absurd c.2
    char (y ∷ z ∷ []) c = absurd c.2.2
    char (y ∷ z ∷ w ∷ []) c =
        let g = f y c.0 c.1 in
        char_four x y z w l h g.0 g.1 (omega (arith, c.2.0)) (omega (arith, c.2.1)) (omega (arith, c.2.2.0)) (omega (arith, c.2.2.1)) (omega (arith, g.2)) (omega (arith, g.3, c.2.1, c.2.2.1))
    char (y ∷ z ∷ w ∷ v ∷ ys) c = absurd c.2.2

-- what a first byte begins
pub record IsLead (x : ℕ) (word : Lexeme) : Type 0 where
  pub high : 128 ≤ x
  pub second : Second
  pub more : ℕ
  pub is : word ≡ tail second more
  pub begun : Begun (x ∷ []) second more

led : (x : ℕ) (word : Lexeme) (second : Second) (more : ℕ) → 128 ≤ x → Begun (x ∷ []) second more → Some (tail second more) ≡ Some word → IsLead x word
led x word second more high begun e = let is : word ≡ tail second more = cc in record { high = high; second = second; more = more; is = is; begun = begun }

three_any : (x : ℕ) → 0xe1 ≤ x → x < 0xf0 → x ≢ 0xed → Begun (x ∷ []) any 1
three_any x l h ne = begun_three x any (omega (arith, l)) h (λ y a b. (omega (arith, a), omega (arith, b), omega (arith, l, a), (elim (cases_lt x 0xed) [ inl low ↦ inl (omega (arith, low, b)) | inr high ↦ inr (omega (arith, high, ne, a)) ])))

leads_from : (x : ℕ) (word : Lexeme) (a b c d e f g h : Bool) → ltb x 0xc2 ≡ a → ltb x 0xe0 ≡ b → eqb x 0xe0 ≡ c → eqb x 0xed ≡ d → ltb x 0xf0 ≡ e → eqb x 0xf0 ≡ f → ltb x 0xf4 ≡ g → eqb x 0xf4 ≡ h
    → cond a None (cond b (Some (tail any 0)) (cond c (Some (tail from_a0 1)) (cond d (Some (tail to_9f 1)) (cond e (Some (tail any 1)) (cond f (Some (tail from_90 2)) (cond g (Some (tail any 2)) (cond h (Some (tail to_8f 2)) None))))))) ≡ Some word → IsLead x word
leads_from x word true b c d e f g h ea eb ec ed ee ef eg eh z = none_some word _ z
leads_from x word false true c d e f g h ea eb ec ed ee ef eg eh z =
    let low : 0xc2 ≤ x = ltb-false x 0xc2 ea in
    let high : x < 0xe0 = ltb-true x 0xe0 eb in
    led x word any 0 (omega (arith, low)) (begun_two x low high) z
leads_from x word false false true d e f g h ea eb ec ed ee ef eg eh z =
    let is : x ≡ 0xe0 = is_it x 0xe0 ec in
    led x word from_a0 1 (omega (arith, is)) (begun_three x from_a0 (omega (arith, is)) (omega (arith, is)) (λ y a b. (omega (arith, a), omega (arith, b), omega (arith, is, a), inl (omega (arith, is, b))))) z
leads_from x word false false false true e f g h ea eb ec ed ee ef eg eh z =
    let is : x ≡ 0xed = is_it x 0xed ed in
    led x word to_9f 1 (omega (arith, is)) (begun_three x to_9f (omega (arith, is)) (omega (arith, is)) (λ y a b. (omega (arith, a), omega (arith, b), omega (arith, is, a), inl (omega (arith, is, b))))) z
leads_from x word false false false false true f g h ea eb ec ed ee ef eg eh z =
    let low : 0xe0 ≤ x = ltb-false x 0xe0 eb in
    let ne0 = eqb-false x 0xe0 ec in
    let ned = eqb-false x 0xed ed in
    let high : x < 0xf0 = ltb-true x 0xf0 ee in
    led x word any 1 (omega (arith, low)) (three_any x (omega (arith, low, ne0)) high ned) z
leads_from x word false false false false false true g h ea eb ec ed ee ef eg eh z =
    let is : x ≡ 0xf0 = is_it x 0xf0 ef in
    led x word from_90 2 (omega (arith, is)) (begun_four x from_90 (omega (arith, is)) (omega (arith, is)) (λ y a b. (omega (arith, a), omega (arith, b), omega (arith, is, a), omega (arith, is, b)))) z
leads_from x word false false false false false false true h ea eb ec ed ee ef eg eh z =
    let low : 0xf0 ≤ x = ltb-false x 0xf0 ee in
    let ne = eqb-false x 0xf0 ef in
    let high : x < 0xf4 = ltb-true x 0xf4 eg in
    led x word any 2 (omega (arith, low)) (begun_four x any low (omega (arith, high)) (λ y a b. (omega (arith, a), omega (arith, b), omega (arith, low, ne, a), omega (arith, high, b)))) z
leads_from x word false false false false false false false true ea eb ec ed ee ef eg eh z =
    let is : x ≡ 0xf4 = is_it x 0xf4 eh in
    led x word to_8f 2 (omega (arith, is)) (begun_four x to_8f (omega (arith, is)) (omega (arith, is)) (λ y a b. (omega (arith, a), omega (arith, b), omega (arith, is, a), omega (arith, is, b)))) z
leads_from x word false false false false false false false false ea eb ec ed ee ef eg eh z = none_some word _ z

pub is_lead : (x : ℕ) (word : Lexeme) → leads x ≡ Some word → IsLead x word
is_lead x word e = leads_from x word (ltb x 0xc2) (ltb x 0xe0) (eqb x 0xe0) (eqb x 0xed) (ltb x 0xf0) (eqb x 0xf0) (ltb x 0xf4) (eqb x 0xf4) refl refl refl refl refl refl refl refl e
