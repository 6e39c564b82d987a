-- Bytes that stand in order are UTF-8, but for a character at their end that isn't whole.
use Rattle.std.proofs.Common.{◌≡◌, ◌⊎◌, inl, inr, ℕ, zero, suc, ◌+◌, ◌-◌, ◌*◌, ◌<◌, ◌≤◌, cond, ltb, lt-ltb, le-ltb, List, [], ◌∷◌, ◌++◌, length, take, refl, sym, ap, subst, ◌∙◌, arith, length-append}
use Rattle.std.proofs.lemmas.Bool.{cases_lt, cases_eq}
use Rattle.std.proofs.lemmas.Str.{IsUtf8-nil, IsUtf8-append, encode_ascii, IsUtf8-encode}
use Rattle.std.proofs.Math.Seq.{take-append-add}
use Rattle.std.specs.Str.{IsUtf8}
use Rattle.std.specs.Prelude.{⊤}
use lib.Utf8.{low_scalar}
use Rattle.byte_lanes.specs.Utf8.{Follows}
use Rattle.byte_lanes.proofs.Chars.{IsOneChar, front, char_two, char_three, char_four}

-- behind these three bytes each may stand where it does
abbrev pub Run : ℕ → ℕ → ℕ → List ℕ → Type 0
Run w x y [] = ⊤
Run w x y (z ∷ zs) = Follows w x y z × Run x y z zs

-- how many bytes at the end are of a character that isn't whole, of whose bytes these three are the last
abbrev pub begun : ℕ → ℕ → ℕ → ℕ
begun w x y = cond (ltb y 0xc0) (cond (ltb x 0xe0) (cond (ltb w 0xf0) 0 3) 2) 1

abbrev pub left : ℕ → ℕ → ℕ → List ℕ → ℕ
left w x y [] = begun w x y
left w x y (z ∷ zs) = left x y z zs

-- a text without its last `few` bytes
pub record IsTextBut (bytes : List ℕ) (few : ℕ) : Type 0 where
  pub within : few ≤ length bytes
  pub text : IsUtf8 (take (length bytes - few) bytes)

pub begun_one : (w x y : ℕ) → 0xc0 ≤ y → begun w x y ≡ 1
begun_one w x y h = rw (le-ltb y 0xc0 h) refl

pub begun_two : (w x y : ℕ) → y < 0xc0 → 0xe0 ≤ x → begun w x y ≡ 2
begun_two w x y a b = rw (lt-ltb y 0xc0 a, le-ltb x 0xe0 b) refl

pub begun_three : (w x y : ℕ) → y < 0xc0 → x < 0xe0 → 0xf0 ≤ w → begun w x y ≡ 3
begun_three w x y a b d = rw (lt-ltb y 0xc0 a, lt-ltb x 0xe0 b, le-ltb w 0xf0 d) refl

pub begun_none : (w x y : ℕ) → y < 0xc0 → x < 0xe0 → w < 0xf0 → begun w x y ≡ 0
begun_none w x y a b d = rw (lt-ltb y 0xc0 a, lt-ltb x 0xe0 b, lt-ltb w 0xf0 d) refl

-- none of the text
none_yet : (bytes : List ℕ) (few : ℕ) → few ≡ length bytes → IsTextBut bytes few
none_yet bytes few e =
    let zero_len : length bytes - few ≡ 0 = omega arith in
    record { within = omega arith; text = rw zero_len IsUtf8-nil }

-- one more character in front
joined : (char rest : List ℕ) (few : ℕ) → IsOneChar char → IsTextBut rest few → IsTextBut (char ++ rest) few
joined char rest few one t = record { within = more.0; text = more.1 }
  where
    long : length (char ++ rest) ≡ length char + length rest
    long = length-append char rest

    cut : length (char ++ rest) - few ≡ length char + (length rest - few)
    cut = omega (arith, long, t.within)

    more : (few ≤ length (char ++ rest)) × IsUtf8 (take (length (char ++ rest) - few) (char ++ rest))
    more = (omega (arith, long, t.within), subst IsUtf8 (sym (ap (λ n. take n (char ++ rest)) cut ∙ take-append-add char rest (length rest - few))) (front char (take (length rest - few) rest) one t.text))

-- a text with an ASCII byte in front
pub ascii_front : (byte : ℕ) (text : List ℕ) → byte < 128 → IsUtf8 text → IsUtf8 (byte ∷ text)
ascii_front byte text low u = IsUtf8-append (byte ∷ []) text (subst IsUtf8 (encode_ascii byte low) (IsUtf8-encode byte (low_scalar byte (omega (arith, low))))) u

ascii_more : (z : ℕ) (rest : List ℕ) (few : ℕ) → z < 128 → IsTextBut rest few → IsTextBut (z ∷ rest) few
ascii_more z rest few low t =
    let cut : suc (length rest) - few ≡ suc (length rest - few) = omega (arith, t.within) in
    record {
      within = omega (arith, t.within);
      text = rw cut (ascii_front z (take (length rest - few) rest) low t.text);
    }

-- what is shown of lists of up to n bytes
abbrev pub Texts : ℕ → Type 0
Texts n = (w x y : ℕ) (zs : List ℕ) → length zs ≤ n → w < 0xf0 → x < 0xe0 → y < 0xc0 → Run w x y zs → IsTextBut zs (left w x y zs)

two_bytes : (n : ℕ) → Texts n → (x y z p : ℕ) (ps : List ℕ) → length ps ≤ n → y < 0xc0 → 0xc2 ≤ z → z < 0xe0 → Run x y z (p ∷ ps) → IsTextBut (z ∷ p ∷ ps) (left x y z (p ∷ ps))
two_bytes n ih x y z p ps few c low high run =
    let within = run.0.in_two (omega (arith, low)) in
    joined (z ∷ p ∷ []) ps (left y z p ps) (char_two z p low high within.0 within.1) (ih y z p ps few (omega (arith, c)) high within.1 run.1)

not_short : (x y z p q : ℕ) → 0xe0 ≤ z → 0x80 ≤ p → Follows x y z p → 2048 ≤ (z - 224) * 4096 + (p - 128) * 64 + (q - 128)
not_short x y z p q low high f = elim (cases_eq z 0xe0) [
  | inl is ↦ (let more = f.behind_e0 is in omega (arith, is, more))
  | inr other ↦ (let more : 0xe1 ≤ z = omega (arith, low, other) in omega (arith, more))
]

no_surrogate : (x y z p q : ℕ) → z < 0xf0 → 0x80 ≤ p → p < 0xc0 → q < 0xc0 → Follows x y z p → ((z - 224) * 4096 + (p - 128) * 64 + (q - 128) < 55296) ⊎ (57344 ≤ (z - 224) * 4096 + (p - 128) * 64 + (q - 128))
no_surrogate x y z p q top low high last f = elim (cases_eq z 0xed) [
  | inl is ↦ (let less = f.behind_ed is in inl (omega (arith, is, less, last)))
  | inr other ↦ elim (cases_lt z 0xed) [
    | inl below ↦ inl (omega (arith, below, high, last))
    | inr above ↦ (let more : 0xee ≤ z = omega (arith, above, other) in inr (omega (arith, more)))
  ]
]

three_bytes : (n : ℕ) → Texts n → (x y z p q : ℕ) (qs : List ℕ) → length qs ≤ n → 0xe0 ≤ z → z < 0xf0 → (0x80 ≤ p) × (p < 0xc0) → Run x y z (p ∷ q ∷ qs) → IsTextBut (z ∷ p ∷ q ∷ qs) (left x y z (p ∷ q ∷ qs))
three_bytes n ih x y z p q qs few low high first run =
    let second = run.1.0.in_three low in
    joined (z ∷ p ∷ q ∷ []) qs (left z p q qs) (char_three z p q low high first.0 first.1 second.0 second.1 (not_short x y z p q low first.0 run.0) (no_surrogate x y z p q high first.0 first.1 second.1 run.0)) (ih z p q qs few high (omega (arith, first.1)) second.1 run.1.1)

not_short_four : (x y z p q r : ℕ) → 0xf0 ≤ z → 0x80 ≤ p → Follows x y z p → 65536 ≤ (z - 240) * 262144 + (p - 128) * 4096 + (q - 128) * 64 + (r - 128)
not_short_four x y z p q r low high f = elim (cases_eq z 0xf0) [
  | inl is ↦ (let more = f.behind_f0 is in omega (arith, is, more))
  | inr other ↦ (let more : 0xf1 ≤ z = omega (arith, low, other) in omega (arith, more))
]

not_past : (x y z p q r : ℕ) → z < 0xf5 → p < 0xc0 → q < 0xc0 → r < 0xc0 → Follows x y z p → (z - 240) * 262144 + (p - 128) * 4096 + (q - 128) * 64 + (r - 128) < 1114112
not_past x y z p q r top a b c f = elim (cases_eq z 0xf4) [
  | inl is ↦ (let less = f.behind_f4 is in omega (arith, is, less, b, c))
  | inr other ↦ (let less : z < 0xf4 = omega (arith, top, other) in omega (arith, less, a, b, c))
]

four_bytes : (n : ℕ) → Texts n → (x y z p q r : ℕ) (rs : List ℕ) → length rs ≤ n → 0xf0 ≤ z → z < 0xf5 → (0x80 ≤ p) × (p < 0xc0) → (0x80 ≤ q) × (q < 0xc0) → Run x y z (p ∷ q ∷ r ∷ rs) → IsTextBut (z ∷ p ∷ q ∷ r ∷ rs) (left x y z (p ∷ q ∷ r ∷ rs))
four_bytes n ih x y z p q r rs few low high first second run =
    let third = run.1.1.0.in_four low in
    joined (z ∷ p ∷ q ∷ r ∷ []) rs (left p q r rs) (char_four z p q r low high first.0 first.1 second.0 second.1 third.0 third.1 (not_short_four x y z p q r low first.0 run.0) (not_past x y z p q r high first.1 second.1 third.1 run.0)) (ih p q r rs few (omega (arith, first.1)) (omega (arith, second.1)) third.1 run.1.1.1)

behind_two : (n : ℕ) → Texts n → (x y z p q : ℕ) (qs : List ℕ) → length qs ≤ n → 0xe0 ≤ z → z < 0xf5 → (0x80 ≤ p) × (p < 0xc0) → Run x y z (p ∷ q ∷ qs) → IsTextBut (z ∷ p ∷ q ∷ qs) (left x y z (p ∷ q ∷ qs))
behind_two n ih x y z p q [] few low high first run = elim (cases_lt z 0xf0) [
  | inl small ↦ three_bytes n ih x y z p q [] few low small first run
  | inr wide ↦ (let second = run.1.0.in_three low in none_yet (z ∷ p ∷ q ∷ []) (begun z p q) (begun_three z p q second.1 (omega (arith, first.1)) wide))
]
behind_two n ih x y z p q (r ∷ rs) few low high first run = elim (cases_lt z 0xf0) [
  | inl small ↦ three_bytes n ih x y z p q (r ∷ rs) few low small first run
  | inr wide ↦ four_bytes n ih x y z p q r rs (omega (arith, few)) wide high first (run.1.0.in_three low) run
]

behind_one : (n : ℕ) → Texts n → (x y z p : ℕ) (ps : List ℕ) → length ps ≤ n → y < 0xc0 → 0xc2 ≤ z → z < 0xf5 → Run x y z (p ∷ ps) → IsTextBut (z ∷ p ∷ ps) (left x y z (p ∷ ps))
behind_one n ih x y z p [] few c low high run = elim (cases_lt z 0xe0) [
  | inl small ↦ two_bytes n ih x y z p [] few c low small run
  | inr wide ↦ (let first = run.0.in_two (omega (arith, low)) in none_yet (z ∷ p ∷ []) (begun y z p) (begun_two y z p first.1 wide))
]
behind_one n ih x y z p (q ∷ qs) few c low high run = elim (cases_lt z 0xe0) [
  | inl small ↦ two_bytes n ih x y z p (q ∷ qs) few c low small run
  | inr wide ↦ behind_two n ih x y z p q qs (omega (arith, few)) wide high (run.0.in_two (omega (arith, low))) run
]

character : (n : ℕ) → Texts n → (x y z : ℕ) (zs : List ℕ) → length zs ≤ n → y < 0xc0 → 0xc2 ≤ z → z < 0xf5 → Run x y z zs → IsTextBut (z ∷ zs) (left x y z zs)
character n ih x y z [] few c low high run = none_yet (z ∷ []) (begun x y z) (begun_one x y z (omega (arith, low)))
character n ih x y z (p ∷ ps) few c low high run = behind_one n ih x y z p ps (omega (arith, few)) c low high run

pub texts : (n : ℕ) → Texts n
texts n w x y [] few a b c run = none_yet [] (begun w x y) (begun_none w x y c b a)
texts zero w x y (z ∷ zs) few a b c run = absurd (omega (arith, few))
texts (suc n) w x y (z ∷ zs) few a b c run = elim (run.0.begins c b a) [
  | inl low ↦ ascii_more z zs (left x y z zs) low (texts n x y z zs (omega (arith, few)) (omega (arith, b)) (omega (arith, c)) (omega (arith, low)) run.1)
  | inr high ↦ character n (texts n) x y z zs (omega (arith, few)) c high.0 high.1 run.1
]
