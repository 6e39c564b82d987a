-- Texts in UTF-8, character by character, and where they may be cut.
use Rattle.std.proofs.Common.{◌≡◌, ◌⊎◌, inl, inr, ℕ, zero, suc, ◌+◌, ◌/◌, ◌<◌, ◌≤◌, true, false, ◌==◌, List, [], ◌∷◌, ◌++◌, length, take, drop, get_or, refl, sym, subst, arith, le-ltb, lt-ltb}
use Rattle.std.specs.Prelude.{IsUtf8}
use Rattle.std.specs.Str.{IsCharBoundary}
use lib.Utf8.{scalar, scalars, encode, encodes, next as next_byte}
use Rattle.std.proofs.lemmas.Bool.{cases_lt, and_parts, false_from_ne_true}
use Rattle.std.proofs.lemmas.Bool.Decides.{Decides-eqb}
use Rattle.std.proofs.lemmas.Str.{IsUtf8-append, IsUtf8-take, IsUtf8-drop, IsUtf8-from_ascii, IsUtf8-encode, IsCharBoundary-after_ascii, encode_ascii}
use Rattle.std.proofs.lemmas.Str.Ascii.{IsAscii-nil, IsAscii-cons}

-- bytes above ASCII
abbrev pub AreHigh : List ℕ → Type 0
AreHigh [] = Unit {0}
AreHigh (b ∷ bs) = (128 ≤ b) × AreHigh bs

two : (c : ℕ) → 128 ≤ c → c < 2048 → encode c ≡ (192 + c / 64) ∷ next_byte c ∷ []
unfolding encode
two c l h = rw (le-ltb c 128 l, lt-ltb c 2048 h) refl

three : (c : ℕ) → 2048 ≤ c → c < 65536 → encode c ≡ (224 + c / 4096) ∷ next_byte (c / 64) ∷ next_byte c ∷ []
unfolding encode
three c l h = rw (le-ltb c 128 (omega arith), le-ltb c 2048 l, lt-ltb c 65536 h) refl

four : (c : ℕ) → 65536 ≤ c → encode c ≡ (240 + c / 262144) ∷ next_byte (c / 4096) ∷ next_byte (c / 64) ∷ next_byte c ∷ []
unfolding encode
four c l = rw (le-ltb c 128 (omega arith), le-ltb c 2048 (omega arith), le-ltb c 65536 l) refl

char_high : (c : ℕ) → 128 ≤ c → AreHigh (encode c)
char_high c h = elim (cases_lt c 2048) [
  | inl a ↦ subst AreHigh (sym (two c h a)) (omega arith, (omega arith, tt))
  | inr a ↦ longer a (cases_lt c 65536)
]
  where
    longer : 2048 ≤ c → (c < 65536) ⊎ (65536 ≤ c) → AreHigh (encode c)
    longer a (inl b) = subst AreHigh (sym (three c a b)) (omega arith, (omega arith, (omega arith, tt)))
    longer a (inr b) = subst AreHigh (sym (four c b)) (omega arith, (omega arith, (omega arith, (omega arith, tt))))

-- a fact of every text, from its first character on
module _ (P : List ℕ → Type 0) (nothing : P []) (narrow : (b : ℕ) (bs : List ℕ) → b < 128 → IsUtf8 bs → P bs → P (b ∷ bs)) (wide : (w bs : List ℕ) → AreHigh w → IsUtf8 w → IsUtf8 bs → P bs → P (w ++ bs)) where
  by_char : (c : ℕ) (bs : List ℕ) → scalar c ≡ true → IsUtf8 bs → P bs → P (encode c ++ bs)
  by_char c bs own u p = elim (cases_lt c 128) [
    | inl low ↦ subst (λ (x : List ℕ). P (x ++ bs)) (sym (encode_ascii c low)) (narrow c bs low u p)
    | inr high ↦ wide (encode c) bs (char_high c high) (IsUtf8-encode c own) u p
  ]

  by_chars : (cs : List ℕ) → scalars cs ≡ true → P (encodes cs)
  by_chars [] s = nothing
  by_chars (c ∷ cs) s = let both = and_parts (scalar c) (scalars cs) s in by_char c (encodes cs) both.0 (cs, (both.1, refl)) (by_chars cs both.1)

  pub by_text : (bs : List ℕ) → IsUtf8 bs → P bs
  by_text bs u = subst P u.1.1 (by_chars u.0 u.1.0)

pub utf8_one : (b : ℕ) → b < 128 → IsUtf8 (b ∷ [])
utf8_one b h = IsUtf8-from_ascii (b ∷ []) (IsAscii-cons b [] h IsAscii-nil)

pub utf8_cons : (b : ℕ) (bs : List ℕ) → b < 128 → IsUtf8 bs → IsUtf8 (b ∷ bs)
utf8_cons b bs h u = IsUtf8-append (b ∷ []) bs (utf8_one b h) u

pub utf8_tail : (b : ℕ) (bs : List ℕ) → b < 128 → IsUtf8 (b ∷ bs) → IsUtf8 bs
utf8_tail b bs h u = IsUtf8-drop (b ∷ bs) 1 u (IsCharBoundary-after_ascii (b ∷ bs) 0 u (omega arith) h)

-- a byte above ASCII is no other byte
pub apart : (b n : ℕ) → 128 ≤ b → n < 128 → (b == n) ≡ false
apart b n h l = false_from_ne_true (b == n) (λ t. let e : b ≡ n = (Decides-eqb b n).0 t in absurd (omega (arith, e, h, l)))

pub low_by : (b n : ℕ) → (b == n) ≡ true → n < 128 → b < 128
low_by b n t l = let e : b ≡ n = (Decides-eqb b n).0 t in omega (arith, e, l)

-- at a place stands an ASCII byte; or the bytes end there
abbrev pub IsLowAt : List ℕ → ℕ → Type 0
IsLowAt [] n = ⊥
IsLowAt (b ∷ bs) zero = b < 128
IsLowAt (b ∷ bs) (suc n) = IsLowAt bs n

abbrev pub IsEdge : List ℕ → ℕ → Type 0
IsEdge [] n = n ≡ 0
IsEdge (b ∷ bs) zero = b < 128
IsEdge (b ∷ bs) (suc n) = IsEdge bs n

pub low_inside : (bs : List ℕ) (n : ℕ) → IsLowAt bs n → n < length bs
low_inside [] n l = absurd l
low_inside (b ∷ bs) zero l = omega arith
low_inside (b ∷ bs) (suc n) l = let k = low_inside bs n l in omega (arith, k)

low_byte : (bs : List ℕ) (n : ℕ) → IsLowAt bs n → get_or bs n 0 < 128
low_byte [] n l = absurd l
low_byte (b ∷ bs) zero l = l
low_byte (b ∷ bs) (suc n) l = low_byte bs n l

pub low_edge : (bs : List ℕ) (n : ℕ) → IsLowAt bs n → IsEdge bs n
low_edge [] n l = absurd l
low_edge (b ∷ bs) zero l = l
low_edge (b ∷ bs) (suc n) l = low_edge bs n l

edge_cut : (bs : List ℕ) (n : ℕ) → IsEdge bs n → IsCharBoundary bs n
edge_cut [] n e = (omega (arith, e), λ l h. absurd (omega (arith, l)))
edge_cut (b ∷ bs) zero e = (omega arith, λ l h. absurd (omega (arith, e, h)))
edge_cut (b ∷ bs) (suc n) e = let c = edge_cut bs n e in (omega (arith, c.0), λ l h. c.1 (omega (arith, l)) h)

pub take_edge : (bs : List ℕ) (n : ℕ) → IsUtf8 bs → IsEdge bs n → IsUtf8 (take n bs)
take_edge bs n u e = IsUtf8-take bs n u (edge_cut bs n e)

pub take_low : (bs : List ℕ) (n : ℕ) → IsUtf8 bs → IsLowAt bs n → IsUtf8 (take n bs)
take_low bs n u l = take_edge bs n u (low_edge bs n l)

-- behind such a byte
pub drop_low : (bs : List ℕ) (n : ℕ) → IsUtf8 bs → IsLowAt bs n → IsUtf8 (drop (n + 1) bs)
drop_low bs n u l = IsUtf8-drop bs (n + 1) u (IsCharBoundary-after_ascii bs n u (low_inside bs n l) (low_byte bs n l))

-- texts
abbrev pub AreTexts : List (List ℕ) → Type 0
AreTexts [] = Unit {0}
AreTexts (line ∷ others) = IsUtf8 line × AreTexts others
