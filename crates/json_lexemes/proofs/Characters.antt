-- The states of a string over the bytes of one character that isn't ASCII.
use Rattle.std.proofs.Common.{◌≡◌, ◌≢◌, ◌⊎◌, inl, inr, ℕ, suc, ◌+◌, ◌/◌, ◌<◌, ◌≤◌, Bool, true, false, eqb, ltb, lt-ltb, le-ltb, le-leb, List, ◌∷◌, ◌++◌, Some, refl, sym, ap, subst, ◌∙◌, arith}
use Rattle.std.proofs.lemmas.Bool.{cases_lt, ne_eqb}
use lib.Utf8.{scalar, scalar_cases, encode, next as next_byte}
use Rattle.json_lexemes.specs.declared.lexeme.Second.{Second}
use Rattle.json_lexemes.specs.declared.lexeme.Second.TheVariants.{Any as any, FromA0 as from_a0, To9F as to_9f, From90 as from_90, To8F as to_8f}
use Rattle.json_lexemes.specs.declared.lexeme.Lexeme.TheVariants.{Plain as plain, Tail as tail}
use Rattle.json_lexemes.specs.Lexeme.{least, greatest, leads, after_tail, next}
use Rattle.json_lexemes.proofs.Runs.{not_lone}
use Rattle.json_lexemes.proofs.Utf8Texts.{two, three, four}
use Rattle.json_lexemes.proofs.Courses.{Course, here, on}

-- ---- first bytes

leads_two : (x : ℕ) → 0xc2 ≤ x → x < 0xe0 → leads x ≡ Some (tail any 0)
leads_two x l h = let a = le-ltb x 0xc2 l in let b = lt-ltb x 0xe0 h in rw (a, b) refl

leads_three : (x : ℕ) → 0xe1 ≤ x → x < 0xf0 → x ≢ 0xed → leads x ≡ Some (tail any 1)
leads_three x l h ne =
    let a : ltb x 0xc2 ≡ false = le-ltb x 0xc2 (omega (arith, l)) in
    let b : ltb x 0xe0 ≡ false = le-ltb x 0xe0 (omega (arith, l)) in
    let c : eqb x 0xe0 ≡ false = ne_eqb x 0xe0 (λ e. omega (arith, e, l)) in
    let d : eqb x 0xed ≡ false = ne_eqb x 0xed ne in
    let e : ltb x 0xf0 ≡ true = lt-ltb x 0xf0 h in
    rw (a, b, c, d, e) refl

leads_four : (x : ℕ) → 0xf1 ≤ x → x < 0xf4 → leads x ≡ Some (tail any 2)
leads_four x l h =
    let a : ltb x 0xc2 ≡ false = le-ltb x 0xc2 (omega (arith, l)) in
    let b : ltb x 0xe0 ≡ false = le-ltb x 0xe0 (omega (arith, l)) in
    let c : eqb x 0xe0 ≡ false = ne_eqb x 0xe0 (λ e. omega (arith, e, l)) in
    let d : eqb x 0xed ≡ false = ne_eqb x 0xed (λ e. omega (arith, e, l)) in
    let e : ltb x 0xf0 ≡ false = le-ltb x 0xf0 (omega (arith, l)) in
    let f : eqb x 0xf0 ≡ false = ne_eqb x 0xf0 (λ e. omega (arith, e, l)) in
    let g : ltb x 0xf4 ≡ true = lt-ltb x 0xf4 h in
    rw (a, b, c, d, e, f, g) refl

-- ---- steps

above_next : (x : ℕ) (high : Bool) → 128 ≤ x → next (plain high) x ≡ leads x
unfolding next
above_next x high l =
    let a : eqb x 34 ≡ false = ne_eqb x 34 (λ e. omega (arith, e, l)) in
    let b : eqb x 92 ≡ false = ne_eqb x 92 (λ e. omega (arith, e, l)) in
    let c : ltb x 0x20 ≡ false = le-ltb x 0x20 (omega (arith, l)) in
    let d : ltb x 0x80 ≡ false = le-ltb x 0x80 l in
    rw (a, b, c, d) refl

tail_next : (second : Second) (count y : ℕ) → least second ≤ y → y ≤ greatest second → next (tail second count) y ≡ Some (after_tail count)
unfolding next
tail_next second count y l h = let a = le-leb (least second) y l in let b = le-leb y (greatest second) h in rw (a, b) refl

led_course : (x : ℕ) (high : Bool) (second : Second) (count : ℕ) (s t : List ℕ) → 128 ≤ x → leads x ≡ Some (tail second count) → Course (tail second count) s t (plain false) → Course (plain high) (x ∷ s) t (plain false)
led_course x high second count s t l e p = on (not_lone (x ∷ s) 0 high (ne_eqb x 92 (λ z. omega (arith, z, l)))) (above_next x high l ∙ e) p

last_course : (second : Second) (y : ℕ) (t : List ℕ) → least second ≤ y → y ≤ greatest second → Course (tail second 0) (y ∷ t) t (plain false)
last_course second y t l h = on refl (tail_next second 0 y l h) here

more_course : (second : Second) (count y : ℕ) (s t : List ℕ) → least second ≤ y → y ≤ greatest second → Course (tail any count) s t (plain false) → Course (tail second (suc count)) (y ∷ s) t (plain false)
more_course second count y s t l h p = on refl (tail_next second (suc count) y l h) p

-- ---- whole characters

two_course : (c : ℕ) (high : Bool) (t : List ℕ) → 128 ≤ c → c < 2048 → Course (plain high) (encode c ++ t) t (plain false)
two_course c high t l h =
    subst (λ e. Course (plain high) (e ++ t) t (plain false)) (sym (two c l h))
    (led_course (192 + c / 64) high any 0 (next_byte c ∷ t) t (omega arith) (leads_two (192 + c / 64) (omega (arith, l)) (omega (arith, h))) (last_course any (next_byte c) t (omega arith) (omega arith)))

three_with : (c : ℕ) (high : Bool) (second : Second) (t : List ℕ) → leads (224 + c / 4096) ≡ Some (tail second 1) → least second ≤ next_byte (c / 64) → next_byte (c / 64) ≤ greatest second → Course (plain high) ((224 + c / 4096) ∷ next_byte (c / 64) ∷ next_byte c ∷ t) t (plain false)
three_with c high second t e l h = led_course (224 + c / 4096) high second 1 (next_byte (c / 64) ∷ next_byte c ∷ t) t (omega arith) e (more_course second 0 (next_byte (c / 64)) (next_byte c ∷ t) t l h (last_course any (next_byte c) t (omega arith) (omega arith)))

three_course : (c : ℕ) (high : Bool) (t : List ℕ) → 2048 ≤ c → c < 65536 → (c < 55296) ⊎ (57344 ≤ c) → Course (plain high) (encode c ++ t) t (plain false)
three_course c high t l h gap = subst (λ e. Course (plain high) (e ++ t) t (plain false)) (sym (three c l h)) (elim (cases_lt c 4096) [
  | inl low ↦ (let x : 224 + c / 4096 ≡ 224 = omega (arith, low) in three_with c high from_a0 t (ap leads x) (omega (arith, l, low)) (omega arith))
  | inr over ↦ elim (cases_lt c 53248) [
    | inl under ↦ three_with c high any t (leads_three (224 + c / 4096) (omega (arith, over)) (omega (arith, under)) (λ e. omega (arith, e, under))) (omega arith) (omega arith)
    | inr past ↦ elim gap [
      | inl before ↦ (let x : 224 + c / 4096 ≡ 237 = omega (arith, past, before) in three_with c high to_9f t (ap leads x) (omega arith) (omega (arith, past, before)))
      | inr after ↦ three_with c high any t (leads_three (224 + c / 4096) (omega (arith, after)) (omega (arith, h)) (λ e. omega (arith, e, after))) (omega arith) (omega arith)
    ]
  ]
])

four_with : (c : ℕ) (high : Bool) (second : Second) (t : List ℕ) → leads (240 + c / 262144) ≡ Some (tail second 2) → least second ≤ next_byte (c / 4096) → next_byte (c / 4096) ≤ greatest second → Course (plain high) ((240 + c / 262144) ∷ next_byte (c / 4096) ∷ next_byte (c / 64) ∷ next_byte c ∷ t) t (plain false)
four_with c high second t e l h =
    led_course (240 + c / 262144) high second 2 (next_byte (c / 4096) ∷ next_byte (c / 64) ∷ next_byte c ∷ t) t (omega arith) e
    (more_course second 1 (next_byte (c / 4096)) (next_byte (c / 64) ∷ next_byte c ∷ t) t l h (more_course any 0 (next_byte (c / 64)) (next_byte c ∷ t) t (omega arith) (omega arith) (last_course any (next_byte c) t (omega arith) (omega arith))))

four_course : (c : ℕ) (high : Bool) (t : List ℕ) → 65536 ≤ c → c < 1114112 → Course (plain high) (encode c ++ t) t (plain false)
four_course c high t l h = subst (λ e. Course (plain high) (e ++ t) t (plain false)) (sym (four c l)) (elim (cases_lt c 262144) [
  | inl low ↦ (let x : 240 + c / 262144 ≡ 240 = omega (arith, low) in four_with c high from_90 t (ap leads x) (omega (arith, l, low)) (omega arith))
  | inr over ↦ elim (cases_lt c 1048576) [
    | inl under ↦ four_with c high any t (leads_four (240 + c / 262144) (omega (arith, over)) (omega (arith, under))) (omega arith) (omega arith)
    | inr past ↦ (let x : 240 + c / 262144 ≡ 244 = omega (arith, past, h) in four_with c high to_8f t (ap leads x) (omega arith) (omega (arith, past, h)))
  ]
])

-- the bytes of a character that isn't ASCII lead through a string
pub character_course : (c : ℕ) (high : Bool) (t : List ℕ) → 128 ≤ c → scalar c ≡ true → Course (plain high) (encode c ++ t) t (plain false)
character_course c high t l ok = elim (cases_lt c 2048) [
  | inl low ↦ two_course c high t l low
  | inr over ↦ elim (scalar_cases c ok) [
    | inl before ↦ three_course c high t over (omega (arith, before)) (inl before)
    | inr after ↦ elim (cases_lt c 65536) [
      | inl small ↦ three_course c high t over small (inr after.0)
      | inr large ↦ four_course c high t large after.1
    ]
  ]
]
