-- Segments of a path, and what a router makes of them.
use Rattle.std.proofs.lemmas.Bool.{eqb-true, eq-eqb}
use Rattle.std.proofs.lemmas.Bool.Decides.{eqb_tells, nat_tests}
use Rattle.std.proofs.Math.Bool.{and-false}
use Rattle.std.proofs.Math.Seq.{drop-append_seam}
use Rattle.std.proofs.lemmas.List.{length-append}
use Rattle.std.specs.Cmp.Lexicographic.{pointwise}
use Rattle.std.proofs.Common.{◌≡◌, ◌≢◌, inl, inr, ◌+◌, ◌-◌, ℕ, zero, suc, Bool, true, false, ltb, ◌==◌, ◌&&◌, List, [], ◌∷◌, ◌++◌, length, drop, arith, refl, sym, ap, subst, ◌∙◌}
use Rattle.std.specs.List.{AllByRecursion}
use Rattle.std.specs.Prelude.{nat_eq}
use Rattle.matchit.specs.Seek.{segment, has_slash, cuts}
use Rattle.api_routes.specs.Path.{slash, StartsSegment}

-- a path is a first segment without a slash, and what comes after it
pub record Splits (path : List ℕ) : Type 0 where
  pub value : List ℕ
  pub rest : List ℕ
  pub path_is : path ≡ value ++ rest
  pub plain : AllByRecursion (λ byte. byte ≢ slash) value
  pub ends : StartsSegment rest

split-at : (b : Bool) (byte : ℕ) (path : List ℕ) → (byte == slash) ≡ b → Splits path → Splits (byte ∷ path)
split-at true byte path e later =
    record { value = []; rest = byte ∷ path; path_is = refl; plain = tt; ends = eqb-true byte slash e }
split-at false byte path e later =
    record {
      value = byte ∷ later.value;
      rest = later.rest;
      path_is = ap (λ xs. byte ∷ xs) later.path_is;
      plain = ((λ same. let yes : (byte == slash) ≡ true = eq-eqb byte slash same in absurd (cc)), later.plain);
      ends = later.ends;
    }

pub split : (path : List ℕ) → Splits path
split [] = record { value = []; rest = []; path_is = refl; plain = tt; ends = tt }
split (byte ∷ path) = split-at (byte == slash) byte path refl (split path)

-- another byte than a slash
pub differs : (byte : ℕ) → byte ≢ slash → (byte == slash) ≡ false
differs byte unlike = elim (eqb_tells byte slash) [ inl h ↦ absurd (unlike h.1) | inr h ↦ h.0 ]

-- the segment of a value that ends the path, and of one that a slash follows
pub segment-last : (value : List ℕ) → AllByRecursion (λ byte. byte ≢ slash) value → (segment value ≡ value) × (has_slash value ≡ false)
segment-last [] plain = (refl, refl)
segment-last (byte ∷ value) plain =
    let later = segment-last value plain.1 in
    rw (differs byte plain.0) (ap (λ xs. byte ∷ xs) later.0, later.1)

pub segment-slash : (value rest : List ℕ) → AllByRecursion (λ byte. byte ≢ slash) value → (segment (value ++ slash ∷ rest) ≡ value ++ slash ∷ []) × (has_slash (value ++ slash ∷ rest) ≡ true)
segment-slash [] rest plain = (refl, refl)
segment-slash (byte ∷ value) rest plain =
    let later = segment-slash value rest plain.1 in
    rw (differs byte plain.0) (ap (λ xs. byte ∷ xs) later.0, later.1)

-- a segment that a slash ends leaves a value before the slash, and the last one has none
pub plain-drop : (n : ℕ) (value : List ℕ) → AllByRecursion (λ byte. byte ≢ slash) value → AllByRecursion (λ byte. byte ≢ slash) (drop n value)
plain-drop zero value plain = plain
plain-drop (suc n) [] plain = tt
plain-drop (suc n) (byte ∷ value) plain = plain-drop n value plain.1

no_slash : (value : List ℕ) → AllByRecursion (λ byte. byte ≢ slash) value → pointwise nat_eq (slash ∷ []) value ≡ false
no_slash [] plain = refl
no_slash (byte ∷ value) plain =
    let other : (slash == byte) ≡ false = elim (eqb_tells slash byte) [ inl h ↦ absurd (plain.0 (sym h.1)) | inr h ↦ h.0 ] in
    rw other refl

pub cuts-last : (value : List ℕ) → AllByRecursion (λ byte. byte ≢ slash) value → cuts value (slash ∷ []) ≡ false
cuts-last value plain =
    ap (λ b. ltb 1 (length value) && b) (no_slash (drop (length value - 1) value) (plain-drop (length value - 1) value plain))
    ∙ and-false (ltb 1 (length value))

pub cuts-slash : (byte : ℕ) (value : List ℕ) → cuts (byte ∷ (value ++ slash ∷ [])) (slash ∷ []) ≡ true
cuts-slash byte value =
    let size : length (byte ∷ (value ++ slash ∷ [])) ≡ length (byte ∷ value) + 1 = length-append (byte ∷ value) (slash ∷ []) in
    let left : length (byte ∷ (value ++ slash ∷ [])) - 1 ≡ length (byte ∷ value) = omega arith in
    let end : drop (length (byte ∷ value)) (byte ∷ (value ++ slash ∷ [])) ≡ slash ∷ [] = drop-append_seam (byte ∷ value) (slash ∷ []) in
    let whole : pointwise nat_eq (slash ∷ []) (drop (length (byte ∷ (value ++ slash ∷ [])) - 1) (byte ∷ (value ++ slash ∷ []))) ≡ true =
    subst (λ (n : ℕ). pointwise nat_eq (slash ∷ []) (drop n (byte ∷ (value ++ slash ∷ []))) ≡ true) (sym left) (rw end refl) in
    let longer : ltb 1 (length (byte ∷ (value ++ slash ∷ []))) ≡ true = grind (arith, nat_tests) in
    rw (longer, whole) refl
