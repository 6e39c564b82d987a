-- Where lines are cut: the pieces of a text in UTF-8 are such texts.
use Rattle.std.proofs.Common.{◌≡◌, ℕ, zero, suc, ◌+◌, ◌-◌, ◌<◌, ◌≤◌, Bool, true, false, cond, ◌&&◌, ◌||◌, not, ◌==◌, List, [], ◌∷◌, length, take, drop, refl, sym, ap, subst, ◌∙◌, arith, Option, Some, None}
use Rattle.std.specs.Prelude.{IsUtf8, if◌then◌else◌}
use Rattle.std.specs.List.{take_while}
use Rattle.std.proofs.lemmas.Bool.{and_parts}
use Rattle.std.proofs.lemmas.List.Sums.{take_while-cons}
use Rattle.std.proofs.lemmas.Str.{IsUtf8-nil}
use Rattle.yaml_lines.specs.declared.found.Found.{Found}
use Rattle.yaml_lines.specs.declared.found.Found.TheVariants.{Here as here, Past as past, Nowhere as nowhere, Later as later}
use Rattle.yaml_lines.specs.Found.{place_by}
use Rattle.yaml_lines.specs.Blank.{is_white, is_space, spaces_of, whites_of}
use Rattle.yaml_lines.specs.Plain.{before_white, trimmed, comment_found, comment_place, up_to, before_comment, ends_name, colon_found, colon_place}
use Rattle.yaml_lines.specs.Quoted.{quote_found, paired_after, len_at_end, quoted_len}
use Rattle.yaml_lines.proofs.Branches.{if_of}
use Rattle.yaml_lines.proofs.Chars.{low_by, utf8_tail, IsLowAt, IsEdge, take_edge, take_low, drop_low}

-- behind spaces and tabs
pub leading : (p : ℕ → Bool) (b : ℕ) (bs : List ℕ) → length (take_while p (b ∷ bs)) ≡ cond (p b) (suc (length (take_while p bs))) 0
leading p b bs = ap length (take_while-cons p b bs) ∙ by_test (p b)
  where
    by_test : (t : Bool) → length (cond t (b ∷ take_while p bs) []) ≡ cond t (suc (length (take_while p bs))) 0
    by_test true = refl
    by_test false = refl

behind_lead : (p : ℕ → Bool) → ((b : ℕ) → p b ≡ true → b < 128) → (bs : List ℕ) → IsUtf8 bs → IsUtf8 (drop (length (take_while p bs)) bs)
behind_lead p low [] u = subst IsUtf8 (sym (drop_none (length (take_while p [])))) IsUtf8-nil
  where
    drop_none : (n : ℕ) → drop {A = ℕ} n [] ≡ []
    drop_none zero = refl
    drop_none (suc n) = refl
behind_lead p low (b ∷ bs) u = by_first (p b) refl (λ t. behind_lead p low bs (utf8_tail b bs (low b t) u))
  where
    by_first : (t : Bool) → p b ≡ t → (p b ≡ true → IsUtf8 (drop (length (take_while p bs)) bs)) → IsUtf8 (drop (length (take_while p (b ∷ bs))) (b ∷ bs))
    by_first true e again = subst (λ (n : ℕ). IsUtf8 (drop n (b ∷ bs))) (sym (leading p b bs ∙ ap (λ t. cond t (suc (length (take_while p bs))) 0) e)) (again e)
    by_first false e again = subst (λ (n : ℕ). IsUtf8 (drop n (b ∷ bs))) (sym (leading p b bs ∙ ap (λ t. cond t (suc (length (take_while p bs))) 0) e)) u

white_low : (b : ℕ) → is_white b ≡ true → b < 128
white_low b t = by_test (b == 32) refl t
  where
    by_test : (x : Bool) → (b == 32) ≡ x → (x || b == 9) ≡ true → b < 128
    by_test true e t = low_by b 32 e (omega arith)
    by_test false e t = low_by b 9 t (omega arith)

pub space_low : (b : ℕ) → is_space b ≡ true → b < 128
space_low b t = low_by b 32 t (omega arith)

pub behind_whites : (bs : List ℕ) → IsUtf8 bs → IsUtf8 (drop (whites_of bs) bs)
behind_whites bs u = behind_lead is_white white_low bs u

pub behind_spaces : (bs : List ℕ) → IsUtf8 bs → IsUtf8 (drop (spaces_of bs) bs)
behind_spaces bs u = behind_lead is_space space_low bs u

-- as many spaces as a line begins with, or less
pub within_spaces : (n : ℕ) (bs : List ℕ) → n ≤ spaces_of bs → IsUtf8 bs → IsUtf8 (drop n bs)
within_spaces zero bs h u = u
within_spaces (suc n) [] h u = IsUtf8-nil
within_spaces (suc n) (b ∷ bs) h u = by_first (is_space b) refl (λ t k. within_spaces n bs k (utf8_tail b bs (space_low b t) u))
  where
    by_first : (t : Bool) → is_space b ≡ t → (is_space b ≡ true → n ≤ spaces_of bs → IsUtf8 (drop n bs)) → IsUtf8 (drop n bs)
    by_first true e again = let l : spaces_of (b ∷ bs) ≡ suc (spaces_of bs) = leading is_space b bs ∙ ap (λ t. cond t (suc (spaces_of bs)) 0) e in again e (omega (arith, h, l))
    by_first false e again = let l : spaces_of (b ∷ bs) ≡ 0 = leading is_space b bs ∙ ap (λ t. cond t (suc (spaces_of bs)) 0) e in absurd (omega (arith, h, l))

-- without what is white at the end
abbrev IsFront : List ℕ → List ℕ → Type 0
IsFront bs front = (n : ℕ) × (front ≡ take n bs) × IsEdge bs n

no_front : (bs : List ℕ) (n : ℕ) → [] ≡ take n bs → IsEdge bs n → IsEdge bs 0
no_front [] n e edge = refl
no_front (b ∷ bs) zero e edge = edge
no_front (b ∷ bs) (suc n) e edge = let l : 0 ≡ suc (length (take n bs)) = ap length e in absurd (omega (arith, l))

white_front : (b : ℕ) (bs t : List ℕ) → IsFront bs t → IsFront (b ∷ bs) (before_white b t)
white_front b bs [] q = if_of (IsFront (b ∷ bs)) (is_white b) [] (b ∷ []) (λ w. (0, refl, white_low b w)) (λ w. (1, refl, no_front bs q.0 q.1 q.2))
white_front b bs (o ∷ os) q = (suc q.0, ap (λ l. b ∷ l) q.1, q.2)

trimmed_front : (bs : List ℕ) → IsFront bs (trimmed bs)
unfolding trimmed
trimmed_front [] = (0, refl, refl)
trimmed_front (b ∷ bs) = white_front b bs (trimmed bs) (trimmed_front bs)

pub trimmed_utf8 : (bs : List ℕ) → IsUtf8 bs → IsUtf8 (trimmed bs)
trimmed_utf8 bs u = let q = trimmed_front bs in subst IsUtf8 (sym q.1) (take_edge bs q.0 u q.2)

-- a place that is looked for from the left
pub data Placed (f : Found) (o : Option ℕ) (place : ℕ) : Type 0 where
  at_once : f ≡ here → place ≡ 0 → Placed f o place
  at_next : f ≡ past → place ≡ 1 → Placed f o place
  further : (p : ℕ) → o ≡ Some p → place ≡ suc p → Placed f o place

same_place : (a b : ℕ) → Some a ≡ Some b → b ≡ a
same_place a b e = cc

place_found : (f : Found) (o : Option ℕ) (place : ℕ) → place_by f o ≡ Some place → Placed f o place
place_found here o place e = at_once refl (same_place 0 place e)
place_found past o place e = at_next refl (same_place 1 place e)
place_found nowhere o place e = cc
place_found later None place e = cc
place_found later (Some p) place e = further p refl (same_place (suc p) place e)

-- a colon that ends a name
colon_low : (after : Bool) (b : ℕ) (bs : List ℕ) (f : Found) → f ≡ colon_found after b bs → (f ≡ here → b < 128) × (f ≡ past → ⊥)
colon_low after b bs f e = by_tests (b == 58 && ends_name bs) (after && b == 35) refl e
  where
    by_tests : (x y : Bool) → (b == 58 && ends_name bs) ≡ x → f ≡ (if x then here else if y then nowhere else later) → (f ≡ here → b < 128) × (f ≡ past → ⊥)
    by_tests true y x e = (λ h. low_by b 58 (and_parts (b == 58) (ends_name bs) x).0 (omega arith), λ h. cc)
    by_tests false true x e = (λ h. cc, λ h. cc)
    by_tests false false x e = (λ h. cc, λ h. cc)

pub colon_at : (after : Bool) (bs : List ℕ) (place : ℕ) → colon_place after bs ≡ Some place → IsLowAt bs place
unfolding colon_place
colon_at after [] place e = cc
colon_at after (b ∷ bs) place e = by_place (place_found (colon_found after b bs) (colon_place (b == 32) bs) place e) (λ p h. colon_at (b == 32) bs p h)
  where
    by_place : Placed (colon_found after b bs) (colon_place (b == 32) bs) place → ((p : ℕ) → colon_place (b == 32) bs ≡ Some p → IsLowAt bs p) → IsLowAt (b ∷ bs) place
    by_place (at_once f z) again = subst (λ (n : ℕ). IsLowAt (b ∷ bs) n) (sym z) ((colon_low after b bs (colon_found after b bs) refl).0 f)
    by_place (at_next f z) again = absurd ((colon_low after b bs (colon_found after b bs) refl).1 f)
    by_place (further p h z) again = subst (λ (n : ℕ). IsLowAt (b ∷ bs) n) (sym z) (again p h)

-- a comment
comment_low : (after : Bool) (b : ℕ) (f : Found) → f ≡ comment_found after b → (f ≡ here → b < 128) × (f ≡ past → ⊥)
comment_low after b f e = by_test (after && b == 35) refl e
  where
    by_test : (x : Bool) → (after && b == 35) ≡ x → f ≡ (if x then here else later) → (f ≡ here → b < 128) × (f ≡ past → ⊥)
    by_test true x e = (λ h. low_by b 35 (and_parts after (b == 35) x).1 (omega arith), λ h. cc)
    by_test false x e = (λ h. cc, λ h. cc)

comment_at : (after : Bool) (bs : List ℕ) (place : ℕ) → comment_place after bs ≡ Some place → IsLowAt bs place
unfolding comment_place
comment_at after [] place e = cc
comment_at after (b ∷ bs) place e = by_place (place_found (comment_found after b) (comment_place (b == 32) bs) place e) (λ p h. comment_at (b == 32) bs p h)
  where
    by_place : Placed (comment_found after b) (comment_place (b == 32) bs) place → ((p : ℕ) → comment_place (b == 32) bs ≡ Some p → IsLowAt bs p) → IsLowAt (b ∷ bs) place
    by_place (at_once f z) again = subst (λ (n : ℕ). IsLowAt (b ∷ bs) n) (sym z) ((comment_low after b (comment_found after b) refl).0 f)
    by_place (at_next f z) again = absurd ((comment_low after b (comment_found after b) refl).1 f)
    by_place (further p h z) again = subst (λ (n : ℕ). IsLowAt (b ∷ bs) n) (sym z) (again p h)

pub before_comment_utf8 : (bs : List ℕ) → IsUtf8 bs → IsUtf8 (before_comment bs)
before_comment_utf8 bs u = by_place (comment_place false bs) refl
  where
    by_place : (o : Option ℕ) → comment_place false bs ≡ o → IsUtf8 (up_to bs o)
    by_place None e = u
    by_place (Some place) e = take_low bs place u (comment_at false bs place e)

-- a closing quote: it stands before the place that is found
abbrev IsClosed : Bool → Bool → List ℕ → ℕ → Type 0
IsClosed double paired bs zero = (double ≡ false) × (paired ≡ true)
IsClosed double paired bs (suc n) = IsLowAt bs n

quote_low : (double paired : Bool) (b : ℕ) (f : Found) → f ≡ quote_found double paired b → (f ≡ here → (double ≡ false) × (paired ≡ true)) × (f ≡ past → b < 128)
quote_low true paired b f e = by_test (not paired && b == 34) refl (e ∙ both paired (b == 39))
  where
    both : (x y : Bool) → (if x && false && not y then here else if true && not x && b == 34 then past else later) ≡ (if not x && b == 34 then past else later)
    both true y = refl
    both false y = refl

    by_test : (x : Bool) → (not paired && b == 34) ≡ x → f ≡ (if x then past else later) → (f ≡ here → (true ≡ false) × (paired ≡ true)) × (f ≡ past → b < 128)
    by_test true x e = (λ h. cc, λ h. low_by b 34 (and_parts (not paired) (b == 34) x).1 (omega arith))
    by_test false x e = (λ h. cc, λ h. cc)
quote_low false paired b f e = by_paired paired (b == 39) refl e
  where
    by_paired : (x y : Bool) → paired ≡ x → f ≡ (if x && true && not y then here else if false && not x && b == 34 then past else later) → (f ≡ here → (false ≡ false) × (paired ≡ true)) × (f ≡ past → b < 128)
    by_paired true true p e = (λ h. (refl, p), λ h. cc)
    by_paired true false p e = (λ h. (refl, p), λ h. cc)
    by_paired false y p e = (λ h. cc, λ h. cc)

-- a single quote that takes the next byte with it
paired_low : (paired : Bool) (b : ℕ) → paired_after false paired b ≡ true → b < 128
paired_low paired b t = low_by b 39 (and_parts (not paired) (b == 39) t).1 (omega arith)

closed_later : (double paired : Bool) (b : ℕ) (bs : List ℕ) (n : ℕ) → IsClosed double (paired_after double paired b) bs n → IsLowAt (b ∷ bs) n
closed_later double paired b bs zero is = paired_low paired b (subst (λ (d : Bool). paired_after d paired b ≡ true) is.0 is.1)
closed_later double paired b bs (suc n) is = is

closed_at : (double paired : Bool) (bs : List ℕ) (count : ℕ) → quoted_len double paired bs ≡ Some count → IsClosed double paired bs count
unfolding quoted_len
closed_at double paired [] count e = at_end double paired e
  where
    at_end : (d p : Bool) → len_at_end d p ≡ Some count → IsClosed d p [] count
    at_end false true e = subst (λ (n : ℕ). IsClosed false true [] n) (sym (same_place 0 count e)) (refl, refl)
    at_end false false e = cc
    at_end true true e = cc
    at_end true false e = cc
closed_at double paired (b ∷ bs) count e = by_place (place_found (quote_found double paired b) (quoted_len double (paired_after double paired b) bs) count e) (λ p h. closed_at double (paired_after double paired b) bs p h)
  where
    by_place : Placed (quote_found double paired b) (quoted_len double (paired_after double paired b) bs) count → ((p : ℕ) → quoted_len double (paired_after double paired b) bs ≡ Some p → IsClosed double (paired_after double paired b) bs p) → IsClosed double paired (b ∷ bs) count
    by_place (at_once f z) again = subst (λ (n : ℕ). IsClosed double paired (b ∷ bs) n) (sym z) ((quote_low double paired b (quote_found double paired b) refl).0 f)
    by_place (at_next f z) again = subst (λ (n : ℕ). IsClosed double paired (b ∷ bs) n) (sym z) ((quote_low double paired b (quote_found double paired b) refl).1 f)
    by_place (further p h z) again = subst (λ (n : ℕ). IsClosed double paired (b ∷ bs) n) (sym z) (closed_later double paired b bs p (again p h))

pub within_quotes : (double : Bool) (bs : List ℕ) (count : ℕ) → quoted_len double false bs ≡ Some count → IsUtf8 bs → IsUtf8 (take (count - 1) bs) × IsUtf8 (drop count bs)
within_quotes double bs count e u = by_count count (closed_at double false bs count e)
  where
    by_count : (n : ℕ) → IsClosed double false bs n → IsUtf8 (take (n - 1) bs) × IsUtf8 (drop n bs)
    by_count zero is = let bad : false ≡ true = is.1 in cc
    by_count (suc n) is = (
      let k : suc n - 1 ≡ n = omega arith in subst (λ (m : ℕ). IsUtf8 (take m bs)) (sym k) (take_low bs n u is),
      let k : n + 1 ≡ suc n = omega arith in subst (λ (m : ℕ). IsUtf8 (drop m bs)) k (drop_low bs n u is),
    )
