-- Steps over the bytes within quotes.
use Rattle.std.proofs.Common.{◌≡◌, ℕ, zero, suc, ◌+◌, ◌-◌, ◌*◌, ◌<◌, ◌≤◌, Bool, false, List, [], ◌∷◌, ◌++◌, length, drop, get_or, refl, sym, ap, subst, ◌∙◌, arith, append_assoc, append-nil, Option, Some, None, option_map}
use Rattle.std.specs.Prelude.{IfSome}
use Rattle.yaml_lines.specs.declared.quoted.Stepped.{Stepped}
use Rattle.yaml_lines.specs.Piece.{step_shown}
use Rattle.yaml_lines.specs.declared.quoted.Escape.{Escape}
use Rattle.yaml_lines.specs.declared.quoted.Escape.TheVariants.{Between as between, Backslash as backslash, Digits as digits}
use Rattle.yaml_lines.specs.Quoted.{single_piece, single_text, paired_after, Step, step, stepped, ended, prefixed, double_text, FitsEscape}

pub fits_bound : (others unit : ℕ) → FitsEscape (digits others unit) → unit < 4096
fits_bound zero unit f = f
fits_bound (suc zero) unit f = omega (arith, f)
fits_bound (suc (suc zero)) unit f = omega (arith, f)
fits_bound (suc (suc (suc zero))) unit f = omega (arith, f)
fits_bound (suc (suc (suc (suc others)))) unit f = absurd f

pub fits_next : (others unit digit : ℕ) → FitsEscape (digits (suc others) unit) → digit < 16 → FitsEscape (digits others (16 * unit + digit))
fits_next zero unit digit f d = omega (arith, f, d)
fits_next (suc zero) unit digit f d = omega (arith, f, d)
fits_next (suc (suc zero)) unit digit f d = omega (arith, f, d)
fits_next (suc (suc (suc others))) unit digit f d = absurd f

pub fits_less : (others unit digit : ℕ) → (others ≡ 0 → ⊥) → FitsEscape (digits others unit) → digit < 16 → FitsEscape (digits (others - 1) (16 * unit + digit))
fits_less zero unit digit n f d = absurd (n refl)
fits_less (suc others) unit digit n f d = subst (λ (k : ℕ). FitsEscape (digits k (16 * unit + digit))) less (fits_next others unit digit f d)
  where
    less : others ≡ suc others - 1
    less = omega arith

pub at_byte : (k : ℕ) (xs : List ℕ) → k < length xs → drop k xs ≡ get_or xs k 0 ∷ drop (k + 1) xs
at_byte zero [] h = absurd (omega (arith, h))
at_byte zero (x ∷ xs) h = refl
at_byte (suc k) [] h = absurd (omega (arith, h))
at_byte (suc k) (x ∷ xs) h = at_byte k xs (omega (arith, h)) ∙ ap (λ n. get_or xs k 0 ∷ drop n (x ∷ xs)) next
  where
    next : suc (k + 1) ≡ suc k + 1
    next = omega arith

pub at_end : (k : ℕ) (xs : List ℕ) → length xs ≤ k → drop k xs ≡ []
at_end zero [] h = refl
at_end zero (x ∷ xs) h = absurd (omega (arith, h))
at_end (suc k) [] h = refl
at_end (suc k) (x ∷ xs) h = at_end k xs (omega (arith, h))

pub single_on : (k : ℕ) (bytes text : List ℕ) (paired next : Bool) → k < length bytes → next ≡ paired_after false paired (get_or bytes k 0) → text ++ single_text paired (drop k bytes) ≡ (text ++ single_piece paired (get_or bytes k 0)) ++ single_text next (drop (k + 1) bytes)
unfolding single_text
single_on k bytes text paired next h n =
    ap (λ l. text ++ single_text paired l) (at_byte k bytes h) ∙ sym (append_assoc text (single_piece paired (get_or bytes k 0)) (single_text (paired_after false paired (get_or bytes k 0)) (drop (k + 1) bytes)))
    ∙ ap (λ p. (text ++ single_piece paired (get_or bytes k 0)) ++ single_text p (drop (k + 1) bytes)) (sym n)

pub single_end : (k : ℕ) (bytes text : List ℕ) (paired : Bool) → length bytes ≤ k → text ++ single_text paired (drop k bytes) ≡ text
unfolding single_text
single_end k bytes text paired h = ap (λ l. text ++ single_text paired l) (at_end k bytes h) ∙ append-nil text

prefixed_twice : (a b : List ℕ) (o : Option (List ℕ)) → prefixed a (prefixed b o) ≡ prefixed (a ++ b) o
prefixed_twice a b None = refl
prefixed_twice a b (Some others) = ap (λ l. Some l) (sym (append_assoc a b others))

pub double_none : (k : ℕ) (bytes text : List ℕ) (escape : Escape) → k < length bytes → None ≡ step escape (get_or bytes k 0) → prefixed text (double_text escape (drop k bytes)) ≡ None
unfolding double_text
double_none k bytes text escape h e =
    ap (λ l. prefixed text (double_text escape l)) (at_byte k bytes h) ∙ ap (λ o. prefixed text (stepped o (λ after. double_text after (drop (k + 1) bytes)))) (sym e)

pub double_some : (k : ℕ) (bytes text : List ℕ) (escape : Escape) (s : Step) → k < length bytes → Some s ≡ step escape (get_or bytes k 0) → prefixed text (double_text escape (drop k bytes)) ≡ prefixed (text ++ s.bytes) (double_text s.after (drop (k + 1) bytes))
unfolding double_text
double_some k bytes text escape s h e =
    ap (λ l. prefixed text (double_text escape l)) (at_byte k bytes h) ∙ ap (λ o. prefixed text (stepped o (λ after. double_text after (drop (k + 1) bytes)))) (sym e)
    ∙ prefixed_twice text s.bytes (double_text s.after (drop (k + 1) bytes))

pub double_end : (k : ℕ) (bytes text : List ℕ) (escape : Escape) → length bytes ≤ k → prefixed text (double_text escape (drop k bytes)) ≡ prefixed text (ended escape)
unfolding double_text
double_end k bytes text escape h = ap (λ l. prefixed text (double_text escape l)) (at_end k bytes h)

pub not_between : (escape : Escape) → (escape ≡ between → ⊥) → ended escape ≡ None
not_between between n = absurd (n refl)
not_between backslash n = refl
not_between (digits others unit) n = refl

pub between_end : (k : ℕ) (bytes text : List ℕ) (escape : Escape) → length bytes ≤ k → escape ≡ between → Some text ≡ prefixed text (double_text escape (drop k bytes))
between_end k bytes text escape h e = sym (double_end k bytes text escape h ∙ ap (λ x. prefixed text (ended x)) e ∙ ap (λ l. Some l) (append-nil text))

pub fits_stepped : (r : Option Stepped) (s : Step) → option_map step_shown r ≡ Some s → FitsEscape s.after → IfSome r (λ x. FitsEscape x.after)
fits_stepped None s e f = tt
fits_stepped (Some x) s e f = let same : step_shown x ≡ s = cc in subst FitsEscape (ap (λ (t : Step). t.after) (sym same)) f
