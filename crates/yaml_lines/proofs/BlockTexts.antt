-- The texts of literal blocks are in UTF-8.
use Rattle.std.proofs.Common.{◌≡◌, ◌⊎◌, inl, inr, ℕ, zero, suc, ◌+◌, ◌-◌, Bool, true, false, cond, ◌&&◌, not, List, [], ◌∷◌, ◌++◌, length, take, drop, refl, sym, ap, subst, ◌∙◌, arith, append_assoc, length-append}
use Rattle.std.specs.Prelude.{IsUtf8, nat_le, replicate}
use Rattle.std.proofs.lemmas.Bool.{true≢false, or_cases, and_parts, leb-true}
use Rattle.std.proofs.lemmas.Str.{IsUtf8-nil, IsUtf8-append}
use Rattle.yaml_lines.specs.Blank.{is_space, spaces_of, is_end, is_mark, is_blank_line}
use Rattle.yaml_lines.specs.Block.{block_indent, in_block, block_lines, block_below, blank_lead, is_empty_line, before_empty, without_empty_end, lines_text, text_behind, chomped, block_text}
use Rattle.yaml_lines.proofs.Branches.{if_of}
use Rattle.yaml_lines.proofs.Chars.{utf8_one, utf8_cons, AreTexts}
use Rattle.yaml_lines.proofs.Cuts.{leading, space_low, within_spaces}

-- behind the indent of a line of a block
blank_drop : (bs : List ℕ) → is_blank_line bs ≡ true → (n : ℕ) → IsUtf8 (drop n bs)
unfolding is_blank_line
blank_drop [] e zero = IsUtf8-nil
blank_drop [] e (suc n) = IsUtf8-nil
blank_drop (b ∷ bs) e n = by_first (is_space b) refl (sym (ap (λ m. is_end (drop m (b ∷ bs))) (leading is_space b bs)) ∙ e) (λ k. blank_drop bs k)
  where
    by_rest : IsUtf8 (b ∷ bs) → ((m : ℕ) → IsUtf8 (drop m bs)) → (m : ℕ) → IsUtf8 (drop m (b ∷ bs))
    by_rest u again zero = u
    by_rest u again (suc m) = again m

    by_first : (t : Bool) → is_space b ≡ t → is_end (drop (cond (is_space b) (suc (spaces_of bs)) 0) (b ∷ bs)) ≡ true → (is_end (drop (spaces_of bs) bs) ≡ true → (m : ℕ) → IsUtf8 (drop m bs)) → IsUtf8 (drop n (b ∷ bs))
    by_first true t blank again =
        let rest : is_end (drop (spaces_of bs) bs) ≡ true = sym (ap (λ x. is_end (drop (cond x (suc (spaces_of bs)) 0) (b ∷ bs))) t) ∙ blank in
        by_rest (utf8_cons b bs (space_low b t) (again rest 0)) (again rest) n
    by_first false t blank again =
        let bad : false ≡ true = sym (ap (λ x. is_end (drop (cond x (suc (spaces_of bs)) 0) (b ∷ bs))) t) ∙ blank in absurd (true≢false (sym bad))

indent_drop : (indent : ℕ) (line : List ℕ) → in_block indent line ≡ true → IsUtf8 line → IsUtf8 (drop indent line)
indent_drop indent line e u = by_case (or_cases (is_blank_line line) (nat_le indent (spaces_of line) && not (is_mark line)) e)
  where
    by_case : (is_blank_line line ≡ true) ⊎ ((nat_le indent (spaces_of line) && not (is_mark line)) ≡ true) → IsUtf8 (drop indent line)
    by_case (inl blank) = blank_drop line blank indent
    by_case (inr deep) = within_spaces indent line (leb-true indent (spaces_of line) (and_parts (nat_le indent (spaces_of line)) (not (is_mark line)) deep).0) u

abbrev AreIndented : ℕ → List (List ℕ) → Type 0
AreIndented indent [] = Unit {0}
AreIndented indent (line ∷ others) = IsUtf8 (drop indent line) × AreIndented indent others

block_indented : (indent : ℕ) (all : List (List ℕ)) → AreTexts all → AreIndented indent (block_lines indent all)
unfolding block_lines
block_indented indent [] are = tt
block_indented indent (line ∷ others) are =
    if_of (AreIndented indent) (in_block indent line) (line ∷ block_lines indent others) [] (λ e. (indent_drop indent line e are.0, block_indented indent others are.1)) (λ e. tt)

drop_indented : (indent n : ℕ) (all : List (List ℕ)) → AreIndented indent all → AreIndented indent (drop n all)
drop_indented indent zero all are = are
drop_indented indent (suc n) [] are = tt
drop_indented indent (suc n) (line ∷ others) are = drop_indented indent n others are.1

before_indented : (indent : ℕ) (line : List ℕ) (rest : List (List ℕ)) → IsUtf8 (drop indent line) → AreIndented indent rest → AreIndented indent (before_empty indent line rest)
before_indented indent line [] u are = if_of (AreIndented indent) (is_empty_line indent line) [] (line ∷ []) (λ e. tt) (λ e. (u, tt))
before_indented indent line (next ∷ others) u are = (u, are)

end_indented : (indent : ℕ) (all : List (List ℕ)) → AreIndented indent all → AreIndented indent (without_empty_end indent all)
unfolding without_empty_end
end_indented indent [] are = tt
end_indented indent (line ∷ others) are = before_indented indent line (without_empty_end indent others) are.0 (end_indented indent others are.1)

-- each line ends with a line feed
abbrev EndsLine : List ℕ → Type 0
EndsLine text = (front : List ℕ) × (text ≡ front ++ (10 ∷ [])) × IsUtf8 front

ends_behind : (front text : List ℕ) → IsUtf8 front → EndsLine text → EndsLine (front ++ text)
ends_behind front text u q = (front ++ q.0, ap (λ t. front ++ t) q.1 ∙ sym (append_assoc front q.0 (10 ∷ [])), IsUtf8-append front q.0 u q.2)

lines_end : (indent : ℕ) (line : List ℕ) (others : List (List ℕ)) → AreIndented indent (line ∷ others) → EndsLine (lines_text indent (line ∷ others))
unfolding lines_text
lines_end indent line [] are = (drop indent line, refl, are.0)
lines_end indent line (next ∷ others) are =
    ends_behind (drop indent line) (10 ∷ lines_text indent (next ∷ others)) are.0
    (ends_behind (10 ∷ []) (lines_text indent (next ∷ others)) (utf8_one 10 (omega arith)) (lines_end indent next others are.1))

feeds : (n : ℕ) → IsUtf8 (replicate n 10)
feeds zero = IsUtf8-nil
feeds (suc n) = utf8_cons 10 (replicate n 10) (omega arith) (feeds n)

take_front : (front : List ℕ) (b n : ℕ) → n ≡ length front → take n (front ++ (b ∷ [])) ≡ front
take_front [] b zero e = refl
take_front [] b (suc n) e = absurd (omega (arith, e))
take_front (x ∷ front) b zero e = absurd (omega (arith, e))
take_front (x ∷ front) b (suc n) e = ap (λ l. x ∷ l) (take_front front b n (omega (arith, e)))

chomped_utf8 : (keeps : Bool) (text : List ℕ) → EndsLine text → IsUtf8 (chomped keeps text)
chomped_utf8 true text q = subst IsUtf8 (sym q.1) (IsUtf8-append q.0 (10 ∷ []) q.2 (utf8_one 10 (omega arith)))
chomped_utf8 false text q =
    let l : length (q.0 ++ (10 ∷ [])) ≡ length q.0 + 1 = length-append q.0 (10 ∷ []) in
    subst (λ (t : List ℕ). IsUtf8 (take (length t - 1) t)) (sym q.1) (subst IsUtf8 (sym (take_front q.0 10 (length (q.0 ++ (10 ∷ [])) - 1) (omega (arith, l)))) q.2)

behind_utf8 : (keeps : Bool) (empties indent : ℕ) (all : List (List ℕ)) → AreIndented indent all → IsUtf8 (chomped keeps (text_behind empties indent all))
behind_utf8 true empties indent [] are = IsUtf8-nil
behind_utf8 false empties indent [] are = IsUtf8-nil
behind_utf8 keeps empties indent (line ∷ others) are =
    chomped_utf8 keeps (replicate empties 10 ++ lines_text indent (line ∷ others)) (ends_behind (replicate empties 10) (lines_text indent (line ∷ others)) (feeds empties) (lines_end indent line others are))

pub block_utf8 : (keeps : Bool) (least : ℕ) (all : List (List ℕ)) → AreTexts all → IsUtf8 (block_text keeps least all)
block_utf8 keeps least all are =
    let indent : ℕ = block_indent least all in
    let block : List (List ℕ) = block_below least all in
    behind_utf8 keeps (blank_lead block) indent (without_empty_end indent (drop (blank_lead block) block))
    (end_indented indent (drop (blank_lead block) block) (drop_indented indent (blank_lead block) block (block_indented indent all are)))
