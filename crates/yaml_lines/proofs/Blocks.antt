-- Steps over the lines of a block.
use Rattle.std.proofs.Common.{◌≡◌, ℕ, zero, suc, ◌+◌, ◌-◌, ◌<◌, ◌≤◌, Bool, true, false, List, [], ◌∷◌, ◌++◌, length, take, drop, get_or, refl, sym, ap, subst, ◌∙◌, arith, append_assoc, append-nil}
use Rattle.std.specs.Prelude.{if◌then◌else◌, replicate}
use Rattle.std.proofs.lemmas.List.{length-drop}
use Rattle.std.specs.Borrow.{Bor}
use Rattle.yaml_lines.specs.Blank.{spaces_of, is_blank_line}
use Rattle.yaml_lines.specs.Block.{own_indent, in_block, block_lines, blank_lead, is_empty_line, before_empty, without_empty_end, lines_text, text_behind}
use Rattle.yaml_lines.specs.Texts.{texts}

pub line_at : (k : ℕ) (lines : List (Bor (List ℕ))) (d : Bor (List ℕ)) → k < length lines → texts (drop k lines) ≡ (get_or lines k d).now ∷ texts (drop (k + 1) lines)
line_at zero [] d h = absurd (omega (arith, h))
line_at zero (x ∷ xs) d h = refl
line_at (suc k) [] d h = absurd (omega (arith, h))
line_at (suc k) (x ∷ xs) d h = line_at k xs d (omega (arith, h)) ∙ ap (λ n. (get_or xs k d).now ∷ texts (drop n (x ∷ xs))) next
  where
    next : suc (k + 1) ≡ suc k + 1
    next = omega arith

pub line_end : (k : ℕ) (lines : List (Bor (List ℕ))) → length lines ≤ k → texts (drop k lines) ≡ []
line_end zero [] h = refl
line_end zero (x ∷ xs) h = absurd (omega (arith, h))
line_end (suc k) [] h = refl
line_end (suc k) (x ∷ xs) h = line_end k xs (omega (arith, h))

pub texts_take : (k : ℕ) (lines : List (Bor (List ℕ))) → texts (take k lines) ≡ take k (texts lines)
texts_take zero lines = refl
texts_take (suc k) [] = refl
texts_take (suc k) (x ∷ xs) = ap (λ l. x.now ∷ l) (texts_take k xs)

pub texts_length : (lines : List (Bor (List ℕ))) → length (texts lines) ≡ length lines
texts_length [] = refl
texts_length (x ∷ xs) = ap suc (texts_length xs)

pub block_all : (least : ℕ) (lines : List (List ℕ)) → take (length (block_lines least lines)) lines ≡ block_lines least lines
unfolding block_lines
block_all least [] = refl
block_all least (line ∷ lines) = by_test (block_all least lines) (in_block least line)
  where
    by_test : take (length (block_lines least lines)) lines ≡ block_lines least lines → (b : Bool) → take (length (if b then line ∷ block_lines least lines else [])) (line ∷ lines) ≡ (if b then line ∷ block_lines least lines else [])
    by_test again true = ap (λ l. line ∷ l) again
    by_test again false = refl

pub block_on : (least k : ℕ) (lines : List (Bor (List ℕ))) (d : Bor (List ℕ)) → k < length lines → in_block least (get_or lines k d).now ≡ true → k + length (block_lines least (texts (drop k lines))) ≡ k + 1 + length (block_lines least (texts (drop (k + 1) lines)))
unfolding block_lines
block_on least k lines d h b =
    let step : length (block_lines least (texts (drop k lines))) ≡ suc (length (block_lines least (texts (drop (k + 1) lines)))) = ap (λ l. length (block_lines least l)) (line_at k lines d h) ∙ rw b in
    omega (arith, step)

pub block_stop : (least k : ℕ) (lines : List (Bor (List ℕ))) (d : Bor (List ℕ)) → k < length lines → in_block least (get_or lines k d).now ≡ false → k + length (block_lines least (texts (drop k lines))) ≡ k
unfolding block_lines
block_stop least k lines d h b =
    let step : length (block_lines least (texts (drop k lines))) ≡ 0 = ap (λ l. length (block_lines least l)) (line_at k lines d h) ∙ rw b in
    omega (arith, step)

pub block_end : (least k : ℕ) (lines : List (Bor (List ℕ))) → length lines ≤ k → k + length (block_lines least (texts (drop k lines))) ≡ k
unfolding block_lines
block_end least k lines h =
    let step : length (block_lines least (texts (drop k lines))) ≡ 0 = ap (λ l. length (block_lines least l)) (line_end k lines h) in
    omega (arith, step)

-- the lines up to a place that is the length of the block
pub block_taken : (least k : ℕ) (lines : List (Bor (List ℕ))) → length (block_lines least (texts lines)) ≡ k → texts (take k lines) ≡ block_lines least (texts lines)
block_taken least k lines e = texts_take k lines ∙ ap (λ n. take n (texts lines)) (sym e) ∙ block_all least (texts lines)

take_whole : {A : Type 0} → (k : ℕ) (lines : List A) → length lines ≤ k → take k lines ≡ lines
take_whole zero [] h = refl
take_whole zero (x ∷ xs) h = absurd (omega (arith, h))
take_whole (suc k) [] h = refl
take_whole (suc k) (x ∷ xs) h = ap (λ l. x ∷ l) (take_whole k xs (omega (arith, h)))

pub block_whole : (least k : ℕ) (lines : List (Bor (List ℕ))) → length lines ≤ k → length (block_lines least (texts lines)) ≡ k → texts lines ≡ block_lines least (texts lines)
block_whole least k lines h e = sym (take_whole k (texts lines) (omega (arith, h, texts_length lines))) ∙ ap (λ n. take n (texts lines)) (sym e) ∙ block_all least (texts lines)

pub block_le : (least : ℕ) (lines : List (List ℕ)) → length (block_lines least lines) ≤ length lines
unfolding block_lines
block_le least [] = omega arith
block_le least (line ∷ lines) = by_test (in_block least line) (block_le least lines)
  where
    by_test : (b : Bool) → length (block_lines least lines) ≤ length lines → length (if b then line ∷ block_lines least lines else []) ≤ length (line ∷ lines)
    by_test true h = omega (arith, h)
    by_test false h = omega arith

pub own_on : (k : ℕ) (lines : List (Bor (List ℕ))) (d : Bor (List ℕ)) → k < length lines → is_blank_line (get_or lines k d).now ≡ true → own_indent (texts (drop k lines)) ≡ own_indent (texts (drop (k + 1) lines))
unfolding own_indent
own_on k lines d h b = ap own_indent (line_at k lines d h) ∙ rw b

pub own_here : (k : ℕ) (lines : List (Bor (List ℕ))) (d : Bor (List ℕ)) → k < length lines → is_blank_line (get_or lines k d).now ≡ false → own_indent (texts (drop k lines)) ≡ spaces_of (get_or lines k d).now
unfolding own_indent
own_here k lines d h b = ap own_indent (line_at k lines d h) ∙ rw b

pub own_end : (k : ℕ) (lines : List (Bor (List ℕ))) → length lines ≤ k → own_indent (texts (drop k lines)) ≡ 0
unfolding own_indent
own_end k lines h = ap own_indent (line_end k lines h)

pub text_on : (indent k : ℕ) (lines : List (Bor (List ℕ))) (d : Bor (List ℕ)) (text : List ℕ) → k < length lines → text ++ lines_text indent (texts (drop k lines)) ≡ ((text ++ drop indent (get_or lines k d).now) ++ (10 ∷ [])) ++ lines_text indent (texts (drop (k + 1) lines))
unfolding lines_text
text_on indent k lines d text h =
    let line : List ℕ = drop indent (get_or lines k d).now in
    let rest : List ℕ = lines_text indent (texts (drop (k + 1) lines)) in
    ap (λ l. text ++ lines_text indent l) (line_at k lines d h)
    ∙ sym (append_assoc text line (10 ∷ rest))
    ∙ sym (append_assoc (text ++ line) (10 ∷ []) rest)

pub text_end : (indent k : ℕ) (lines : List (Bor (List ℕ))) (text : List ℕ) → length lines ≤ k → text ++ lines_text indent (texts (drop k lines)) ≡ text
unfolding lines_text
text_end indent k lines text h = ap (λ l. text ++ lines_text indent l) (line_end k lines h) ∙ append-nil text

-- the last line of the first ones
take_last : (k : ℕ) (lines : List (Bor (List ℕ))) (d : Bor (List ℕ)) → k < length lines → texts (take (suc k) lines) ≡ texts (take k lines) ++ ((get_or lines k d).now ∷ [])
take_last zero [] d h = absurd (omega (arith, h))
take_last zero (x ∷ xs) d h = refl
take_last (suc k) [] d h = absurd (omega (arith, h))
take_last (suc k) (x ∷ xs) d h = ap (λ l. x.now ∷ l) (take_last k xs d (omega (arith, h)))

empty_snoc : (indent : ℕ) (lines : List (List ℕ)) (line : List ℕ) → is_empty_line indent line ≡ true → without_empty_end indent (lines ++ (line ∷ [])) ≡ without_empty_end indent lines
unfolding without_empty_end
empty_snoc indent [] line b = rw b
empty_snoc indent (x ∷ xs) line b = ap (before_empty indent x) (empty_snoc indent xs line b)

other_snoc : (indent : ℕ) (lines : List (List ℕ)) (line : List ℕ) → is_empty_line indent line ≡ false → without_empty_end indent (lines ++ (line ∷ [])) ≡ lines ++ (line ∷ [])
unfolding without_empty_end
other_snoc indent [] line b = rw b
other_snoc indent (x ∷ xs) line b = ap (before_empty indent x) (other_snoc indent xs line b) ∙ whole xs
  where
    whole : (xs : List (List ℕ)) → before_empty indent x (xs ++ (line ∷ [])) ≡ x ∷ (xs ++ (line ∷ []))
    whole [] = refl
    whole (y ∷ ys) = refl

pub last_empty : (indent k : ℕ) (lines : List (Bor (List ℕ))) (d : Bor (List ℕ)) → 0 < k → k ≤ length lines → is_empty_line indent (get_or lines (k - 1) d).now ≡ true → without_empty_end indent (texts (take (k - 1) lines)) ≡ without_empty_end indent (texts (take k lines))
last_empty indent zero lines d p h b = absurd (omega (arith, p))
last_empty indent (suc k) lines d p h b = at less
  where
    less : suc k - 1 ≡ k
    less = omega arith

    is_empty : is_empty_line indent (get_or lines k d).now ≡ true
    is_empty = subst (λ (n : ℕ). is_empty_line indent (get_or lines n d).now ≡ true) less b

    at : suc k - 1 ≡ k → without_empty_end indent (texts (take (suc k - 1) lines)) ≡ without_empty_end indent (texts (take (suc k) lines))
    at e = ap (λ n. without_empty_end indent (texts (take n lines))) e ∙ sym (ap (without_empty_end indent) (take_last k lines d (omega (arith, h))) ∙ empty_snoc indent (texts (take k lines)) (get_or lines k d).now is_empty)

pub last_other : (indent k : ℕ) (lines : List (Bor (List ℕ))) (d : Bor (List ℕ)) → 0 < k → k ≤ length lines → is_empty_line indent (get_or lines (k - 1) d).now ≡ false → texts (take k lines) ≡ without_empty_end indent (texts (take k lines))
last_other indent zero lines d p h b = absurd (omega (arith, p))
last_other indent (suc k) lines d p h b =
    let e = take_last k lines d (omega (arith, h)) in
    e ∙ sym (ap (without_empty_end indent) e ∙ other_snoc indent (texts (take k lines)) (get_or lines k d).now (subst (λ (n : ℕ). is_empty_line indent (get_or lines n d).now ≡ false) less b))
  where
    less : suc k - 1 ≡ k
    less = omega arith

pub none_left : (indent k : ℕ) (lines : List (Bor (List ℕ))) → k ≤ 0 → without_empty_end indent (texts (take k lines)) ≡ []
unfolding without_empty_end
none_left indent zero lines h = refl
none_left indent (suc k) lines h = absurd (omega (arith, h))

pub lead_on : (k : ℕ) (lines : List (Bor (List ℕ))) (d : Bor (List ℕ)) → k < length lines → is_blank_line (get_or lines k d).now ≡ true → k + blank_lead (texts (drop k lines)) ≡ k + 1 + blank_lead (texts (drop (k + 1) lines))
unfolding blank_lead
lead_on k lines d h b =
    let step : blank_lead (texts (drop k lines)) ≡ suc (blank_lead (texts (drop (k + 1) lines))) = ap blank_lead (line_at k lines d h) ∙ rw b in
    omega (arith, step)

pub lead_stop : (k : ℕ) (lines : List (Bor (List ℕ))) (d : Bor (List ℕ)) → k < length lines → is_blank_line (get_or lines k d).now ≡ false → k + blank_lead (texts (drop k lines)) ≡ k
unfolding blank_lead
lead_stop k lines d h b =
    let step : blank_lead (texts (drop k lines)) ≡ 0 = ap blank_lead (line_at k lines d h) ∙ rw b in
    omega (arith, step)

pub lead_end : (k : ℕ) (lines : List (Bor (List ℕ))) → length lines ≤ k → k + blank_lead (texts (drop k lines)) ≡ k
unfolding blank_lead
lead_end k lines h =
    let step : blank_lead (texts (drop k lines)) ≡ 0 = ap blank_lead (line_end k lines h) in
    omega (arith, step)

pub texts_drop : (k : ℕ) (lines : List (Bor (List ℕ))) → texts (drop k lines) ≡ drop k (texts lines)
texts_drop zero lines = refl
texts_drop (suc k) [] = refl
texts_drop (suc k) (x ∷ xs) = texts_drop k xs

pub behind_none : (empties indent : ℕ) (lines : List (Bor (List ℕ))) → length lines ≡ 0 → text_behind empties indent (texts lines) ≡ []
behind_none empties indent [] e = refl
behind_none empties indent (x ∷ xs) e = absurd (omega (arith, e))

pub behind_some : (empties indent : ℕ) (lines : List (Bor (List ℕ))) → (length lines ≡ 0 → ⊥) → text_behind empties indent (texts lines) ≡ replicate empties 10 ++ lines_text indent (texts lines)
behind_some empties indent [] n = absurd (n refl)
behind_some empties indent (x ∷ xs) n = refl

pub rest_is_drop : (n : ℕ) (lines : List (Bor (List ℕ))) → take (length lines - n) (drop n lines) ≡ drop n lines
rest_is_drop n lines = take_whole (length lines - n) (drop n lines) (omega (arith, length-drop n lines))
