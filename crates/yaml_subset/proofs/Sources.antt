-- Steps over the lines of a file.
use Rattle.std.proofs.Common.{◌≡◌, ℕ, zero, suc, ◌+◌, ◌<◌, ◌≤◌, Bool, true, false, List, [], ◌∷◌, length, drop, get_or, refl, sym, ap, ◌∙◌, arith}
use Rattle.std.specs.Borrow.{Bor}
use Rattle.yaml_lines.specs.Blank.{is_mark, is_passed_over}
use Rattle.yaml_lines.specs.LineParts.{Line}
use Rattle.yaml_lines.specs.LineText.{Cut, cut_line, line_with, lines_below, holder_column}
use Rattle.yaml_lines.specs.Texts.{texts}
use Rattle.yaml_lines.proofs.Blocks.{line_at, line_end, texts_drop}
use Rattle.yaml_subset.specs.Contents.{contents}

pub contents_mark : (at least : ℕ) (starts : Bool) (lines : List (Bor (List ℕ))) (d : Bor (List ℕ)) → at < length lines → is_mark (get_or lines at d).now ≡ true → contents (at + 1 + 1) true 0 0 (texts (drop (at + 1) lines)) ≡ contents (at + 1) starts least 0 (texts (drop at lines))
unfolding contents
contents_mark at least starts lines d h m = sym (ap (contents (at + 1) starts least 0) (line_at at lines d h) ∙ rw m)

pub contents_pass : (at least : ℕ) (starts : Bool) (lines : List (Bor (List ℕ))) (d : Bor (List ℕ)) → at < length lines → is_mark (get_or lines at d).now ≡ false → is_passed_over (get_or lines at d).now ≡ true → contents (at + 1 + 1) starts least 0 (texts (drop (at + 1) lines)) ≡ contents (at + 1) starts least 0 (texts (drop at lines))
unfolding contents
contents_pass at least starts lines d h m p = sym (ap (contents (at + 1) starts least 0) (line_at at lines d h) ∙ rw (m, p))

pub contents_end : (at least : ℕ) (starts : Bool) (lines : List (Bor (List ℕ))) → length lines ≤ at → contents (at + 1) starts least 0 (texts (drop at lines)) ≡ []
unfolding contents
contents_end at least starts lines h = ap (contents (at + 1) starts least 0) (line_end at lines h)

contents_skip : (number least skip : ℕ) (starts : Bool) (raws : List (List ℕ)) → contents number starts least skip raws ≡ contents (number + skip) starts least 0 (drop skip raws)
unfolding contents
contents_skip number least zero starts raws = ap (λ n. contents n starts least 0 raws) none
  where
    none : number ≡ number + 0
    none = omega arith
contents_skip number least (suc skip) starts [] = refl
contents_skip number least (suc skip) starts (raw ∷ raws) = contents_skip (number + 1) least skip starts raws ∙ ap (λ n. contents n starts least 0 (drop skip raws)) next
  where
    next : number + 1 + skip ≡ number + suc skip
    next = omega arith

drop_none : (n : ℕ) → drop {A = List ℕ} n [] ≡ []
drop_none zero = refl
drop_none (suc n) = refl

drop_twice : (j k : ℕ) (lines : List (List ℕ)) → drop j (drop k lines) ≡ drop (k + j) lines
drop_twice j zero lines = ap (λ n. drop n lines) none
  where
    none : j ≡ 0 + j
    none = omega arith
drop_twice j (suc k) [] = drop_none j ∙ sym (drop_none (suc k + j))
drop_twice j (suc k) (x ∷ xs) = drop_twice j k xs ∙ ap (λ n. drop n (x ∷ xs)) next
  where
    next : suc (k + j) ≡ suc k + j
    next = omega arith

pub contents_take : (at least count : ℕ) (starts : Bool) (lines others : List (Bor (List ℕ))) (d : Bor (List ℕ)) (c : Cut) (line : Line) (next_least : ℕ) → at < length lines → others ≡ drop (at + 1) lines → is_mark (get_or lines at d).now ≡ false → is_passed_over (get_or lines at d).now ≡ false → c ≡ cut_line least (get_or lines at d).now (texts others) → line ≡ line_with (at + 1) starts (get_or lines at d).now c → next_least ≡ holder_column least c.parts → count ≡ lines_below (texts others) c.block → contents (at + 1) starts least 0 (texts (drop at lines)) ≡ line ∷ contents (at + 1 + count + 1) false next_least 0 (texts (drop (at + 1 + count) lines))
unfolding contents
contents_take at least count starts lines others d c line next_least h o m p e l n k =
    let raw : List ℕ = (get_or lines at d).now in
    let made = cut_line least raw (texts others) in
    ap (contents (at + 1) starts least 0) (line_at at lines d h ∙ ap (λ x. raw ∷ texts x) (sym o))
    ∙ rw (m, p) (
    ap (λ (x : Cut). line_with (at + 1) starts raw x ∷ contents (at + 1 + 1) false (holder_column least x.parts) (lines_below (texts others) x.block) (texts others)) (sym e)
    ∙ ap (λ x. x ∷ contents (at + 1 + 1) false (holder_column least c.parts) (lines_below (texts others) c.block) (texts others)) (sym l)
    ∙ ap (λ x. line ∷ contents (at + 1 + 1) false x (lines_below (texts others) c.block) (texts others)) (sym n)
    ∙ ap (λ x. line ∷ contents (at + 1 + 1) false next_least x (texts others)) (sym k)
    ∙ ap (λ x. line ∷ x) (contents_skip (at + 1 + 1) next_least count false (texts others) ∙ ap (λ x. contents x false next_least 0 (drop count (texts others))) number
    ∙ ap (contents (at + 1 + count + 1) false next_least 0) (ap (λ x. drop count (texts x)) o ∙ ap (drop count) (texts_drop (at + 1) lines) ∙ drop_twice count (at + 1) (texts lines) ∙ sym (texts_drop (at + 1 + count) lines))))
  where
    number : at + 1 + 1 + count ≡ at + 1 + count + 1
    number = omega arith
