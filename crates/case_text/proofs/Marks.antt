-- Where the first marked line begins, and what its piece is.
use Rattle.std.proofs.Common.{◌≡◌, ◌∙◌, ℕ, suc, ◌+◌, ◌<◌, Bool, true, false, true≢false, ◌&&◌, ◌==◌, nat_eq, if◌then◌else◌, List, [], ◌∷◌, ◌++◌, length, map, take, drop, get_or, add-one, refl, sym, ap, subst, append_assoc, arith}
use Rattle.std.specs.List.{starts_with}
use Rattle.std.proofs.lemmas.Bool.Decides.{Decides-eqb}
use Rattle.std.proofs.lemmas.List.{take-append-drop}
use Rattle.std.proofs.lemmas.Slice.Eq.{starts_is}
use Rattle.std.proofs.Math.Seq.{drop-cons}
use Rattle.std.proofs.lemmas.List.{map-append}
use Rattle.case_text.specs.declared.piece.Piece.{Piece}
use Rattle.case_text.specs.Piece.{len_before, Part, piece_shown, line_of, EndsLine, IsFirst, Cuts, cut}

from : List ℕ → List ℕ → ℕ → Bool → ℕ
from mark text byte marked = if marked then 0 else suc (len_before mark (byte == 10) text)

-- no marked line begins at this byte, and one more byte stands before the first
pub further : (mark text : List ℕ) (starts : Bool) (place byte : ℕ) (rest later : List ℕ) → rest ≡ byte ∷ later → (starts && starts_with nat_eq rest mark) ≡ false → len_before mark true text ≡ place + len_before mark starts rest → len_before mark true text ≡ place + 1 + len_before mark (byte == 10) later
unfolding len_before from
further mark text starts place byte rest later starts_rest unmet is =
    let one : len_before mark starts rest ≡ suc (len_before mark (byte == 10) later) =
    ap (len_before mark starts) starts_rest ∙ ap (from mark later byte) (ap (λ (r : List ℕ). starts && starts_with nat_eq r mark) (sym starts_rest) ∙ unmet) in
    omega (arith, is, one)

-- one begins at this byte
pub here : (mark text : List ℕ) (starts : Bool) (place byte : ℕ) (rest later : List ℕ) → rest ≡ byte ∷ later → (starts && starts_with nat_eq rest mark) ≡ true → len_before mark true text ≡ place + len_before mark starts rest → place ≡ len_before mark true text
unfolding len_before from
here mark text starts place byte rest later starts_rest met is =
    let none : len_before mark starts rest ≡ 0 =
    ap (len_before mark starts) starts_rest ∙ ap (from mark later byte) (ap (λ (r : List ℕ). starts && starts_with nat_eq r mark) (sym starts_rest) ∙ met) in
    omega (arith, is, none)

-- none begins at all
pub nowhere : (mark text : List ℕ) (starts : Bool) (place : ℕ) (rest : List ℕ) → rest ≡ [] → place ≡ length text → len_before mark true text ≡ place + len_before mark starts rest → length text ≡ len_before mark true text
unfolding len_before
nowhere mark text starts place rest ends at is =
    let none : len_before mark starts rest ≡ 0 = ap (len_before mark starts) ends in
    omega (arith, is, none, at)

both : (a b : Bool) → (a && b) ≡ true → b ≡ true
both true b e = e
both false true e = refl
both false false e = e

unmarked_by : (mark text : List ℕ) (byte : ℕ) (marked : Bool) → (marked ≡ true → starts_with nat_eq (byte ∷ text) mark ≡ true) → (starts_with nat_eq (drop (len_before mark (byte == 10) text) text) mark ≡ false → len_before mark (byte == 10) text ≡ length text) → starts_with nat_eq (drop (from mark text byte marked) (byte ∷ text)) mark ≡ false → from mark text byte marked ≡ suc (length text)
unfolding len_before from
unmarked_by mark text byte true met later unmet = absurd (true≢false (sym (met refl) ∙ unmet))
unmarked_by mark text byte false met later unmet = ap suc (later unmet)

-- where no mark stands at the first marked line, there is none
pub unmarked : (mark text : List ℕ) (starts : Bool) → starts_with nat_eq (drop (len_before mark starts text) text) mark ≡ false → len_before mark starts text ≡ length text
unfolding len_before from
unmarked mark [] starts unmet = refl
unmarked mark (byte ∷ text) starts unmet =
    unmarked_by mark text byte (starts && starts_with nat_eq (byte ∷ text) mark) (both starts (starts_with nat_eq (byte ∷ text) mark)) (unmarked mark text (byte == 10)) unmet

-- a text that is cut at a place
pub cut_at : (text front back : List ℕ) (place : ℕ) → front ≡ take place text → back ≡ drop place text → text ≡ front ++ back
cut_at text front back place is_front is_back = sym (ap (λ (f : List ℕ). f ++ back) is_front ∙ ap (λ (b : List ℕ). take place text ++ b) is_back ∙ take-append-drop place text)

-- the piece behind a mark
pub first_piece : (mark text front marked line head below body rest : List ℕ) → text ≡ front ++ marked → len_before mark true text ≡ length front → starts_with nat_eq marked mark ≡ true → line ≡ drop (length mark) marked → head ≡ line_of line → EndsLine line head below → below ≡ body ++ rest → len_before mark true below ≡ length body → IsFirst mark text (record { head = head; text = body }) rest
first_piece mark text front marked line head below body rest whole first met behind is_head lines parted next = record {
  front = front;
  line = line;
  below = below;
  marked = whole ∙ ap (λ (m : List ℕ). front ++ m) ((starts_is Decides-eqb marked mark (starts_with nat_eq marked mark) refl).0 met ∙ ap (λ (l : List ℕ). mark ++ l) (sym behind)) ∙ sym (append_assoc front mark line);
  first = first;
  head = is_head;
  lines = lines;
  cut = parted;
  next = next;
}

-- the byte at a place, and what is behind it
pub next_at : (text : List ℕ) (place : ℕ) → place < length text → drop place text ≡ get_or text place 0 ∷ drop (place + 1) text
next_at text place low = subst (λ (j : ℕ). drop place text ≡ get_or text place 0 ∷ drop j text) (sym (add-one place)) (drop-cons text place 0 low)

-- one more piece behind those so far
pub one_piece_more : (mark text rest behind : List ℕ) (items more : List Piece) (piece : Piece) → more ≡ items ++ piece ∷ [] → ((later : List Part) → Cuts mark rest later → Cuts mark text (map piece_shown items ++ later)) → IsFirst mark rest (piece_shown piece) behind → (later : List Part) → Cuts mark behind later → Cuts mark text (map piece_shown more ++ later)
one_piece_more mark text rest behind items more piece pushed so_far first later cuts =
    subst (λ (all : List Part). Cuts mark text (all ++ later)) (sym (ap (map piece_shown) pushed ∙ map-append piece_shown items (piece ∷ [])))
    (subst (λ (all : List Part). Cuts mark text all) (sym (append_assoc (map piece_shown items) (piece_shown piece ∷ []) later))
    (so_far (piece_shown piece ∷ later) (cut rest (piece_shown piece) behind later first cuts)))
