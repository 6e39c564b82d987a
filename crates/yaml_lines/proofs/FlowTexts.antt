-- The pieces of a sequence in brackets, and the lines of a file, are in UTF-8.
use Rattle.std.proofs.Common.{◌≡◌, ℕ, ◌-◌, ◌<◌, ◌≤◌, Bool, true, false, cond, ◌==◌, List, [], ◌∷◌, ◌++◌, length, take, drop, refl, sym, ap, subst, ◌∙◌, arith, Some, None}
use Rattle.std.specs.Prelude.{IsUtf8, if◌then◌else◌, slice_index}
use Rattle.std.specs.List.{slice_split, onto_first}
use Rattle.std.specs.Str.Lines.{strip_carriage_return, lines_of_parts, lines}
use Rattle.std.proofs.lemmas.Bool.Decides.{Decides-eqb}
use Rattle.std.proofs.lemmas.Str.{IsUtf8-nil, IsUtf8-append, IsUtf8-take, IsCharBoundary-before_ascii}
use Rattle.yaml_lines.specs.declared.found.Found.{Found}
use Rattle.yaml_lines.specs.declared.found.Found.TheVariants.{Here as here, Past as past, Nowhere as nowhere, Later as later}
use Rattle.yaml_lines.specs.declared.flow.Within.{Within}
use Rattle.yaml_lines.specs.declared.flow.Within.TheVariants.{Before as before, Bare as bare, Double as double, Single as single, Closing as closing}
use Rattle.yaml_lines.specs.Flow.{bare_found, item_found, within_after, Pieces, with_byte, after_comma, last_piece, stopped, piece_by, pieces}
use Rattle.yaml_lines.proofs.Branches.{if_of}
use Rattle.yaml_lines.proofs.Chars.{AreHigh, by_text, utf8_cons, apart, AreTexts}

-- the pieces in brackets
abbrev pub ArePieces : Pieces → Type 0
ArePieces p = IsUtf8 p.first × AreTexts p.others

stopped_pieces : (b : ℕ) (bs : List ℕ) (next : Pieces) → ArePieces next → ArePieces (stopped b bs next)
stopped_pieces b bs next are = if_of ArePieces (b == 44) (after_comma next) _ (λ e. (IsUtf8-nil, are)) (λ e. if_of ArePieces (b == 93) (last_piece (Some bs)) (last_piece None) (λ d. (IsUtf8-nil, tt)) (λ d. (IsUtf8-nil, tt)))

low_pieces : (f : Found) (b : ℕ) (bs : List ℕ) (same next : Pieces) → b < 128 → ArePieces same → ArePieces next → ArePieces (piece_by f b bs same next)
low_pieces later b bs same next low are ones = (utf8_cons b same.first low are.0, are.1)
low_pieces here b bs same next low are ones = stopped_pieces b bs next ones
low_pieces past b bs same next low are ones = stopped_pieces b bs next ones
low_pieces nowhere b bs same next low are ones = stopped_pieces b bs next ones

high_bare : (after : Bool) (b : ℕ) → 128 ≤ b → bare_found after b ≡ later
high_bare true b h = rw (apart b 44 h (omega arith), apart b 93 h (omega arith), apart b 35 h (omega arith)) refl
high_bare false b h = rw (apart b 44 h (omega arith), apart b 93 h (omega arith)) refl

high_found : (within : Within) (b : ℕ) → 128 ≤ b → item_found within b ≡ later
high_found (before after) b h = high_bare after b h
high_found (bare after) b h = high_bare after b h
high_found (double escaped) b h = refl
high_found single b h = refl
high_found closing b h = ap (λ t. if t then later else bare_found false b) (apart b 39 h (omega arith)) ∙ high_bare false b h

record WideOn (within : Within) (w bs : List ℕ) : Type 0 where
  after : Within
  first : (pieces within (w ++ bs)).first ≡ w ++ (pieces after bs).first
  others : (pieces within (w ++ bs)).others ≡ (pieces after bs).others

wide_on : (w bs : List ℕ) (within : Within) → AreHigh w → WideOn within w bs
unfolding pieces
wide_on [] bs within h = record { after = within; first = refl; others = refl }
wide_on (b ∷ w) bs within h =
    let on = wide_on w bs (within_after within b) h.1 in
    let same : Pieces = pieces (within_after within b) (w ++ bs) in
    let e : piece_by (item_found within b) b (w ++ bs) same (pieces (before false) (w ++ bs)) ≡ with_byte b same = ap (λ f. piece_by f b (w ++ bs) same (pieces (before false) (w ++ bs))) (high_found within b h.0) in
    record { after = on.after; first = ap (λ p. p.first) e ∙ ap (λ l. b ∷ l) on.first; others = ap (λ p. p.others) e ∙ on.others }

pub pieces_utf8 : (bs : List ℕ) → IsUtf8 bs → (within : Within) → ArePieces (pieces within bs)
unfolding pieces
pieces_utf8 bs u = by_text (λ (l : List ℕ). (within : Within) → ArePieces (pieces within l)) (λ within. (IsUtf8-nil, tt))
    (λ b l low v again within. low_pieces (item_found within b) b l (pieces (within_after within b) l) (pieces (before false) l) low (again (within_after within b)) (again (before false)))
    (λ w l high uw v again within.
    let on = wide_on w l within high in
    (subst IsUtf8 (sym on.first) (IsUtf8-append w (pieces on.after l).first uw (again on.after).0), subst AreTexts (sym on.others) (again on.after).1))
    bs u

-- the parts between line feeds
abbrev parts_of : List ℕ → List (List ℕ)
parts_of bs = slice_split (λ b. b == 10) bs

onto_texts : (b : ℕ) (parts : List (List ℕ)) → b < 128 → AreTexts parts → AreTexts (onto_first b parts)
onto_texts b [] low are = (utf8_cons b [] low IsUtf8-nil, tt)
onto_texts b (part ∷ parts) low are = (utf8_cons b part low are.0, are.1)

record FirstPart (bs : List ℕ) : Type 0 where
  part : List ℕ
  parts : List (List ℕ)
  are : parts_of bs ≡ part ∷ parts

first_with : (b : ℕ) (bs : List ℕ) → FirstPart bs → FirstPart (b ∷ bs)
first_with b bs f = record { part = cond (b == 10) [] (b ∷ f.part); parts = cond (b == 10) (f.part ∷ f.parts) f.parts; are = ap (λ l. cond (b == 10) ([] ∷ l) (onto_first b l)) f.are ∙ joined (b == 10) }
  where
    joined : (t : Bool) → cond t ([] ∷ (f.part ∷ f.parts)) (onto_first b (f.part ∷ f.parts)) ≡ cond t [] (b ∷ f.part) ∷ cond t (f.part ∷ f.parts) f.parts
    joined true = refl
    joined false = refl

first_part : (bs : List ℕ) → FirstPart bs
first_part [] = record { part = []; parts = []; are = refl }
first_part (b ∷ bs) = first_with b bs (first_part bs)

wide_parts : (w bs part : List ℕ) (parts : List (List ℕ)) → AreHigh w → parts_of bs ≡ part ∷ parts → parts_of (w ++ bs) ≡ (w ++ part) ∷ parts
wide_parts [] bs part parts h e = e
wide_parts (b ∷ w) bs part parts h e =
    ap (λ t. cond t ([] ∷ parts_of (w ++ bs)) (onto_first b (parts_of (w ++ bs)))) (apart b 10 h.0 (omega arith))
    ∙ ap (onto_first b) (wide_parts w bs part parts h.1 e)

parts_utf8 : (bs : List ℕ) → IsUtf8 bs → AreTexts (parts_of bs)
parts_utf8 bs u = by_text (λ (l : List ℕ). AreTexts (parts_of l)) (IsUtf8-nil, tt)
    (λ b l low v again. if_of AreTexts (b == 10) ([] ∷ parts_of l) (onto_first b (parts_of l)) (λ e. (IsUtf8-nil, again)) (λ e. onto_texts b (parts_of l) low again))
    (λ w l high uw v again.
    let f = first_part l in
    let ones : AreTexts (f.part ∷ f.parts) = subst AreTexts f.are again in
    subst AreTexts (sym (wide_parts w l f.part f.parts high f.are)) (IsUtf8-append w f.part uw ones.0, ones.1))
    bs u

-- without a carriage return
strip_utf8 : (line : List ℕ) → IsUtf8 line → IsUtf8 (strip_carriage_return line)
strip_utf8 line u = if_of (λ (x : List ℕ). IsUtf8 x) (slice_index line (length line - 1) == 13) (take (length line - 1) line) line (λ e. by_line line u ((Decides-eqb (slice_index line (length line - 1)) 13).0 e)) (λ e. u)
  where
    by_line : (l : List ℕ) → IsUtf8 l → slice_index l (length l - 1) ≡ 13 → IsUtf8 (take (length l - 1) l)
    by_line [] v e = absurd (omega (arith, e))
    by_line (b ∷ l) v e = IsUtf8-take (b ∷ l) (length (b ∷ l) - 1) v (IsCharBoundary-before_ascii (b ∷ l) (length (b ∷ l) - 1) (omega arith) (omega (arith, e)))

parts_lines : (parts : List (List ℕ)) → AreTexts parts → AreTexts (lines_of_parts parts)
parts_lines [] are = tt
parts_lines (part ∷ []) are = if_of AreTexts (length part == 0) [] (part ∷ []) (λ e. tt) (λ e. are)
parts_lines (part ∷ next ∷ more) are = (strip_utf8 part are.0, parts_lines (next ∷ more) are.1)

pub lines_utf8 : (bs : List ℕ) → IsUtf8 bs → AreTexts (lines bs)
lines_utf8 bs u = parts_lines (parts_of bs) (parts_utf8 bs u)
