-- Trailers that were read up to a place.
use Rattle.std.proofs.Common.{◌≡◌, ℕ, ◌+◌, ◌-◌, ◌<◌, ◌≤◌, List, [], ◌∷◌, ◌++◌, length, get_or, take, drop, inl, inr, refl, sym, ap, ◌∙◌, subst, arith, append_assoc, length-append, length-take, take-append-drop}
use Rattle.std.specs.List.{All}
use Rattle.std.proofs.lemmas.Grind.{flat_map-append}
use Rattle.std.proofs.lemmas.List.{drop_at, take_more, take_rest}
use Rattle.std.proofs.lemmas.List.Elements.{All-nil, All-append}
use Rattle.httparse.specs.Grammar.{Field, IsField, print_field, HasNoSection, MayBecomeSection, print_end, print_chunk_line}
use Rattle.httparse.proofs.PieceLemmas.{Section_skip}
use Rattle.http_chunks.specs.Chunked.{LINE_LIMIT, BODY_LIMIT}
use Rattle.http_chunks.specs.ChunkReading.{IsLineOf}
use Rattle.http_chunks.specs.ChunkSteps.{IsStuck, MayEnd}
use Rattle.http_chunks.specs.LinePlaces.{AreTrailers, HasRoom}
use Rattle.http_chunks.proofs.ChunkStepLemmas.{stuck_last, end_partial}
use Rattle.http_chunks.proofs.FieldLemmas.{lines_of, cut_section}
use Rattle.http_chunks.proofs.TrailerLemmas.{may_trailers, no_trailers_from}

-- behind whole fields there is a section where they begin one
skip_none : (fields : List Field) (rest : List ℕ) → All IsField fields → HasNoSection rest → HasNoSection (lines_of fields ++ rest)
skip_none fields rest each none gs last after reads =
    let skipped = Section_skip fields gs last (lines_of fields ++ rest) rest after (each, refl) reads in
    none skipped.0 last after skipped.2

skip_may : (fields : List Field) (rest : List ℕ) → All IsField fields → MayBecomeSection rest → MayBecomeSection (lines_of fields ++ rest)
skip_may fields rest each (more, gs, last, reads) = (
  more,
  fields ++ gs,
  last,
  (
    All-append IsField fields gs each reads.0,
    append_assoc (lines_of fields) rest more ∙ ap (λ (t : List ℕ). lines_of fields ++ t) reads.1
        ∙ regroup (lines_of fields) (lines_of gs) (print_end last)
        ∙ ap (λ (t : List ℕ). (t ++ print_end last) ++ []) (sym (flat_map-append print_field fields gs)),
  ),
)
  where
    regroup : (a b e : List ℕ) → a ++ ((b ++ e) ++ []) ≡ ((a ++ b) ++ e) ++ []
    regroup a b e = simp append_assoc

line_of : (text : List ℕ) (start lines : ℕ) → AreTrailers text start lines → IsLineOf text start 0
line_of text start lines are = record {
  line = are.line;
  after = lines_of are.fields ++ are.rest;
  reads = (are.valid, are.is);
  len_is = are.start_is;
  size_is = sym are.size;
}

-- where behind whole trailers no section is whole and one may be, nothing is whole and content may go on
pub trailers_stuck : (text : List ℕ) (start lines sum : ℕ) (are : AreTrailers text start lines) → HasNoSection are.rest → sum ≤ BODY_LIMIT → IsStuck text sum
unfolding line_of
trailers_stuck text start lines sum are none small =
    stuck_last text start sum small (line_of text start lines are)
    (no_trailers_from (lines_of are.fields ++ are.rest) (skip_none are.fields are.rest are.each none))

pub trailers_may : (text : List ℕ) (start lines : ℕ) (are : AreTrailers text start lines) → HasRoom text start → MayBecomeSection are.rest → MayEnd text
unfolding line_of
trailers_may text start lines are room may =
    let after = lines_of are.fields ++ are.rest in
    let short : length after + 3 ≤ LINE_LIMIT =
    omega (arith, room.1, are.start_is, ap length are.is, length-append (print_chunk_line are.line) after) in
    end_partial text start (line_of text start lines are) (may_trailers after short (skip_may are.fields are.rest are.each may))

-- what stands behind them
pub rest_is : (text : List ℕ) (start lines : ℕ) (are : AreTrailers text start lines) → drop lines text ≡ are.rest
rest_is text start lines are =
    let front = print_chunk_line are.line ++ lines_of are.fields in
    let len : length front ≡ lines = omega (arith, are.start_is, are.lines_is, length-append (print_chunk_line are.line) (lines_of are.fields)) in
    ap (drop lines) (are.is ∙ sym (append_assoc (print_chunk_line are.line) (lines_of are.fields) are.rest)) ∙ drop_at front are.rest lines len

pub slice_is : (text : List ℕ) (start lines : ℕ) (are : AreTrailers text start lines) → take (length text - lines) (drop lines text) ≡ are.rest
slice_is text start lines are = take_rest text lines ∙ rest_is text start lines are

-- more bytes stand behind them
abbrev pub trailers_more : (text more : List ℕ) (start lines : ℕ) → AreTrailers text start lines → AreTrailers (text ++ more) start lines
trailers_more text more start lines are = record {
  line = are.line;
  valid = are.valid;
  size = are.size;
  fields = are.fields;
  each = are.each;
  rest = are.rest ++ more;
  is = ap (λ (t : List ℕ). t ++ more) are.is ∙ append_assoc (print_chunk_line are.line) (lines_of are.fields ++ are.rest) more
      ∙ ap (λ (t : List ℕ). print_chunk_line are.line ++ t) (append_assoc (lines_of are.fields) are.rest more);
  start_is = are.start_is;
  lines_is = are.lines_is;
}

-- none stand behind the line of the last chunk
pub no_trailers : (text : List ℕ) (len : ℕ) → IsLineOf text len 0 → AreTrailers text len len
no_trailers text len is = record {
  line = is.line;
  valid = is.reads.0;
  size = sym is.size_is;
  fields = [];
  each = All-nil IsField;
  rest = is.after;
  is = is.reads.1;
  start_is = is.len_is;
  lines_is = omega arith;
}

-- a line that is no section and may become one is fields
record AreFields (text : List ℕ) : Type 0 where
  fields : List Field
  each : All IsField fields
  is : text ≡ lines_of fields

line_fields : (l : List ℕ) → HasNoSection (l ++ 10 ∷ []) → MayBecomeSection (l ++ 10 ∷ []) → AreFields (l ++ 10 ∷ [])
line_fields l none (more, gs, last, reads) =
    elim (cut_section gs last [] l more reads.0 (sym reads.1 ∙ append_assoc l (10 ∷ []) more)) [
      | inl ends ↦ record { fields = ends.fields; each = ends.valid; is = ends.is }
      | inr has ↦ absurd (none gs last has.more (reads.0, has.is))
    ]

fields_taken : (text : List ℕ) (start lines at : ℕ) (are : AreTrailers text start lines) → at < length are.rest → AreFields (take (at + 1) are.rest)
    → AreTrailers text start (lines + at + 1)
fields_taken text start lines at are inside is =
    let behind = drop (at + 1) are.rest in
    let split : are.rest ≡ lines_of is.fields ++ behind =
    sym (take-append-drop (at + 1) are.rest) ∙ ap (λ (t : List ℕ). t ++ behind) is.is in
    let joins : lines_of are.fields ++ are.rest ≡ lines_of (are.fields ++ is.fields) ++ behind =
    ap (λ (t : List ℕ). lines_of are.fields ++ t) split ∙ sym (append_assoc (lines_of are.fields) (lines_of is.fields) behind)
    ∙ ap (λ (t : List ℕ). t ++ behind) (sym (flat_map-append print_field are.fields is.fields)) in
    record {
      line = are.line;
      valid = are.valid;
      size = are.size;
      fields = are.fields ++ is.fields;
      each = All-append IsField are.fields is.fields are.each is.each;
      rest = behind;
      is = are.is ∙ ap (λ (t : List ℕ). print_chunk_line are.line ++ t) joins;
      start_is = are.start_is;
      lines_is = omega (
        arith,
        are.lines_is,
        ap length (flat_map-append print_field are.fields is.fields),
        length-append (lines_of are.fields) (lines_of is.fields),
        ap length is.is,
        length-take (at + 1) are.rest,
      );
    }

-- one more line of them
pub trailer_taken : (text : List ℕ) (start lines at n : ℕ) → n ≡ at + 1 → at < length (take (length text - lines) (drop lines text))
    → get_or (take (length text - lines) (drop lines text)) at 0 ≡ 10
    → HasNoSection (take n (drop lines text)) × MayBecomeSection (take n (drop lines text))
    → AreTrailers text start lines → AreTrailers text start (lines + at + 1)
trailer_taken text start lines at n one_more inside feed read are =
    let same = slice_is text start lines are in
    let within : at < length are.rest = omega (arith, inside, ap length same) in
    let byte : get_or are.rest at 0 ≡ 10 = ap (λ (t : List ℕ). get_or t at 0) (sym same) ∙ feed in
    let line : take (at + 1) are.rest ≡ take at are.rest ++ 10 ∷ [] = take_more are.rest at 0 within ∙ ap (λ (b : ℕ). take at are.rest ++ b ∷ []) byte in
    let cut : take n (drop lines text) ≡ take at are.rest ++ 10 ∷ [] =
    ap (λ (k : ℕ). take k (drop lines text)) one_more ∙ ap (take (at + 1)) (rest_is text start lines are) ∙ line in
    fields_taken text start lines at are within
    (subst AreFields (sym line) (line_fields (take at are.rest) (subst HasNoSection cut read.0) (subst MayBecomeSection cut read.1)))
