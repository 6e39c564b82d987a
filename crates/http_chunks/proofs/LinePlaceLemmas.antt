-- How far a line was read, and a part of it that goes on.
use Rattle.std.proofs.Common.{◌≡◌, ℕ, ◌+◌, ◌-◌, ◌<◌, ◌≤◌, true, false, ◌==◌, List, [], ◌∷◌, ◌++◌, length, take, drop, Option, Some, None, inl, inr, refl, sym, ap, ◌∙◌, subst, arith, append_assoc, append-nil, length-append, take-append-drop}
use Rattle.std.specs.Char.{is_ascii_hexdigit}
use Rattle.std.specs.List.{list_all, list_any}
use Rattle.std.proofs.lemmas.List.{take_all, take-append-le, take_rest}
use Rattle.std.proofs.lemmas.List.Elements.{All-append}
use Rattle.std.proofs.lemmas.List.Sums.{AllPass-from_list_all}
use Rattle.httparse.specs.Grammar.{ChunkLine, IsChunkLine, print_chunk_line, print_extension, IsExtension, is_ows, is_extension_byte, HasNoSection, MayBecomeSection}
use Rattle.http_chunks.specs.Chunked.{LINE_LIMIT, BODY_LIMIT}
use Rattle.http_chunks.specs.ChunkReading.{HasNoLine, MayBecomeLine, IsLineOf}
use Rattle.http_chunks.specs.ChunkSteps.{IsStuck, MayEnd, IsOnAt}
use Rattle.http_chunks.specs.ContentSteps.{IsInChunks, IsCalm}
use Rattle.http_chunks.specs.LinePlaces.{IsInSize, IsInExtension, IsInField, is_field_byte, AreTrailers, IsLinePart, IsLinePlace, IsLooked, HasRoom, beginning_of_line, last_line, is_part_byte}
use Rattle.http_chunks.specs.declared.fields.FieldPart.{FieldPart}
use Rattle.http_chunks.specs.declared.line_place.LinePart.{LinePart}
use Rattle.http_chunks.specs.declared.line_place.LinePart.TheVariants.{Size, Extension, Trailer}
use Rattle.http_chunks.specs.declared.line_place.LinePlace.{LinePlace}
use Rattle.http_chunks.proofs.ByteLemmas.{No, no_of, no_append, no_cons, no_nil, no_none, no_found, found_not}
use Rattle.http_chunks.proofs.SplitLemmas.{split_append}
use Rattle.http_chunks.proofs.LineLemmas.{body, print_body, cut_body}
use Rattle.http_chunks.proofs.ChunkStepLemmas.{first_line, stuck_no_line, may_end_line}
use Rattle.http_chunks.proofs.FieldLemmas.{field_none, field_may, field_more, same_all}
use Rattle.http_chunks.proofs.InChunksLemmas.{content_calm, content_may}
use Rattle.http_chunks.proofs.TrailerPlaceLemmas.{trailers_stuck, trailers_may, trailers_more, no_trailers, slice_is}

-- the text is a line without its end
abbrev IsBody : List ℕ → Type 0
IsBody text = (k : ChunkLine) × IsChunkLine k × (text ≡ body k)

size_body : (text : List ℕ) → IsInSize text → IsBody text
size_body text is = (_, is.valid, is.is ∙ ap (λ (t : List ℕ). is.digits ++ t) (sym (append-nil is.pad)))

extension_body : (text : List ℕ) → IsInExtension text → IsBody text
extension_body text is = (_, is.valid, is.is)

-- which holds no line feed
body_no_feed : (k : ChunkLine) → IsChunkLine k → No 10 (body k)
body_no_feed k is =
    no_append 10 k.digits (k.pad ++ print_extension k.extension) (no_of 10 is_ascii_hexdigit refl k.digits is.digits.2)
    (no_append 10 k.pad (print_extension k.extension) (no_of 10 is_ows refl k.pad is.pad) (in_extension k.extension is.extension))
  where
    in_extension : (e : Option (List ℕ)) → IsExtension e → No 10 (print_extension e)
    in_extension None is = no_nil 10
    in_extension (Some bytes) is = no_cons 10 59 bytes (λ e. omega (arith, e)) (no_of 10 is_extension_byte refl bytes is)

body_none : (text : List ℕ) → IsBody text → HasNoLine text
body_none text (k, valid, same) line after reads =
    no_none 10 (body k) (body line ++ 13 ∷ []) after (body_no_feed k valid)
    (sym same ∙ reads.1 ∙ ap (λ (t : List ℕ). t ++ after) (print_body line) ∙ regroup (body line) after)
  where
    regroup : (a b : List ℕ) → (a ++ 13 ∷ 10 ∷ []) ++ b ≡ (a ++ 13 ∷ []) ++ 10 ∷ b
    regroup a b = simp append_assoc

body_may : (text : List ℕ) → IsBody text → length text + 2 ≤ LINE_LIMIT → MayBecomeLine text
body_may text (k, valid, same) short =
    let line : text ++ 13 ∷ 10 ∷ [] ≡ print_chunk_line k = ap (λ (t : List ℕ). t ++ 13 ∷ 10 ∷ []) same ∙ sym (print_body k) in
    (13 ∷ 10 ∷ [], k, record { valid = valid; short = omega (arith, ap length line, length-append text (13 ∷ 10 ∷ [])) }, line)

-- where the text is a part, neither a chunk nor the end of the chunks begins it, and content may go on
part_stuck : (part : LinePart) (text : List ℕ) (start sum : ℕ) → IsLinePart part start text → sum ≤ BODY_LIMIT → IsStuck text sum
part_stuck Size text start sum is small = stuck_no_line text sum (body_none text (size_body text is.1))
part_stuck Extension text start sum is small = stuck_no_line text sum (body_none text (extension_body text is.1))
part_stuck (Trailer part) text start sum is small = trailers_stuck text start is.0 sum is.1 (field_none part is.1.rest is.2) small

part_may : (part : LinePart) (text : List ℕ) (start : ℕ) → IsLinePart part start text → HasRoom text start → MayEnd text
part_may Size text start is room = may_end_line text (body_may text (size_body text is.1) (omega (arith, room.1, is.0)))
part_may Extension text start is room = may_end_line text (body_may text (extension_body text is.1) (omega (arith, room.1, is.0)))
part_may (Trailer part) text start is room = trailers_may text start is.0 is.1 room (field_may part is.1.rest is.2)

-- a part goes on
part_more : (part : LinePart) (start : ℕ) (text more : List ℕ) → IsLinePart part start text → list_all (is_part_byte part) more ≡ true → IsLinePart part start (text ++ more)
part_more Size start text more (none, is) all = (
  none,
  record {
    digits = is.digits;
    pad = is.pad ++ more;
    valid = record {
      digits = is.valid.digits;
      pad = All-append (λ (b : ℕ). is_ows b ≡ true) is.pad more is.valid.pad (AllPass-from_list_all is_ows more all);
      extension = tt;
    };
    is = ap (λ (t : List ℕ). t ++ more) is.is ∙ append_assoc is.digits is.pad more;
  },
)
part_more Extension start text more (none, is) all = (
  none,
  record {
    digits = is.digits;
    pad = is.pad;
    bytes = is.bytes ++ more;
    valid = record {
      digits = is.valid.digits;
      pad = is.valid.pad;
      extension = All-append (λ (b : ℕ). is_extension_byte b ≡ true) is.bytes more is.valid.extension (AllPass-from_list_all is_extension_byte more all);
    };
    is = ap (λ (t : List ℕ). t ++ more) is.is ∙ regroup is.digits is.pad is.bytes more;
  },
)
  where
    regroup : (a b c d : List ℕ) → (a ++ (b ++ 59 ∷ c)) ++ d ≡ a ++ (b ++ 59 ∷ (c ++ d))
    regroup a b c d = simp append_assoc
part_more (Trailer part) start text more (lines, are, is) all = (
  lines,
  trailers_more text more start lines are,
  field_more part are.rest more is (sym (same_all (is_part_byte (Trailer part)) (is_field_byte part) (λ b. refl) more) ∙ all),
)

pub part_on : (text : List ℕ) (place : LinePlace) → 0 < place.end
    → list_all (is_part_byte place.part) (take (length text - place.end) (drop place.end text)) ≡ true → IsLinePlace text place
    → IsLinePart place.part place.trailers text
part_on text place some all is =
    subst (IsLinePart place.part place.trailers) (take-append-drop place.end text)
    (part_more place.part place.trailers (take place.end text) (drop place.end text) (is.part some)
    (ap (list_all (is_part_byte place.part)) (sym (take_rest text place.end)) ∙ all))

-- ---- what a line that may go on begins with

-- without a carriage return it is a line without its end
line_front : (text : List ℕ) → MayEnd text → No 13 text → 0 < length text → (k : ChunkLine) × IsChunkLine k × (body k ≡ text)
line_front text may free some =
    let (line, after, reads) = first_line (text ++ may.more) may.chunks may.ending [] may.reads in
    let whole : text ++ may.more ≡ body line ++ (13 ∷ 10 ∷ after) =
    reads.1 ∙ ap (λ (t : List ℕ). t ++ after) (print_body line) ∙ append_assoc (body line) (13 ∷ 10 ∷ []) after in
    elim (split_append text may.more (body line) (13 ∷ 10 ∷ after) whole) [
      | inl (m, front, rest) ↦ ended line reads.0.valid m after front rest
      | inr (m, front, rest) ↦ cut_body line text m reads.0.valid some front
    ]
  where
    ended : (line : ChunkLine) → IsChunkLine line → (m after : List ℕ) → text ≡ body line ++ m → 13 ∷ 10 ∷ after ≡ m ++ may.more
        → (k : ChunkLine) × IsChunkLine k × (body k ≡ text)
    ended line is [] after front rest = (line, is, sym (front ∙ append-nil (body line)))
    ended line is (x ∷ m) after front rest =
        let first : x ≡ 13 = cc in
        absurd (no_none 13 text (body line) m free (front ∙ ap (λ (y : ℕ). body line ++ y ∷ m) first))

-- with a semicolon it has an extension
in_extension : (k : ChunkLine) (text : List ℕ) → IsChunkLine k → body k ≡ text → list_any (λ b. b == 59) text ≡ true → IsInExtension text
in_extension k text is same found = by_extension k.extension refl
  where
    by_extension : (e : Option (List ℕ)) → k.extension ≡ e → IsInExtension text
    by_extension None none =
        let bytes : k.digits ++ (k.pad ++ []) ≡ text = ap (λ (e : Option (List ℕ)). k.digits ++ (k.pad ++ print_extension e)) (sym none) ∙ same in
        let plain = no_append 59 k.digits (k.pad ++ []) (no_of 59 is_ascii_hexdigit refl k.digits is.digits.2)
        (no_append 59 k.pad [] (no_of 59 is_ows refl k.pad is.pad) (no_nil 59)) in
        absurd (found_not 59 text (subst (No 59) bytes plain) found)
    by_extension (Some bytes) some = record {
      digits = k.digits;
      pad = k.pad;
      bytes = bytes;
      valid = record { digits = is.digits; pad = is.pad; extension = subst IsExtension some is.extension };
      is = sym same ∙ ap (λ (e : Option (List ℕ)). k.digits ++ (k.pad ++ print_extension e)) some;
    }

-- and without one none
in_size : (k : ChunkLine) (text : List ℕ) → IsChunkLine k → body k ≡ text → list_any (λ b. b == 59) text ≡ false → IsInSize text
in_size k text is same none = by_extension k.extension refl
  where
    by_extension : (e : Option (List ℕ)) → k.extension ≡ e → IsInSize text
    by_extension None so = record {
      digits = k.digits;
      pad = k.pad;
      valid = record { digits = is.digits; pad = is.pad; extension = tt };
      is = sym same ∙ ap (λ (e : Option (List ℕ)). k.digits ++ (k.pad ++ print_extension e)) so ∙ ap (λ (t : List ℕ). k.digits ++ t) (append-nil k.pad);
    }
    by_extension (Some bytes) so =
        absurd (no_none 59 text (k.digits ++ k.pad) bytes (no_found 59 text none)
        (sym same ∙ ap (λ (e : Option (List ℕ)). k.digits ++ (k.pad ++ print_extension e)) so ∙ sym (append_assoc k.digits k.pad (59 ∷ bytes))))

take_whole : (text : List ℕ) → take (length text) text ≡ text
take_whole text = take_all (length text) text (omega arith)

pub place_extension : (text : List ℕ) → MayEnd text → list_any (λ b. b == 13) text ≡ false → list_any (λ b. b == 59) text ≡ true
    → IsLinePlace text (record { trailers = 0; lines = 0; end = length text; part = Extension })
place_extension text may none found = record {
  within = omega arith;
  lines = λ wrong. absurd (omega arith);
  part = λ some.
      let (k, is, same) = line_front text may (no_found 13 text none) some in
      (refl, subst IsInExtension (sym (take_whole text)) (in_extension k text is same found));
}

pub place_size : (text : List ℕ) → MayEnd text → list_any (λ b. b == 13) text ≡ false → list_any (λ b. b == 59) text ≡ false
    → IsLinePlace text (record { trailers = 0; lines = 0; end = length text; part = Size })
place_size text may none found = record {
  within = omega arith;
  lines = λ wrong. absurd (omega arith);
  part = λ some.
      let (k, is, same) = line_front text may (no_found 13 text none) some in
      (refl, subst IsInSize (sym (take_whole text)) (in_size k text is same found));
}

-- ---- places

behind_last : (text : List ℕ) (len : ℕ) → IsLineOf text len 0 → IsLinePlace text (last_line len)
behind_last text len is = record { within = omega arith; lines = λ _. no_trailers text len is; part = λ wrong. absurd (omega arith) }

pub place_last : (text : List ℕ) (place : LinePlace) (len : ℕ) → place ≡ last_line len → IsLineOf text len 0 → IsLinePlace text place
place_last text place len is line = let P : LinePlace → Type 0 = λ p. IsLinePlace text p in subst P (sym is) (behind_last text len line)

pub place_beginning : (text : List ℕ) → IsLinePlace text beginning_of_line
place_beginning text = record { within = omega arith; lines = λ wrong. absurd (omega arith); part = λ wrong. absurd (omega arith) }

pub place_start : (text : List ℕ) (place : LinePlace) → place ≡ beginning_of_line → IsLinePlace text place
place_start text place is = let P : LinePlace → Type 0 = λ p. IsLinePlace text p in subst P (sym is) (place_beginning text)

-- the part that the text ended in goes on
pub on_part : (text : List ℕ) (place : LinePlace) → IsLinePart place.part place.trailers text → HasRoom text place.trailers → IsLinePlace text place
    → IsOnAt text (record { trailers = place.trailers; lines = place.lines; end = length text; part = place.part })
on_part text place part room is = record {
  place = record {
    within = omega arith;
    lines = is.lines;
    part = λ _. subst (IsLinePart place.part place.trailers) (sym (take_whole text)) part;
  };
  stuck = λ sum small. part_stuck place.part text place.trailers sum part small;
  may = part_may place.part text place.trailers part room;
}

-- behind whole trailers the text ends in a part of one
pub on_trailer : (text : List ℕ) (start lines : ℕ) (field : FieldPart) → HasRoom text start → IsInField field (take (length text - lines) (drop lines text))
    → AreTrailers text start lines → IsOnAt text (record { trailers = start; lines = lines; end = length text; part = Trailer field })
on_trailer text start lines field room is are =
    let part : IsLinePart (Trailer field) start text = (lines, are, subst (IsInField field) (slice_is text start lines are) is) in
    record {
      place = record {
        within = omega arith;
        lines = λ _. are;
        part = λ _. subst (IsLinePart (Trailer field) start) (sym (take_whole text)) part;
      };
      stuck = λ sum small. part_stuck (Trailer field) text start sum part small;
      may = part_may (Trailer field) text start part room;
    }

-- or in something that may become one
pub on_partial : (text : List ℕ) (start lines : ℕ) → HasRoom text start
    → HasNoSection (take (length text - lines) (drop lines text)) × MayBecomeSection (take (length text - lines) (drop lines text))
    → AreTrailers text start lines → IsOnAt text (record { trailers = start; lines = lines; end = 0; part = Size })
on_partial text start lines room read are =
    let same = slice_is text start lines are in
    record {
      place = record { within = omega arith; lines = λ _. are; part = λ wrong. absurd (omega arith) };
      stuck = λ sum small. trailers_stuck text start lines sum are (subst HasNoSection same read.0) small;
      may = trailers_may text start lines are room (subst MayBecomeSection same read.1);
    }

-- a place is one in a text that goes on
pub place_more : (text more : List ℕ) (place : LinePlace) → IsLinePlace text place → IsLinePlace (text ++ more) place
place_more text more place is = record {
  within = omega (arith, is.within, length-append text more);
  lines = λ some. trailers_more text more place.trailers place.lines (is.lines some);
  part = λ some. subst (IsLinePart place.part place.trailers) (sym (take-append-le place.end text more is.within)) (is.part some);
}

pub looked_more : (left : Option ℕ) (text more : List ℕ) (place : LinePlace) → IsLooked text left place → IsLooked (text ++ more) left place
looked_more None text more place is = place_more text more place is
looked_more (Some left) text more place is = is

-- ---- a line as a slice of the text

abbrev slice : List ℕ → ℕ → List ℕ
slice text at = take (length text - at) (drop at text)

pub place_of_slice : (text : List ℕ) (at : ℕ) (left : Option ℕ) (place : LinePlace) → left ≡ None → IsLinePlace (slice text at) place → IsLooked (drop at text) left place
place_of_slice text at left place between is =
    let P : Option ℕ → Type 0 = λ l. IsLooked (drop at text) l place in
    let Q : List ℕ → Type 0 = λ t. IsLinePlace t place in
    subst P (sym between) (subst Q (take_rest text at) is)

slice_of_place : (text : List ℕ) (at : ℕ) (left : Option ℕ) (place : LinePlace) → left ≡ None → IsLooked (drop at text) left place → IsLinePlace (slice text at) place
slice_of_place text at left place between is =
    let P : Option ℕ → Type 0 = λ l. IsLooked (drop at text) l place in
    let Q : List ℕ → Type 0 = λ t. IsLinePlace t place in
    subst Q (sym (take_rest text at)) (subst P between is)

pub on_looked : (text : List ℕ) (at : ℕ) (left : Option ℕ) (place next : LinePlace) → left ≡ None
    → (IsLinePlace (slice text at) place → IsOnAt (slice text at) next) → IsLooked (drop at text) left place → IsLooked (drop at text) left next
on_looked text at left place next between on is =
    place_of_slice text at left next between (on (slice_of_place text at left place between is)).place

pub on_step : (all text : List ℕ) (at : ℕ) (content : List ℕ) (left : Option ℕ) (place next : LinePlace) → left ≡ None
    → (IsLinePlace (slice text at) place → IsOnAt (slice text at) next)
    → IsInChunks all (drop at text) content left → IsLooked (drop at text) left place → IsCalm all × MayEnd all
on_step all text at content left place next between on was is =
    let onward = subst (λ (t : List ℕ). IsOnAt t next) (take_rest text at) (on (slice_of_place text at left place between is)) in
    let I : Option ℕ → Type 0 = λ l. IsInChunks all (drop at text) content l in
    let chunks = subst I between was in
    (content_calm all (drop at text) content chunks (onward.stuck (length content) chunks.short), content_may all (drop at text) content chunks onward.may)

pub slice_short : (text : List ℕ) (at : ℕ) → length (slice text at) < LINE_LIMIT + LINE_LIMIT → length (drop at text) < LINE_LIMIT + LINE_LIMIT
slice_short text at short = omega (arith, short, ap length (take_rest text at))

-- within a chunk nothing is said
pub looked_within : (rest : List ℕ) (left : Option ℕ) (place : LinePlace) (due : ℕ) → left ≡ Some due → IsLooked rest left place
looked_within rest left place due so = let P : Option ℕ → Type 0 = λ l. IsLooked rest l place in subst P (sym so) tt

pub looked_first : (left : Option ℕ) (rest : List ℕ) → IsLooked rest left beginning_of_line
looked_first None rest = place_beginning rest
looked_first (Some left) rest = tt
