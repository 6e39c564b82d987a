-- Content in chunks that was read up to a place.
use Rattle.std.proofs.Common.{◌≡◌, ℕ, ◌+◌, ◌-◌, ◌<◌, ◌≤◌, List, [], ◌∷◌, ◌++◌, length, take, drop, slice_range, Option, Some, None, refl, sym, ap, ◌∙◌, subst, arith, append_assoc, append-nil, length-append, length-drop, length-take, take-append-drop, drop-drop}
use Rattle.std.proofs.lemmas.List.{drop_at, flat_map_more, nil_from_length}
use Rattle.std.proofs.lemmas.List.Elements.{All-nil, All-cons, All-append}
use Rattle.httparse.specs.Grammar.{ChunkLine, IsChunkLine, print_chunk_line, chunk_size}
use Rattle.http_chunks.specs.Chunked.{LINE_LIMIT, Chunk, print_chunk, IsChunk, print_ending, joined, NeverChunked, ReadsChunks}
use Rattle.http_chunks.specs.ChunkReading.{IsLineOf}
use Rattle.http_chunks.specs.ChunkSteps.{HasNoData, IsDataRead, IsStuck, MayEnd, IsChunkAt, IsEndAt, IsOverflowAt}
use Rattle.http_chunks.specs.ContentSteps.{AreChunks, IsWithinChunk, IsInChunks, IsTaken, IsCalm, IsFlooded}
use Rattle.http_chunks.specs.declared.chunks.DataRead.{DataRead}
use Rattle.http_chunks.specs.declared.chunks.DataRead.TheVariants as kinds
use Rattle.http_chunks.specs.declared.content.Body.{Body}
use Rattle.http_chunks.proofs.ContentLemmas.{cells, calm_content, never_content, may_content, flooded_content}
use Rattle.http_chunks.proofs.ChunkStepLemmas.{after_line_is, chunk_parts, stuck_data, chunk_partial, chunk_invalid}
use Rattle.http_chunks.proofs.DataLemmas.{data_of_end, short_data}

-- ---- between chunks

pub end_inside : (rest : List ℕ) (len : ℕ) → IsEndAt rest len → len ≤ length rest
end_inside rest len is = omega (arith, ap length is.whole, length-append (print_ending is.ending) is.after, is.len_is)

pub content_whole : (all rest content : List ℕ) (len : ℕ) → AreChunks all rest content → IsEndAt rest len → ReadsChunks all content (drop len rest)
content_whole all rest content len was is =
    let behind : drop len rest ≡ is.after = ap (drop len) is.whole ∙ drop_at (print_ending is.ending) is.after len (sym is.len_is) in
    record {
      chunks = was.chunks;
      ending = is.ending;
      reads = record {
        each = was.each;
        ends = is.valid;
        whole = was.whole ∙ ap (λ (t : List ℕ). cells was.chunks ++ t) (is.whole ∙ ap (λ (t : List ℕ). print_ending is.ending ++ t) (sym behind))
            ∙ sym (append_assoc (cells was.chunks) (print_ending is.ending) (drop len rest));
      };
      joins = was.joins;
      short = was.short;
    }

-- the content's bytes are counted by the chunks' own
stuck_joined : (all rest content : List ℕ) (was : AreChunks all rest content) → IsStuck rest (length content) → IsStuck rest (length (joined was.chunks))
stuck_joined all rest content was stuck = let P : List ℕ → Type 0 = λ t. IsStuck rest (length t) in subst P was.joins stuck

pub content_calm : (all rest content : List ℕ) → AreChunks all rest content → IsStuck rest (length content) → IsCalm all
content_calm all rest content was stuck =
    calm_content all was.chunks rest was.each (omega (arith, was.short, ap length was.joins)) (stuck_joined all rest content was stuck) was.whole

pub content_may : (all rest content : List ℕ) → AreChunks all rest content → MayEnd rest → MayEnd all
content_may all rest content was may = subst MayEnd (sym was.whole) (may_content was.chunks rest was.each may)

pub content_never : (all rest content : List ℕ) → AreChunks all rest content → NeverChunked rest → NeverChunked all
content_never all rest content was never = subst NeverChunked (sym was.whole) (never_content was.chunks rest was.each never)

pub content_flooded : (all rest content : List ℕ) → AreChunks all rest content → IsOverflowAt rest (length content) → IsFlooded all
content_flooded all rest content was over =
    let P : List ℕ → Type 0 = λ t. IsOverflowAt rest (length t) in
    flooded_content all was.chunks rest was.each (subst P was.joins over) was.whole

line_some : (line : ChunkLine) → IsChunkLine line → 0 < length (print_chunk_line line)
unfolding print_chunk_line
line_some line is = let digits = is.digits.0 in simp length-append (omega (arith, digits))

pub line_inside : (rest : List ℕ) (sum len size : ℕ) → IsChunkAt rest sum len size → (0 < len) × (len ≤ length rest)
line_inside rest sum len size is = (
  omega (arith, is.line.len_is, line_some is.line.line is.line.reads.0.valid, ap length is.line.reads.1, length-append (print_chunk_line is.line.line) is.line.after),
  omega (arith, is.line.len_is, ap length is.line.reads.1, length-append (print_chunk_line is.line.line) is.line.after),
)

-- the line of a chunk is taken
pub line_taken : (all rest content : List ℕ) (len size : ℕ) → AreChunks all rest content → IsChunkAt rest (length content) len size
    → IsWithinChunk all (drop len rest) content size
line_taken all rest content len size was is =
    let line = is.line.line in
    record {
      before = content;
      line = line;
      part = [];
      chunks = record {
        chunks = was.chunks;
        each = was.each;
        whole = was.whole
            ∙ ap (λ (t : List ℕ). cells was.chunks ++ t) (is.line.reads.1 ∙ ap (λ (t : List ℕ). print_chunk_line line ++ t) (sym (after_line_is rest len size is.line)));
        joins = was.joins;
        short = was.short;
      };
      valid = is.line.reads.0;
      size = omega (arith, is.line.size_is);
      some = omega (arith, is.line.size_is, is.some);
      fits = omega (arith, is.line.size_is, is.fits);
      joins = sym (append-nil content);
    }

-- ---- within a chunk

-- what stands from one place on is the bytes up to another, and then what stands from there on
pub split_range : (text : List ℕ) (at at' : ℕ) → at ≤ at' → drop at text ≡ slice_range text at at' ++ drop at' text
split_range text at at' forward =
    let n = at' - at in
    let place : at + n ≡ at' = omega arith in
    sym (take-append-drop n (drop at text))
    ∙ ap (λ (t : List ℕ). take n (drop at text) ++ t) (drop-drop n at text ∙ ap (λ (k : ℕ). drop k text) place)

pub range_len : (text : List ℕ) (at at' : ℕ) → at ≤ at' → at' ≤ length text → length (slice_range text at at') ≡ at' - at
range_len text at at' forward within = omega (arith, length-take (at' - at) (drop at text), length-drop at text)

-- more bytes of the chunk are taken
pub part_taken : (all text : List ℕ) (at at' : ℕ) (body body' : Body) (left due : ℕ) → IsTaken text at at' body body' left due
    → IsWithinChunk all (drop at text) body.bytes left → IsWithinChunk all (drop at' text) body'.bytes due
part_taken all text at at' body body' left due is was =
    let bytes = slice_range text at at' in
    let count = range_len text at at' is.forward is.within in
    record {
      before = was.before;
      line = was.line;
      part = was.part ++ bytes;
      chunks = record {
        chunks = was.chunks.chunks;
        each = was.chunks.each;
        whole = was.chunks.whole
            ∙ ap (λ (t : List ℕ). cells was.chunks.chunks ++ (print_chunk_line was.line ++ t))
            (ap (λ (t : List ℕ). was.part ++ t) (split_range text at at' is.forward) ∙ sym (append_assoc was.part bytes (drop at' text)));
        joins = was.chunks.joins;
        short = was.chunks.short;
      };
      valid = was.valid;
      size = omega (arith, was.size, length-append was.part bytes, count, is.counts);
      some = was.some;
      fits = was.fits;
      joins = is.bytes ∙ ap (λ (t : List ℕ). t ++ bytes) was.joins ∙ append_assoc was.before was.part bytes;
    }

-- what was due of the chunk is taken
pub due_taken : (all text : List ℕ) (at at' : ℕ) (body body' : Body) (left due : ℕ) → body.left ≡ Some left → IsTaken text at at' body body' left due
    → IsInChunks all (drop at text) body.bytes body.left → IsWithinChunk all (drop at' text) body'.bytes due
due_taken all text at at' body body' left due so is was =
    let P : Option ℕ → Type 0 = λ l. IsInChunks all (drop at text) body.bytes l in part_taken all text at at' body body' left due is (subst P so was)

pub due_kept : (all text : List ℕ) (at at' : ℕ) (body body' : Body) (left due : ℕ) → body.left ≡ Some left → IsTaken text at at' body body' left due
    → IsInChunks all (drop at text) body.bytes body.left → IsInChunks all (drop at' text) body'.bytes body'.left
due_kept all text at at' body body' left due so is was =
    let P : Option ℕ → Type 0 = λ l. IsInChunks all (drop at' text) body'.bytes l in
    subst P (sym is.left_is) (due_taken all text at at' body body' left due so is was)

-- the line, and behind it the bytes that came
abbrev line_of : (all rest content : List ℕ) (left : ℕ) (was : IsWithinChunk all rest content left)
    → IsLineOf (print_chunk_line was.line ++ (was.part ++ rest)) (length (print_chunk_line was.line)) (length was.part + left)
line_of all rest content left was = record { line = was.line; after = was.part ++ rest; reads = (was.valid, refl); len_is = refl; size_is = sym was.size }

part_calm : (all rest content : List ℕ) (left : ℕ) (was : IsWithinChunk all rest content left) → HasNoData (was.part ++ rest) (length was.part + left) → IsCalm all
part_calm all rest content left was none =
    content_calm all _ was.before was.chunks
    (stuck_data _ _ (length was.part + left) (length was.before) (omega (arith, was.some, was.size)) (omega (arith, was.fits, was.size))
    (line_of all rest content left was) none)

part_partial : (all rest content : List ℕ) (left : ℕ) (was : IsWithinChunk all rest content left) → IsDataRead (was.part ++ rest) (length was.part + left) kinds.Partial
    → IsCalm all × MayEnd all
part_partial all rest content left was (none, more, bytes, reads) = (
  part_calm all rest content left was none,
  content_may all _ was.before was.chunks
      (chunk_partial _ _ (length was.part + left) (omega (arith, was.some, was.size)) (line_of all rest content left was) more bytes reads),
)

-- bytes of the chunk have not come
pub part_left : (all rest content : List ℕ) (left : ℕ) → length rest ≡ 0 → 0 < left → IsWithinChunk all rest content left → IsCalm all × MayEnd all
part_left all rest content left none some was =
    part_partial all rest content left was (short_data (was.part ++ rest) (length was.part + left) (omega (arith, length-append was.part rest, none, some)))

-- a part of a line end is short
pub end_short : (rest : List ℕ) → IsDataRead rest 0 kinds.Partial → length rest < LINE_LIMIT + LINE_LIMIT
end_short rest (none, more, bytes, reads) =
    omega (arith, ap length reads.whole, length-append rest more, length-append bytes (13 ∷ 10 ∷ []), reads.counts)

-- what stands where its line end is due
at_end : (part rest : List ℕ) (read : DataRead) → IsDataRead rest 0 read → IsDataRead (part ++ rest) (length part + 0) read
at_end part rest read is =
    let n = length part + 0 in
    let P : List ℕ → Type 0 = λ t. IsDataRead t 0 read in
    data_of_end (part ++ rest) n read (omega (arith, length-append part rest)) (subst P (sym (drop_at part rest n (omega arith))) is)

nothing_due : (all rest content : List ℕ) (due : ℕ) → due ≡ 0 → IsWithinChunk all rest content due → IsWithinChunk all rest content 0
nothing_due all rest content due none was = let P : ℕ → Type 0 = λ n. IsWithinChunk all rest content n in subst P none was

pub part_end : (all rest content : List ℕ) (due : ℕ) → due ≡ 0 → IsWithinChunk all rest content due → IsDataRead rest 0 kinds.Partial → IsCalm all × MayEnd all
part_end all rest content due none so is =
    let was = nothing_due all rest content due none so in part_partial all rest content 0 was (at_end was.part rest kinds.Partial is)

end_never : (all rest content : List ℕ) → IsWithinChunk all rest content 0 → IsDataRead rest 0 kinds.Invalid → IsCalm all × NeverChunked all
end_never all rest content was is =
    let never = at_end was.part rest kinds.Invalid is in
    let Q : List ℕ → Type 0 = λ t. HasNoData t (length was.part + 0) in (
      part_calm all rest content 0 was (subst Q (append-nil (was.part ++ rest)) (never [])),
      content_never all _ was.before was.chunks
          (chunk_invalid _ _ (length was.part + 0) (omega (arith, was.some, was.size)) (line_of all rest content 0 was) never),
    )

pub no_end : (all rest content : List ℕ) (due : ℕ) → due ≡ 0 → IsWithinChunk all rest content due → IsDataRead rest 0 kinds.Invalid → IsCalm all × NeverChunked all
no_end all rest content due none so is = end_never all rest content (nothing_due all rest content due none so) is

-- a line end stands there
ends_so : (rest : List ℕ) → IsDataRead rest 0 kinds.Whole → (after : List ℕ) × (rest ≡ 13 ∷ 10 ∷ after)
ends_so rest (after, reads) = (after, reads.whole ∙ ap (λ (t : List ℕ). t ++ (13 ∷ 10 ∷ after)) (nil_from_length (take 0 rest) reads.counts))

pub line_end_inside : (rest : List ℕ) → IsDataRead rest 0 kinds.Whole → 2 ≤ length rest
line_end_inside rest is = let (after, whole) = ends_so rest is in omega (arith, ap length whole)

chunk_taken : (all rest content : List ℕ) → IsWithinChunk all rest content 0 → IsDataRead rest 0 kinds.Whole → AreChunks all (drop 2 rest) content
chunk_taken all rest content was is =
    let (after, whole) = ends_so rest is in
    let cs = was.chunks.chunks in
    let c : Chunk = record { line = was.line; bytes = was.part } in
    let behind : drop 2 rest ≡ after = ap (drop 2) whole in
    let size : chunk_size was.line ≡ length was.part = omega (arith, was.size) in
    let valid : IsChunk c = record { line = was.valid; size = size; some = omega (arith, was.some, was.size) } in
    record {
      chunks = cs ++ c ∷ [];
      each = All-append IsChunk cs (c ∷ []) was.chunks.each (All-cons IsChunk c [] valid (All-nil IsChunk));
      whole = was.chunks.whole
          ∙ ap (λ (t : List ℕ). cells cs ++ t) (ap (λ (t : List ℕ). print_chunk_line was.line ++ (was.part ++ t)) whole ∙ sym (chunk_parts c after))
          ∙ sym (append_assoc (cells cs) (print_chunk c) after) ∙ ap (λ (t : List ℕ). t ++ after) (flat_map_more print_chunk [] cs c)
          ∙ ap (λ (t : List ℕ). cells (cs ++ c ∷ []) ++ t) (sym behind);
      joins = was.joins ∙ ap (λ (t : List ℕ). t ++ was.part) was.chunks.joins ∙ flat_map_more (λ (d : Chunk). d.bytes) [] cs c;
      short = omega (arith, ap length was.joins, length-append was.before was.part, was.fits, was.size);
    }

pub end_taken : (all text : List ℕ) (at : ℕ) (content : List ℕ) (due : ℕ) → due ≡ 0 → IsWithinChunk all (drop at text) content due
    → IsDataRead (drop at text) 0 kinds.Whole → AreChunks all (drop (at + 2) text) content
end_taken all text at content due none so is =
    let P : List ℕ → Type 0 = λ t. AreChunks all t content in
    subst P (drop-drop 2 at text) (chunk_taken all (drop at text) content (nothing_due all (drop at text) content due none so) is)

pub line_kept : (all text : List ℕ) (at : ℕ) (content : List ℕ) (left : Option ℕ) (len size : ℕ) → left ≡ None → IsInChunks all (drop at text) content left
    → IsChunkAt (drop at text) (length content) len size → IsWithinChunk all (drop (at + len) text) content size
line_kept all text at content left len size between was is =
    let P : Option ℕ → Type 0 = λ l. IsInChunks all (drop at text) content l in
    let Q : List ℕ → Type 0 = λ t. IsWithinChunk all t content size in
    subst Q (drop-drop len at text) (line_taken all (drop at text) content len size (subst P between was) is)

-- ---- as more bytes come

more_chunks : (all rest more content : List ℕ) → AreChunks all rest content → AreChunks (all ++ more) (rest ++ more) content
more_chunks all rest more content is = record {
  chunks = is.chunks;
  each = is.each;
  whole = ap (λ (t : List ℕ). t ++ more) is.whole ∙ append_assoc (cells is.chunks) rest more;
  joins = is.joins;
  short = is.short;
}

pub more_in_chunks : (all rest more content : List ℕ) (left : Option ℕ) → IsInChunks all rest content left → IsInChunks (all ++ more) (rest ++ more) content left
more_in_chunks all rest more content None is = more_chunks all rest more content is
more_in_chunks all rest more content (Some left) is =
    let P : List ℕ → Type 0 = λ t. AreChunks (all ++ more) t is.before in
    record {
      before = is.before;
      line = is.line;
      part = is.part;
      chunks = subst P (append_assoc (print_chunk_line is.line) (is.part ++ rest) more
          ∙ ap (λ (t : List ℕ). print_chunk_line is.line ++ t) (append_assoc is.part rest more)) (more_chunks all _ more is.before is.chunks);
      valid = is.valid;
      size = is.size;
      some = is.some;
      fits = is.fits;
      joins = is.joins;
    }
