-- What stands where a chunk or the end of the chunks is due.
use Rattle.std.proofs.Common.{◌≡◌, ℕ, ◌+◌, ◌<◌, ◌≤◌, zero, suc, List, [], ◌∷◌, ◌++◌, length, drop, lit≤, refl, sym, ap, ◌∙◌, subst, arith, append_assoc, append-nil, length-append}
use Rattle.std.specs.List.{flat_map}
use Rattle.std.proofs.lemmas.List.{drop_at}
use Rattle.std.proofs.lemmas.List.Elements.{All-nil, All-cons, All-head}
use Rattle.httparse.specs.Grammar.{ChunkLine, print_chunk_line, chunk_size, IsField, lf, print_section}
use Rattle.httparse.proofs.ChunkLemmas.{chunk_line_unique}
use Rattle.http_chunks.specs.Chunked.{LINE_LIMIT, BODY_LIMIT, Chunk, print_chunk, IsChunk, IsLine, Ending, print_ending, IsEnding, ReadsChunked, NeverChunked}
use Rattle.http_chunks.specs.ChunkReading.{ReadsLine, HasNoLine, NeverHasLine, MayBecomeLine, IsLineOf, HasNoTrailers, NeverHasTrailers, MayBecomeTrailers, AreTrailersOf}
use Rattle.http_chunks.specs.ChunkSteps.{ReadsData, HasNoData, IsStuck, MayEnd, IsEndAt}
use Rattle.http_chunks.proofs.LineLemmas.{zero_line, zero_line_is}
use Rattle.http_chunks.proofs.DataLemmas.{filled, length-filled}

pub line_same : (l k : ChunkLine) (a b : List ℕ) → IsLine l → IsLine k → print_chunk_line l ++ a ≡ print_chunk_line k ++ b → (l ≡ k) × (a ≡ b)
line_same l k a b is also e = chunk_line_unique (print_chunk_line l ++ a) l k a b (is.valid, refl) (also.valid, e)

pub chunk_parts : (c : Chunk) (x : List ℕ) → print_chunk c ++ x ≡ print_chunk_line c.line ++ (c.bytes ++ (13 ∷ 10 ∷ x))
chunk_parts c x = regroup (print_chunk_line c.line) c.bytes (13 ∷ 10 ∷ []) x
  where
    regroup : (a b e x : List ℕ) → (a ++ b ++ e) ++ x ≡ a ++ (b ++ (e ++ x))
    regroup a b e x = simp append_assoc

pub ending_parts : (e : Ending) (x : List ℕ) → print_ending e ++ x ≡ print_chunk_line e.line ++ (print_section e.trailers e.last ++ x)
ending_parts e x = append_assoc (print_chunk_line e.line) (print_section e.trailers e.last) x

-- the line that content in chunks begins with
pub first_line : (text : List ℕ) (chunks : List Chunk) (ending : Ending) (rest : List ℕ) → ReadsChunked text chunks ending rest
    → (line : ChunkLine) × (after : List ℕ) × ReadsLine text line after
first_line text [] ending rest reads = (ending.line, _, (reads.ends.line, reads.whole ∙ ending_parts ending rest))
first_line text (c ∷ chunks) ending rest reads =
    let is = All-head IsChunk c chunks reads.each in (
      c.line,
      _,
      (
        is.line,
        reads.whole ∙ regroup (print_chunk c) (flat_map print_chunk chunks) (print_ending ending) rest
            ∙ chunk_parts c (flat_map print_chunk chunks ++ print_ending ending ++ rest),
      ),
    )
  where
    regroup : (a b e x : List ℕ) → ((a ++ b) ++ e) ++ x ≡ a ++ ((b ++ e) ++ x)
    regroup a b e x = simp append_assoc

-- without a line nothing stands there
pub stuck_no_line : (text : List ℕ) (sum : ℕ) → HasNoLine text → IsStuck text sum
stuck_no_line text sum none = record {
  calm = λ line after reads. absurd (none line after reads);
  no_chunk = λ c after is whole. none c.line _ (is.line, whole ∙ chunk_parts c after);
  no_ending = λ e after is whole. none e.line _ (is.line, whole ∙ ending_parts e after);
}

pub never_no_line : (text : List ℕ) → NeverHasLine text → NeverChunked text
never_no_line text never more chunks ending rest reads =
    let (line, after, there) = first_line (text ++ more) chunks ending rest reads in
    never more line after there

pub no_line_ever : (text : List ℕ) → NeverHasLine text → HasNoLine text
no_line_ever text never = subst HasNoLine (append-nil text) (never [])

-- the shortest end of the chunks
abbrev zero_ending : Ending
zero_ending = record { line = zero_line; trailers = []; last = lf }

zero_ending_is : IsEnding zero_ending
zero_ending_is = record { line = zero_line_is; size = refl; trailers = All-nil IsField; short = lit≤ tt }

-- content in chunks that goes on after a line
pub record LineEnds (line : ChunkLine) : Type 0 where
  pub more : List ℕ
  pub chunks : List Chunk
  pub ending : Ending
  pub reads : ReadsChunked (print_chunk_line line ++ more) chunks ending []

chunk_ends_with : (c : Chunk) → IsChunk c
    → ReadsChunked (print_chunk_line c.line ++ (c.bytes ++ (13 ∷ 10 ∷ print_ending zero_ending ++ []))) (c ∷ []) zero_ending []
chunk_ends_with c is = record {
  each = All-cons IsChunk c [] is (All-nil IsChunk);
  ends = zero_ending_is;
  whole = sym (chunk_parts c (print_ending zero_ending ++ []))
      ∙ sym (append_assoc (print_chunk c) (print_ending zero_ending) [])
      ∙ ap (λ (t : List ℕ). (t ++ print_ending zero_ending) ++ []) (sym (append-nil (print_chunk c)));
}

chunk_ends : (c : Chunk) → IsChunk c → LineEnds c.line
chunk_ends c is = record {
  more = c.bytes ++ (13 ∷ 10 ∷ print_ending zero_ending ++ []);
  chunks = c ∷ [];
  ending = zero_ending;
  reads = chunk_ends_with c is;
}

pub line_ends : (line : ChunkLine) (size : ℕ) → IsLine line → chunk_size line ≡ size → LineEnds line
line_ends line zero is same = record {
  more = 10 ∷ [];
  chunks = [];
  ending = record { line = line; trailers = []; last = lf };
  reads = record {
    each = All-nil IsChunk;
    ends = record { line = is; size = same; trailers = All-nil IsField; short = lit≤ tt };
    whole = sym (append-nil (print_chunk_line line ++ 10 ∷ []));
  };
}
line_ends line (suc n) is same =
    let c : Chunk = record { line = line; bytes = filled (suc n) } in
    chunk_ends c (record {
      line = is;
      size = same ∙ sym (length-filled (suc n));
      some = omega (arith, length-filled (suc n));
    })

pub may_end_line : (text : List ℕ) → MayBecomeLine text → MayEnd text
may_end_line text (more, line, is, e) =
    let ends = line_ends line (chunk_size line) is refl in
    let P : List ℕ → Type 0 = λ t. ReadsChunked t ends.chunks ends.ending [] in
    record {
      more = more ++ ends.more;
      chunks = ends.chunks;
      ending = ends.ending;
      reads = subst P (ap (λ (t : List ℕ). t ++ ends.more) (sym e) ∙ append_assoc text more ends.more) ends.reads;
    }

-- what stands after a line of the last chunk
pub stuck_last : (text : List ℕ) (len sum : ℕ) → sum ≤ BODY_LIMIT → (is : IsLineOf text len 0) → HasNoTrailers is.after → IsStuck text sum
stuck_last text len sum small is none = record {
  calm = λ line after reads.
      let same = line_same line is.line after is.after reads.0 is.reads.0 (sym reads.1 ∙ is.reads.1) in
      omega (arith, ap chunk_size same.0, is.size_is);
  no_chunk = λ c after valid whole.
      let same = line_same c.line is.line _ is.after valid.line is.reads.0 (sym (chunk_parts c after) ∙ sym whole ∙ is.reads.1) in
      omega (arith, ap chunk_size same.0, is.size_is, valid.size, valid.some);
  no_ending = λ e after valid whole.
      let same = line_same e.line is.line _ is.after valid.line is.reads.0 (sym (ending_parts e after) ∙ sym whole ∙ is.reads.1) in
      none e.trailers e.last after (record { valid = valid.trailers; short = valid.short; whole = sym same.1 });
}

pub end_whole : (text : List ℕ) (len trailers : ℕ) (is : IsLineOf text len 0) → AreTrailersOf is.after trailers → IsEndAt text (len + trailers)
end_whole text len trailers is are = record {
  ending = record { line = is.line; trailers = are.fields; last = are.last };
  after = are.after;
  valid = record { line = is.reads.0; size = sym is.size_is; trailers = are.reads.valid; short = are.reads.short };
  whole = is.reads.1 ∙ ap (λ (t : List ℕ). print_chunk_line is.line ++ t) are.reads.whole
      ∙ sym (append_assoc (print_chunk_line is.line) (print_section are.fields are.last) are.after);
  len_is = omega (arith, is.len_is, are.len_is, length-append (print_chunk_line is.line) (print_section are.fields are.last));
}

pub end_partial : (text : List ℕ) (len : ℕ) (is : IsLineOf text len 0) → MayBecomeTrailers is.after → MayEnd text
end_partial text len is (more, fields, last, reads) = record {
  more = more;
  chunks = [];
  ending = record { line = is.line; trailers = fields; last = last };
  reads = record {
    each = All-nil IsChunk;
    ends = record { line = is.reads.0; size = sym is.size_is; trailers = reads.valid; short = reads.short };
    whole = ap (λ (t : List ℕ). t ++ more) is.reads.1 ∙ append_assoc (print_chunk_line is.line) is.after more
        ∙ ap (λ (t : List ℕ). print_chunk_line is.line ++ t) reads.whole
        ∙ sym (append_assoc (print_chunk_line is.line) (print_section fields last) []);
  };
}

-- a line, and trailers that are not whole
pub last_short : (text : List ℕ) (len : ℕ) (is : IsLineOf text len 0) → length is.after < LINE_LIMIT → length text < LINE_LIMIT + LINE_LIMIT
last_short text len is few =
    omega (arith, few, ap length is.reads.1, length-append (print_chunk_line is.line) is.after, is.reads.0.short)

-- the text with more begins with the line
with_more : (text : List ℕ) (len size : ℕ) (is : IsLineOf text len size) (more : List ℕ) → text ++ more ≡ print_chunk_line is.line ++ (is.after ++ more)
with_more text len size is more = ap (λ (t : List ℕ). t ++ more) is.reads.1 ∙ append_assoc (print_chunk_line is.line) is.after more

pub end_invalid : (text : List ℕ) (len : ℕ) (is : IsLineOf text len 0) → NeverHasTrailers is.after → NeverChunked text
end_invalid text len is never more [] ending rest reads =
    let same = line_same ending.line is.line _ (is.after ++ more) reads.ends.line is.reads.0
    (sym (ending_parts ending rest) ∙ sym reads.whole ∙ with_more text len 0 is more) in
    never more ending.trailers ending.last rest (record { valid = reads.ends.trailers; short = reads.ends.short; whole = sym same.1 })
end_invalid text len is never more (c ∷ chunks) ending rest reads =
    let valid = All-head IsChunk c chunks reads.each in
    let same = line_same c.line is.line _ (is.after ++ more) valid.line is.reads.0
    (sym (chunk_parts c (flat_map print_chunk chunks ++ print_ending ending ++ rest))
    ∙ sym (regroup (print_chunk c) (flat_map print_chunk chunks) (print_ending ending) rest) ∙ sym reads.whole ∙ with_more text len 0 is more) in
    omega (arith, ap chunk_size same.0, is.size_is, valid.size, valid.some)
  where
    regroup : (a b e x : List ℕ) → ((a ++ b) ++ e) ++ x ≡ a ++ ((b ++ e) ++ x)
    regroup a b e x = simp append_assoc

-- what stands after a line of a chunk
data_of : (c : Chunk) (l : ChunkLine) (len : ℕ) (text after : List ℕ) → IsChunk c → c.line ≡ l → len ≡ chunk_size l
    → c.bytes ++ (13 ∷ 10 ∷ after) ≡ text → ReadsData text len c.bytes after
data_of c l len text after valid same size whole = record {
  counts = sym valid.size ∙ ap chunk_size same ∙ sym size;
  whole = sym whole;
}

pub stuck_data : (text : List ℕ) (start len sum : ℕ) → 0 < len → sum + len ≤ BODY_LIMIT → (is : IsLineOf text start len) → HasNoData is.after len → IsStuck text sum
stuck_data text start len sum some fits is none = record {
  calm = λ line after reads.
      let same = line_same line is.line after is.after reads.0 is.reads.0 (sym reads.1 ∙ is.reads.1) in
      omega (arith, ap chunk_size same.0, is.size_is);
  no_chunk = λ c after valid whole.
      let same = line_same c.line is.line _ is.after valid.line is.reads.0 (sym (chunk_parts c after) ∙ sym whole ∙ is.reads.1) in
      none c.bytes after (data_of c is.line len is.after after valid same.0 is.size_is same.1);
  no_ending = λ e after valid whole.
      let same = line_same e.line is.line _ is.after valid.line is.reads.0 (sym (ending_parts e after) ∙ sym whole ∙ is.reads.1) in
      omega (arith, ap chunk_size same.0, is.size_is, valid.size);
}

chunk_from : (text : List ℕ) (start len : ℕ) (is : IsLineOf text start len) (bytes : List ℕ) → 0 < len → length bytes ≡ len
    → IsChunk (record { line = is.line; bytes = bytes })
chunk_from text start len is bytes some counts = record {
  line = is.reads.0;
  size = sym is.size_is ∙ sym counts;
  some = omega (arith, counts);
}

pub chunk_partial : (text : List ℕ) (start len : ℕ) → 0 < len → (is : IsLineOf text start len) (more bytes : List ℕ)
    → ReadsData (is.after ++ more) len bytes [] → MayEnd text
chunk_partial text start len some is more bytes reads =
    let c : Chunk = record { line = is.line; bytes = bytes } in
    let rest = print_ending zero_ending ++ [] in
    let ends = chunk_ends_with c (chunk_from text start len is bytes some reads.counts) in
    let P : List ℕ → Type 0 = λ t. ReadsChunked t (c ∷ []) zero_ending [] in
    record {
      more = more ++ rest;
      chunks = c ∷ [];
      ending = zero_ending;
      reads = subst P (ap (λ (t : List ℕ). print_chunk_line is.line ++ t) (regroup bytes rest ∙ ap (λ (t : List ℕ). t ++ rest) (sym reads.whole))
          ∙ sym (ap (λ (t : List ℕ). t ++ (more ++ rest)) is.reads.1 ∙ append_assoc (print_chunk_line is.line) is.after (more ++ rest)
          ∙ ap (λ (t : List ℕ). print_chunk_line is.line ++ t) (sym (append_assoc is.after more rest)))) ends;
    }
  where
    regroup : (b r : List ℕ) → b ++ (13 ∷ 10 ∷ r) ≡ (b ++ (13 ∷ 10 ∷ [])) ++ r
    regroup b r = simp append_assoc

pub chunk_invalid : (text : List ℕ) (start len : ℕ) → 0 < len → (is : IsLineOf text start len)
    → ((more : List ℕ) → HasNoData (is.after ++ more) len) → NeverChunked text
chunk_invalid text start len some is never more [] ending rest reads =
    let same = line_same ending.line is.line _ (is.after ++ more) reads.ends.line is.reads.0
    (sym (ending_parts ending rest) ∙ sym reads.whole ∙ with_more text start len is more) in
    omega (arith, ap chunk_size same.0, is.size_is, reads.ends.size)
chunk_invalid text start len some is never more (c ∷ chunks) ending rest reads =
    let valid = All-head IsChunk c chunks reads.each in
    let tail = flat_map print_chunk chunks ++ print_ending ending ++ rest in
    let same = line_same c.line is.line _ (is.after ++ more) valid.line is.reads.0
    (sym (chunk_parts c tail)
    ∙ sym (regroup (print_chunk c) (flat_map print_chunk chunks) (print_ending ending) rest) ∙ sym reads.whole ∙ with_more text start len is more) in
    never more c.bytes tail (data_of c is.line len (is.after ++ more) tail valid same.0 is.size_is same.1)
  where
    regroup : (a b e x : List ℕ) → ((a ++ b) ++ e) ++ x ≡ a ++ ((b ++ e) ++ x)
    regroup a b e x = simp append_assoc

-- what follows the line in the text
pub after_line_is : (text : List ℕ) (len size : ℕ) (is : IsLineOf text len size) → drop len text ≡ is.after
after_line_is text len size is =
    ap (drop len) is.reads.1 ∙ drop_at (print_chunk_line is.line) is.after len (sym is.len_is)
