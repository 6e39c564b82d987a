-- Content in chunks that is taken as it comes.
use Rattle.std.proofs.Common.{◌≡◌, ℕ, ◌+◌, ◌-◌, ◌*◌, ◌<◌, ◌≤◌, nat_lt, Bool, true, false, List, [], ◌∷◌, ◌++◌, length, take, drop, All, Option, Some, None, refl, sym, ap, ◌∙◌, subst, arith, append_assoc, append-nil, length-append, length-drop, take-append-drop}
use Rattle.std.proofs.lemmas.Bool.Decides.{nat_tests}
use Rattle.std.proofs.lemmas.List.{append_cancel_right}
use Rattle.std.proofs.lemmas.List.Elements.{All-nil, All-head, All-tail}
use Rattle.side_world.specs.Told.{Took}
use Rattle.side_world.proofs.Composed.{took_nothing, took_on}
use Rattle.httparse.specs.Grammar.{ChunkLine, print_chunk_line, chunk_size}
use Rattle.http_chunks.specs.Chunked.{LINE_LIMIT, BODY_LIMIT, Chunk, print_chunk, IsChunk, IsLine, print_ending, joined, ReadsChunks}
use Rattle.http_chunks.specs.ContentSteps.{AreChunks, IsWithinChunk, IsInChunks}
use Rattle.http_chunks.specs.LinePlaces.{IsLooked, beginning_of_line}
use Rattle.http_chunks.specs.declared.line_place.LinePlace.{LinePlace}
use Rattle.http_chunks.specs.declared.content.Body.{Body}
use Rattle.http_chunks.proofs.ContentLemmas.{cells, uncons, chunk_same}
use Rattle.http_chunks.proofs.ChunkStepLemmas.{line_same, chunk_parts}
use Rattle.http_chunks.proofs.InChunksLemmas.{line_inside, more_in_chunks}
use Rattle.http_chunks.proofs.LinePlaceLemmas.{looked_more, place_start}
use Rattle.http_client.specs.Replies.{ahead}
use Rattle.http_client.specs.Taken.{AreRead, IsWhole, AreFewer, parts_due, most_parts}
use Rattle.http_client.proofs.AheadLemmas.{ahead_skipped}

-- ---- two places of one text up to which chunks were read

-- at the first of them one more chunk stands, and behind it no less than at the second; the contents have these lengths
pub record IsBefore (rest other : List ℕ) (count counted : ℕ) : Type 0 where
  pub chunk : Chunk
  pub more : List ℕ
  pub valid : IsChunk chunk
  pub whole : rest ≡ print_chunk chunk ++ more
  pub behind : length other ≤ length more
  pub counts : count + length chunk.bytes ≤ counted

pub data Places (rest other : List ℕ) (count counted : ℕ) : Type 0 where
  one : rest ≡ other → count ≡ counted → Places rest other count counted
  before : IsBefore rest other count counted → Places rest other count counted
  behind : IsBefore other rest counted count → Places rest other count counted

-- with chunks of one length before both
later : (rest other : List ℕ) (count counted many all : ℕ) (n : ℕ) → many ≡ n + count → all ≡ n + counted → IsBefore rest other count counted → IsBefore rest other many all
later rest other count counted many all n first second is = record {
  chunk = is.chunk;
  more = is.more;
  valid = is.valid;
  whole = is.whole;
  behind = is.behind;
  counts = omega (arith, first, second, is.counts);
}

places_later : (rest other : List ℕ) (count counted many all : ℕ) (n : ℕ) → many ≡ n + count → all ≡ n + counted → Places rest other count counted → Places rest other many all
places_later rest other count counted many all n first second (one same lengths) = one same (omega (arith, first, second, lengths))
places_later rest other count counted many all n first second (before is) = before (later rest other count counted many all n first second is)
places_later rest other count counted many all n first second (behind is) = behind (later other rest counted count all many n second first is)

places : (cs ds : List Chunk) (rest other : List ℕ) → All IsChunk cs → All IsChunk ds → cells cs ++ rest ≡ cells ds ++ other
    → Places rest other (length (joined cs)) (length (joined ds))
places [] [] rest other each also same = one same refl
places [] (d ∷ ds) rest other each also same = before (record {
  chunk = d;
  more = cells ds ++ other;
  valid = All-head IsChunk d ds also;
  whole = same ∙ uncons d ds other;
  behind = omega (arith, length-append (cells ds) other);
  counts = omega (arith, length-append d.bytes (joined ds));
})
places (c ∷ cs) [] rest other each also same = behind (record {
  chunk = c;
  more = cells cs ++ rest;
  valid = All-head IsChunk c cs each;
  whole = sym same ∙ uncons c cs rest;
  behind = omega (arith, length-append (cells cs) rest);
  counts = omega (arith, length-append c.bytes (joined cs));
})
places (c ∷ cs) (d ∷ ds) rest other each also same =
    let firsts = chunk_same c d _ _ (All-head IsChunk c cs each) (All-head IsChunk d ds also) (sym (uncons c cs rest) ∙ same ∙ uncons d ds other) in
    let bytes : length c.bytes ≡ length d.bytes = ap (λ (x : Chunk). length x.bytes) firsts.0 in
    places_later rest other (length (joined cs)) (length (joined ds)) _ _ (length c.bytes)
    (length-append c.bytes (joined cs)) (omega (arith, bytes, length-append d.bytes (joined ds)))
    (places cs ds rest other (All-tail IsChunk c cs each) (All-tail IsChunk d ds also) firsts.1)

places_of : (all rest other content after : List ℕ) → AreChunks all rest content → AreChunks all other after
    → Places rest other (length content) (length after)
places_of all rest other content after was is =
    let P : ℕ → Type 0 = λ n. Places rest other n (length after) in
    let Q : ℕ → Type 0 = λ n. Places rest other (length (joined was.chunks)) n in
    subst P (sym (ap length was.joins))
    (subst Q (sym (ap length is.joins)) (places was.chunks is.chunks rest other was.each is.each (sym was.whole ∙ is.whole)))

-- the length of a chunk, by its line
chunk_len : (c : Chunk) (more : List ℕ) → length (print_chunk c ++ more) ≡ length (print_chunk_line c.line) + (length c.bytes + (2 + length more))
chunk_len c more =
    omega (arith, ap length (chunk_parts c more), length-append (print_chunk_line c.line) (c.bytes ++ (13 ∷ 10 ∷ more)), length-append c.bytes (13 ∷ 10 ∷ more))

-- a line, bytes and what follows them are a chunk and what follows it
line_of_chunk : (line : ChunkLine) (part rest : List ℕ) (c : Chunk) (more : List ℕ) → IsLine line → IsChunk c
    → print_chunk_line line ++ (part ++ rest) ≡ print_chunk c ++ more
    → (chunk_size line ≡ length c.bytes) × (length part + length rest ≡ length c.bytes + (2 + length more))
line_of_chunk line part rest c more valid is same =
    let lines = line_same line c.line (part ++ rest) (c.bytes ++ (13 ∷ 10 ∷ more)) valid is.line (same ∙ chunk_parts c more) in (
      ap chunk_size lines.0 ∙ is.size,
      omega (arith, length-append part rest, ap length lines.1, length-append c.bytes (13 ∷ 10 ∷ more)),
    )

line_some : (line : ChunkLine) → IsLine line → 0 < chunk_size line → chunk_size line ≤ BODY_LIMIT → 0 < length (print_chunk_line line)
line_some line valid some fits =
    (line_inside (print_chunk_line line ++ []) 0 (length (print_chunk_line line)) (chunk_size line) (record {
      line = record { line = line; after = []; reads = (valid, refl); len_is = refl; size_is = refl };
      some = some;
      fits = omega (arith, fits);
    })).0

-- from one place to another, content and what is left of a chunk there, where bytes that are read make the parts that may come fewer
record Goes (rest other content after : List ℕ) (left due : Option ℕ) : Type 0 where
  pub parts : 3 * (BODY_LIMIT - length after) + parts_due due ≤ 3 * (BODY_LIMIT - length content) + parts_due left
  pub read : length other < length rest → 3 * (BODY_LIMIT - length after) + parts_due due < 3 * (BODY_LIMIT - length content) + parts_due left

between_between : (all rest other content after : List ℕ) → length other ≤ length rest → AreChunks all rest content → AreChunks all other after
    → Goes rest other content after None None
between_between all rest other content after within was is = by (places_of all rest other content after was is)
  where
    by : Places rest other (length content) (length after) → Goes rest other content after None None
    by (one same lengths) = record { parts = omega (arith, lengths); read = λ fewer. absurd (omega (arith, fewer, ap length same)) }
    by (before f) = record { parts = omega (arith, f.valid.some, f.counts, is.short); read = λ fewer. omega (arith, f.valid.some, f.counts, is.short) }
    by (behind f) = absurd (omega (arith, within, f.behind, ap length f.whole, chunk_len f.chunk f.more))

between_within : (all rest other content after : List ℕ) (due : ℕ) → length other ≤ length rest → AreChunks all rest content → IsWithinChunk all other after due
    → Goes rest other content after None (Some due)
between_within all rest other content after due within was is = by (places_of all rest _ content is.before was is.chunks)
  where
    counts : length after ≡ length is.before + length is.part
    counts = ap length is.joins ∙ length-append is.before is.part

    by : Places rest (print_chunk_line is.line ++ (is.part ++ other)) (length content) (length is.before) → Goes rest other content after None (Some due)
    by (one same lengths) = record {
      parts = omega (arith, lengths, counts, is.size, is.some, is.fits);
      read = λ fewer. omega (arith, lengths, counts, is.size, is.some, is.fits);
    }
    by (before f) = record {
      parts = omega (arith, f.valid.some, f.counts, counts, is.size, is.fits);
      read = λ fewer. omega (arith, f.valid.some, f.counts, counts, is.size, is.fits);
    }
    by (behind f) =
        let parts = line_of_chunk is.line is.part other f.chunk f.more is.valid f.valid f.whole in
        absurd (omega (arith, within, f.behind, parts.0, parts.1, is.size))

within_between : (all rest other content after : List ℕ) (left : ℕ) → length other ≤ length rest → IsWithinChunk all rest content left → AreChunks all other after
    → Goes rest other content after (Some left) None
within_between all rest other content after left within was is = by (places_of all _ other was.before after was.chunks is)
  where
    counts : length content ≡ length was.before + length was.part
    counts = ap length was.joins ∙ length-append was.before was.part

    from : length (print_chunk_line was.line ++ (was.part ++ rest)) ≡ length (print_chunk_line was.line) + (length was.part + length rest)
    from = length-append (print_chunk_line was.line) (was.part ++ rest)
        ∙ ap (λ n. length (print_chunk_line was.line) + n) (length-append was.part rest)

    by : Places (print_chunk_line was.line ++ (was.part ++ rest)) other (length was.before) (length after) → Goes rest other content after (Some left) None
    by (one same lengths) =
        absurd (omega (arith, within, ap length same, from, line_some was.line was.valid was.some (omega (arith, was.fits))))
    by (before f) =
        let parts = line_of_chunk was.line was.part rest f.chunk f.more was.valid f.valid f.whole in
        record {
          parts = omega (arith, f.counts, counts, was.size, parts.0, is.short);
          read = λ fewer. omega (arith, f.counts, counts, was.size, parts.0, is.short);
        }
    by (behind f) = absurd (omega (arith, within, f.behind, from, ap length f.whole, chunk_len f.chunk f.more))

within_within : (all rest other content after : List ℕ) (left due : ℕ) → length other ≤ length rest → IsWithinChunk all rest content left → IsWithinChunk all other after due
    → Goes rest other content after (Some left) (Some due)
within_within all rest other content after left due within was is = by (places_of all _ _ was.before is.before was.chunks is.chunks)
  where
    first : length content ≡ length was.before + length was.part
    first = ap length was.joins ∙ length-append was.before was.part

    second : length after ≡ length is.before + length is.part
    second = ap length is.joins ∙ length-append is.before is.part

    from : length (print_chunk_line was.line ++ (was.part ++ rest)) ≡ length (print_chunk_line was.line) + (length was.part + length rest)
    from = length-append (print_chunk_line was.line) (was.part ++ rest)
        ∙ ap (λ n. length (print_chunk_line was.line) + n) (length-append was.part rest)

    by : Places (print_chunk_line was.line ++ (was.part ++ rest)) (print_chunk_line is.line ++ (is.part ++ other)) (length was.before) (length is.before)
        → Goes rest other content after (Some left) (Some due)
    by (one same lengths) =
        let lines = line_same was.line is.line (was.part ++ rest) (is.part ++ other) was.valid is.valid same in
        let sizes : length was.part + left ≡ length is.part + due = sym was.size ∙ ap chunk_size lines.0 ∙ is.size in
        let sums : length was.part + length rest ≡ length is.part + length other =
        sym (length-append was.part rest) ∙ ap length lines.1 ∙ length-append is.part other in
        record {
          parts = omega (arith, within, lengths, sizes, sums, first, second, is.fits, is.size);
          read = λ fewer. omega (arith, fewer, lengths, sizes, sums, first, second, is.fits, is.size);
        }
    by (before f) =
        let parts = line_of_chunk was.line was.part rest f.chunk f.more was.valid f.valid f.whole in
        record {
          parts = omega (arith, f.counts, first, second, was.size, parts.0, is.size, is.some, is.fits);
          read = λ fewer. omega (arith, f.counts, first, second, was.size, parts.0, is.size, is.some, is.fits);
        }
    by (behind f) =
        let parts = line_of_chunk is.line is.part other f.chunk f.more is.valid f.valid f.whole in
        absurd (omega (arith, within, f.behind, from, parts.0, parts.1, is.size))

goes_on : (all rest other content after : List ℕ) (left due : Option ℕ) → length other ≤ length rest → IsInChunks all rest content left → IsInChunks all other after due
    → Goes rest other content after left due
goes_on all rest other content after None None within was is = between_between all rest other content after within was is
goes_on all rest other content after None (Some due) within was is = between_within all rest other content after due within was is
goes_on all rest other content after (Some left) None within was is = within_between all rest other content after left within was is
goes_on all rest other content after (Some left) (Some due) within was is = within_within all rest other content after left due within was is

-- ---- what is taken

-- nothing was read
pub none_read : (pending : List ℕ) (left : Option (List ℕ)) (bytes : List ℕ) (looked : LinePlace) → bytes ≡ [] → looked ≡ beginning_of_line
    → AreRead (ahead pending left) pending left (record { bytes = bytes; left = None; looked = looked })
none_read pending left bytes looked none start = record {
  taken = [];
  took = took_nothing (ahead pending left);
  chunks = record { chunks = []; each = All-nil IsChunk; whole = refl; joins = none; short = omega (arith, ap length none) };
  looked = place_start pending looked start;
}

-- what was read of the bytes that are pending is taken
moved : (taken pending : List ℕ) (at : ℕ) → (taken ++ take at pending) ++ drop at pending ≡ taken ++ pending
moved taken pending at = append_assoc taken (take at pending) (drop at pending) ∙ ap (λ (t : List ℕ). taken ++ t) (take-append-drop at pending)

took_more : (first : Option (List ℕ)) (pending : List ℕ) (left : Option (List ℕ)) (taken : List ℕ) (at : ℕ) → Took first (ahead pending left) taken
    → Took first (ahead (drop at pending) left) (taken ++ take at pending)
took_more first pending left taken at took = took_on first (ahead pending left) (ahead (drop at pending) left) taken (take at pending) took (ahead_skipped pending left at)

pub read_on : (first : Option (List ℕ)) (pending text next : List ℕ) (left : Option (List ℕ)) (old body : Body) (at : ℕ) → text ≡ pending → next ≡ drop at pending
    → (is : AreRead first pending left old)
    → ((all : List ℕ) → IsInChunks all (drop 0 text) old.bytes old.left → IsInChunks all (drop at text) body.bytes body.left)
    → (IsLooked (drop 0 text) old.left old.looked → IsLooked (drop at text) body.left body.looked)
    → length (drop at text) < LINE_LIMIT + LINE_LIMIT
    → AreRead first next left body × AreFewer pending next old body
read_on first pending text next left old body at same skipped is kept looks short = (
  subst (λ (t : List ℕ). AreRead first t left body) (sym skipped) (record {
    taken = is.taken ++ take at pending;
    took = took_more first pending left is.taken at is.took;
    chunks = subst (λ (t : List ℕ). IsInChunks t (drop at pending) body.bytes body.left) (sym (moved is.taken pending at)) chunks;
    looked = looked;
  }),
  subst (λ (t : List ℕ). AreFewer pending t old body) (sym skipped) (record {
    short = subst (λ (t : List ℕ). length (drop at t) < LINE_LIMIT + LINE_LIMIT) same short;
    fewer = fewer;
    parts = goes.parts;
    read = goes.read;
  }),
) where
  chunks : IsInChunks (is.taken ++ pending) (drop at pending) body.bytes body.left
  chunks = subst (λ (t : List ℕ). (all : List ℕ) → IsInChunks all t old.bytes old.left → IsInChunks all (drop at t) body.bytes body.left) same kept (is.taken ++ pending) is.chunks

  looked : IsLooked (drop at pending) body.left body.looked
  looked = subst (λ (t : List ℕ). IsLooked t old.left old.looked → IsLooked (drop at t) body.left body.looked) same looks is.looked

  fewer : length (drop at pending) ≤ length pending
  fewer = omega (arith, length-drop at pending)

  goes : Goes pending (drop at pending) old.bytes body.bytes old.left body.left
  goes = goes_on (is.taken ++ pending) pending (drop at pending) old.bytes body.bytes old.left body.left fewer is.chunks chunks

pub read_whole : (first : Option (List ℕ)) (pending text next : List ℕ) (left : Option (List ℕ)) (old body : Body) (at len : ℕ) → text ≡ pending → next ≡ drop at pending
    → (is : AreRead first pending left old)
    → ((all : List ℕ) → IsInChunks all (drop 0 text) old.bytes old.left → IsLooked (drop 0 text) old.left old.looked → ReadsChunks all body.bytes (drop len (drop at text)))
    → len ≤ length (drop at text)
    → IsWhole first next left body len
read_whole first pending text next left old body at len same skipped is step within =
    subst (λ (t : List ℕ). IsWhole first t left body len) (sym skipped) (record {
      within = subst (λ (t : List ℕ). len ≤ length (drop at t)) same within;
      taken = is.taken ++ take at pending;
      took = took_more first pending left is.taken at is.took;
      reads = subst (λ (t : List ℕ). ReadsChunks t body.bytes (drop len (drop at pending))) (sym (moved is.taken pending at)) reads;
    })
  where
    reads : ReadsChunks (is.taken ++ pending) body.bytes (drop len (drop at pending))
    reads = subst (λ (t : List ℕ). (all : List ℕ) → IsInChunks all t old.bytes old.left → IsLooked t old.left old.looked → ReadsChunks all body.bytes (drop len (drop at t)))
        same step (is.taken ++ pending) is.chunks is.looked

-- more bytes came
pub came_on : (first : Option (List ℕ)) (pending next piece : List ℕ) (left left' : Option (List ℕ)) (body : Body) → ahead next left' ≡ ahead pending left → next ≡ pending ++ piece
    → AreRead first pending left body → AreRead first next left' body
came_on first pending next piece left left' body same grown is = record {
  taken = is.taken;
  took = subst (λ (z : Option (List ℕ)). Took first z is.taken) (sym same) is.took;
  chunks = subst (λ (t : List ℕ). IsInChunks (is.taken ++ t) t body.bytes body.left) (sym grown)
      (subst (λ (t : List ℕ). IsInChunks t (pending ++ piece) body.bytes body.left) (append_assoc is.taken pending piece)
      (more_in_chunks (is.taken ++ pending) pending piece body.bytes body.left is.chunks));
  looked = subst (λ (t : List ℕ). IsLooked t body.left body.looked) (sym grown) (looked_more body.left pending piece body.looked is.looked);
}

-- the end is taken
pub all_taken : (first : Option (List ℕ)) (pending : List ℕ) (left now : Option (List ℕ)) (body : Body) (len : ℕ) → IsWhole first pending left body len
    → Took (ahead pending left) now (take len pending) → (text : List ℕ) × Took first now text × ReadsChunks text body.bytes []
all_taken first pending left now body len is took = (
  is.taken ++ take len pending,
  took_on first (ahead pending left) now is.taken (take len pending) is.took took,
  record {
    chunks = is.reads.chunks;
    ending = is.reads.ending;
    reads = record { each = is.reads.reads.each; ends = is.reads.reads.ends; whole = whole ∙ sym (append-nil _) };
    joins = is.reads.joins;
    short = is.reads.short;
  },
) where
  whole : is.taken ++ take len pending ≡ cells is.reads.chunks ++ print_ending is.reads.ending
  whole = append_cancel_right _ _ (drop len pending) (moved is.taken pending len ∙ is.reads.reads.whole)

-- ---- the loop ends

lower : (a b : ℕ) → nat_lt a b ≡ true → a < b
lower a b e = grind (arith, nat_tests)

not_lower : (a b : ℕ) → nat_lt a b ≡ false → b ≤ a
not_lower a b e = grind (arith, nat_tests)

fewer_by : (old new earlier pending next : ℕ) (b : Bool) → nat_lt pending earlier ≡ b → pending < 32768 → pending ≤ earlier → new ≤ old → (pending < earlier → new < old) → pending < next
    → new * 32769 + (32768 - next) < old * 32769 + (32768 - earlier)
fewer_by old new earlier pending next true e short fewer parts read more = omega (arith, read (lower pending earlier e))
fewer_by old new earlier pending next false e short fewer parts read more = omega (arith, not_lower pending earlier e, short, fewer, parts, more)

pub fewer_rounds : (earlier pending next : List ℕ) (old body : Body) → AreFewer earlier pending old body → length pending < length next
    → most_parts body * 32769 + (32768 - length next) < most_parts old * 32769 + (32768 - length earlier)
fewer_rounds earlier pending next old body is more =
    fewer_by (most_parts old) (most_parts body) (length earlier) (length pending) (length next) (nat_lt (length pending) (length earlier)) refl
    is.short is.fewer is.parts is.read more
