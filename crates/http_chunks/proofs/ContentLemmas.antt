-- Content in chunks as a whole, from what stands after its whole chunks.
use Rattle.std.proofs.Common.{◌≡◌, ℕ, ◌+◌, ◌<◌, ◌≤◌, List, [], ◌∷◌, ◌++◌, length, refl, sym, ap, ◌∙◌, subst, arith, append_assoc, length-append, zero-add}
use Rattle.std.specs.Prelude.{All}
use Rattle.std.specs.List.{flat_map}
use Rattle.std.proofs.lemmas.List.{append_cancel_left}
use Rattle.std.proofs.lemmas.List.Elements.{All-cons, All-head, All-tail}
use Rattle.httparse.specs.Grammar.{ChunkLine, print_chunk_line, chunk_size}
use Rattle.http_chunks.specs.Chunked.{BODY_LIMIT, Chunk, print_chunk, IsChunk, IsLine, Ending, print_ending, IsEnding, joined, NeverChunked}
use Rattle.http_chunks.specs.ChunkSteps.{IsStuck, MayEnd, IsOverflowAt}
use Rattle.http_chunks.specs.ContentSteps.{IsCalm, IsFlooded}
use Rattle.http_chunks.proofs.SplitLemmas.{append_same}
use Rattle.http_chunks.proofs.ChunkStepLemmas.{line_same, chunk_parts, ending_parts, line_ends}

pub chunk_same : (c d : Chunk) (x y : List ℕ) → IsChunk c → IsChunk d → print_chunk c ++ x ≡ print_chunk d ++ y → (c ≡ d) × (x ≡ y)
chunk_same c d x y is also e =
    let lines = line_same c.line d.line _ _ is.line also.line (sym (chunk_parts c x) ∙ e ∙ chunk_parts d y) in
    let sizes : length c.bytes ≡ length d.bytes = sym is.size ∙ ap chunk_size lines.0 ∙ also.size in
    let rest = append_same c.bytes (13 ∷ 10 ∷ x) d.bytes (13 ∷ 10 ∷ y) sizes lines.1 in
    (λ i. record { line = lines.0 i; bytes = rest.0 i }, append_cancel_left (13 ∷ 10 ∷ []) x y rest.1)

-- a chunk is no end
pub chunk_no_end : (c : Chunk) (e : Ending) (x y : List ℕ) → IsChunk c → IsEnding e → print_chunk c ++ x ≡ print_ending e ++ y → ⊥
chunk_no_end c e x y is ends same =
    let lines = line_same c.line e.line _ _ is.line ends.line (sym (chunk_parts c x) ∙ same ∙ ending_parts e y) in
    omega (arith, ap chunk_size lines.0, is.size, is.some, ends.size)

abbrev pub cells : List Chunk → List ℕ
cells chunks = flat_map print_chunk chunks

pub uncons : (c : Chunk) (cs : List Chunk) (x : List ℕ) → cells (c ∷ cs) ++ x ≡ print_chunk c ++ (cells cs ++ x)
uncons c cs x = append_assoc (print_chunk c) (cells cs) x

-- nothing in the text is too long
no_flood : (cs ds : List Chunk) (r back : List ℕ) (l : ChunkLine) (sum : ℕ) → All IsChunk cs → All IsChunk ds → IsLine l
    → IsStuck r (sum + length (joined cs)) → sum + length (joined cs) ≤ BODY_LIMIT → BODY_LIMIT < sum + (length (joined ds) + chunk_size l)
    → cells cs ++ r ≡ cells ds ++ (print_chunk_line l ++ back) → ⊥
no_flood [] [] r back l sum each also is stuck low high same =
    omega (arith, stuck.calm l back (is, same))
no_flood [] (d ∷ ds) r back l sum each also is stuck low high same =
    stuck.no_chunk d _ (All-head IsChunk d ds also) (same ∙ uncons d ds (print_chunk_line l ++ back))
no_flood (c ∷ cs) [] r back l sum each also is stuck low high same =
    let valid = All-head IsChunk c cs each in
    let lines = line_same c.line l _ back valid.line is (sym (chunk_parts c (cells cs ++ r)) ∙ sym (uncons c cs r) ∙ same) in
    omega (arith, ap chunk_size lines.0, valid.size, length-append c.bytes (joined cs))
no_flood (c ∷ cs) (d ∷ ds) r back l sum each also is stuck low high same =
    let firsts = chunk_same c d _ _ (All-head IsChunk c cs each) (All-head IsChunk d ds also)
    (sym (uncons c cs r) ∙ same ∙ uncons d ds (print_chunk_line l ++ back)) in
    let bytes : length c.bytes ≡ length d.bytes = ap (λ (x : Chunk). length x.bytes) firsts.0 in
    let total : sum + length c.bytes + length (joined cs) ≡ sum + length (joined (c ∷ cs)) = omega (arith, length-append c.bytes (joined cs)) in
    let P : ℕ → Type 0 = λ n. IsStuck r n in
    no_flood cs ds r back l (sum + length c.bytes) (All-tail IsChunk c cs each) (All-tail IsChunk d ds also) is
    (subst P (sym total) stuck) (omega (arith, length-append c.bytes (joined cs)))
    (omega (arith, length-append d.bytes (joined ds))) firsts.1

-- no content ends in the text
no_whole : (cs ds : List Chunk) (r rest : List ℕ) (e : Ending) (sum : ℕ) → All IsChunk cs → All IsChunk ds → IsEnding e → IsStuck r sum
    → cells cs ++ r ≡ cells ds ++ (print_ending e ++ rest) → ⊥
no_whole [] [] r rest e sum each also is stuck same = stuck.no_ending e rest is same
no_whole [] (d ∷ ds) r rest e sum each also is stuck same =
    stuck.no_chunk d _ (All-head IsChunk d ds also) (same ∙ uncons d ds (print_ending e ++ rest))
no_whole (c ∷ cs) [] r rest e sum each also is stuck same =
    chunk_no_end c e _ rest (All-head IsChunk c cs each) is (sym (uncons c cs r) ∙ same)
no_whole (c ∷ cs) (d ∷ ds) r rest e sum each also is stuck same =
    let firsts = chunk_same c d _ _ (All-head IsChunk c cs each) (All-head IsChunk d ds also)
    (sym (uncons c cs r) ∙ same ∙ uncons d ds (print_ending e ++ rest)) in
    no_whole cs ds r rest e sum (All-tail IsChunk c cs each) (All-tail IsChunk d ds also) is stuck firsts.1

pub calm_content : (text : List ℕ) (cs : List Chunk) (r : List ℕ) → All IsChunk cs → length (joined cs) ≤ BODY_LIMIT
    → IsStuck r (length (joined cs)) → text ≡ cells cs ++ r → IsCalm text
calm_content text cs r each short stuck whole = record {
  none = λ body rest reads.
      no_whole cs reads.chunks r rest reads.ending _ each reads.reads.each reads.reads.ends stuck
      (sym whole ∙ reads.reads.whole ∙ append_assoc (cells reads.chunks) (print_ending reads.ending) rest);
  calm = λ front back cut over.
      let at = over.2 in
      let P : ℕ → Type 0 = λ n. IsStuck r n in
      no_flood cs over.0 r back over.1 0 each at.each at.valid (subst P (sym (zero-add (length (joined cs)))) stuck) (omega arith) (omega (arith, at.long))
      (sym whole ∙ cut ∙ ap (λ (t : List ℕ). t ++ back) at.whole ∙ append_assoc (cells over.0) (print_chunk_line over.1) back);
}

-- what can't go on after chunks can't with them
pub never_content : (cs : List Chunk) (r : List ℕ) → All IsChunk cs → NeverChunked r → NeverChunked (cells cs ++ r)
never_content [] r each never more ds e rest reads = never more ds e rest reads
never_content (c ∷ cs) r each never more [] e rest reads =
    chunk_no_end c e _ rest (All-head IsChunk c cs each) reads.ends
    (sym (regroup (print_chunk c) (cells cs) r more) ∙ reads.whole)
  where
    regroup : (a b r x : List ℕ) → ((a ++ b) ++ r) ++ x ≡ a ++ ((b ++ r) ++ x)
    regroup a b r x = simp append_assoc
never_content (c ∷ cs) r each never more (d ∷ ds) e rest reads =
    let firsts = chunk_same c d _ _ (All-head IsChunk c cs each) (All-head IsChunk d ds reads.each)
    (sym (regroup (print_chunk c) (cells cs) r more) ∙ reads.whole ∙ regroup (print_chunk d) (cells ds) (print_ending e) rest) in
    never_content cs r (All-tail IsChunk c cs each) never more ds e rest
    (record { each = All-tail IsChunk d ds reads.each; ends = reads.ends; whole = firsts.1 })
  where
    regroup : (a b r x : List ℕ) → ((a ++ b) ++ r) ++ x ≡ a ++ ((b ++ r) ++ x)
    regroup a b r x = simp append_assoc

-- what may go on after chunks may with them
pub may_content : (cs : List Chunk) (r : List ℕ) → All IsChunk cs → MayEnd r → MayEnd (cells cs ++ r)
may_content [] r each may = may
may_content (c ∷ cs) r each may =
    let rest = may_content cs r (All-tail IsChunk c cs each) may in
    record {
      more = rest.more;
      chunks = c ∷ rest.chunks;
      ending = rest.ending;
      reads = record {
        each = All-cons IsChunk c rest.chunks (All-head IsChunk c cs each) rest.reads.each;
        ends = rest.reads.ends;
        whole = regroup (print_chunk c) (cells cs) r rest.more ∙ ap (λ (t : List ℕ). print_chunk c ++ t) rest.reads.whole
            ∙ sym (regroup (print_chunk c) (cells rest.chunks) (print_ending rest.ending) []);
      };
    }
  where
    regroup : (a b r x : List ℕ) → ((a ++ b) ++ r) ++ x ≡ a ++ ((b ++ r) ++ x)
    regroup a b r x = simp append_assoc

pub line_may_end : (l : ChunkLine) → IsLine l → MayEnd (print_chunk_line l)
line_may_end l is = let ends = line_ends l (chunk_size l) is refl in
    record { more = ends.more; chunks = ends.chunks; ending = ends.ending; reads = ends.reads }

pub flooded_content : (text : List ℕ) (cs : List Chunk) (r : List ℕ) → All IsChunk cs → IsOverflowAt r (length (joined cs))
    → text ≡ cells cs ++ r → IsFlooded text
flooded_content text cs r each at whole = record {
  front = cells cs ++ print_chunk_line at.line;
  back = at.after;
  whole = whole ∙ ap (λ (t : List ℕ). cells cs ++ t) at.reads.1 ∙ sym (append_assoc (cells cs) (print_chunk_line at.line) at.after);
  over = (cs, at.line, record { each = each; valid = at.reads.0; whole = refl; long = at.long });
  may = may_content cs (print_chunk_line at.line) each (line_may_end at.line at.reads.0);
}
