-- Whole requests: a text begins with at most one, whatever follows it, and with none where it is refused.
use Rattle.std.proofs.Common.{◌≡◌, ℕ, ◌+◌, ◌<◌, ◌≤◌, Bool, true, false, List, [], ◌∷◌, ◌++◌, length, inl, inr, refl, sym, ap, ◌∙◌, subst, arith, append_assoc, length-append}
use Rattle.std.specs.Prelude.{MatchBool}
use Rattle.std.specs.List.{All}
use Rattle.std.proofs.lemmas.Bool.{false≢true}
use Rattle.std.proofs.lemmas.List.{append_cancel_right}
use Rattle.std.proofs.lemmas.List.Elements.{All-head, All-tail}
use Rattle.httparse.specs.Grammar.{RequestHead, print_request, chunk_size, print_chunk_line, ChunkLine}
use Rattle.httparse.proofs.GrammarLemmas.{request_unique, ReadsRequest-append, section_unique}
use Rattle.http_chunks.specs.Chunked.{BODY_LIMIT, ReadsChunks, Chunk, IsChunk, IsLine, Ending, print_ending, IsEnding, joined, NeverChunked, Overflows}
use Rattle.http_frames.specs.declared.refusal.FrameErr.{FrameErr}
use Rattle.http_frames.specs.HeadRules.{fields_of, is_chunked, content_length}
use Rattle.http_frames.specs.Requests.{ReadsHead, ReadsLength, ReadsBody, ReadsWhole, HasNoWhole, IsRefused, IsAccepted}
use Rattle.http_chunks.proofs.SplitLemmas.{split_append, append_same}
use Rattle.http_chunks.proofs.ChunkStepLemmas.{line_same, chunk_parts, ending_parts}
use Rattle.http_chunks.proofs.ContentLemmas.{chunk_same, chunk_no_end, cells, uncons}
use Rattle.http_frames.proofs.RequestLemmas.{only_chunk_rows}

-- content in chunks is read in one way
record SameContent (cs ds : List Chunk) (r q : List ℕ) : Type 0 where
  chunks : cs ≡ ds
  rest : r ≡ q

same_content : (cs ds : List Chunk) (e f : Ending) (r q : List ℕ) → All IsChunk cs → All IsChunk ds → IsEnding e → IsEnding f
    → cells cs ++ (print_ending e ++ r) ≡ cells ds ++ (print_ending f ++ q) → SameContent cs ds r q
same_content [] [] e f r q each also is it same =
    let lines = line_same e.line f.line _ _ is.line it.line (sym (ending_parts e r) ∙ same ∙ ending_parts f q) in
    let ends = section_unique _ e.trailers f.trailers e.last f.last r q (is.trailers, refl) (it.trailers, lines.1) in
    record { chunks = refl; rest = ends.2 }
same_content [] (d ∷ ds) e f r q each also is it same =
    absurd (chunk_no_end d e _ r (All-head IsChunk d ds also) is (sym (uncons d ds (print_ending f ++ q)) ∙ sym same))
same_content (c ∷ cs) [] e f r q each also is it same =
    absurd (chunk_no_end c f _ q (All-head IsChunk c cs each) it (sym (uncons c cs (print_ending e ++ r)) ∙ same))
same_content (c ∷ cs) (d ∷ ds) e f r q each also is it same =
    let firsts = chunk_same c d _ _ (All-head IsChunk c cs each) (All-head IsChunk d ds also)
    (sym (uncons c cs (print_ending e ++ r)) ∙ same ∙ uncons d ds (print_ending f ++ q)) in
    let others = same_content cs ds e f r q (All-tail IsChunk c cs each) (All-tail IsChunk d ds also) is it firsts.1 in
    record { chunks = λ i. firsts.0 i ∷ others.chunks i; rest = others.rest }

abbrev Same : List ℕ → List ℕ → List ℕ → List ℕ → Type 0
Same b c r q = (b ≡ c) × (r ≡ q)

chunks_unique : (text b c r q : List ℕ) → ReadsChunks text b r → ReadsChunks text c q → Same b c r q
chunks_unique text b c r q one other =
    let same = same_content one.chunks other.chunks one.ending other.ending r q one.reads.each other.reads.each one.reads.ends other.reads.ends
    (sym (append_assoc (cells one.chunks) (print_ending one.ending) r) ∙ sym one.reads.whole ∙ other.reads.whole
    ∙ append_assoc (cells other.chunks) (print_ending other.ending) q) in
    (one.joins ∙ ap joined same.chunks ∙ sym other.joins, same.rest)

length_unique : (text b c r q : List ℕ) (n : ℕ) → ReadsLength text n b r → ReadsLength text n c q → Same b c r q
length_unique text b c r q n one other =
    append_same b r c q (one.counts ∙ sym other.counts) (sym one.whole ∙ other.whole)

body_of : (chunked : Bool) (n : ℕ) (text b c r q : List ℕ) → MatchBool chunked (ReadsChunks text b r) (ReadsLength text n b r)
    → MatchBool chunked (ReadsChunks text c q) (ReadsLength text n c q) → Same b c r q
body_of true n text b c r q one other = chunks_unique text b c r q one other
body_of false n text b c r q one other = length_unique text b c r q n one other

pub whole_unique : (text : List ℕ) (h k : RequestHead) (b c r q : List ℕ) → ReadsWhole text h b r → ReadsWhole text k c q
    → (h ≡ k) × (b ≡ c) × (r ≡ q)
whole_unique text h k b c r q one other =
    let same = request_unique text k h other.after one.after other.heads.reads one.heads.reads in
    let P : RequestHead → Type 0 = λ x. ReadsBody x other.after c q in
    let Q : List ℕ → Type 0 = λ t. ReadsBody h t c q in
    let content = subst Q same.1 (subst P same.0 other.content) in
    let bodies = body_of (is_chunked (fields_of h)) (content_length (fields_of h)) one.after b c r q one.content content in
    (sym same.0, bodies.0, bodies.1)

-- what is read goes on to be read
pub head_more : (text more : List ℕ) (h : RequestHead) (after : List ℕ) → ReadsHead text h after → ReadsHead (text ++ more) h (after ++ more)
head_more text more h after is = record { reads = ReadsRequest-append text h after more is.reads; short = is.short; accepted = is.accepted }

chunks_more : (text more b r : List ℕ) → ReadsChunks text b r → ReadsChunks (text ++ more) b (r ++ more)
chunks_more text more b r is = record {
  chunks = is.chunks;
  ending = is.ending;
  reads = record {
    each = is.reads.each;
    ends = is.reads.ends;
    whole = ap (λ (t : List ℕ). t ++ more) is.reads.whole ∙ append_assoc (cells is.chunks ++ print_ending is.ending) r more;
  };
  joins = is.joins;
  short = is.short;
}

length_more : (text more b r : List ℕ) (n : ℕ) → ReadsLength text n b r → ReadsLength (text ++ more) n b (r ++ more)
length_more text more b r n is = record { counts = is.counts; whole = ap (λ (t : List ℕ). t ++ more) is.whole ∙ append_assoc b r more }

body_more : (chunked : Bool) (n : ℕ) (text more b r : List ℕ) → MatchBool chunked (ReadsChunks text b r) (ReadsLength text n b r)
    → MatchBool chunked (ReadsChunks (text ++ more) b (r ++ more)) (ReadsLength (text ++ more) n b (r ++ more))
body_more true n text more b r is = chunks_more text more b r is
body_more false n text more b r is = length_more text more b r n is

pub whole_more : (text more : List ℕ) (h : RequestHead) (b r : List ℕ) → ReadsWhole text h b r → ReadsWhole (text ++ more) h b (r ++ more)
whole_more text more h b r is = record {
  after = is.after ++ more;
  heads = head_more text more h is.after is.heads;
  content = body_more (is_chunked (fields_of h)) (content_length (fields_of h)) is.after more b r is.content;
}

-- whole content is nowhere too long
over_none : (cs ds : List Chunk) (e : Ending) (r back : List ℕ) (l : ChunkLine) (sum : ℕ) → All IsChunk cs → All IsChunk ds → IsEnding e → IsLine l
    → sum + length (joined cs) ≤ BODY_LIMIT → BODY_LIMIT < sum + (length (joined ds) + chunk_size l)
    → cells cs ++ (print_ending e ++ r) ≡ cells ds ++ (print_chunk_line l ++ back) → ⊥
over_none [] [] e r back l sum each also is line low high same =
    let lines = line_same e.line l _ back is.line line (sym (ending_parts e r) ∙ same) in
    omega (arith, ap chunk_size lines.0, is.size)
over_none [] (d ∷ ds) e r back l sum each also is line low high same =
    chunk_no_end d e _ r (All-head IsChunk d ds also) is (sym (uncons d ds (print_chunk_line l ++ back)) ∙ sym same)
over_none (c ∷ cs) [] e r back l sum each also is line low high same =
    let valid = All-head IsChunk c cs each in
    let lines = line_same c.line l _ back valid.line line (sym (chunk_parts c (cells cs ++ (print_ending e ++ r))) ∙ sym (uncons c cs (print_ending e ++ r)) ∙ same) in
    omega (arith, ap chunk_size lines.0, valid.size, length-append c.bytes (joined cs))
over_none (c ∷ cs) (d ∷ ds) e r back l sum each also is line low high same =
    let firsts = chunk_same c d _ _ (All-head IsChunk c cs each) (All-head IsChunk d ds also)
    (sym (uncons c cs (print_ending e ++ r)) ∙ same ∙ uncons d ds (print_chunk_line l ++ back)) in
    let bytes : length c.bytes ≡ length d.bytes = ap (λ (x : Chunk). length x.bytes) firsts.0 in
    over_none cs ds e r back l (sum + length c.bytes) (All-tail IsChunk c cs each) (All-tail IsChunk d ds also) is line
    (omega (arith, length-append c.bytes (joined cs))) (omega (arith, length-append d.bytes (joined ds))) firsts.1

over_whole : (text front back b r : List ℕ) → text ≡ front ++ back → ReadsChunks text b r → Overflows front → ⊥
over_whole text front back b r cut is over =
    let at = over.2 in
    over_none is.chunks over.0 is.ending r back over.1 0 is.reads.each at.each is.reads.ends at.valid
    (omega (arith, is.short, ap length is.joins)) (omega (arith, at.long))
    (sym (append_assoc (cells is.chunks) (print_ending is.ending) r) ∙ sym is.reads.whole ∙ cut ∙ ap (λ (t : List ℕ). t ++ back) at.whole
    ∙ append_assoc (cells over.0) (print_chunk_line over.1) back)

never_whole : (text front back b r : List ℕ) → text ≡ front ++ back → ReadsChunks text b r → NeverChunked front → ⊥
never_whole text front back b r cut is never =
    never back is.chunks is.ending r (record { each = is.reads.each; ends = is.reads.ends; whole = sym cut ∙ is.reads.whole })

as_chunks : (chunked : Bool) (n : ℕ) (text b r : List ℕ) → chunked ≡ true → MatchBool chunked (ReadsChunks text b r) (ReadsLength text n b r) → ReadsChunks text b r
as_chunks true n text b r chunked is = is
as_chunks false n text b r chunked is = absurd (false≢true chunked)

-- no whole request begins bytes that are refused
pub refused_none : (text : List ℕ) (e : FrameErr) → IsRefused text e → HasNoWhole text
refused_none text e refused h b r whole =
    let row = only_chunk_rows text h whole.after refused.prefix refused.rest e whole.heads refused.whole refused.meets in
    let chunks = as_chunks (is_chunked (fields_of h)) (content_length (fields_of h)) whole.after b r row.chunked whole.content in
    elim row.row [
      | inl (same, over) ↦ over_whole whole.after row.content refused.rest b r row.cut chunks over
      | inr (same, never) ↦ never_whole whole.after row.content refused.rest b r row.cut chunks never
    ]

-- bytes stay refused as they go on
pub refused_more : (text more : List ℕ) (e : FrameErr) → IsRefused text e → IsRefused (text ++ more) e
refused_more text more e is = record {
  prefix = is.prefix;
  rest = is.rest ++ more;
  whole = ap (λ (t : List ℕ). t ++ more) is.whole ∙ append_assoc is.prefix is.rest more;
  meets = is.meets;
  alone = is.alone;
}

-- a head that begins more than what is refused begins that
pub head_less : (text more : List ℕ) (h : RequestHead) (after : List ℕ) (e : FrameErr) → IsRefused text e → ReadsHead (text ++ more) h after
    → (behind : List ℕ) × ReadsHead text h behind
unfolding refused_more
head_less text more h after e refused is =
    let on = refused_more text more e refused in
    let row = only_chunk_rows (text ++ more) h after on.prefix on.rest e is on.whole on.meets in
    let same : refused.prefix ++ (refused.rest ++ more) ≡ (print_request h ++ row.content) ++ (refused.rest ++ more) =
    sym on.whole ∙ is.reads.1 ∙ ap (λ (t : List ℕ). print_request h ++ t) row.cut ∙ sym (append_assoc (print_request h) row.content (refused.rest ++ more)) in
    let prefix : refused.prefix ≡ print_request h ++ row.content = append_cancel_right refused.prefix (print_request h ++ row.content) (refused.rest ++ more) same in (
      row.content ++ refused.rest,
      record {
        reads = (
          is.reads.0,
          refused.whole ∙ ap (λ (t : List ℕ). t ++ refused.rest) prefix ∙ append_assoc (print_request h) row.content refused.rest,
        );
        short = is.short;
        accepted = is.accepted;
      },
    )

-- one text has one refusal
pub refusal_unique : (text : List ℕ) (e d : FrameErr) → IsRefused text e → IsRefused text d → e ≡ d
refusal_unique text e d one other = elim (split_append one.prefix one.rest other.prefix other.rest (sym one.whole ∙ other.whole)) [
  | inl (m, longer, rest) ↦ sym (one.alone other.prefix m d longer other.meets)
  | inr (m, longer, rest) ↦ other.alone one.prefix m e longer one.meets
]

pub refused_accepted : (text : List ℕ) (e : FrameErr) → IsRefused text e → IsAccepted text → ⊥
refused_accepted text e refused accepted = accepted refused.prefix refused.rest e refused.whole refused.meets

pub head_some : (h : RequestHead) → 0 < length h.method → 0 < length (print_request h)
unfolding print_request
head_some h some = simp length-append (omega arith)

body_shorter : (chunked : Bool) (n : ℕ) (text b r : List ℕ) → MatchBool chunked (ReadsChunks text b r) (ReadsLength text n b r) → length r ≤ length text
body_shorter true n text b r is =
    omega (arith, ap length is.reads.whole, length-append (cells is.chunks ++ print_ending is.ending) r)
body_shorter false n text b r is = omega (arith, ap length is.whole, length-append b r)

-- a whole request takes bytes
pub whole_shorter : (text : List ℕ) (h : RequestHead) (b r : List ℕ) → ReadsWhole text h b r → length r < length text
whole_shorter text h b r is =
    let token = is.heads.reads.0.method.0 in
    omega (
      arith,
      ap length is.heads.reads.1,
      length-append (print_request h) is.after,
      head_some h token,
      body_shorter (is_chunked (fields_of h)) (content_length (fields_of h)) is.after b r is.content,
    )
