-- Requests with an accepted head, from what their content leads to.
use Rattle.std.proofs.Common.{◌≡◌, ℕ, ◌<◌, true, false, List, [], ◌++◌, length, ◌⊎◌, inl, inr, refl, sym, ap, ◌∙◌, subst, arith, append_assoc, append-nil, length-append}
use Rattle.std.specs.Prelude.{IsTrue}
use Rattle.std.proofs.lemmas.Bool.{false≢true}
use Rattle.httparse.specs.Grammar.{RequestHead, print_request, ReadsRequest}
use Rattle.httparse.proofs.GrammarLemmas.{request_unique}
use Rattle.http_chunks.specs.Chunked.{ReadsChunks, ReadsChunked, NeverChunked, Overflows}
use Rattle.http_frames.specs.declared.refusal.FrameErr.{FrameErr}
use Rattle.http_frames.specs.declared.refusal.FrameErr.TheVariants.{TooLong, BadChunk}
use Rattle.http_frames.specs.HeadRules.{fields_of, head_refusal, is_chunked, content_length}
use Rattle.http_chunks.specs.ChunkSteps.{MayEnd}
use Rattle.http_chunks.specs.ContentSteps.{IsCalm, IsFlooded}
use Rattle.http_frames.specs.Requests.{ReadsHead, ReadsLength, ReadsBody, ReadsWhole, HasNoWhole, Meets, IsRefused, IsAccepted}
use Rattle.http_chunks.proofs.SplitLemmas.{split_append}
use Rattle.http_chunks.proofs.FrontLemmas.{none_is_some}
use Rattle.http_frames.proofs.RowLemmas.{row_of, long_head, bad_head, refused_head, long_chunks, bad_chunks, head_before, whole_front}

-- the rows that a front of a request with an accepted head can meet
pub record ChunkRow (h : RequestHead) (e : FrameErr) (after back : List ℕ) : Type 0 where
  pub chunked : IsTrue (is_chunked (fields_of h))
  pub content : List ℕ
  pub cut : after ≡ content ++ back
  pub row : ((e ≡ TooLong) × Overflows content) ⊎ ((e ≡ BadChunk) × NeverChunked content)

pub only_chunk_rows : (text : List ℕ) (h : RequestHead) (after front back : List ℕ) (e : FrameErr) → ReadsHead text h after
    → text ≡ front ++ back → Meets e front → ChunkRow h e after back
only_chunk_rows text h after front back e head whole meets = elim (row_of e front meets) [
  | long_head is long none may ↦ elim (split_append front back (print_request h) after (sym whole ∙ head.reads.1)) [
    | inl (m, longer, rest) ↦ absurd (none h m (head.reads.0, longer))
    | inr (m, shorter, rest) ↦
        let same = whole_front (print_request h) front m shorter (omega (arith, head.short)) in
        absurd (none h [] (head.reads.0, same ∙ sym (append-nil (print_request h))))
  ]
  | bad_head is never outside ↦
      let P : List ℕ → Type 0 = λ t. ReadsRequest t h after in
      absurd (never back h after (subst P whole head.reads))
  | refused_head k there broken ↦
      let same = request_unique text k h back after (head_before text front back k [] whole there) head.reads in
      absurd (none_is_some e (sym head.accepted ∙ ap head_refusal (sym same.0) ∙ broken))
  | long_chunks is k a there chunked over ↦
      let same = request_unique text k h (a ++ back) after (head_before text front back k a whole there.reads) head.reads in
      let P : RequestHead → Type 0 = λ x. IsTrue (is_chunked (fields_of x)) in
      record { chunked = subst P same.0 chunked; content = a; cut = sym same.1; row = inl (is, over) }
  | bad_chunks is k a there chunked never ↦
      let same = request_unique text k h (a ++ back) after (head_before text front back k a whole there.reads) head.reads in
      let P : RequestHead → Type 0 = λ x. IsTrue (is_chunked (fields_of x)) in
      record { chunked = subst P same.0 chunked; content = a; cut = sym same.1; row = inr (is, never) }
]

-- a whole request there has this head
record Content (text : List ℕ) (h : RequestHead) (after body rest : List ℕ) : Type 0 where
  content : ReadsBody h after body rest

content_of : (text : List ℕ) (h : RequestHead) (after : List ℕ) (head : RequestHead) (body rest : List ℕ) → ReadsHead text h after
    → ReadsWhole text head body rest → Content text h after body rest
content_of text h after head body rest is whole =
    let same = request_unique text head h whole.after after whole.heads.reads is.reads in
    let P : RequestHead → Type 0 = λ k. ReadsBody k whole.after body rest in
    let Q : List ℕ → Type 0 = λ a. ReadsBody h a body rest in
    record { content = subst Q same.1 (subst P same.0 whole.content) }

never_may : (a back : List ℕ) (may : MayEnd (a ++ back)) → NeverChunked a → ⊥
never_may a back may never =
    let P : List ℕ → Type 0 = λ t. ReadsChunked t may.chunks may.ending [] in
    never (back ++ may.more) may.chunks may.ending [] (subst P (append_assoc a back may.more) may.reads)

chunks_of : (text : List ℕ) (h : RequestHead) (after body rest : List ℕ) → is_chunked (fields_of h) ≡ true → Content text h after body rest → ReadsChunks after body rest
chunks_of text h after body rest chunked is = rw chunked at is.content

length_of : (text : List ℕ) (h : RequestHead) (after body rest : List ℕ) → is_chunked (fields_of h) ≡ false → Content text h after body rest
    → ReadsLength after (content_length (fields_of h)) body rest
length_of text h after body rest plain is = rw plain at is.content

pub whole_chunks : (text : List ℕ) (h : RequestHead) (after body rest : List ℕ) → ReadsHead text h after → is_chunked (fields_of h) ≡ true
    → ReadsChunks after body rest → ReadsWhole text h body rest
whole_chunks text h after body rest is chunked reads = record { after = after; heads = is; content = rw chunked reads }

pub whole_length : (text : List ℕ) (h : RequestHead) (after body rest : List ℕ) → ReadsHead text h after → is_chunked (fields_of h) ≡ false
    → ReadsLength after (content_length (fields_of h)) body rest → ReadsWhole text h body rest
whole_length text h after body rest is plain reads = record { after = after; heads = is; content = rw plain reads }

pub need_chunks : (text : List ℕ) (h : RequestHead) (after : List ℕ) → ReadsHead text h after → is_chunked (fields_of h) ≡ true
    → IsCalm after → MayEnd after → HasNoWhole text × IsAccepted text
need_chunks text h after is chunked calm may = (
  λ head body rest whole. calm.none body rest (chunks_of text h after body rest chunked (content_of text h after head body rest is whole)),
  λ front back e cut meets.
      let row = only_chunk_rows text h after front back e is cut meets in
      elim row.row [
        | inl (same, over) ↦ calm.calm row.content back row.cut over
        | inr (same, never) ↦ never_may row.content back (subst MayEnd row.cut may) never
      ],
)

pub bad_content : (text : List ℕ) (h : RequestHead) (after : List ℕ) → ReadsHead text h after → is_chunked (fields_of h) ≡ true
    → IsCalm after → NeverChunked after → IsRefused text BadChunk
bad_content text h after is chunked calm never = record {
  prefix = text;
  rest = [];
  whole = sym (append-nil text);
  meets = (h, after, is, chunked, never);
  alone = λ front back e cut meets.
      let row = only_chunk_rows text h after front back e is cut meets in
      elim row.row [
        | inl (same, over) ↦ absurd (calm.calm row.content back row.cut over)
        | inr (same, never_so) ↦ same
      ];
}

pub long_content : (text : List ℕ) (h : RequestHead) (after : List ℕ) → ReadsHead text h after → is_chunked (fields_of h) ≡ true
    → IsFlooded after → IsRefused text TooLong
long_content text h after is chunked flood =
    let prefix = print_request h ++ flood.front in
    let head : ReadsHead prefix h flood.front = record { reads = (is.reads.0, refl); short = is.short; accepted = is.accepted } in
    record {
      prefix = prefix;
      rest = flood.back;
      whole = is.reads.1 ∙ ap (λ (t : List ℕ). print_request h ++ t) flood.whole ∙ sym (append_assoc (print_request h) flood.front flood.back);
      meets = inr (h, flood.front, head, chunked, flood.over);
      alone = λ front back e cut meets.
          let row = only_chunk_rows prefix h flood.front front back e head cut meets in
          elim row.row [
            | inl (same, over) ↦ same
            | inr (same, never) ↦ absurd (never_may row.content back (subst MayEnd row.cut flood.may) never)
          ];
    }

pub need_length : (text : List ℕ) (h : RequestHead) (after : List ℕ) → ReadsHead text h after → is_chunked (fields_of h) ≡ false
    → length after < content_length (fields_of h) → HasNoWhole text × IsAccepted text
need_length text h after is plain few = (
  λ head body rest whole.
      let reads = length_of text h after body rest plain (content_of text h after head body rest is whole) in
      omega (arith, ap length reads.whole, length-append body rest, reads.counts),
  λ front back e cut meets.
      let row = only_chunk_rows text h after front back e is cut meets in
      false≢true (sym plain ∙ row.chunked),
)
