-- What the content that came so far leads to.
use Rattle.std.proofs.Common.{◌≡◌, ℕ, ◌<◌, ◌≤◌, Bool, true, false, cond, List, ◌++◌, length, drop, slice_range, Option, Some, None, refl, sym, ap, ◌∙◌, subst, arith, nat_lt, append_assoc, length-append}
use Rattle.std.proofs.lemmas.Bool.Decides.{nat_tests}
use Rattle.side_base.specs.declared.message.Field.{Field}
use Rattle.http_chunks.specs.Chunked.{BODY_LIMIT, ReadsChunks, NeverChunked}
use Rattle.http_frames.specs.declared.refusal.FrameErr.{FrameErr}
use Rattle.http_frames.specs.declared.refusal.FrameErr.TheVariants.{TooManyHeaders, BadHost, BothLengths, TransferCoding, BadLength, Coding, TooLong, BadChunk}
use Rattle.http_frames.specs.declared.head.Head.{Head}
use Rattle.http_chunks.specs.declared.content.Body.{Body}
use Rattle.http_frames.specs.declared.progress.Content.{Content}
use Rattle.http_frames.specs.HeadRules.{fields_of, fields_refusal, is_chunked, is_bad_length, content_length}
use Rattle.http_chunks.specs.ChunkSteps.{MayEnd}
use Rattle.http_chunks.specs.ContentSteps.{IsInChunks, IsTaken, IsCalm, IsFlooded}
use Rattle.http_frames.specs.Requests.{HasNoWhole, IsRefused, IsAccepted}
use Rattle.http_frames.specs.Progress.{IsInLength, IsBody, HoldsContent, IsWholeAt}
use Rattle.http_frames.proofs.RequestLemmas.{whole_chunks, whole_length, need_chunks, need_length, bad_content, long_content}
use Rattle.http_chunks.proofs.FrontLemmas.{none_is_some}
use Rattle.http_chunks.proofs.InChunksLemmas.{split_range, range_len}
use Rattle.http_chunks.specs.LinePlaces.{IsLooked}
use Rattle.http_chunks.proofs.LinePlaceLemmas.{looked_within}

-- the rules that an accepted head does not break
past : {Q : Type 0} (b : Bool) (x : FrameErr) (others : Option FrameErr) → (others ≡ None → Q) → cond b (Some x) others ≡ None → Q
past true x others next e = absurd (none_is_some x (sym e))
past false x others next e = next e

falls : (b : Bool) (x : FrameErr) (others : Option FrameErr) → cond b (Some x) others ≡ None → b ≡ false
falls true x others e = absurd (none_is_some x (sym e))
falls false x others e = refl

pub accepted_length : (minor : ℕ) (fields : List Field) → fields_refusal minor fields ≡ None → is_bad_length fields ≡ false
unfolding fields_refusal
accepted_length minor fields e =
    past _ TooManyHeaders _ (past _ BadHost _ (past _ BothLengths _ (past _ TransferCoding _ (falls (is_bad_length fields) BadLength _)))) e

-- the length of an accepted head's content is within the limit
pub accepted_short : (minor : ℕ) (fields : List Field) → fields_refusal minor fields ≡ None → content_length fields ≤ BODY_LIMIT
unfolding fields_refusal
accepted_short minor fields e =
    let over = past _ TooManyHeaders _ (past _ BadHost _ (past _ BothLengths _ (past _ TransferCoding _ (past _ BadLength _ (past _ Coding _ (falls (nat_lt BODY_LIMIT (content_length fields)) TooLong _)))))) e in
    grind (arith, nat_tests, over)

-- ---- content in chunks

chunked_is : (pending rest : List ℕ) (content : Content) (b : Bool) (is : HoldsContent pending rest content) → is_chunked content.head.fields ≡ b
    → is_chunked (fields_of is.head) ≡ b
chunked_is pending rest content b is e = ap (λ (h : Head). is_chunked h.fields) (sym is.parts) ∙ e

pub chunks_of : (pending rest : List ℕ) (content : Content) (is : HoldsContent pending rest content) → is_chunked content.head.fields ≡ true
    → IsInChunks is.after rest content.body.bytes content.body.left
chunks_of pending rest content is chunked =
    let P : Bool → Type 0 = λ b. IsBody b (content_length content.head.fields) is.after rest content.body.bytes content.body.left in subst P chunked is.body

-- the head stays, and more of the content was read
pub kept_content : (pending rest rest' : List ℕ) (content : Content) (body' : Body) (is : HoldsContent pending rest content) → is_chunked content.head.fields ≡ true
    → IsInChunks is.after rest' body'.bytes body'.left → IsLooked rest' body'.left body'.looked → HoldsContent pending rest' (record { head = content.head; said = content.said; body = body' })
kept_content pending rest rest' content body' is chunked chunks looked =
    let P : Bool → Type 0 = λ b. IsBody b (content_length content.head.fields) is.after rest' body'.bytes body'.left in
    record { head = is.head; after = is.after; heads = is.heads; parts = is.parts; body = subst P (sym chunked) chunks; looked = looked }

pub chunks_whole : (pending rest rest' : List ℕ) (content : Content) (body' : Body) (len : ℕ) (is : HoldsContent pending rest content)
    → is_chunked content.head.fields ≡ true → ReadsChunks is.after body'.bytes (drop len rest')
    → IsWholeAt pending rest' (record { head = content.head; said = content.said; body = body' }) len
chunks_whole pending rest rest' content body' len is chunked reads = record {
  head = is.head;
  parts = is.parts;
  whole = whole_chunks pending is.head is.after body'.bytes (drop len rest') is.heads (chunked_is pending rest content true is chunked) reads;
}

pub chunks_need : (pending rest : List ℕ) (content : Content) (is : HoldsContent pending rest content) → is_chunked content.head.fields ≡ true
    → IsCalm is.after × MayEnd is.after → HasNoWhole pending × IsAccepted pending
chunks_need pending rest content is chunked both = need_chunks pending is.head is.after is.heads (chunked_is pending rest content true is chunked) both.0 both.1

pub chunks_long : (pending rest : List ℕ) (content : Content) (is : HoldsContent pending rest content) → is_chunked content.head.fields ≡ true
    → IsFlooded is.after → IsRefused pending TooLong
chunks_long pending rest content is chunked flood = long_content pending is.head is.after is.heads (chunked_is pending rest content true is chunked) flood

pub chunks_bad : (pending rest : List ℕ) (content : Content) (is : HoldsContent pending rest content) → is_chunked content.head.fields ≡ true
    → IsCalm is.after × NeverChunked is.after → IsRefused pending BadChunk
chunks_bad pending rest content is chunked both = bad_content pending is.head is.after is.heads (chunked_is pending rest content true is chunked) both.0 both.1

-- ---- content of a known length

length_of : (pending rest : List ℕ) (content : Content) (left : ℕ) (is : HoldsContent pending rest content) → is_chunked content.head.fields ≡ false
    → content.body.left ≡ Some left → IsInLength is.after rest (content_length content.head.fields) content.body.bytes left
length_of pending rest content left is plain so =
    let P : Bool → Option ℕ → Type 0 = λ b l. IsBody b (content_length content.head.fields) is.after rest content.body.bytes l in
    let Q : Bool → Type 0 = λ b. P b content.body.left in
    subst (P false) so (subst Q plain is.body)

-- no length is known between chunks
pub length_known : (pending rest : List ℕ) (content : Content) → HoldsContent pending rest content → is_chunked content.head.fields ≡ false
    → content.body.left ≡ None → ⊥
length_known pending rest content is plain so =
    let P : Bool → Option ℕ → Type 0 = λ b l. IsBody b (content_length content.head.fields) is.after rest content.body.bytes l in
    let Q : Bool → Type 0 = λ b. P b content.body.left in
    subst (P false) so (subst Q plain is.body)

-- more of the content was taken
taken_of : (all text : List ℕ) (len at at' : ℕ) (body body' : Body) (left due : ℕ) → IsTaken text at at' body body' left due
    → IsInLength all (drop at text) len body.bytes left → IsInLength all (drop at' text) len body'.bytes due
taken_of all text len at at' body body' left due is was =
    let bytes = slice_range text at at' in
    let count = range_len text at at' is.forward is.within in
    record {
      whole = was.whole ∙ ap (λ (t : List ℕ). body.bytes ++ t) (split_range text at at' is.forward) ∙ sym (append_assoc body.bytes bytes (drop at' text))
          ∙ ap (λ (t : List ℕ). t ++ drop at' text) (sym is.bytes);
      counts = omega (arith, was.counts, ap length is.bytes, length-append body.bytes bytes, count, is.counts);
    }

pub length_taken : (pending text : List ℕ) (at at' : ℕ) (content : Content) (body' : Body) (left due : ℕ) → HoldsContent pending (drop at text) content
    → is_chunked content.head.fields ≡ false → content.body.left ≡ Some left → IsTaken text at at' content.body body' left due
    → HoldsContent pending (drop at' text) (record { head = content.head; said = content.said; body = body' })
length_taken pending text at at' content body' left due is plain so taken =
    let P : Bool → Option ℕ → Type 0 = λ b l. IsBody b (content_length content.head.fields) is.after (drop at' text) body'.bytes l in
    let Q : Bool → Type 0 = λ b. P b body'.left in
    let more = taken_of is.after text (content_length content.head.fields) at at' content.body body' left due taken (length_of pending (drop at text) content left is plain so) in
    record {
      head = is.head;
      after = is.after;
      heads = is.heads;
      parts = is.parts;
      body = subst Q (sym plain) (subst (P false) (sym taken.left_is) more);
      looked = looked_within (drop at' text) body'.left body'.looked due taken.left_is;
    }

pub length_need : (pending rest : List ℕ) (content : Content) (left : ℕ) → HoldsContent pending rest content → is_chunked content.head.fields ≡ false
    → content.body.left ≡ Some left → length rest ≡ 0 → 0 < left → HasNoWhole pending × IsAccepted pending
length_need pending rest content left is plain so none some =
    let reads = length_of pending rest content left is plain so in
    need_length pending is.head is.after is.heads (chunked_is pending rest content false is plain)
    (omega (arith, ap length reads.whole, length-append content.body.bytes rest, reads.counts, none, number_is pending rest content is))
  where
    number_is : (pending rest : List ℕ) (content : Content) (is : HoldsContent pending rest content) → content_length content.head.fields ≡ content_length (fields_of is.head)
    number_is pending rest content is = ap (λ (h : Head). content_length h.fields) is.parts

pub length_whole : (pending rest : List ℕ) (content : Content) → HoldsContent pending rest content → is_chunked content.head.fields ≡ false
    → content.body.left ≡ Some 0 → IsWholeAt pending rest content 0
length_whole pending rest content is plain so =
    let reads = length_of pending rest content 0 is plain so in
    record {
      head = is.head;
      parts = is.parts;
      whole = whole_length pending is.head is.after content.body.bytes rest is.heads (chunked_is pending rest content false is plain) (record {
        counts = omega (arith, reads.counts, ap (λ (h : Head). content_length h.fields) is.parts);
        whole = reads.whole;
      });
    }
