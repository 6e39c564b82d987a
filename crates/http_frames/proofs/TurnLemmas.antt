-- What the bytes from the start of a request on hold next.
use Rattle.std.proofs.Common.{◌≡◌, ℕ, ◌+◌, ◌≤◌, Bool, true, false, cond, not, ◌&&◌, List, [], ◌++◌, length, drop, Option, Some, None, refl, sym, ap, ◌∙◌, subst, arith, nat_lt, append_assoc, length-append}
use Rattle.std.specs.Prelude.{unwrap_or}
use Rattle.std.proofs.lemmas.Bool.{false≢true}
use Rattle.std.proofs.lemmas.List.{drop_at}
use Rattle.std.proofs.lemmas.List.Elements.{All-nil}
use Rattle.httparse.specs.Grammar.{RequestHead, print_request}
use Rattle.httparse.proofs.GrammarLemmas.{request_unique, ReadsRequest-append}
use Rattle.http_chunks.specs.Chunked.{BODY_LIMIT, IsChunk}
use Rattle.http_frames.specs.HeadRules.{fields_of, is_chunked, is_bad_length, content_length, asks_to_continue, request_of}
use Rattle.http_frames.specs.HeadReading.{head_of, HasNoHead}
use Rattle.http_frames.specs.Requests.{ReadsHead}
use Rattle.http_frames.specs.Framing.{IsQuiet}
use Rattle.http_frames.specs.Progress.{IsBody, HoldsContent, IsSound, IsWholeAt}
use Rattle.http_frames.specs.Turns.{IsAsking, IsRequestTo}
use Rattle.side_base.specs.declared.message.Request.{Request}
use Rattle.http_frames.specs.declared.head.Head.{Head}
use Rattle.http_frames.specs.declared.progress.Content.{Content}
use Rattle.http_frames.specs.declared.rules.Said.{Said}
use Rattle.http_frames.specs.Said.{IsSaid, asks}
use Rattle.http_frames.proofs.ProgressLemmas.{accepted_length, accepted_short}
use Rattle.http_frames.proofs.SaidLemmas.{chunked_same, length_same, asks_same}
use Rattle.http_chunks.specs.LinePlaces.{IsLooked, beginning_of_line}
use Rattle.http_chunks.specs.declared.line_place.LinePlace.{LinePlace}
use Rattle.http_chunks.proofs.InChunksLemmas.{more_in_chunks}
use Rattle.http_chunks.proofs.LinePlaceLemmas.{looked_first, looked_more}

-- where the head that was taken was answered, or does not ask, no other is left unanswered
pub quiet_of : (pending rest : List ℕ) (content : Content) (continued : Bool) → HoldsContent pending rest content
    → (asks_to_continue content.head.minor content.head.fields ≡ true → continued ≡ true) → IsQuiet pending continued
quiet_of pending rest content continued is told head after there asks =
    let same = request_unique pending head is.head after is.after there.reads is.heads.reads in
    told (ap (λ (x : Head). asks_to_continue x.minor x.fields) is.parts
    ∙ ap (λ (k : RequestHead). asks_to_continue k.minor (fields_of k)) (sym same.0) ∙ asks)

pub quiet_none : (pending : List ℕ) (continued : Bool) → HasNoHead pending → IsQuiet pending continued
quiet_none pending continued none head after there asks = absurd (none head after there)

pub told_of : (continued asks : Bool) → (not continued && asks) ≡ false → asks ≡ true → continued ≡ true
told_of true asks e asking = refl
told_of false asks e asking = absurd (false≢true (sym e ∙ asking))

-- a head that was just taken, with nothing of its content
pub first_content : (pending : List ℕ) (h : RequestHead) (after : List ℕ) (head : Head) (said : Said) (bytes : List ℕ) (left : Option ℕ) (looked : LinePlace)
    → ReadsHead pending h after → head ≡ head_of h → bytes ≡ [] → left ≡ cond (is_chunked head.fields) None (Some (content_length head.fields)) → looked ≡ beginning_of_line
    → HoldsContent pending (drop head.len pending) (record { head = head; said = said; body = record { bytes = bytes; left = left; looked = looked } })
first_content pending h after head said bytes left looked heads parts empty due nothing =
    let behind : after ≡ drop head.len pending =
    sym (ap (drop head.len) heads.reads.1 ∙ drop_at (print_request h) after head.len (sym (ap (λ (x : Head). x.len) parts))) in
    record {
      head = h;
      after = after;
      heads = heads;
      parts = parts;
      body = first_body (is_chunked head.fields) (content_length head.fields) after (drop head.len pending) bytes left behind empty due;
      looked = let P : LinePlace → Type 0 = λ place. IsLooked (drop head.len pending) left place in subst P (sym nothing) (looked_first left (drop head.len pending));
    }
  where
    first_body : (b : Bool) (len : ℕ) (after rest bytes : List ℕ) (left : Option ℕ) → after ≡ rest → bytes ≡ [] → left ≡ cond b None (Some len) → IsBody b len after rest bytes left
    first_body true len after rest bytes left behind empty due =
        let P : Option ℕ → Type 0 = λ l. IsBody true len after rest bytes l in
        subst P (sym due) (record { chunks = []; each = All-nil IsChunk; whole = behind; joins = empty; short = omega (arith, ap length empty) })
    first_body false len after rest bytes left behind empty due =
        let P : Option ℕ → Type 0 = λ l. IsBody false len after rest bytes l in
        subst P (sym due) (record { whole = behind ∙ ap (λ (t : List ℕ). t ++ rest) (sym empty); counts = omega (arith, ap length empty) })

pub head_inside : (pending : List ℕ) (h : RequestHead) (after : List ℕ) (head : Head) → ReadsHead pending h after → head ≡ head_of h → head.len ≤ length pending
head_inside pending h after head heads parts =
    omega (arith, ap (λ (x : Head). x.len) parts, ap length heads.reads.1, length-append (print_request h) after)

-- the length of its content can be told, and is within the limit
pub head_sound : (pending : List ℕ) (h : RequestHead) (after : List ℕ) (head : Head) → ReadsHead pending h after → head ≡ head_of h
    → (is_bad_length head.fields ≡ false) × (content_length head.fields ≤ BODY_LIMIT)
head_sound pending h after head heads parts =
    let P : Head → Type 0 = λ x. (is_bad_length x.fields ≡ false) × (content_length x.fields ≤ BODY_LIMIT) in
    subst P (sym parts) (accepted_length h.minor (fields_of h) heads.accepted, accepted_short h.minor (fields_of h) heads.accepted)

-- what is due at first, by what the fields say
pub due_same : (head : Head) (said : Said) (left : Option ℕ) → IsSaid head.fields said → is_bad_length head.fields ≡ false
    → left ≡ cond (nat_lt 0 said.codings) None (Some said.length) → left ≡ cond (is_chunked head.fields) None (Some (content_length head.fields))
due_same head said left is good due =
    due ∙ (λ i. cond (chunked_same head.fields said is i) None (Some (length_same head.fields said is good i)))

pub first_bounded : (b : Bool) (len : ℕ) (bytes : List ℕ) (left : Option ℕ) → bytes ≡ [] → len ≤ BODY_LIMIT → left ≡ cond b None (Some len)
    → length bytes + unwrap_or left 0 ≤ BODY_LIMIT
first_bounded true len bytes left empty short due = omega (arith, ap length empty, ap (λ (l : Option ℕ). unwrap_or l 0) due)
first_bounded false len bytes left empty short due = omega (arith, ap length empty, ap (λ (l : Option ℕ). unwrap_or l 0) due)

-- what was read of a content was read as the bytes go on
grown_body : (b : Bool) (len : ℕ) (all rest more content : List ℕ) (left : Option ℕ) → IsBody b len all rest content left
    → IsBody b len (all ++ more) (rest ++ more) content left
grown_body true len all rest more content left is = more_in_chunks all rest more content left is
grown_body false len all rest more content None is = is
grown_body false len all rest more content (Some left) is = record {
  whole = ap (λ (t : List ℕ). t ++ more) is.whole ∙ append_assoc content rest more;
  counts = is.counts;
}

-- the content that is held is held as the bytes go on
pub grown_content : (pending rest more : List ℕ) (content : Content) → HoldsContent pending rest content
    → HoldsContent (pending ++ more) (rest ++ more) content
grown_content pending rest more content is = record {
  head = is.head;
  after = is.after ++ more;
  heads = record {
    reads = ReadsRequest-append pending is.head is.after more is.heads.reads;
    short = is.heads.short;
    accepted = is.heads.accepted;
  };
  parts = is.parts;
  body = grown_body (is_chunked content.head.fields) (content_length content.head.fields) is.after rest more content.body.bytes content.body.left is.body;
  looked = looked_more content.body.left rest more content.body.looked is.looked;
}

-- what is asked for, by what the fields say
pub due_is : (continued b : Bool) (content : Content) → IsSound content → (not continued && asks content.head.minor content.said) ≡ b
    → (not continued && asks_to_continue content.head.minor content.head.fields) ≡ b
due_is continued b content sound e =
    sym (ap (λ a. not continued && a) (asks_same content.head.minor content.head.fields content.said sound.said sound.length_is)) ∙ e

both_true : (a b : Bool) → (not a && b) ≡ true → (a ≡ false) × (b ≡ true)
both_true true b e = absurd (false≢true e)
both_true false b e = (refl, e)

-- `Continue` is due
pub due_of : (pending rest : List ℕ) (content : Content) (continued : Bool) (is : HoldsContent pending rest content)
    → (not continued && asks_to_continue content.head.minor content.head.fields) ≡ true → IsAsking pending × (continued ≡ false)
due_of pending rest content continued is e =
    let parts = both_true _ _ e in (
      record {
        head = is.head;
        after = is.after;
        heads = is.heads;
        asks = ap (λ (x : Head). asks_to_continue x.minor x.fields) (sym is.parts) ∙ parts.1;
      },
      parts.0,
    )

-- a whole request is given
pub whole_turn : (pending rest rest' : List ℕ) (content new : Content) (continued : Bool) (request : Request) (len : ℕ) → HoldsContent pending rest content
    → (whole : IsWholeAt pending rest' new len) → (asks_to_continue content.head.minor content.head.fields ≡ true → continued ≡ true)
    → request ≡ request_of whole.head new.body.bytes → IsRequestTo pending (drop len rest') continued request
whole_turn pending rest rest' content new continued request len is whole told same = record {
  head = whole.head;
  body = new.body.bytes;
  whole = whole.whole;
  is = same;
  told = quiet_of pending rest content continued is told whole.head whole.whole.after whole.whole.heads;
}
