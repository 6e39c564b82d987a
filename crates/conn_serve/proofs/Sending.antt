-- What a sink has of the answers, call after call.
use Rattle.std.proofs.Common.{◌≡◌, ℕ, ◌<◌, ◌≤◌, List, [], ◌∷◌, ◌++◌, length, take, inr, refl, sym, ap, subst, ◌∙◌, arith, append_assoc, append-nil, length-append}
use Rattle.std.proofs.lemmas.Grind.{flat_map-append}
use Rattle.httparse.specs.Grammar.{RequestHead, print_request}
use Rattle.side_world.specs.Told.{Told}
use Rattle.side_world.proofs.Composed.{told_nothing, told_on}
use Rattle.http_frames.specs.Requests.{ReadsHead}
use Rattle.http_frames.specs.Streams.{IsStream}
use Rattle.conn_serve.specs.declared.ended.Ended.{Ended}
use Rattle.conn_serve.specs.Exchanged.{Exchanged, IsMark, out_of, response_bytes, responses_of, wholes_of}
use Rattle.conn_serve.specs.Ends.{SinkAt, SourceAt, SentFirst, IsFinish, wrote, failed}
use Rattle.conn_serve.specs.Sending.{SentBeforeRead, GathersFew, HadRead, reads, no_read}
use Rattle.conn_serve.specs.Going.{Gathering}

-- what was sent first stays so
first_on : (bytes : List ℕ) (sink between sink' : SinkAt) → SentFirst bytes sink between → (added : List ℕ) → Told between.contents sink'.contents added → SentFirst bytes sink sink'
first_on bytes sink between sink' first added told = (first.0 ++ added, subst (λ l. Told sink.contents sink'.contents l) (append_assoc bytes first.0 added) (told_on sink.contents between.contents sink'.contents (bytes ++ first.0) added first.1 told))

-- what was added where the session ended
pub finish_tells : (ended : Ended) (bytes : List ℕ) (sink sink' : SinkAt) (result : Ended) → IsFinish ended bytes sink sink' result → (added : List ℕ) × Told sink.contents sink'.contents added
finish_tells ended bytes sink sink' result (wrote is sent) = (bytes, sent.told)
finish_tells ended bytes sink sink' result (failed is cut) = (take cut.front.0 bytes, cut.front.2)

head_some : (head : RequestHead) → 0 < length head.method → 0 < length (print_request head)
unfolding print_request
head_some head some = simp length-append (omega arith)

-- no head stands in no bytes
no_head : (head : RequestHead) (after : List ℕ) → ReadsHead [] head after → ⊥
no_head head after is = omega (arith, ap length is.reads.1, length-append (print_request head) after, head_some head is.reads.0.method.0)

module _ {E : Type 0} where
  -- ---- before the last piece was read

  pub nothing_read : (source : SourceAt) (sink : SinkAt) → SentBeforeRead {E = E} [] [] source source sink sink
  nothing_read source sink = record {
    had = no_read refl refl refl;
    before = [];
    piece = [];
    read = refl;
    short = omega arith;
    old = [];
    new = [];
    whole = refl;
    rest = [];
    stream = record { begins = refl; none = λ head body rest is. no_head head is.after is.heads };
    mark = [];
    marked = inr (λ asking. no_head asking.head asking.after asking.heads, refl);
    sent = ([], told_nothing sink.contents);
  }

  pub read_on : (bytes piece : List ℕ) (done : List (Exchanged E)) (rest mark : List ℕ) (source source' : SourceAt) (sink sink' : SinkAt) → Told source.taken source'.earlier bytes → length piece ≤ 16384 → IsStream bytes (wholes_of done) rest → IsMark rest mark → Told sink.contents sink'.contents (out_of done ++ mark) → SentBeforeRead (bytes ++ piece) done source source' sink sink'
  read_on bytes piece done rest mark source source' sink sink' had short stream marked told = record {
    had = reads had;
    before = bytes;
    piece = piece;
    read = refl;
    short = short;
    old = done;
    new = [];
    whole = sym (append-nil done);
    rest = rest;
    stream = stream;
    mark = mark;
    marked = marked;
    sent = ([], subst (λ l. Told sink.contents sink'.contents l) (sym (append-nil (out_of done ++ mark))) told);
  }

  pub before_on : (bytes : List ℕ) (done : List (Exchanged E)) (source source' : SourceAt) (sink between sink' : SinkAt) → SentBeforeRead bytes done source source' sink between → (added : List ℕ) → Told between.contents sink'.contents added → SentBeforeRead bytes done source source' sink sink'
  before_on bytes done source source' sink between sink' b added told = record {
    had = b.had;
    before = b.before;
    piece = b.piece;
    read = b.read;
    short = b.short;
    old = b.old;
    new = b.new;
    whole = b.whole;
    rest = b.rest;
    stream = b.stream;
    mark = b.mark;
    marked = b.marked;
    sent = first_on (out_of b.old ++ b.mark) sink between sink' b.sent added told;
  }

  pub before_more : (bytes : List ℕ) (done : List (Exchanged E)) (x : Exchanged E) (source source' : SourceAt) (sink sink' : SinkAt) → SentBeforeRead bytes done source source' sink sink' → SentBeforeRead bytes (done ++ x ∷ []) source source' sink sink'
  before_more bytes done x source source' sink sink' b = record {
    had = b.had;
    before = b.before;
    piece = b.piece;
    read = b.read;
    short = b.short;
    old = b.old;
    new = b.new ++ x ∷ [];
    whole = ap (λ l. l ++ x ∷ []) b.whole ∙ append_assoc b.old b.new (x ∷ []);
    rest = b.rest;
    stream = b.stream;
    mark = b.mark;
    marked = b.marked;
    sent = b.sent;
  }

  -- a read that failed was none
  pub before_failed : (bytes : List ℕ) (done : List (Exchanged E)) (source between source' : SourceAt) (sink sink' : SinkAt) → SentBeforeRead bytes done source between sink sink' → source'.taken ≡ between.taken → source'.earlier ≡ between.earlier → SentBeforeRead bytes done source source' sink sink'
  before_failed bytes done source between source' sink sink' b taken earlier = record {
    had = still b.had;
    before = b.before;
    piece = b.piece;
    read = b.read;
    short = b.short;
    old = b.old;
    new = b.new;
    whole = b.whole;
    rest = b.rest;
    stream = b.stream;
    mark = b.mark;
    marked = b.marked;
    sent = b.sent;
  }
    where
      still : HadRead source between b.before → HadRead source source' b.before
      still (reads had) = reads (subst (λ z. Told source.taken z b.before) (sym earlier) had)
      still (no_read bare same was) = no_read bare (taken ∙ same) (earlier ∙ was)

  -- ---- what is gathered

  -- all was sent
  pub gathers_none : (done : List (Exchanged E)) (out : List ℕ) (sink sink' : SinkAt) → SentFirst (out_of done) sink sink' → Gathering done out sink sink'
  gathers_none done out sink sink' sent = record { earlier = done; late = []; whole = sym (append-nil done); sent = sent; within = omega arith; few = omega arith }

  -- more is gathered that is no response
  pub gathers_beside : (done : List (Exchanged E)) (out out' : List ℕ) (sink sink' : SinkAt) → length out ≤ length out' → Gathering done out sink sink' → Gathering done out' sink sink'
  gathers_beside done out out' sink sink' more g = record { earlier = g.earlier; late = g.late; whole = g.whole; sent = g.sent; within = omega (arith, g.within, more); few = g.few }

  responses_more : (done : List (Exchanged E)) (x : Exchanged E) → responses_of (done ++ x ∷ []) ≡ responses_of done ++ response_bytes x
  responses_more done x = flat_map-append response_bytes done (x ∷ []) ∙ ap (λ l. responses_of done ++ l) (append-nil (response_bytes x))

  -- one more response is gathered
  pub gathers_more : (done : List (Exchanged E)) (x : Exchanged E) (out out' : List ℕ) (sink sink' : SinkAt) → out' ≡ out ++ response_bytes x → length out' < 65536 → Gathering done out sink sink' → Gathering (done ++ x ∷ []) out' sink sink'
  gathers_more done x out out' sink sink' is below g = let one = ap length (responses_more g.late x) in let two = length-append (responses_of g.late) (response_bytes x) in let three = ap length is in let four = length-append out (response_bytes x) in record {
    earlier = g.earlier;
    late = g.late ++ x ∷ [];
    whole = ap (λ l. l ++ x ∷ []) g.whole ∙ append_assoc g.earlier g.late (x ∷ []);
    sent = g.sent;
    within = omega (arith, one, two, three, four, g.within);
    few = omega (arith, one, two, three, four, g.within, below);
  }

  -- what was gathered went out, or some of it
  pub few_of : (done : List (Exchanged E)) (out : List ℕ) (sink between sink' : SinkAt) → Gathering done out sink between → (added : List ℕ) → Told between.contents sink'.contents added → GathersFew done sink sink'
  few_of done out sink between sink' g added told = record {
    earlier = g.earlier;
    late = g.late;
    last = [];
    whole = g.whole ∙ sym (append-nil (g.earlier ++ g.late));
    sent = first_on (out_of g.earlier) sink between sink' g.sent added told;
    few = g.few;
    one = omega arith;
  }

  pub few_with : (done : List (Exchanged E)) (x : Exchanged E) (out : List ℕ) (sink between sink' : SinkAt) → Gathering done out sink between → (added : List ℕ) → Told between.contents sink'.contents added → GathersFew (done ++ x ∷ []) sink sink'
  few_with done x out sink between sink' g added told = record {
    earlier = g.earlier;
    late = g.late;
    last = x ∷ [];
    whole = ap (λ l. l ++ x ∷ []) g.whole;
    sent = first_on (out_of g.earlier) sink between sink' g.sent added told;
    few = g.few;
    one = omega arith;
  }
