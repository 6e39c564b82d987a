-- A session that goes on.
use Rattle.std.proofs.Common.{◌≡◌, ℕ, suc, ◌+◌, Bool, true, false, List, [], ◌∷◌, ◌++◌, ◌<◌, ◌≤◌, length, flat_map, inl, inr, Option, Some, None, is_some, Result, Ok, refl, sym, ap, subst, ◌∙◌, arith, append_assoc, append-nil, length-append, if◌then◌else◌}
use Rattle.std.proofs.lemmas.List.{map-append}
use Rattle.std.proofs.lemmas.List.Elements.{All-nil, All-push}
use Rattle.std.proofs.lemmas.Grind.{flat_map-append}
use Rattle.side_base.specs.declared.message.Request.{Request}
use Rattle.side_base.specs.declared.message.Response.{Response}
use Rattle.side_world.specs.Told.{Told}
use Rattle.side_world.proofs.Composed.{told_nothing, took_nothing, took_on, told_on}
use Rattle.turn_cell.specs.declared.error.ApiErr.{ApiErr}
use Rattle.http_frames.specs.Framing.{State, waiting, fed, grown}
use Rattle.http_frames.specs.Written.{written, continue_bytes}
use Rattle.http_frames.specs.Streams.{IsMarked, IsWholeStream, Midway, GivesRequest, GivesContinue, asks}
use Rattle.http_frames.specs.declared.refusal.FrameErr.{FrameErr}
use Rattle.conn_serve.specs.declared.ended.Ended.{Ended}
use Rattle.conn_serve.specs.Exchanged.{Exchanged, AreAnswered, IsMark, IsStop, request_in, is_head, answer_bytes, out_of, wholes_of}
use Rattle.conn_serve.specs.Ends.{SinkAt, SourceAt, Sent, Cut, Passed, ReadOnce, IsFinish}
use Rattle.conn_serve.specs.Going.{Gathering, Going, mark_at}
use Rattle.conn_serve.specs.Answering.{MakesRoom, keeps, sends, breaks}
use Rattle.conn_serve.specs.Sending.{SentBeforeRead, GathersFew}
use Rattle.conn_serve.proofs.Moved.{two_sent, sent_then_cut, finish_after}
use Rattle.conn_serve.proofs.Sending.{nothing_read, read_on, before_on, before_more, gathers_none, gathers_beside, gathers_more, few_of, few_with}

module _ {E : Type 0} (exchange : Request → List E → Result Response ApiErr → Type 0) where
  -- one more answered request
  pub one_more : (n : ℕ) (done : List (Exchanged E)) (x : Exchanged E) → AreAnswered exchange n done → exchange (request_in x.whole) x.trace (Ok x.response) → IsStop (n + length done) (request_in x.whole) x.stop → AreAnswered exchange n (done ++ x ∷ [])
  one_more n [] x so-far ran stop = (ran, subst (λ (k : ℕ). IsStop k (request_in x.whole) x.stop) (omega arith) stop, tt)
  one_more n (y ∷ done) x so-far ran stop = (so-far.0, so-far.1, one_more (suc n) done x so-far.2 ran (subst (λ (k : ℕ). IsStop k (request_in x.whole) x.stop) (omega arith) stop))

  -- nothing was read yet
  pub begun : (did : List E → Type 0) (source : SourceAt) (sink : SinkAt) → did [] → Midway [] [] (waiting [] false) → Going exchange did source source sink sink (waiting [] false) 0 []
  begun did source sink none-done midway = record {
    bytes = [];
    done = [];
    midway = midway;
    answered = tt;
    going = All-nil (λ (x : Exchanged E). x.stop ≡ None);
    count = refl;
    below = omega arith;
    acted = none-done;
    passed = record { sent = []; went = record { told = told_nothing sink.contents; no_fault = refl }; whole = refl };
    before_read = nothing_read source sink;
    gathering = gathers_none [] [] sink sink ([], told_nothing sink.contents);
    read = record { took = took_nothing source.left; taken = told_nothing source.taken; no_fault = refl };
  }

out_more : {E : Type 0} (done : List (Exchanged E)) (x : Exchanged E) → out_of (done ++ x ∷ []) ≡ out_of done ++ answer_bytes x
out_more done x = flat_map-append answer_bytes done (x ∷ []) ∙ ap (λ l. out_of done ++ l) (append-nil (answer_bytes x))

pub marks : (asking continued : Bool) → asking ≡ continued → (if asking then continue_bytes else []) ≡ mark_at continued
marks true continued is = subst (λ b. continue_bytes ≡ mark_at b) is refl
marks false continued is = subst (λ b. [] ≡ mark_at b) is refl

pub marked_is : (rest : List ℕ) (continued : Bool) → IsMarked rest continued → IsMark rest (mark_at continued)
marked_is rest true asking = inl (asking, refl)
marked_is rest false asking = inr (asking, refl)

module _ {E : Type 0} (exchange : Request → List E → Result Response ApiErr → Type 0) (did : List E → Type 0) (source source' : SourceAt) (sink sink' : SinkAt) (state : State) (number : ℕ) (out : List ℕ) (g : Going exchange did source source' sink sink' state number out) where
  -- all that is to be sent, where this comes behind what is gathered
  behind : (extra : List ℕ) → g.passed.sent ++ (out ++ extra) ≡ out_of g.done ++ mark_at state.continued ++ extra
  behind extra = sym (append_assoc g.passed.sent out extra) ∙ ap (λ l. l ++ extra) g.passed.whole

  -- the session ends, and this was the last to be sent
  pub finish_all : (ended : Ended) (extra : List ℕ) (sink'' : SinkAt) (result : Ended) → IsFinish ended (out ++ extra) sink' sink'' result → IsFinish ended (out_of g.done ++ mark_at state.continued ++ extra) sink sink'' result
  finish_all ended extra sink'' result how = subst (λ l. IsFinish ended l sink sink'' result) (behind extra) (finish_after ended g.passed.sent (out ++ extra) sink sink' sink'' result g.passed.went how)

  -- all that was gathered was sent, or is cut
  pub sent_all : (sink'' : SinkAt) → Sent out sink' sink'' → Sent (out_of g.done ++ mark_at state.continued) sink sink''
  sent_all sink'' sent = subst (λ l. Sent l sink sink'') g.passed.whole (two_sent g.passed.sent out sink sink' sink'' g.passed.went sent)

  pub cut_all : (sink'' : SinkAt) → Cut out sink' sink'' → Cut (out_of g.done ++ mark_at state.continued) sink sink''
  cut_all sink'' cut = subst (λ l. Cut l sink sink'') g.passed.whole (sent_then_cut g.passed.sent out sink sink' sink'' g.passed.went cut)

  -- what the sink has of the answers, whatever it is sent then
  pub before_still : (sink'' : SinkAt) (added : List ℕ) → Told sink'.contents sink''.contents added → SentBeforeRead g.bytes g.done source source' sink sink''
  before_still sink'' added told = before_on g.bytes g.done source source' sink sink' sink'' g.before_read added told

  pub few_still : (sink'' : SinkAt) (added : List ℕ) → Told sink'.contents sink''.contents added → GathersFew g.done sink sink''
  few_still sink'' added told = few_of g.done out sink sink' sink'' g.gathering added told

  -- all that was gathered was sent, and then more bytes were read
  pub fed_on : (sink'' : SinkAt) → Sent out sink' sink'' → (piece : List ℕ) (source'' : SourceAt) → ReadOnce piece source' source'' → length piece ≤ 16384 → IsWholeStream g.bytes (wholes_of g.done) state None → Midway (g.bytes ++ piece) (wholes_of g.done) (fed state piece)
      → Going exchange did source source'' sink sink'' (fed state piece) number []
  fed_on sink'' sent piece source'' read short stream midway = record {
    bytes = g.bytes ++ piece;
    done = g.done;
    midway = midway;
    answered = g.answered;
    going = g.going;
    count = g.count;
    below = g.below;
    acted = g.acted;
    passed = subst (λ b. Passed (out_of g.done ++ mark_at b) [] sink sink'') (sym (still state.refused g.midway.waits))
        (record { sent = g.passed.sent ++ out; went = two_sent g.passed.sent out sink sink' sink'' g.passed.went sent; whole = append-nil (g.passed.sent ++ out) ∙ g.passed.whole });
    before_read = read_on g.bytes piece g.done state.pending (mark_at state.continued) source source'' sink sink'' (subst (λ z. Told source.taken z g.bytes) (sym read.last) g.read.taken) short stream.stream (marked_is state.pending state.continued stream.marked) (sent_all sink'' sent).told;
    gathering = gathers_none g.done [] sink sink'' (mark_at state.continued, (sent_all sink'' sent).told);
    read = record {
      took = took_on source.left source'.left source''.left g.bytes piece g.read.took read.read.took;
      taken = told_on source.taken source'.taken source''.taken g.bytes piece g.read.taken read.read.taken;
      no_fault = read.read.no_fault ∙ g.read.no_fault;
    };
  }
    where
      still : (refused : Option FrameErr) → refused ≡ None → (grown refused state piece).continued ≡ state.continued
      still None is = refl
      still (Some error) is = absurd (cc)

  -- `Continue` was gathered for what comes next
  pub continue_on : (state' : State) (out' : List ℕ) → GivesContinue g.bytes (wholes_of g.done) state state' → out' ≡ out ++ continue_bytes → Going exchange did source source' sink sink' state' number out'
  continue_on state' out' gives is = record {
    bytes = g.bytes;
    done = g.done;
    midway = gives.midway;
    answered = g.answered;
    going = g.going;
    count = g.count;
    below = g.below;
    acted = g.acted;
    passed = record {
      sent = g.passed.sent;
      went = g.passed.went;
      whole = ap (λ l. g.passed.sent ++ l) is ∙ behind continue_bytes ∙ ap (λ b. (out_of g.done ++ mark_at b) ++ continue_bytes) gives.untold ∙ ap (λ l. l ++ continue_bytes) (append-nil (out_of g.done)) ∙ ap (λ (z : State). out_of g.done ++ mark_at z.continued) (sym gives.told);
    };
    before_read = g.before_read;
    gathering = gathers_beside g.done out out' sink sink' (omega (arith, ap length is, length-append out continue_bytes)) g.gathering;
    read = g.read;
  }

-- one more request was answered, and the session goes on
module _ {E : Type 0} (exchange : Request → List E → Result Response ApiErr → Type 0) (did did' : List E → Type 0) (source source' : SourceAt) (sink sink' : SinkAt) (state : State) (number : ℕ) (out : List ℕ) (g : Going exchange did source source' sink sink' state number out)
    (request : Request) (state' : State) (gives : GivesRequest g.bytes (wholes_of g.done) state request state') (trace : List E) (acts : (xs : List E) → did xs → did' (xs ++ trace)) where
  abbrev pub answered_as : (response : Response) (stop : Option Ended) → Exchanged E
  answered_as response stop = record { whole = gives.whole; trace = trace; response = response; stop = stop }

  -- what is to be sent with the response
  pub with_response : (response : Response) (stop : Option Ended) → g.passed.sent ++ (out ++ written response (is_head request.method) (is_some stop)) ≡ out_of (g.done ++ answered_as response stop ∷ [])
  with_response response stop = behind exchange did source source' sink sink' state number out g (written response (is_head request.method) (is_some stop))
      ∙ ap (λ (r : Request). (out_of g.done ++ mark_at state.continued) ++ written response (is_head r.method) (is_some stop)) gives.is
      ∙ append_assoc (out_of g.done) (mark_at state.continued) (written response (is_head (request_in gives.whole).method) (is_some stop))
      ∙ ap (λ l. out_of g.done ++ (l ++ written response (is_head (request_in gives.whole).method) (is_some stop))) (sym (marks (asks gives.whole.head) state.continued gives.told))
      ∙ sym (out_more g.done (answered_as response stop))

  pub traced : (response : Response) (stop : Option Ended) → did' (flat_map (λ x. x.trace) (g.done ++ answered_as response stop ∷ []))
  traced response stop = subst did' (sym (flat_map-append (λ x. x.trace) g.done (answered_as response stop ∷ []) ∙ ap (λ l. flat_map (λ x. x.trace) g.done ++ l) (append-nil trace))) (acts (flat_map (λ x. x.trace) g.done) g.acted)

  pub answered_too : (response : Response) (stop : Option Ended) → exchange request trace (Ok response) → IsStop (number + 1) request stop → AreAnswered exchange 1 (g.done ++ answered_as response stop ∷ [])
  answered_too response stop ran stops = one_more exchange 1 g.done (answered_as response stop) g.answered (subst (λ r. exchange r trace (Ok response)) gives.is ran)
      (subst (λ r. IsStop (1 + length g.done) r stop) gives.is (subst (λ n. IsStop n request stop) (omega (arith, g.count)) stops))

  pub wholes_too : (response : Response) (stop : Option Ended) → Midway g.bytes (wholes_of (g.done ++ answered_as response stop ∷ [])) state'
  wholes_too response stop = subst (λ l. Midway g.bytes l state') (sym (map-append (λ x. x.whole) g.done (answered_as response stop ∷ []))) gives.midway

  -- what the sink has of the answers, whatever it is sent then
  pub before_with : (response : Response) (stop : Option Ended) (sink'' : SinkAt) (added : List ℕ) → Told sink'.contents sink''.contents added → SentBeforeRead g.bytes (g.done ++ answered_as response stop ∷ []) source source' sink sink''
  before_with response stop sink'' added told = before_more g.bytes g.done (answered_as response stop) source source' sink sink'' (before_still exchange did source source' sink sink' state number out g sink'' added told)

  pub few_with_it : (response : Response) (stop : Option Ended) (sink'' : SinkAt) (added : List ℕ) → Told sink'.contents sink''.contents added → GathersFew (g.done ++ answered_as response stop ∷ []) sink sink''
  few_with_it response stop sink'' added told = few_with g.done (answered_as response stop) out sink sink' sink'' g.gathering added told

  module _ (fresh : state'.continued ≡ false) (response : Response) (out' : List ℕ) (ran : exchange request trace (Ok response)) (stops : IsStop (number + 1) request None) where
    goes : (sink'' : SinkAt) (passed : Passed (out ++ written response (is_head request.method) false) out' sink' sink'') → Gathering (g.done ++ answered_as response None ∷ []) out' sink sink'' → Going exchange did' source source' sink sink'' state' (number + 1) out'
    goes sink'' passed gathering = record {
      bytes = g.bytes;
      done = g.done ++ answered_as response None ∷ [];
      midway = wholes_too response None;
      answered = answered_too response None ran stops;
      going = All-push (λ (x : Exchanged E). x.stop ≡ None) g.done (answered_as response None) g.going refl;
      count = omega (arith, g.count, length-append g.done (answered_as response None ∷ []));
      below = omega (arith, g.below, stops.2);
      acted = traced response None;
      passed = record {
        sent = g.passed.sent ++ passed.sent;
        went = two_sent g.passed.sent passed.sent sink sink' sink'' g.passed.went passed.went;
        whole = append_assoc g.passed.sent passed.sent out' ∙ ap (λ l. g.passed.sent ++ l) passed.whole ∙ with_response response None
            ∙ sym (append-nil (out_of (g.done ++ answered_as response None ∷ []))) ∙ ap (λ b. out_of (g.done ++ answered_as response None ∷ []) ++ mark_at b) (sym fresh);
      };
      before_read = before_with response None sink'' passed.sent passed.went.told;
      gathering = gathering;
      read = g.read;
    }

    -- what was gathered is kept, or was sent
    pub answered_on : (sink'' : SinkAt) → MakesRoom (out ++ written response (is_head request.method) false) out' sink' sink'' None → Going exchange did' source source' sink sink'' state' (number + 1) out'
    answered_on sink'' (keeps same kept below still) = subst (λ z. Going exchange did' source source' sink z state' (number + 1) out') (sym still)
        (goes sink' (record { sent = []; went = record { told = told_nothing sink'.contents; no_fault = refl }; whole = kept })
        (gathers_more g.done (answered_as response None) out out' sink sink' (kept ∙ ap (λ (r : Request). out ++ written response (is_head r.method) false) gives.is) (subst (λ (l : List ℕ). length l < 65536) (sym kept) below) g.gathering))
    answered_on sink'' (sends same bare sent) = goes sink'' (record { sent = out ++ written response (is_head request.method) false; went = sent; whole = ap (λ l. (out ++ written response (is_head request.method) false) ++ l) bare ∙ append-nil (out ++ written response (is_head request.method) false) })
        (gathers_none (g.done ++ answered_as response None ∷ []) out' sink sink'' (
          [],
          subst (λ l. Told sink.contents sink''.contents l) (with_response response None ∙ sym (append-nil (out_of (g.done ++ answered_as response None ∷ []))))
              (two_sent g.passed.sent (out ++ written response (is_head request.method) false) sink sink' sink'' g.passed.went sent).told,
        ))
    answered_on sink'' (breaks same cut) = absurd (cc)

pub none_of : {X : Type 0} (o : Option X) → ((x : X) → o ≡ Some x → ⊥) → o ≡ None
none_of None never = refl
none_of (Some x) never = absurd (never x refl)
