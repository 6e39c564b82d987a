-- How a session ends.
use Rattle.std.proofs.Common.{◌≡◌, ◌≢◌, ◌⊎◌, ◌↔◌, ℕ, ◌+◌, ◌≤◌, Bool, true, false, List, [], ◌∷◌, ◌++◌, length, take, Option, Some, None, is_some, flat_map, Result, Ok, Err, refl, sym, ap, subst, ◌∙◌, inl, inr, ⊎_elim, append-nil, arith}
use Rattle.std.proofs.lemmas.List.Elements.{All-push}
use Rattle.side_base.specs.declared.message.Request.{Request}
use Rattle.side_base.specs.declared.message.Response.{Response}
use Rattle.side_world.specs.Told.{Told, Took, SentSome}
use Rattle.side_world.specs.Faults.{Rose}
use Rattle.side_world.proofs.Composed.{told_on, took_on}
use Rattle.turn_cell.specs.declared.error.ApiErr.{ApiErr}
use Rattle.turn_cell.specs.declared.error.ApiErr.TheVariants as error
use Rattle.api_error.specs.NoMemory.{no_memory_response}
use Rattle.http_frames.specs.declared.refusal.FrameErr.{FrameErr}
use Rattle.http_frames.specs.declared.refusal.FrameErr.TheVariants as refusal
use Rattle.http_frames.specs.declared.step.Step.{Step}
use Rattle.http_frames.specs.declared.step.Step.TheVariants as step
use Rattle.http_frames.specs.Framing.{State, Kept, Stands, waiting, fed, IsNext as IsNextStep, IsRequestStep, IsContinueStep, IsNeedStep}
use Rattle.http_frames.specs.Requests.{IsAccepted}
use Rattle.http_frames.specs.Written.{written, continue_bytes}
use Rattle.http_frames.specs.Streams.{GoesOn as StreamGoesOn, Whole, IsStream, Midway, GivesRequest, IsAsking, IsWholeStream, asks}
use Rattle.conn_serve.specs.declared.ended.Ended.{Ended}
use Rattle.conn_serve.specs.declared.ended.Ended.TheVariants.{Done, Closed, Asked, ClosedByPeer, Refused, Limit, Spent, SourceFailed, SinkFailed, NoMemory}
use Rattle.conn_serve.specs.Exchanged.{Exchanged, Unanswered, IsStop, IsMark, is_head, out_of, wholes_of, request_in}
use Rattle.conn_serve.specs.Session.{IsNext, Ends, sent_at, EndsSending, EndsAfter, EndsWithoutMemory, EndsRefused, EndsSpent, EndsWith, IsSpentAnswer, refused_bytes}
use Rattle.conn_serve.specs.Ends.{SinkAt, SourceAt, Sent, Cut, ReadOnce, HasEnded, HasFailed, IsFinish, wrote, failed}
use Rattle.conn_serve.specs.Sending.{SentBeforeRead}
use Rattle.conn_serve.specs.Served.{Served, NoFault, IsOver, HasCause, IsShown}
use Rattle.conn_serve.specs.Answering.{Wants, Went, Answers, Finishes, keeps, sends, breaks}
use Rattle.conn_serve.specs.Answering as wants
use Rattle.conn_serve.proofs.Moved.{finish_after, sent_then_cut}
use Rattle.conn_serve.proofs.Sending.{finish_tells, read_on, before_failed}
use Rattle.conn_serve.specs.Going.{Going, After, Continues, EndsBy, mark_at}
use Rattle.conn_serve.proofs.Going.{marks, marked_is, before_still, few_still, before_with, few_with_it, finish_all, sent_all, cut_all, fed_on, continue_on, answered_as, answered_too, traced, wholes_too, with_response, answered_on}

-- a mark that is sent is one of what comes next
mark_is : (rest : List ℕ) (continued : Bool) → (continued ≡ true → IsAsking rest) → (mark_at continued ≡ []) ⊎ IsMark rest (mark_at continued)
mark_is rest true asking = inr (inl (asking refl, refl))
mark_is rest false asking = inl refl

-- both ways to finish
elim_finish : (ended : Ended) (bytes : List ℕ) (sink sink' : SinkAt) (result : Ended) (P : Ended → Type 0) → (Sent bytes sink sink' → P ended) → (Cut bytes sink sink' → P SinkFailed) → IsFinish ended bytes sink sink' result → P result
elim_finish ended bytes sink sink' result P one other (wrote is sent) = subst P (sym is) (one sent)
elim_finish ended bytes sink sink' result P one other (failed is cut) = subst P (sym is) (other cut)

none_shown : {E : Type 0} (shows : Request → ℕ → Type 0) → IsShown {E = E} shows None
none_shown shows next count is why = absurd (cc)

module _ {E : Type 0} (exchange : Request → List E → Result Response ApiErr → Type 0) (did : List E → Type 0) (shows : Request → ℕ → Type 0) (source source' : SourceAt) (sink sink' sink'' : SinkAt) (state : State) (number : ℕ) (out : List ℕ) (g : Going exchange did source source' sink sink' state number out) where
  abbrev all : List ℕ → Type 0
  all l = Told sink.contents sink''.contents l

  abbrev front : List ℕ → Type 0
  front l = SentSome sink.contents sink''.contents l

  no_fault : {bytes : List ℕ} → Sent bytes sink sink'' → NoFault source source' sink sink''
  no_fault sent = record { read = g.read.no_fault; wrote = sent.no_fault }

  -- it ended so, with no more requests, when this was added to what was sent
  over_so : (source'' : SourceAt) (ended : Ended) → SentBeforeRead g.bytes g.done source source'' sink sink'' → (added : List ℕ) → Told sink'.contents sink''.contents added → Took source.left source''.left g.bytes → Told source.taken source''.taken g.bytes → Ends exchange g.bytes g.done None (sent_at ended all front) ended → HasCause source source'' sink sink'' ended
      → Served exchange did shows source source'' sink sink'' ended
  over_so source'' ended before added told took taken ends cause = record {
    bytes = g.bytes;
    done = g.done;
    more = None;
    session = record { answered = g.answered; ends = ends };
    took = took;
    taken = taken;
    before_read = before;
    gathered = few_still exchange did source source' sink sink' state number out g sink'' added told;
    acted = subst did (sym (append-nil (flat_map (λ x. x.trace) g.done))) g.acted;
    shown = none_shown shows;
    cause = cause;
  }

  -- the same where nothing was read since
  over_here : (ended : Ended) (added : List ℕ) → Told sink'.contents sink''.contents added → Ends exchange g.bytes g.done None (sent_at ended all front) ended → HasCause source source' sink sink'' ended → Served exchange did shows source source' sink sink'' ended
  over_here ended added told ends cause = over_so source' ended (before_still exchange did source source' sink sink' state number out g sink'' added told) added told g.read.took g.read.taken ends cause

  -- there was no memory, and no request of which steps were made
  without_memory : (sent : List ℕ → Type 0) → sent ((out_of g.done ++ mark_at state.continued) ++ no_memory_response) → EndsWithoutMemory exchange g.bytes g.done None sent
  without_memory sent was = record {
    going = g.going;
    lacks = (state.pending, g.midway.begins);
    mark = mark_at state.continued;
    rest = state.pending;
    begins = g.midway.begins;
    marked = mark_is state.pending state.continued g.midway.asking;
    wrote = was;
  }

  pub lacking : (result : Ended) → IsFinish NoMemory (out ++ no_memory_response) sink' sink'' result → Served exchange did shows source source' sink sink'' result
  lacking result how = by (finish_all exchange did source source' sink sink' state number out g NoMemory no_memory_response sink'' result how) where
    by : IsFinish NoMemory ((out_of g.done ++ mark_at state.continued) ++ no_memory_response) sink sink'' result → Served exchange did shows source source' sink sink'' result
    by whole = let added = finish_tells NoMemory (out ++ no_memory_response) sink' sink'' result how in elim_finish NoMemory ((out_of g.done ++ mark_at state.continued) ++ no_memory_response) sink sink'' result (λ e. Served exchange did shows source source' sink sink'' e)
        (λ sent. over_here NoMemory added.0 added.1 (without_memory all sent.told) (no_fault sent))
        (λ cut. over_here SinkFailed added.0 added.1 (inr (NoMemory, without_memory front cut.front)) (cut.failed, g.read.no_fault)) whole

  -- the sink failed while what was gathered was being sent
  pub cut_off : Cut out sink' sink'' → Served exchange did shows source source' sink sink'' SinkFailed
  cut_off cut = let whole = cut_all exchange did source source' sink sink' state number out g sink'' cut in
      over_here SinkFailed (take cut.front.0 out) cut.front.2 (inl (record { going = g.going; rest = state.pending; begins = g.midway.begins; mark = mark_at state.continued; marked = mark_is state.pending state.continued g.midway.asking; no-more = refl; wrote = whole.front })) (whole.failed, g.read.no_fault)

  -- what comes next is refused
  pub refused : (why : FrameErr) (result : Ended) → IsWholeStream g.bytes (wholes_of g.done) state (Some why) → (IsFinish (Refused why) (out ++ refused_bytes why) sink' sink'' result ⊎ IsFinish NoMemory (out ++ no_memory_response) sink' sink'' result) → Served exchange did shows source source' sink sink'' result
  refused why result stream how = ⊎_elim said (lacking result) how where
    ends : (sent : List ℕ → Type 0) → sent ((out_of g.done ++ mark_at state.continued) ++ refused_bytes why) → EndsRefused exchange g.bytes g.done None sent why
    ends sent was = record { going = g.going; rest = state.pending; stream = stream.stream; refused = stream.end; mark = mark_at state.continued; marked = marked_is state.pending state.continued stream.marked; no-more = refl; wrote = was }

    said : IsFinish (Refused why) (out ++ refused_bytes why) sink' sink'' result → Served exchange did shows source source' sink sink'' result
    said one = let added = finish_tells (Refused why) (out ++ refused_bytes why) sink' sink'' result one in elim_finish (Refused why) ((out_of g.done ++ mark_at state.continued) ++ refused_bytes why) sink sink'' result (λ e. Served exchange did shows source source' sink sink'' e)
        (λ sent. over_here (Refused why) added.0 added.1 (ends all sent.told) (no_fault sent))
        (λ cut. over_here SinkFailed added.0 added.1 (inr (Refused why, ends front cut.front)) (cut.failed, g.read.no_fault))
        (finish_all exchange did source source' sink sink' state number out g (Refused why) (refused_bytes why) sink'' result one)

  module _ (stream : IsWholeStream g.bytes (wholes_of g.done) state None) (source'' : SourceAt) (sent : Sent out sink' sink'') where
    whole_sent : Sent (out_of g.done ++ mark_at state.continued) sink sink''
    whole_sent = sent_all exchange did source source' sink sink' state number out g sink'' sent

    with_rest : EndsWith exchange g.bytes g.done None all state.pending
    with_rest = record { all = record { going = g.going; stream = stream.stream; accepted = stream.end }; mark = mark_at state.continued; marked = marked_is state.pending state.continued stream.marked; no-more = refl; wrote = whole_sent.told }

    module _ (has : HasEnded source' source'') where
      no_more_taken : Told source.taken source''.taken g.bytes
      no_more_taken = subst (λ l. Told source.taken source''.taken l) (append-nil g.bytes) (told_on source.taken source'.taken source''.taken g.bytes [] g.read.taken has.once.read.taken)

      no_more_took : Took source.left source''.left g.bytes
      no_more_took = subst (λ l. Took source.left source''.left l) (append-nil g.bytes) (took_on source.left source'.left source''.left g.bytes [] g.read.took has.once.read.took)

      over_now : IsOver source source'' sink sink''
      over_now = record { no_fault = record { read = has.once.read.no_fault ∙ g.read.no_fault; wrote = whole_sent.no_fault }; ended = has.ended; drained = has.drained }

      before_now : SentBeforeRead g.bytes g.done source source'' sink sink''
      before_now = subst (λ l. SentBeforeRead l g.done source source'' sink sink'') (append-nil g.bytes)
          (read_on g.bytes [] g.done state.pending (mark_at state.continued) source source'' sink sink'' (subst (λ z. Told source.taken z g.bytes) (sym has.once.last) g.read.taken) (omega arith) stream.stream (marked_is state.pending state.continued stream.marked) whole_sent.told)

      -- the source has ended, between two requests
      pub done_now : state ≡ waiting [] false → Served exchange did shows source source'' sink sink'' Done
      done_now is = over_so source'' Done before_now out sent.told no_more_took no_more_taken (record {
        all = record { going = g.going; stream = subst (λ l. IsStream g.bytes (wholes_of g.done) l) (ap (λ (z : State). z.pending) is) stream.stream; accepted = subst (λ l. IsAccepted l) (ap (λ (z : State). z.pending) is) stream.end };
        no-more = refl;
        wrote = subst all (ap (λ (z : State). out_of g.done ++ mark_at z.continued) is ∙ append-nil (out_of g.done)) whole_sent.told;
      }) over_now

      -- or inside one
      pub closed_now : state.pending ≢ [] → Served exchange did shows source source'' sink sink'' ClosedByPeer
      closed_now some = over_so source'' ClosedByPeer before_now out sent.told no_more_took no_more_taken (state.pending, some, with_rest) over_now

    -- a read failed
    pub failed_now : HasFailed source' source'' → Served exchange did shows source source'' sink sink'' SourceFailed
    failed_now has = over_so source'' SourceFailed (before_failed g.bytes g.done source source' source'' sink sink'' (before_still exchange did source source' sink sink' state number out g sink'' out sent.told) has.taken has.earlier) out sent.told (subst (λ z. Took source.left z g.bytes) (sym has.left) g.read.took) (subst (λ z. Told source.taken z g.bytes) (sym has.taken) g.read.taken)
        (state.pending, with_rest) (subst (λ n. Rose n source''.faults) g.read.no_fault has.failed, whole_sent.no_fault)

-- ---- the last request

module _ {E : Type 0} (exchange : Request → List E → Result Response ApiErr → Type 0) (did did' : List E → Type 0) (shows : Request → ℕ → Type 0) (source source' : SourceAt) (sink sink' sink'' : SinkAt) (state : State) (number : ℕ) (out : List ℕ) (g : Going exchange did source source' sink sink' state number out)
    (request : Request) (state' : State) (gives : GivesRequest g.bytes (wholes_of g.done) state request state') (trace : List E) (acts : (xs : List E) → did xs → did' (xs ++ trace)) where
  abbrev told : List ℕ → Type 0
  told l = Told sink.contents sink''.contents l

  abbrev some : List ℕ → Type 0
  some l = SentSome sink.contents sink''.contents l

  abbrev with : Response → Option Ended → List (Exchanged E)
  with response stop = g.done ++ answered_as exchange did did' source source' sink sink' state number out g request state' gives trace acts response stop ∷ []

  calm : {bytes : List ℕ} → Sent bytes sink sink'' → NoFault source source' sink sink''
  calm sent = record { read = g.read.no_fault; wrote = sent.no_fault }

  module _ (response : Response) (ran : exchange request trace (Ok response)) where
    -- it ended so, with the response to this request the last one, when this was added to what was sent
    over_with : (stop : Option Ended) (ended : Ended) (added : List ℕ) → IsStop (number + 1) request stop → Told sink'.contents sink''.contents added → Ends exchange g.bytes (with response stop) None (sent_at ended told some) ended → HasCause source source' sink sink'' ended → Served exchange did' shows source source' sink sink'' ended
    over_with stop ended added stops told ends cause = record {
      bytes = g.bytes;
      done = with response stop;
      more = None;
      session = record { answered = answered_too exchange did did' source source' sink sink' state number out g request state' gives trace acts response stop ran stops; ends = ends };
      took = g.read.took;
      taken = g.read.taken;
      before_read = before_with exchange did did' source source' sink sink' state number out g request state' gives trace acts response stop sink'' added told;
      gathered = few_with_it exchange did did' source source' sink sink' state number out g request state' gives trace acts response stop sink'' added told;
      acted = subst did' (sym (append-nil (flat_map (λ x. x.trace) (with response stop)))) (traced exchange did did' source source' sink sink' state number out g request state' gives trace acts response stop);
      shown = none_shown shows;
      cause = cause;
    }

    begins_with : (stop : Option Ended) → Midway g.bytes (wholes_of (with response stop)) state'
    begins_with stop = wholes_too exchange did did' source source' sink sink' state number out g request state' gives trace acts response stop

    written_with : (stop : Option Ended) → g.passed.sent ++ (out ++ written response (is_head request.method) (is_some stop)) ≡ out_of (with response stop)
    written_with stop = with_response exchange did did' source source' sink sink' state number out g request state' gives trace acts response stop

    after : (ended : Ended) (sent : List ℕ → Type 0) → sent (out_of (with response (Some ended))) → EndsAfter exchange g.bytes (with response (Some ended)) None sent ended
    after ended sent was = record {
      left = state'.pending;
      begins = (begins_with (Some ended)).begins;
      stops = record { before = g.done; last = answered_as exchange did did' source source' sink sink' state number out g request state' gives trace acts response (Some ended); going = g.going; stop = refl; whole = refl };
      no-more = refl;
      wrote = was;
    }

    -- the session ends with this response
    stops_so : (ended : Ended) (added : List ℕ) → IsStop (number + 1) request (Some ended) → Told sink'.contents sink''.contents added → Sent (out_of (with response (Some ended))) sink sink'' → Served exchange did' shows source source' sink sink'' ended
    stops_so Asked added stops more sent = over_with (Some Asked) Asked added stops more (after Asked told sent.told) (calm sent)
    stops_so Closed added stops more sent = over_with (Some Closed) Closed added stops more (after Closed told sent.told) (calm sent)
    stops_so Limit added stops more sent = over_with (Some Limit) Limit added stops more (after Limit told sent.told) (calm sent)
    stops_so Done added stops more sent = absurd stops
    stops_so ClosedByPeer added stops more sent = absurd stops
    stops_so (Refused why) added stops more sent = absurd stops
    stops_so (Spent count) added stops more sent = absurd stops
    stops_so SourceFailed added stops more sent = absurd stops
    stops_so SinkFailed added stops more sent = absurd stops
    stops_so NoMemory added stops more sent = absurd stops

    sending : (ended : Ended) → IsStop (number + 1) request (Some ended) → some (out_of (with response (Some ended))) → EndsSending exchange g.bytes (with response (Some ended)) None some ended
    sending Asked stops was = after Asked some was
    sending Closed stops was = after Closed some was
    sending Limit stops was = after Limit some was
    sending Done stops was = absurd stops
    sending ClosedByPeer stops was = absurd stops
    sending (Refused why) stops was = absurd stops
    sending (Spent count) stops was = absurd stops
    sending SourceFailed stops was = absurd stops
    sending SinkFailed stops was = absurd stops
    sending NoMemory stops was = absurd stops

    finished : (ended result : Ended) (added : List ℕ) → IsStop (number + 1) request (Some ended) → Told sink'.contents sink''.contents added → IsFinish ended (out_of (with response (Some ended))) sink sink'' result → Served exchange did' shows source source' sink sink'' result
    finished ended result added stops more how = elim_finish ended (out_of (with response (Some ended))) sink sink'' result (λ e. Served exchange did' shows source source' sink sink'' e) (stops_so ended added stops more)
        (λ cut. over_with (Some ended) SinkFailed added stops more (inr (ended, sending ended stops cut.front)) (cut.failed, g.read.no_fault)) how

    -- the sink failed while responses were being sent
    unsent : (added : List ℕ) → IsStop (number + 1) request None → Told sink'.contents sink''.contents added → Cut (out_of (with response None)) sink sink'' → Served exchange did' shows source source' sink sink'' SinkFailed
    unsent added stops more cut = over_with None SinkFailed added stops more (inl (record {
      going = All-push (λ (x : Exchanged E). x.stop ≡ None) g.done (answered_as exchange did did' source source' sink sink' state number out g request state' gives trace acts response None) g.going refl;
      rest = state'.pending;
      begins = (begins_with None).begins;
      mark = [];
      marked = inl refl;
      no-more = refl;
      wrote = subst some (sym (append-nil (out_of (with response None)))) cut.front;
    })) (cut.failed, g.read.no_fault)

    went_to : (stop : Option Ended) (out' : List ℕ) (ended : Ended) → IsStop (number + 1) request stop → Went stop (out ++ written response (is_head request.method) (is_some stop)) out' sink' sink'' (Some ended) → Served exchange did' shows source source' sink sink'' ended
    went_to (Some stop) out' ended stops (e, same, how) = let added = finish_tells stop (out ++ written response (is_head request.method) true) sink' sink'' e how in
        subst (λ z. Served exchange did' shows source source' sink sink'' z) (sym (some_is same)) (finished stop e added.0 stops added.1 (subst (λ l. IsFinish stop l sink sink'' e) (written_with (Some stop)) (finish_after stop g.passed.sent (out ++ written response (is_head request.method) true) sink sink' sink'' e g.passed.went how))) where
          some_is : Some ended ≡ Some e → ended ≡ e
          some_is is = cc
    went_to None out' ended stops (keeps same kept below still) = absurd (cc)
    went_to None out' ended stops (sends same bare sent) = absurd (cc)
    went_to None out' ended stops (breaks same cut) = subst (λ z. Served exchange did' shows source source' sink sink'' z) (sym (fails same))
        (unsent (take cut.front.0 (out ++ written response (is_head request.method) false)) stops cut.front.2 (subst (λ l. Cut l sink sink'') (written_with None) (sent_then_cut g.passed.sent (out ++ written response (is_head request.method) false) sink sink' sink'' g.passed.went cut))) where
          fails : Some ended ≡ Some SinkFailed → ended ≡ SinkFailed
          fails is = cc

  -- the next request, for which there is no response of its own
  abbrev next_with : ApiErr → Unanswered E
  next_with why = record { whole = gives.whole; trace = trace; error = why }

  next_is : (why : ApiErr) → exchange request trace (Err why) → IsNext exchange g.bytes g.done (next_with why)
  next_is why ran = record { left = state'.pending; begins = gives.midway.begins; ran = subst (λ r. exchange r trace (Err why)) gives.is ran }

  -- it ended so, with this request ended early, when this was added to what was sent
  over_next : (why : ApiErr) (ended : Ended) (added : List ℕ) → ((count : ℕ) → why ≡ error.Exhausted count → shows request count) → Told sink'.contents sink''.contents added → Ends exchange g.bytes g.done (Some (next_with why)) (sent_at ended told some) ended → HasCause source source' sink sink'' ended → Served exchange did' shows source source' sink sink'' ended
  over_next why ended added shown told ends cause = record {
    bytes = g.bytes;
    done = g.done;
    more = Some (next_with why);
    session = record { answered = g.answered; ends = ends };
    took = g.read.took;
    taken = g.read.taken;
    before_read = before_still exchange did source source' sink sink' state number out g sink'' added told;
    gathered = few_still exchange did source source' sink sink' state number out g sink'' added told;
    acted = acts (flat_map (λ x. x.trace) g.done) g.acted;
    shown = λ next count is spent. subst (λ r. shows r count) (gives.is ∙ asked next is) (shown count (early next is ∙ spent));
    cause = cause;
  }
    where
      this : (next : Unanswered E) → Some (next_with why) ≡ Some next → next_with why ≡ next
      this next is = cc

      early : (next : Unanswered E) → Some (next_with why) ≡ Some next → why ≡ next.error
      early next is = ap (λ (n : Unanswered E). n.error) (this next is)

      asked : (next : Unanswered E) → Some (next_with why) ≡ Some next → request_in gives.whole ≡ request_in next.whole
      asked next is = ap (λ (n : Unanswered E). request_in n.whole) (this next is)

  no_room : (result : Ended) → exchange request trace (Err error.NoMemory) → IsFinish NoMemory (out ++ no_memory_response) sink' sink'' result → Served exchange did' shows source source' sink sink'' result
  no_room result ran how = let added = finish_tells NoMemory (out ++ no_memory_response) sink' sink'' result how in elim_finish NoMemory ((out_of g.done ++ mark_at state.continued) ++ no_memory_response) sink sink'' result (λ e. Served exchange did' shows source source' sink sink'' e)
      (λ sent. over_next error.NoMemory NoMemory added.0 unspent added.1 (ends told sent.told) (calm sent))
      (λ cut. over_next error.NoMemory SinkFailed added.0 unspent added.1 (inr (NoMemory, ends some cut.front)) (cut.failed, g.read.no_fault))
      (finish_all exchange did source source' sink sink' state number out g NoMemory no_memory_response sink'' result how) where
        ends : (sent : List ℕ → Type 0) → sent ((out_of g.done ++ mark_at state.continued) ++ no_memory_response) → EndsWithoutMemory exchange g.bytes g.done (Some (next_with error.NoMemory)) sent
        ends sent was = record { going = g.going; lacks = (next_is error.NoMemory ran, refl); mark = mark_at state.continued; rest = state.pending; begins = g.midway.begins; marked = mark_is state.pending state.continued g.midway.asking; wrote = was }

        unspent : (count : ℕ) → error.NoMemory ≡ error.Exhausted count → shows request count
        unspent count is = absurd (cc)

  spent : (count : ℕ) (answer : List ℕ) (result : Ended) → exchange request trace (Err (error.Exhausted count)) → ((n : ℕ) → error.Exhausted count ≡ error.Exhausted n → shows request n) → IsSpentAnswer (is_head request.method) count answer → IsFinish (Spent count) (out ++ answer) sink' sink'' result → Served exchange did' shows source source' sink sink'' result
  spent count answer result ran shown is_answer how = let added = finish_tells (Spent count) (out ++ answer) sink' sink'' result how in elim_finish (Spent count) ((out_of g.done ++ mark_at state.continued) ++ answer) sink sink'' result (λ e. Served exchange did' shows source source' sink sink'' e)
      (λ sent. over_next (error.Exhausted count) (Spent count) added.0 shown added.1 (ends told sent.told) (calm sent))
      (λ cut. over_next (error.Exhausted count) SinkFailed added.0 shown added.1 (inr (Spent count, ends some cut.front)) (cut.failed, g.read.no_fault))
      (finish_all exchange did source source' sink sink' state number out g (Spent count) answer sink'' result how) where
        ends : (sent : List ℕ → Type 0) → sent ((out_of g.done ++ mark_at state.continued) ++ answer) → EndsSpent exchange g.bytes g.done (Some (next_with (error.Exhausted count))) sent count
        ends sent was = record {
          going = g.going;
          next = next_with (error.Exhausted count);
          is-next = next_is (error.Exhausted count) ran;
          why = refl;
          this = refl;
          answer = answer;
          answers = subst (λ r. IsSpentAnswer (is_head r.method) count answer) gives.is is_answer;
          wrote = subst (λ m. sent ((out_of g.done ++ m) ++ answer)) (sym (marks (asks gives.whole.head) state.continued gives.told)) was;
        }

  -- the session ends with this request
  pub ends_with : (out' : List ℕ) (reply : Result Response ApiErr) (ended : Ended) → exchange request trace reply → ((count : ℕ) → reply ≡ Err (error.Exhausted count) → shows request count) → Answers (number + 1) request out out' sink' sink'' reply (Some ended) → Served exchange did' shows source source' sink sink'' ended
  ends_with out' (Ok response) ended ran shown said = went_to response ran said.stop out' ended said.stops said.went
  ends_with out' (Err error.NoMemory) ended ran shown (e, same, how) = subst (λ z. Served exchange did' shows source source' sink sink'' z) (sym (some_is same)) (no_room e ran how) where
    some_is : Some ended ≡ Some e → ended ≡ e
    some_is is = cc
  ends_with out' (Err (error.Exhausted count)) ended ran shown (answer, is_answer, (e, same, how)) = subst (λ z. Served exchange did' shows source source' sink sink'' z) (sym (some_is same)) (spent count answer e ran (λ n is. shown n (ap (λ (z : ApiErr). Err z) is)) is_answer how) where
    some_is : Some ended ≡ Some e → ended ≡ e
    some_is is = cc

  -- or goes on
  pub goes_with : (fresh : state'.continued ≡ false) (out' : List ℕ) (reply : Result Response ApiErr) → exchange request trace reply → Answers (number + 1) request out out' sink' sink'' reply None → Going exchange did' source source' sink sink'' state' (number + 1) out'
  goes_with fresh out' (Ok response) ran said = by said.stop said.stops said.went where
    by : (stop : Option Ended) → IsStop (number + 1) request stop → Went stop (out ++ written response (is_head request.method) (is_some stop)) out' sink' sink'' None → Going exchange did' source source' sink sink'' state' (number + 1) out'
    by (Some stop) stops (e, same, how) = absurd (cc)
    by None stops went = answered_on exchange did did' source source' sink sink' state number out g request state' gives trace acts fresh response out' ran stops sink'' went
  goes_with fresh out' (Err error.NoMemory) ran (e, same, how) = absurd (cc)
  goes_with fresh out' (Err (error.Exhausted count)) ran (answer, is_answer, (e, same, how)) = absurd (cc)

-- ---- more bytes are wanted

module _ {E : Type 0} (exchange : Request → List E → Result Response ApiErr → Type 0) (did : List E → Type 0) (shows : Request → ℕ → Type 0) (source source' source'' : SourceAt) (sink sink' sink'' : SinkAt) (state : State) (number : ℕ) (out out' : List ℕ) (kept : Kept) (g : Going exchange did source source' sink sink' state number out)
    (stream : IsWholeStream g.bytes (wholes_of g.done) state None)
    (feeds : (bytes piece : List ℕ) (wholes : List Whole) (at : State) → Midway bytes wholes at → Midway (bytes ++ piece) wholes (fed at piece)) where
  -- all was sent, and then this piece was read
  fed_now : (piece : List ℕ) (between : SinkAt) → Sent out sink' between → ReadOnce piece source' source'' → length piece ≤ 16384 → Going exchange did source source'' sink between (fed state piece) number []
  fed_now piece between sent read short = fed_on exchange did source source' sink sink' state number out g between sent piece source'' read short stream (feeds g.bytes piece (wholes_of g.done) state g.midway)

  pub wanted_on : Wants state out out' kept source' source'' sink' sink'' None → (piece : List ℕ) × Stands (fed state piece) kept × Going exchange did source source'' sink sink'' (fed state piece) number out'
  wanted_on (wants.more piece same bare sent read short stands) = (
    piece,
    stands,
    subst (λ l. Going exchange did source source'' sink sink'' (fed state piece) number l) (sym bare) (fed_now piece sink'' sent read short),
  )
  wanted_on (wants.lacks piece between sent read short lacks) = absurd (let same : None ≡ Some lacks.0 = lacks.1 in cc)
  wanted_on (wants.cut same cut kept-source) = absurd (cc)
  wanted_on (wants.done same is sent has) = absurd (cc)
  wanted_on (wants.closed same is sent has) = absurd (cc)
  wanted_on (wants.failed same sent has) = absurd (cc)

  pub wanted_end : (between : state.pending ≡ [] → state ≡ waiting [] false) (ended : Ended) → Wants state out out' kept source' source'' sink' sink'' (Some ended) → Served exchange did shows source source'' sink sink'' ended
  wanted_end between ended (wants.more piece same bare sent read short stands) = absurd (cc)
  wanted_end between ended (wants.lacks piece middle sent read short (e, same, how)) = subst (λ z. Served exchange did shows source source'' sink sink'' z) (sym (some_is same))
      (lacking exchange did shows source source'' sink middle sink'' (fed state piece) number [] (fed_now piece middle sent read short) e how) where
        some_is : Some ended ≡ Some e → ended ≡ e
        some_is is = cc
  wanted_end between ended (wants.cut same cut same-source) = subst (λ z. Served exchange did shows source z sink sink'' ended) (sym same-source) (subst (λ z. Served exchange did shows source source' sink sink'' z) (sym (some_is same)) (cut_off exchange did shows source source' sink sink' sink'' state number out g cut)) where
    some_is : Some ended ≡ Some SinkFailed → ended ≡ SinkFailed
    some_is is = cc
  wanted_end between ended (wants.done same is sent has) = subst (λ z. Served exchange did shows source source'' sink sink'' z) (sym (some_is same)) (done_now exchange did shows source source' sink sink' sink'' state number out g stream source'' sent has is) where
    some_is : Some ended ≡ Some Done → ended ≡ Done
    some_is is = cc
  wanted_end between ended (wants.closed same is sent has) = subst (λ z. Served exchange did shows source source'' sink sink'' z) (sym (some_is same)) (closed_now exchange did shows source source' sink sink' sink'' state number out g stream source'' sent has (λ bare. is (between bare))) where
    some_is : Some ended ≡ Some ClosedByPeer → ended ≡ ClosedByPeer
    some_is is = cc
  wanted_end between ended (wants.failed same sent has) = subst (λ z. Served exchange did shows source source'' sink sink'' z) (sym (some_is same)) (failed_now exchange did shows source source' sink sink' sink'' state number out g stream source'' sent has) where
    some_is : Some ended ≡ Some SourceFailed → ended ≡ SourceFailed
    some_is is = cc

-- ---- a turn, by what the stream gives

module _ {E : Type 0} (exchange : Request → List E → Result Response ApiErr → Type 0) (did : List E → Type 0) (shows : Request → ℕ → Type 0) (source source' source'' : SourceAt) (sink sink' sink'' : SinkAt) (state new : State) (number : ℕ) (out out' : List ℕ) (kept : Kept) (g : Going exchange did source source' sink sink' state number out)
    (goes : (bytes : List ℕ) (wholes : List Whole) (old new : State) (answer : Result Step FrameErr) → Midway bytes wholes old → IsNextStep old answer new → StreamGoesOn bytes wholes old answer new) where
  pub after_request : (did' : List E → Type 0) (request : Request) → Stands new kept → IsRequestStep state request new → (result : Option Ended) (trace : List E) (reply : Result Response ApiErr) → exchange request trace reply → ((xs : List E) → did xs → did' (xs ++ trace)) → Answers (number + 1) request out out' sink' sink'' reply result → ((count : ℕ) → reply ≡ Err (error.Exhausted count) → shows request count)
      → After exchange did' shows source source' sink sink'' kept (number + 1) out' result
  after_request did' request stands next None trace reply ran acts answers shown =
      (new, stands, goes_with exchange did did' shows source source' sink sink' sink'' state number out g request new (goes g.bytes (wholes_of g.done) state new (Ok (step.Request request)) g.midway next) trace acts (ap (λ (z : State). z.continued) next.after) out' reply ran answers)
  after_request did' request stands next (Some ended) trace reply ran acts answers shown =
      ends_with exchange did did' shows source source' sink sink' sink'' state number out g request new (goes g.bytes (wholes_of g.done) state new (Ok (step.Request request)) g.midway next) trace acts out' reply ended ran shown answers

  pub after_continue : Stands new kept → IsContinueStep state new → (result : Option Ended) → Continues out out' sink' sink'' result → After exchange did shows source source' sink sink'' kept number out' result
  after_continue stands next None gathered = ⊎_elim
      (λ (on : (None ≡ None) × (out' ≡ out ++ continue_bytes) × (sink'' ≡ sink')). (new, stands, subst (λ z. Going exchange did source source' sink z new number out') (sym on.2) (continue_on exchange did source source' sink sink' state number out g new out' (goes g.bytes (wholes_of g.done) state new (Ok step.Continue) g.midway next) on.1)))
      (λ (off : Finishes NoMemory (out ++ no_memory_response) sink' sink'' None). absurd (let same : None ≡ Some off.0 = off.1 in cc)) gathered
  after_continue stands next (Some ended) gathered = ⊎_elim
      (λ (on : (Some ended ≡ None) × (out' ≡ out ++ continue_bytes) × (sink'' ≡ sink')). absurd (let same : Some ended ≡ None = on.0 in cc))
      (λ (off : Finishes NoMemory (out ++ no_memory_response) sink' sink'' (Some ended)). subst (λ z. Served exchange did shows source source' sink sink'' z) (sym (some_is off.0 off.1)) (lacking exchange did shows source source' sink sink' sink'' state number out g off.0 off.2)) gathered where
        some_is : (e : Ended) → Some ended ≡ Some e → ended ≡ e
        some_is e is = cc

  pub after_need : (feeds : (bytes piece : List ℕ) (wholes : List Whole) (at : State) → Midway bytes wholes at → Midway (bytes ++ piece) wholes (fed at piece)) → (between : (bytes : List ℕ) (wholes : List Whole) (at : State) → Midway bytes wholes at → (at ≡ waiting [] false) ↔ (at.pending ≡ [])) → IsNeedStep state new → (result : Option Ended)
      → Wants new out out' kept source' source'' sink' sink'' result → After exchange did shows source source'' sink sink'' kept number out' result
  after_need feeds between next None wanted = let stream = (goes g.bytes (wholes_of g.done) state new (Ok step.Need) g.midway next).0 in
      let on = wanted_on exchange did shows source source' source'' sink sink' sink'' state number out out' kept g stream feeds (subst (λ z. Wants z out out' kept source' source'' sink' sink'' None) next.same wanted) in (fed state on.0, on.1, on.2)
  after_need feeds between next (Some ended) wanted = let stream = (goes g.bytes (wholes_of g.done) state new (Ok step.Need) g.midway next).0 in
      wanted_end exchange did shows source source' source'' sink sink' sink'' state number out out' kept g stream feeds (between g.bytes (wholes_of g.done) state g.midway).1 ended (subst (λ z. Wants z out out' kept source' source'' sink' sink'' (Some ended)) next.same wanted)

  pub after_refusal : (why : FrameErr) (result : Ended) → IsNextStep state (Err why) new → EndsBy why out sink' sink'' result → Served exchange did shows source source' sink sink'' result
  after_refusal refusal.NoMemory result next how = lacking exchange did shows source source' sink sink' sink'' state number out g result how
  after_refusal refusal.HeadTooLong result next how = refused exchange did shows source source' sink sink' sink'' state number out g refusal.HeadTooLong result (goes g.bytes (wholes_of g.done) state new (Err refusal.HeadTooLong) g.midway next).0 how
  after_refusal refusal.BadHead result next how = refused exchange did shows source source' sink sink' sink'' state number out g refusal.BadHead result (goes g.bytes (wholes_of g.done) state new (Err refusal.BadHead) g.midway next).0 how
  after_refusal refusal.TooManyHeaders result next how = refused exchange did shows source source' sink sink' sink'' state number out g refusal.TooManyHeaders result (goes g.bytes (wholes_of g.done) state new (Err refusal.TooManyHeaders) g.midway next).0 how
  after_refusal refusal.BadHost result next how = refused exchange did shows source source' sink sink' sink'' state number out g refusal.BadHost result (goes g.bytes (wholes_of g.done) state new (Err refusal.BadHost) g.midway next).0 how
  after_refusal refusal.BothLengths result next how = refused exchange did shows source source' sink sink' sink'' state number out g refusal.BothLengths result (goes g.bytes (wholes_of g.done) state new (Err refusal.BothLengths) g.midway next).0 how
  after_refusal refusal.TransferCoding result next how = refused exchange did shows source source' sink sink' sink'' state number out g refusal.TransferCoding result (goes g.bytes (wholes_of g.done) state new (Err refusal.TransferCoding) g.midway next).0 how
  after_refusal refusal.BadLength result next how = refused exchange did shows source source' sink sink' sink'' state number out g refusal.BadLength result (goes g.bytes (wholes_of g.done) state new (Err refusal.BadLength) g.midway next).0 how
  after_refusal refusal.Coding result next how = refused exchange did shows source source' sink sink' sink'' state number out g refusal.Coding result (goes g.bytes (wholes_of g.done) state new (Err refusal.Coding) g.midway next).0 how
  after_refusal refusal.TooLong result next how = refused exchange did shows source source' sink sink' sink'' state number out g refusal.TooLong result (goes g.bytes (wholes_of g.done) state new (Err refusal.TooLong) g.midway next).0 how
  after_refusal refusal.BadChunk result next how = refused exchange did shows source source' sink sink' sink'' state number out g refusal.BadChunk result (goes g.bytes (wholes_of g.done) state new (Err refusal.BadChunk) g.midway next).0 how

-- the ways to end of a refusal that isn't want of memory
pub ends_by : (why : FrameErr) (out : List ℕ) (sink sink' : SinkAt) (result : Ended) → why ≢ refusal.NoMemory → (IsFinish (Refused why) (out ++ refused_bytes why) sink sink' result ⊎ IsFinish NoMemory (out ++ no_memory_response) sink sink' result) → EndsBy why out sink sink' result
ends_by refusal.NoMemory out sink sink' result is how = absurd (is refl)
ends_by refusal.HeadTooLong out sink sink' result is how = how
ends_by refusal.BadHead out sink sink' result is how = how
ends_by refusal.TooManyHeaders out sink sink' result is how = how
ends_by refusal.BadHost out sink sink' result is how = how
ends_by refusal.BothLengths out sink sink' result is how = how
ends_by refusal.TransferCoding out sink sink' result is how = how
ends_by refusal.BadLength out sink sink' result is how = how
ends_by refusal.Coding out sink sink' result is how = how
ends_by refusal.TooLong out sink sink' result is how = how
ends_by refusal.BadChunk out sink sink' result is how = how
