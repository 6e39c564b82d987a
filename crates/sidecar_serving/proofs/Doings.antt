-- What a worker has done, answer after answer.
use Rattle.std.specs.Prelude.{◌≡◌, ◌≤◌, ℕ, false, List, [], ◌∷◌, ◌++◌, length, take, is_some, Option, Some, None, Result, refl}
use Rattle.std.proofs.Common.{◌∙◌, ap, sym, subst, append-nil}
use Rattle.std.proofs.lemmas.List.{append_cancel_right}
use Rattle.side_base.specs.declared.message.Request.{Request}
use Rattle.side_base.specs.declared.message.Response.{Response}
use Rattle.turn_cell.specs.declared.error.ApiErr.{ApiErr}
use Rattle.side_world.specs.declared.source.Source.{Ghosts as Reads}
use Rattle.side_world.specs.declared.sink.Sink.{Ghosts as Writes}
use Rattle.side_world.specs.Answer.{Answer, Back, ComesBack, IsNew, Returns, conn, idle}
use Rattle.side_world.specs.Told.{SentSome, Tells, Told}
use Rattle.conn_serve.specs.declared.ended.Ended.{Ended}
use Rattle.conn_serve.specs.declared.ended.Ended.TheVariants as ends
use Rattle.conn_serve.specs.Ends.{SinkAt, SourceAt, sink_at, source_at}
use Rattle.conn_serve.specs.Exchanged.{request_in}
use Rattle.conn_serve.specs.Session.{Session, trace_of}
use Rattle.conn_serve.specs.Served.{Served}
use Rattle.sidecar_core.specs.declared.config.Config.{Config}
use Rattle.sidecar_turns.specs.declared.idling.IdleTurn.{IdleTurn}
use Rattle.sidecar_turns.specs.declared.idling.IdleTurn.TheVariants as turns
use Rattle.sidecar_objects.specs.declared.doing.Doing.{Doing}
use Rattle.sidecar_objects.specs.Composed.{did_on}
use Rattle.sidecar_core.specs.Delivery.{IdlesIn}
use Rattle.sidecar_objects.specs.Kind.{CellsAt, Kinds}
use Rattle.sidecar_objects.specs.Shown.{Shows}
use Rattle.sidecar_objects.specs.Did.{Did, Does, Standing}
use Rattle.sidecar_core.specs.Exchange.{Exchange}
use Rattle.sidecar_core.specs.Shown.{ShownFor, some_seat}
use Rattle.sidecar_workers.specs.declared.exit.Exit.{Exit}
use Rattle.sidecar_workers.specs.declared.exit.Exit.TheVariants as exits
use Rattle.sidecar_workers.specs.declared.work.Owed.{Owed}
use Rattle.sidecar_workers.specs.declared.work.Owed.TheVariants as owed
use Rattle.sidecar_workers.specs.Works.{exit_of_served, exit_of_turned}
use Rattle.sidecar_serving.specs.Ending.{served_of, turned_of}
use Rattle.sidecar_serving.specs.declared.due.Due.{Due}
use Rattle.sidecar_serving.specs.declared.due.Due.TheVariants as dues
use Rattle.sidecar_serving.specs.Worker.{Adds, Connected, HasDone, IsNewDue, Worked, WorkedSoFar, further, owed_of}
use Rattle.sidecar_serving.proofs.Sessions.{told_fresh, session_by, cause_by}

-- of the request that ended a connection so, the seat of a cell that it calls shows the count
shown_by : {E : Type 0} (exchange : Request → List E → Result Response ApiErr → Type 0) (did : List E → Type 0) (shows : Request → ℕ → Type 0) (source source' : SourceAt) (sink sink' : SinkAt) (ended : Ended) (count : ℕ) → Served exchange did shows source source' sink sink' ended → exit_of_served (served_of ended) ≡ Some (exits.Spent count) → (request : Request) × shows request count
shown_by exchange did shows source source' sink sink' (ends.Spent n) count served is =
    let next = served.session.ends.next in (request_in next.whole, subst (shows (request_in next.whole)) (spent is) (served.shown next n served.session.ends.this served.session.ends.why))
  where
    spent : Some (exits.Spent n) ≡ Some (exits.Spent count) → n ≡ count
    spent e = cc
shown_by exchange did shows source source' sink sink' ends.Asked count served is = absurd (cc)
shown_by exchange did shows source source' sink sink' ends.Done count served is = absurd (cc)
shown_by exchange did shows source source' sink sink' ends.Closed count served is = absurd (cc)
shown_by exchange did shows source source' sink sink' ends.ClosedByPeer count served is = absurd (cc)
shown_by exchange did shows source source' sink sink' (ends.Refused why) count served is = absurd (cc)
shown_by exchange did shows source source' sink sink' ends.Limit count served is = absurd (cc)
shown_by exchange did shows source source' sink sink' ends.SourceFailed count served is = absurd (cc)
shown_by exchange did shows source source' sink sink' ends.SinkFailed count served is = absurd (cc)
shown_by exchange did shows source source' sink sink' ends.NoMemory count served is = absurd (cc)

goes_on : (exit : Option Exit) → is_some exit ≡ false → exit ≡ None
goes_on None on = refl
goes_on (Some e) on = absurd (cc)

-- what was done so far where nothing is owed
worked_free : {config : Config} {owes : Owed} {answers : List Answer} {events : List Doing} (exit : Option Exit) → owes ≡ owed.Nothing → is_some exit ≡ false → WorkedSoFar config owes answers events exit → Worked config answers events None
worked_free {config} {owes} {answers} {events} exit free on worked = subst (λ e. Worked config answers events e) (goes_on exit on) (subst (λ o. WorkedSoFar config o answers events exit) free worked)

module _ {O S N : Type 0} (config : Config) (kinds : Kinds O) (cells : CellsAt O) (reads : Reads S) (writes : Writes N) (start at : Standing O) where
  -- a connection came
  pub conn_came : (due due' : Due S N) (source : S) (sink : N) (told told' : Option (List Answer)) (exit : Option Exit) → owed_of due ≡ owed.Nothing → is_some exit ≡ false → due' ≡ dues.Serve source sink → IsNew reads writes source sink → Tells told told' (conn None ∷ [])
      → HasDone config kinds cells start (owed_of due) (IsNewDue reads writes due) (record { at = at; told = told; exit = exit }) → HasDone config kinds cells start (owed_of due') (IsNewDue reads writes due') (record { at = at; told = told'; exit = exit })
  conn_came due due' source sink told told' exit free on is new tells done = subst (λ d. HasDone config kinds cells start (owed_of d) (IsNewDue reads writes d) (record { at = at; told = told'; exit = exit })) (sym is) record {
    events = done.events;
    went = done.went;
    worked = λ answers is'. let t = tells answers is' in (t.0, t.2, goes_on exit on, worked_free exit free on (done.worked t.0 t.1));
    new = new;
    shown = done.shown;
  }

  -- none came, and a turn is to be taken
  pub idle_came : (due due' : Due S N) (told told' : Option (List Answer)) (exit : Option Exit) → owed_of due ≡ owed.Nothing → is_some exit ≡ false → due' ≡ dues.Turn → Tells told told' (idle ∷ [])
      → HasDone config kinds cells start (owed_of due) (IsNewDue reads writes due) (record { at = at; told = told; exit = exit }) → HasDone config kinds cells start (owed_of due') (IsNewDue reads writes due') (record { at = at; told = told'; exit = exit })
  idle_came due due' told told' exit free on is tells done = subst (λ d. HasDone config kinds cells start (owed_of d) (IsNewDue reads writes d) (record { at = at; told = told'; exit = exit })) (sym is) record {
    events = done.events;
    went = done.went;
    worked = λ answers is'. let t = tells answers is' in (t.0, t.2, goes_on exit on, worked_free exit free on (done.worked t.0 t.1));
    new = tt;
    shown = done.shown;
  }

  -- none will come
  pub none_came : (due : Due S N) (answer : Answer) (told told' : Option (List Answer)) (exit : Option Exit) → owed_of due ≡ owed.Nothing → is_some exit ≡ false → Adds config answer [] None → Tells told told' (answer ∷ [])
      → HasDone config kinds cells start (owed_of due) (IsNewDue reads writes due) (record { at = at; told = told; exit = exit }) → HasDone config kinds cells start (owed_of due) (IsNewDue reads writes due) (record { at = at; told = told'; exit = exit })
  none_came due answer told told' exit free on adds tells done = record {
    events = done.events;
    went = done.went;
    worked = λ answers is'. let t = tells answers is' in subst (λ o. WorkedSoFar config o answers done.events exit) (sym free) (subst (λ e. Worked config answers done.events e) (sym (goes_on exit on)) (subst (λ l. Worked config l done.events None) (sym t.2)
        (subst (λ l. Worked config (t.0 ++ answer ∷ []) l None) (append-nil done.events) (further t.0 done.events [] answer None (worked_free exit free on (done.worked t.0 t.1)) adds))));
    new = done.new;
    shown = done.shown;
  }

  -- the connection was served
  pub served_on : (due due' : Due S N) (source source' : S) (sink sink' : N) (told told' : Option (List Answer)) (exit exit' : Option Exit) (ended : Ended) (after : Standing O) → due ≡ dues.Serve source sink → due' ≡ dues.Nothing → exit' ≡ exit_of_served (served_of ended)
      → Served (Exchange config) (λ events. Did kinds cells at events after) (ShownFor config after.seats) (source_at reads source) (source_at reads source') (sink_at writes sink) (sink_at writes sink') ended → Returns told told' (ComesBack reads writes source' sink')
      → HasDone config kinds cells start (owed_of due) (IsNewDue reads writes due) (record { at = at; told = told; exit = exit }) → HasDone config kinds cells start (owed_of due') (IsNewDue reads writes due') (record { at = after; told = told'; exit = exit' })
  served_on due due' source source' sink sink' told told' exit exit' ended after was is ends-so served returns before =
      let done = subst (λ d. HasDone config kinds cells start (owed_of d) (IsNewDue reads writes d) (record { at = at; told = told; exit = exit })) was before in
      subst (λ d. HasDone config kinds cells start (owed_of d) (IsNewDue reads writes d) (record { at = after; told = told'; exit = exit' })) (sym is)
      (subst (λ e. HasDone config kinds cells start owed.Nothing (Unit {0}) (record { at = after; told = told'; exit = e })) (sym ends-so) record {
        events = done.events ++ trace_of served.done served.more;
        went = did_on kinds cells start done.events at (trace_of served.done served.more) after done.went served.acted;
        worked = λ answers is'. let r = returns answers is' in let w = done.worked (r.0 ++ conn None ∷ []) r.2 in
            subst (λ l. Worked config l (done.events ++ trace_of served.done served.more) (exit_of_served (served_of ended))) (ap (λ l. l ++ conn (Some r.1) ∷ []) (sym (append_cancel_right r.0 w.0 (conn None ∷ []) w.1)) ∙ sym r.3)
            (further w.0 done.events (trace_of served.done served.more) (conn (Some r.1)) (exit_of_served (served_of ended)) w.3 (connected done.new r.1 r.4));
        new = tt;
        shown = λ count shows. let by = shown_by (Exchange config) (λ events. Did kinds cells at events after) (ShownFor config after.seats) (source_at reads source) (source_at reads source') (sink_at writes sink) (sink_at writes sink') ended count served shows in some_seat config after.seats count by.0 by.1;
      })
    where
      connected : IsNew reads writes source sink → (back : Back) → ComesBack reads writes source' sink' back → Connected config back (trace_of served.done served.more) (exit_of_served (served_of ended))
      connected new back came = record {
        done = served.done;
        more = served.more;
        ended = ended;
        session = subst (λ bytes. Session (Exchange config) bytes served.done served.more (λ out. back.written ≡ out) (λ out. (k : ℕ) × (k ≤ length out) × (back.written ≡ take k out)) ended) (sym (told_fresh (reads.taken source) (reads.taken source') served.bytes back.read new.unread served.taken came.read))
            (session_by (Exchange config) served.bytes served.done served.more (λ out. Told (writes.contents sink) (writes.contents sink') out) (λ out. SentSome (writes.contents sink) (writes.contents sink') out) (λ out. back.written ≡ out) (λ out. (k : ℕ) × (k ≤ length out) × (back.written ≡ take k out)) ended
            (λ out told. told_fresh (writes.contents sink) (writes.contents sink') out back.written new.unwritten told came.written) (λ out some. (some.0, some.1, told_fresh (writes.contents sink) (writes.contents sink') (take some.0 out) back.written new.unwritten some.2 came.written)) served.session);
        whole = refl;
        cause = cause_by (source_at reads source) (source_at reads source') (sink_at writes sink) (sink_at writes sink') back ended new.no_faults new.no_sink_faults came.faults came.sink_faults came.ended served.cause;
        exit_is = refl;
      }

  -- a turn that ends its worker found a cell exhausted
  spent_turn : (turn : IdleTurn) (count : ℕ) → exit_of_turned (turned_of turn) ≡ Some (exits.Spent count) → turn ≡ turns.Exhausted count
  spent_turn turns.Did count is = absurd (cc)
  spent_turn (turns.Idle next) count is = absurd (cc)
  spent_turn turns.Held count is = absurd (cc)
  spent_turn (turns.Exhausted other) count is = ap (λ (n : ℕ). turns.Exhausted n) (cc)

  -- the turn was taken
  pub turned_on : (due due' : Due S N) (told : Option (List Answer)) (exit exit' : Option Exit) (turn : IdleTurn) (after : Standing O) → due ≡ dues.Turn → due' ≡ dues.Nothing → exit' ≡ exit_of_turned (turned_of turn) → Does kinds cells at after (λ events. IdlesIn config events turn) → ((count : ℕ) → turn ≡ turns.Exhausted count → Shows after.seats count)
      → HasDone config kinds cells start (owed_of due) (IsNewDue reads writes due) (record { at = at; told = told; exit = exit }) → HasDone config kinds cells start (owed_of due') (IsNewDue reads writes due') (record { at = after; told = told; exit = exit' })
  turned_on due due' told exit exit' turn after was is ends-so does shown before =
      let done = subst (λ d. HasDone config kinds cells start (owed_of d) (IsNewDue reads writes d) (record { at = at; told = told; exit = exit })) was before in
      subst (λ d. HasDone config kinds cells start (owed_of d) (IsNewDue reads writes d) (record { at = after; told = told; exit = exit' })) (sym is)
      (subst (λ e. HasDone config kinds cells start owed.Nothing (Unit {0}) (record { at = after; told = told; exit = e })) (sym ends-so) record {
        events = done.events ++ does.events;
        went = did_on kinds cells start done.events at does.events after done.went does.went;
        worked = λ answers is'. let w = done.worked answers is' in subst (λ l. Worked config l (done.events ++ does.events) (exit_of_turned (turned_of turn))) (sym w.1)
            (further w.0 done.events does.events idle (exit_of_turned (turned_of turn)) w.3 (record { turn = turn; idles = does.held; exit_is = refl }));
        new = tt;
        shown = λ count shows. shown count (spent_turn turn count shows);
      })
