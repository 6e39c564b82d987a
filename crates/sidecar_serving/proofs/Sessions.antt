-- A session whose connection has come back: what was read and written, and why it ended so.
use Rattle.std.specs.Prelude.{◌≡◌, ◌≢◌, ℕ, List, ◌++◌, Option, Some, None, Result}
use Rattle.std.proofs.Common.{◌∙◌, ap, sym, subst, inl, inr, arith}
use Rattle.side_base.specs.declared.message.Request.{Request}
use Rattle.side_base.specs.declared.message.Response.{Response}
use Rattle.side_world.specs.Answer.{Back}
use Rattle.side_world.specs.Faults.{Rose}
use Rattle.side_world.specs.Told.{IsFresh, Told}
use Rattle.turn_cell.specs.declared.error.ApiErr.{ApiErr}
use Rattle.conn_serve.specs.declared.ended.Ended.{Ended}
use Rattle.conn_serve.specs.declared.ended.Ended.TheVariants as ends
use Rattle.conn_serve.specs.Ends.{SinkAt, SourceAt}
use Rattle.conn_serve.specs.Exchanged.{Exchanged, Unanswered}
use Rattle.conn_serve.specs.Served.{HasCause, NoFault}
use Rattle.conn_serve.specs.Session.{Ends, EndsSending, EndsWith, Session, sent_at}
use Rattle.sidecar_serving.specs.Worker.{IsCause}

-- what was told of something that told nothing before
pub told_fresh : {X : Type 0} (before after : Option (List X)) (added all : List X) → IsFresh before → Told before after added → after ≡ Some all → all ≡ added
told_fresh None after added all fresh told is = absurd (differs (sym is ∙ told))
  where
    differs : Some all ≡ None → ⊥
    differs e = absurd (cc)
told_fresh (Some held) after added all fresh told is = same (sym is ∙ told) ∙ ap (λ h. h ++ added) fresh
  where
    same : Some all ≡ Some (held ++ added) → all ≡ held ++ added
    same e = cc

module _ {E : Type 0} (exchange : Request → List E → Result Response ApiErr → Type 0) (bytes : List ℕ) (done : List (Exchanged E)) (more : Option (Unanswered E)) (sent sent' : List ℕ → Type 0) (leads : (out : List ℕ) → sent out → sent' out) where
  sending_by : (ended : Ended) → EndsSending exchange bytes done more sent ended → EndsSending exchange bytes done more sent' ended
  sending_by ends.Closed e = record { left = e.left; begins = e.begins; stops = e.stops; no-more = e.no-more; wrote = leads _ e.wrote }
  sending_by ends.Asked e = record { left = e.left; begins = e.begins; stops = e.stops; no-more = e.no-more; wrote = leads _ e.wrote }
  sending_by ends.Limit e = record { left = e.left; begins = e.begins; stops = e.stops; no-more = e.no-more; wrote = leads _ e.wrote }
  sending_by (ends.Refused why) e = record { going = e.going; rest = e.rest; stream = e.stream; refused = e.refused; mark = e.mark; marked = e.marked; no-more = e.no-more; wrote = leads _ e.wrote }
  sending_by (ends.Spent count) e = record { going = e.going; next = e.next; is-next = e.is-next; why = e.why; this = e.this; answer = e.answer; answers = e.answers; wrote = leads _ e.wrote }
  sending_by ends.NoMemory e = record { going = e.going; lacks = e.lacks; mark = e.mark; rest = e.rest; begins = e.begins; marked = e.marked; wrote = leads _ e.wrote }
  sending_by ends.Done e = e
  sending_by ends.ClosedByPeer e = e
  sending_by ends.SourceFailed e = e
  sending_by ends.SinkFailed e = e

  with_by : (rest : List ℕ) → EndsWith exchange bytes done more sent rest → EndsWith exchange bytes done more sent' rest
  with_by rest e = record { all = e.all; mark = e.mark; marked = e.marked; no-more = e.no-more; wrote = leads _ e.wrote }

  ends_by : (ended : Ended) → Ends exchange bytes done more sent ended → Ends exchange bytes done more sent' ended
  ends_by ends.Done e = record { all = e.all; no-more = e.no-more; wrote = leads _ e.wrote }
  ends_by ends.ClosedByPeer e = (e.0, e.1, with_by e.0 e.2)
  ends_by ends.SourceFailed e = (e.0, with_by e.0 e.1)
  ends_by ends.SinkFailed (inl e) = inl (record { going = e.going; rest = e.rest; begins = e.begins; mark = e.mark; marked = e.marked; no-more = e.no-more; wrote = leads _ e.wrote })
  ends_by ends.SinkFailed (inr e) = inr (e.0, sending_by e.0 e.1)
  ends_by ends.Closed e = sending_by ends.Closed e
  ends_by ends.Asked e = sending_by ends.Asked e
  ends_by ends.Limit e = sending_by ends.Limit e
  ends_by (ends.Refused why) e = sending_by (ends.Refused why) e
  ends_by (ends.Spent count) e = sending_by (ends.Spent count) e
  ends_by ends.NoMemory e = sending_by ends.NoMemory e

-- the same session, with what was sent said in other words
pub session_by : {E : Type 0} (exchange : Request → List E → Result Response ApiErr → Type 0) (bytes : List ℕ) (done : List (Exchanged E)) (more : Option (Unanswered E)) (all front all' front' : List ℕ → Type 0) (ended : Ended)
    → ((out : List ℕ) → all out → all' out) → ((out : List ℕ) → front out → front' out) → Session exchange bytes done more all front ended → Session exchange bytes done more all' front' ended
session_by exchange bytes done more all front all' front' ended leads fronts s = record { answered = s.answered; ends = ends_by exchange bytes done more (sent_at ended all front) (sent_at ended all' front') (each ended) ended s.ends }
  where
    each : (e : Ended) (out : List ℕ) → sent_at e all front out → sent_at e all' front' out
    each ends.Done = leads
    each ends.Closed = leads
    each ends.Asked = leads
    each ends.ClosedByPeer = leads
    each (ends.Refused why) = leads
    each ends.Limit = leads
    each (ends.Spent count) = leads
    each ends.SourceFailed = leads
    each ends.SinkFailed = fronts
    each ends.NoMemory = leads

-- a count that has risen isn't 0
pub risen : (n : ℕ) → Rose 0 n → n ≢ 0
risen n (inl less) e = absurd (omega (arith, less, e))
risen n (inr top) e = absurd (omega (arith, top, e))

-- why it ended so, by what came back
pub cause_by : (source source' : SourceAt) (sink sink' : SinkAt) (back : Back) (ended : Ended) → source.faults ≡ 0 → sink.faults ≡ 0 → source'.faults ≡ back.faults → sink'.faults ≡ back.sink_faults → source'.ended ≡ back.ended
    → HasCause source source' sink sink' ended → IsCause back ended
cause_by source source' sink sink' back ended none none' faults faults' over = by ended
  where
    plain : NoFault source source' sink sink' → (back.faults ≡ 0) × (back.sink_faults ≡ 0)
    plain n = (sym faults ∙ n.read ∙ none, sym faults' ∙ n.wrote ∙ none')

    by : (ended : Ended) → HasCause source source' sink sink' ended → IsCause back ended
    by ends.Done c = (plain c.no_fault, sym over ∙ c.ended)
    by ends.ClosedByPeer c = (plain c.no_fault, sym over ∙ c.ended)
    by ends.SourceFailed c = (risen back.faults (subst (λ n. Rose 0 n) faults (subst (λ n. Rose n source'.faults) none c.0)), sym faults' ∙ c.1 ∙ none')
    by ends.SinkFailed c = (risen back.sink_faults (subst (λ n. Rose 0 n) faults' (subst (λ n. Rose n sink'.faults) none' c.0)), sym faults ∙ c.1 ∙ none)
    by ends.Closed c = plain c
    by ends.Asked c = plain c
    by ends.Limit c = plain c
    by (ends.Refused why) c = plain c
    by (ends.Spent count) c = plain c
    by ends.NoMemory c = plain c
