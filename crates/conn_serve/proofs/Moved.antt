-- What is sent and read, call after call.
use Rattle.std.proofs.Common.{◌≡◌, ℕ, ◌≤◌, ◌==◌, ◌||◌, Bool, true, false, List, [], ◌++◌, length, take, Option, Some, None, refl, sym, ap, subst, ◌∙◌, arith}
use Rattle.std.proofs.lemmas.List.{length-take}
use Rattle.side_world.specs.Faults.{Rose}
use Rattle.side_world.specs.Told.{Told, Took, IsDrained, EndsWhereTold}
use Rattle.side_world.proofs.Composed.{told_on, sent_after, sent_before}
use Rattle.http_frames.specs.Framing.{State, Kept}
use Rattle.conn_serve.specs.declared.ended.Ended.{Ended}
use Rattle.conn_serve.specs.declared.ended.Ended.TheVariants.{Done, Closed, Asked, ClosedByPeer, Refused, Limit, Spent, SourceFailed, SinkFailed, NoMemory}
use Rattle.conn_serve.specs.Ends.{SinkAt, SourceAt, Sent, Cut, ReadOnce, HasEnded, IsFinish, wrote, failed}
use Rattle.conn_serve.specs.Answering.{Wants, IsEnd}
use Rattle.conn_serve.specs.Answering as wants

-- ---- the sink

pub two_sent : (first second : List ℕ) (sink between sink' : SinkAt) → Sent first sink between → Sent second between sink' → Sent (first ++ second) sink sink'
two_sent first second sink between sink' one two = record { told = told_on sink.contents between.contents sink'.contents first second one.told two.told; no_fault = two.no_fault ∙ one.no_fault }

pub sent_then_cut : (first second : List ℕ) (sink between sink' : SinkAt) → Sent first sink between → Cut second between sink' → Cut (first ++ second) sink sink'
sent_then_cut first second sink between sink' one two = record { front = sent_after sink.contents between.contents sink'.contents first second one.told two.front; failed = subst (λ (n : ℕ). Rose n sink'.faults) one.no_fault two.failed }

pub cut_early : (first second : List ℕ) (sink sink' : SinkAt) → Cut first sink sink' → Cut (first ++ second) sink sink'
cut_early first second sink sink' one = record { front = sent_before sink.contents sink'.contents first second one.front; failed = one.failed }

-- what was sent before, and how the session then ends
pub finish_after : (ended : Ended) (first second : List ℕ) (sink between sink' : SinkAt) (result : Ended) → Sent first sink between → IsFinish ended second between sink' result → IsFinish ended (first ++ second) sink sink' result
finish_after ended first second sink between sink' result one (wrote is two) = wrote is (two_sent first second sink between sink' one two)
finish_after ended first second sink between sink' result one (failed is two) = failed is (sent_then_cut first second sink between sink' one two)

-- ---- the source

-- a read behind a hint
pub read_after : (source hinted source' : SourceAt) (bytes : List ℕ) → hinted.left ≡ source.left → hinted.taken ≡ source.taken → hinted.faults ≡ source.faults → Took hinted.left source'.left bytes → Told hinted.taken source'.taken bytes → source'.earlier ≡ hinted.taken → source'.faults ≡ hinted.faults → ReadOnce bytes source source'
read_after source hinted source' bytes left taken faults took told last no_fault = record {
  read = record {
    took = subst (λ (z : Option (List ℕ)). Took z source'.left bytes) left took;
    taken = subst (λ (z : Option (List ℕ)). Told z source'.taken bytes) taken told;
    no_fault = no_fault ∙ faults;
  };
  last = last ∙ taken;
}

drained_by : (left left' : Option (List ℕ)) → EndsWhereTold left 0 → Took left left' [] → IsDrained left'
drained_by None left' ends took = subst IsDrained (sym took) tt
drained_by (Some bytes) left' ends took = subst IsDrained (sym took.2) (sym took.1 ∙ ends.0 refl)

-- a piece is no longer than the room for it
pub short_piece : (n : ℕ) (into room : List ℕ) → n ≤ length room → length room ≤ 16384 → length (take n into) ≤ 16384
short_piece n into room within short = omega (arith, length-take n into, within, short)

-- a read of no bytes
pub ended_at : (source hinted source' : SourceAt) (n : ℕ) (into : List ℕ) → n ≡ 0 → hinted.left ≡ source.left → hinted.taken ≡ source.taken → hinted.faults ≡ source.faults → Took hinted.left source'.left (take n into) → Told hinted.taken source'.taken (take n into) → source'.earlier ≡ hinted.taken → EndsWhereTold hinted.left n → source'.ended ≡ (hinted.ended || (n == 0)) → source'.faults ≡ hinted.faults
    → HasEnded source source'
ended_at source hinted source' n into none-read left taken faults took told last ends ended no_fault =
    let bare : take n into ≡ [] = ap (λ (k : ℕ). take k into) none-read in
    let took' = subst (λ (l : List ℕ). Took hinted.left source'.left l) bare took in record {
      once = read_after source hinted source' [] left taken faults took' (subst (λ (l : List ℕ). Told hinted.taken source'.taken l) bare told) last no_fault;
      ended = ended ∙ ap (λ (k : ℕ). hinted.ended || (k == 0)) none-read ∙ or_true hinted.ended;
      drained = drained_by hinted.left source'.left (subst (λ (k : ℕ). EndsWhereTold hinted.left k) none-read ends) took';
    }
  where
    or_true : (b : Bool) → (b || true) ≡ true
    or_true true = refl
    or_true false = refl

-- the source has ended, and so has the session
pub over : (state : State) (out out' : List ℕ) (kept : Kept) (source source' : SourceAt) (sink sink' : SinkAt) (ended : Ended) → IsEnd state ended → Sent out sink sink' → HasEnded source source' → Wants state out out' kept source source' sink sink' (Some ended)
over state out out' kept source source' sink sink' Done end sent has = wants.done refl end sent has
over state out out' kept source source' sink sink' ClosedByPeer end sent has = wants.closed refl end sent has
over state out out' kept source source' sink sink' Closed end sent has = absurd end
over state out out' kept source source' sink sink' Asked end sent has = absurd end
over state out out' kept source source' sink sink' (Refused why) end sent has = absurd end
over state out out' kept source source' sink sink' Limit end sent has = absurd end
over state out out' kept source source' sink sink' (Spent count) end sent has = absurd end
over state out out' kept source source' sink sink' SourceFailed end sent has = absurd end
over state out out' kept source source' sink sink' SinkFailed end sent has = absurd end
over state out out' kept source source' sink sink' NoMemory end sent has = absurd end
