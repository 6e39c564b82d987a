-- Rounds of a worker, one after the other.
use Rattle.std.proofs.Common.{◌≡◌, false, List, [], ◌++◌, Option, Some, None, refl, sym, ap, ◌∙◌, subst, append_assoc, append-nil, add-zero, cond, arith}
use Rattle.std.proofs.lemmas.List.Sums.{sum_by-append}
use Rattle.sidecar_workers.specs.declared.exit.Exit.{Exit}
use Rattle.sidecar_workers.specs.declared.slot.Slot.{Slot}
use Rattle.sidecar_workers.specs.declared.work.Owed.TheVariants as owed
use Rattle.sidecar_workers.specs.declared.work.Call.{Call}
use Rattle.sidecar_workers.specs.declared.work.Work.{Ghosts}
use Rattle.sidecar_workers.specs.StopSeat.{Standing}
use Rattle.sidecar_workers.specs.Works.{is_accept, IsRun, Leads}
use Rattle.sidecar_workers.specs.Slots.{Makes, RoundOf}

makes_more : (ds es : List Call) (ending : Option Exit) → Leads ds → Makes es ending → Makes (ds ++ es) ending
makes_more ds es None lead more = λ cs e run. subst (λ (l : List Call). IsRun l e) (sym (append_assoc ds es cs)) (lead (es ++ cs) e (more cs e run))
makes_more ds es (Some e) lead run = lead es e run

module _ {W : Type 0} (work : Ghosts W) where
  pub no_round : ((x : W) → work.keeps x x) → (s : Slot W) → work.owes s.work ≡ owed.Nothing → work.is_over s.work ≡ false → RoundOf work s s None
  no_round stays s free on = record {
    free = free;
    over = on;
    kept = stays s.work;
    own = tt;
    same = (refl, refl);
    seat = refl;
    stopped = λ e. absurd (cc);
    awake = tt;
    told = λ cs is. (cs, [], is, sym (append-nil cs), (λ more e run. run), sym (add-zero s.seat.looks));
  }

  pub one_more : ((x y z : W) → work.keeps x y → work.keeps y z → work.keeps x z) → (s t u : Slot W) (ending : Option Exit) → RoundOf work s t None → RoundOf work t u ending → RoundOf work s u ending
  one_more chains s t u ending r q = record {
    free = q.free;
    over = q.over;
    kept = chains s.work t.work u.work r.kept q.kept;
    own = q.own;
    same = (q.same.0 ∙ r.same.0, q.same.1 ∙ r.same.1);
    seat = let again : Standing → Standing = λ z. record z { found = u.seat.found; looks = u.seat.looks } in q.seat ∙ ap again r.seat;
    stopped = q.stopped;
    awake = q.awake;
    told = λ cs is. let later = q.told cs is in let before = r.told later.0 later.2 in
        (before.0, before.1 ++ later.1, before.2, later.3 ∙ (ap (λ (l : List Call). l ++ later.1) before.3 ∙ append_assoc before.0 before.1 later.1), makes_more before.1 later.1 ending before.4 later.4, omega (arith, before.5, later.5, sum_by-append (λ c. cond (is_accept c) 1 0) before.1 later.1));
  }
