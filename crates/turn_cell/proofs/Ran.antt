-- The step of a served seat, from the moment the object is in its hand until the seat leaves.
use Rattle.std.proofs.Common.{◌≡◌, ℕ, List, [], ◌∷◌, ◌++◌, Option, Some, refl, sym, ap, ◌∙◌, subst}
use Rattle.atomic_table.specs.Table.{Me, rest}
use Rattle.atomic_table.specs.declared.shared.Seat.{Seat}
use Rattle.turn_cell.specs.declared.entry.Entry.{Entry}
use Rattle.turn_cell.specs.declared.object.Object.{Ghosts}
use Rattle.turn_cell.specs.declared.view.Stage.TheVariants.{Idle, Decided}
use Rattle.turn_cell.specs.declared.view.View.{View}
use Rattle.turn_cell.specs.History.{IsLegal}
use Rattle.turn_cell.specs.Sitting.{entry_by}
use Rattle.turn_cell.specs.Play.{sitting, IsSoundView, IsServed, StepMade}
use Rattle.turn_cell.proofs.Histories.{legal_more}

module _ {O C R : Type 0} (object : Ghosts O C R) (first : O) (n : ℕ) (t : Seat (Option O) (View O C R)) (served : IsServed object first n t) where
  module _ (cmd : C) (reply : R) (o : O) where
    abbrev pub Made : Entry C R
    Made = entry_by (sitting t) cmd reply (object.mark o)

    pub legal_next : (m : Me (Option O) (View O C R)) (l : List (ℕ × Option O)) → m ≡ (t.me.0, l) → object.takes first cmd → object.steps first t.me.0.seen Made
        → IsLegal object first (m.0.seen ++ record { seat = m.0.number; cmd = cmd; reply = reply; mark = object.mark o } ∷ [])
    legal_next m l e takes steps = subst (λ (z : Me (Option O) (View O C R)). IsLegal object first (z.0.seen ++ record { seat = z.0.number; cmd = cmd; reply = reply; mark = object.mark o } ∷ [])) (sym e)
        (legal_more object first t.me.0.seen Made (served.sound t.table_id).legal takes steps)

    -- the views after the step of the object, and after the decision
    module _ (a d : Me (Option O) (View O C R)) (made : a ≡ (t.me.0, (0, Some o) ∷ []))
        (decided : d ≡ (record a.0 { stage = Decided n (record { seat = a.0.number; cmd = cmd; reply = reply; mark = object.mark o }) }, a.1)) where
      abbrev Home : Me (Option O) (View O C R)
      Home = (record t.me.0 { stage = Decided n Made }, (0, Some o) ∷ [])

      pub at_home : d ≡ Home
      at_home = decided ∙ ap (λ (z : Me (Option O) (View O C R)). (record z.0 { stage = Decided n (record { seat = z.0.number; cmd = cmd; reply = reply; mark = object.mark o }) }, z.1)) made

      pub home_stage : d.0.stage ≡ Decided n Made
      home_stage = ap (λ (z : Me (Option O) (View O C R)). z.0.stage) at_home

      pub home_holds : d.1 ≡ (0, Some o) ∷ []
      home_holds = ap (λ (z : Me (Option O) (View O C R)). z.1) at_home

      pub home_done : d.0.kept ≡ []
      home_done = ap (λ (z : Me (Option O) (View O C R)). z.0.kept) at_home ∙ served.done

      pub home_stands : object.stands first (t.me.0.seen ++ Made ∷ []) o → object.stands first (d.0.seen ++ Made ∷ []) o
      home_stands = subst (λ (z : Me (Option O) (View O C R)). object.stands first (z.0.seen ++ Made ∷ []) o) (sym at_home)

      pub step_made : (m : Me (Option O) (View O C R)) → t.me.0.first ≡ Some first
          → (m ≡ (record d.0 { seen = d.0.seen ++ Made ∷ []; mine = d.0.mine ++ Made ∷ []; stage = Idle }, rest d.1)) × ((f : O) → d.0.first ≡ Some f → IsSoundView object f m.0) → StepMade object first t.me.0 cmd reply m
      step_made m is told = record {
        entry = Made;
        seat_is = refl;
        cmd_is = refl;
        reply_is = refl;
        whole = told.0 ∙ ap (λ (z : Me (Option O) (View O C R)). (record z.0 { seen = z.0.seen ++ Made ∷ []; mine = z.0.mine ++ Made ∷ []; stage = Idle }, rest z.1)) at_home;
        sound = told.1 first (ap (λ (z : Me (Option O) (View O C R)). z.0.first) at_home ∙ is);
      }
