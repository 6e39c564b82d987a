-- What a whole call tells, put together from what its steps tell.
use Rattle.std.proofs.Common.{◌≡◌, ◌≢◌, ℕ, ◌^◌, ◌≤◌, min, List, [], ◌∷◌, ◌++◌, length, All, Option, Some, refl, sym, ap, ◌∙◌, subst, arith, append-nil}
use Rattle.std.proofs.lemmas.List.Elements.{All-nil}
use Rattle.atomic_table.specs.Table.{Me}
use Rattle.atomic_table.specs.declared.shared.Seat.{Seat}
use Rattle.turn_cell.specs.declared.entry.Entry.{Entry}
use Rattle.turn_cell.specs.declared.object.Object.{Ghosts}
use Rattle.turn_cell.specs.declared.view.Stage.TheVariants.{Idle, Waiting, InTurn}
use Rattle.turn_cell.specs.declared.view.View.{View}
use Rattle.turn_cell.specs.Sitting.{IsAlone, Extends, Exhausts, entry_by}
use Rattle.turn_cell.specs.Play.{shown, sitting, IsSoundView, Hit, StepMade}

module _ {O C R : Type 0} (object : Ghosts O C R) (first : O) (a b : Seat (Option O) (View O C R)) (same : b.table_id ≡ a.table_id) where
  -- a seat whose view became w
  pub seen_as : (w : View O C R) (l : List (ℕ × Option O)) → b.me ≡ (w, l) → sitting b ≡ shown a.table_id w
  seen_as w l e i = shown (same i) (e i).0

  pub glanced_out : (n : ℕ) → 2 ^ 62 ≤ n → b.me ≡ (record a.me.0 { count = Some n }, a.me.1) → IsSoundView object first b.me.0 → (IsAlone (sitting a) → length a.me.0.seen ≡ 2 ^ 62) → Exhausts object first (sitting a) n (sitting b)
  glanced_out n late e ok full = record {
    others = [];
    foreign = All-nil (λ (entry : Entry C R). entry.seat ≢ a.me.0.number);
    alone = λ _. refl;
    late = late;
    full = full;
    whole = seen_as (record a.me.0 { count = Some n }) a.me.1 e ∙ ap (λ (l : List (Entry C R)). shown a.table_id (record a.me.0 { seen = l; count = Some n })) (sym (append-nil a.me.0.seen));
    sound = ok b.table_id;
  }

  module _ (n : ℕ) (m1 m2 : Me (Option O) (View O C R)) (drawn : m1 ≡ (record a.me.0 { stage = Waiting n }, [])) (hit : Hit object first m1 n m2) where
    abbrev Full : List (Entry C R)
    Full = a.me.0.seen ++ hit.others

    served : m2 ≡ (record a.me.0 { seen = a.me.0.seen ++ hit.others; stage = InTurn n }, (0, Some hit.now) ∷ [])
    served = hit.whole ∙ ap (λ (m : Me (Option O) (View O C R)). (record m.0 { seen = m.0.seen ++ hit.others; stage = InTurn n }, (0, Some hit.now) ∷ m.1)) drawn

    others_foreign : All (λ (entry : Entry C R). entry.seat ≢ a.me.0.number) hit.others
    others_foreign = subst (λ (m : Me (Option O) (View O C R)). All (λ (entry : Entry C R). entry.seat ≢ m.0.number) hit.others) drawn hit.foreign

    others_alone : IsAlone (sitting a) → hit.others ≡ []
    others_alone alone = hit.alone (ap (λ (m : Me (Option O) (View O C R)). m.0.is_root) drawn ∙ alone.0, ap (λ (m : Me (Option O) (View O C R)). m.0.out) drawn ∙ alone.1)

    full_length : length (a.me.0.seen ++ hit.others) ≡ min n (2 ^ 62)
    full_length = ap (λ (m : Me (Option O) (View O C R)). length (m.0.seen ++ hit.others)) (sym drawn) ∙ hit.long

    -- of a seat that is alone, the history had as many entries as its ticket
    pub alone_length : IsAlone (sitting a) → length a.me.0.seen ≡ min n (2 ^ 62)
    alone_length alone = ap length (sym (append-nil a.me.0.seen) ∙ ap (λ (l : List (Entry C R)). a.me.0.seen ++ l) (sym (others_alone alone))) ∙ full_length

    pub stepped_on : (cmd : C) (reply : R) → StepMade object first m2.0 cmd reply b.me → Extends object first (sitting a) cmd reply (sitting b)
    stepped_on cmd reply made = record {
      mark = made.entry.mark;
      others = hit.others;
      foreign = others_foreign;
      alone = others_alone;
      whole = seen_as (record m2.0 { seen = m2.0.seen ++ made.entry ∷ []; mine = m2.0.mine ++ made.entry ∷ []; stage = Idle }) [] made.whole
          ∙ ap (λ (z : View O C R × Entry C R). shown a.table_id (record z.0 { seen = z.0.seen ++ z.1 ∷ []; mine = z.0.mine ++ z.1 ∷ []; stage = Idle })) (λ i. ((served i).0, same_entry i));
      sound = made.sound b.table_id;
    }
      where
        same_entry : made.entry ≡ entry_by (sitting a) cmd reply made.entry.mark
        same_entry i = record { seat = (made.seat_is ∙ ap (λ (m : Me (Option O) (View O C R)). m.0.number) served) i; cmd = made.cmd_is i; reply = made.reply_is i; mark = made.entry.mark }

    pub passed_by : 2 ^ 62 ≤ n → b.me ≡ (record m2.0 { count = Some n; stage = Idle }, []) → IsSoundView object first b.me.0 → Exhausts object first (sitting a) n (sitting b)
    passed_by late e ok = record {
      others = hit.others;
      foreign = others_foreign;
      alone = others_alone;
      late = late;
      full = λ alone. omega (arith, late, alone_length alone);
      whole = seen_as (record m2.0 { count = Some n; stage = Idle }) [] e ∙ ap (λ (m : Me (Option O) (View O C R)). shown a.table_id (record m.0 { count = Some n; stage = Idle })) served;
      sound = ok b.table_id;
    }
