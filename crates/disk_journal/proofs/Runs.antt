-- Runs of calls on anything that holds items on a disk.
use Rattle.std.proofs.Common.{◌≡◌, inl, inr, ℕ, suc, List, [], ◌∷◌, ◌++◌, take, Option, Some, None, Result, Ok, Err, OnOk, OnErr, sym, subst, arith, append_assoc}
use Rattle.std.proofs.lemmas.List.{append-nil}
use Rattle.side_world.specs.declared.disk.Disk.{Ghosts}
use Rattle.disk_journal.specs.AnyRun.{item_of, acknowledged, OfRun, HoldsAsBefore, IsCall, Leads, IsLeftByRun, LeavesWhatWasMade}
use Rattle.disk_journal.specs.Moments.{Leaves, AtEachMoment}
use Rattle.disk_journal.specs.OneMore.{WithOneMore, WithDoubt, WithOneAtMost, AtMostOneMore}
use Rattle.disk_journal.proofs.Crashes.{OnlyNow, started, joined, weaker}

module _ {X : Type 0} (P : List X → Type 0) where
  none_more : (items : List X) → P items → AtMostOneMore P items
  none_more items is = record { more = []; at_most_one = omega arith; is = subst P (sym (append-nil items)) is }

  one_more : (items : List X) (doubt : Option X) → WithOneMore P items doubt → AtMostOneMore P items
  one_more items None is = absurd is
  one_more items (Some item) is = record { more = item ∷ []; at_most_one = omega arith; is = is }

  pub at_most_doubt : (items : List X) (doubt : Option X) → WithDoubt P items doubt → AtMostOneMore P items
  at_most_doubt items doubt (inl same) = none_more items same
  at_most_doubt items doubt (inr more) = one_more items doubt more

  pub at_most_one : (items : List X) (doubt : Option X) (item : X) → WithOneAtMost P items doubt item → AtMostOneMore P items
  at_most_one items doubt item (inl same) = none_more items same
  at_most_one items doubt item (inr (inl old)) = one_more items doubt old
  at_most_one items doubt item (inr (inr new)) = one_more items (Some item) new

  -- the one in doubt is the first of the two, and one that is added the second
  pub with_any : (items : List X) (doubt : Option X) (item : X) → WithDoubt P items doubt → WithOneAtMost P items doubt item
  with_any items doubt item (inl same) = inl same
  with_any items doubt item (inr old) = inr (inl old)

  pub with_added : (items : List X) (doubt : Option X) (item : X) → WithDoubt P items (Some item) → WithOneAtMost P items doubt item
  with_added items doubt item (inl same) = inl same
  with_added items doubt item (inr new) = inr (inr new)

  -- of one call more in front
  one_call_more : (items : List X) (answer : Option X) (answers : List (Option X)) → OfRun P (items ++ item_of answer) answers → OfRun P items (answer ∷ answers)
  one_call_more items answer answers run = record {
    count = suc run.count;
    within = omega (arith, run.within);
    found = subst (AtMostOneMore P) (append_assoc items (item_of answer) (acknowledged (take run.count answers))) run.found;
  }

  no_call : (items : List X) (answers : List (Option X)) → AtMostOneMore P items → OfRun P items answers
  no_call items answers most = record { count = 0; within = omega arith; found = subst (AtMostOneMore P) (sym (append-nil items)) most }

-- what follows of the items of a run is so of them too
pub of_run_then : {X : Type 0} (P Q : List X → Type 0) (items : List X) (answers : List (Option X)) → ((all : List X) → P all → Q all) → OfRun P items answers → OfRun Q items answers
of_run_then P Q items answers leads run = record { count = run.count; within = run.within; found = record { more = run.found.more; at_most_one = run.found.at_most_one; is = leads _ run.found.is } }

module _ {D S X : Type 0} (disking : Ghosts D) (disk : S → D) (Holds : S → List X → Option X → Type 0) (Says : List ℕ → List X → Type 0) where
  -- a file of these items, and at most one more
  abbrev Most : List X → List ℕ → Type 0
  Most items bytes = AtMostOneMore (Says bytes) items

  abbrev Run : List X → List (Option X) → List ℕ → Type 0
  Run items answers bytes = OfRun (Says bytes) items answers

  -- all that a crash now may leave is a file of what is held, with the one in doubt or without it
  abbrev pub LeavesWhatIsHeld : Type 0
  LeavesWhatIsHeld = (state : S) (items : List X) (doubt : Option X) → Holds state items doubt → Leaves disking (disk state) (λ bytes. WithDoubt (Says bytes) items doubt)

  pub same_items : (state : S) (items : List X) (doubt : Option X) → Holds state items doubt → Holds state (items ++ []) doubt
  same_items state items doubt holds = subst (λ (all : List X). Holds state all doubt) (sym (append-nil items)) holds

  -- a call while at most this item is added
  module _ (old new : S) (item : X) (any_moment : (items : List X) (doubt : Option X) → Holds old items doubt → AtEachMoment disking (disk old) (disk new) (λ bytes. WithOneAtMost (Says bytes) items doubt item)) where
    moments : (items : List X) (doubt : Option X) → Holds old items doubt → AtEachMoment disking (disk old) (disk new) (Most items)
    moments items doubt holds = weaker disking (disk old) (disk new) (λ bytes. WithOneAtMost (Says bytes) items doubt item) (Most items) (λ bytes. at_most_one (Says bytes) items doubt item) (any_moment items doubt holds)

    pub made_call : ((items : List X) (doubt : Option X) → Holds old items doubt → Holds new (items ++ item ∷ []) None) → IsCall disking disk Holds Says old new (Some item)
    made_call made = record { holds = λ items doubt holds. (None, made items doubt holds); moments = moments }

    pub acknowledged_call : {R E : Type 0} (result : Result R E) → ((items : List X) (doubt : Option X) → Holds old items doubt → OnOk result (Holds new (items ++ item ∷ []) None)) → OnOk result (IsCall disking disk Holds Says old new (Some item))
    acknowledged_call (Ok x) made = made_call made
    acknowledged_call (Err e) made = tt

    pub undone_call : ((items : List X) (doubt : Option X) → Holds old items doubt → HoldsAsBefore Holds new items doubt item) → IsCall disking disk Holds Says old new None
    undone_call undone = record {
      holds = λ items doubt holds. elim (undone items doubt holds) [
        | inl still ↦ (doubt, same_items new items doubt still)
        | inr others ↦ elim others [ inl whole ↦ (None, same_items new items None whole) | inr torn ↦ (Some item, same_items new items (Some item) torn) ]
      ];
      moments = moments;
    }

    pub refused_call : {R E : Type 0} (result : Result R E) → ((items : List X) (doubt : Option X) → Holds old items doubt → OnErr result (HoldsAsBefore Holds new items doubt item)) → OnErr result (IsCall disking disk Holds Says old new None)
    refused_call (Ok x) undone = tt
    refused_call (Err e) undone = undone_call undone

  -- what is held behind some calls
  pub held_behind : (first last : S) (answers : List (Option X)) (items : List X) (doubt : Option X) → Leads disking disk Holds Says first answers last → Holds first items doubt → (then : Option X) × Holds last (items ++ acknowledged answers) then
  held_behind first last [] items doubt same holds = (doubt, subst (λ (state : S). Holds state (items ++ []) doubt) (sym same) (same_items first items doubt holds))
  held_behind first last (answer ∷ answers) items doubt run holds =
      let next = run.1.holds items doubt holds in
      let all = held_behind run.0 last answers (items ++ item_of answer) next.0 run.2 next.1 in
      (all.0, subst (λ (all_items : List X). Holds last all_items all.0) (append_assoc items (item_of answer) (acknowledged answers)) all.1)

  module _ (only : OnlyNow disking) (left : LeavesWhatIsHeld) where
    -- no call on the disk
    at_rest : (state : S) (items : List X) (doubt : Option X) → Holds state items doubt → AtEachMoment disking (disk state) (disk state) (Most items)
    at_rest state items doubt holds = started disking (disk state) (Most items) (only (disk state)) (λ bytes c told now. at_most_doubt (Says c) items doubt (left state items doubt holds bytes c told now))

    pub idle_call : (old new : S) → ((items : List X) (doubt : Option X) → Holds old items doubt → Holds new items doubt) → disk new ≡ disk old → IsCall disking disk Holds Says old new None
    idle_call old new still same = record {
      holds = λ items doubt holds. (doubt, same_items new items doubt (still items doubt holds));
      moments = λ items doubt holds. subst (λ (d : D). AtEachMoment disking (disk old) d (Most items)) (sym same) (at_rest old items doubt holds);
    }

    run_moments : (first last : S) (answers : List (Option X)) (items : List X) (doubt : Option X) → Leads disking disk Holds Says first answers last → Holds first items doubt → AtEachMoment disking (disk first) (disk last) (Run items answers)
    run_moments first last [] items doubt same holds =
        subst (λ (state : S). AtEachMoment disking (disk first) (disk state) (Run items [])) (sym same)
        (weaker disking (disk first) (disk first) (Most items) (Run items []) (λ c most. no_call (Says c) items [] most) (at_rest first items doubt holds))
    run_moments first last (answer ∷ answers) items doubt run holds =
        let next = run.1.holds items doubt holds in
        joined disking (disk first) (disk run.0) (disk last) (Run items (answer ∷ answers))
        (weaker disking (disk first) (disk run.0) (Most items) (Run items (answer ∷ answers)) (λ c most. no_call (Says c) items (answer ∷ answers) most) (run.1.moments items doubt holds))
        (weaker disking (disk run.0) (disk last) (Run (items ++ item_of answer) answers) (Run items (answer ∷ answers)) (λ c of_rest. one_call_more (Says c) items answer answers of_rest)
        (run_moments run.0 last answers (items ++ item_of answer) next.0 run.2 next.1))

    pub leaves_what_was_made : (first mid last : S) (front back : List (Option X)) (items : List X) (doubt : Option X) → LeavesWhatWasMade disking disk Holds Says first mid last front back items doubt
    leaves_what_was_made first mid last front back items doubt before behind holds =
        let held = held_behind first mid front items doubt before holds in
        run_moments mid last back (items ++ acknowledged front) held.0 behind held.1

    -- what a crash in a run leaves
    pub left_of_run : (items : List X) (front back : List (Option X)) (c : List ℕ) → IsLeftByRun disking disk Holds Says items front back c → OfRun (Says c) (items ++ acknowledged front) back
    left_of_run items front back c run = (leaves_what_was_made run.first run.mid run.last front back items run.doubt run.before run.behind run.holds).since run.bytes c run.told run.left
