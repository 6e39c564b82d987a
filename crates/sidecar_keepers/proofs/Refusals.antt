-- Starts that are refused, and starts that go on.
use Rattle.std.proofs.Common.{◌≡◌, ◌≢◌, inl, inr, ◌<◌, ◌+◌, ℕ, suc, List, [], ◌∷◌, ◌++◌, length, take, drop, slice_index_or, Option, Some, refl, sym, ◌∙◌, subst}
use Rattle.side_world.specs.declared.disk.Disk.{Ghosts}
use Rattle.side_world.specs.declared.outside.OutsideCall.{OutsideCall}
use Rattle.side_world.specs.Faults.{Rose, RoseWith}
use Rattle.side_world.specs.Outside.{Disks, IsNewDisk, IsTaken, IsGiven}
use Rattle.side_world.specs.Told.{Tells}
use Rattle.side_world.proofs.Composed.{tells_on}
use Rattle.disk_journal.specs.Moments.{Reads, ChangesNothing}
use Rattle.disk_journal.specs.declared.error.JournalErr.{JournalErr}
use Rattle.disk_journal.specs.declared.error.JournalErr.TheVariants as journals
use Rattle.keeper_journal.specs.History.{IsRefusedAt}
use Rattle.keeper_journal.specs.declared.any_keeper.AnyKeeper.{AnyKeeper}
use Rattle.resource_spec.specs.declared.component.ComponentKind.TheVariants.{StateJournal}
use Rattle.resource_spec.specs.Component.{Loaded}
use Rattle.resource_spec.specs.Load.{journal_of}
use Rattle.sidecar_keepers.specs.declared.starting.KeepersErr.{KeepersErr}
use Rattle.sidecar_keepers.specs.declared.starting.KeepersErr.TheVariants.{NoMemory}
use Rattle.sidecar_keepers.specs.Made.{AreMade}
use Rattle.sidecar_keepers.specs.Refused.{Counts, IsAnswerTo, IsReturned, IsNoJournalAt, IsUnread, HasFailed, IsCause, IsRefused}
use Rattle.sidecar_keepers.specs.Stores.{stores_of, takes_of}
use Rattle.sidecar_keepers.proofs.Counting.{rose_from_zero}
use Rattle.sidecar_keepers.proofs.Makings.{made_on}
use Rattle.sidecar_keepers.proofs.Places.{at_place, stores_more, takes_more, takes-append}

abbrev IsOther : JournalErr → Type 0
IsOther journals.Failed = ⊥
IsOther (journals.NotAJournal at) = Unit {0}
IsOther (journals.Full len) = Unit {0}
IsOther journals.NoMemory = Unit {0}

-- what is answered where a disk's journal is refused, of the count of the outside's faults
pub counts_of : (c : Loaded) (error : JournalErr) (e : KeepersErr) (faults before after : ℕ) → IsAnswerTo c error e → (error ≡ journals.Failed → Rose 0 faults) → ((error ≡ journals.Failed → ⊥) → faults ≡ 0) → RoseWith faults before after → Counts e before after
counts_of c journals.Failed e faults before after is failed others rose = subst (λ (answer : KeepersErr). Counts answer before after) (sym is) (rose_from_zero faults before after (failed refl) rose)
counts_of c (journals.NotAJournal at) e faults before after (inl is) failed others rose = subst (λ (answer : KeepersErr). Counts answer before after) (sym is) (rose.none (others (λ same. subst IsOther same tt)))
counts_of c (journals.NotAJournal at) e faults before after (inr is) failed others rose = subst (λ (answer : KeepersErr). Counts answer before after) (sym is) (rose.none (others (λ same. subst IsOther same tt)))
counts_of c (journals.Full len) e faults before after is failed others rose = absurd is
counts_of c journals.NoMemory e faults before after is failed others rose = subst (λ (answer : KeepersErr). Counts answer before after) (sym is) (rose.none (others (λ same. subst IsOther same tt)))

module _ {D : Type 0} (disking : Ghosts D) where
  -- a disk that was taken and went back
  module _ (c : Loaded) (kind : c.kind ≡ StateJournal) (path : List ℕ) (named : journal_of c ≡ Some path) (disk back : D) (before mid after : Option Disks) (new : IsNewDisk disking disk) (taken : IsTaken disking disk path before mid) (given : IsGiven disking back path mid after) where
    returned : (fact : D → D → Type 0) → fact disk back → IsReturned disking c before after fact
    returned fact is = record { kind = kind; path = path; named = named; disk = disk; back = back; mid = mid; new = new; taken = taken; given = given; is_so = is }

    unheard : (error : JournalErr) → IsOther error → (disking.size disk ≡ 0 → error ≡ journals.Failed) → (disking.size disk ≢ 0 → ChangesNothing disking disk back) → ((error ≡ journals.Failed → ⊥) → disking.faults back ≡ disking.faults disk) → IsCause disking NoMemory c before after
    unheard error other fresh unchanged no_fault = returned (IsUnread disking) (record { no_fault = no_fault (λ same. subst IsOther same other) ∙ new.no_faults; unchanged = unchanged (λ none. subst IsOther (fresh none) other) })

    pub cause_of : (error : JournalErr) (e : KeepersErr) → IsAnswerTo c error e
        → (disking.size disk ≢ 0 → (at : ℕ) → error ≡ journals.NotAJournal at → Reads disking disk (λ bytes. IsRefusedAt bytes at))
        → (disking.size disk ≡ 0 → error ≡ journals.Failed)
        → (disking.size disk ≢ 0 → ChangesNothing disking disk back)
        → (error ≡ journals.Failed → Rose (disking.faults disk) (disking.faults back))
        → ((error ≡ journals.Failed → ⊥) → disking.faults back ≡ disking.faults disk)
        → IsCause disking e c before after
    cause_of journals.Failed e is refused fresh unchanged failed no_fault = subst (λ (answer : KeepersErr). IsCause disking answer c before after) (sym is) (returned (HasFailed disking) (record { failed = subst (λ (n : ℕ). Rose n (disking.faults back)) new.no_faults (failed refl); unchanged = unchanged }))
    cause_of (journals.NotAJournal at) e (inl is) refused fresh unchanged failed no_fault =
        let some : disking.size disk ≢ 0 = λ none. subst IsOther (fresh none) tt in
        subst (λ (answer : KeepersErr). IsCause disking answer c before after) (sym is) (refl, returned (IsNoJournalAt disking at) (record { refused = refused some at refl; unchanged = unchanged some }))
    cause_of (journals.NotAJournal at) e (inr is) refused fresh unchanged failed no_fault = subst (λ (answer : KeepersErr). IsCause disking answer c before after) (sym is) (unheard (journals.NotAJournal at) tt fresh unchanged no_fault)
    cause_of (journals.Full len) e is refused fresh unchanged failed no_fault = absurd is
    cause_of journals.NoMemory e is refused fresh unchanged failed no_fault = subst (λ (answer : KeepersErr). IsCause disking answer c before after) (sym is) (unheard journals.NoMemory tt fresh unchanged no_fault)

  module _ (components : List Loaded) (place : ℕ) (c : Loaded) (low : place < length components) (is : c ≡ slice_index_or components place c) where
    -- the keeper of one more component, or none
    pub made_more : (keepers more : List (AnyKeeper D disking)) (before mid after : Option Disks) → AreMade disking (stores_of (take place components)) keepers before mid → ((added : List (AnyKeeper D disking)) × (more ≡ keepers ++ added) × AreMade disking (stores_of (c ∷ [])) added mid after) → AreMade disking (stores_of (take (place + 1) components)) more before after
    made_more keepers more before mid after made one =
        subst (λ (ks : List (AnyKeeper D disking)). AreMade disking (stores_of (take (place + 1) components)) ks before after) (sym one.1)
        (subst (λ (cs : List Loaded). AreMade disking cs (keepers ++ one.0) before after) (sym (stores_more components place c low is))
        (made_on disking (stores_of (take place components)) (stores_of (c ∷ [])) keepers one.0 before mid after made one.2))

    pub takes_on : (calls between now : Option (List OutsideCall)) → Tells calls between (takes_of (take place components)) → Tells between now (takes_of (c ∷ [])) → Tells calls now (takes_of (take (place + 1) components))
    takes_on calls between now first second = subst (Tells calls now) (sym (takes_more components place c low is)) (tells_on calls between now (takes_of (take place components)) (takes_of (c ∷ [])) first second)

    -- the start is refused at this one
    pub refused_here : (e : KeepersErr) (keepers : List (AnyKeeper D disking)) (before mid after : Option Disks) (calls between now : Option (List OutsideCall)) → AreMade disking (stores_of (take place components)) keepers before mid
        → Tells calls between (takes_of (take place components)) → Tells between now (takes_of (c ∷ [])) → IsCause disking e c mid after → IsRefused disking components e before after calls now
    refused_here e keepers before mid after calls between now made first second cause = inr (record {
      front = take place components;
      c = c;
      behind = drop (suc place) components;
      in_order = at_place components place c low is;
      keepers = keepers;
      mid = mid;
      made = made;
      cause = cause;
      takes = subst (Tells calls now) (sym (takes-append (take place components) (c ∷ []))) (tells_on calls between now (takes_of (take place components)) (takes_of (c ∷ [])) first second);
    })
