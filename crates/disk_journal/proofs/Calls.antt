-- Appends and repairs are calls of a run.
use Rattle.std.proofs.Common.{◌≡◌, ◌⊎◌, inl, inr, ⊎_elim, ℕ, Bool, true, false, List, [], ◌∷◌, ◌++◌, Option, Some, None, Result, Ok, Err, OnOk, OnErr, refl, sym, ap, subst}
use Rattle.std.specs.Prelude.{is_some}
use Rattle.side_world.specs.declared.disk.Disk.{Ghosts}
use Rattle.disk_journal.specs.declared.error.JournalErr.{JournalErr}
use Rattle.disk_journal.specs.declared.error.JournalErr.TheVariants.{Failed, Full}
use Rattle.disk_journal.specs.declared.journal.Journal.{Journal}
use Rattle.disk_journal.specs.Image.{IsImage, IsWithOrWithout}
use Rattle.disk_journal.specs.Journal.{disk_of, torn_of, Holds}
use Rattle.disk_journal.specs.Moments.{AtEachMoment}
use Rattle.disk_journal.specs.OneMore.{WithOneAtMost, AtMostOneMore}
use Rattle.disk_journal.specs.Run.{IsCall}
use Rattle.disk_journal.proofs.Runs as runs
use Rattle.disk_journal.proofs.Crashes.{OnlyNow, weaker}
use Rattle.disk_journal.proofs.Images.{with_doubt}

-- a journal that is not torn has nothing in doubt
no_doubt : (torn : Bool) (doubt : Option (List ℕ)) → torn ≡ false → torn ≡ is_some doubt → doubt ≡ None
no_doubt torn None whole is = refl
no_doubt torn (Some body) whole is = absurd (cc (whole, is))

pub true_or_false : (b : Bool) → (b ≡ true) ⊎ (b ≡ false)
true_or_false true = inl refl
true_or_false false = inr refl

module _ {D : Type 0} (disking : Ghosts D) where
  -- a crash leaves the bodies that a journal holds, with the one in doubt or without it
  pub leaves_held : runs.LeavesWhatIsHeld disking disk_of (Holds disking) IsImage
  leaves_held journal bodies doubt holds bytes c told left = with_doubt c bodies doubt (holds.file.left bytes c told left)

  -- nothing was done
  pub idle_call : OnlyNow disking → (old new : Journal D disking) → new ≡ old → IsCall disking old new None
  idle_call only old new same =
      runs.idle_call disking disk_of (Holds disking) IsImage only leaves_held old new (λ bodies doubt holds. subst (λ (journal : Journal D disking). Holds disking journal bodies doubt) (sym same) holds) (ap (λ (journal : Journal D disking). disk_of journal) same)

  module _ (old new : Journal D disking) (body : List ℕ) (whole : torn_of old ≡ false)
      (any_moment : (bodies : List (List ℕ)) → Holds disking old bodies None → AtEachMoment disking (disk_of old) (disk_of new) (IsWithOrWithout bodies body)) where
    sure : (bodies : List (List ℕ)) (doubt : Option (List ℕ)) → Holds disking old bodies doubt → Holds disking old bodies None
    sure bodies doubt holds = subst (λ z. Holds disking old bodies z) (no_doubt (torn_of old) doubt whole holds.torn) holds

    moments : (bodies : List (List ℕ)) (doubt : Option (List ℕ)) → Holds disking old bodies doubt → AtEachMoment disking (disk_of old) (disk_of new) (λ bytes. WithOneAtMost (IsImage bytes) bodies doubt body)
    moments bodies doubt holds =
        weaker disking (disk_of old) (disk_of new) (IsWithOrWithout bodies body) (λ bytes. WithOneAtMost (IsImage bytes) bodies doubt body) (λ bytes. runs.with_added (IsImage bytes) bodies doubt body) (any_moment bodies (sure bodies doubt holds))

    pub append_call : {X E : Type 0} (result : Result X E) → ((bodies : List (List ℕ)) → Holds disking old bodies None → OnOk result (Holds disking new (bodies ++ body ∷ []) None)) → OnOk result (IsCall disking old new (Some body))
    append_call result appended = runs.acknowledged_call disking disk_of (Holds disking) IsImage old new body moments result (λ bodies doubt holds. appended bodies (sure bodies doubt holds))

    pub refused_call : OnlyNow disking → {X : Type 0} (result : Result X JournalErr)
        → ((bodies : List (List ℕ)) → Holds disking old bodies None → result ≡ Err Failed → Holds disking new bodies None ⊎ Holds disking new bodies (Some body))
        → ((len : ℕ) → result ≡ Err (Full len) → new ≡ old) → OnErr result ((result ≡ Err Failed) ⊎ ((len : ℕ) × (result ≡ Err (Full len)))) → OnErr result (IsCall disking old new None)
    refused_call only (Ok x) undone unchanged causes = tt
    refused_call only (Err e) undone unchanged causes =
        ⊎_elim (λ failed. runs.undone_call disking disk_of (Holds disking) IsImage old new body moments (λ bodies doubt holds. inr (undone bodies (sure bodies doubt holds) failed))) (λ full. idle_call only old new (unchanged full.0 full.1)) causes

  same_bodies : (journal : Journal D disking) (bodies : List (List ℕ)) (doubt : Option (List ℕ)) → Holds disking journal bodies doubt → Holds disking journal (bodies ++ []) doubt
  same_bodies journal bodies doubt holds = runs.same_items disking disk_of (Holds disking) IsImage journal bodies doubt holds

  -- a repair of a torn journal
  pub repair_call : (old new : Journal D disking) {X E : Type 0} (result : Result X E) → torn_of old ≡ true
      → ((bodies : List (List ℕ)) (doubt : List ℕ) → Holds disking old bodies (Some doubt) → OnOk result (Holds disking new bodies None))
      → ((bodies : List (List ℕ)) (doubt : List ℕ) → Holds disking old bodies (Some doubt) → OnErr result (Holds disking new bodies (Some doubt)))
      → ((bodies : List (List ℕ)) (doubt : List ℕ) → Holds disking old bodies (Some doubt) → AtEachMoment disking (disk_of old) (disk_of new) (IsWithOrWithout bodies doubt)) → IsCall disking old new None
  repair_call old new result torn repaired undone any_moment = record { holds = holds_by result repaired undone; moments = moments_by } where
    holds_by : {X E : Type 0} (result : Result X E) → ((bodies : List (List ℕ)) (doubt : List ℕ) → Holds disking old bodies (Some doubt) → OnOk result (Holds disking new bodies None))
        → ((bodies : List (List ℕ)) (doubt : List ℕ) → Holds disking old bodies (Some doubt) → OnErr result (Holds disking new bodies (Some doubt)))
        → (bodies : List (List ℕ)) (doubt : Option (List ℕ)) → Holds disking old bodies doubt → (then : Option (List ℕ)) × Holds disking new (bodies ++ []) then
    holds_by result repaired undone bodies None holds = absurd (cc (torn, holds.torn))
    holds_by (Ok x) repaired undone bodies (Some doubt) holds = (None, same_bodies new bodies None (repaired bodies doubt holds))
    holds_by (Err e) repaired undone bodies (Some doubt) holds = (Some doubt, same_bodies new bodies (Some doubt) (undone bodies doubt holds))

    moments_by : (bodies : List (List ℕ)) (doubt : Option (List ℕ)) → Holds disking old bodies doubt → AtEachMoment disking (disk_of old) (disk_of new) (λ bytes. AtMostOneMore (IsImage bytes) bodies)
    moments_by bodies None holds = absurd (cc (torn, holds.torn))
    moments_by bodies (Some doubt) holds =
        weaker disking (disk_of old) (disk_of new) (IsWithOrWithout bodies doubt) (λ bytes. AtMostOneMore (IsImage bytes) bodies) (λ bytes. runs.at_most_doubt (IsImage bytes) bodies (Some doubt)) (any_moment bodies doubt holds)
