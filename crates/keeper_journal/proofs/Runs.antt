-- Runs of commits of a keeper.
use Rattle.std.proofs.Common.{◌≡◌, ◌≢◌, ℕ, List, [], ◌∷◌, ◌++◌, length, Option, Some, None, Result, Ok, Err, refl, sym, ◌∙◌, ap, subst, arith, length-append}
use Rattle.std.specs.Prelude.{IfOk, IfErr}
use Rattle.side_world.specs.declared.disk.Disk.{Ghosts}
use Rattle.keeper_core.specs.Commits as core
use Rattle.keeper_core.specs.Rows.{Rows}
use Rattle.keeper_core.specs.declared.changes.Changes.{Changes}
use Rattle.disk_journal.specs.AnyRun.{acknowledged}
use Rattle.disk_journal.specs.Image.{front}
use Rattle.disk_journal.specs.Journal.{disk_of}
use Rattle.disk_journal.specs.Moments.{Reads}
use Rattle.disk_journal.specs.declared.error.JournalErr.{JournalErr}
use Rattle.disk_journal.specs.declared.error.JournalErr.TheVariants.{NotAJournal}
use Rattle.disk_journal.specs.declared.journal.Journal.{Journal}
use Rattle.disk_journal.proofs.Crashes.{OnlyNow}
use Rattle.disk_journal.proofs.Runs as runs
use Rattle.keeper_journal.specs.AnyKeeper.{any_leads, KeptByAny, AnyReads, HasJust, IsWhole}
use Rattle.keeper_journal.specs.declared.any_keeper.AnyKeeper.{AnyKeeper}
use Rattle.keeper_journal.specs.declared.any_keeper.AnyKeeper.TheVariants as any
use Rattle.keeper_journal.specs.History.{IsHistory}
use Rattle.keeper_journal.specs.JournalKeeper.{rows_in, next_in, disk_in}
use Rattle.keeper_journal.specs.Kept.{Kept, KeptAs}
use Rattle.keeper_journal.specs.Run.{HasAtMostOneMore, IsCall, KeepsOfRun, AfterACrash}
use Rattle.keeper_journal.specs.declared.journal_keeper.JournalKeeper.{JournalKeeper}
use Rattle.keeper_journal.proofs.Keeping.{kept_file, just_kept}

-- a history is of some bytes
some_bytes : (bytes : List ℕ) (commits : List Changes) → IsHistory bytes commits → length bytes ≢ 0
some_bytes bytes commits history none =
    let long = length-append (front history.bodies) (history.image.gate ∷ history.image.behind) in
    absurd (omega (arith, none, ap length history.image.bytes_are, long))

-- what calls of a keeper made is what they acknowledged
made_is : (answers : List (Option Changes)) → core.acknowledged answers ≡ acknowledged answers
made_is [] = refl
made_is (None ∷ answers) = made_is answers
made_is (Some commit ∷ answers) = ap (λ (commits : List Changes). commit ∷ commits) (made_is answers)

module _ {D : Type 0} (disking : Ghosts D) where
  -- a crash leaves the commits that a keeper keeps, with the one in doubt or without it
  pub leaves_kept : runs.LeavesWhatIsHeld disking disk_in (Kept disking) IsHistory
  leaves_kept keeper commits doubt kept bytes c told left = kept_file kept.bodies kept.doubted commits doubt c kept.say kept.in_doubt (kept.holds.file.left bytes c told left)

  -- a call that leaves journal, rows and next version as they were
  module _ (old new : JournalKeeper D disking) (journal : new.journal ≡ old.journal) (rows : rows_in new ≡ rows_in old) (next : next_in new ≡ next_in old) where
    still_kept : (commits : List Changes) (doubt : Option Changes) → Kept disking old commits doubt → Kept disking new commits doubt
    still_kept commits doubt kept =
        subst (λ (j : Journal D disking). KeptAs disking j (rows_in new) (next_in new) commits doubt) (sym journal)
        (subst (λ (r : Rows). KeptAs disking old.journal r (next_in new) commits doubt) (sym rows)
        (subst (λ (n : ℕ). KeptAs disking old.journal (rows_in old) n commits doubt) (sym next) kept))

    pub idle_call : OnlyNow disking → IsCall disking old new None
    idle_call only = runs.idle_call disking disk_in (Kept disking) IsHistory only leaves_kept old new still_kept (ap (λ (j : Journal D disking). disk_of j) journal)

  -- what the disk of a keeper has behind some calls
  pub disk_has : (first last : AnyKeeper D disking) (answers : List (Option Changes)) (commits made : List Changes) (doubt : Option Changes) → any_leads first answers last → core.acknowledged answers ≡ made → KeptByAny first commits doubt
      → AnyReads last (HasAtMostOneMore (commits ++ made))
  disk_has (any.Memory first) (any.Memory last) answers commits made doubt leads is kept = tt
  disk_has (any.Memory first) (any.Journal last) answers commits made doubt leads is kept = absurd leads
  disk_has (any.Journal first) (any.Memory last) answers commits made doubt leads is kept = tt
  disk_has (any.Journal first) (any.Journal last) answers commits made doubt leads is kept = λ bytes told.
      let then = runs.held_behind disking disk_in (Kept disking) IsHistory first last answers commits doubt leads kept in
      subst (λ (cs : List Changes). HasAtMostOneMore (commits ++ cs) bytes) (sym (made_is answers) ∙ is)
      (runs.at_most_doubt (IsHistory bytes) (commits ++ acknowledged answers) then.0
      (kept_file then.1.bodies then.1.doubted (commits ++ acknowledged answers) then.0 bytes then.1.say then.1.in_doubt (then.1.holds.file.read bytes told)))

  -- and what it has where its journal is not torn
  pub disk_has_just : (first last : AnyKeeper D disking) (answers : List (Option Changes)) (commits made : List Changes) (doubt : Option Changes) → any_leads first answers last → core.acknowledged answers ≡ made → KeptByAny first commits doubt
      → IsWhole last → HasJust last (commits ++ made)
  disk_has_just (any.Memory first) (any.Memory last) answers commits made doubt leads is kept whole = tt
  disk_has_just (any.Memory first) (any.Journal last) answers commits made doubt leads is kept whole = absurd leads
  disk_has_just (any.Journal first) (any.Memory last) answers commits made doubt leads is kept whole = tt
  disk_has_just (any.Journal first) (any.Journal last) answers commits made doubt leads is kept whole = λ bytes told.
      let then = runs.held_behind disking disk_in (Kept disking) IsHistory first last answers commits doubt leads kept in
      subst (λ (cs : List Changes). IsHistory bytes (commits ++ cs)) (sym (made_is answers) ∙ is)
      (just_kept then.1.bodies then.1.doubted (commits ++ acknowledged answers) bytes then.1.say (sym then.1.holds.torn ∙ whole) (then.1.holds.file.read bytes told))

module _ {D E : Type 0} (disking : Ghosts D) (others : Ghosts E) (only : OnlyNow disking) (disk : E) (as_long : (bytes : List ℕ) → others.contents disk ≡ Some bytes → others.size disk ≡ length bytes) where
  some_disk : (commits : List Changes) (c : List ℕ) → IsHistory c commits → others.contents disk ≡ Some c → others.size disk ≢ 0
  some_disk commits c history told none = some_bytes c commits history (sym (as_long c told) ∙ none)

  pub found_again : (r : Result (JournalKeeper E others) (E × JournalErr))
      → (others.size disk ≢ 0 → IfOk r (λ keeper. Reads others disk (λ bytes. (commits : List Changes) → IsHistory bytes commits → Kept others keeper commits None)))
      → IfOk r (λ keeper. AfterACrash disking others disk (λ commits front back. KeepsOfRun others keeper (commits ++ acknowledged front) back))
  found_again (Ok keeper) only_these = λ commits before behind c run told.
      runs.of_run_then (IsHistory c) _ (commits ++ acknowledged before) behind (λ all history. only_these (some_disk all c history told) c told all history)
      (runs.left_of_run disking disk_in (Kept disking) IsHistory only (leaves_kept disking) commits before behind c run)
  found_again (Err e) only_these = tt

  pub not_refused : (r : Result (JournalKeeper E others) (E × JournalErr))
      → (others.size disk ≢ 0 → IfErr r (λ e. (at : ℕ) → e.1 ≡ NotAJournal at → Reads others disk (λ bytes. (commits : List Changes) → IsHistory bytes commits → ⊥)))
      → IfErr r (λ e. AfterACrash disking others disk (λ commits front back. (at : ℕ) → e.1 ≡ NotAJournal at → ⊥))
  not_refused (Ok keeper) none = tt
  not_refused (Err e) none = λ commits before behind c run told at is.
      let history = (runs.left_of_run disking disk_in (Kept disking) IsHistory only (leaves_kept disking) commits before behind c run).found.is in
      none (some_disk _ c history told) at is c told _ history
