-- What a start gives, from what opening gives of the disk as it then is.
use Rattle.std.proofs.Common.{◌≡◌, ◌≢◌, ℕ, List, [], None, Result, Ok, Err, sym, ap, ◌∙◌, subst}
use Rattle.std.specs.Prelude.{IfOk, IfErr}
use Rattle.std.specs.FinMap.{empty}
use Rattle.keeper_core.specs.Rows.{Rows}
use Rattle.keeper_core.specs.declared.changes.Changes.{Changes}
use Rattle.side_world.specs.declared.disk.Disk.{Ghosts}
use Rattle.disk_journal.specs.Journal.{Holds}
use Rattle.disk_journal.specs.Moments.{Reads}
use Rattle.disk_journal.specs.declared.error.JournalErr.{JournalErr}
use Rattle.disk_journal.specs.declared.error.JournalErr.TheVariants.{NotAJournal}
use Rattle.disk_journal.specs.declared.journal.Journal.{Journal}
use Rattle.keeper_journal.specs.History.{Say, IsHistory, rows_of, next_of}
use Rattle.keeper_journal.specs.JournalKeeper.{rows_in, next_in}
use Rattle.keeper_journal.specs.Kept.{Kept, KeptAs}
use Rattle.keeper_journal.specs.declared.journal_keeper.JournalKeeper.{JournalKeeper}
use Rattle.keeper_journal.proofs.Histories.{one_history}

module _ {D : Type 0} (disking : Ghosts D) where
  abbrev Opened : Type 0
  Opened = Result (JournalKeeper D disking) (D × JournalErr)

  pub still_kept : (old mid : D) → disking.contents mid ≡ disking.contents old → (r : Opened)
      → IfOk r (λ keeper. (commits : List Changes) × Kept disking keeper commits None × Reads disking mid (λ bytes. IsHistory bytes commits))
      → IfOk r (λ keeper. (commits : List Changes) × Kept disking keeper commits None × (disking.size old ≢ 0 → Reads disking old (λ bytes. IsHistory bytes commits)))
  still_kept old mid same (Ok keeper) h = (h.0, h.1, λ some bytes told. h.2 bytes (same ∙ told))
  still_kept old mid same (Err e) h = tt

  pub still_only : (old mid : D) → disking.contents mid ≡ disking.contents old → (r : Opened)
      → IfOk r (λ keeper. Reads disking mid (λ bytes. (commits : List Changes) → IsHistory bytes commits → Kept disking keeper commits None))
      → IfOk r (λ keeper. Reads disking old (λ bytes. (commits : List Changes) → IsHistory bytes commits → Kept disking keeper commits None))
  still_only old mid same (Ok keeper) h = λ bytes told. h bytes (same ∙ told)
  still_only old mid same (Err e) h = tt

  pub still_refused_only : (old mid : D) → disking.contents mid ≡ disking.contents old → (r : Opened)
      → IfErr r (λ e. (at : ℕ) → e.1 ≡ NotAJournal at → Reads disking mid (λ bytes. (commits : List Changes) → IsHistory bytes commits → ⊥))
      → IfErr r (λ e. (at : ℕ) → e.1 ≡ NotAJournal at → Reads disking old (λ bytes. (commits : List Changes) → IsHistory bytes commits → ⊥))
  still_refused_only old mid same (Ok keeper) h = tt
  still_refused_only old mid same (Err e) h = λ at is bytes told. h at is bytes (same ∙ told)

  -- over a journal that was just created
  pub fresh_kept : (keeper : JournalKeeper D disking) (journal : Journal D disking) → Holds disking journal [] None → keeper.journal ≡ journal → rows_in keeper ≡ empty → next_in keeper ≡ 1 → Kept disking keeper [] None
  fresh_kept keeper journal holds is rows next = record {
    bodies = [];
    doubted = None;
    holds = subst (λ (j : Journal D disking). Holds disking j [] None) (sym is) holds;
    say = tt;
    in_doubt = tt;
    rows_are = rows;
    next_is = next;
  }

  -- the keeper of the bodies of a journal keeps what they say
  pub kept_of : (journal : Journal D disking) (bodies : List (List ℕ)) (rows : Rows) (next : ℕ) (commits others : List Changes) → Holds disking journal bodies None → Say bodies commits → Say bodies others → rows ≡ rows_of commits → next ≡ next_of commits
      → KeptAs disking journal rows next others None
  kept_of journal bodies rows next commits others holds say says rows_are next_is =
      let same = one_history bodies commits others say says in
      record { bodies = bodies; doubted = None; holds = holds; say = says; in_doubt = tt; rows_are = rows_are ∙ ap rows_of same; next_is = next_is ∙ ap next_of same }
