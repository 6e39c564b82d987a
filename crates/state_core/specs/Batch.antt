-- What the changes of a batch stand for.
use Rattle.std.specs.Prelude.{◌≡◌, ℕ, ◌+◌, Bool, true, List, [], ◌∷◌, ◌++◌, map, Option, Some, None, option_to_list, unwrap_or, bytes_eq, if◌then◌else◌, ⊤, Result, IfOk}
use Rattle.std.specs.declared.alloc.AllocError.{AllocError}
use Rattle.std.specs.Cmp.Lexicographic.{slice_cmp}
use Rattle.std.specs.Ordering.{nat_cmp}
use Rattle.std.specs.BTreeMap.{get_by}
use Rattle.keeper_core.specs.Rows.{Rows}
use Rattle.keeper_core.specs.declared.changes.Change.{Change}
use Rattle.keeper_core.specs.declared.changes.Change.TheVariants.{Put, Remove}
use Rattle.state_core.specs.Pending as pending
use Rattle.state_core.specs.Pending.{change_of}
use Rattle.state_core.specs.declared.batch.Pending.{Pending}
use Rattle.keeper_core.specs.Commits.{HasMade}
use Rattle.keeper_core.specs.declared.keeper.Keeper.{Ghosts}
use Rattle.state_core.specs.declared.reply.Reply.{Reply}
use Rattle.state_core.specs.Reply.{held}
use Rattle.state_core.specs.Written.{stores, done_or, IsCommitted}
use Rattle.state_core.specs.declared.batch.Batch.{Batch}
use Rattle.state_core.specs.declared.command.Item.{Item}
use Rattle.state_core.specs.declared.command.Op.{Op}
use Rattle.state_core.specs.Current.{live_at, version_of, is_current}
use Rattle.state_core.specs.Write.{Write, upserts, numbered}
use Rattle.state_core.specs.Judged.{version_in, passes, key_of, write_of, judged_in}

-- the last change, where there is one
abbrev pub last_of : Batch → List Pending
last_of batch = option_to_list batch.last

-- the changes, in order
abbrev pub changes_of : Batch → List Change
changes_of batch = map change_of (batch.earlier.items ++ last_of batch)

-- the version that one more change leaves for a key, over those that were kept; `None` in it is no row
abbrev pub version_over : Option Pending → List ℕ → Option (Option ℕ) → Option (Option ℕ)
version_over None key kept = kept
version_over (Some last) key kept = if bytes_eq (pending.key_of last) key then Some (pending.version_of last) else kept

-- the version that is kept for a key, where a change before the last is of it
abbrev pub version_before : Batch → List ℕ → Option (Option ℕ)
version_before batch key = get_by (λ k. slice_cmp nat_cmp key k.now) batch.versions

-- the version that the changes give a key
abbrev pub version_at : Batch → List ℕ → Option (Option ℕ)
version_at batch key = version_over batch.last key (version_before batch key)

-- the changes are these writes, over these rows, and the versions are those that the changed keys have then
pub record IsBatch (rows : Rows) (next moment : ℕ) (writes : List Write) (batch : Batch) : Type 0 where
  pub changes : changes_of batch ≡ numbered next writes
  pub next_is : batch.next ≡ next + upserts writes
  pub versions : (key : List ℕ) → version_in rows next moment writes key ≡ unwrap_or (version_at batch key) (version_of (live_at rows moment key))

-- whether an item is current for the version that its key has after any writes of which this is the batch
abbrev pub IsPassing : Rows → ℕ → ℕ → Batch → Item → Bool → Type 0
IsPassing rows next moment batch item passed =
    (writes : List Write) → IsBatch rows next moment writes batch → passed ≡ is_current item.mode item.etag (version_in rows next moment writes item.key)

-- one more change
pub record HasAdded (old new : Batch) (last : Pending) : Type 0 where
  pub changes : changes_of new ≡ changes_of old ++ change_of last ∷ []
  pub next_is : new.next ≡ old.next
  pub versions : (q : List ℕ) → version_at new q ≡ (if bytes_eq (pending.key_of last) q then Some (pending.version_of last) else version_at old q)

-- one more change, which puts a row
pub record HasPut (old new : Batch) (key value : List ℕ) (until : ℕ) : Type 0 where
  pub changes : changes_of new ≡ changes_of old ++ Put key value old.next until ∷ []
  pub next_is : new.next ≡ old.next + 1
  pub versions : (q : List ℕ) → version_at new q ≡ (if bytes_eq key q then Some (Some old.next) else version_at old q)

-- one more change, which removes a row
pub record HasRemoved (old new : Batch) (key : List ℕ) : Type 0 where
  pub changes : changes_of new ≡ changes_of old ++ Remove key ∷ []
  pub next_is : new.next ≡ old.next
  pub versions : (q : List ℕ) → version_at new q ≡ (if bytes_eq key q then Some None else version_at old q)

-- the batch after one more operation, which passes or does not
pub record HasJudged (rows : Rows) (next moment : ℕ) (writes : List Write) (op : Op) (passed : Bool) (batch : Batch) : Type 0 where
  pub passed_is : passed ≡ passes op (version_in rows next moment writes (key_of op))
  pub batch_is : IsBatch rows next moment (writes ++ (if passed then write_of moment op (version_in rows next moment writes (key_of op)) else [])) batch

-- the batch of any writes is judged so that it becomes that of one more operation
abbrev pub JudgesNext : Rows → ℕ → ℕ → Op → Batch → Batch → Result Bool AllocError → Type 0
JudgesNext rows next moment op old new result = (writes : List Write) → IsBatch rows next moment writes old → IfOk result (λ passed. HasJudged rows next moment writes op passed new)

-- all operations are judged
pub record HasJudgedAll (rows : Rows) (next moment : ℕ) (ops : List Op) (batch : Batch) (refused : List ℕ) : Type 0 where
  pub batch_is : IsBatch rows next moment (judged_in rows next moment ops).writes batch
  pub refused_is : (judged_in rows next moment ops).refused ≡ refused

-- the first operation that does not pass stands at this place
abbrev pub HasStopped : Rows → ℕ → ℕ → List Op → ℕ → Type 0
HasStopped rows next moment ops place = (more : List ℕ) × ((judged_in rows next moment ops).refused ≡ place ∷ more)

-- the writes of a batch are made at a moment, and the command then answers `done`, or the commit's refusal
abbrev pub CommitsBatch : {K : Type 0} → Ghosts K → K → K → ℕ → Batch → Result ⊤ Reply → Type 0
CommitsBatch keeping old new moment batch result =
    (writes : List Write) (done : Reply) → IsBatch (keeping.rows old) (keeping.next old) moment writes batch → stores done ≡ true
    → IsCommitted (HasMade keeping old new) (held keeping old) (held keeping new) (keeping.faults old) (keeping.faults new) moment writes done (done_or done result)
