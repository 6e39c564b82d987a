-- What holds of every history of a store.
use Rattle.std.specs.Prelude.{◌≡◌, ℕ, ◌+◌, ◌≤◌, Bool, true, false, List, [], ◌∷◌, ◌++◌, fold, Option, Some, None, bytes_eq, ◌&&◌, if◌then◌else◌}
use Rattle.std.specs.FinMap.{insert, remove}
use Rattle.keeper_core.specs.Rows.{Rows}
use Rattle.state_core.specs.declared.command.Mode.{Mode}
use Rattle.state_core.specs.declared.command.Mode.TheVariants.{Unsaid, FirstWrite, LastWrite}
use Rattle.state_core.specs.declared.command.Op.{Op}
use Rattle.state_core.specs.declared.command.Op.TheVariants.{Upsert, Remove}
use Rattle.state_core.specs.declared.command.Cmd.TheVariants.{Transact}
use Rattle.state_core.specs.declared.reply.Reply.TheVariants.{Committed}
use Rattle.state_core.specs.Current.{live_at, version_of, until_of}
use Rattle.state_core.specs.Judged.{Judged, ops_of, key_of, passes, version_in, judge, unjudged}
use Rattle.state_core.specs.Written.{stores}
use Rattle.state_core.specs.Reply.{Held}
use Rattle.state_core.specs.History.{Step, Course, held_in, course_after, course_of, now_in}

-- ---- versions

-- the rows after a history
abbrev pub rows_of : Held → List Step → Rows
rows_of opening history = (held_in opening (course_of opening history)).rows

-- the version that a key has at a moment after a history, where its row is live then
abbrev pub version_after : Held → List Step → ℕ → List ℕ → Option ℕ
version_after opening history moment key = version_of (live_at (rows_of opening history) moment key)

-- a version that a key had, and later had no longer, it never has again; moments do not fall
abbrev pub NeverReturns : Held → Type 0
NeverReturns opening =
    (before between after : List Step) (first second third : ℕ) (key : List ℕ) (version : ℕ) → first ≤ second → second ≤ third
    → version_after opening before first key ≡ Some version
    → (version_after opening (before ++ between) second key ≡ Some version → ⊥)
    → version_after opening ((before ++ between) ++ after) third key ≡ Some version → ⊥

-- ---- writes by an ETag

-- a mode and ETag ask for this ETag
abbrev pub asks_for : List ℕ → Mode → Option (List ℕ) → Bool
asks_for etag LastWrite other = false
asks_for etag Unsaid None = false
asks_for etag Unsaid (Some other) = bytes_eq other etag
asks_for etag FirstWrite None = false
asks_for etag FirstWrite (Some other) = bytes_eq other etag

-- an operation on this key asks for this ETag
abbrev pub is_guarded : List ℕ → List ℕ → Op → Bool
is_guarded key etag (Upsert item) = bytes_eq item.key key && asks_for etag item.mode item.etag
is_guarded key etag (Remove k other mode) = bytes_eq k key && asks_for etag mode other

-- how many of these operations do, and pass
abbrev pub guarded_in : Rows → ℕ → ℕ → List ℕ → List ℕ → Judged → List Op → ℕ
guarded_in rows next moment key etag judged [] = 0
guarded_in rows next moment key etag judged (op ∷ ops) =
    (if is_guarded key etag op && passes op (version_in rows next moment judged.writes (key_of op)) then 1 else 0)
    + guarded_in rows next moment key etag (judge rows next moment judged op) ops

-- and are written by an entry
abbrev pub guarded_by : Held → ℕ → List ℕ → List ℕ → Step → ℕ
guarded_by h moment key etag entry = if stores entry.reply then guarded_in h.rows h.next moment key etag unjudged (ops_of entry.cmd) else 0

-- and by the entries that follow a course
abbrev pub guarded_from : Held → List ℕ → List ℕ → Course → List Step → ℕ
guarded_from opening key etag course [] = 0
guarded_from opening key etag course (entry ∷ history) =
    guarded_by (held_in opening course) (now_in course entry.cmd) key etag entry + guarded_from opening key etag (course_after opening course entry) history

-- of all writes of a history at most one of a key passed by one ETag
abbrev pub IsGuardedOnce : Held → List Step → Type 0
IsGuardedOnce opening history = (key etag : List ℕ) → guarded_from opening key etag (course_of opening []) history ≤ 1

-- ---- transactions

-- rows, and the version that the next upsert gets
pub record Made : Type 0 where
  pub rows : Rows
  pub next : ℕ

-- after one operation at a moment, whether it is current or not
abbrev pub made_by : ℕ → Made → Op → Made
made_by moment made (Upsert item) = record {
  rows = insert made.rows item.key (record { value = item.value; version = made.next; until = until_of moment item.ttl });
  next = made.next + 1;
}
made_by moment made (Remove key etag mode) = record { rows = remove made.rows key; next = made.next }

-- each operation is current for the live row of its key, as those before it leave it
abbrev pub AreCurrent : ℕ → Made → List Op → Type 0
AreCurrent moment made [] = Unit {0}
AreCurrent moment made (op ∷ ops) = (passes op (version_of (live_at made.rows moment (key_of op))) ≡ true) × AreCurrent moment (made_by moment made op) ops

-- the same rows are live at a moment
abbrev pub AreAlike : ℕ → Rows → Rows → Type 0
AreAlike moment rows others = (key : List ℕ) → live_at rows moment key ≡ live_at others moment key

-- a transaction at a moment is whole or absent: `old` are the rows before it, `new` those after it
pub record IsWholeOrAbsent (moment : ℕ) (ops : List Op) (old : Made) (new : Rows) (committed : Type 0) : Type 0 where
  pub current : committed → AreCurrent moment old ops
  pub whole : committed → AreAlike moment new (fold (made_by moment) old ops).rows
  pub absent : (committed → ⊥) → AreAlike moment new old.rows

abbrev pub AreWholeOrAbsent : Held → List Step → Type 0
AreWholeOrAbsent opening history =
    (before after : List Step) (entry : Step) (ops : List Op) (now : ℕ) → history ≡ before ++ entry ∷ after → entry.cmd ≡ Transact ops now
    → IsWholeOrAbsent (now_in (course_of opening before) entry.cmd) ops
    (record { rows = rows_of opening before; next = (held_in opening (course_of opening before)).next })
    (rows_of opening (before ++ entry ∷ [])) (entry.reply ≡ Committed)
