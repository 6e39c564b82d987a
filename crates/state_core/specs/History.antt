-- A store's history: what its entries wrote, and which entry may follow.
use Rattle.std.specs.Prelude.{◌≡◌, ℕ, ◌+◌, max, List, [], ◌∷◌, ◌++◌, fold}
use Rattle.side_world.specs.Faults.{Rose}
use Rattle.keeper_core.specs.Faults.{Rises}
use Rattle.keeper_core.specs.declared.changes.Changes.{Changes}
use Rattle.turn_cell.specs.declared.entry.Entry.{Entry}
use Rattle.state_core.specs.declared.command.Cmd.{Cmd}
use Rattle.state_core.specs.declared.command.Cmd.TheVariants.{Get, Save, Delete, Bulk, Transact}
use Rattle.state_core.specs.declared.reply.Reply.{Reply}
use Rattle.state_core.specs.declared.reply.Reply.TheVariants.{Failed}
use Rattle.state_core.specs.Write.{Write, upserts, rows_after}
use Rattle.state_core.specs.Reply.{Held, IsReply}
use Rattle.state_core.specs.Written.{written, size_in, commit_of}

-- an entry of a store's history
abbrev pub Step : Type 0
Step = Entry Cmd Reply

abbrev pub moment_of : Cmd → ℕ
moment_of (Get key now) = now
moment_of (Save items now) = now
moment_of (Delete key etag mode now) = now
moment_of (Bulk keys skip now) = now
moment_of (Transact ops now) = now

-- the greatest moment so far, the writes in order, and the keeper's size after them
pub record Course : Type 0 where
  pub latest : ℕ
  pub passed : List Write
  pub size : ℕ

-- what a keeper holds after the writes, if it held `opening` before them
abbrev pub held_in : Held → Course → Held
held_in opening course = record {
  rows = rows_after opening.rows opening.next course.passed;
  next = opening.next + upserts course.passed;
  size = course.size;
  limit = opening.limit;
  size_after = opening.size_after;
  may_fail = opening.may_fail;
}

abbrev pub course_with : Course → ℕ → Held → List Write → Course
course_with course moment h writes = record { latest = moment; passed = course.passed ++ writes; size = size_in h writes }

abbrev pub now_in : Course → Cmd → ℕ
now_in course cmd = max course.latest (moment_of cmd)

abbrev pub course_after : Held → Course → Step → Course
course_after opening course entry =
    course_with course (now_in course entry.cmd) (held_in opening course)
    (written (held_in opening course) (now_in course entry.cmd) entry.cmd entry.reply)

-- the course of a history over what the first keeper held
abbrev pub course_of : Held → List Step → Course
course_of opening history = fold (course_after opening) (record { latest = 0; passed = []; size = opening.size }) history

-- the commits of the entries that follow a course, in order: what an entry wrote is one
abbrev pub commits_from : Held → Course → List Step → List Changes
commits_from opening course [] = []
commits_from opening course (entry ∷ history) =
    commit_of (held_in opening course) (written (held_in opening course) (now_in course entry.cmd) entry.cmd entry.reply)
    ++ commits_from opening (course_after opening course entry) history

-- the commits of a history
abbrev pub commits_in : Held → List Step → List Changes
commits_in opening history = commits_from opening (course_of opening []) history

-- the count of faults after a history, from the count at the opening
abbrev pub last_mark : ℕ → List Step → ℕ
last_mark faults history = fold (λ mark entry. entry.mark) faults history

-- an entry may come after a history
pub record IsStep (opening : Held) (faults : ℕ) (history : List Step) (entry : Step) : Type 0 where
  pub reply : IsReply (held_in opening (course_of opening history)) (now_in (course_of opening history) entry.cmd) entry.cmd (Rose (last_mark faults history) entry.mark) entry.reply
  pub mark : Rises opening.may_fail (last_mark faults history) entry.mark
  pub steady : (entry.reply ≡ Failed → ⊥) → entry.mark ≡ last_mark faults history
