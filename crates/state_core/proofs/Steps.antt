-- One more entry of a history.
use Rattle.std.proofs.Common.{◌≡◌, ◌+◌, ◌++◌, ◌∷◌, [], ℕ, List, max, fold, append_assoc, length-append, ap, sym, subst, ◌∙◌, arith}
use Rattle.std.proofs.lemmas.List.{append-nil}
use Rattle.std.proofs.lemmas.List.Sums.{fold-append}
use Rattle.keeper_core.specs.Commits.{HasMade}
use Rattle.keeper_core.proofs.Commits.{GoesOn, made_on}
use Rattle.keeper_core.specs.declared.keeper.Keeper.{Ghosts}
use Rattle.state_core.specs.declared.command.Cmd.{Cmd}
use Rattle.state_core.specs.declared.reply.Reply.{Reply}
use Rattle.state_core.specs.declared.store.Store.{Store}
use Rattle.state_core.specs.Write.{Write, upserts}
use Rattle.state_core.specs.Reply.{Held}
use Rattle.state_core.specs.Written.{written, size_in, held_with, commit_of, IsAnswered}
use Rattle.state_core.specs.History.{Step, Course, moment_of, held_in, course_with, course_after, course_of, commits_from, commits_in, last_mark, now_in, IsStep}
use Rattle.state_core.specs.Store.{Stands, held_by}
use Rattle.state_core.proofs.Writes.{upserts-append, rows_after-append}

-- what is held after writes, by all writes so far
pub held_in-with : (opening : Held) (course : Course) (moment : ℕ) (writes : List Write) → held_with (held_in opening course) writes ≡ held_in opening (course_with course moment (held_in opening course) writes)
held_in-with opening course moment writes = λ i. record {
  rows = sym (rows_after-append opening.rows opening.next course.passed writes) i;
  next = counted i;
  size = size_in (held_in opening course) writes;
  limit = opening.limit;
  size_after = opening.size_after;
  may_fail = opening.may_fail;
}
  where
    counted : (opening.next + upserts course.passed) + upserts writes ≡ opening.next + upserts (course.passed ++ writes)
    counted = omega (arith, upserts-append course.passed writes)

pub course_of-more : (opening : Held) (history : List Step) (entry : Step) → course_of opening (history ++ entry ∷ []) ≡ course_after opening (course_of opening history) entry
course_of-more opening history entry = fold-append (course_after opening) (record { latest = 0; passed = []; size = opening.size }) history (entry ∷ [])

last_mark-more : (faults : ℕ) (history : List Step) (entry : Step) → last_mark faults (history ++ entry ∷ []) ≡ entry.mark
last_mark-more faults history entry = fold-append (λ mark (e : Step). e.mark) faults history (entry ∷ [])

commits_from-more : (opening : Held) (course : Course) (history : List Step) (entry : Step) → (let after = fold (course_after opening) course history in
    commits_from opening course (history ++ entry ∷ []) ≡ commits_from opening course history ++ commit_of (held_in opening after) (written (held_in opening after) (now_in after entry.cmd) entry.cmd entry.reply))
commits_from-more opening course [] entry = append-nil _
commits_from-more opening course (e ∷ history) entry =
    ap (λ z. commit_of (held_in opening course) (written (held_in opening course) (now_in course e.cmd) e.cmd e.reply) ++ z) (commits_from-more opening (course_after opening course e) history entry)
    ∙ sym (append_assoc (commit_of (held_in opening course) (written (held_in opening course) (now_in course e.cmd) e.cmd e.reply)) (commits_from opening (course_after opening course e) history) _)

commits_in-more : (opening : Held) (history : List Step) (entry : Step) → (let course = course_of opening history in
    commits_in opening (history ++ entry ∷ []) ≡ commits_in opening history ++ commit_of (held_in opening course) (written (held_in opening course) (now_in course entry.cmd) entry.cmd entry.reply))
commits_in-more opening history entry = commits_from-more opening (course_of opening []) history entry

-- what is answered for what the keeper holds is a step of the history
pub stepped : {K : Type 0} (keeping : Ghosts K) → GoesOn keeping → (first : Store K keeping) (history : List Step) (old new : Store K keeping) (seat : ℕ) (cmd : Cmd) (reply : Reply) (now : ℕ)
    → Stands keeping first history old → IsAnswered (HasMade keeping old.keeper new.keeper) (held_by keeping old) (held_by keeping new) (keeping.faults old.keeper) (keeping.faults new.keeper) now cmd reply
    → now ≡ max old.latest (moment_of cmd) → new.latest ≡ now → new.used ≡ old.used + 1
    → (let entry : Step = record { seat = seat; cmd = cmd; reply = reply; mark = keeping.faults new.keeper } in
    IsStep (held_by keeping first) (keeping.faults first.keeper) history entry × Stands keeping first (history ++ entry ∷ []) new)
stepped keeping goes_on first history old new seat cmd reply now stands answered now_is latest used =
    let entry : Step = record { seat = seat; cmd = cmd; reply = reply; mark = keeping.faults new.keeper } in
    let opening = held_by keeping first in
    let course = course_of opening history in
    let at : now ≡ now_in course cmd = now_is ∙ ap (λ n. max n (moment_of cmd)) stands.latest in
    let here = subst (λ h. IsAnswered (HasMade keeping old.keeper new.keeper) h (held_by keeping new) (keeping.faults old.keeper) (keeping.faults new.keeper) now cmd reply) stands.held answered in
    let marked = subst (λ m. IsAnswered (HasMade keeping old.keeper new.keeper) (held_in opening course) (held_by keeping new) m (keeping.faults new.keeper) now cmd reply) stands.mark here in
    let whole = subst (λ n. IsAnswered (HasMade keeping old.keeper new.keeper) (held_in opening course) (held_by keeping new) (last_mark (keeping.faults first.keeper) history) (keeping.faults new.keeper) n cmd reply) at marked in (
      record { reply = whole.reply_is; mark = whole.faults; steady = whole.steady },
      record {
        held =
            whole.held_is
            ∙ held_in-with opening course (now_in course cmd) (written (held_in opening course) (now_in course cmd) cmd reply)
            ∙ ap (held_in opening) (sym (course_of-more opening history entry));
        mark = sym (last_mark-more (keeping.faults first.keeper) history entry);
        latest = latest ∙ at ∙ ap (λ (c : Course). c.latest) (sym (course_of-more opening history entry));
        used = omega (arith, used, stands.used, length-append history (entry ∷ []));
        commits = subst (HasMade keeping first.keeper new.keeper) (sym (commits_in-more opening history entry)) (made_on keeping goes_on first.keeper old.keeper new.keeper _ _ stands.commits whole.commits);
      },
    )
