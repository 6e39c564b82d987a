-- At most one write of a key passes by one ETag, over a history.
use Rattle.std.proofs.Common.{◌≡◌, ◌⊎◌, inl, inr, ◌+◌, ◌++◌, ◌≤◌, ◌^◌, ◌∷◌, [], ℕ, Bool, true, false, List, Option, Some, None, map, take, bytes_eq, decimal, nat_lt, refl, ap, sym, subst, ◌∙◌, arith, cond, append_assoc}
use Rattle.std.proofs.lemmas.Bool.{false≢true}
use Rattle.std.proofs.lemmas.Bool.Decides.{nat_tests}
use Rattle.keeper_core.specs.Rows.{Rows, Row, row_at, lapsed, IsCounted}
use Rattle.keeper_core.specs.Changes.{after_change}
use Rattle.keeper_core.specs.declared.changes.Change.TheVariants.{Put, Remove}
use Rattle.state_core.specs.declared.command.Cmd.{Cmd}
use Rattle.state_core.specs.declared.command.Cmd.TheVariants.{Get, Save, Delete, Bulk, Transact}
use Rattle.state_core.specs.declared.reply.Reply.{Reply}
use Rattle.state_core.specs.declared.reply.Reply.TheVariants.{Spent, Full, TooLong}
use Rattle.state_core.specs.declared.reply.Reply.TheVariants as told
use Rattle.state_core.specs.Current.{live_at}
use Rattle.state_core.specs.Write.{Write, upsert, removal, upserts, rows_after, sweep}
use Rattle.state_core.specs.Judged.{unjudged, ops_of, unless_refused}
use Rattle.state_core.specs.Reply.{Held, reading, bulk_row, bulk_len, outcome, is_spent, size_with, judged, writes_of, reply_to, IsReply}
use Rattle.state_core.specs.Written.{stores, with_sweep, written, held_with}
use Rattle.state_core.specs.History.{Step, Course, held_in, course_after, course_of, now_in, IsStep}
use Rattle.state_core.specs.Laws.{guarded_in, guarded_from}
use Rattle.state_core.proofs.Writes.{rows_after-append, row_at-put, row_at-remove}
use Rattle.state_core.proofs.Sweeps.{upserts-removals, upserts-swept}
use Rattle.state_core.proofs.Returns.{not_gone, AreBelow, below_after, counted_below}
use Rattle.state_core.proofs.Wholes.{reply_commits, reply_none}
use Rattle.state_core.proofs.Steps.{held_in-with, course_of-more}
use Rattle.state_core.proofs.Guards.{IsGone, gone_after, stays, at_most}

-- ---- what an entry that stores has written

not_spent : (h : Held) (moment : ℕ) (write : Write) (writes : List Write) (done : Reply) (spent : Bool) → nat_lt (2 ^ 62) (h.next + upserts (write ∷ writes)) ≡ spent
    → stores (cond spent (Spent h.next) (cond (nat_lt h.limit (size_with h moment (write ∷ writes))) (Full (size_with h moment (write ∷ writes))) done)) ≡ true → h.next + upserts (write ∷ writes) ≤ 2 ^ 62
not_spent h moment write writes done true e stored = absurd (false≢true stored)
not_spent h moment write writes done false e stored = grind (arith, nat_tests, e)

outcome_few : (h : Held) (moment : ℕ) (writes : List Write) (done : Reply) → h.next ≤ 2 ^ 62 → stores (outcome h moment writes done) ≡ true → h.next + upserts writes ≤ 2 ^ 62
outcome_few h moment [] done few stored = omega (arith, few)
outcome_few h moment (write ∷ writes) done few stored = not_spent h moment write writes done (is_spent h.next (write ∷ writes)) refl stored

no_reading : (o : Option Row) → stores (reading o) ≡ true → ⊥
no_reading None e = false≢true e
no_reading (Some row) e = false≢true e

no_bulk : (long : Bool) (len : ℕ) (rows : Reply) → stores rows ≡ false → stores (cond long (TooLong len) rows) ≡ true → ⊥
no_bulk true len rows h e = false≢true e
no_bulk false len rows h e = false≢true (sym h ∙ e)

-- the writes are those that were judged, and the versions suffice for them
pub record HasStored (h : Held) (moment : ℕ) (cmd : Cmd) : Type 0 where
  pub writes_are : writes_of h moment cmd ≡ (judged h moment cmd).writes
  pub few : h.next + upserts (judged h moment cmd).writes ≤ 2 ^ 62

by_reply : (h : Held) (moment : ℕ) (cmd : Cmd) (reply : Reply) → h.next ≤ 2 ^ 62 → stores (reply_to h moment cmd) ≡ true → IsReply h moment cmd (Unit {0}) (reply_to h moment cmd) → HasStored h moment cmd
by_reply h moment (Get key now) reply few stored is = absurd (no_reading (live_at h.rows moment key) stored)
by_reply h moment (Bulk keys skip now) reply few stored is =
    absurd (no_bulk (nat_lt 67108864 (bulk_len h.rows moment keys)) (bulk_len h.rows moment keys) (told.Rows (map (bulk_row h.rows moment) keys)) refl stored)
by_reply h moment (Save items now) reply few stored is = record { writes_are = refl; few = outcome_few h moment (judged h moment (Save items now)).writes _ few stored }
by_reply h moment (Delete key etag mode now) reply few stored is = record { writes_are = refl; few = outcome_few h moment (judged h moment (Delete key etag mode now)).writes _ few stored }
by_reply h moment (Transact ops now) reply few stored is =
    let done = reply_commits h moment ops now (Unit {0}) (reply_to h moment (Transact ops now)) is stored in
    let none = reply_none h moment ops now (Unit {0}) (reply_to h moment (Transact ops now)) is done in
    let j = judged h moment (Transact ops now) in
    let same : unless_refused j.refused j.writes ≡ j.writes = ap (λ places. unless_refused places j.writes) none in
    record { writes_are = same; few = subst (λ w. h.next + upserts w ≤ 2 ^ 62) same (outcome_few h moment (unless_refused j.refused j.writes) _ few stored) }

has_stored : (h : Held) (moment : ℕ) (cmd : Cmd) (faulted : Type 0) (reply : Reply) → h.next ≤ 2 ^ 62 → stores reply ≡ true → IsReply h moment cmd faulted reply → HasStored h moment cmd
has_stored h moment cmd faulted reply few stored (inl is) = by_reply h moment cmd reply few (ap stores (sym is) ∙ stored) (inl refl)
has_stored h moment cmd faulted reply few stored (inr (inl is)) = absurd (false≢true (ap stores (sym is) ∙ stored))
has_stored h moment cmd faulted reply few stored (inr (inr is)) = absurd (false≢true (ap stores (sym is.0) ∙ stored))

-- ---- the sweep brings no row back

same_cond : (b : Bool) (x o p : Option Row) → ((row : Row) → o ≡ Some row → p ≡ Some row) → (row : Row) → cond b x o ≡ Some row → cond b x p ≡ Some row
same_cond true x o p more row e = e
same_cond false x o p more row e = more row e

fewer_removals : (rows : Rows) (next : ℕ) (keys : List (List ℕ)) (key : List ℕ) (row : Row) → row_at (rows_after rows next (map (λ k. removal k) keys)) key ≡ Some row → row_at rows key ≡ Some row
fewer_removals rows next [] key row e = e
fewer_removals rows next (k ∷ keys) key row e = not_gone (bytes_eq k key) row (row_at rows key) (sym (row_at-remove rows k key) ∙ fewer_removals (after_change rows (Remove k)) next keys key row e)

fewer_writes : (rows others : Rows) (next : ℕ) (writes : List Write) (key : List ℕ) → ((row : Row) → row_at rows key ≡ Some row → row_at others key ≡ Some row)
    → (row : Row) → row_at (rows_after rows next writes) key ≡ Some row → row_at (rows_after others next writes) key ≡ Some row
fewer_writes rows others next [] key fewer row e = fewer row e
fewer_writes rows others next (upsert k value until ∷ writes) key fewer row e =
    let new : Row = record { value = value; version = next; until = until } in
    fewer_writes (after_change rows (Put k value next until)) (after_change others (Put k value next until)) (next + 1) writes key
    (λ r h. row_at-put others k new key ∙ same_cond (bytes_eq k key) (Some new) (row_at rows key) (row_at others key) fewer r (sym (row_at-put rows k new key) ∙ h)) row e
fewer_writes rows others next (removal k ∷ writes) key fewer row e =
    fewer_writes (after_change rows (Remove k)) (after_change others (Remove k)) next writes key
    (λ r h. row_at-remove others k key ∙ same_cond (bytes_eq k key) None (row_at rows key) (row_at others key) fewer r (sym (row_at-remove rows k key) ∙ h)) row e

gone_swept : (h : Held) (moment : ℕ) (writes : List Write) (key : List ℕ) (v : ℕ) → IsGone key v (rows_after h.rows h.next writes) (h.next + upserts writes)
    → IsGone key v (rows_after h.rows h.next (with_sweep h moment writes)) (h.next + upserts (with_sweep h moment writes))
gone_swept h moment [] key v gone = gone
gone_swept h moment (write ∷ writes) key v gone = record {
  given = omega (arith, gone.given, upserts-swept h.rows moment (write ∷ writes));
  lost = λ row there is.
      let behind : row_at (rows_after (rows_after h.rows h.next (sweep h.rows moment)) h.next (write ∷ writes)) key ≡ Some row =
      ap (λ n. row_at (rows_after (rows_after h.rows h.next (sweep h.rows moment)) n (write ∷ writes)) key) (omega (arith, upserts-removals (take 1024 (lapsed h.rows moment))))
      ∙ sym (ap (λ r. row_at r key) (rows_after-append h.rows h.next (sweep h.rows moment) (write ∷ writes))) ∙ there in
      gone.lost row (fewer_writes (rows_after h.rows h.next (sweep h.rows moment)) h.rows h.next (write ∷ writes) key (fewer_removals h.rows h.next (take 1024 (lapsed h.rows moment)) key) row behind) is;
}

-- ---- an entry

module _ (key etag : List ℕ) (h : Held) (moment : ℕ) (few : h.next ≤ 2 ^ 62) (below : AreBelow h.rows h.next) (entry : Step) (faulted : Type 0) (is : IsReply h moment entry.cmd faulted entry.reply) where
  -- where the version is gone, it writes none
  entry_none : (v : ℕ) → etag ≡ decimal v → IsGone key v h.rows h.next → (stored : Bool) → stores entry.reply ≡ stored
      → cond stored (guarded_in h.rows h.next moment key etag unjudged (ops_of entry.cmd)) 0 ≡ 0
  entry_none v etag_is gone false e = refl
  entry_none v etag_is gone true e =
      let stored = has_stored h moment entry.cmd faulted entry.reply few e is in
      let start = gone_after key v h.rows h.next [] gone in
      (stays h.rows h.next moment below key etag v (ops_of entry.cmd) unjudged etag_is stored.few start).0

  -- it writes one, and its version is gone then
  pub record WritesOne (count : ℕ) (writes : List Write) : Type 0 where
    pub one : count ≡ 1
    pub v : ℕ
    pub etag_is : etag ≡ decimal v
    pub gone : IsGone key v (rows_after h.rows h.next writes) (h.next + upserts writes)

  entry_once : (stored : Bool) → stores entry.reply ≡ stored
      → (cond stored (guarded_in h.rows h.next moment key etag unjudged (ops_of entry.cmd)) 0 ≡ 0)
      ⊎ WritesOne (cond stored (guarded_in h.rows h.next moment key etag unjudged (ops_of entry.cmd)) 0) (cond stored (with_sweep h moment (writes_of h moment entry.cmd)) [])
  entry_once false e = inl refl
  entry_once true e =
      let stored = has_stored h moment entry.cmd faulted entry.reply few e is in
      elim (at_most h.rows h.next moment below key etag (ops_of entry.cmd) unjudged stored.few) [
        | inl none ↦ inl none
        | inr once ↦ inr (record {
          one = once.one;
          v = once.v;
          etag_is = once.etag_is;
          gone = subst (λ w. IsGone key once.v (rows_after h.rows h.next (with_sweep h moment w)) (h.next + upserts (with_sweep h moment w))) (sym stored.writes_are)
              (gone_swept h moment (judged h moment entry.cmd).writes key once.v once.gone);
        })
      ]

  with_sweep_few : (writes : List Write) → h.next + upserts writes ≤ 2 ^ 62 → h.next + upserts (with_sweep h moment writes) ≤ 2 ^ 62
  with_sweep_few [] enough = enough
  with_sweep_few (write ∷ writes) enough = omega (arith, enough, upserts-swept h.rows moment (write ∷ writes))

  entry_few : (stored : Bool) → stores entry.reply ≡ stored → h.next + upserts (cond stored (with_sweep h moment (writes_of h moment entry.cmd)) []) ≤ 2 ^ 62
  entry_few false e = omega (arith, few)
  entry_few true e =
      let stored = has_stored h moment entry.cmd faulted entry.reply few e is in
      with_sweep_few (writes_of h moment entry.cmd) (subst (λ w. h.next + upserts w ≤ 2 ^ 62) (sym stored.writes_are) stored.few)

-- ---- a history

-- what is held after an entry
held_after : (opening : Held) (course : Course) (entry : Step)
    → held_in opening (course_after opening course entry) ≡ held_with (held_in opening course) (written (held_in opening course) (now_in course entry.cmd) entry.cmd entry.reply)
held_after opening course entry =
    sym (held_in-with opening course (now_in course entry.cmd) (written (held_in opening course) (now_in course entry.cmd) entry.cmd entry.reply))

module _ (opening : Held) (faults : ℕ) (counted : IsCounted opening.rows opening.next) (key etag : List ℕ) (history : List Step)
    (legal : (before after : List Step) (entry : Step) → history ≡ before ++ entry ∷ after → IsStep opening faults before entry) where
  course_below : (course : Course) → AreBelow (held_in opening course).rows (held_in opening course).next
  course_below course = below_after opening.rows opening.next course.passed (counted_below opening.rows opening.next counted)

  few_after : (before after : List Step) (entry : Step) → history ≡ before ++ entry ∷ after → (held_in opening (course_of opening before)).next ≤ 2 ^ 62
      → (held_in opening (course_after opening (course_of opening before) entry)).next ≤ 2 ^ 62
  few_after before after entry is few =
      let course = course_of opening before in
      let h = held_in opening course in
      let moment = now_in course entry.cmd in
      subst (λ (k : Held). k.next ≤ 2 ^ 62) (sym (held_after opening course entry))
      (entry_few key etag h moment few (course_below course) entry _ (legal before after entry is).reply (stores entry.reply) refl)

  gone_more : (v : ℕ) (before : List Step) (entry : Step) → IsGone key v (held_in opening (course_of opening before)).rows (held_in opening (course_of opening before)).next
      → IsGone key v (held_in opening (course_after opening (course_of opening before) entry)).rows (held_in opening (course_after opening (course_of opening before) entry)).next
  gone_more v before entry gone =
      let course = course_of opening before in
      let h = held_in opening course in
      subst (λ (k : Held). IsGone key v k.rows k.next) (sym (held_after opening course entry))
      (gone_after key v h.rows h.next (written h (now_in course entry.cmd) entry.cmd entry.reply) gone)

  none_later : (v : ℕ) (rest before : List Step) → etag ≡ decimal v → history ≡ before ++ rest → (held_in opening (course_of opening before)).next ≤ 2 ^ 62
      → IsGone key v (held_in opening (course_of opening before)).rows (held_in opening (course_of opening before)).next
      → guarded_from opening key etag (course_of opening before) rest ≡ 0
  none_later v [] before etag_is is few gone = refl
  none_later v (entry ∷ rest) before etag_is is few gone =
      let course = course_of opening before in
      let more = course_of-more opening before entry in
      let here = entry_none key etag (held_in opening course) (now_in course entry.cmd) few (course_below course) entry _ (legal before rest entry is).reply v etag_is gone (stores entry.reply) refl in
      let later = none_later v rest (before ++ entry ∷ []) etag_is (is ∙ sym (append_assoc before (entry ∷ []) rest))
      (subst (λ c. (held_in opening c).next ≤ 2 ^ 62) (sym more) (few_after before rest entry is few))
      (subst (λ c. IsGone key v (held_in opening c).rows (held_in opening c).next) (sym more) (gone_more v before entry gone)) in
      omega (arith, here, ap (λ c. guarded_from opening key etag c rest) more, later)

  once_later : (rest before : List Step) → history ≡ before ++ rest → (held_in opening (course_of opening before)).next ≤ 2 ^ 62 → guarded_from opening key etag (course_of opening before) rest ≤ 1
  once_later [] before is few = omega arith
  once_later (entry ∷ rest) before is few =
      let course = course_of opening before in
      let h = held_in opening course in
      let more = course_of-more opening before entry in
      let whole = is ∙ sym (append_assoc before (entry ∷ []) rest) in
      let still = subst (λ c. (held_in opening c).next ≤ 2 ^ 62) (sym more) (few_after before rest entry is few) in
      elim (entry_once key etag h (now_in course entry.cmd) few (course_below course) entry _ (legal before rest entry is).reply (stores entry.reply) refl) [
        | inl none ↦ omega (arith, none, ap (λ c. guarded_from opening key etag c rest) more, once_later rest (before ++ entry ∷ []) whole still)
        | inr once ↦
            let gone = subst (λ (k : Held). IsGone key once.v k.rows k.next) (sym (held_after opening course entry)) once.gone in
            let later = none_later once.v rest (before ++ entry ∷ []) once.etag_is whole still (subst (λ c. IsGone key once.v (held_in opening c).rows (held_in opening c).next) (sym more) gone) in
            omega (arith, once.one, ap (λ c. guarded_from opening key etag c rest) more, later)
      ]

  pub guarded_once : guarded_from opening key etag (course_of opening []) history ≤ 1
  guarded_once = once_later history [] refl (omega (arith, counted.most))
