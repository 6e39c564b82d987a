-- A transaction is whole or absent.
use Rattle.std.proofs.Common.{◌≡◌, inl, inr, ◌+◌, ◌++◌, ◌∷◌, [], ℕ, Bool, true, false, not, List, Option, Some, None, is_some, map, filter, take, fold, bytes_eq, refl, ap, sym, subst, ◌∙◌, arith, cond, nat_lt}
use Rattle.std.specs.List.{AllByRecursion}
use Rattle.std.specs.FinMap.{entries, entries_sorted, find, is_sorted, get-entries}
use Rattle.std.specs.Ordering.{is_eq, ordering_reverse}
use Rattle.std.specs.Cmp.{tied_itself}
use Rattle.std.proofs.lemmas.Cmp.{nat_list_cmp_total}
use Rattle.std.proofs.lemmas.Bool.{false≢true, and_parts}
use Rattle.std.proofs.lemmas.Slice.Eq.{bytes_eq-Decides}
use Rattle.std.proofs.lemmas.List.{append-nil}
use Rattle.std.proofs.lemmas.List.Elements.{All-take, All-from_recursion, recursion_from_All}
use Rattle.keeper_core.specs.Rows.{Rows, Row, byte_order, row_at, is_live, lapsed, lapsed_in}
use Rattle.keeper_core.specs.Changes.{after_change}
use Rattle.keeper_core.specs.declared.changes.Change.TheVariants.{Put, Remove}
use Rattle.state_core.specs.declared.command.Op.{Op}
use Rattle.state_core.specs.declared.command.Op.TheVariants as op
use Rattle.state_core.specs.declared.command.Cmd.TheVariants.{Transact}
use Rattle.state_core.specs.declared.reply.Reply.{Reply}
use Rattle.state_core.specs.declared.reply.Reply.TheVariants.{Committed, Full, Spent}
use Rattle.state_core.specs.Current.{live_row, live_at, version_of, until_of}
use Rattle.state_core.specs.Write.{Write, upsert, removal, upserts, rows_after, sweep}
use Rattle.state_core.specs.Judged.{Judged, key_of, passes, write_of, version_in, passed, refused, judge, unjudged, unless_refused}
use Rattle.state_core.specs.Reply.{Held, verdict, outcome, is_spent, size_with, judged, IsReply}
use Rattle.state_core.specs.Written.{stores, with_sweep, written}
use Rattle.side_world.specs.Faults.{Rose}
use Rattle.state_core.specs.History.{Step, held_in, course_of, last_mark, now_in, IsStep}
use Rattle.state_core.specs.Laws.{rows_of, Made, made_by, AreCurrent, AreAlike, IsWholeOrAbsent}
use Rattle.state_core.proofs.Steps.{held_in-with, course_of-more}
use Rattle.state_core.proofs.Writes.{rows_after-append, row_at-put, row_at-remove, upserts-append}
use Rattle.state_core.proofs.Sweeps.{Below, below_keys, true_of, upserts-removals}
use Rattle.state_core.proofs.Orders.{all_more}

live_row-cond : (moment : ℕ) (b : Bool) (x y : Option Row) → live_row moment (cond b x y) ≡ cond b (live_row moment x) (live_row moment y)
live_row-cond moment true x y = refl
live_row-cond moment false x y = refl

-- ---- rows alike stay alike

alike_put : (moment : ℕ) (rows others : Rows) (key : List ℕ) (row : Row) → AreAlike moment rows others
    → AreAlike moment (after_change rows (Put key row.value row.version row.until)) (after_change others (Put key row.value row.version row.until))
alike_put moment rows others key row alike q =
    ap (live_row moment) (row_at-put rows key row q)
    ∙ live_row-cond moment (bytes_eq key q) (Some row) (row_at rows q)
    ∙ ap (cond (bytes_eq key q) (live_row moment (Some row))) (alike q)
    ∙ sym (live_row-cond moment (bytes_eq key q) (Some row) (row_at others q))
    ∙ sym (ap (live_row moment) (row_at-put others key row q))

alike_remove : (moment : ℕ) (rows others : Rows) (key : List ℕ) → AreAlike moment rows others → AreAlike moment (after_change rows (Remove key)) (after_change others (Remove key))
alike_remove moment rows others key alike q =
    ap (live_row moment) (row_at-remove rows key q)
    ∙ live_row-cond moment (bytes_eq key q) None (row_at rows q)
    ∙ ap (cond (bytes_eq key q) None) (alike q)
    ∙ sym (live_row-cond moment (bytes_eq key q) None (row_at others q))
    ∙ sym (ap (live_row moment) (row_at-remove others key q))

alike_writes : (moment : ℕ) (rows others : Rows) (next : ℕ) (writes : List Write) → AreAlike moment rows others → AreAlike moment (rows_after rows next writes) (rows_after others next writes)
alike_writes moment rows others next [] alike = alike
alike_writes moment rows others next (upsert key value until ∷ writes) alike =
    alike_writes moment (after_change rows (Put key value next until)) (after_change others (Put key value next until)) (next + 1) writes
    (alike_put moment rows others key (record { value = value; version = next; until = until }) alike)
alike_writes moment rows others next (removal key ∷ writes) alike =
    alike_writes moment (after_change rows (Remove key)) (after_change others (Remove key)) next writes (alike_remove moment rows others key alike)

dead_at : (moment : ℕ) (rows : Rows) (key q : List ℕ) (b : Bool) → bytes_eq key q ≡ b → live_at rows moment key ≡ None → cond b None (live_at rows moment q) ≡ live_at rows moment q
dead_at moment rows key q true same dead = sym dead ∙ ap (live_at rows moment) ((bytes_eq-Decides key q).0 same)
dead_at moment rows key q false same dead = refl

-- without a row that is not live
alike_without : (moment : ℕ) (rows : Rows) (key : List ℕ) → live_at rows moment key ≡ None → AreAlike moment (after_change rows (Remove key)) rows
alike_without moment rows key dead q =
    ap (live_row moment) (row_at-remove rows key q)
    ∙ live_row-cond moment (bytes_eq key q) None (row_at rows q)
    ∙ dead_at moment rows key q (bytes_eq key q) refl dead

-- ---- the sweep

all_map : {X : Type 0} (P Q : X → Type 0) (xs : List X) → ((x : X) → P x → Q x) → AllByRecursion P xs → AllByRecursion Q xs
all_map P Q [] f all = tt
all_map P Q (x ∷ xs) f all = (f x all.0, all_map P Q xs f all.1)

IsDead : ℕ → List (List ℕ × Row) → List ℕ → Type 0
IsDead moment es key = live_row moment (find byte_order key es) ≡ None

dead_behind : (moment : ℕ) (e : List ℕ × Row) (es : List (List ℕ × Row)) (keys : List (List ℕ)) → Below e.0 keys → AllByRecursion (IsDead moment es) keys → AllByRecursion (IsDead moment (e ∷ es)) keys
unfolding IsDead
dead_behind moment e es [] below all = tt
dead_behind moment e es (key ∷ keys) below all = (
  ap (λ o. live_row moment (cond (is_eq o) (Some e.1) (find byte_order key es))) (nat_list_cmp_total.antisymm key e.0 ∙ ap ordering_reverse below.0) ∙ all.0,
  dead_behind moment e es keys below.1 all.1,
)

dead_here : (moment : ℕ) (e : List ℕ × Row) (es : List (List ℕ × Row)) → is_live moment e.1 ≡ false → IsDead moment (e ∷ es) e.0
unfolding IsDead
dead_here moment e es dead =
    ap (λ o. live_row moment (cond (is_eq o) (Some e.1) (find byte_order e.0 es))) (tied_itself nat_list_cmp_total e.0)
    ∙ ap (λ b. cond b (Some e.1) None) dead

dead_keys : (moment : ℕ) (es : List (List ℕ × Row)) → is_sorted byte_order es ≡ true → AllByRecursion (IsDead moment es) (lapsed_in moment es)
dead_keys moment [] h = tt
dead_keys moment (e ∷ es) h =
    let parts = and_parts _ _ h in
    let behind = dead_behind moment e es (lapsed_in moment es) (below_keys (λ row. not (is_live moment row)) e.0 es parts.0) (dead_keys moment es parts.1) in
    elim (is_live moment e.1) as (λ b. is_live moment e.1 ≡ b → AllByRecursion (IsDead moment (e ∷ es)) (map (λ entry. entry.0) (cond (not b) (e ∷ filter (λ entry. not (is_live moment entry.1)) es) (filter (λ entry. not (is_live moment entry.1)) es)))) [
      | true ↦ λ live. behind
      | false ↦ λ dead. (dead_here moment e es dead, behind)
    ] refl

dead_lapsed : (rows : Rows) (moment : ℕ) → AllByRecursion (λ key. live_at rows moment key ≡ None) (take 1024 (lapsed rows moment))
unfolding IsDead
dead_lapsed rows moment =
    let all = dead_keys moment (entries rows) (true_of _ (entries_sorted rows)) in
    let here = all_map (IsDead moment (entries rows)) (λ key. live_at rows moment key ≡ None) (lapsed rows moment) (λ key dead. ap (live_row moment) (get-entries rows key) ∙ dead) all in
    recursion_from_All _ _ (All-take (λ key. live_at rows moment key ≡ None) 1024 (lapsed rows moment) (All-from_recursion (λ key. live_at rows moment key ≡ None) (lapsed rows moment) here))

alike_removals : (moment : ℕ) (rows : Rows) (next : ℕ) (keys : List (List ℕ)) → AllByRecursion (λ key. live_at rows moment key ≡ None) keys → AreAlike moment (rows_after rows next (map (λ key. removal key) keys)) rows
alike_removals moment rows next [] all q = refl
alike_removals moment rows next (key ∷ keys) all q =
    let without = alike_without moment rows key all.0 in
    alike_removals moment (after_change rows (Remove key)) next keys
    (all_map (λ k. live_at rows moment k ≡ None) (λ k. live_at (after_change rows (Remove key)) moment k ≡ None) keys (λ k dead. without k ∙ dead) all.1) q
    ∙ without q

pub alike_swept : (moment : ℕ) (rows : Rows) (next : ℕ) → AreAlike moment (rows_after rows next (sweep rows moment)) rows
alike_swept moment rows next = alike_removals moment rows next (take 1024 (lapsed rows moment)) (dead_lapsed rows moment)

pub alike_with_sweep : (h : Held) (moment : ℕ) (writes : List Write) → AreAlike moment (rows_after h.rows h.next (with_sweep h moment writes)) (rows_after h.rows h.next writes)
alike_with_sweep h moment [] q = refl
alike_with_sweep h moment (write ∷ writes) q =
    ap (λ rows. live_at rows moment q) (rows_after-append h.rows h.next (sweep h.rows moment) (write ∷ writes))
    ∙ ap (λ n. live_at (rows_after (rows_after h.rows h.next (sweep h.rows moment)) n (write ∷ writes)) moment q) (omega (arith, upserts-removals (take 1024 (lapsed h.rows moment))))
    ∙ alike_writes moment (rows_after h.rows h.next (sweep h.rows moment)) h.rows h.next (write ∷ writes) (alike_swept moment h.rows h.next) q

-- ---- the operations

none_of : (o : Option Row) → version_of o ≡ None → o ≡ None
none_of None e = refl
none_of (Some row) e = absurd (false≢true (sym (ap is_some e)))

cons_is : (xs : List ℕ) (x : ℕ) (more : List ℕ) → (xs ++ x ∷ []) ++ more ≡ [] → ⊥
cons_is [] x more e = cc
cons_is (y ∷ xs) x more e = cc

-- what a judgement leaves is alike what the operations make
pub record IsMade (rows : Rows) (next moment : ℕ) (judged : Judged) (made : Made) : Type 0 where
  pub alike : AreAlike moment (rows_after rows next judged.writes) made.rows
  pub next_is : next + upserts judged.writes ≡ made.next

module _ (rows : Rows) (next moment : ℕ) where
  -- one operation that passes, for a row of this version
  made_more : (judged : Judged) (made : Made) (o : Op) (version : Option ℕ) → IsMade rows next moment judged made → version ≡ version_in rows next moment judged.writes (key_of o)
      → IsMade rows next moment (passed judged (write_of moment o version)) (made_by moment made o)
  made_more judged made (op.Upsert item) version is at = record {
    alike = λ q.
        let row : Row = record { value = item.value; version = made.next; until = until_of moment item.ttl } in
        ap (λ r. live_at r moment q) (rows_after-append rows next judged.writes (upsert item.key item.value (until_of moment item.ttl) ∷ []))
        ∙ ap (λ n. live_at (after_change (rows_after rows next judged.writes) (Put item.key item.value n (until_of moment item.ttl))) moment q) is.next_is
        ∙ alike_put moment (rows_after rows next judged.writes) made.rows item.key row is.alike q;
    next_is = omega (arith, upserts-append judged.writes (upsert item.key item.value (until_of moment item.ttl) ∷ []), is.next_is);
  }
  made_more judged made (op.Remove key etag mode) None is at = record {
    alike = λ q.
        let dead : live_at made.rows moment key ≡ None = sym (is.alike key) ∙ none_of _ (sym at) in
        ap (λ w. live_at (rows_after rows next w) moment q) (append-nil judged.writes)
        ∙ is.alike q
        ∙ sym (alike_without moment made.rows key dead q);
    next_is = ap (λ w. next + upserts w) (append-nil judged.writes) ∙ is.next_is;
  }
  made_more judged made (op.Remove key etag mode) (Some version) is at = record {
    alike = λ q.
        ap (λ r. live_at r moment q) (rows_after-append rows next judged.writes (removal key ∷ []))
        ∙ alike_remove moment (rows_after rows next judged.writes) made.rows key is.alike q;
    next_is = omega (arith, upserts-append judged.writes (removal key ∷ []), is.next_is);
  }

  -- where none of them is refused
  all_made : (ops : List Op) (judged : Judged) (made : Made) → IsMade rows next moment judged made → (fold (judge rows next moment) judged ops).refused ≡ []
      → AreCurrent moment made ops × IsMade rows next moment (fold (judge rows next moment) judged ops) (fold (made_by moment) made ops)
  all_made [] judged made is none = (tt, is)
  all_made (o ∷ ops) judged made is none =
      elim (passes o (version_in rows next moment judged.writes (key_of o))) as (λ b. passes o (version_in rows next moment judged.writes (key_of o)) ≡ b
      → AreCurrent moment made (o ∷ ops) × IsMade rows next moment (fold (judge rows next moment) judged (o ∷ ops)) (fold (made_by moment) made (o ∷ ops))) [
        | true ↦ λ here.
            let version = version_in rows next moment judged.writes (key_of o) in
            let taken : judge rows next moment judged o ≡ passed judged (write_of moment o version) = ap (λ b. cond b (passed judged (write_of moment o version)) (refused judged)) here in
            let one = subst (λ j. IsMade rows next moment j (made_by moment made o)) (sym taken) (made_more judged made o version is refl) in
            let rest = all_made ops (judge rows next moment judged o) (made_by moment made o) one none in
            ((ap (λ r. passes o (version_of r)) (sym (is.alike (key_of o))) ∙ here, rest.0), rest.1)
        | false ↦ λ here.
            let version = version_in rows next moment judged.writes (key_of o) in
            let taken : judge rows next moment judged o ≡ refused judged = ap (λ b. cond b (passed judged (write_of moment o version)) (refused judged)) here in
            let more = all_more rows next moment ops (judge rows next moment judged o) in
            absurd (cons_is judged.refused judged.place more.0 (ap (λ (j : Judged). j.refused ++ more.0) (sym taken) ∙ sym more.1 ∙ none))
      ] refl

-- ---- the entry

-- of a transaction's replies, Committed alone stores, and only where nothing is refused
abbrev pub outcome_of : Held → ℕ → List Op → ℕ → List Write → List ℕ → Reply
outcome_of h moment ops now writes places = outcome h moment (unless_refused places writes) (verdict (Transact ops now) places)

committed_or_not : (spent full : Bool) (next len : ℕ) → stores (cond spent (Spent next) (cond full (Full len) Committed)) ≡ true → cond spent (Spent next) (cond full (Full len) Committed) ≡ Committed
committed_or_not true full next len e = absurd (false≢true e)
committed_or_not false true next len e = absurd (false≢true e)
committed_or_not false false next len e = refl

stores_committed : (h : Held) (moment : ℕ) (ops : List Op) (now : ℕ) (writes : List Write) (places : List ℕ) → stores (outcome_of h moment ops now writes places) ≡ true → outcome_of h moment ops now writes places ≡ Committed
stores_committed h moment ops now [] [] e = refl
stores_committed h moment ops now (write ∷ writes) [] e = committed_or_not (is_spent h.next (write ∷ writes)) (nat_lt h.limit (size_with h moment (write ∷ writes))) h.next (size_with h moment (write ∷ writes)) e
stores_committed h moment ops now writes (place ∷ places) e = absurd (false≢true e)

none_refused : (h : Held) (moment : ℕ) (ops : List Op) (now : ℕ) (writes : List Write) (places : List ℕ) → outcome_of h moment ops now writes places ≡ Committed → places ≡ []
none_refused h moment ops now writes [] e = refl
none_refused h moment ops now writes (place ∷ places) e = cc

pub reply_commits : (h : Held) (moment : ℕ) (ops : List Op) (now : ℕ) (faulted : Type 0) (reply : Reply) → IsReply h moment (Transact ops now) faulted reply → stores reply ≡ true → reply ≡ Committed
reply_commits h moment ops now faulted reply (inl is) e = is ∙ stores_committed h moment ops now (judged h moment (Transact ops now)).writes (judged h moment (Transact ops now)).refused (ap stores (sym is) ∙ e)
reply_commits h moment ops now faulted reply (inr (inl is)) e = absurd (false≢true (ap stores (sym is) ∙ e))
reply_commits h moment ops now faulted reply (inr (inr is)) e = absurd (false≢true (ap stores (sym is.0) ∙ e))

pub reply_none : (h : Held) (moment : ℕ) (ops : List Op) (now : ℕ) (faulted : Type 0) (reply : Reply) → IsReply h moment (Transact ops now) faulted reply → reply ≡ Committed → (judged h moment (Transact ops now)).refused ≡ []
reply_none h moment ops now faulted reply (inl is) e = none_refused h moment ops now (judged h moment (Transact ops now)).writes _ (sym is ∙ e)
reply_none h moment ops now faulted reply (inr (inl is)) e = absurd (false≢true (ap stores (sym is ∙ e)))
reply_none h moment ops now faulted reply (inr (inr is)) e = absurd (false≢true (ap stores (sym is.0 ∙ e)))

stored_alike : (h : Held) (moment : ℕ) (writes : List Write) (here : Bool) → (here ≡ true → ⊥) → AreAlike moment (rows_after h.rows h.next (cond here writes [])) h.rows
stored_alike h moment writes true never q = absurd (never refl)
stored_alike h moment writes false never q = refl

pub whole_or_absent : (h : Held) (moment : ℕ) (ops : List Op) (now : ℕ) (faulted : Type 0) (reply : Reply) → IsReply h moment (Transact ops now) faulted reply
    → IsWholeOrAbsent moment ops (record { rows = h.rows; next = h.next }) (rows_after h.rows h.next (written h moment (Transact ops now) reply)) (reply ≡ Committed)
whole_or_absent h moment ops now faulted reply is =
    let j = judged h moment (Transact ops now) in
    let start : Made = record { rows = h.rows; next = h.next } in
    let made = λ (done : reply ≡ Committed).
    all_made h.rows h.next moment ops unjudged start (record { alike = λ q. refl; next_is = omega arith }) (reply_none h moment ops now faulted reply is done) in
    record {
      current = λ done. (made done).0;
      whole = λ done q.
          ap (λ r. live_at (rows_after h.rows h.next (cond (stores r) (with_sweep h moment (unless_refused j.refused j.writes)) [])) moment q) done
          ∙ ap (λ places. live_at (rows_after h.rows h.next (with_sweep h moment (unless_refused places j.writes))) moment q) (reply_none h moment ops now faulted reply is done)
          ∙ alike_with_sweep h moment j.writes q
          ∙ (made done).1.alike q;
      absent = λ never.
          stored_alike h moment (with_sweep h moment (unless_refused j.refused j.writes)) (stores reply) (λ e. never (reply_commits h moment ops now faulted reply is e));
    }

-- in a history
pub are_whole : (opening : Held) (faults : ℕ) (before : List Step) (entry : Step) (ops : List Op) (now : ℕ) → IsStep opening faults before entry → entry.cmd ≡ Transact ops now
    → IsWholeOrAbsent (now_in (course_of opening before) entry.cmd) ops
    (record { rows = rows_of opening before; next = (held_in opening (course_of opening before)).next })
    (rows_of opening (before ++ entry ∷ [])) (entry.reply ≡ Committed)
are_whole opening faults before entry ops now step is =
    let h = held_in opening (course_of opening before) in
    let moment = now_in (course_of opening before) entry.cmd in
    let reply = subst (λ cmd. IsReply h moment cmd (Rose (last_mark faults before) entry.mark) entry.reply) is step.reply in
    let made = subst (λ cmd. IsWholeOrAbsent moment ops (record { rows = h.rows; next = h.next }) (rows_after h.rows h.next (written h moment cmd entry.reply)) (entry.reply ≡ Committed)) (sym is)
    (whole_or_absent h moment ops now (Rose (last_mark faults before) entry.mark) entry.reply reply) in
    subst (λ rows. IsWholeOrAbsent moment ops (record { rows = h.rows; next = h.next }) rows (entry.reply ≡ Committed))
    (ap (λ (k : Held). k.rows) (held_in-with opening (course_of opening before) moment (written h moment entry.cmd entry.reply)) ∙ ap (λ c. (held_in opening c).rows) (sym (course_of-more opening before entry))) made
