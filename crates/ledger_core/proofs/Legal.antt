-- What holds of every legal history of a ledger.
use Rattle.std.proofs.Common.{◌≡◌, ◌+◌, ◌≤◌, ℕ, Bool, true, false, cond, List, [], ◌∷◌, ◌++◌, map, length, Option, Some, None, refl, sym, ap, subst, ◌∙◌, arith, append-nil, append_assoc, ⊎_elim}
use Rattle.std.specs.Prelude.{◌==◌, ◌&&◌, option_map, if◌then◌else◌}
use Rattle.std.specs.FinMap.{find}
use Rattle.std.proofs.lemmas.Bool.{false≢true, and_parts, eqb-true, cases_lt, cases_Bool}
use Rattle.std.proofs.lemmas.Option.{none-some, same_Some, cond_some}
use Rattle.std.proofs.lemmas.List.{length-map}
use Rattle.std.proofs.lemmas.List.Sums.{sum_by-cons}
use Rattle.retry_core.specs.declared.policy.RetryPolicy.{RetryPolicy}
use Rattle.retry_core.specs.declared.run.Next.{Next}
use Rattle.retry_core.specs.declared.run.Next.TheVariants.{Wait, GiveUp}
use Rattle.retry_core.specs.RetryPolicy.{decided}
use Rattle.ledger_core.specs.declared.plan.Aim.{Aim}
use Rattle.ledger_core.specs.declared.plan.Plan.{Plan}
use Rattle.ledger_core.specs.declared.books.Books.{Books}
use Rattle.ledger_core.specs.declared.command.Finish.{Finish}
use Rattle.ledger_core.specs.declared.command.Finish.TheVariants as ended
use Rattle.ledger_core.specs.declared.command.LedgerCmd.{LedgerCmd}
use Rattle.ledger_core.specs.declared.command.LedgerCmd.TheVariants.{Accept, Take, Settle, Counts}
use Rattle.ledger_core.specs.declared.reply.LedgerReply.{LedgerReply}
use Rattle.ledger_core.specs.declared.reply.LedgerReply.TheVariants as says
use Rattle.ledger_core.specs.Plan.{plan_at}
use Rattle.ledger_core.specs.Aims.{IsGiven}
use Rattle.ledger_core.specs.Row.{Row}
use Rattle.ledger_core.specs.Message.{Step, Pair, pair_at, letter_of, messages_of, pairs_of}
use Rattle.ledger_core.specs.Standing.{Standing, Status, owed, done, dropped, dead, settles, status_by, standing, standings}
use Rattle.ledger_core.specs.Course.{Course, course_of, count_of, is_owed, is_done, is_dropped, is_dead, is_waiting, is_held, standing_at, held_at, kept_if}
use Rattle.ledger_core.specs.Reply.{IsReply, IsSettled, IsRetriedBy, IsAsDecided, IsBuried}
use Rattle.ledger_core.specs.Books.{row_for, numbered, slotted, row_at, waiting_slot, held_slot, Shows}
use Rattle.ledger_core.specs.After.{moved, settled_status, fresh_by, AreDistinct}
use Rattle.ledger_core.specs.Ledger.{IsStep, IsUntouched}
use Rattle.ledger_core.specs.Laws.{AreCountedOnce, StaysSettled, IsSettledOnce, IsLetter, AreLetters, RowsAreOwed}
use Rattle.ledger_core.proofs.Counts.{unit}
use Rattle.ledger_core.proofs.Histories.{standing_at_pairs}
use Rattle.ledger_core.proofs.Lookups.{standing_at-map, standing_at-append, standing_at_key, is_pair_parts, or_else}
use Rattle.ledger_core.proofs.Steps.{Follows, follows}

-- ---- each pair has one status

one_each : (status : Status) → ◌≡◌ {A = ℕ} (cond (is_owed status) 1 0 + cond (is_done status) 1 0 + cond (is_dropped status) 1 0 + cond (is_dead status) 1 0) 1
one_each owed = refl
one_each done = refl
one_each dropped = refl
one_each dead = refl

counted : (book : List Standing) → count_of is_owed book + count_of is_done book + count_of is_dropped book + count_of is_dead book ≡ length book
counted [] = refl
counted (s ∷ book) =
    let a = sum_by-cons (unit is_owed) s book in
    let b = sum_by-cons (unit is_done) s book in
    let c = sum_by-cons (unit is_dropped) s book in
    let d = sum_by-cons (unit is_dead) s book in
    let e = one_each s.status in
    let r = counted book in
    omega (arith, a, b, c, d, e, r)

pub are_counted_once : (history : List Step) → AreCountedOnce history
are_counted_once history = counted (standings history) ∙ length-map (pairs_of history) (standing history)

-- ---- legal histories, entry by entry

-- each entry may be given and is a step after those before it
abbrev pub EachSteps : List Plan → List Step → Type 0
EachSteps plans history = (before after : List Step) (entry : Step) → history ≡ before ++ entry ∷ after → IsGiven (length plans) entry.cmd × IsStep plans before entry

pub record Known (history : List Step) : Type 0 where
  pub made : (m sub : ℕ) (s : Standing) → standing_at m sub (standings history) ≡ Some s → m ≤ length (messages_of history)
  pub distinct : AreDistinct (standings history)
  pub untouched : IsUntouched history

pub nothing_known : Known []
nothing_known = record { made = λ m sub s e. absurd (none-some s e); distinct = tt; untouched = λ m sub e. refl }

pub next_known : (plans : List Plan) (history before after : List Step) (e : Step) → EachSteps plans history → history ≡ before ++ e ∷ after → Known before → Follows before e
next_known plans history before after e each is known =
    let step = each before after e is in
    follows plans before e step.0 step.1.reply known.made known.distinct known.untouched

pub known_on : (plans : List Plan) (history before after : List Step) → EachSteps plans history → history ≡ before ++ after → Known before → Known (before ++ after)
known_on plans history before [] each is known = subst Known (sym (append-nil before)) known
known_on plans history before (e ∷ after) each is known =
    let follow = next_known plans history before after e each is known in
    subst Known (append_assoc before (e ∷ []) after)
    (known_on plans history (before ++ e ∷ []) after each (is ∙ sym (append_assoc before (e ∷ []) after)) (record { made = follow.made; distinct = follow.distinct; untouched = follow.untouched }))

-- a front of a legal history
pub front_steps : (plans : List Plan) (history before after : List Step) → EachSteps plans history → history ≡ before ++ after → EachSteps plans before
front_steps plans history before after each is front rest e split = each front (rest ++ after) e (is ∙ ap (λ xs. xs ++ after) split ∙ append_assoc front (e ∷ rest) after)

pub known_of : (plans : List Plan) (history before after : List Step) → EachSteps plans history → history ≡ before ++ after → Known before
known_of plans history before after each is = known_on plans before [] before (front_steps plans history before after each is) refl nothing_known

-- ---- a status other than owed stays

settles_parts : (m sub n j claim : ℕ) (finish : Finish) (now word : ℕ) (aims : List Aim) (reply : LedgerReply) → settles m sub (Settle n j claim finish now word aims) reply ≡ true → (m ≡ n) × (sub ≡ j)
settles_parts m sub n j claim finish now word aims says.NotTaken e = absurd (false≢true e)
settles_parts m sub n j claim finish now word aims reply e = let parts = and_parts (m == n) (sub == j) e in (eqb-true m n parts.0, eqb-true sub j parts.1)

-- no entry settles a pair that is not owed
pub settles_owed : (plans : List Plan) (course : Course) (cmd : LedgerCmd) (reply : LedgerReply) (m sub : ℕ) (s : Standing) → IsReply plans course cmd reply → standing_at m sub course.book ≡ Some s → is_owed s.status ≡ false → settles m sub cmd reply ≡ true → ⊥
settles_owed plans course (Accept event aims now) reply m sub s is there settled e = false≢true e
settles_owed plans course (Take now) reply m sub s is there settled e = false≢true e
settles_owed plans course (Settle n j claim finish now word aims) reply m sub s is there settled e =
    let parts = settles_parts m sub n j claim finish now word aims reply e in
    let here : standing_at n j course.book ≡ Some s = sym (ap (λ k. standing_at k j course.book) parts.0) ∙ sym (ap (λ k. standing_at m k course.book) parts.1) ∙ there in
    let none : kept_if (is_held claim) (standing_at n j course.book) ≡ None = ap (kept_if (is_held claim)) here ∙ ap (λ b. if b && Rattle.ledger_core.specs.Course.is_claimed claim s.claim then Some s else None) settled in
    let not_taken : reply ≡ says.NotTaken = subst (λ o. IsSettled plans course o finish now word aims reply) none is in
    false≢true (sym (ap (settles m sub (Settle n j claim finish now word aims)) not_taken) ∙ e)
settles_owed plans course Counts reply m sub s is there settled e = false≢true e

stays_one : (plans : List Plan) (before : List Step) (e : Step) (m sub : ℕ) (s : Standing) → Follows before e → IsReply plans (course_of before) e.cmd e.reply → standing_at m sub (standings before) ≡ Some s → is_owed s.status ≡ false
    → (t : Standing) × (standing_at m sub (standings (before ++ e ∷ [])) ≡ Some t) × (t.pair ≡ s.pair) × (t.status ≡ s.status)
stays_one plans before e m sub s follow reply there settled = (
  moved e.cmd e.reply s,
  ap (λ (c : Course). standing_at m sub c.book) follow.course_is
      ∙ standing_at-append m sub (map (moved e.cmd e.reply) (standings before)) (fresh_by (course_of before) e.cmd e.reply)
      ∙ ap (λ o. or_else o (standing_at m sub (fresh_by (course_of before) e.cmd e.reply))) (standing_at-map (moved e.cmd e.reply) (λ x. refl) m sub (standings before) ∙ ap (option_map (moved e.cmd e.reply)) there),
  refl,
  status (settles s.pair.no s.pair.sub e.cmd e.reply) refl,
)
  where
    status : (b : Bool) → settles s.pair.no s.pair.sub e.cmd e.reply ≡ b → (if b then settled_status s.pair.path e.reply else s.status) ≡ s.status
    status true t =
        let its = is_pair_parts m sub s.pair (standing_at_key m sub s (standings before) there) in
        absurd (settles_owed plans (course_of before) e.cmd e.reply m sub s reply there settled (sym (ap (λ n. settles n s.pair.sub e.cmd e.reply) its.0 ∙ ap (λ n. settles m n e.cmd e.reply) its.1) ∙ t))
    status false t = refl

stays_on : (plans : List Plan) (history before after : List Step) (m sub : ℕ) (s : Standing) → EachSteps plans history → history ≡ before ++ after → Known before → standing_at m sub (standings before) ≡ Some s → is_owed s.status ≡ false
    → (t : Standing) × (standing_at m sub (standings (before ++ after)) ≡ Some t) × (t.pair ≡ s.pair) × (t.status ≡ s.status)
stays_on plans history before [] m sub s each is known there settled = (s, ap (λ h. standing_at m sub (standings h)) (append-nil before) ∙ there, refl, refl)
stays_on plans history before (e ∷ after) m sub s each is known there settled =
    let follow = next_known plans history before after e each is known in
    let one = stays_one plans before e m sub s follow (each before after e is).1.reply there settled in
    let rest = stays_on plans history (before ++ e ∷ []) after m sub one.0 each (is ∙ sym (append_assoc before (e ∷ []) after)) (record { made = follow.made; distinct = follow.distinct; untouched = follow.untouched }) one.1 (ap is_owed one.3 ∙ settled) in
    (rest.0, ap (λ h. standing_at m sub (standings h)) (sym (append_assoc before (e ∷ []) after)) ∙ rest.1, rest.2 ∙ one.2, rest.3 ∙ one.3)

pub stays_settled : (plans : List Plan) (history : List Step) → EachSteps plans history → StaysSettled history
stays_settled plans history each before after m sub s is there settled = stays_on plans history before after m sub s each is (known_of plans history before after each is) there settled

-- ---- settled for good

final_status : (path : Option (List ℕ)) (reply : LedgerReply) → is_owed (status_by reply) ≡ false → is_owed (settled_status path reply) ≡ false
final_status None reply e = refl
final_status (Some path) reply e = e

-- a pair that an entry settles was there
settled_there : (plans : List Plan) (course : Course) (cmd : LedgerCmd) (reply : LedgerReply) (m sub : ℕ) → IsReply plans course cmd reply → settles m sub cmd reply ≡ true → (s : Standing) × (standing_at m sub course.book ≡ Some s)
settled_there plans course (Accept event aims now) reply m sub is e = absurd (false≢true e)
settled_there plans course (Take now) reply m sub is e = absurd (false≢true e)
settled_there plans course (Settle n j claim finish now word aims) reply m sub is e =
    let parts = settles_parts m sub n j claim finish now word aims reply e in
    let found = by_option (standing_at n j course.book) refl is in
    (found.0, ap (λ k. standing_at k sub course.book) parts.0 ∙ ap (λ k. standing_at n k course.book) parts.1 ∙ found.1)
  where
    by_option : (o : Option Standing) → standing_at n j course.book ≡ o → IsSettled plans course (kept_if (is_held claim) o) finish now word aims reply → (s : Standing) × (standing_at n j course.book ≡ Some s)
    by_option None f not_taken = absurd (false≢true (sym (ap (settles m sub (Settle n j claim finish now word aims)) not_taken) ∙ e))
    by_option (Some s) f settled = (s, f)
settled_there plans course Counts reply m sub is e = absurd (false≢true e)

closed_one : (plans : List Plan) (before : List Step) (e : Step) (m sub : ℕ) → Follows before e → IsReply plans (course_of before) e.cmd e.reply → settles m sub e.cmd e.reply ≡ true → is_owed (status_by e.reply) ≡ false
    → (t : Standing) × (standing_at m sub (standings (before ++ e ∷ [])) ≡ Some t) × (is_owed t.status ≡ false)
closed_one plans before e m sub follow reply settled final =
    let there = settled_there plans (course_of before) e.cmd e.reply m sub reply settled in
    let s = there.0 in
    let its = is_pair_parts m sub s.pair (standing_at_key m sub s (standings before) there.1) in
    let here : settles s.pair.no s.pair.sub e.cmd e.reply ≡ true = ap (λ n. settles n s.pair.sub e.cmd e.reply) its.0 ∙ ap (λ n. settles m n e.cmd e.reply) its.1 ∙ settled in (
      moved e.cmd e.reply s,
      ap (λ (c : Course). standing_at m sub c.book) follow.course_is
          ∙ standing_at-append m sub (map (moved e.cmd e.reply) (standings before)) (fresh_by (course_of before) e.cmd e.reply)
          ∙ ap (λ o. or_else o (standing_at m sub (fresh_by (course_of before) e.cmd e.reply))) (standing_at-map (moved e.cmd e.reply) (λ x. refl) m sub (standings before) ∙ ap (option_map (moved e.cmd e.reply)) there.1),
      ap (λ b. is_owed (if b then settled_status s.pair.path e.reply else s.status)) here ∙ final_status s.pair.path e.reply final,
    )

no_more : (b : Bool) → (b ≡ true → ⊥) → b ≡ false
no_more true never = absurd (never refl)
no_more false never = refl

pub is_settled_once : (plans : List Plan) (history : List Step) → EachSteps plans history → IsSettledOnce history
is_settled_once plans history each before between after e later m sub is settled final =
    let known = known_of plans history before (e ∷ (between ++ later ∷ after)) each is in
    let follow = next_known plans history before (between ++ later ∷ after) e each is known in
    let closed = closed_one plans before e m sub follow (each before (between ++ later ∷ after) e is).1.reply settled final in
    let split : history ≡ ((before ++ e ∷ []) ++ between) ++ later ∷ after = is ∙ sym (append_assoc before (e ∷ []) (between ++ later ∷ after)) ∙ sym (append_assoc (before ++ e ∷ []) between (later ∷ after)) in
    let kept = stays_on plans ((before ++ e ∷ []) ++ between) (before ++ e ∷ []) between m sub closed.0 (front_steps plans history ((before ++ e ∷ []) ++ between) (later ∷ after) each split) refl
    (record { made = follow.made; distinct = follow.distinct; untouched = follow.untouched }) closed.1 closed.2 in
    no_more (settles m sub later.cmd later.reply)
    (settles_owed plans (course_of ((before ++ e ∷ []) ++ between)) later.cmd later.reply m sub kept.0 (each ((before ++ e ∷ []) ++ between) after later split).1.reply kept.1 (ap is_owed kept.3 ∙ closed.2))

-- ---- dead letters

not_again : (new at : ℕ) → says.Dead new ≡ says.Again at → ⊥
not_again new at e = cc

not_dropped : (new : ℕ) (reason : Rattle.ledger_core.specs.declared.reply.Reason.Reason) → says.Dead new ≡ says.Dropped reason → ⊥
not_dropped new reason e = cc

not_full : (new rows bytes : ℕ) → says.Dead new ≡ says.Full rows bytes → ⊥
not_full new rows bytes e = cc

not_wanting : (new : ℕ) → says.Dead new ≡ says.NoMemory → ⊥
not_wanting new e = cc

not_done : (new : ℕ) → says.Dead new ≡ says.Done → ⊥
not_done new e = cc

not_nothing : (new : ℕ) → says.Dead new ≡ says.NotTaken → ⊥
not_nothing new e = cc

same_dead : (new other : ℕ) → says.Dead new ≡ says.Dead other → new ≡ other
same_dead new other e = cc

buried_next : (course : Course) (s : Standing) (aims : List Aim) (new : ℕ) → IsBuried course s aims (says.Dead new) → new ≡ course.made + 1
buried_next course s aims new is =
    ⊎_elim (λ lt. (is.sized lt).1) (λ le. absurd (not_dropped new _ (is.hops le))) (cases_lt s.pair.hops 8)

retried_next : (course : Course) (retry : Option RetryPolicy) (dead_too : Bool) (s : Standing) (now word : ℕ) (aims : List Aim) (new : ℕ) → IsRetriedBy course retry dead_too s now word aims (says.Dead new) → new ≡ course.made + 1
retried_next course None false s now word aims new is = absurd (not_again new (now + 1000) is)
retried_next course None true s now word aims new is = buried_next course s aims new is
retried_next course (Some policy) dead_too s now word aims new is = by_next (decided policy (word ∷ s.words)) dead_too is
  where
    by_next : (next : Next) (dead_too : Bool) → IsAsDecided course next dead_too s now aims (says.Dead new) → new ≡ course.made + 1
    by_next (Wait ms) dead_too is = absurd (not_again new (now + ms) is)
    by_next (GiveUp attempts) false is = absurd (not_dropped new _ is)
    by_next (GiveUp attempts) true is = buried_next course s aims new is

dead_next : (plans : List Plan) (course : Course) (o : Option Standing) (finish : Finish) (now word : ℕ) (aims : List Aim) (new : ℕ) → IsSettled plans course o finish now word aims (says.Dead new) → (s : Standing) × (o ≡ Some s) × (new ≡ course.made + 1)
dead_next plans course None finish now word aims new is = absurd (not_nothing new is)
dead_next plans course (Some s) ended.Success now word aims new is = absurd (not_done new is)
dead_next plans course (Some s) ended.Drop now word aims new is = absurd (not_dropped new _ is)
dead_next plans course (Some s) (ended.Later at) now word aims new is = absurd (not_again new at is)
dead_next plans course (Some s) ended.Retry now word aims new is = (s, refl, retried_next course (plan_at plans s.pair.sub).retry (plan_at plans s.pair.sub).dead s now word aims new is)

there_at_all : (claim : ℕ) (o : Option Standing) (s : Standing) → kept_if (is_held claim) o ≡ Some s → (t : Standing) × (o ≡ Some t)
there_at_all claim None s e = absurd (none-some s e)
there_at_all claim (Some t) s e = (t, refl)

pair_there : (history : List Step) (o : Option Pair) (t : Standing) → option_map (standing history) o ≡ Some t → (p : Pair) × (o ≡ Some p)
pair_there history None t e = absurd (none-some t e)
pair_there history (Some p) t e = (p, refl)

letter : (plans : List Plan) (before : List Step) (n j claim : ℕ) (finish : Finish) (now word : ℕ) (aims : List Aim) (new : ℕ) → IsReply plans (course_of before) (Settle n j claim finish now word aims) (says.Dead new) → IsLetter before n j claim finish now word aims new
letter plans before n j claim finish now word aims new is =
    let next = dead_next plans (course_of before) (held_at claim n j (standings before)) finish now word aims new is in
    let there = there_at_all claim (standing_at n j (standings before)) next.0 next.1 in
    let pair = pair_there before (pair_at n j (pairs_of before)) there.0 (sym (standing_at_pairs before n j (pairs_of before)) ∙ there.1) in
    record {
      pair = pair.0;
      there = pair.1;
      next = next.2;
      made = ap (letter_of (length (messages_of before) + 1) aims now) pair.1 ∙ ap (λ k. record { no = k; event = pair.0.event; aims = aims; hops = pair.0.hops + 1; moment = now } ∷ []) (sym next.2);
    }

pub are_letters : (plans : List Plan) (history : List Step) → EachSteps plans history → AreLetters history
are_letters plans history each before after e n j claim finish now word aims new is cmd reply =
    letter plans before n j claim finish now word aims new
    (subst (λ r. IsReply plans (course_of before) (Settle n j claim finish now word aims) r) reply (subst (λ c. IsReply plans (course_of before) c e.reply) cmd (each before after e is).1.reply))

-- ---- the rows are the owed pairs

owed_row : (plans : List Plan) (slot : Standing → Option ℕ) (at : ℕ) (o : Option Standing) (row : Row) → row_at at (slotted plans slot o) ≡ Some row → (s : Standing) × (o ≡ Some s) × (slot s ≡ Some at)
owed_row plans slot at None row e = absurd (none-some row e)
owed_row plans slot at (Some s) row e = by_slot (slot s) refl e
  where
    by_slot : (number : Option ℕ) → slot s ≡ number → row_at at (numbered (row_for plans s) number) ≡ Some row → (t : Standing) × (Some s ≡ Some t) × (slot t ≡ Some at)
    by_slot None f g = absurd (none-some row g)
    by_slot (Some n) f g = (s, refl, f ∙ ap (λ k. Some k) (eqb-true n at (cond_some (n == at) (row_for plans s) row g).0))

waits_at : (s : Standing) (at : ℕ) → waiting_slot s ≡ Some at → (is_owed s.status ≡ true) × (s.claim ≡ None) × (s.due ≡ at)
waits_at s at e = by_parts s.status s.claim (is_waiting s) refl e
  where
    no_claim : (c : Option ℕ) → Rattle.std.specs.Prelude.is_none c ≡ true → c ≡ None
    no_claim None f = refl
    no_claim (Some n) f = absurd (false≢true f)

    by_parts : (status : Status) (c : Option ℕ) (b : Bool) → is_waiting s ≡ b → (if b then Some s.due else None) ≡ Some at → (is_owed s.status ≡ true) × (s.claim ≡ None) × (s.due ≡ at)
    by_parts status c true w f = let parts = and_parts _ _ w in (parts.0, no_claim s.claim parts.1, same_Some s.due at f)
    by_parts status c false w f = absurd (none-some at f)

held_by : (s : Standing) (at : ℕ) → held_slot s ≡ Some at → (is_owed s.status ≡ true) × (s.claim ≡ Some at)
held_by s at e = by_bool (is_owed s.status) refl e
  where
    by_bool : (b : Bool) → is_owed s.status ≡ b → (if b then s.claim else None) ≡ Some at → (is_owed s.status ≡ true) × (s.claim ≡ Some at)
    by_bool true o f = (o, f)
    by_bool false o f = absurd (none-some at f)

pub rows_are_owed : (plans : List Plan) (history : List Step) (books : Books) → Shows plans (course_of history) books → RowsAreOwed plans history books
rows_are_owed plans history books shows = record {
  waiting = λ at m sub row e.
      let owed = owed_row plans waiting_slot at (standing_at m sub (standings history)) row (sym (shows.waiting at m sub) ∙ e) in
      let parts = waits_at owed.0 at owed.2 in
      (owed.0, owed.1, parts.0, parts.1, parts.2);
  held = λ at m sub row e.
      let owed = owed_row plans held_slot at (standing_at m sub (standings history)) row (sym (shows.held at m sub) ∙ e) in
      let parts = held_by owed.0 at owed.2 in
      (owed.0, owed.1, parts.0, parts.1);
  each_waits = λ m sub s there is_it free.
      shows.waiting s.due m sub ∙ ap (λ o. row_at s.due (slotted plans waiting_slot o)) there
      ∙ ap (λ b. row_at s.due (numbered (row_for plans s) (if b then Some s.due else None))) (Rattle.std.proofs.lemmas.Bool.and_from _ _ is_it (ap Rattle.std.specs.Prelude.is_none free))
      ∙ ap (λ b. if b then Some (row_for plans s) else None) (Rattle.std.proofs.lemmas.Bool.eq-eqb s.due s.due refl);
  each_held = λ m sub s claim there is_it held.
      shows.held claim m sub ∙ ap (λ o. row_at claim (slotted plans held_slot o)) there
      ∙ ap (λ b. row_at claim (numbered (row_for plans s) (if b then s.claim else None))) is_it ∙ ap (λ c. row_at claim (numbered (row_for plans s) c)) held
      ∙ ap (λ b. if b then Some (row_for plans s) else None) (Rattle.std.proofs.lemmas.Bool.eq-eqb claim claim refl);
}
