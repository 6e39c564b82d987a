-- Claims: who holds a pair, and until when. And plans, of what is given out.
use Rattle.std.proofs.Common.{◌≡◌, ◌≢◌, ◌⊎◌, ◌+◌, ◌<◌, ◌≤◌, ℕ, Bool, true, false, cond, List, [], ◌∷◌, ◌++◌, map, length, All, Option, Some, None, refl, sym, ap, subst, ◌∙◌, inl, inr, ⊎_elim, arith, append-nil, append_assoc}
use Rattle.std.specs.Prelude.{◌==◌, ◌&&◌, ◌||◌, is_none, option_map, if◌then◌else◌}
use Rattle.std.proofs.lemmas.Bool.{false≢true, and_parts, and_from, eqb-true, eq-eqb, ne_eqb, cases_Bool}
use Rattle.std.proofs.lemmas.Option.{none-some, same_Some}
use Rattle.std.proofs.lemmas.List.Elements.{All-nil, All-head, All-tail, All-map, All-append}
use Rattle.ledger_core.specs.declared.plan.Aim.{Aim}
use Rattle.ledger_core.specs.declared.plan.Plan.{Plan}
use Rattle.ledger_core.specs.declared.command.Finish.{Finish}
use Rattle.ledger_core.specs.declared.command.Finish.TheVariants as ended
use Rattle.ledger_core.specs.declared.command.LedgerCmd.{LedgerCmd}
use Rattle.ledger_core.specs.declared.command.LedgerCmd.TheVariants.{Accept, Take, Settle, Counts}
use Rattle.ledger_core.specs.declared.reply.LedgerReply.{LedgerReply}
use Rattle.ledger_core.specs.declared.reply.LedgerReply.TheVariants as says
use Rattle.ledger_core.specs.Plan.{plan_at}
use Rattle.ledger_core.specs.Aims.{IsGiven}
use Rattle.ledger_core.specs.Message.{Step, is_pair}
use Rattle.ledger_core.specs.Standing.{Standing, Status, settles, takes, claim_by, standings}
use Rattle.ledger_core.specs.Course.{Course, course_of, is_owed, is_claim, is_claimed, is_held, standing_at, held_at, kept_if}
use Rattle.ledger_core.specs.Reply.{IsReply, IsHanded, IsSettled}
use Rattle.ledger_core.specs.After.{moved, settled_status, fresh_one, fresh, letters, fresh_by, course_after}
use Rattle.ledger_core.specs.Fits.{FitsEnd, Fits}
use Rattle.ledger_core.specs.Laws.{ArePlanned, ClaimsRise, HasSettling, IsSettledBetween, IsLetGo, CountsAddUp}
use Rattle.ledger_core.proofs.Fitting.{fits, retried_to}
use Rattle.ledger_core.proofs.Lookups.{or_else, standing_at_its, standing_at-map, standing_at-append}
use Rattle.ledger_core.proofs.Steps.{Follows}
use Rattle.ledger_core.proofs.Legal.{EachSteps, Known, front_steps, nothing_known, next_known, known_of, are_counted_once}

-- ---- what each entry keeps, a legal history keeps

abbrev Kept : List Plan → (Course → Type 0) → Type 0
Kept plans Inv = (course : Course) (cmd : LedgerCmd) (reply : LedgerReply) → IsGiven (length plans) cmd → IsReply plans course cmd reply → Inv course → Inv (course_after course cmd reply)

further : (history : List Step) (e : Step) → Follows history e → Known (history ++ e ∷ [])
further history e follow = record { made = follow.made; distinct = follow.distinct; untouched = follow.untouched }

through : (plans : List Plan) (Inv : Course → Type 0) → Kept plans Inv → (history before after : List Step) → EachSteps plans history → history ≡ before ++ after → Known before → Inv (course_of before) → Inv (course_of (before ++ after))
through plans Inv keeps history before [] each is known inv = subst (λ h. Inv (course_of h)) (sym (append-nil before)) inv
through plans Inv keeps history before (e ∷ after) each is known inv =
    let follow = next_known plans history before after e each is known in
    let step = each before after e is in
    let next = subst Inv (sym follow.course_is) (keeps (course_of before) e.cmd e.reply step.0 step.1.reply inv) in
    subst (λ h. Inv (course_of h)) (append_assoc before (e ∷ []) after)
    (through plans Inv keeps history (before ++ e ∷ []) after each (is ∙ sym (append_assoc before (e ∷ []) after)) (further before e follow) next)

-- ---- plans

AllPlanned : ℕ → Course → Type 0
AllPlanned plans course = All (λ (s : Standing). s.pair.sub < plans) course.book

fresh_planned : (plans number : ℕ) (event : List ℕ) (hops now : ℕ) (aims : List Aim) → All (λ (aim : Aim). aim.sub < plans) aims → All (λ (s : Standing). s.pair.sub < plans) (fresh number event hops now aims)
fresh_planned plans number event hops now aims all = All-map (λ (s : Standing). s.pair.sub < plans) (fresh_one number event hops now) aims all

new_planned : (plans : ℕ) (course : Course) (cmd : LedgerCmd) (reply : LedgerReply) → IsGiven plans cmd → All (λ (s : Standing). s.pair.sub < plans) (fresh_by course cmd reply)
new_planned plans course (Accept event aims now) (says.Accepted n) given = fresh_planned plans (course.made + 1) event 0 now aims given.planned
new_planned plans course (Settle n j claim finish now word aims) (says.Dead new) given = by_option (standing_at n j course.book)
  where
    by_option : (o : Option Standing) → All (λ (s : Standing). s.pair.sub < plans) (letters (course.made + 1) aims now o)
    by_option None = All-nil (λ (s : Standing). s.pair.sub < plans)
    by_option (Some t) = fresh_planned plans (course.made + 1) t.pair.event (t.pair.hops + 1) now aims given.planned
new_planned plans course cmd reply given = All-nil (λ (s : Standing). s.pair.sub < plans)

planned_kept : (plans : List Plan) → Kept plans (AllPlanned (length plans))
unfolding AllPlanned
planned_kept plans course cmd reply given is all =
    All-append (λ (s : Standing). s.pair.sub < length plans) (map (moved cmd reply) course.book) (fresh_by course cmd reply)
    (All-map (λ (s : Standing). s.pair.sub < length plans) (moved cmd reply) course.book all) (new_planned (length plans) course cmd reply given)

found_planned : (plans m sub : ℕ) (book : List Standing) (s : Standing) → All (λ (t : Standing). t.pair.sub < plans) book → standing_at m sub book ≡ Some s → s.pair.sub < plans
found_planned plans m sub [] s all e = absurd (none-some s e)
found_planned plans m sub (t ∷ book) s all e = by_test (is_pair m sub t.pair) (λ f. found_planned plans m sub book s (All-tail (λ (u : Standing). u.pair.sub < plans) t book all) f) e
  where
    by_test : (b : Bool) → (standing_at m sub book ≡ Some s → s.pair.sub < plans) → cond b (Some t) (standing_at m sub book) ≡ Some s → s.pair.sub < plans
    by_test true rest f = subst (λ (u : Standing). u.pair.sub < plans) (same_Some t s f) (All-head (λ (u : Standing). u.pair.sub < plans) t book all)
    by_test false rest f = rest f

-- the row that was given out
handed : (plans : List Plan) (course : Course) (cmd : LedgerCmd) (number sub claim : ℕ) (event path : List ℕ) (attempt : ℕ) → IsReply plans course cmd (says.Taken number sub claim event path attempt)
    → (now : ℕ) × IsHanded course now number sub claim event path attempt
handed plans course (Accept event' aims now) number sub claim event path attempt is = absurd (fits plans course (Accept event' aims now) (says.Taken number sub claim event path attempt) is)
handed plans course (Take now) number sub claim event path attempt is = (now, is)
handed plans course (Settle n j c finish now word aims) number sub claim event path attempt is = absurd (no_end finish (fits plans course (Settle n j c finish now word aims) (says.Taken number sub claim event path attempt) is))
  where
    no_end : (finish : Finish) → FitsEnd finish (says.Taken number sub claim event path attempt) → ⊥
    no_end ended.Success e = e
    no_end ended.Drop e = e
    no_end (ended.Later at) e = e
    no_end ended.Retry e = e
handed plans course Counts number sub claim event path attempt is = absurd (fits plans course Counts (says.Taken number sub claim event path attempt) is)

pub are_planned : (plans : List Plan) (history : List Step) → EachSteps plans history → ArePlanned plans history
unfolding AllPlanned
are_planned plans history each before after entry number sub claim event path attempt is reply =
    let all = through plans (AllPlanned (length plans)) (planned_kept plans) before [] before (front_steps plans history before (entry ∷ after) each is) refl nothing_known (All-nil (λ (s : Standing). s.pair.sub < length plans)) in
    let row = handed plans (course_of before) entry.cmd number sub claim event path attempt (subst (IsReply plans (course_of before) entry.cmd) reply (each before after entry is).1.reply) in
    subst (λ k. k < length plans) (sym row.1.sub_is) (found_planned (length plans) row.1.row.pair.no row.1.row.pair.sub (standings before) row.1.row all row.1.is_first.there)

-- ---- claims rise

-- a reply that gives out a claim gives the next one
gives_next : (plans : List Plan) (course : Course) (cmd : LedgerCmd) (reply : LedgerReply) (claim : ℕ) → IsReply plans course cmd reply → claim_by reply ≡ Some claim → (claim ≡ course.claims + 1) × (is_claim reply ≡ true)
gives_next plans course cmd (says.Taken number sub given event path attempt) claim is e = (sym (same_Some given claim e) ∙ (handed plans course cmd number sub given event path attempt is).1.claim_is, refl)
gives_next plans course cmd reply claim is e = absurd (none-some claim e)

HasGiven : ℕ → Course → Type 0
HasGiven claim course = claim ≤ course.claims

given_kept : (plans : List Plan) (claim : ℕ) → Kept plans (HasGiven claim)
unfolding HasGiven
given_kept plans claim course cmd reply given is few = omega (arith, few)

given_by : (plans : List Plan) (course : Course) (cmd : LedgerCmd) (reply : LedgerReply) (claim : ℕ) → IsReply plans course cmd reply → claim_by reply ≡ Some claim → HasGiven claim (course_after course cmd reply)
unfolding HasGiven
given_by plans course cmd reply claim is e = let next = gives_next plans course cmd reply claim is e in omega (arith, next.0, ap (λ b. course.claims + cond b 1 0) next.1)

-- what holds after an entry, and is kept, holds before a later one
later_on : (plans : List Plan) (Inv : Course → Type 0) → Kept plans Inv → (history before between after : List Step) (entry later : Step) → EachSteps plans history → history ≡ before ++ entry ∷ (between ++ later ∷ after)
    → Inv (course_after (course_of before) entry.cmd entry.reply) → Inv (course_of ((before ++ entry ∷ []) ++ between))
later_on plans Inv keeps history before between after entry later each is inv =
    let known = known_of plans history before (entry ∷ (between ++ later ∷ after)) each is in
    let follow = next_known plans history before (between ++ later ∷ after) entry each is known in
    let split : history ≡ ((before ++ entry ∷ []) ++ between) ++ later ∷ after = is ∙ sym (append_assoc before (entry ∷ []) (between ++ later ∷ after)) ∙ sym (append_assoc (before ++ entry ∷ []) between (later ∷ after)) in
    through plans Inv keeps ((before ++ entry ∷ []) ++ between) (before ++ entry ∷ []) between (front_steps plans history ((before ++ entry ∷ []) ++ between) (later ∷ after) each split) refl (further before entry follow) (subst Inv (sym follow.course_is) inv)

split_at : (history before between after : List Step) (entry later : Step) → history ≡ before ++ entry ∷ (between ++ later ∷ after) → history ≡ ((before ++ entry ∷ []) ++ between) ++ later ∷ after
split_at history before between after entry later is = is ∙ sym (append_assoc before (entry ∷ []) (between ++ later ∷ after)) ∙ sym (append_assoc (before ++ entry ∷ []) between (later ∷ after))

pub claims_rise : (plans : List Plan) (history : List Step) → EachSteps plans history → ClaimsRise history
unfolding HasGiven
claims_rise plans history each before between after entry later claim other is first second =
    let given = given_by plans (course_of before) entry.cmd entry.reply claim (each before (between ++ later ∷ after) entry is).1.reply first in
    let so = later_on plans (HasGiven claim) (given_kept plans claim) history before between after entry later each is given in
    let next = gives_next plans (course_of ((before ++ entry ∷ []) ++ between)) later.cmd later.reply other (each ((before ++ entry ∷ []) ++ between) after later (split_at history before between after entry later is)).1.reply second in
    omega (arith, so, next.0)

-- ---- between two takings stands a settling

-- somebody holds the pair
record Held (number sub : ℕ) (course : Course) : Type 0 where
  row : Standing
  there : standing_at number sub course.book ≡ Some row
  claim : ℕ
  is : row.claim ≡ Some claim

takes_gives : (number sub : ℕ) (cmd : LedgerCmd) (reply : LedgerReply) → takes number sub cmd reply ≡ true → (claim : ℕ) × (claim_by reply ≡ Some claim)
takes_gives number sub (Take now) (says.Taken n j claim event path attempt) e = (claim, refl)
takes_gives number sub cmd reply e = absurd (false≢true e)

-- a pair that was there is there after an entry
moves_on : (number sub : ℕ) (course : Course) (cmd : LedgerCmd) (reply : LedgerReply) (s : Standing) → standing_at number sub course.book ≡ Some s → standing_at number sub (course_after course cmd reply).book ≡ Some (moved cmd reply s)
moves_on number sub course cmd reply s there =
    standing_at-append number sub (map (moved cmd reply) course.book) (fresh_by course cmd reply)
    ∙ ap (λ o. or_else o (standing_at number sub (fresh_by course cmd reply))) (standing_at-map (moved cmd reply) (λ x. refl) number sub course.book ∙ ap (option_map (moved cmd reply)) there)

-- who holds it then, by whether the entry took or settled it
claim_after : (cmd : LedgerCmd) (reply : LedgerReply) (number sub : ℕ) (s : Standing) → (s.pair.no ≡ number) × (s.pair.sub ≡ sub) → (moved cmd reply s).claim ≡ (if takes number sub cmd reply || settles number sub cmd reply then claim_by reply else s.claim)
claim_after cmd reply number sub s its i = if takes (its.0 i) (its.1 i) cmd reply || settles (its.0 i) (its.1 i) cmd reply then claim_by reply else s.claim

held_taken : (plans : List Plan) (course : Course) (cmd : LedgerCmd) (reply : LedgerReply) (number sub : ℕ) → IsReply plans course cmd reply → takes number sub cmd reply ≡ true → (s : Standing) × (standing_at number sub course.book ≡ Some s) × (s.claim ≡ None)
held_taken plans course (Take now) (says.Taken n j claim event path attempt) number sub is e =
    let parts = and_parts (number == n) (sub == j) e in
    let same : (n ≡ number) × (j ≡ sub) = (sym (eqb-true number n parts.0), sym (eqb-true sub j parts.1)) in
    let there : standing_at number sub course.book ≡ Some is.row = ap (λ k. standing_at k sub course.book) (sym same.0 ∙ is.no_is) ∙ ap (λ k. standing_at is.row.pair.no k course.book) (sym same.1 ∙ is.sub_is) ∙ is.is_first.there in
    (is.row, there, free is.row.claim (and_parts _ _ (and_parts _ _ is.is_first.ready).0).1)
  where
    free : (c : Option ℕ) → is_none c ≡ true → c ≡ None
    free None f = refl
    free (Some n) f = absurd (false≢true f)
held_taken plans course cmd reply number sub is e = absurd (false≢true e)

held_after : (plans : List Plan) (course : Course) (cmd : LedgerCmd) (reply : LedgerReply) (number sub : ℕ) → IsReply plans course cmd reply → takes number sub cmd reply ≡ true → Held number sub (course_after course cmd reply)
held_after plans course cmd reply number sub is e =
    let row = held_taken plans course cmd reply number sub is e in
    let gives = takes_gives number sub cmd reply e in record {
      row = moved cmd reply row.0;
      there = moves_on number sub course cmd reply row.0 row.1;
      claim = gives.0;
      is = claim_after cmd reply number sub row.0 (standing_at_its number sub row.0 course.book row.1) ∙ ap (λ b. if b || settles number sub cmd reply then claim_by reply else row.0.claim) e ∙ gives.1;
    }

held_kept : (course : Course) (cmd : LedgerCmd) (reply : LedgerReply) (number sub : ℕ) → settles number sub cmd reply ≡ false → Held number sub course → Held number sub (course_after course cmd reply)
held_kept course cmd reply number sub not_settled held =
    let now = by_taking (takes number sub cmd reply) refl in record {
      row = moved cmd reply held.row;
      there = moves_on number sub course cmd reply held.row held.there;
      claim = now.0;
      is = claim_after cmd reply number sub held.row (standing_at_its number sub held.row course.book held.there) ∙ now.1;
    }
  where
    by_taking : (b : Bool) → takes number sub cmd reply ≡ b → (claim : ℕ) × ((if takes number sub cmd reply || settles number sub cmd reply then claim_by reply else held.row.claim) ≡ Some claim)
    by_taking true e = let gives = takes_gives number sub cmd reply e in (gives.0, ap (λ b. if b || settles number sub cmd reply then claim_by reply else held.row.claim) e ∙ gives.1)
    by_taking false e = (held.claim, ap (λ b. if b || settles number sub cmd reply then claim_by reply else held.row.claim) e ∙ ap (λ b. if b then claim_by reply else held.row.claim) not_settled ∙ held.is)

-- the pair is settled, or held all the while
settled_or_held : (plans : List Plan) (history before between : List Step) (number sub : ℕ) → EachSteps plans history → history ≡ before ++ between → Known before → Held number sub (course_of before) → HasSettling number sub between ⊎ Held number sub (course_of (before ++ between))
settled_or_held plans history before [] number sub each is known held = inr (subst (λ h. Held number sub (course_of h)) (sym (append-nil before)) held)
settled_or_held plans history before (e ∷ between) number sub each is known held =
    let follow = next_known plans history before between e each is known in
    ⊎_elim (λ settled. inl (record { before = []; entry = e; after = between; there = refl; its = settled }))
    (λ not_settled. ⊎_elim (λ (found : HasSettling number sub between). inl (record { before = e ∷ found.before; entry = found.entry; after = found.after; there = ap (λ l. e ∷ l) found.there; its = found.its }))
    (λ (on : Held number sub (course_of ((before ++ e ∷ []) ++ between))). inr (subst (λ h. Held number sub (course_of h)) (append_assoc before (e ∷ []) between) on))
    (settled_or_held plans history (before ++ e ∷ []) between number sub each (is ∙ sym (append_assoc before (e ∷ []) between)) (further before e follow)
    (subst (Held number sub) (sym follow.course_is) (held_kept (course_of before) e.cmd e.reply number sub not_settled held))))
    (cases_Bool (settles number sub e.cmd e.reply))

pub is_settled_between : (plans : List Plan) (history : List Step) → EachSteps plans history → IsSettledBetween history
is_settled_between plans history each before between after entry later number sub is first second =
    let known = known_of plans history before (entry ∷ (between ++ later ∷ after)) each is in
    let follow = next_known plans history before (between ++ later ∷ after) entry each is known in
    let split = split_at history before between after entry later is in
    let held = held_after plans (course_of before) entry.cmd entry.reply number sub (each before (between ++ later ∷ after) entry is).1.reply first in
    let free = held_taken plans (course_of ((before ++ entry ∷ []) ++ between)) later.cmd later.reply number sub (each ((before ++ entry ∷ []) ++ between) after later split).1.reply second in
    ⊎_elim (λ (found : HasSettling number sub between). found)
    (λ (on : Held number sub (course_of ((before ++ entry ∷ []) ++ between))). absurd (none-some on.claim (sym free.2 ∙ ap (λ (s : Standing). s.claim) (same_Some free.0 on.row (sym free.1 ∙ on.there)) ∙ on.is)))
    (settled_or_held plans ((before ++ entry ∷ []) ++ between) (before ++ entry ∷ []) between number sub (front_steps plans history ((before ++ entry ∷ []) ++ between) (later ∷ after) each split) refl (further before entry follow) (subst (Held number sub) (sym follow.course_is) held))

-- ---- a settling lets go

in_fresh : (n : ℕ) (event : List ℕ) (hops now : ℕ) (aims : List Aim) (number sub : ℕ) (s : Standing) → standing_at number sub (fresh n event hops now aims) ≡ Some s → s.claim ≡ None
in_fresh n event hops now [] number sub s e = absurd (none-some s e)
in_fresh n event hops now (aim ∷ aims) number sub s e = by_test (is_pair number sub (fresh_one n event hops now aim).pair) (λ f. in_fresh n event hops now aims number sub s f) e
  where
    by_test : (b : Bool) → (standing_at number sub (fresh n event hops now aims) ≡ Some s → s.claim ≡ None) → cond b (Some (fresh_one n event hops now aim)) (standing_at number sub (fresh n event hops now aims)) ≡ Some s → s.claim ≡ None
    by_test true rest f = ap (λ (t : Standing). t.claim) (sym (same_Some _ s f))
    by_test false rest f = rest f

-- nobody holds the pair under the claim, which was given out
record Free (number sub claim : ℕ) (course : Course) : Type 0 where
  few : claim ≤ course.claims
  free : held_at claim number sub course.book ≡ None

not_claimed : (plans : List Plan) (course : Course) (cmd : LedgerCmd) (reply : LedgerReply) (claim : ℕ) → IsReply plans course cmd reply → claim ≤ course.claims → is_claimed claim (claim_by reply) ≡ false
not_claimed plans course cmd reply claim is few = by_option (claim_by reply) refl
  where
    by_option : (o : Option ℕ) → claim_by reply ≡ o → is_claimed claim o ≡ false
    by_option None e = refl
    by_option (Some other) e = let next = gives_next plans course cmd reply other is e in ne_eqb other claim (λ same. omega (arith, few, next.0, same))

not_held : (claim : ℕ) (s : Standing) → is_claimed claim s.claim ≡ false → is_held claim s ≡ false
not_held claim s e = both (is_owed s.status) (is_claimed claim s.claim) e
  where
    both : (a b : Bool) → b ≡ false → (a && b) ≡ false
    both true b e = e
    both false b e = refl

new_claim : (course : Course) (cmd : LedgerCmd) (reply : LedgerReply) (number sub : ℕ) (s : Standing) → standing_at number sub (fresh_by course cmd reply) ≡ Some s → s.claim ≡ None
new_claim course (Accept event aims now) (says.Accepted n) number sub s e = in_fresh (course.made + 1) event 0 now aims number sub s e
new_claim course (Settle n j claim finish now word aims) (says.Dead new) number sub s e = by_option (standing_at n j course.book) e
  where
    by_option : (o : Option Standing) → standing_at number sub (letters (course.made + 1) aims now o) ≡ Some s → s.claim ≡ None
    by_option None f = absurd (none-some s f)
    by_option (Some t) f = in_fresh (course.made + 1) t.pair.event (t.pair.hops + 1) now aims number sub s f
new_claim course cmd reply number sub s e = absurd (none-some s e)

-- nobody holds it after an entry that took or settled it, and nobody who did not before
moved_free : (plans : List Plan) (course : Course) (cmd : LedgerCmd) (reply : LedgerReply) (number sub claim : ℕ) (s : Standing) → IsReply plans course cmd reply → claim ≤ course.claims → standing_at number sub course.book ≡ Some s
    → (settles number sub cmd reply ≡ false → is_held claim s ≡ false) → is_held claim (moved cmd reply s) ≡ false
moved_free plans course cmd reply number sub claim s is few there before = by_parts (takes number sub cmd reply) (settles number sub cmd reply) refl refl
  where
    its : (s.pair.no ≡ number) × (s.pair.sub ≡ sub)
    its = standing_at_its number sub s course.book there

    now : (b : Bool) → takes number sub cmd reply || settles number sub cmd reply ≡ b → (moved cmd reply s).claim ≡ (if b then claim_by reply else s.claim)
    now b e = claim_after cmd reply number sub s its ∙ ap (λ c. if c then claim_by reply else s.claim) e

    by_parts : (t u : Bool) → takes number sub cmd reply ≡ t → settles number sub cmd reply ≡ u → is_held claim (moved cmd reply s) ≡ false
    by_parts true u e f = not_held claim (moved cmd reply s) (ap (is_claimed claim) (now true (ap (λ b. b || settles number sub cmd reply) e)) ∙ not_claimed plans course cmd reply claim is few)
    by_parts false true e f = not_held claim (moved cmd reply s) (ap (is_claimed claim) (now true (ap (λ b. b || settles number sub cmd reply) e ∙ f)) ∙ not_claimed plans course cmd reply claim is few)
    by_parts false false e f =
        let status : (moved cmd reply s).status ≡ s.status = ap (λ k. if settles k s.pair.sub cmd reply then settled_status s.pair.path reply else s.status) its.0 ∙ ap (λ k. if settles number k cmd reply then settled_status s.pair.path reply else s.status) its.1 ∙ ap (λ b. if b then settled_status s.pair.path reply else s.status) f in
        let claim_is : (moved cmd reply s).claim ≡ s.claim = now false (ap (λ b. b || settles number sub cmd reply) e ∙ f) in
        ap (λ (st : Status). is_owed st && is_claimed claim (moved cmd reply s).claim) status ∙ ap (λ c. is_owed s.status && is_claimed claim c) claim_is ∙ before f

-- a pair in the course after an entry was there before, or is new
free_after : (plans : List Plan) (course : Course) (cmd : LedgerCmd) (reply : LedgerReply) (number sub claim : ℕ) → IsReply plans course cmd reply → claim ≤ course.claims
    → ((s : Standing) → standing_at number sub course.book ≡ Some s → settles number sub cmd reply ≡ false → is_held claim s ≡ false) → Free number sub claim (course_after course cmd reply)
free_after plans course cmd reply number sub claim is few before = record {
  few = omega (arith, few);
  free = ap (kept_if (is_held claim)) (standing_at-append number sub (map (moved cmd reply) course.book) (fresh_by course cmd reply) ∙ ap (λ o. or_else o (standing_at number sub (fresh_by course cmd reply))) (standing_at-map (moved cmd reply) (λ x. refl) number sub course.book))
      ∙ by_option (standing_at number sub course.book) refl;
}
  where
    dropped : (s : Standing) → is_held claim s ≡ false → kept_if (is_held claim) (Some s) ≡ None
    dropped s e = ap (λ b. if b then Some s else None) e

    by_new : (o : Option Standing) → standing_at number sub (fresh_by course cmd reply) ≡ o → kept_if (is_held claim) o ≡ None
    by_new None e = refl
    by_new (Some s) e = dropped s (not_held claim s (ap (is_claimed claim) (new_claim course cmd reply number sub s e)))

    by_option : (o : Option Standing) → standing_at number sub course.book ≡ o → kept_if (is_held claim) (or_else (option_map (moved cmd reply) o) (standing_at number sub (fresh_by course cmd reply))) ≡ None
    by_option None e = by_new (standing_at number sub (fresh_by course cmd reply)) refl
    by_option (Some s) e = dropped (moved cmd reply s) (moved_free plans course cmd reply number sub claim s is few e (before s e))

-- what was not kept does not pass the test
dropped_by : (test : Standing → Bool) (o : Option Standing) (s : Standing) → o ≡ Some s → kept_if test o ≡ None → test s ≡ false
dropped_by test o s e f = by_test (test s) refl (ap (kept_if test) (sym e) ∙ f)
  where
    by_test : (b : Bool) → test s ≡ b → (if test s then Some s else None) ≡ None → test s ≡ false
    by_test true g h = absurd (none-some s (sym h ∙ ap (λ b. if b then Some s else None) g))
    by_test false g h = g

free_kept : (plans : List Plan) (number sub claim : ℕ) → Kept plans (Free number sub claim)
free_kept plans number sub claim course cmd reply given is free = free_after plans course cmd reply number sub claim is free.few (λ s there _. dropped_by (is_held claim) (standing_at number sub course.book) s there free.free)

settles_own : (number sub claim : ℕ) (finish : Finish) (now word : ℕ) (aims : List Aim) (reply : LedgerReply) → reply ≢ says.NotTaken → settles number sub (Settle number sub claim finish now word aims) reply ≡ true
settles_own number sub claim finish now word aims says.NotTaken not = absurd (not refl)
settles_own number sub claim finish now word aims reply not = and_from (number == number) (sub == sub) (eq-eqb number number refl) (eq-eqb sub sub refl)

taken_answer : (plans : List Plan) (course : Course) (s : Standing) (finish : Finish) (now word : ℕ) (aims : List Aim) (reply : LedgerReply) → IsSettled plans course (Some s) finish now word aims reply → reply ≢ says.NotTaken
taken_answer plans course s ended.Success now word aims reply is = subst (λ r. r ≢ says.NotTaken) (sym is) (λ e. cc)
taken_answer plans course s ended.Drop now word aims reply is = subst (λ r. r ≢ says.NotTaken) (sym is) (λ e. cc)
taken_answer plans course s (ended.Later at) now word aims reply is = subst (λ r. r ≢ says.NotTaken) (sym is) (λ e. cc)
taken_answer plans course s ended.Retry now word aims reply is =
    retried_to (λ r. r ≢ says.NotTaken) course (plan_at plans s.pair.sub).retry (plan_at plans s.pair.sub).dead s now word aims reply is (λ at e. cc) (λ e. cc) (λ e. cc) (λ rows bytes e. cc) (λ number e. cc) (λ e. cc)

-- where the settling did not settle the pair, nobody held it under the claim
free_settling : (plans : List Plan) (course : Course) (number sub claim : ℕ) (finish : Finish) (now word : ℕ) (aims : List Aim) (reply : LedgerReply) → IsReply plans course (Settle number sub claim finish now word aims) reply
    → (s : Standing) → standing_at number sub course.book ≡ Some s → settles number sub (Settle number sub claim finish now word aims) reply ≡ false → is_held claim s ≡ false
free_settling plans course number sub claim finish now word aims reply is s there not_settled = by_option (held_at claim number sub course.book) refl is
  where
    by_option : (o : Option Standing) → held_at claim number sub course.book ≡ o → IsSettled plans course o finish now word aims reply → is_held claim s ≡ false
    by_option None e settled = dropped_by (is_held claim) (standing_at number sub course.book) s there e
    by_option (Some t) e settled = absurd (false≢true (sym not_settled ∙ settles_own number sub claim finish now word aims reply (taken_answer plans course t finish now word aims reply settled)))

pub is_let_go : (plans : List Plan) (history : List Step) → EachSteps plans history → IsLetGo history
unfolding HasGiven
is_let_go plans history each before between after taking settling number sub claim finish now word aims is gave cmd =
    let given = given_by plans (course_of before) taking.cmd taking.reply claim (each before (between ++ settling ∷ after) taking is).1.reply gave in
    let so = later_on plans (HasGiven claim) (given_kept plans claim) history before between after taking settling each is given in
    let front : List Step = (before ++ taking ∷ []) ++ between in
    let split = split_at history before between after taking settling is in
    let known = known_of plans history front (settling ∷ after) each split in
    let follow = next_known plans history front after settling each split known in
    let reply = (each front after settling split).1.reply in
    let free = free_after plans (course_of front) settling.cmd settling.reply number sub claim reply so
    (subst (λ c. (s : Standing) → standing_at number sub (standings front) ≡ Some s → settles number sub c settling.reply ≡ false → is_held claim s ≡ false) (sym cmd)
    (free_settling plans (course_of front) number sub claim finish now word aims settling.reply (subst (λ c. IsReply plans (course_of front) c settling.reply) cmd reply))) in
    let whole : history ≡ (front ++ settling ∷ []) ++ after = split ∙ sym (append_assoc front (settling ∷ []) after) in
    let last = through plans (Free number sub claim) (free_kept plans number sub claim) history (front ++ settling ∷ []) after each whole (further front settling follow) (subst (Free number sub claim) (sym follow.course_is) free) in
    ap (λ h. held_at claim number sub (standings h)) whole ∙ last.free

-- ---- what is counted

counts_alone : (cmd : LedgerCmd) (owed done dropped dead : ℕ) → Fits cmd (says.Counts owed done dropped dead) → cmd ≡ Counts
counts_alone (Accept event aims now) owed done dropped dead f = absurd f
counts_alone (Take now) owed done dropped dead f = absurd f
counts_alone (Settle number sub claim ended.Success now word aims) owed done dropped dead f = absurd f
counts_alone (Settle number sub claim ended.Drop now word aims) owed done dropped dead f = absurd f
counts_alone (Settle number sub claim (ended.Later at) now word aims) owed done dropped dead f = absurd f
counts_alone (Settle number sub claim ended.Retry now word aims) owed done dropped dead f = absurd f
counts_alone Counts owed done dropped dead f = refl

total_of : LedgerReply → ℕ
total_of (says.Counts owed done dropped dead) = owed + done + dropped + dead
total_of reply = 0

pub counts_add_up : (plans : List Plan) (history : List Step) → EachSteps plans history → CountsAddUp history
unfolding total_of
counts_add_up plans history each before after entry owed done dropped dead is reply =
    let step : IsReply plans (course_of before) entry.cmd (says.Counts owed done dropped dead) = subst (IsReply plans (course_of before) entry.cmd) reply (each before after entry is).1.reply in
    let here : IsReply plans (course_of before) Counts (says.Counts owed done dropped dead) = subst (λ c. IsReply plans (course_of before) c (says.Counts owed done dropped dead)) (counts_alone entry.cmd owed done dropped dead (fits plans (course_of before) entry.cmd (says.Counts owed done dropped dead) step)) step in
    ap total_of here ∙ are_counted_once before
