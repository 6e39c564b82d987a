-- A history with one more entry.
use Rattle.std.proofs.Common.{◌≡◌, ◌+◌, ◌<◌, ◌≤◌, ℕ, Bool, true, false, cond, List, [], ◌∷◌, ◌++◌, map, length, Option, Some, None, refl, sym, ap, subst, ◌∙◌, arith, append-nil, length-append}
use Rattle.std.specs.Prelude.{◌==◌, ◌||◌, option_map, if◌then◌else◌}
use Rattle.std.specs.List.{flat_map, filter}
use Rattle.std.proofs.lemmas.List.{map-append}
use Rattle.std.proofs.lemmas.List.Concat.{flat_map-append}
use Rattle.std.proofs.lemmas.List.Elements.{filter-append}
use Rattle.std.proofs.lemmas.List.Sums.{fold-append, fold_push, sum_by_push}
use Rattle.std.proofs.lemmas.Bool.{or_parts, or_from, and_left, ne_eqb}
use Rattle.ledger_core.specs.declared.plan.Aim.{Aim}
use Rattle.ledger_core.specs.declared.plan.Plan.{Plan}
use Rattle.ledger_core.specs.declared.command.LedgerCmd.{LedgerCmd}
use Rattle.ledger_core.specs.declared.command.LedgerCmd.TheVariants.{Accept, Take, Settle, Counts}
use Rattle.ledger_core.specs.declared.reply.LedgerReply.{LedgerReply}
use Rattle.ledger_core.specs.declared.reply.LedgerReply.TheVariants as says
use Rattle.ledger_core.specs.Message.{Step, Pair, pair_of, pairs_in, is_pair, pair_at, letter_of, made_by, messages_after, messages_of, pairs_of}
use Rattle.ledger_core.specs.Standing.{Standing, settles, takes, is_settling, is_handling, last_of, last_settling, last_handling, status_in, claim_by, claim_in, due_by, due_in, words_by, words_with, words_in, standing, standings}
use Rattle.ledger_core.specs.Course.{Course, is_claim, course_of, standing_at, kept_if, is_held}
use Rattle.ledger_core.specs.Reply.{IsReply, IsTaken, IsSettled}
use Rattle.ledger_core.specs.After.{moved, settled_status, fresh, fresh_one, letters, fresh_by, one_if, added_by, course_after}
use Rattle.ledger_core.specs.Ledger.{IsUntouched}

-- ---- entries that pass a test

last_push : (xs : List Step) (e : Step) → last_of (xs ++ e ∷ []) ≡ Some e
last_push xs e = fold_push (λ (seen : Option Step) x. Some x) None xs e

passing : (test : Step → Bool) (history : List Step) (e : Step) → filter test (history ++ e ∷ []) ≡ filter test history ++ cond (test e) (e ∷ []) []
passing test history e = filter-append test history (e ∷ [])

last_more : (test : Step → Bool) (history : List Step) (e : Step) → last_of (filter test (history ++ e ∷ [])) ≡ cond (test e) (Some e) (last_of (filter test history))
last_more test history e = ap last_of (passing test history e) ∙ by_test (test e)
  where
    by_test : (b : Bool) → last_of (filter test history ++ cond b (e ∷ []) []) ≡ cond b (Some e) (last_of (filter test history))
    by_test true = last_push (filter test history) e
    by_test false = ap last_of (append-nil (filter test history))

status_more : (path : Option (List ℕ)) (b : Bool) (e : Step) (o : Option Step) → status_in path (cond b (Some e) o) ≡ (if b then settled_status path e.reply else status_in path o)
status_more None true e o = refl
status_more (Some path) true e o = refl
status_more path false e o = refl

claim_more : (b : Bool) (e : Step) (o : Option Step) → claim_in (cond b (Some e) o) ≡ (if b then claim_by e.reply else claim_in o)
claim_more true e o = refl
claim_more false e o = refl

due_more : (moment : ℕ) (b : Bool) (e : Step) (o : Option Step) → due_in moment (cond b (Some e) o) ≡ (if b then due_by moment e.cmd e.reply else due_in moment o)
due_more moment true e o = refl
due_more moment false e o = refl

words_more : (test : Step → Bool) (history : List Step) (e : Step) → words_in (filter test (history ++ e ∷ [])) ≡ (if test e then words_by e.cmd e.reply ++ words_in (filter test history) else words_in (filter test history))
words_more test history e = ap words_in (passing test history e) ∙ by_test (test e)
  where
    by_test : (b : Bool) → words_in (filter test history ++ cond b (e ∷ []) []) ≡ (if b then words_by e.cmd e.reply ++ words_in (filter test history) else words_in (filter test history))
    by_test true = fold-append words_with [] (filter test history) (e ∷ [])
    by_test false = ap words_in (append-nil (filter test history))

-- what is said of a pair, with one more entry
pub standing_more : (history : List Step) (e : Step) (pair : Pair) → standing (history ++ e ∷ []) pair ≡ moved e.cmd e.reply (standing history pair)
standing_more history e pair = λ i. record {
  pair = pair;
  status = (ap (status_in pair.path) (last_more (is_settling pair) history e) ∙ status_more pair.path (is_settling pair e) e (last_settling history pair)) i;
  claim = (ap claim_in (last_more (is_handling pair) history e) ∙ claim_more (is_handling pair e) e (last_handling history pair)) i;
  due = (ap (due_in pair.moment) (last_more (is_settling pair) history e) ∙ due_more pair.moment (is_settling pair e) e (last_settling history pair)) i;
  words = words_more (is_settling pair) history e i;
}

-- ---- pairs and what is said of them

pub standing_at_pairs : (history : List Step) (m sub : ℕ) (pairs : List Pair) → standing_at m sub (map (standing history) pairs) ≡ option_map (standing history) (pair_at m sub pairs)
standing_at_pairs history m sub [] = refl
standing_at_pairs history m sub (p ∷ ps) = ap (cond (is_pair m sub p) (Some (standing history p))) (standing_at_pairs history m sub ps) ∙ by_test (is_pair m sub p)
  where
    by_test : (b : Bool) → cond b (Some (standing history p)) (option_map (standing history) (pair_at m sub ps)) ≡ option_map (standing history) (cond b (Some p) (pair_at m sub ps))
    by_test true = refl
    by_test false = refl

all_moved : (history : List Step) (e : Step) (pairs : List Pair) → map (standing (history ++ e ∷ [])) pairs ≡ map (moved e.cmd e.reply) (map (standing history) pairs)
all_moved history e [] = refl
all_moved history e (p ∷ ps) = ap (λ s. s ∷ map (standing (history ++ e ∷ [])) ps) (standing_more history e p) ∙ ap (λ ss. moved e.cmd e.reply (standing history p) ∷ ss) (all_moved history e ps)

-- ---- a pair that no entry took or settled

filter_less : (p q : Step → Bool) (xs : List Step) → filter (λ x. p x || q x) xs ≡ [] → filter q xs ≡ []
filter_less p q [] e = refl
filter_less p q (x ∷ xs) e =
    elim (p x || q x) as (λ b. p x || q x ≡ b → cond b (x ∷ filter (λ y. p y || q y) xs) (filter (λ y. p y || q y) xs) ≡ [] → filter q (x ∷ xs) ≡ []) [
      | true ↦ λ t f. absurd (let l = ap length f in omega arith)
      | false ↦ λ t f. ap (λ b. cond b (x ∷ filter q xs) (filter q xs)) (or_parts _ _ t).1 ∙ filter_less p q xs f
    ] refl e

untouched_standing : (history : List Step) (n : ℕ) (event : List ℕ) (aims : List Aim) (hops moment : ℕ) (aim : Aim)
    → filter (λ entry. takes n aim.sub entry.cmd entry.reply || settles n aim.sub entry.cmd entry.reply) history ≡ []
    → standing history (pair_of (record { no = n; event = event; aims = aims; hops = hops; moment = moment }) aim) ≡ fresh_one n event hops moment aim
untouched_standing history n event aims hops moment aim e =
    let settled = filter_less (λ entry. takes n aim.sub entry.cmd entry.reply) (λ entry. settles n aim.sub entry.cmd entry.reply) history e in
    λ i. record {
      pair = pair_of (record { no = n; event = event; aims = aims; hops = hops; moment = moment }) aim;
      status = status_in aim.path (last_of (settled i));
      claim = claim_in (last_of (e i));
      due = due_in moment (last_of (settled i));
      words = words_in (settled i);
    }

new_standings : (history : List Step) (n : ℕ) (event : List ℕ) (whole aims : List Aim) (hops moment : ℕ)
    → ((sub : ℕ) → filter (λ entry. takes n sub entry.cmd entry.reply || settles n sub entry.cmd entry.reply) history ≡ [])
    → map (standing history) (map (pair_of (record { no = n; event = event; aims = whole; hops = hops; moment = moment })) aims) ≡ fresh n event hops moment aims
new_standings history n event whole [] hops moment none = refl
new_standings history n event whole (aim ∷ aims) hops moment none =
    ap (λ s. s ∷ map (standing history) (map (pair_of (record { no = n; event = event; aims = whole; hops = hops; moment = moment })) aims)) (untouched_standing history n event whole hops moment aim (none aim.sub))
    ∙ ap (λ ss. fresh_one n event hops moment aim ∷ ss) (new_standings history n event whole aims hops moment none)

-- the pairs of the messages that an entry makes
made_standings : (history old : List Step) (cmd : LedgerCmd) (reply : LedgerReply)
    → ((sub : ℕ) → filter (λ entry. takes (length (messages_of old) + 1) sub entry.cmd entry.reply || settles (length (messages_of old) + 1) sub entry.cmd entry.reply) history ≡ [])
    → map (standing history) (flat_map pairs_in (made_by (messages_of old) cmd reply)) ≡ fresh_by (course_of old) cmd reply
made_standings history old (Accept event aims now) (says.Accepted n) none =
    ap (map (standing history)) (append-nil (pairs_in (record { no = length (messages_of old) + 1; event = event; aims = aims; hops = 0; moment = now })))
    ∙ new_standings history (length (messages_of old) + 1) event aims aims 0 now none
made_standings history old (Settle n s claim finish now word aims) (says.Dead new) none =
    by_option (pair_at n s (pairs_of old)) ∙ sym (ap (letters (length (messages_of old) + 1) aims now) (standing_at_pairs old n s (pairs_of old)))
  where
    by_option : (o : Option Pair) → map (standing history) (flat_map pairs_in (letter_of (length (messages_of old) + 1) aims now o)) ≡ letters (length (messages_of old) + 1) aims now (option_map (standing old) o)
    by_option None = refl
    by_option (Some p) =
        ap (map (standing history)) (append-nil (pairs_in (record { no = length (messages_of old) + 1; event = p.event; aims = aims; hops = p.hops + 1; moment = now })))
        ∙ new_standings history (length (messages_of old) + 1) p.event aims aims (p.hops + 1) now none
made_standings history old cmd reply none = refl

made_count : (old : List Step) (cmd : LedgerCmd) (reply : LedgerReply) → length (made_by (messages_of old) cmd reply) ≡ added_by (course_of old) cmd reply
made_count old (Accept event aims now) (says.Accepted n) = refl
made_count old (Settle n s claim finish now word aims) (says.Dead new) =
    by_option (pair_at n s (pairs_of old)) ∙ sym (ap one_if (standing_at_pairs old n s (pairs_of old)))
  where
    by_option : (o : Option Pair) → length (letter_of (length (messages_of old) + 1) aims now o) ≡ one_if (option_map (standing old) o)
    by_option None = refl
    by_option (Some p) = refl
made_count old cmd reply = refl

-- ---- the course

pub made_more : (history : List Step) (e : Step) → length (messages_of (history ++ e ∷ [])) ≡ length (messages_of history) + added_by (course_of history) e.cmd e.reply
made_more history e =
    ap length (fold_push messages_after [] history e) ∙ length-append (messages_of history) (made_by (messages_of history) e.cmd e.reply)
    ∙ ap (λ n. length (messages_of history) + n) (made_count history e.cmd e.reply)

pub course_more : (history : List Step) (e : Step)
    → ((sub : ℕ) → filter (λ entry. takes (length (messages_of history) + 1) sub entry.cmd entry.reply || settles (length (messages_of history) + 1) sub entry.cmd entry.reply) (history ++ e ∷ []) ≡ [])
    → course_of (history ++ e ∷ []) ≡ course_after (course_of history) e.cmd e.reply
course_more history e none = λ i. record {
  made = made_more history e i;
  claims = sum_by_push (λ (x : Step). cond (is_claim x.reply) 1 0) history e i;
  book = book i;
}
  where
    book : standings (history ++ e ∷ []) ≡ map (moved e.cmd e.reply) (standings history) ++ fresh_by (course_of history) e.cmd e.reply
    book =
        ap (λ ms. map (standing (history ++ e ∷ [])) (flat_map pairs_in ms)) (fold_push messages_after [] history e)
        ∙ ap (map (standing (history ++ e ∷ []))) (flat_map-append pairs_in (messages_of history) (made_by (messages_of history) e.cmd e.reply))
        ∙ map-append (standing (history ++ e ∷ [])) (pairs_of history) (flat_map pairs_in (made_by (messages_of history) e.cmd e.reply))
        ∙ ap (λ ss. ss ++ map (standing (history ++ e ∷ [])) (flat_map pairs_in (made_by (messages_of history) e.cmd e.reply))) (all_moved history e (pairs_of history))
        ∙ ap (λ ss. map (moved e.cmd e.reply) (standings history) ++ ss) (made_standings (history ++ e ∷ []) history e.cmd e.reply none)

-- ---- an entry touches no pair of a message that is not made

unlike : (m n made : ℕ) → n ≤ made → made < m → (m == n) ≡ false
unlike m n made few lt = ne_eqb m n (λ same. omega arith)

settles_not : (m sub n s : ℕ) (claim : ℕ) (finish : Rattle.ledger_core.specs.declared.command.Finish.Finish) (now word : ℕ) (aims : List Aim) (reply : LedgerReply) → (m == n) ≡ false → settles m sub (Settle n s claim finish now word aims) reply ≡ false
settles_not m sub n s claim finish now word aims says.NotTaken e = refl
settles_not m sub n s claim finish now word aims reply e = and_left (m == n) (sub == s) e

takes_not : (course : Course) (now : ℕ) (reply : LedgerReply) → IsTaken course now reply → ((m sub : ℕ) (s : Standing) → standing_at m sub course.book ≡ Some s → m ≤ course.made) → (m sub : ℕ) → course.made < m → takes m sub (Take now) reply ≡ false
takes_not course now (says.Taken n s claim event path attempt) taken made m sub lt =
    and_left (m == n) (sub == s) (unlike m n course.made (let e = taken.no_is in let g = made taken.row.pair.no taken.row.pair.sub taken.row taken.is_first.there in omega (arith, e, g)) lt)
takes_not course now reply taken made m sub lt = refl

pub touches_not : (plans : List Plan) (course : Course) (cmd : LedgerCmd) (reply : LedgerReply) → IsReply plans course cmd reply → ((m sub : ℕ) (s : Standing) → standing_at m sub course.book ≡ Some s → m ≤ course.made)
    → (m sub : ℕ) → course.made < m → takes m sub cmd reply || settles m sub cmd reply ≡ false
touches_not plans course (Accept event aims now) reply is made m sub lt = refl
touches_not plans course (Take now) reply is made m sub lt = or_from _ _ (takes_not course now reply is made m sub lt) refl
touches_not plans course (Settle n s claim finish now word aims) reply is made m sub lt = or_from _ _ refl (by_option (standing_at n s course.book) refl is)
  where
    by_option : (o : Option Standing) → standing_at n s course.book ≡ o → IsSettled plans course (kept_if (is_held claim) o) finish now word aims reply → settles m sub (Settle n s claim finish now word aims) reply ≡ false
    by_option None e settled = subst (λ r. settles m sub (Settle n s claim finish now word aims) r ≡ false) (sym settled) refl
    by_option (Some t) e settled = settles_not m sub n s claim finish now word aims reply (unlike m n course.made (made n s t e) lt)
touches_not plans course Counts reply is made m sub lt = refl

-- so no entry of the longer history does
pub untouched_more : (plans : List Plan) (history : List Step) (e : Step) → IsUntouched history → IsReply plans (course_of history) e.cmd e.reply → ((m sub : ℕ) (s : Standing) → standing_at m sub (standings history) ≡ Some s → m ≤ length (messages_of history))
    → (m sub : ℕ) → length (messages_of history) < m → filter (λ entry. takes m sub entry.cmd entry.reply || settles m sub entry.cmd entry.reply) (history ++ e ∷ []) ≡ []
untouched_more plans history e untouched is made m sub lt =
    passing (λ entry. takes m sub entry.cmd entry.reply || settles m sub entry.cmd entry.reply) history e
    ∙ ap (λ xs. xs ++ cond (takes m sub e.cmd e.reply || settles m sub e.cmd e.reply) (e ∷ []) []) (untouched m sub lt)
    ∙ ap (λ b. cond b (e ∷ []) []) (touches_not plans (course_of history) e.cmd e.reply is made m sub lt)
