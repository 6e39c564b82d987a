-- Each message of a history has a number of its own, and is for each subscription once.
use Rattle.std.proofs.Common.{◌≡◌, ◌≢◌, ◌∙◌, ◌<◌, ◌≤◌, ◌+◌, ℕ, suc, Bool, true, false, cond, List, [], ◌∷◌, ◌++◌, length, map, fold, Option, Some, None, refl, sym, ap, subst, arith, append-nil, append_assoc, length-append}
use Rattle.std.specs.Prelude.{◌==◌, ◌&&◌}
use Rattle.std.specs.List.{filter, flat_map, sum_by, AllPairs, AllByRecursion}
use Rattle.std.proofs.lemmas.Bool.{ne_eqb}
use Rattle.std.proofs.lemmas.Bool.Decides.{Decides-eqb}
use Rattle.std.proofs.lemmas.Grind.{flat_map-append}
use Rattle.std.proofs.lemmas.List.{length-map}
use Rattle.std.proofs.lemmas.List.Elements.{filter-append, recursion_from_All}
use Rattle.std.proofs.lemmas.List.Sums.{fold-append, sum_by-cons}
use Rattle.ledger_core.specs.declared.plan.Aim.{Aim}
use Rattle.ledger_core.specs.declared.plan.Plan.{Plan}
use Rattle.ledger_core.specs.declared.command.LedgerCmd.{LedgerCmd}
use Rattle.ledger_core.specs.declared.command.LedgerCmd.TheVariants.{Accept, Settle}
use Rattle.ledger_core.specs.declared.reply.LedgerReply.{LedgerReply}
use Rattle.ledger_core.specs.declared.reply.LedgerReply.TheVariants.{Accepted, Dead}
use Rattle.ledger_core.specs.Aims.{IsGiven}
use Rattle.ledger_core.specs.Ledger.{IsStep}
use Rattle.ledger_core.specs.Laws.{AreCountedOnce}
use Rattle.ledger_core.specs.Message.{Step, Message, Pair, is_pair, letter_of, made_by, messages_after, messages_of, pair_at, pair_of, pairs_in, pairs_of}
use Rattle.ledger_core.specs.Standing.{Standing, Status, owed, done, dropped, dead, standing}
use Rattle.ledger_core.specs.Course.{course_of}
use Rattle.ledger_core.specs.Reply.{IsReply}
use Rattle.sidecar_turns.specs.Accounts.{AcceptedHaveOne, CountsAreAll, MessagesHaveOne, statuses_of}

-- ---- aims of different subscriptions

Differ : Aim → Aim → Type 0
Differ a b = a.sub ≢ b.sub

-- none of them is of this subscription
abbrev ApartFrom : Aim → List Aim → Type 0
ApartFrom aim aims = AllByRecursion (λ (other : Aim). aim.sub ≢ other.sub) aims

abbrev OnceEach : List Aim → Type 0
OnceEach [] = Unit {0}
OnceEach (aim ∷ aims) = ApartFrom aim aims × OnceEach aims

once_each : (aims : List Aim) → AllPairs (λ (a b : Aim). a.sub ≢ b.sub) aims → OnceEach aims
once_each [] pairs = tt
once_each (aim ∷ aims) pairs = (
  recursion_from_All (λ (other : Aim). aim.sub ≢ other.sub) aims (λ j d low. pairs 0 (suc j) d (omega arith) (omega (arith, low))),
  once_each aims (λ i j d less low. pairs (suc i) (suc j) d (omega (arith, less)) (omega (arith, low))),
)

apart_at : (aim other : Aim) (earlier later : List Aim) → ApartFrom aim (earlier ++ other ∷ later) → aim.sub ≢ other.sub
apart_at aim other [] later apart = apart.0
apart_at aim other (x ∷ earlier) later apart = apart_at aim other earlier later apart.1

-- ---- messages with numbers that rise from k on

abbrev AreMade : ℕ → List Message → Type 0
AreMade k [] = Unit {0}
AreMade k (m ∷ ms) = (m.no ≡ k + 1) × OnceEach m.aims × AreMade (k + 1) ms

made_one_more : (k : ℕ) (ms : List Message) (m : Message) → AreMade k ms → m.no ≡ (k + length ms) + 1 → OnceEach m.aims → AreMade k (ms ++ m ∷ [])
made_one_more k [] m made number once = (omega (arith, number), once, tt)
made_one_more k (x ∷ ms) m made number once = (made.0, made.1, made_one_more (k + 1) ms m made.2 (omega (arith, number)) once)

made_more : (plans : ℕ) (ms : List Message) (cmd : LedgerCmd) (reply : LedgerReply) → IsGiven plans cmd → AreMade 0 ms → AreMade 0 (ms ++ made_by ms cmd reply)
made_more plans ms (Accept event aims now) (Accepted number) given made = made_one_more 0 ms _ made (omega arith) (once_each aims given.once)
made_more plans ms (Settle n s claim finish now word aims) (Dead new) given made = by (pair_at n s (flat_map pairs_in ms))
  where
    by : (o : Option Pair) → AreMade 0 (ms ++ letter_of (length ms + 1) aims now o)
    by None = subst (AreMade 0) (sym (append-nil ms)) made
    by (Some pair) = made_one_more 0 ms _ made (omega arith) (once_each aims given.once)
made_more plans ms cmd reply given made = subst (AreMade 0) (sym (append-nil ms)) made

-- each command may be given, and each entry is a step after those before it
abbrev pub EachSteps : List Plan → List Step → Type 0
EachSteps plans history = (before after : List Step) (entry : Step) → history ≡ before ++ entry ∷ after → IsGiven (length plans) entry.cmd × IsStep plans before entry

made_from : (plans : List Plan) (history front rest : List Step) (ms : List Message) → EachSteps plans history → history ≡ front ++ rest → AreMade 0 ms → AreMade 0 (fold messages_after ms rest)
made_from plans history front [] ms each is made = made
made_from plans history front (e ∷ rest) ms each is made =
    made_from plans history (front ++ e ∷ []) rest (messages_after ms e) each (is ∙ sym (append_assoc front (e ∷ []) rest)) (made_more (length plans) ms e.cmd e.reply (each front rest e is).0 made)

all_made : (plans : List Plan) (history : List Step) → EachSteps plans history → AreMade 0 (messages_of history)
all_made plans history each = made_from plans history [] history [] each refl tt

-- ---- the pairs of a message and a subscription

same_number : (n : ℕ) → (n == n) ≡ true
same_number n = (Decides-eqb n n).1 refl

no_match : (n sub : ℕ) (p : Pair) (rest : List Pair) → is_pair n sub p ≡ false → filter (is_pair n sub) (p ∷ rest) ≡ filter (is_pair n sub) rest
no_match n sub p rest off = ap (λ (b : Bool). cond b (p ∷ filter (is_pair n sub) rest) (filter (is_pair n sub) rest)) off

other_message : (n sub : ℕ) (m : Message) (aims : List Aim) → m.no ≢ n → filter (is_pair n sub) (map (pair_of m) aims) ≡ []
other_message n sub m [] apart = refl
other_message n sub m (aim ∷ aims) apart = no_match n sub (pair_of m aim) (map (pair_of m) aims) (ap (λ (b : Bool). b && (aim.sub == sub)) (ne_eqb m.no n apart)) ∙ other_message n sub m aims apart

other_aim : (m : Message) (aim other : Aim) → other.sub ≢ aim.sub → is_pair m.no aim.sub (pair_of m other) ≡ false
other_aim m aim other apart = (λ i. same_number m.no i && ne_eqb other.sub aim.sub apart i)

other_aims : (m : Message) (aim : Aim) (aims : List Aim) → ApartFrom aim aims → filter (is_pair m.no aim.sub) (map (pair_of m) aims) ≡ []
other_aims m aim [] apart = refl
other_aims m aim (other ∷ aims) apart = no_match m.no aim.sub (pair_of m other) (map (pair_of m) aims) (other_aim m aim other (λ e. apart.0 (sym e))) ∙ other_aims m aim aims apart.1

one_aim : (m : Message) (aim : Aim) (earlier later : List Aim) → OnceEach (earlier ++ aim ∷ later) → filter (is_pair m.no aim.sub) (map (pair_of m) (earlier ++ aim ∷ later)) ≡ pair_of m aim ∷ []
one_aim m aim [] later once =
    ap (λ (b : Bool). cond b (pair_of m aim ∷ filter (is_pair m.no aim.sub) (map (pair_of m) later)) (filter (is_pair m.no aim.sub) (map (pair_of m) later))) (λ i. same_number m.no i && same_number aim.sub i)
    ∙ ap (λ l. pair_of m aim ∷ l) (other_aims m aim later once.0)
one_aim m aim (other ∷ earlier) later once =
    no_match m.no aim.sub (pair_of m other) (map (pair_of m) (earlier ++ aim ∷ later)) (other_aim m aim other (apart_at other aim earlier later once.0)) ∙ one_aim m aim earlier later once.1

-- a number that none of them has
none_below : (k n sub : ℕ) (ms : List Message) → AreMade k ms → k + length ms < n → filter (is_pair n sub) (flat_map pairs_in ms) ≡ []
none_below k n sub [] made less = refl
none_below k n sub (m ∷ ms) made less = filter-append (is_pair n sub) (pairs_in m) (flat_map pairs_in ms)
    ∙ (λ i. other_message n sub m m.aims (λ e. omega (arith, e, made.0, less)) i ++ none_below (k + 1) n sub ms made.2 (omega (arith, less)) i)

none_above : (k n sub : ℕ) (ms : List Message) → AreMade k ms → n ≤ k → filter (is_pair n sub) (flat_map pairs_in ms) ≡ []
none_above k n sub [] made less = refl
none_above k n sub (m ∷ ms) made less = filter-append (is_pair n sub) (pairs_in m) (flat_map pairs_in ms)
    ∙ (λ i. other_message n sub m m.aims (λ e. omega (arith, e, made.0, less)) i ++ none_above (k + 1) n sub ms made.2 (omega (arith, less)) i)

record Parts (k : ℕ) (before : List Message) (m : Message) (after : List Message) : Type 0 where
  front : AreMade k before
  number : m.no ≡ (k + length before) + 1
  once : OnceEach m.aims
  back : AreMade ((k + length before) + 1) after

parts : (k : ℕ) (before : List Message) (m : Message) (after : List Message) → AreMade k (before ++ m ∷ after) → Parts k before m after
parts k [] m after made = record { front = tt; number = omega (arith, made.0); once = made.1; back = subst (λ n. AreMade n after) (omega arith) made.2 }
parts k (x ∷ before) m after made =
    let rest = parts (k + 1) before m after made.2 in
    record { front = (made.0, made.1, rest.front); number = omega (arith, rest.number); once = rest.once; back = subst (λ n. AreMade n after) (omega arith) rest.back }

one_pair : (before after : List Message) (m : Message) (earlier later : List Aim) (aim : Aim) → AreMade 0 (before ++ m ∷ after) → m.aims ≡ earlier ++ aim ∷ later
    → filter (is_pair m.no aim.sub) (flat_map pairs_in (before ++ m ∷ after)) ≡ pair_of m aim ∷ []
one_pair before after m earlier later aim made aims-are =
    let its = parts 0 before m after made in
    let mine : filter (is_pair m.no aim.sub) (pairs_in m) ≡ pair_of m aim ∷ [] =
    ap (λ (l : List Aim). filter (is_pair m.no aim.sub) (map (pair_of m) l)) aims-are ∙ one_aim m aim earlier later (subst OnceEach aims-are its.once) in
    let low = its.number in
    ap (filter (is_pair m.no aim.sub)) (flat_map-append pairs_in before (m ∷ after))
    ∙ filter-append (is_pair m.no aim.sub) (flat_map pairs_in before) (pairs_in m ++ flat_map pairs_in after)
    ∙ (λ i. none_below 0 m.no aim.sub before its.front (omega (arith, low)) i ++ filter-append (is_pair m.no aim.sub) (pairs_in m) (flat_map pairs_in after) i)
    ∙ (λ i. mine i ++ none_above ((0 + length before) + 1) m.no aim.sub after its.back (omega (arith, low)) i)

-- ---- what is said of pairs

one_of : (status : Status) → statuses_of status ≡ 1
one_of owed = refl
one_of done = refl
one_of dropped = refl
one_of dead = refl

said_of : (history : List Step) (n sub : ℕ) (ps : List Pair) → filter (λ (s : Standing). is_pair n sub s.pair) (map (standing history) ps) ≡ map (standing history) (filter (is_pair n sub) ps)
said_of history n sub [] = refl
said_of history n sub (p ∷ ps) = by (is_pair n sub p) (said_of history n sub ps)
  where
    by : (b : Bool) {l : List Standing} → l ≡ map (standing history) (filter (is_pair n sub) ps) → cond b (standing history p ∷ l) l ≡ map (standing history) (cond b (p ∷ filter (is_pair n sub) ps) (filter (is_pair n sub) ps))
    by true e = ap (λ l. standing history p ∷ l) e
    by false e = e

pub messages_have_one : (plans : List Plan) (history : List Step) → EachSteps plans history → MessagesHaveOne history
messages_have_one plans history each before after m earlier later aim is aims-are = record {
  only = said_of history m.no aim.sub (pairs_of history)
      ∙ ap (map (standing history)) (ap (λ (ms : List Message). filter (is_pair m.no aim.sub) (flat_map pairs_in ms)) is ∙ one_pair before after m earlier later aim (subst (AreMade 0) is (all_made plans history each)) aims-are);
  one = one_of (standing history (pair_of m aim)).status;
}

-- ---- an event that is accepted

-- messages stay as they are
grown : (es : List Step) (ms : List Message) → (more : List Message) × (fold messages_after ms es ≡ ms ++ more)
grown [] ms = ([], sym (append-nil ms))
grown (e ∷ es) ms = let rest = grown es (messages_after ms e) in (made_by ms e.cmd e.reply ++ rest.0, rest.1 ∙ append_assoc ms (made_by ms e.cmd e.reply) rest.0)

-- the message of an event
abbrev made_of : List ℕ → List Aim → ℕ → ℕ → List Message
made_of event aims now number = record { no = number; event = event; aims = aims; hops = 0; moment = now } ∷ []

pub accepted_have_one : (plans : List Plan) (history : List Step) → EachSteps plans history → AcceptedHaveOne history
accepted_have_one plans history each before after entry event earlier later aim now number is asked answered =
    let reply = subst (λ (z : LedgerCmd × LedgerReply). IsReply plans (course_of before) z.0 z.1) (λ i. (asked i, answered i)) (each before after entry is).1.reply in
    let message : Message = record { no = number; event = event; aims = earlier ++ aim ∷ later; hops = 0; moment = now } in
    let made : made_by (messages_of before) entry.cmd entry.reply ≡ message ∷ [] =
    (λ i. made_by (messages_of before) (asked i) (answered i)) ∙ ap (made_of event (earlier ++ aim ∷ later) now) (sym reply.1) in
    let rest = grown after (messages_after (messages_of before) entry) in
    let all : messages_of history ≡ messages_of before ++ message ∷ rest.0 =
    ap messages_of is ∙ fold-append messages_after [] before (entry ∷ after) ∙ rest.1 ∙ ap (λ (l : List Message). (messages_of before ++ l) ++ rest.0) made ∙ append_assoc (messages_of before) (message ∷ []) rest.0 in
    messages_have_one plans history each (messages_of before) rest.0 message earlier later aim all refl

-- ---- counts

pairs_counted : (ms : List Message) → length (flat_map pairs_in ms) ≡ sum_by (λ (m : Message). length m.aims) ms
pairs_counted [] = refl
pairs_counted (m ∷ ms) = length-append (pairs_in m) (flat_map pairs_in ms) ∙ (λ i. length-map m.aims (pair_of m) i + pairs_counted ms i) ∙ sym (sum_by-cons (λ (x : Message). length x.aims) m ms)

pub counts_are_all : (plans : List Plan) (history : List Step) → ((before : List Step) → AreCountedOnce before) → EachSteps plans history → CountsAreAll history
counts_are_all plans history once each before after entry is asked = record {
  each = subst (λ (cmd : LedgerCmd). IsReply plans (course_of before) cmd entry.reply) asked (each before after entry is).1.reply;
  all = once before ∙ pairs_counted (messages_of before);
}
