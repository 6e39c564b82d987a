-- What an entry makes of a course.
use Rattle.std.specs.Prelude.{◌≡◌, ◌<◌, ◌≤◌, ◌^◌, ℕ, ◌+◌, ◌||◌, true, List, [], ◌∷◌, ◌++◌, map, length, Option, Some, None, if◌then◌else◌}
use Rattle.std.specs.List.{flat_map}
use Rattle.ledger_core.specs.declared.place.Place.{Place}
use Rattle.ledger_core.specs.declared.plan.Aim.{Aim}
use Rattle.ledger_core.specs.declared.plan.Plan.{Plan}
use Rattle.ledger_core.specs.declared.books.Books.{Books}
use Rattle.ledger_core.specs.declared.command.LedgerCmd.{LedgerCmd}
use Rattle.ledger_core.specs.declared.command.LedgerCmd.TheVariants.{Accept, Settle}
use Rattle.ledger_core.specs.declared.reply.LedgerReply.{LedgerReply}
use Rattle.ledger_core.specs.declared.reply.LedgerReply.TheVariants.{Accepted, Dead}
use Rattle.ledger_core.specs.Row.{Row, Entry}
use Rattle.ledger_core.specs.Tree.{without}
use Rattle.ledger_core.specs.Standing.{Status, dropped, settles, takes, status_in, status_by, claim_by, due_by, words_by, Standing}
use Rattle.ledger_core.specs.Course.{Course, is_claim, is_owed, standing_at, held_at}
use Rattle.ledger_core.specs.Reply.{IsReply}
use Rattle.ledger_core.specs.Books.{row_for, waiting_slot, Shows, AreSorted, IsBounded}

-- ---- pairs that were there

abbrev pub settled_status : Option (List ℕ) → LedgerReply → Status
settled_status None reply = dropped
settled_status (Some path) reply = status_by reply

abbrev pub moved : LedgerCmd → LedgerReply → Standing → Standing
moved cmd reply s = record {
  pair = s.pair;
  status = if settles s.pair.no s.pair.sub cmd reply then settled_status s.pair.path reply else s.status;
  claim = if takes s.pair.no s.pair.sub cmd reply || settles s.pair.no s.pair.sub cmd reply then claim_by reply else s.claim;
  due = if settles s.pair.no s.pair.sub cmd reply then due_by s.pair.moment cmd reply else s.due;
  words = if settles s.pair.no s.pair.sub cmd reply then words_by cmd reply ++ s.words else s.words;
}

-- ---- pairs of a new message

abbrev pub fresh_one : ℕ → List ℕ → ℕ → ℕ → Aim → Standing
fresh_one number event hops now aim = record {
  pair = record { no = number; sub = aim.sub; path = aim.path; event = event; hops = hops; moment = now };
  status = status_in aim.path None;
  claim = None;
  due = now;
  words = [];
}

abbrev pub fresh : ℕ → List ℕ → ℕ → ℕ → List Aim → List Standing
fresh number event hops now aims = map (fresh_one number event hops now) aims

abbrev pub letters : ℕ → List Aim → ℕ → Option Standing → List Standing
letters number aims now None = []
letters number aims now (Some s) = fresh number s.pair.event (s.pair.hops + 1) now aims

abbrev pub fresh_by : Course → LedgerCmd → LedgerReply → List Standing
fresh_by course (Accept event aims now) (Accepted number) = fresh (course.made + 1) event 0 now aims
fresh_by course (Settle number sub claim finish now word dead_aims) (Dead new) = letters (course.made + 1) dead_aims now (standing_at number sub course.book)
fresh_by course cmd reply = []

abbrev pub one_if : {X : Type 0} → Option X → ℕ
one_if None = 0
one_if (Some x) = 1

abbrev pub added_by : Course → LedgerCmd → LedgerReply → ℕ
added_by course (Accept event aims now) (Accepted number) = 1
added_by course (Settle number sub claim finish now word dead_aims) (Dead new) = one_if (standing_at number sub course.book)
added_by course cmd reply = 0

abbrev pub course_after : Course → LedgerCmd → LedgerReply → Course
course_after course cmd reply = record {
  made = course.made + added_by course cmd reply;
  claims = course.claims + (if is_claim reply then 1 else 0);
  book = map (moved cmd reply) course.book ++ fresh_by course cmd reply;
}

-- the rows of new pairs
abbrev pub entry_at : List Plan → Standing → Option ℕ → List Entry
entry_at plans s None = []
entry_at plans s (Some number) = (record { at = number; no = s.pair.no; sub = s.pair.sub }, row_for plans s) ∷ []

abbrev pub entries_for : List Plan → List Standing → List Entry
entries_for plans book = flat_map (λ s. entry_at plans s (waiting_slot s)) book

-- ---- what is so of every course

-- no pair has the message and the subscription of another
abbrev pub AreDistinct : List Standing → Type 0
AreDistinct [] = Unit {0}
AreDistinct (s ∷ book) = (standing_at s.pair.no s.pair.sub book ≡ None) × AreDistinct book

pub record IsBook (course : Course) : Type 0 where
  pub numbered : (number sub : ℕ) (s : Standing) → standing_at number sub course.book ≡ Some s → number ≤ course.made
  pub pathed : (number sub : ℕ) (s : Standing) → standing_at number sub course.book ≡ Some s → is_owed s.status ≡ true → (path : List ℕ) × (s.pair.path ≡ Some path)
  pub distinct : AreDistinct course.book
  pub short : (number sub : ℕ) (s : Standing) → standing_at number sub course.book ≡ Some s → length s.words < 2 ^ 63

-- the reply to a command, and the books after it
pub record IsStepOf (plans : List Plan) (course : Course) (cmd : LedgerCmd) (reply : LedgerReply) (after : Books) : Type 0 where
  pub reply_is : IsReply plans course cmd reply
  pub shows : Shows plans (course_after course cmd reply) after

abbrev pub Answers : List Plan → Books → Books → LedgerCmd → LedgerReply → Type 0
Answers plans before after cmd reply = (course : Course) → IsBook course → Shows plans course before → IsStepOf plans course cmd reply after

-- the row of a pair was taken out of the books, and is the one in hand
pub record InHand (plans : List Plan) (course : Course) (place : Place) (row : Row) (s : Standing) (books : Books) : Type 0 where
  pub before : Books
  pub shows : Shows plans course before
  pub there : held_at place.at place.no place.sub course.book ≡ Some s
  pub row_is : row ≡ row_for plans s
  pub books_are : books ≡ record before { held = without place before.held }

-- one command more keeps the trees in order and the counters bounded
pub record Grows (before after : Books) : Type 0 where
  pub bounded : (used : ℕ) → IsBounded used before → IsBounded (used + 1) after
  pub sorted : AreSorted after
