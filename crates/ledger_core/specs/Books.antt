-- What the books of a ledger hold.
use Rattle.std.specs.Prelude.{◌≡◌, ℕ, ◌+◌, ◌==◌, ◌<◌, ◌≤◌, ◌*◌, ◌^◌, List, [], ◌∷◌, length, Option, Some, None, option_map, unwrap_or, IsTrue, if◌then◌else◌}
use Rattle.std.specs.FinMap.{find, put, is_sorted}
use Rattle.retry_core.specs.RetryRun.{run_after}
use Rattle.ledger_core.specs.declared.place.Place.{Place}
use Rattle.ledger_core.specs.declared.plan.Plan.{Plan}
use Rattle.ledger_core.specs.declared.books.Books.{Books}
use Rattle.ledger_core.specs.Place.{place_order}
use Rattle.ledger_core.specs.Plan.{plan_at}
use Rattle.ledger_core.specs.Row.{Row, Entry}
use Rattle.ledger_core.specs.Standing.{Standing}
use Rattle.ledger_core.specs.Course.{Course, count_of, is_owed, is_done, is_dropped, is_dead, bytes_in, standing_at, is_waiting}

-- what is kept of a row, by the plan of its subscription
abbrev pub row_for : List Plan → Standing → Row
row_for plans s = record {
  path = unwrap_or s.pair.path [];
  event = s.pair.event;
  hops = s.pair.hops;
  attempt = length s.words + 1;
  run = option_map (λ policy. run_after policy s.words) (plan_at plans s.pair.sub).retry;
  dead = (plan_at plans s.pair.sub).dead;
}

-- by what number a pair stands among the rows that wait, and among those that are held
abbrev pub waiting_slot : Standing → Option ℕ
waiting_slot s = if is_waiting s then Some s.due else None

abbrev pub held_slot : Standing → Option ℕ
held_slot s = if is_owed s.status then s.claim else None

-- a row with the number by which it stands
abbrev pub numbered : Row → Option ℕ → Option (ℕ × Row)
numbered row None = None
numbered row (Some number) = Some (number, row)

abbrev pub slotted : List Plan → (Standing → Option ℕ) → Option Standing → Option (ℕ × Row)
slotted plans slot None = None
slotted plans slot (Some s) = numbered (row_for plans s) (slot s)

abbrev pub row_at : ℕ → Option (ℕ × Row) → Option Row
row_at at None = None
row_at at (Some placed) = if placed.0 == at then Some placed.1 else None

-- the entries are the rows of these pairs, each at its number
abbrev pub IsIndex : List Plan → (Standing → Option ℕ) → List Standing → List Entry → Type 0
IsIndex plans slot book entries =
    (at number sub : ℕ) → find place_order (record { at = at; no = number; sub = sub }) entries ≡ row_at at (slotted plans slot (standing_at number sub book))

-- the books are those of a course
pub record Shows (plans : List Plan) (course : Course) (books : Books) : Type 0 where
  pub made : books.made ≡ course.made
  pub claims : books.claims ≡ course.claims
  pub waiting : IsIndex plans waiting_slot course.book books.waiting
  pub held : IsIndex plans held_slot course.book books.held
  pub owed : books.owed ≡ count_of is_owed course.book
  pub done : books.done ≡ count_of is_done course.book
  pub dropped : books.dropped ≡ count_of is_dropped course.book
  pub dead : books.dead ≡ count_of is_dead course.book
  pub bytes : books.bytes ≡ bytes_in course.book

-- the trees of the books are in order
pub record AreSorted (books : Books) : Type 0 where
  pub waiting : IsTrue (is_sorted place_order books.waiting)
  pub held : IsTrue (is_sorted place_order books.held)

-- no rows, and nothing counted
abbrev pub empty_books : Books
empty_books = record { waiting = []; held = []; made = 0; claims = 0; owed = 0; done = 0; dropped = 0; dead = 0; bytes = 0 }

-- the entries with further ones
abbrev pub put_all : List Entry → List Entry → List Entry
put_all [] entries = entries
put_all (entry ∷ more) entries = put_all more (put place_order entry.0 entry.1 entries)

abbrev pub moved_to : ℕ → Place → Place
moved_to at place = record { at = at; no = place.no; sub = place.sub }

-- the counters are far from the ends of their types, and the rows from what a tree may have
pub record HasRoom (books : Books) : Type 0 where
  pub rows : length books.waiting + length books.held + 2 ^ 64 ≤ 2 ^ 126
  pub made : books.made < 2 ^ 63
  pub claims : books.claims < 2 ^ 63
  pub done : books.done < 2 ^ 127
  pub dead : books.dead < 2 ^ 127
  pub dropped : books.dropped < 2 ^ 127
  pub owed : books.owed ≤ 65536
  pub bytes : books.bytes ≤ 268435456

-- the counters and the rows after so many commands
pub record IsBounded (used : ℕ) (books : Books) : Type 0 where
  pub rows : length books.waiting + length books.held ≤ used * 2 ^ 64
  pub made : books.made ≤ used
  pub claims : books.claims ≤ used
  pub done : books.done ≤ used
  pub dead : books.dead ≤ used
  pub dropped : books.dropped ≤ used * 2 ^ 64
  pub owed : books.owed ≤ 65536
  pub bytes : books.bytes ≤ 268435456
