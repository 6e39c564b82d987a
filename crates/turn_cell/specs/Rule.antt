-- The rule of a cell's table. Word 6 is the next ticket, word 7 the ticket that is served, and slot 0 has the object.
use Rattle.std.specs.Prelude.{◌≡◌, ◌≢◌, ◌⊎◌, ℕ, ◌+◌, ◌^◌, ◌<◌, ◌≤◌, min, ◌==◌, List, [], ◌∷◌, ◌++◌, length, sum_by, All, Option, Some, IsSome}
use mathlib.Core.Option.{some}
use mathlib.Core.List.{IsPrefix}
use lib.ListN.{get_elem?}
use Rattle.atomic_table.specs.Table.{State}
use Rattle.turn_cell.specs.declared.entry.Entry.{Entry}
use Rattle.turn_cell.specs.declared.object.Object.{Ghosts}
use Rattle.turn_cell.specs.declared.view.Stage.{Stage}
use Rattle.turn_cell.specs.declared.view.Stage.TheVariants.{Idle, Glanced, Waiting, InTurn, Decided, Spent}
use Rattle.turn_cell.specs.declared.view.View.{View}
use Rattle.turn_cell.specs.History.{entries_of, IsLegal}

-- the words of a table: the two that count stand beside each other, on a cache line that no other memory shares
abbrev pub laid : ℕ → ℕ → List ℕ
laid ticket serving = 0 ∷ 0 ∷ 0 ∷ 0 ∷ 0 ∷ 0 ∷ ticket ∷ serving ∷ 0 ∷ 0 ∷ 0 ∷ 0 ∷ 0 ∷ 0 ∷ 0 ∷ 0 ∷ []

module _ {C R : Type 0} where
  -- 1 where the seat has read that tickets are left, and not drawn
  abbrev pub glancing : Stage C R → ℕ
  glancing Idle = 0
  glancing Glanced = 1
  glancing (Waiting _) = 0
  glancing (InTurn _) = 0
  glancing (Decided _ _) = 0
  glancing Spent = 0

  -- 1 where the seat holds a ticket
  abbrev pub holding : Stage C R → ℕ
  holding Idle = 0
  holding Glanced = 0
  holding (Waiting _) = 1
  holding (InTurn _) = 1
  holding (Decided _ _) = 1
  holding Spent = 0

  -- 1 where the object is with the seat
  abbrev pub working : Stage C R → ℕ
  working Idle = 0
  working Glanced = 0
  working (Waiting _) = 0
  working (InTurn _) = 1
  working (Decided _ _) = 1
  working Spent = 0

  -- 1 where the seat wasn't met
  abbrev pub living : Stage C R → ℕ
  living Idle = 1
  living Glanced = 1
  living (Waiting _) = 1
  living (InTurn _) = 1
  living (Decided _ _) = 1
  living Spent = 0

-- what the stage of the seat j says: of its ticket whose it is and that it is between the words, and in its turn that it has seen all
module _ {O C R : Type 0} (object : Ghosts O C R) (first : O) (log : List (Entry C R)) (owner : ℕ → ℕ) (ticket serving j : ℕ) (seen : List (Entry C R)) where
  abbrev pub Knows : Stage C R → Type 0
  Knows Idle = Unit {0}
  Knows Glanced = Unit {0}
  Knows (Waiting n) = (owner n ≡ j) × (serving ≤ n) × (n < ticket)
  Knows (InTurn n) = (owner n ≡ j) × (n ≡ serving) × (n < ticket) × (seen ≡ log)
  Knows (Decided n entry) = (owner n ≡ j) × (n ≡ serving) × (n < ticket) × (seen ≡ log) × (n < 2 ^ 62) × (entry.seat ≡ j) × IsLegal object first (log ++ entry ∷ [])
  Knows Spent = Unit {0}

-- a seat that wasn't met. One that shows a count is between two calls, since it draws no ticket any more
pub record Sits {O C R : Type 0} (object : Ghosts O C R) (first : O) (log : List (Entry C R)) (owner : ℕ → ℕ) (ticket serving j : ℕ) (v : View O C R) : Type 0 where
  pub first_is : v.first ≡ Some first
  pub number_is : v.number ≡ j
  pub root_is : v.is_root ≡ (j == 0)
  pub plain : j ≢ 0 → (v.made ≡ 0) × (v.out ≡ 0) × (v.met ≡ [])
  pub has_seen : IsPrefix v.seen log
  pub has_kept : IsPrefix v.kept log
  pub own : entries_of j log ≡ v.mine
  pub own_seen : entries_of j v.seen ≡ v.mine
  pub count : (n : ℕ) → v.count ≡ Some n → (2 ^ 62 ≤ n) × (n ≤ ticket)
  pub rests : IsSome v.count → v.stage ≡ Idle
  pub knows : Knows object first log owner ticket serving j v.seen v.stage

module _ {O C R : Type 0} where
  abbrev pub IsSpentAt : List (View O C R) → ℕ → Type 0
  IsSpentAt views j = (v : View O C R) → get_elem? views j ≡ some v → living v.stage ≡ 0

-- what the root tells of a seat that it met
pub record IsMet {O C R : Type 0} (views : List (View O C R)) (log : List (Entry C R)) (root : View O C R) (pair : ℕ × List (Entry C R)) : Type 0 where
  pub made : pair.0 < length views
  pub gone : IsSpentAt views pair.0
  pub all : entries_of pair.0 log ≡ pair.1
  pub seen : (entries_of pair.0 root.seen ≡ pair.1) ⊎ (entries_of pair.0 root.kept ≡ pair.1)

pub record Rooted {O C R : Type 0} (views : List (View O C R)) (log : List (Entry C R)) (root : View O C R) : Type 0 where
  pub lives : living root.stage ≡ 1
  pub made : root.made ≡ length views
  pub out : root.out + 1 ≡ sum_by (λ v. living v.stage) views
  pub parts : root.made ≡ root.out + length root.met + 1
  pub met : All (IsMet views log root) root.met

-- some seat has seen the whole history, or keeps it from a seat that it joins
pub record Holder {O C R : Type 0} (views : List (View O C R)) (log : List (Entry C R)) : Type 0 where
  pub j : ℕ
  pub v : View O C R
  pub at : get_elem? views j ≡ some v
  pub lives : living v.stage ≡ 1
  pub has : (v.seen ≡ log) ⊎ (v.kept ≡ log)

-- the object is at home, and stands for the history
pub record AtHome {O C R : Type 0} (object : Ghosts O C R) (first : O) (homes : List (mathlib.Core.Option.Option (Option O))) (log : List (Entry C R)) : Type 0 where
  pub now : O
  pub there : homes ≡ some (Some now) ∷ []
  pub stands : object.stands first log now

-- the object is with a seat
pub record AtWork {O C R : Type 0} (views : List (View O C R)) : Type 0 where
  pub j : ℕ
  pub v : View O C R
  pub at : get_elem? views j ≡ some v
  pub works : working v.stage ≡ 1

pub record Rule {O C R : Type 0} (object : Ghosts O C R) (first : O) (s : State (Option O) (View O C R)) : Type 0 where
  pub log : List (Entry C R)
  pub owner : ℕ → ℕ
  pub ticket : ℕ
  pub serving : ℕ
  pub words : s.words ≡ laid ticket serving
  pub few : length s.views ≤ 65536
  pub room : ticket + sum_by (λ v. glancing v.stage) s.views ≤ 2 ^ 62 + 65536
  pub held : ticket ≡ serving + sum_by (λ v. holding v.stage) s.views
  pub legal : IsLegal object first log
  pub long : length log ≡ min serving (2 ^ 62)
  pub made : All (λ entry. entry.seat < length s.views) log
  pub each : (j : ℕ) (v : View O C R) → get_elem? s.views j ≡ some v → living v.stage ≡ 1 → Sits object first log owner ticket serving j v
  pub root : View O C R
  pub root_at : get_elem? s.views 0 ≡ some root
  pub rooted : Rooted s.views log root
  pub whole : Holder s.views log
  pub home : AtHome object first s.homes log ⊎ AtWork s.views
