-- A run of calls on anything that holds items on a disk, what they acknowledge, and what a crash at some moment of it leaves.
use Rattle.std.specs.Prelude.{◌≡◌, ◌⊎◌, ◌≤◌, ℕ, List, [], ◌∷◌, ◌++◌, length, take, Option, Some, None}
use Rattle.side_world.specs.declared.disk.Disk.{Ghosts}
use Rattle.disk_journal.specs.Moments.{AtEachMoment}
use Rattle.disk_journal.specs.OneMore.{AtMostOneMore}

module _ {X : Type 0} where
  -- what a call acknowledged: an item, or none
  abbrev pub item_of : Option X → List X
  item_of None = []
  item_of (Some item) = item ∷ []

  -- the items that some calls acknowledged, in order
  abbrev pub acknowledged : List (Option X) → List X
  acknowledged [] = []
  acknowledged (answer ∷ answers) = item_of answer ++ acknowledged answers

-- it is so of these items, then those that the first of some calls acknowledged, then at most one more
pub record OfRun {X : Type 0} (P : List X → Type 0) (items : List X) (answers : List (Option X)) : Type 0 where
  pub count : ℕ
  pub within : count ≤ length answers
  pub found : AtMostOneMore P (items ++ acknowledged (take count answers))

-- what is held after an item that was not acknowledged: what was, and in doubt is what was, or nothing, or that item
abbrev pub HoldsAsBefore : {S X : Type 0} → (S → List X → Option X → Type 0) → S → List X → Option X → X → Type 0
HoldsAsBefore Holds state items doubt item = Holds state items doubt ⊎ Holds state items None ⊎ Holds state items (Some item)

-- The disk of a state, which items a state holds, with one in doubt, and which items a file says.
module _ {D S X : Type 0} (disking : Ghosts D) (disk : S → D) (Holds : S → List X → Option X → Type 0) (Says : List ℕ → List X → Type 0) where
  -- A call with this answer: what was held is then held, and what was acknowledged. A crash at any moment of the call leaves what was held,
  -- and at most one more.
  pub record IsCall (old new : S) (answer : Option X) : Type 0 where
    pub holds : (items : List X) (doubt : Option X) → Holds old items doubt → (then : Option X) × Holds new (items ++ item_of answer) then
    pub moments : (items : List X) (doubt : Option X) → Holds old items doubt → AtEachMoment disking (disk old) (disk new) (λ bytes. AtMostOneMore (Says bytes) items)

  -- calls with these answers lead from one state to another
  abbrev pub Leads : S → List (Option X) → S → Type 0
  Leads old [] new = new ≡ old
  Leads old (answer ∷ answers) new = (mid : S) × IsCall old mid answer × Leads mid answers new

  -- Some items were held. A crash at some moment behind the first calls, and before the end of those behind them, may leave this.
  pub record IsLeftByRun (items : List X) (front back : List (Option X)) (c : List ℕ) : Type 0 where
    pub first : S
    pub mid : S
    pub last : S
    pub doubt : Option X
    pub holds : Holds first items doubt
    pub before : Leads first front mid
    pub behind : Leads mid back last
    pub bytes : List ℕ
    pub told : disking.contents (disk mid) ≡ Some bytes
    pub left : disking.left_since (disk last) (disking.moment (disk mid)) c

  -- between these calls and those behind them, and at each moment of the latter, a crash leaves what was held, what was acknowledged, and at most one more
  abbrev pub LeavesWhatWasMade : S → S → S → List (Option X) → List (Option X) → List X → Option X → Type 0
  LeavesWhatWasMade first mid last front back items doubt =
      Leads first front mid → Leads mid back last → Holds first items doubt → AtEachMoment disking (disk mid) (disk last) (λ bytes. OfRun (Says bytes) (items ++ acknowledged front) back)

  -- this is so of each run, where a disk tells what a crash in it may have left
  abbrev pub AfterACrash : {E : Type 0} → (other : Ghosts E) → E → (List X → List (Option X) → List (Option X) → Type 0) → Type 0
  AfterACrash other found Then = (items : List X) (front back : List (Option X)) (c : List ℕ) → IsLeftByRun items front back c → other.contents found ≡ Some c → Then items front back
