-- What each step on a stop word does to the seat that makes it.
use Rattle.std.specs.Prelude.{◌≡◌, ◌<◌, ◌+◌, ◌-◌, ◌||◌, ℕ, true, false, [], Option, Some, None}
use Rattle.atomic_table.specs.Table.{Me}
use Rattle.atomic_table.specs.Seated.{TableId}
use Rattle.atomic_table.specs.declared.shared.Seat.{Seat}
use Rattle.sidecar_workers.specs.declared.reason.Reason.{Reason}
use Rattle.sidecar_workers.specs.declared.view.View.{View}
use Rattle.sidecar_workers.specs.StopRule.{has_found, has_ended}
use Rattle.sidecar_workers.specs.StopSeat.{Standing}

abbrev pub found_view : View → View
found_view v = record v { found = true }

-- one more look found the word not set
abbrev pub clear_view : View → View
clear_view v = record v { looks = v.looks + 1 }

abbrev pub ended_view : View → Reason → View
ended_view v reason = record v { ended = Some reason }

abbrev pub parent_view : View → View
parent_view v = record v { out = v.out + 1 }

abbrev pub child_view : View
child_view = record { is_root = false; found = false; looks = 0; ended = None; out = 0; out_before = 1; kept_found = false; kept_ended = false; spent = false }

abbrev pub joined_view : View → View → View
joined_view v w = record v { out = v.out - 1; out_before = v.out; kept_found = v.kept_found || has_found w; kept_ended = v.kept_ended || has_ended w }

abbrev pub spent_view : View
spent_view = record { is_root = false; found = false; looks = 0; ended = None; out = 0; out_before = 0; kept_found = false; kept_ended = false; spent = true }

abbrev pub IsAloneView : View → Type 0
IsAloneView v = (v.is_root ≡ true) × (v.out ≡ 0)

-- a load of the word: 0 where it isn't set, and then the seat had not found it set before, nor one that it met. A root that has met
-- all seats and keeps that one had found the word set keeps that one had ended
abbrev pub looked : Me (Unit {0}) View → ℕ → Me (Unit {0}) View → Type 0
looked m found m' =
    (m'.1 ≡ m.1) × (found ≡ 0 → (m'.0 ≡ clear_view m.0) × (has_found m.0 ≡ false)) × (0 < found → m'.0 ≡ found_view m.0)
    × (0 < m.0.out_before) × (IsAloneView m'.0 → has_found m'.0 ≡ true → has_ended m'.0 ≡ true)

-- a store of 1, for the reason that the caller picks
abbrev pub halted : Option Reason → Me (Unit {0}) View → ℕ → Me (Unit {0}) View → Type 0
halted why m found m' = (m'.1 ≡ m.1) × ((reason : Reason) → why ≡ Some reason → m'.0 ≡ ended_view m.0 reason)

-- a view as contracts see its seat
abbrev pub shown : TableId → View → Standing
shown table v = record { table = table; is_root = v.is_root; found = v.found; looks = v.looks; ended = v.ended; out = v.out; kept_found = v.kept_found; kept_ended = v.kept_ended }

abbrev pub standing : Seat (Unit {0}) View → Standing
standing token = shown token.table_id token.me.0

-- a seat at rest
pub record Rests (token : Seat (Unit {0}) View) : Type 0 where
  pub lives : token.me.0.spent ≡ false
  pub bare : token.me.1 ≡ []
