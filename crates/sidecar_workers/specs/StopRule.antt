-- The rule of a stop word: it is set where a seat has found it set, and only where a seat has ended.
use Rattle.std.specs.Prelude.{◌≡◌, ◌<◌, ◌+◌, ◌||◌, ◌==◌, ℕ, Bool, true, false, List, length, slice_index, sum_by, is_some, None}
use mathlib.Core.Option.{some}
use lib.ListN.{get_elem?}
use Rattle.atomic_table.specs.Table.{State}
use Rattle.sidecar_workers.specs.declared.view.View.{View}

-- the view of the first seat
abbrev pub opening_view : View
opening_view = record { is_root = true; found = false; looks = 0; ended = None; out = 0; out_before = 1; kept_found = false; kept_ended = false; spent = false }

-- 1 where the seat was not met
abbrev pub one_unless : Bool → ℕ
one_unless true = 0
one_unless false = 1

abbrev pub alive : View → ℕ
alive v = one_unless v.spent

-- the seat, or one that it met, has found the word set
abbrev pub has_found : View → Bool
has_found v = v.found || v.kept_found

-- the seat, or one that it met, has ended
abbrev pub has_ended : View → Bool
has_ended v = is_some v.ended || v.kept_ended

-- some seat that was not met has ended, or met one that had
pub record Cause (views : List View) : Type 0 where
  pub j : ℕ
  pub v : View
  pub at : get_elem? views j ≡ some v
  pub lives : alive v ≡ 1
  pub ended : has_ended v ≡ true

pub record StopRule (s : State (Unit {0}) View) : Type 0 where
  pub wide : length s.words ≡ 1
  pub has_root : 0 < length s.views
  pub rooted : (j : ℕ) (v : View) → get_elem? s.views j ≡ some v → alive v ≡ 1 → v.is_root ≡ (j == 0)
  pub root : (v : View) → get_elem? s.views 0 ≡ some v → (alive v ≡ 1) × (sum_by alive s.views ≡ v.out + 1)
  pub met_out : (j : ℕ) (v : View) → get_elem? s.views j ≡ some v → alive v ≡ 1 → 0 < v.out_before
  pub shown : (j : ℕ) (v : View) → get_elem? s.views j ≡ some v → alive v ≡ 1 → has_found v ≡ true → 0 < slice_index s.words 0
  pub caused : 0 < slice_index s.words 0 → Cause s.views
