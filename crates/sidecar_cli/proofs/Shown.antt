-- Counts of exhausted cells that seats show: the root that meets a seat shows one too, and goes on to show it.
use Rattle.std.specs.Prelude.{◌≡◌, ℕ, suc, List, [], ◌∷◌, ◌++◌, length, Option, Some, None, refl}
use Rattle.std.proofs.Common.{◌∙◌, ap, sym, subst, arith}
use Rattle.std.proofs.lemmas.List.{length-map}
use Rattle.turn_cell.specs.declared.object.Object.{Ghosts}
use Rattle.turn_cell.specs.Sitting.{Begun, Sitting, Meets, either_count}
use Rattle.turn_cell.specs.Passes.{EachMet}
use Rattle.turn_cell.proofs.Lists.{in_range, there}
use Rattle.rand_core.specs.Stream.{Stream}
use Rattle.sidecar_core.specs.declared.config.Config.{Config}
use Rattle.sidecar_objects.specs.Kind.{CellsAt, Kind, Kinds, SeatsAt, cells_in, seats_in}
use Rattle.sidecar_objects.proofs.ByKind.{by_kind}
use Rattle.sidecar_objects.specs.Shown.{Shows, ShowsAt}
use Rattle.sidecar_serving.specs.Met.{AreMet, HubAt, IsMet, nobody, one}
use Rattle.sidecar_serving.specs.Opened.{AreWorkers, HasWorked, WorkerAt}
use Rattle.sidecar_objects.specs.Passes.{MetPass}
use Rattle.sidecar_serving.specs.Passes.{root_pass, root_seat, worker_pass, worker_seat}
use Rattle.sidecar_cli.proofs.Serves.{met_nobody}

either_later : (one other : Option ℕ) (count : ℕ) → other ≡ Some count → (shown : ℕ) × (either_count one other ≡ Some shown)
either_later None other count is = (count, is)
either_later (Some n) other count is = (n, refl)

module _ {O C R : Type 0} (object : Ghosts O C R) where
  -- one seat
  keeps_one : (first : O) (root other after : Sitting O C R) → Meets object first root other after → (count : ℕ) → root.count ≡ Some count → after.count ≡ Some count
  keeps_one first root other after meets count shown = ap (λ s. s.count) meets.whole ∙ ap (λ c. either_count c other.count) shown

  takes_one : (first : O) (root other after : Sitting O C R) → Meets object first root other after → (count : ℕ) → other.count ≡ Some count → (shown : ℕ) × (after.count ≡ Some shown)
  takes_one first root other after meets count is = let e = either_later root.count other.count count is in (e.0, ap (λ s. s.count) meets.whole ∙ e.1)

  module _ (cells : List (Begun O)) (roots others after : List (Sitting O C R)) (met : EachMet object cells roots others after) (wide : length roots ≡ length cells) (also : length others ≡ length cells) where
    -- what a root shows
    keeps_shown : (k count : ℕ) → ShowsAt k count roots → ShowsAt k count after
    keeps_shown k count (root, here, shown) =
        let low = in_range roots k root here in
        let same = met.wide in
        let cell = there cells k (omega (arith, low, wide)) in
        let other = there others k (omega (arith, low, wide, also)) in
        let seat = there after k (omega (arith, low, same)) in
        (seat.0, seat.1, keeps_one cell.0.first root other.0 seat.0 (met.each k cell.0 root other.0 seat.0 cell.1 here other.1 seat.1) count shown)

    -- what the seat shows that it meets, or what it showed before
    takes_shown : (k count : ℕ) → ShowsAt k count others → (shown : ℕ) × ShowsAt k shown after
    takes_shown k count (other, here, shown) =
        let low = in_range others k other here in
        let same = met.wide in
        let cell = there cells k (omega (arith, low, also)) in
        let root = there roots k (omega (arith, low, wide, also)) in
        let seat = there after k (omega (arith, low, same, wide, also)) in
        let taken = takes_one cell.0.first root.0 other seat.0 (met.each k cell.0 root.0 other seat.0 cell.1 root.1 here seat.1) count shown in
        (taken.0, (seat.0, seat.1, taken.1))

-- ---- whole passes

-- as many seats of each kind as cells
pub record IsAsWide {O : Type 0} (cells : CellsAt O) (seats : SeatsAt O) : Type 0 where
  pub each : (kind : Kind) → length (seats_in seats kind) ≡ length (cells_in cells kind)

module _ {O : Type 0} (kinds : Kinds O) (cells : CellsAt O) where
  pub wide_root : (out : ℕ) → IsAsWide cells (root_pass out cells)
  wide_root out = record { each = by_kind _ (length-map cells.stores (root_seat out)) (length-map cells.ledgers (root_seat out)) (length-map cells.breakers (root_seat out)) refl refl refl }

  wide_worker : (number : ℕ) → IsAsWide cells (worker_pass number cells)
  wide_worker number = record { each = by_kind _ (length-map cells.stores (worker_seat number)) (length-map cells.ledgers (worker_seat number)) (length-map cells.breakers (worker_seat number)) refl refl refl }

  wide_worked : (config : Config) (number : ℕ) (words : Stream) (w : WorkerAt O) → HasWorked config kinds cells number words w → IsAsWide cells w.reached.at.seats
  wide_worked config number words w worked =
      let start = subst (IsAsWide cells) (sym worked.pass) (wide_worker number) in
      let went = worked.done.went in
      record { each = λ kind. (went.grew kind).wide ∙ start.each kind }

  module _ (root other after : SeatsAt O) (met : MetPass kinds cells root other after) (wide : IsAsWide cells root) where
    wide_met : IsAsWide cells after
    wide_met = record { each = λ kind. (met.each kind).wide ∙ wide.each kind }

    module _ (also : IsAsWide cells other) where
      keeps : (count : ℕ) → Shows root count → Shows after count
      keeps count shows = record {
        kind = shows.kind;
        place = shows.place;
        shown = keeps_shown (kinds shows.kind) (cells_in cells shows.kind) (seats_in root shows.kind) (seats_in other shows.kind) (seats_in after shows.kind) (met.each shows.kind) (wide.each shows.kind) (also.each shows.kind) shows.place count shows.shown;
      }

      takes : (count : ℕ) → Shows other count → (read : ℕ) × Shows after read
      takes count shows =
          let t = takes_shown (kinds shows.kind) (cells_in cells shows.kind) (seats_in root shows.kind) (seats_in other shows.kind) (seats_in after shows.kind) (met.each shows.kind) (wide.each shows.kind) (also.each shows.kind) shows.place count shows.shown in
          (t.0, record { kind = shows.kind; place = shows.place; shown = t.1 })

  -- ---- workers that were met, one after the other

  -- the first of them was met last
  met_first : (w : WorkerAt O) (workers : List (WorkerAt O)) (at after : HubAt O) → AreMet kinds cells (w ∷ workers) at after → (between : HubAt O) × AreMet kinds cells workers at between × IsMet kinds cells w between after
  met_first _ _ _ _ (one w workers at between after behind met) = (between, behind, met)

  -- a worker was met behind those that stand behind it, and before those that stand before it
  pub record IsMetAmong (before : List (WorkerAt O)) (w : WorkerAt O) (behind : List (WorkerAt O)) (at after : HubAt O) : Type 0 where
    pub met : HubAt O
    pub left : HubAt O
    pub first : AreMet kinds cells behind at met
    pub this : IsMet kinds cells w met left
    pub later : AreMet kinds cells before left after

  pub met_among : (before : List (WorkerAt O)) (w : WorkerAt O) (behind : List (WorkerAt O)) (at after : HubAt O) → AreMet kinds cells (before ++ w ∷ behind) at after → IsMetAmong before w behind at after
  met_among [] w behind at after all = let f = met_first w behind at after all in record { met = f.0; left = after; first = f.1; this = f.2; later = nobody after }
  met_among (x ∷ before) w behind at after all =
      let f = met_first x (before ++ w ∷ behind) at after all in
      let m = met_among before w behind at f.0 f.1 in
      record { met = m.met; left = m.left; first = m.first; this = m.this; later = one x before m.left f.0 after m.later f.2 }

  -- each has as many seats as there are cells
  abbrev pub AllWide : List (WorkerAt O) → Type 0
  AllWide [] = Unit {0}
  AllWide (w ∷ workers) = IsAsWide cells w.reached.at.seats × AllWide workers

  pub all_wide_worked : (config : Config) (number : ℕ) (words : List Stream) (workers : List (WorkerAt O)) → AreWorkers (HasWorked config kinds cells) number words workers → AllWide workers
  all_wide_worked config number words [] each = tt
  all_wide_worked config number [] (w ∷ workers) each = absurd each
  all_wide_worked config number (stream ∷ words) (w ∷ workers) each = (wide_worked config number stream w each.0, all_wide_worked config (suc number) words workers each.1)

  wide_split : (before : List (WorkerAt O)) (w : WorkerAt O) (behind : List (WorkerAt O)) → AllWide (before ++ w ∷ behind) → AllWide before × IsAsWide cells w.reached.at.seats × AllWide behind
  wide_split [] w behind wide = (tt, wide.0, wide.1)
  wide_split (x ∷ before) w behind wide = let s = wide_split before w behind wide.1 in ((wide.0, s.0), s.1, s.2)

  wide_after : (workers : List (WorkerAt O)) (at after : HubAt O) → AreMet kinds cells workers at after → IsAsWide cells at.seats → IsAsWide cells after.seats
  wide_after [] at after all wide = subst (λ (hub : HubAt O). IsAsWide cells hub.seats) (sym (met_nobody kinds cells [] at after refl all)) wide
  wide_after (w ∷ workers) at after all wide =
      let f = met_first w workers at after all in
      wide_met f.0.seats w.reached.at.seats after.seats f.2.passes (wide_after workers at f.0 f.1 wide)

  keep_all : (workers : List (WorkerAt O)) (at after : HubAt O) → AreMet kinds cells workers at after → AllWide workers → IsAsWide cells at.seats → (count : ℕ) → Shows at.seats count → Shows after.seats count
  keep_all [] at after all wides wide count shows = subst (λ (hub : HubAt O). Shows hub.seats count) (sym (met_nobody kinds cells [] at after refl all)) shows
  keep_all (w ∷ workers) at after all wides wide count shows =
      let f = met_first w workers at after all in
      keeps f.0.seats w.reached.at.seats after.seats f.2.passes (wide_after workers at f.0 f.1 wide) wides.0 count (keep_all workers at f.0 f.1 wides.1 wide count shows)

  -- where a seat of a worker shows a count, one of the pass that met all does
  pub shown_after : (before : List (WorkerAt O)) (w : WorkerAt O) (behind : List (WorkerAt O)) (at after : HubAt O) → AreMet kinds cells (before ++ w ∷ behind) at after → AllWide (before ++ w ∷ behind) → IsAsWide cells at.seats → (count : ℕ) → Shows w.reached.at.seats count → (read : ℕ) × Shows after.seats read
  shown_after before w behind at after all wides wide count shows =
      let m = met_among before w behind at after all in
      let s = wide_split before w behind wides in
      let here = wide_after behind at m.met m.first wide in
      let t = takes m.met.seats w.reached.at.seats m.left.seats m.this.passes here s.1 count shows in
      (t.0, keep_all before m.left after m.later s.0 (wide_met m.met.seats w.reached.at.seats m.left.seats m.this.passes here) t.0 t.1)
