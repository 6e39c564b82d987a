-- Passes that workers begin with, and passes that are met.
use Rattle.std.specs.Prelude.{◌≡◌, ◌<◌, ◌+◌, ℕ, true, List, [], ◌∷◌, map, Result, Ok, Err, IfOk, OnOk, refl}
use Rattle.std.proofs.Common.{◌∙◌, ap, sym, subst}
use Rattle.std.proofs.lemmas.List.{length-map}
use Rattle.atomic_table.proofs.Lists.{at_map}
use Rattle.turn_cell.specs.Sitting.{Begun, IsSeatOf, Sitting, child_of, parent_of}
use Rattle.turn_cell.specs.Passes.{EachRoot, EachSeat, EachSound, EachSplit, EachSplitOff, IsRootOf, IsSplitOff}
use Rattle.turn_cell.proofs.Lists.{one_place}
use Rattle.turn_cell.proofs.Passes.{each_weaker, met_roots}
use Rattle.turn_pass.specs.Pass.{MayEachSplit}
use Rattle.sidecar_objects.specs.Kind.{Kind, CellsAt, Kinds, SeatsAt, stores, ledgers, breakers, book, turns, ticks, cells_in, seats_in}
use Rattle.sidecar_objects.specs.Passes.{IsLone, IsPassOf, IsRootPass, IsSoundPass, IsSplitOffPass, MayMeet, MaySplit, MetPass, SplitPass}
use Rattle.sidecar_objects.proofs.ByKind.{by_kind}
use Rattle.sidecar_objects.proofs.Single.{one_seat, the_seat}
use Rattle.sidecar_serving.specs.Passes.{IsOwnPass, root_pass, root_seat, worker_pass, worker_seat}

module _ {O C R : Type 0} where
  -- what holds of a seat that is made of its cell holds of each
  each_mapped : (P : Begun O → Sitting O C R → Type 0) (f : Begun O → Sitting O C R) → ((cell : Begun O) → P cell (f cell)) → (cells : List (Begun O)) → EachSeat P cells (map f cells)
  each_mapped P f holds cells = record {
    wide = length-map cells f;
    each = λ k cell seat at here. subst (P cell) (one_place (map f cells) k (f cell) seat (at_map f cells k cell at) here) (holds cell);
  }

  may_split : (n : ℕ) (cells : List (Begun O)) (roots : List (Sitting O C R)) → n + 1 < 65536 → roots ≡ map (root_seat n) cells → MayEachSplit cells roots
  may_split n cells roots few is = subst (λ l. MayEachSplit cells l) (sym is) (each_mapped (λ cell seat. IsSeatOf cell seat × (seat.is_root ≡ true) × (seat.made < 65536)) (root_seat n) (λ cell. ((refl, refl), refl, few)) cells)

  split_root : (n : ℕ) (cells : List (Begun O)) (roots after pass : List (Sitting O C R)) → roots ≡ map (root_seat n) cells → EachSplit roots after pass → (after ≡ map (root_seat (n + 1)) cells) × (pass ≡ map (worker_seat n) cells)
  split_root n cells roots after pass is split = (split.0 ∙ ap (map parent_of) is ∙ map-map (root_seat n) parent_of cells, split.1 ∙ ap (map child_of) is ∙ map-map (root_seat n) child_of cells)
    where
      map-map : {A B D : Type 0} (f : A → B) (g : B → D) (xs : List A) → map g (map f xs) ≡ map (λ x. g (f x)) xs
      map-map f g [] = refl
      map-map f g (x ∷ xs) = ap (λ l. g (f x) ∷ l) (map-map f g xs)

  roots_are : (n : ℕ) (cells : List (Begun O)) → EachRoot n cells (map (root_seat {O = O} {C = C} {R = R} n) cells)
  roots_are n cells = each_mapped (IsRootOf n) (root_seat n) (λ cell. ((refl, refl), refl, refl)) cells

  workers_are : (n : ℕ) (cells : List (Begun O)) → EachSplitOff cells (map (worker_seat {O = O} {C = C} {R = R} n) cells)
  workers_are n cells = each_mapped IsSplitOff (worker_seat n) (λ cell. ((refl, refl), refl)) cells

-- the only one of a list
only_one : {A : Type 0} (a b : A) → a ∷ [] ≡ b ∷ [] → a ≡ b
only_one a b e = cc

-- a worker's own pass is one of the cells
pub own_pass : {O : Type 0} (cells : CellsAt O) (seats : SeatsAt O) → IsPassOf cells seats → IsOwnPass cells seats
own_pass cells seats of = record { stores = of.each stores; ledgers = of.each ledgers; breakers = of.each breakers; notes = the_seat cells.notes seats.notes _ (of.each book); turns = the_seat cells.turns seats.turns _ (of.each turns); ticks = the_seat cells.ticks seats.ticks _ (of.each ticks) }

pub pass_owned : {O : Type 0} (cells : CellsAt O) (seats : SeatsAt O) → IsOwnPass cells seats → IsPassOf cells seats
pass_owned cells seats own = record { each = by_kind _ own.stores own.ledgers own.breakers (one_seat cells.notes seats.notes _ own.notes) (one_seat cells.turns seats.turns _ own.turns) (one_seat cells.ticks seats.ticks _ own.ticks) }

module _ {O : Type 0} (cells : CellsAt O) where
  -- of each kind the seats of these passes are made of their cells
  root_in : (n : ℕ) (kind : Kind) → seats_in (root_pass n cells) kind ≡ map (root_seat n) (cells_in cells kind)
  root_in n = by_kind _ refl refl refl refl refl refl

  worker_in : (n : ℕ) (kind : Kind) → seats_in (worker_pass n cells) kind ≡ map (worker_seat n) (cells_in cells kind)
  worker_in n = by_kind _ refl refl refl refl refl refl

  pub root_pass_is : (n : ℕ) → IsRootPass n cells (root_pass n cells)
  root_pass_is n = record { each = λ kind. subst (λ l. EachRoot n (cells_in cells kind) l) (sym (root_in n kind)) (roots_are n (cells_in cells kind)) }

  pub worker_pass_is : (n : ℕ) → IsSplitOffPass cells (worker_pass n cells)
  worker_pass_is n = record { each = λ kind. subst (λ l. EachSplitOff (cells_in cells kind) l) (sym (worker_in n kind)) (workers_are n (cells_in cells kind)) }

  -- seats that were split off are seats of the cells
  pub split_off_of : (seats : SeatsAt O) → IsSplitOffPass cells seats → IsPassOf cells seats
  split_off_of seats is = record { each = λ kind. each_weaker IsSplitOff IsSeatOf (cells_in cells kind) (seats_in seats kind) (λ cell seat h. h.0) (is.each kind) }

  pub may_meet : (n : ℕ) (seats : SeatsAt O) → IsRootPass n cells seats → MayMeet cells seats
  may_meet n seats is = record { each = λ kind. each_weaker (IsRootOf n) _ (cells_in cells kind) (seats_in seats kind) (λ cell seat h. (h.0, h.1)) (is.each kind) }

  -- a pass that is alone is one of the cells
  pub lone_pass : (seats : SeatsAt O) → IsLone cells seats → IsPassOf cells seats
  lone_pass seats is = record { each = λ kind. each_weaker (IsRootOf 0) IsSeatOf (cells_in cells kind) (seats_in seats kind) (λ cell seat h. h.0) (is.each kind) }

  -- a root that met a seat has one fewer out, and is sound
  pub root_met : (kinds : Kinds O) (n : ℕ) (root other after : SeatsAt O) → IsRootPass (n + 1) cells root → IsSplitOffPass cells other → MetPass kinds cells root other after → IsRootPass n cells after × IsSoundPass kinds cells after
  root_met kinds n root other after roots off met = (record { each = λ kind. (met_in kind).0 }, record { each = λ kind. (met_in kind).1 })
    where
      met_in : (kind : Kind) → EachRoot n (cells_in cells kind) (seats_in after kind) × EachSound (kinds kind) (cells_in cells kind) (seats_in after kind)
      met_in kind = met_roots (kinds kind) (cells_in cells kind) (seats_in root kind) (seats_in other kind) n (seats_in after kind) (roots.each kind) (off.each kind) (met.each kind)

  -- the pass of the root seats may be split
  pub root_may_split : (n : ℕ) (roots : SeatsAt O) → n + 1 < 65536 → roots ≡ root_pass n cells → MaySplit cells roots
  root_may_split n roots few is = record { each = λ kind. may_split n (cells_in cells kind) (seats_in roots kind) few (ap (λ r. seats_in r kind) is ∙ root_in n kind) }

  -- and was
  pub pass_split : {X E : Type 0} (n : ℕ) (result : Result X E) (of : X → SeatsAt O) (roots after : SeatsAt O) → roots ≡ root_pass n cells → IfOk result (λ x. SplitPass roots after (of x))
      → OnOk result (after ≡ root_pass (n + 1) cells) × IfOk result (λ x. of x ≡ worker_pass n cells)
  pass_split n (Err e) of roots after is split = (tt, tt)
  pass_split n (Ok x) of roots after is split = (
    λ i. record { stores = (split_in stores).0 i; ledgers = (split_in ledgers).0 i; breakers = (split_in breakers).0 i; notes = only_one _ _ (split_in book).0 i; turns = only_one _ _ (split_in turns).0 i; ticks = only_one _ _ (split_in ticks).0 i },
    λ i. record { stores = (split_in stores).1 i; ledgers = (split_in ledgers).1 i; breakers = (split_in breakers).1 i; notes = only_one _ _ (split_in book).1 i; turns = only_one _ _ (split_in turns).1 i; ticks = only_one _ _ (split_in ticks).1 i },
  )
    where
      split_in : (kind : Kind) → (seats_in after kind ≡ map (root_seat (n + 1)) (cells_in cells kind)) × (seats_in (of x) kind ≡ map (worker_seat n) (cells_in cells kind))
      split_in kind = split_root n (cells_in cells kind) (seats_in roots kind) (seats_in after kind) (seats_in (of x) kind) (ap (λ r. seats_in r kind) is ∙ root_in n kind) (split.each kind)
