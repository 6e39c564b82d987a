-- Serving as a whole.
use Rattle.std.specs.Prelude.{◌≡◌, ◌≤◌, ◌<◌, ℕ, true, List, [], ◌∷◌, length, map, All, IsSome, Option, refl}
use Rattle.std.proofs.Common.{◌∙◌, ap, sym, subst, inl, inr, arith}
use Rattle.std.proofs.Math.Nat.{eq-or-lt_of_le}
use Rattle.std.proofs.lemmas.List.{length-map}
use Rattle.std.proofs.lemmas.List.Elements.{All-cons, All-head, All-nil, All-tail}
use Rattle.rand_core.specs.Stream.{Stream}
use Rattle.side_world.specs.declared.outside.OutsideCall.{OutsideCall}
use Rattle.side_world.specs.Faults.{Rose}
use Rattle.side_world.specs.Told.{Tells}
use Rattle.side_world.proofs.Composed.{tells_nothing}
use Rattle.sidecar_core.specs.declared.config.Config.{Config}
use Rattle.sidecar_objects.specs.Kind.{CellsAt, Kinds}
use Rattle.sidecar_objects.specs.Passes.{IsSoundPass}
use Rattle.sidecar_serving.specs.declared.end.End.{End}
use Rattle.sidecar_serving.specs.declared.end.End.TheVariants as ended
use Rattle.sidecar_serving.specs.declared.opening.Unopened.{Unopened}
use Rattle.sidecar_serving.specs.declared.opening.Unopened.TheVariants as lack
use Rattle.sidecar_serving.specs.Ending.{end_of, end_without}
use Rattle.sidecar_serving.specs.Met.{AreMet, HubAt, failed_in, nobody, reason_in, spent_in, stopped_in}
use Rattle.sidecar_serving.specs.Opened.{AreWorkers, HasWorked, IsAskedUpTo, IsOpened, WorkerAt, worker_calls}
use Rattle.sidecar_objects.specs.Passes.{IsRootPass}
use Rattle.sidecar_serving.specs.Passes.{root_pass}
use Rattle.sidecar_serving.specs.Served.{IsServed, IsUnopened, WereMet, unopened, went}
use Rattle.sidecar_serving.proofs.Passes.{root_pass_is}

-- what holds of each item holds of what it becomes
all_mapped : {X Y : Type 0} (f : X → Y) (P : Y → Type 0) (xs : List X) → All (λ x. P (f x)) xs → All P (map f xs)
all_mapped f P [] all = All-nil P
all_mapped f P (x ∷ xs) all = All-cons P (f x) (map f xs) (All-head (λ z. P (f z)) x xs all) (all_mapped f P xs (All-tail (λ z. P (f z)) x xs all))

were_met : {X O : Type 0} (config : Config) (kinds : Kinds O) (cells : CellsAt O) (words : List Stream) (worker : X → WorkerAt O) (opened slots : List X) (at mid after : HubAt O) → length slots ≡ length opened
    → mid.seats ≡ root_pass (length opened) cells → mid.backs ≡ at.backs → mid.faults ≡ at.faults → AreWorkers (HasWorked config kinds cells) 0 words (map worker slots) → AreMet kinds cells (map worker slots) mid after → IsRootPass 0 cells after.seats → (0 < length slots → IsSoundPass kinds cells after.seats)
    → WereMet config kinds cells words (map worker slots) at after
were_met config kinds cells words worker opened slots at mid after wide root backs faults each met lone sound =
    let count : length opened ≡ length (map worker slots) = sym wide ∙ sym (length-map slots worker) in record {
      each = each;
      met = subst (λ hub. AreMet kinds cells (map worker slots) hub after) (λ i. record { seats = (root ∙ ap (λ n. root_pass n cells) count) i; backs = backs i; faults = faults i }) met;
      lone = lone;
      sound = λ low. sound (subst (λ n. 0 < n) (length-map slots worker) low);
    }

pub went_served : {X O : Type 0} (config : Config) (kinds : Kinds O) (cells : CellsAt O) (port : ℕ) (words : List Stream) (worker : X → WorkerAt O) (opened ran left : List X) (calls between calls' : Option (List OutsideCall)) (at mid after : HubAt O) (end : End)
    → left ≡ ran → length ran ≡ length opened → length opened ≡ length words → AreWorkers (HasWorked config kinds cells) 0 words (map worker ran) → All (λ x. IsSome (worker x).ended) ran → (many : ℕ) → many ≡ length words → Tells calls between (worker_calls port many) → calls' ≡ between
    → mid.seats ≡ root_pass (length opened) cells → mid.backs ≡ at.backs → mid.faults ≡ at.faults
    → AreMet kinds cells (map worker left) mid after → IsRootPass 0 cells after.seats → (0 < length left → IsSoundPass kinds cells after.seats) → (stopped_in (map worker left) ≡ true → reason_in (map worker left) ≡ true) → end ≡ end_of (spent_in (map worker left)) (failed_in (map worker left))
    → IsServed config kinds cells port words calls calls' at after end
went_served config kinds cells port words worker opened ran left calls between calls' at mid after end same wide count each all many many-is told still root backs faults met lone sound stopped ends =
    went (map worker ran) (length-map ran worker ∙ wide ∙ count)
    (were_met config kinds cells words worker opened ran at mid after wide root backs faults each (subst (λ l. AreMet kinds cells (map worker l) mid after) same met) lone (subst (λ l. 0 < length l → IsSoundPass kinds cells after.seats) same sound))
    (all_mapped worker (λ w. IsSome w.ended) ran all)
    (subst (λ l. stopped_in (map worker l) ≡ true → reason_in (map worker l) ≡ true) same stopped)
    (subst (λ c. Tells calls c (worker_calls port (length words))) (sym still) (subst (λ n. Tells calls between (worker_calls port n)) many-is told))
    (subst (λ l. end ≡ end_of (spent_in (map worker l)) (failed_in (map worker l))) same ends)

is_unopened : (u : Unopened) (end : End) → end ≡ end_without u → IsUnopened end
is_unopened lack.Failed end is = inl is
is_unopened lack.NoMemory end is = inr is

was_failed : (u : Unopened) → end_without u ≡ ended.OutsideFailed → u ≡ lack.Failed
was_failed lack.Failed e = refl
was_failed lack.NoMemory e = absurd (cc)

rose_first : (a b c : ℕ) → a ≤ b → Rose a b → b ≤ c → Rose a c
rose_first a b c low (inl less) later = inl (omega (arith, less, later))
rose_first a b c low (inr top) later = elim (eq-or-lt_of_le later) [ inl same ↦ inr (sym same ∙ top) | inr less ↦ inl (omega (arith, low, less)) ]

pub unopened_served : {X O : Type 0} (config : Config) (kinds : Kinds O) (cells : CellsAt O) (port : ℕ) (words : List Stream) (worker : X → WorkerAt O) (opened : List X) (calls between calls' : Option (List OutsideCall)) (at mid after : HubAt O) (u : Unopened) (end : End) (asked : ℕ)
    → length opened ≤ length words → IsAskedUpTo (length words) (length opened) asked → AreWorkers (HasWorked config kinds cells) 0 words (map worker opened) → AreWorkers (IsOpened cells) 0 words (map worker opened) → Tells calls between (worker_calls port asked) → calls' ≡ between
    → mid.seats ≡ root_pass (length opened) cells → at.faults ≤ mid.faults → mid.faults ≤ after.faults → (u ≡ lack.Failed → Rose at.faults mid.faults) → end ≡ end_without u
    → AreMet kinds cells (map worker opened) mid after → IsRootPass 0 cells after.seats → (0 < length opened → IsSoundPass kinds cells after.seats) → IsServed config kinds cells port words calls calls' at after end
unopened_served config kinds cells port words worker opened calls between calls' at mid after u end asked few few-asked each opens told still root low high failed ends met lone sound =
    unopened (map worker opened) asked mid (subst (λ n. n ≤ length words) (sym (length-map opened worker)) few) (subst (λ n. IsAskedUpTo (length words) n asked) (sym (length-map opened worker)) few-asked)
    (were_met config kinds cells words worker opened opened mid mid after refl root refl refl each met lone sound) opens
    (subst (λ c. Tells calls c (worker_calls port asked)) (sym still) told) (λ e. rose_first at.faults mid.faults after.faults low (failed (was_failed u (sym ends ∙ e))) high) (is_unopened u end ends)

-- no memory for any
pub none_served : {O : Type 0} (config : Config) (kinds : Kinds O) (cells : CellsAt O) (port : ℕ) (words : List Stream) (calls : Option (List OutsideCall)) (at : HubAt O) → at.seats ≡ root_pass 0 cells → IsServed config kinds cells port words calls calls at at ended.NoMemory
none_served config kinds cells port words calls at root = unopened [] 0 at (omega arith) (omega arith, omega arith, omega arith) (record {
  each = tt;
  met = subst (λ s. AreMet kinds cells [] (record at { seats = s }) at) root (nobody at);
  lone = (subst (λ s. IsRootPass 0 cells s) (sym root) (root_pass_is cells 0));
  sound = λ low. absurd (omega (arith, low));
}) tt (tells_nothing calls) (λ e. absurd (cc)) (inr refl)
