-- Workers that are met one after the other, the last one first.
use Rattle.std.specs.Prelude.{◌≡◌, ◌<◌, ◌||◌, ℕ, suc, Bool, true, false, List, [], ◌∷◌, ◌++◌, length, map, is_some, All, Option, Some, None, refl}
use Rattle.std.specs.Option.{option_or}
use Rattle.std.proofs.Common.{◌∙◌, ap, sym, subst, arith, append_assoc, length-append}
use Rattle.std.proofs.lemmas.List.{append-nil, length-map, map-append}
use Rattle.std.proofs.lemmas.List.Elements.{All-pop}
use Rattle.atomic_table.specs.Seated.{TableId}
use Rattle.sidecar_workers.specs.declared.exit.Exit.{Exit}
use Rattle.sidecar_objects.specs.Kind.{CellsAt, Kinds}
use Rattle.sidecar_objects.specs.Passes.{IsSoundPass}
use Rattle.sidecar_workers.specs.StopSeat.{HasEnded, HasFound, HasMet, Standing, joined, looked_as, root_of}
use Rattle.sidecar_serving.specs.Ending.{has_reason, is_failed, is_stopped, spent_by}
use Rattle.sidecar_serving.specs.Met.{AreMet, HubAt, IsMet, failed_in, nobody, one, reason_in, spent_in, stopped_in}
use Rattle.sidecar_serving.specs.Opened.{WorkerAt}
use Rattle.sidecar_objects.specs.Passes.{IsRootPass, IsSplitOffPass, MayMeet}
use Rattle.sidecar_serving.proofs.Passes.{may_meet, root_met}

or_false : (a : Bool) → (a || false) ≡ a
or_false true = refl
or_false false = refl

or_swap : (a b : Bool) → (a || b) ≡ (b || a)
or_swap true true = refl
or_swap true false = refl
or_swap false true = refl
or_swap false false = refl

or_left : (a b : Bool) → a ≡ true → (a || b) ≡ true
or_left true b e = refl
or_left false b e = absurd (cc)

or_right : (a b : Bool) → b ≡ true → (a || b) ≡ true
or_right true b e = refl
or_right false b e = e

either_true : (a b c : Bool) → (a || b) ≡ true → (a ≡ true → c ≡ true) → (b ≡ true → c ≡ true) → c ≡ true
either_true true b c e left right = left refl
either_true false b c e left right = right e

-- the root seat of a stop word, of which so many others are not met yet; it keeps whether one that was met had ended, and finds the word set where one had found it
pub record IsRootSeat (stop : TableId) (left : ℕ) (had-reason was-stopped : Bool) (seat : Standing) : Type 0 where
  pub table : seat.table ≡ stop
  pub root : seat.is_root ≡ true
  pub out : seat.out ≡ left
  pub goes_on : seat.ended ≡ None
  pub reasons : seat.kept_ended ≡ had-reason
  pub stops : was-stopped ≡ true → HasFound seat
  pub cause : seat.out ≡ 0 → HasFound seat → HasEnded seat

pub root_seat_is : (stop : TableId) (out : ℕ) → IsRootSeat stop out false false (record (root_of stop) { out = out })
root_seat_is stop out = record { table = refl; root = refl; out = refl; goes_on = refl; reasons = refl; stops = λ e. absurd (cc); cause = λ none found. absurd (let f : false ≡ true = found in cc) }

looked_root : (found : Bool) (s : Standing) → ((looked_as found s).is_root ≡ s.is_root) × ((looked_as found s).table ≡ s.table) × ((looked_as found s).out ≡ s.out) × ((looked_as found s).ended ≡ s.ended) × ((looked_as found s).kept_ended ≡ s.kept_ended)
looked_root true s = (refl, refl, refl, refl, refl)
looked_root false s = (refl, refl, refl, refl, refl)

found_root : (found : Bool) (s : Standing) → found ≡ true → HasFound (looked_as found s)
found_root true s e = refl
found_root false s e = absurd (cc)

-- it met one more
pub root_seat_met : (stop : TableId) (out : ℕ) (reasons stops reason stopped : Bool) (root other after : Standing) → IsRootSeat stop (suc out) reasons stops root → HasMet root other after → other.kept_ended ≡ false → is_some other.ended ≡ reason → (stopped ≡ true → other.found ≡ true) → IsRootSeat stop out (reason || reasons) (stopped || stops) after
root_seat_met stop out reasons stops reason stopped root other after is met fresh ended found =
    let looked = looked_root met.found (joined root other) in let whole = met.whole in record {
      table = ap (λ s. s.table) whole ∙ looked.1 ∙ is.table;
      root = ap (λ s. s.is_root) whole ∙ looked.0 ∙ is.root;
      out = omega (arith, ap (λ s. s.out) whole ∙ looked.2, is.out);
      goes_on = ap (λ s. s.ended) whole ∙ looked.3 ∙ is.goes_on;
      reasons = ap (λ s. s.kept_ended) whole ∙ looked.4 ∙ (λ i. is.reasons i || (ended i || fresh i)) ∙ ap (λ b. reasons || b) (or_false reason) ∙ or_swap reasons reason;
      stops = λ e. subst HasFound (sym whole) (found_root met.found (joined root other) (either_true stopped stops met.found e (λ s. met.kept (or_left other.found other.kept_found (found s))) (λ s. met.keeps (is.stops s))));
      cause = λ none has. met.cause (ap (λ s. s.is_root) whole ∙ looked.0 ∙ is.root, none) has;
    }

-- with all met: where one was stopped, one had a reason
pub stop_has_reason : (stop : TableId) (reasons stops : Bool) (seat : Standing) → IsRootSeat stop 0 reasons stops seat → stops ≡ true → reasons ≡ true
stop_has_reason stop reasons stops seat is e = sym is.reasons ∙ kept seat.ended seat.kept_ended is.goes_on (is.cause is.out (is.stops e))
  where
    kept : {X : Type 0} (ended : Option X) (kept_ended : Bool) → ended ≡ None → (is_some ended || kept_ended) ≡ true → kept_ended ≡ true
    kept None kept_ended e has = has
    kept (Some x) kept_ended e has = absurd (cc)

-- what is so of slots of which some were met
pub record MeetingSoFar {X O : Type 0} (kinds : Kinds O) (cells : CellsAt O) (stop : TableId) (worker : X → WorkerAt O) (Ready : X → Type 0) (all left : List X) (hub now : HubAt O) (seat : Standing) (spent : Option ℕ) (failed : Bool) : Type 0 where
  pub gone : List (WorkerAt O)
  pub whole : map worker all ≡ map worker left ++ gone
  pub met : AreMet kinds cells gone hub now
  pub ready : All Ready left
  pub root : IsRootPass (length left) cells now.seats
  pub sound : 0 < length gone → IsSoundPass kinds cells now.seats
  pub seated : IsRootSeat stop (length left) (reason_in gone) (stopped_in gone) seat
  pub spent_is : spent ≡ spent_in gone
  pub failed_is : failed ≡ failed_in gone

pub none_met : {X O : Type 0} (kinds : Kinds O) (cells : CellsAt O) (stop : TableId) (worker : X → WorkerAt O) (Ready : X → Type 0) (all : List X) (hub : HubAt O) (seat : Standing) → All Ready all → IsRootPass (length all) cells hub.seats → seat ≡ record (root_of stop) { out = length all }
    → MeetingSoFar kinds cells stop worker Ready all all hub hub seat None false
none_met kinds cells stop worker Ready all hub seat ready root is = record {
  gone = [];
  whole = sym (append-nil (map worker all));
  met = nobody hub;
  ready = ready;
  root = root;
  sound = λ e. absurd (omega (arith, e));
  seated = subst (λ s. IsRootSeat stop (length all) false false s) (sym is) (root_seat_is stop (length all));
  spent_is = refl;
  failed_is = refl;
}

pub one_met : {X O : Type 0} (kinds : Kinds O) (cells : CellsAt O) (stop : TableId) (worker : X → WorkerAt O) (Ready : X → Type 0) (all left left' : List X) (hub now after : HubAt O) (seat other seat' : Standing) (spent : Option ℕ) (failed : Bool) (slot : X)
    → left ≡ left' ++ slot ∷ [] → All Ready left' → IsMet kinds cells (worker slot) now after → IsSplitOffPass cells (worker slot).reached.at.seats → HasMet seat other seat' → other.kept_ended ≡ false → is_some other.ended ≡ has_reason (worker slot).ended → (is_stopped (worker slot).ended ≡ true → other.found ≡ true)
    → MeetingSoFar kinds cells stop worker Ready all left hub now seat spent failed → MeetingSoFar kinds cells stop worker Ready all left' hub after seat' (option_or (spent_by (worker slot).ended) spent) (is_failed (worker slot).ended || failed)
one_met kinds cells stop worker Ready all left left' hub now after seat other seat' spent failed slot is ready met off met-seat fresh ended found so =
    let wide : length left ≡ suc (length left') = omega (arith, ap length is, length-append left' (slot ∷ [])) in
    let roots = root_met cells kinds (length left') now.seats (worker slot).reached.at.seats after.seats (subst (λ n. IsRootPass n cells now.seats) (omega (arith, wide)) so.root) off met.passes in record {
      gone = worker slot ∷ so.gone;
      whole = so.whole ∙ ap (λ l. map worker l ++ so.gone) is ∙ ap (λ l. l ++ so.gone) (map-append worker left' (slot ∷ [])) ∙ append_assoc (map worker left') (worker slot ∷ []) so.gone;
      met = one (worker slot) so.gone hub now after so.met met;
      ready = ready;
      root = roots.0;
      sound = λ e. roots.1;
      seated = root_seat_met stop (length left') (reason_in so.gone) (stopped_in so.gone) (has_reason (worker slot).ended) (is_stopped (worker slot).ended) seat other seat' (subst (λ n. IsRootSeat stop n (reason_in so.gone) (stopped_in so.gone) seat) wide so.seated) met-seat fresh ended found;
      spent_is = ap (λ s. option_or (spent_by (worker slot).ended) s) so.spent_is;
      failed_is = ap (λ f. is_failed (worker slot).ended || f) so.failed_is;
    }

-- all were met
pub record AllMet {X O : Type 0} (kinds : Kinds O) (cells : CellsAt O) (worker : X → WorkerAt O) (all : List X) (hub now : HubAt O) (spent : Option ℕ) (failed : Bool) : Type 0 where
  pub met : AreMet kinds cells (map worker all) hub now
  pub lone : IsRootPass 0 cells now.seats
  pub sound : 0 < length all → IsSoundPass kinds cells now.seats
  pub stopped : stopped_in (map worker all) ≡ true → reason_in (map worker all) ≡ true
  pub spent_is : spent ≡ spent_in (map worker all)
  pub failed_is : failed ≡ failed_in (map worker all)

pub all_met : {X O : Type 0} (kinds : Kinds O) (cells : CellsAt O) (stop : TableId) (worker : X → WorkerAt O) (Ready : X → Type 0) (all left : List X) (hub now : HubAt O) (seat : Standing) (spent : Option ℕ) (failed : Bool) → left ≡ [] → MeetingSoFar kinds cells stop worker Ready all left hub now seat spent failed → AllMet kinds cells worker all hub now spent failed
all_met kinds cells stop worker Ready all left hub now seat spent failed none so =
    let same : map worker all ≡ so.gone = so.whole ∙ ap (λ l. map worker l ++ so.gone) none in let wide : length left ≡ 0 = ap length none in record {
      met = subst (λ l. AreMet kinds cells l hub now) (sym same) so.met;
      lone = subst (λ n. IsRootPass n cells now.seats) wide so.root;
      sound = λ low. so.sound (subst (λ n. 0 < n) (sym (length-map all worker) ∙ ap length same) low);
      stopped = subst (λ l. stopped_in l ≡ true → reason_in l ≡ true) (sym same) (stop_has_reason stop (reason_in so.gone) (stopped_in so.gone) seat (subst (λ n. IsRootSeat stop n (reason_in so.gone) (stopped_in so.gone) seat) wide so.seated));
      spent_is = so.spent_is ∙ ap spent_in (sym same);
      failed_is = so.failed_is ∙ ap failed_in (sym same);
    }

-- the last slot is ready, and so are those before it
pub ready_last : {X O : Type 0} {kinds : Kinds O} {cells : CellsAt O} {stop : TableId} {worker : X → WorkerAt O} {Ready : X → Type 0} {all left : List X} {hub now : HubAt O} {seat : Standing} {spent : Option ℕ} {failed : Bool} (left' : List X) (slot : X)
    → left ≡ left' ++ slot ∷ [] → MeetingSoFar kinds cells stop worker Ready all left hub now seat spent failed → All Ready left' × Ready slot
ready_last {Ready = Ready} {left = left} left' slot is so = All-pop Ready left left' (Some slot) is so.ready

-- the roots may meet what was split off
pub may_be_met : {X O : Type 0} {kinds : Kinds O} {cells : CellsAt O} {stop : TableId} {worker : X → WorkerAt O} {Ready : X → Type 0} {all left : List X} {hub now : HubAt O} {seat : Standing} {spent : Option ℕ} {failed : Bool} → MeetingSoFar kinds cells stop worker Ready all left hub now seat spent failed → MayMeet cells now.seats
may_be_met {cells = cells} {left = left} {now = now} so = may_meet cells (length left) now.seats so.root

-- one more was met, by what was said of its exit
pub one_met_as : {X O : Type 0} (kinds : Kinds O) (cells : CellsAt O) (stop : TableId) (worker : X → WorkerAt O) (Ready : X → Type 0) (all left left' : List X) (hub now after : HubAt O) (seat other seat' : Standing) (spent said spent' : Option ℕ) (failed fell failed' : Bool) (exit : Option Exit) (slot : X)
    → left ≡ left' ++ slot ∷ [] → All Ready left' → IsMet kinds cells (worker slot) now after → IsSplitOffPass cells (worker slot).reached.at.seats → HasMet seat other seat' → other.kept_ended ≡ false → is_some other.ended ≡ has_reason (worker slot).ended → (is_stopped (worker slot).ended ≡ true → other.found ≡ true)
    → exit ≡ (worker slot).ended → said ≡ spent_by exit → spent' ≡ option_or said spent → fell ≡ is_failed exit → failed' ≡ (fell || failed)
    → MeetingSoFar kinds cells stop worker Ready all left hub now seat spent failed → MeetingSoFar kinds cells stop worker Ready all left' hub after seat' spent' failed'
one_met_as kinds cells stop worker Ready all left left' hub now after seat other seat' spent said spent' failed fell failed' exit slot is ready met off met-seat fresh ended found exit-is said-is spent-is fell-is failed-is so =
    subst (λ z. MeetingSoFar kinds cells stop worker Ready all left' hub after seat' z failed') (sym (spent-is ∙ ap (λ s. option_or s spent) (said-is ∙ ap spent_by exit-is)))
    (subst (λ z. MeetingSoFar kinds cells stop worker Ready all left' hub after seat' (option_or (spent_by (worker slot).ended) spent) z) (sym (failed-is ∙ ap (λ f. f || failed) (fell-is ∙ ap is_failed exit-is)))
    (one_met kinds cells stop worker Ready all left left' hub now after seat other seat' spent failed slot is ready met off met-seat fresh ended found so))

-- a list of no items
pub empty_of : {X : Type 0} (l : List X) → length l ≡ 0 → l ≡ []
empty_of [] e = refl
empty_of (x ∷ l) e = absurd (omega (arith, e))
