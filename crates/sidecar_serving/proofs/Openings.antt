-- Workers that are opened one after the other.
use Rattle.std.specs.Prelude.{◌≡◌, ◌+◌, ℕ, suc, List, [], ◌∷◌, ◌++◌, length, map, Option, refl}
use Rattle.std.proofs.Common.{◌∙◌, ap, sym, subst, arith, append_assoc, length-append}
use Rattle.std.proofs.lemmas.List.{length-map, map-append}
use Rattle.atomic_table.specs.Seated.{TableId}
use Rattle.rand_core.specs.Stream.{Stream}
use Rattle.side_world.specs.declared.outside.OutsideCall.{OutsideCall}
use Rattle.side_world.specs.declared.outside.OutsideCall.TheVariants as call
use Rattle.side_world.specs.Told.{Tells}
use Rattle.side_world.proofs.Composed.{tells_on, tells_nothing}
use Rattle.sidecar_objects.specs.Kind.{CellsAt, SeatsAt}
use Rattle.sidecar_workers.specs.StopSeat.{Standing, parent_of, root_of}
use Rattle.sidecar_serving.specs.Opened.{AreWorkers, IsAskedUpTo, worker_calls}
use Rattle.sidecar_serving.specs.Passes.{root_pass}

-- one more behind those that are there
opened_more : {X : Type 0} (Is : ℕ → Stream → X → Type 0) (number : ℕ) (before : List Stream) (words : Stream) (rest : List Stream) (xs : List X) (x : X) → length before ≡ length xs → Is (number + length xs) words x → AreWorkers Is number (before ++ words ∷ rest) xs → AreWorkers Is number (before ++ words ∷ rest) (xs ++ x ∷ [])
opened_more Is number [] words rest [] x wide is are = (subst (λ n. Is n words x) (omega arith) is, tt)
opened_more Is number (b ∷ before) words rest (y ∷ xs) x wide is are = (are.0, opened_more Is (suc number) before words rest xs x (omega (arith, wide)) (subst (λ n. Is n words x) (omega arith) is) are.1)
opened_more Is number [] words rest (y ∷ xs) x wide is are = absurd (omega (arith, wide))
opened_more Is number (b ∷ before) words rest [] x wide is are = absurd (omega (arith, wide))

-- what is so of a list of generators of which some workers were opened
pub record OpeningSoFar {X Y O : Type 0} (cells : CellsAt O) (stop : TableId) (port : ℕ) (stream : Y → Stream) (Is : ℕ → Stream → X → Type 0) (all yielded rest : List Y) (slots : List X) (number : ℕ) (seats : SeatsAt O) (seat : Standing) (calls calls' : Option (List OutsideCall)) : Type 0 where
  pub taken : all ≡ yielded ++ rest
  pub opened : AreWorkers Is 0 (map stream all) slots
  pub count : length slots ≡ length yielded
  pub numbered : number ≡ length slots
  pub root : seats ≡ root_pass (length slots) cells
  pub seated : seat ≡ record (root_of stop) { out = length slots }
  pub told : Tells calls calls' (worker_calls port (length slots))

pub none_opened : {X Y O : Type 0} (cells : CellsAt O) (stop : TableId) (port : ℕ) (stream : Y → Stream) (Is : ℕ → Stream → X → Type 0) (all : List Y) (slots : List X) (seats : SeatsAt O) (seat : Standing) (calls : Option (List OutsideCall)) → slots ≡ [] → seats ≡ root_pass 0 cells → seat ≡ root_of stop
    → OpeningSoFar cells stop port stream Is all [] all slots 0 seats seat calls calls
none_opened cells stop port stream Is all slots seats seat calls bare root is = record {
  taken = refl;
  opened = subst (λ l. AreWorkers Is 0 (map stream all) l) (sym bare) tt;
  count = ap length bare;
  numbered = sym (ap length bare);
  root = root ∙ ap (λ n. root_pass n cells) (sym (ap length bare));
  seated = is ∙ ap (λ (n : ℕ). record (root_of stop) { out = n }) (sym (ap length bare));
  told = subst (λ n. Tells calls calls (worker_calls port n)) (sym (ap length bare)) (tells_nothing calls);
}

pub one_opened : {X Y O : Type 0} (cells : CellsAt O) (stop : TableId) (port : ℕ) (stream : Y → Stream) (Is : ℕ → Stream → X → Type 0) (all yielded : List Y) (next : Y) (rest' rest : List Y) (slots slots' : List X) (number : ℕ) (seats seats' : SeatsAt O) (seat seat' : Standing) (calls between calls' : Option (List OutsideCall)) (slot : X)
    → rest ≡ next ∷ rest' → slots' ≡ slots ++ slot ∷ [] → Is number (stream next) slot → seats' ≡ root_pass (number + 1) cells → seat' ≡ parent_of seat → Tells between calls' (call.Worker port number ∷ [])
    → OpeningSoFar cells stop port stream Is all yielded rest slots number seats seat calls between → OpeningSoFar cells stop port stream Is all (yielded ++ next ∷ []) rest' slots' (number + 1) seats' seat' calls calls'
one_opened cells stop port stream Is all yielded next rest' rest slots slots' number seats seats' seat seat' calls between calls' slot comes pushed is root parent told so =
    let wide : length slots' ≡ number + 1 = omega (arith, ap length pushed, length-append slots (slot ∷ []), so.numbered) in
    let next-is : length slots + 1 ≡ length slots' = omega (arith, wide, so.numbered) in
    let ahead : suc (length slots) ≡ length slots' = omega (arith, wide, so.numbered) in
    let taken : all ≡ yielded ++ next ∷ rest' = so.taken ∙ ap (λ l. yielded ++ l) comes in
    let streams : map stream all ≡ map stream yielded ++ stream next ∷ map stream rest' = ap (map stream) taken ∙ map-append stream yielded (next ∷ rest') in
    record {
      taken = taken ∙ sym (append_assoc yielded (next ∷ []) rest');
      opened = subst (λ l. AreWorkers Is 0 (map stream all) l) (sym pushed) (subst (λ l. AreWorkers Is 0 l (slots ++ slot ∷ [])) (sym streams)
          (opened_more Is 0 (map stream yielded) (stream next) (map stream rest') slots slot (omega (arith, length-map yielded stream, so.count)) (subst (λ n. Is n (stream next) slot) (omega (arith, so.numbered)) is) (subst (λ l. AreWorkers Is 0 l slots) streams so.opened)));
      count = omega (arith, wide, so.numbered, so.count, length-append yielded (next ∷ []));
      numbered = sym wide;
      root = root ∙ ap (λ n. root_pass n cells) (sym wide);
      seated = parent ∙ ap parent_of so.seated ∙ ap (λ (n : ℕ). record (root_of stop) { out = n }) next-is;
      told = subst (λ n. Tells calls calls' (worker_calls port n)) ahead (tells_on calls between calls' (worker_calls port (length slots)) (call.Worker port (length slots) ∷ []) so.told (subst (λ n. Tells between calls' (call.Worker port n ∷ [])) so.numbered told));
    }

-- where one more was asked for
pub one_asked : {X Y O : Type 0} (cells : CellsAt O) (stop : TableId) (port : ℕ) (stream : Y → Stream) (Is : ℕ → Stream → X → Type 0) (all yielded : List Y) (next : Y) (rest' rest : List Y) (slots : List X) (number : ℕ) (seats : SeatsAt O) (seat : Standing) (calls between calls' : Option (List OutsideCall))
    → rest ≡ next ∷ rest' → Tells between calls' (call.Worker port number ∷ []) → OpeningSoFar cells stop port stream Is all yielded rest slots number seats seat calls between → (asked : ℕ) × IsAskedUpTo (length all) (length slots) asked × Tells calls calls' (worker_calls port asked)
one_asked cells stop port stream Is all yielded next rest' rest slots number seats seat calls between calls' comes told so =
    let taken : all ≡ yielded ++ next ∷ rest' = so.taken ∙ ap (λ l. yielded ++ l) comes in (
      suc (length slots),
      (omega (arith, ap length taken, length-append yielded (next ∷ rest'), so.count), omega arith, omega arith),
      tells_on calls between calls' (worker_calls port (length slots)) (call.Worker port (length slots) ∷ []) so.told (subst (λ n. Tells between calls' (call.Worker port n ∷ [])) so.numbered told),
    )
