-- Workers that were opened and have run.
use Rattle.std.specs.Prelude.{◌≡◌, ◌≢◌, ◌<◌, ℕ, suc, true, false, List, [], ◌∷◌, length, map, slice_index_or, is_some, All, IsSome, Option, Some, None, refl}
use Rattle.std.proofs.Common.{◌∙◌, ap, sym, subst, arith}
use Rattle.std.proofs.lemmas.List.Elements.{All-cons, All-nil}
use Rattle.atomic_table.specs.Seated.{TableId}
use Rattle.rand_core.specs.Stream.{Stream}
use Rattle.rand_core.specs.declared.Rng.{Ghosts as Draws}
use Rattle.keeper_core.specs.declared.keeper.Keeper.{Ghosts as Keeps}
use Rattle.side_world.specs.declared.acceptor.Acceptor.{Ghosts as Accepts}
use Rattle.side_world.specs.declared.clock.Clock.{Ghosts as Times}
use Rattle.side_world.specs.declared.link.Link.{Ghosts as Asks}
use Rattle.side_world.specs.declared.sink.Sink.{Ghosts as Writes}
use Rattle.side_world.specs.declared.source.Source.{Ghosts as Reads}
use Rattle.side_world.specs.Answer.{Answer}
use Rattle.side_world.specs.Told.{IsFresh}
use Rattle.state_core.specs.declared.store.Store.{Store}
use Rattle.sidecar_core.specs.declared.config.Config.{Config}
use Rattle.sidecar_core.specs.declared.shared.Shared.{Shared}
use Rattle.sidecar_objects.specs.Composed.{did_nothing, split_off_stays}
use Rattle.sidecar_objects.specs.Kind.{CellsAt, Kinds}
use Rattle.sidecar_objects.specs.Did.{Standing}
use Rattle.sidecar_objects.specs.Pass.{cells_of}
use Rattle.sidecar_workers.specs.declared.exit.Exit.{Exit}
use Rattle.sidecar_workers.specs.declared.exit.Exit.TheVariants as exits
use Rattle.sidecar_workers.specs.declared.slot.Slot.{Slot}
use Rattle.sidecar_workers.specs.declared.work.Work.{Ghosts as Works}
use Rattle.sidecar_workers.specs.Slots.{HasRun}
use Rattle.sidecar_workers.specs.declared.work.Owed.{Owed}
use Rattle.sidecar_workers.specs.declared.work.Owed.TheVariants as owed
use Rattle.sidecar_workers.specs.Works.{reason_of}
use Rattle.sidecar_serving.specs.declared.due.Due.{Due}
use Rattle.sidecar_serving.specs.declared.due.Due.TheVariants as dues
use Rattle.sidecar_serving.specs.declared.serving.Serving.{Serving}
use Rattle.sidecar_serving.specs.Ending.{has_reason, is_stopped}
use Rattle.sidecar_serving.specs.Opened.{AreWorkers, HasWorked, IsOpened, WorkerAt}
use Rattle.sidecar_objects.specs.Passes.{IsSplitOffPass}
use Rattle.sidecar_serving.specs.Slots.{IsOpenedSlot, IsReadySlot, worker_at}
use Rattle.sidecar_serving.specs.Worker.{HasDone, HasExit, IsNewDue, Reached, Worked, nothing, owed_of}
use Rattle.sidecar_serving.proofs.Passes.{worker_pass_is}

-- a list that tells nothing but was told is empty
told_nothing : {X : Type 0} (told : Option (List X)) (all : List X) → IsFresh told → told ≡ Some all → all ≡ []
told_nothing None all fresh is = absurd (cc)
told_nothing (Some held) all fresh is = same is ∙ fresh
  where
    same : Some held ≡ Some all → all ≡ held
    same e = cc

-- a worker that was just opened has done nothing
pub has_begun : {O : Type 0} (config : Config) (kinds : Kinds O) (cells : CellsAt O) (fresh : Type 0) (reached : Reached O) → fresh → IsFresh reached.told → reached.exit ≡ None → HasDone config kinds cells reached.at owed.Nothing fresh reached
has_begun config kinds cells fresh reached new unaccepted goes_on = record {
  events = [];
  went = did_nothing kinds cells reached.at;
  worked = λ answers is. subst (λ l. Worked config l [] reached.exit) (sym (told_nothing reached.told answers unaccepted is)) (subst (λ e. Worked config [] [] e) (sym goes_on) nothing);
  new = new;
  shown = λ count is. absurd (none_ended count (sym goes_on ∙ is));
}
  where
    none_ended : (count : ℕ) → None ≡ Some (exits.Spent count) → ⊥
    none_ended count e = absurd (cc)

-- what a worker has done is the same where nothing is owed
done_free : {O : Type 0} (config config' : Config) (kinds : Kinds O) (cells cells' : CellsAt O) (start : Standing O) (owes : Owed) (fresh : Type 0) (reached : Reached O) → owes ≡ owed.Nothing → config' ≡ config → cells' ≡ cells → HasDone config' kinds cells' start owes fresh reached → HasDone config kinds cells start owed.Nothing (Unit {0}) reached
done_free config config' kinds cells cells' start owes fresh reached free same there done =
    let moved = subst (λ c. HasDone c kinds cells start owed.Nothing fresh reached) same (subst (λ c. HasDone config' kinds c start owed.Nothing fresh reached) there (subst (λ o. HasDone config' kinds cells' start o fresh reached) free done)) in
    record { events = moved.events; went = moved.went; worked = moved.worked; new = tt; shown = moved.shown }

due_free : {S N : Type 0} (due : Due S N) → owed_of due ≡ owed.Nothing → due ≡ dues.Nothing
due_free dues.Nothing e = refl
due_free (dues.Serve source sink) e = absurd (cc)
due_free dues.Turn e = absurd (cc)

exit_has : (ending : Exit) (told : Option (List Answer)) (faults : ℕ) (exit : Option Exit) → (ending ≢ exits.Stopped → HasExit ending told faults exit) → HasExit ending told faults exit
exit_has exits.Stopped told faults exit own = tt
exit_has exits.Asked told faults exit own = own (λ e. absurd (cc))
exit_has exits.Closed told faults exit own = own (λ e. absurd (cc))
exit_has exits.Failed told faults exit own = own (λ e. absurd (cc))
exit_has (exits.Spent count) told faults exit own = own (λ e. absurd (cc))

was_stopped : (ending : Exit) → is_stopped (Some ending) ≡ true → ending ≡ exits.Stopped
was_stopped exits.Stopped e = refl
was_stopped exits.Asked e = absurd (cc)
was_stopped exits.Closed e = absurd (cc)
was_stopped exits.Failed e = absurd (cc)
was_stopped (exits.Spent count) e = absurd (cc)

module _ {K A L C R S N : Type 0} {keeping : Keeps K} {accepts : Accepts A S N} {reads : Reads S} {writes : Writes N} {asks : Asks L} {times : Times C} {draws : Draws R} (kinds : Kinds (Store K keeping)) (stop : TableId) (shared : Shared K keeping) where
  -- one has run
  pub ran_one : (number : ℕ) (words : Stream) (old new : Slot (Serving K A L C R S N keeping accepts reads writes asks times draws)) (ending : Exit) → IsOpenedSlot stop shared number words old
      → new.exit ≡ Some ending → owed_of new.work.due ≡ owed.Nothing → new.work.shared.now ≡ old.work.shared.now
      → ((start : Standing (Store K keeping)) → HasDone old.work.shared.now.config kinds (cells_of old.work.shared.now.objects) start (owed_of old.work.due) (IsNewDue reads writes old.work.due) (worker_at old).reached
      → HasDone new.work.shared.now.config kinds (cells_of new.work.shared.now.objects) start (owed_of new.work.due) (IsNewDue reads writes new.work.due) (worker_at new).reached)
      → (ending ≢ exits.Stopped → HasExit ending (worker_at new).reached.told (worker_at new).faults (worker_at new).reached.exit) → new.number ≡ old.number
      → new.seat ≡ record old.seat { found = new.seat.found; looks = new.seat.looks; ended = reason_of ending } → (ending ≡ exits.Stopped → new.seat.found ≡ true)
      → HasWorked shared.config kinds (cells_of shared.objects) number words (worker_at new) × IsReadySlot stop shared new × IsSome new.exit
  ran_one number words old new ending opened exit free same kept own numbered seat stopped =
      let over = same ∙ opened.over in
      let waits : IsNewDue reads writes old.work.due = subst (λ d. IsNewDue reads writes d) (sym opened.due) tt in
      let begun = subst (λ o. HasDone old.work.shared.now.config kinds (cells_of old.work.shared.now.objects) (worker_at old).reached.at o (IsNewDue reads writes old.work.due) (worker_at old).reached) (sym (ap owed_of opened.due))
      (has_begun old.work.shared.now.config kinds (cells_of old.work.shared.now.objects) (IsNewDue reads writes old.work.due) (worker_at old).reached waits opened.worker.unaccepted opened.worker.goes_on) in
      let done = done_free shared.config new.work.shared.now.config kinds (cells_of shared.objects) (cells_of new.work.shared.now.objects) (worker_at old).reached.at (owed_of new.work.due) (IsNewDue reads writes new.work.due) (worker_at new).reached free (ap (λ s. s.config) over) (ap (λ s. cells_of s.objects) over) (kept (worker_at old).reached.at begun) in
      let off = split_off_stays kinds (cells_of shared.objects) (worker_at old).reached.at done.events (worker_at new).reached.at done.went (subst (λ p. IsSplitOffPass (cells_of shared.objects) p) (sym opened.worker.pass) (worker_pass_is (cells_of shared.objects) number)) in (
        record {
          start = (worker_at old).reached.at;
          numbered = numbered ∙ opened.worker.numbered;
          pass = opened.worker.pass;
          drawn = opened.worker.drawn;
          unasked = opened.worker.unasked;
          done = done;
          exit = λ e is. subst (λ x. HasExit x (worker_at new).reached.told (worker_at new).faults (worker_at new).reached.exit) (some_same ending e (sym exit ∙ is)) (exit_has ending (worker_at new).reached.told (worker_at new).faults (worker_at new).reached.exit own);
        },
        record {
          due = due_free new.work.due free;
          pass = off;
          table = ap (λ s. s.table) seat ∙ ap (λ s. s.table) opened.seat;
          branch = ap (λ s. s.is_root) seat ∙ ap (λ s. s.is_root) opened.seat;
          fresh = ap (λ s. s.kept_ended) seat ∙ ap (λ s. s.kept_ended) opened.seat;
          ended = ap (λ s. is_some s.ended) seat ∙ sym (ap has_reason exit);
          found = λ is. stopped (was_stopped ending (sym (ap is_stopped exit) ∙ is));
        },
        ap is_some exit,
      )
    where
      some_same : (a b : Exit) → Some a ≡ Some b → a ≡ b
      some_same a b e = cc

-- what holds of each after it has run
pub ran_all : {X : Type 0} (Old New : ℕ → Stream → X → Type 0) (rel : X → X → Type 0) (number : ℕ) (words : List Stream) (olds news : List X) → length news ≡ length olds → ((i : ℕ) (d : X) → i < length olds → rel (slice_index_or olds i d) (slice_index_or news i d)) → AreWorkers Old number words olds
    → ((number : ℕ) (words : Stream) (old new : X) → Old number words old → rel old new → New number words new) → AreWorkers New number words news
ran_all Old New rel number words [] [] wide each are one = tt
ran_all Old New rel number words [] (n ∷ news) wide each are one = absurd (omega (arith, wide))
ran_all Old New rel number words (o ∷ olds) [] wide each are one = absurd (omega (arith, wide))
ran_all Old New rel number [] (o ∷ olds) (n ∷ news) wide each are one = absurd are
ran_all Old New rel number (w ∷ words) (o ∷ olds) (n ∷ news) wide each are one =
    (one number w o n are.0 (each 0 o (omega arith)), ran_all Old New rel (suc number) words olds news (omega (arith, wide)) (λ i d low. each (suc i) d (omega (arith, low))) are.1 one)

-- the same of slots
pub ran_slots : {W : Type 0} (work : Works W) (Old New : ℕ → Stream → Slot W → Type 0) (number : ℕ) (words : List Stream) (olds news : List (Slot W)) → length news ≡ length olds → ((i : ℕ) (d : Slot W) → i < length olds → HasRun work (slice_index_or olds i d) (slice_index_or news i d)) → AreWorkers Old number words olds
    → ((number : ℕ) (words : Stream) (old new : Slot W) → Old number words old → HasRun work old new → New number words new) → AreWorkers New number words news
ran_slots work Old New number words olds news wide each are one = ran_all Old New (HasRun work) number words olds news wide each are one

-- and what that leads to
pub all_of : {X : Type 0} (Is : ℕ → Stream → X → Type 0) (P : X → Type 0) → ((number : ℕ) (words : Stream) (x : X) → Is number words x → P x) → (number : ℕ) (words : List Stream) (xs : List X) → AreWorkers Is number words xs → All P xs
all_of Is P leads number words [] are = All-nil P
all_of Is P leads number [] (x ∷ xs) are = absurd are
all_of Is P leads number (w ∷ words) (x ∷ xs) are = All-cons P x xs (leads number w x are.0) (all_of Is P leads (suc number) words xs are.1)

pub mapped_of : {X Y : Type 0} (Is : ℕ → Stream → X → Type 0) (Are : ℕ → Stream → Y → Type 0) (f : X → Y) → ((number : ℕ) (words : Stream) (x : X) → Is number words x → Are number words (f x)) → (number : ℕ) (words : List Stream) (xs : List X) → AreWorkers Is number words xs → AreWorkers Are number words (map f xs)
mapped_of Is Are f leads number words [] are = tt
mapped_of Is Are f leads number [] (x ∷ xs) are = absurd are
mapped_of Is Are f leads number (w ∷ words) (x ∷ xs) are = (leads number w x are.0, mapped_of Is Are f leads (suc number) words xs are.1)

-- workers that were just opened may be run
pub ready_of : {K A L C R S N : Type 0} {keeping : Keeps K} {accepts : Accepts A S N} {reads : Reads S} {writes : Writes N} {asks : Asks L} {times : Times C} {draws : Draws R} (stop : TableId) (shared : Shared K keeping) (number : ℕ) (words : List Stream) (slots : List (Slot (Serving K A L C R S N keeping accepts reads writes asks times draws)))
    → AreWorkers (IsOpenedSlot stop shared) number words slots → All (λ s. (s.seat.table ≡ stop) × (s.seat.ended ≡ None) × (owed_of s.work.due ≡ owed.Nothing) × (is_some s.work.exit ≡ false)) slots
ready_of stop shared number words slots are = all_of (IsOpenedSlot stop shared) (λ s. (s.seat.table ≡ stop) × (s.seat.ended ≡ None) × (owed_of s.work.due ≡ owed.Nothing) × (is_some s.work.exit ≡ false))
    (λ n w slot is. (ap (λ s. s.table) is.seat, ap (λ s. s.ended) is.seat, ap owed_of is.due, ap is_some is.worker.goes_on)) number words slots are

-- a worker that was just opened and did not run
pub opened_worked : {O : Type 0} (config : Config) (kinds : Kinds O) (cells : CellsAt O) (number : ℕ) (words : Stream) (w : WorkerAt O) → IsOpened cells number words w → HasWorked config kinds cells number words w
opened_worked config kinds cells number words w is = record {
  start = w.reached.at;
  numbered = is.numbered;
  pass = is.pass;
  drawn = is.drawn;
  unasked = is.unasked;
  done = has_begun config kinds cells (Unit {0}) w.reached tt is.unaccepted is.goes_on;
  exit = λ e ends. absurd (none_ended e (sym is.waits ∙ ends));
}
  where
    none_ended : (e : Exit) → None ≡ Some e → ⊥
    none_ended e h = absurd (cc)

-- it may be met
pub opened_ready : {K A L C R S N : Type 0} {keeping : Keeps K} {accepts : Accepts A S N} {reads : Reads S} {writes : Writes N} {asks : Asks L} {times : Times C} {draws : Draws R} (stop : TableId) (shared : Shared K keeping) (number : ℕ) (words : List Stream) (slots : List (Slot (Serving K A L C R S N keeping accepts reads writes asks times draws)))
    → AreWorkers (IsOpenedSlot stop shared) number words slots → All (IsReadySlot stop shared) slots
opened_ready stop shared number words slots are = all_of (IsOpenedSlot stop shared) (IsReadySlot stop shared) (λ n w slot is. record {
  due = is.due;
  pass = subst (λ p. IsSplitOffPass (cells_of shared.objects) p) (sym is.worker.pass) (worker_pass_is (cells_of shared.objects) n);
  table = ap (λ s. s.table) is.seat;
  branch = ap (λ s. s.is_root) is.seat;
  fresh = ap (λ s. s.kept_ended) is.seat;
  ended = ap (λ s. is_some s.ended) is.seat ∙ sym (ap has_reason is.worker.waits);
  found = λ stopped. absurd (never (sym (ap is_stopped is.worker.waits) ∙ stopped));
}) number words slots are
  where
    never : false ≡ true → ⊥
    never e = absurd (cc)
