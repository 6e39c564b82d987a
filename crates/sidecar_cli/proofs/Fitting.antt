-- Keepers stay of the kinds of their components, and there is one for each store.
use Rattle.std.specs.Prelude.{◌≡◌, ℕ, Bool, List, [], ◌∷◌, length, map, Option, Result, Ok, Err, IfErr, refl}
use Rattle.std.proofs.Common.{suc, ap, get_or, sym, subst}
use Rattle.std.specs.List.{filter}
use Rattle.side_world.specs.declared.disk.Disk.{Ghosts as Keeps}
use Rattle.keeper_core.specs.declared.changes.Changes.{Changes}
use Rattle.keeper_core.specs.declared.keeper.Keeper.{Ghosts}
use Rattle.keeper_journal.specs.AnyKeeper.{any_leads}
use Rattle.keeper_journal.specs.declared.any_keeper.AnyKeeper.{AnyKeeper}
use Rattle.keeper_journal.specs.declared.any_keeper.AnyKeeper.TheVariants.{Memory, Journal}
use Rattle.resource_spec.specs.Component.{Loaded}
use Rattle.resource_spec.specs.declared.component.ComponentKind.{ComponentKind}
use Rattle.resource_spec.specs.declared.component.ComponentKind.TheVariants as kind
use Rattle.turn_cell.specs.Sitting.{Begun, Sitting, root_of}
use Rattle.turn_pass.specs.Pass.{AreClosed}
use Rattle.state_core.specs.declared.command.Cmd.{Cmd}
use Rattle.state_core.specs.declared.reply.Reply.{Reply}
use Rattle.state_core.specs.declared.store.Store.{Store}
use Rattle.state_core.specs.Store.{Stands, keeper_of}
use Rattle.rand_core.specs.Stream.{Stream}
use Rattle.sidecar_core.specs.declared.config.Config.{Config}
use Rattle.sidecar_objects.specs.declared.objects.Objects.{Objects}
use Rattle.sidecar_objects.specs.declared.objects.Pass.{Pass}
use Rattle.conn_serve.specs.declared.ended.Ended.{Ended}
use Rattle.sidecar_objects.specs.Composed.{lone_stays, sound_stays}
use Rattle.sidecar_objects.specs.Passes.{IsLone, IsSoundPass}
use Rattle.sidecar_objects.specs.Kind.{Kinds, SeatsAt}
use Rattle.sidecar_objects.specs.Kind as group
use Rattle.sidecar_objects.specs.Pass.{cells_of, seats_of}
use Rattle.sidecar_core.specs.Sites as sites
use Rattle.sidecar_core.specs.Started.{IsStarted}
use Rattle.sidecar_keepers.specs.Kinds.{Fits, AllFit}
use Rattle.sidecar_keepers.specs.Stores as choice
use Rattle.sidecar_serving.specs.Passes.{root_pass}
use Rattle.sidecar_words.specs.declared.given.Words.{Words}
use Rattle.sidecar_cli.specs.Play.{AreKept, IsBegun, IsDown, IsServed, lacks}
use Rattle.sidecar_cli.specs.World.{OutsideAt, WorldAt}
use Rattle.sidecar_cli.specs.declared.status.Status.{Status}
use Rattle.sidecar_cli.specs.declared.status.Status.TheVariants as ends

-- a keeper stays of its kind
pub fits_led : {D : Type 0} {disking : Keeps D} (c : Loaded) (old new : AnyKeeper D disking) (answers : List (Option Changes)) → any_leads old answers new → Fits c old → Fits c new
fits_led c (Memory old) (Memory new) answers led fits = fits
fits_led c (Journal old) (Journal new) answers led fits = fits
fits_led c (Memory old) (Journal new) answers led fits = absurd led
fits_led c (Journal old) (Memory new) answers led fits = absurd led

-- so do all that are given back
pub all_fit : {D : Type 0} {disking : Keeps D} {keeping : Ghosts (AnyKeeper D disking)}
    → ((c : Loaded) (old new : AnyKeeper D disking) (answers : List (Option Changes)) → keeping.leads old answers new → Fits c old → Fits c new)
    → (components : List Loaded) (cells : List (Begun (Store (AnyKeeper D disking) keeping))) (seats : List (Sitting (Store (AnyKeeper D disking) keeping) Cmd Reply)) (stores : List (Store (AnyKeeper D disking) keeping))
    → AreClosed (Stands keeping) cells seats stores → AllFit components (map (λ cell. keeper_of cell.first) cells) → AllFit components (map keeper_of stores)
all_fit stays [] [] [] [] closed fits = tt
all_fit stays (c ∷ cs) [] [] [] closed fits = absurd fits
all_fit stays [] (cell ∷ cells) (seat ∷ seats) (store ∷ stores) closed fits = absurd fits
all_fit stays (c ∷ cs) (cell ∷ cells) (seat ∷ seats) (store ∷ stores) closed fits = (stays c _ _ _ closed.0.commits.leads fits.0, all_fit stays cs cells seats stores closed.1 fits.1)
all_fit stays cs [] [] (store ∷ stores) closed fits = absurd closed
all_fit stays cs [] (seat ∷ seats) stores closed fits = absurd closed
all_fit stays cs (cell ∷ cells) [] stores closed fits = absurd closed
all_fit stays cs (cell ∷ cells) (seat ∷ seats) [] closed fits = absurd closed

-- as many as their components
pub all_wide : {D : Type 0} {disking : Keeps D} (components : List Loaded) (all : List (AnyKeeper D disking)) → AllFit components all → length all ≡ length components
all_wide [] [] fits = refl
all_wide (c ∷ cs) (keeper ∷ all) fits = ap suc (all_wide cs all fits.1)
all_wide [] (keeper ∷ all) fits = absurd fits
all_wide (c ∷ cs) [] fits = absurd fits

same_choice : (k : ComponentKind) → choice.is_store k ≡ sites.is_store k
same_choice kind.StateMemory = refl
same_choice kind.StateJournal = refl
same_choice kind.PubsubMemory = refl
same_choice kind.BindingHttp = refl
same_choice kind.BindingCron = refl

filter_same : {A : Type 0} (f g : A → Bool) → ((x : A) → f x ≡ g x) → (xs : List A) → filter f xs ≡ filter g xs
filter_same f g same [] = refl
filter_same f g same (x ∷ xs) = rw (same x, filter_same f g same xs) refl

-- the state components are the same by either word
pub same_stores : (components : List Loaded) → choice.stores_of components ≡ sites.stores_of components
same_stores components = filter_same _ _ (λ c. same_choice c.kind) components

-- lists of one item each are the same, and so are their items
head_same : {X : Type 0} (x y : X) → x ∷ [] ≡ y ∷ [] → x ≡ y
head_same x y same = ap (λ l. get_or l 0 x) same

module _ {D : Type 0} {disking : Keeps D} {keeping : Ghosts (AnyKeeper D disking)} where
  -- the keepers that a start was given fit the stores that it made
  pub fit_started : {config config' : Config} {keepers : List (AnyKeeper D disking)} {start : ℕ} {objects : Objects (AnyKeeper D disking) keeping} {pass : Pass (AnyKeeper D disking) keeping}
      → IsStarted config keepers start config' objects pass → AllFit (choice.stores_of config.components) keepers → AllFit (choice.stores_of config'.components) (map (λ cell. keeper_of cell.first) objects.stores.items)
  fit_started {config} {config'} {keepers} {start} {objects} started fits = subst (λ (c : Config). AllFit (choice.stores_of c.components) (map (λ cell. keeper_of cell.first) objects.stores.items)) (sym started.same) (subst (λ l. AllFit (choice.stores_of config.components) l) (sym started.stores) fits)

  -- the pass that was started has neither seen nor done anything
  pub root_started : {config config' : Config} {keepers : List (AnyKeeper D disking)} {start : ℕ} {objects : Objects (AnyKeeper D disking) keeping} {pass : Pass (AnyKeeper D disking) keeping} → IsStarted config keepers start config' objects pass → seats_of pass ≡ root_pass 0 (cells_of objects)
  root_started {objects = objects} {pass = pass} started = λ i. record { stores = started.roots.each group.stores i; ledgers = started.roots.each group.ledgers i; breakers = started.roots.each group.breakers i; notes = head_same pass.notes (root_of objects.notes) (started.roots.each group.book) i; turns = head_same pass.turns (root_of objects.turns) (started.roots.each group.turns) i; ticks = head_same pass.ticks (root_of objects.ticks) (started.roots.each group.ticks) i }

  -- what was started over the configuration that was given
  pub started_of : {config config' : Config} {keepers : List (AnyKeeper D disking)} {start : ℕ} {objects : Objects (AnyKeeper D disking) keeping} {pass : Pass (AnyKeeper D disking) keeping}
      → IsStarted config keepers start config' objects pass → IsStarted config keepers start config objects pass
  started_of {config} {config'} {keepers} {start} {objects} {pass} started = subst (λ c. IsStarted config keepers start c objects pass) started.same started

  -- the keepers that are given back fit their components
  pub fit_closed : ((c : Loaded) (old new : AnyKeeper D disking) (answers : List (Option Changes)) → keeping.leads old answers new → Fits c old → Fits c new)
      → {config config' : Config} (cells : List (Begun (Store (AnyKeeper D disking) keeping))) (seats : List (Sitting (Store (AnyKeeper D disking) keeping) Cmd Reply)) {given : List (AnyKeeper D disking)}
      → config' ≡ config → (stores : List (Store (AnyKeeper D disking) keeping)) × AreClosed (Stands keeping) cells seats stores × (given ≡ map keeper_of stores)
      → AllFit (choice.stores_of config.components) (map (λ cell. keeper_of cell.first) cells) → AllFit (choice.stores_of config'.components) given
  fit_closed stays {config} {config'} cells seats {given} same closed fits = subst (λ (c : Config). AllFit (choice.stores_of c.components) given) (sym same) (subst (λ l. AllFit (choice.stores_of config.components) l) (sym closed.2) (all_fit stays _ cells seats closed.0 closed.1 fits))

-- a pass that is alone stays so
pub lone_served : {D : Type 0} {disking : Keeps D} {keeping : Ghosts (AnyKeeper D disking)} {kinds : Kinds (Store (AnyKeeper D disking) keeping)} {config : Config} {objects : Objects (AnyKeeper D disking) keeping} {pass after : Pass (AnyKeeper D disking) keeping} {words rest : Stream} {world world' : WorldAt} {ended : Ended}
    → IsServed kinds config objects pass after words rest world world' ended → IsLone (cells_of objects) (seats_of pass) → IsLone (cells_of objects) (seats_of after)
lone_served {kinds = kinds} {objects = objects} {pass = pass} {after = after} {words = words} {rest = rest} {world = world} {world' = world'} served lone = lone_stays kinds (cells_of objects) (record { seats = seats_of pass; clock = world.clock; link = world.link; words = words }) _ (record { seats = seats_of after; clock = world'.clock; link = world'.link; words = rest }) served.served.acted lone

-- what holds of every seat goes on to hold
pub sound_served : {D : Type 0} {disking : Keeps D} {keeping : Ghosts (AnyKeeper D disking)} {kinds : Kinds (Store (AnyKeeper D disking) keeping)} {config : Config} {objects : Objects (AnyKeeper D disking) keeping} {pass after : Pass (AnyKeeper D disking) keeping} {words rest : Stream} {world world' : WorldAt} {ended : Ended}
    → IsServed kinds config objects pass after words rest world world' ended → IsSoundPass kinds (cells_of objects) (seats_of pass) → IsSoundPass kinds (cells_of objects) (seats_of after)
sound_served {kinds = kinds} {objects = objects} {pass = pass} {after = after} {words = words} {rest = rest} {world = world} {world' = world'} served sound = sound_stays kinds (cells_of objects) (record { seats = seats_of pass; clock = world.clock; link = world.link; words = words }) _ (record { seats = seats_of after; clock = world'.clock; link = world'.link; words = rest }) served.served.acted sound

-- numbers were given, and the outside is as before but for them
pub numbered : (world : WorldAt) (after : OutsideAt) → after.disks ≡ world.outside.disks → after.calls ≡ world.outside.calls → after.backs ≡ world.outside.backs → after.faults ≡ world.outside.faults
    → record world { outside = after } ≡ record world { outside = record world.outside { numbers = after.numbers } }
numbered world after disks calls backs faults = λ i. record world { outside = record { disks = disks i; calls = calls i; backs = backs i; numbers = after.numbers; faults = faults i } }

-- a run with the same random words
pub begun_by : {D : Type 0} {disking : Keeps D} {keeping : Ghosts (AnyKeeper D disking)} {kinds : Kinds (Store (AnyKeeper D disking) keeping)} {given : Words} {words words' : Stream} {world world' : WorldAt} {status : Status}
    → words ≡ words' → IsBegun kinds given words world world' status → IsBegun kinds given words' world world' status
begun_by {disking = disking} {keeping = keeping} {kinds = kinds} {given = given} {world = world} {world' = world'} {status = status} same begun = subst (λ w. IsBegun kinds given w world world' status) same begun

-- objects that were not started over their keepers
pub down_without : {D X : Type 0} {disking : Keeps D} {components : List Loaded} {keepers : List (AnyKeeper D disking)} {outside outside' : OutsideAt} (result : Result X Status)
    → IfErr result (λ status. status ≡ ends.NoMemory) → AreKept disking components keepers outside outside' → IfErr result (λ status. IsDown disking components outside outside' status)
down_without (Ok up) lacking kept = tt
down_without {keepers = keepers} (Err status) lacking kept = lacks keepers kept lacking
