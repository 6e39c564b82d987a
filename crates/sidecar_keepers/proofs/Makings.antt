-- Keepers that are made one after the other.
use Rattle.std.proofs.Common.{◌≡◌, ◌≢◌, ℕ, zero, suc, Bool, true, false, List, [], ◌∷◌, ◌++◌, Option, None, refl, sym, subst, arith}
use Rattle.std.proofs.Math.Bool.{cond}
use Rattle.side_world.specs.declared.disk.Disk.{Ghosts}
use Rattle.side_world.specs.Outside.{Disks}
use Rattle.keeper_core.specs.declared.changes.Changes.{Changes}
use Rattle.disk_journal.specs.Moments.{Reads, ChangesNothing}
use Rattle.keeper_journal.specs.History.{IsHistory}
use Rattle.keeper_journal.specs.JournalKeeper.{disk_in, limit_in}
use Rattle.keeper_journal.specs.Kept.{Kept}
use Rattle.keeper_journal.specs.declared.journal_keeper.JournalKeeper.{JournalKeeper}
use Rattle.keeper_journal.specs.declared.any_keeper.AnyKeeper.{AnyKeeper}
use Rattle.keeper_journal.specs.declared.any_keeper.AnyKeeper.TheVariants.{Memory, Journal}
use Rattle.resource_spec.specs.Component.{Loaded}
use Rattle.sidecar_keepers.specs.Kinds.{Fits, AllFit}
use Rattle.sidecar_keepers.specs.Stores.{is_store, stores_of}
use Rattle.sidecar_keepers.specs.Made.{IsOpenedOn, IsMade, AreMade}

module _ {D : Type 0} (disking : Ghosts D) where
  pub made_on : (stores others : List Loaded) (keepers more : List (AnyKeeper D disking)) (before mid after : Option Disks) → AreMade disking stores keepers before mid → AreMade disking others more mid after → AreMade disking (stores ++ others) (keepers ++ more) before after
  made_on [] others [] more before mid after same made = subst (λ (disks : Option Disks). AreMade disking others more disks after) same made
  made_on (c ∷ stores) others (keeper ∷ keepers) more before mid after made behind = (made.0, made.1, made_on stores others keepers more made.0 mid after made.2 behind)
  made_on [] others (keeper ∷ keepers) more before mid after made behind = absurd made
  made_on (c ∷ stores) others [] more before mid after made behind = absurd made

  fit_one : (c : Loaded) (keeper : AnyKeeper D disking) (before after : Option Disks) → IsMade disking c keeper before after → Fits c keeper
  fit_one c (Memory keeper) before after made = made.0
  fit_one c (Journal keeper) before after made = made.kind

  pub made_fit : (stores : List Loaded) (keepers : List (AnyKeeper D disking)) (before after : Option Disks) → AreMade disking stores keepers before after → AllFit stores keepers
  made_fit [] [] before after made = tt
  made_fit (c ∷ stores) (keeper ∷ keepers) before after made = (fit_one c keeper before made.0 made.1, made_fit stores keepers made.0 after made.2)
  made_fit [] (keeper ∷ keepers) before after made = absurd made
  made_fit (c ∷ stores) [] before after made = absurd made

  -- a start on a disk opens it
  pub opens : (disk : D) (keeper : JournalKeeper D disking) (n : ℕ) → disking.size disk ≡ n
      → ((commits : List Changes) × Kept disking keeper commits None × (disking.size disk ≢ 0 → Reads disking disk (λ bytes. IsHistory bytes commits)))
      → (disking.size disk ≡ 0 → Kept disking keeper [] None)
      → (disking.size disk ≢ 0 → ChangesNothing disking disk (disk_in keeper))
      → limit_in keeper ≡ 402653184 → disking.faults (disk_in keeper) ≡ 0
      → (commits : List Changes) × IsOpenedOn disking disk keeper commits
  opens disk keeper zero none kept fresh unchanged limit no_faults = (
    [],
    record {
      kept = fresh none;
      bare = λ _. refl;
      read = λ some. absurd (some none);
      unchanged = unchanged;
      limit = limit;
      no_faults = no_faults;
    },
  )
  opens disk keeper (suc n) some kept fresh unchanged limit no_faults = (
    kept.0,
    record {
      kept = kept.1;
      bare = λ none. absurd (omega (arith, none, some));
      read = kept.2;
      unchanged = unchanged;
      limit = limit;
      no_faults = no_faults;
    },
  )

  -- the keeper of one component, and that of a component which is no store
  pub made_one : (c : Loaded) (keeper : AnyKeeper D disking) (before after : Option Disks) → is_store c.kind ≡ true → IsMade disking c keeper before after → AreMade disking (stores_of (c ∷ [])) (keeper ∷ []) before after
  made_one c keeper before after chosen made = subst (λ (b : Bool). AreMade disking (cond b (c ∷ []) []) (keeper ∷ []) before after) (sym chosen) (after, made, refl)

  pub made_none : (c : Loaded) (disks : Option Disks) → is_store c.kind ≡ false → AreMade disking (stores_of (c ∷ [])) [] disks disks
  made_none c disks chosen = subst (λ (b : Bool). AreMade disking (cond b (c ∷ []) []) [] disks disks) (sym chosen) refl
