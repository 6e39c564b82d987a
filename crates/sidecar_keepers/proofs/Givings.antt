-- Disks that go back one after the other.
use Rattle.std.proofs.Common.{◌≡◌, ◌∙◌, ◌≤◌, ◌<◌, ℕ, suc, ◌+◌, Bool, true, false, List, [], ◌∷◌, ◌++◌, length, take, drop, codes, slice_index_or, append_assoc, Option, Some, sym, ap, subst, refl, arith}
use Rattle.std.proofs.lemmas.List.{append-nil, drop_all, take_all}
use Rattle.std.proofs.Math.Bool.{cond}
use Rattle.side_world.specs.Faults.{RoseWith}
use Rattle.side_world.specs.declared.disk.Disk.{Ghosts}
use Rattle.side_world.specs.Outside.{Disks, IsGiven}
use Rattle.keeper_journal.specs.JournalKeeper.{disk_in}
use Rattle.keeper_journal.specs.declared.journal_keeper.JournalKeeper.{JournalKeeper}
use Rattle.keeper_journal.specs.declared.any_keeper.AnyKeeper.TheVariants.{Journal}
use Rattle.resource_spec.specs.declared.component.ComponentKind.TheVariants.{StateJournal}
use Rattle.keeper_journal.specs.declared.any_keeper.AnyKeeper.{AnyKeeper}
use Rattle.resource_spec.specs.Component.{Loaded, setting_of}
use Rattle.sidecar_keepers.specs.Kinds.{Fits, AllFit}
use Rattle.sidecar_keepers.specs.Given.{IsBack, AreBack, faults_on_disk, faults_on_disks}
use Rattle.sidecar_keepers.specs.Stores.{is_store, stores_of}
use Rattle.sidecar_keepers.proofs.Counting.{rose_with_none, rose_with_on}
use Rattle.sidecar_keepers.proofs.Places.{file_at, next_left, stores_more}

module _ {D : Type 0} (disking : Ghosts D) where
  pub back_on : (stores others : List Loaded) (keepers more : List (AnyKeeper D disking)) (before mid after : Option Disks) → AreBack disking stores keepers before mid → AreBack disking others more mid after → AreBack disking (stores ++ others) (keepers ++ more) before after
  back_on [] others [] more before mid after same back = subst (λ (disks : Option Disks). AreBack disking others more disks after) same back
  back_on (c ∷ stores) others (keeper ∷ keepers) more before mid after back behind = (back.0, back.1, back_on stores others keepers more back.0 mid after back.2 behind)
  back_on [] others (keeper ∷ keepers) more before mid after back behind = absurd back
  back_on (c ∷ stores) others [] more before mid after back behind = absurd back

  pub faults-append : (keepers more : List (AnyKeeper D disking)) → faults_on_disks disking (keepers ++ more) ≡ faults_on_disks disking keepers + faults_on_disks disking more
  faults-append [] more = omega arith
  faults-append (keeper ∷ keepers) more = omega (arith, faults-append keepers more)

  pub back_one : (c : Loaded) (keeper : AnyKeeper D disking) (before after : Option Disks) → is_store c.kind ≡ true → IsBack disking c keeper before after → AreBack disking (stores_of (c ∷ [])) (keeper ∷ []) before after
  back_one c keeper before after chosen back = subst (λ (b : Bool). AreBack disking (cond b (c ∷ []) []) (keeper ∷ []) before after) (sym chosen) (after, back, refl)

  pub back_at : (c : Loaded) (keeper : AnyKeeper D disking) (k : JournalKeeper D disking) → keeper ≡ Journal k → Fits c keeper → (path given_to : List ℕ) → setting_of c (codes "path") ≡ Some path → given_to ≡ path
      → (disk : D) → disk ≡ disk_in k → (before after : Option Disks) → IsGiven disking disk given_to before after → IsBack disking c keeper before after
  back_at c keeper k is fits path given_to named same disk of before after given =
      let kind : c.kind ≡ StateJournal = subst (Fits c) is fits in
      subst (λ (a : AnyKeeper D disking). IsBack disking c a before after) (sym is) (record {
        path = path;
        named = file_at c path kind named;
        given = subst (λ (d : D). IsGiven disking d path before after) of (subst (λ (p : List ℕ). IsGiven disking disk p before after) same given);
      })

  -- the keepers of the components before a place went back, and those behind it are left
  pub record GivenSoFar (components : List Loaded) (place : ℕ) (all left : List (AnyKeeper D disking)) (disks disks' : Option Disks) (faults faults' : ℕ) : Type 0 where
    pub back : List (AnyKeeper D disking)
    pub in_order : all ≡ back ++ left
    pub fit : AllFit (stores_of (drop place components)) left
    pub given : AreBack disking (stores_of (take place components)) back disks disks'
    pub counts : RoseWith (faults_on_disks disking back) faults faults'
    pub no_fewer : faults ≤ faults'

  pub none_given : (components : List Loaded) (all : List (AnyKeeper D disking)) (disks : Option Disks) (faults : ℕ) → AllFit (stores_of components) all → GivenSoFar components 0 all all disks disks faults faults
  none_given components all disks faults fit = record { back = []; in_order = refl; fit = fit; given = refl; counts = rose_with_none faults; no_fewer = omega arith }

  module _ (components : List Loaded) (place : ℕ) (c : Loaded) (low : place < length components) (is : c ≡ slice_index_or components place c) where
    -- what is left where the next component is a store, and where it is none
    left_fit : (chosen : Bool) → is_store c.kind ≡ chosen → (left : List (AnyKeeper D disking)) → AllFit (stores_of (drop place components)) left → AllFit (cond chosen (c ∷ stores_of (drop (suc place) components)) (stores_of (drop (suc place) components))) left
    left_fit chosen kind left fit = subst (λ (b : Bool). AllFit (cond b (c ∷ stores_of (drop (suc place) components)) (stores_of (drop (suc place) components))) left) kind (subst (λ (cs : List Loaded). AllFit (stores_of cs) left) (next_left components place c low is) fit)

    pub next_fits : is_store c.kind ≡ true → (keeper : AnyKeeper D disking) (left left' : List (AnyKeeper D disking)) → left ≡ keeper ∷ left' → AllFit (stores_of (drop place components)) left → Fits c keeper × AllFit (stores_of (drop (suc place) components)) left'
    next_fits chosen keeper left left' first fit = subst (λ (ks : List (AnyKeeper D disking)). AllFit (c ∷ stores_of (drop (suc place) components)) ks) first (left_fit true chosen left fit)

    pub some_left : is_store c.kind ≡ true → (left : List (AnyKeeper D disking)) → left ≡ [] → AllFit (stores_of (drop place components)) left → ⊥
    some_left chosen left none fit = subst (λ (ks : List (AnyKeeper D disking)). AllFit (c ∷ stores_of (drop (suc place) components)) ks) none (left_fit true chosen left fit)

    -- one more store
    pub one_given : (all left left' : List (AnyKeeper D disking)) (disks mid after : Option Disks) (faults between now : ℕ) (keeper : AnyKeeper D disking) → is_store c.kind ≡ true → left ≡ keeper ∷ left' → GivenSoFar components place all left disks mid faults between
        → IsBack disking c keeper mid after → RoseWith (faults_on_disk disking keeper) between now → between ≤ now → GivenSoFar components (place + 1) all left' disks after faults now
    one_given all left left' disks mid after faults between now keeper chosen first so_far back counts later =
        let next : suc place ≡ place + 1 = omega arith in
        let only : faults_on_disk disking keeper ≡ faults_on_disks disking (keeper ∷ []) = omega arith in record {
          back = so_far.back ++ keeper ∷ [];
          in_order = so_far.in_order ∙ ap (λ (ks : List (AnyKeeper D disking)). so_far.back ++ ks) first ∙ sym (append_assoc so_far.back (keeper ∷ []) left');
          fit = subst (λ (i : ℕ). AllFit (stores_of (drop i components)) left') next (next_fits chosen keeper left left' first so_far.fit).1;
          given = subst (λ (cs : List Loaded). AreBack disking cs (so_far.back ++ keeper ∷ []) disks after) (sym (stores_more components place c low is))
              (back_on (stores_of (take place components)) (stores_of (c ∷ [])) so_far.back (keeper ∷ []) disks mid after so_far.given (back_one c keeper mid after chosen back));
          counts = subst (λ (n : ℕ). RoseWith n faults now) (sym (faults-append so_far.back (keeper ∷ [])))
              (rose_with_on (faults_on_disks disking so_far.back) (faults_on_disks disking (keeper ∷ [])) faults between now so_far.counts
              (subst (λ (n : ℕ). RoseWith n between now) only counts) so_far.no_fewer later);
          no_fewer = omega (arith, so_far.no_fewer, later);
        }

    -- a component that is no store
    pub none_more : (all left : List (AnyKeeper D disking)) (disks mid : Option Disks) (faults between : ℕ) → is_store c.kind ≡ false → GivenSoFar components place all left disks mid faults between → GivenSoFar components (place + 1) all left disks mid faults between
    none_more all left disks mid faults between chosen so_far =
        let next : suc place ≡ place + 1 = omega arith in record {
          back = so_far.back;
          in_order = so_far.in_order;
          fit = subst (λ (i : ℕ). AllFit (stores_of (drop i components)) left) next (left_fit false chosen left so_far.fit);
          given = subst (λ (cs : List Loaded). AreBack disking cs so_far.back disks mid) (sym (stores_more components place c low is ∙ (λ j. stores_of (take place components) ++ cond (chosen j) (c ∷ []) []) ∙ append-nil (stores_of (take place components)))) so_far.given;
          counts = so_far.counts;
          no_fewer = so_far.no_fewer;
        }

  -- no keeper is left behind the last component
  pub all_given : (components : List Loaded) (place : ℕ) (all left : List (AnyKeeper D disking)) (disks after : Option Disks) (faults now : ℕ) → length components ≤ place → GivenSoFar components place all left disks after faults now
      → AreBack disking (stores_of components) all disks after × RoseWith (faults_on_disks disking all) faults now
  all_given components place all left disks after faults now ended so_far =
      let none = none_left left (subst (λ (cs : List Loaded). AllFit (stores_of cs) left) (drop_all place components ended) so_far.fit) in
      let same : so_far.back ≡ all = sym (so_far.in_order ∙ ap (λ (ks : List (AnyKeeper D disking)). so_far.back ++ ks) none ∙ append-nil so_far.back) in (
        subst (λ (ks : List (AnyKeeper D disking)). AreBack disking (stores_of components) ks disks after) same (subst (λ (cs : List Loaded). AreBack disking (stores_of cs) so_far.back disks after) (take_all place components ended) so_far.given),
        subst (λ (ks : List (AnyKeeper D disking)). RoseWith (faults_on_disks disking ks) faults now) same so_far.counts,
      )
    where
      none_left : (left : List (AnyKeeper D disking)) → AllFit [] left → left ≡ []
      none_left [] fit = refl
      none_left (keeper ∷ keepers) fit = absurd fit
