-- What the disks of keepers held before a run, and what they hold after it.
use Rattle.std.proofs.Common.{◌≡◌, ◌≢◌, ℕ, List, [], ◌∷◌, length, Option, Some, None, unwrap_or, refl, sym, ◌∙◌, ap, subst, arith}
use Rattle.side_world.specs.Outside.{Disks, bytes_or_none}
use Rattle.side_world.specs.declared.disk.Disk.{Ghosts as Keeps}
use Rattle.keeper_core.specs.declared.changes.Changes.{Changes}
use Rattle.keeper_core.specs.declared.keeper.Keeper.{Ghosts}
use Rattle.keeper_core.specs.Commits.{HasMade}
use Rattle.std.specs.List.{cons_option}
use Rattle.keeper_journal.specs.AnyKeeper.{any_leads}
use Rattle.keeper_journal.proofs.Runs.{disk_has}
use Rattle.keeper_journal.specs.JournalKeeper.{disk_in}
use Rattle.keeper_journal.specs.declared.journal_keeper.JournalKeeper.{JournalKeeper}
use Rattle.keeper_journal.specs.declared.any_keeper.AnyKeeper.{AnyKeeper}
use Rattle.keeper_journal.specs.declared.any_keeper.AnyKeeper.TheVariants.{Memory, Journal}
use Rattle.resource_spec.specs.Component.{Loaded}
use Rattle.resource_spec.specs.Load.{journal_of}
use Rattle.sidecar_keepers.specs.Kinds.{Fits, AllFit}
use Rattle.sidecar_keepers.specs.Made.{IsOpenedOn, IsMade, AreMade}
use Rattle.sidecar_keepers.specs.Given.{IsBack, AreBack}
use Rattle.sidecar_keepers.specs.Stores.{paths_of}
use Rattle.sidecar_keepers.specs.Runs.{SaysOnOpening, HaveMade, HasFileAfter, HaveFilesAfter, IsNoneOf, AreApart, IsHeldAfter, TellAlways}
use Rattle.sidecar_keepers.proofs.Makings.{made_fit}
use Rattle.sidecar_keepers.proofs.Places.{no_file, paths_of_memory, paths_of_journal}

-- what is held elsewhere than at these paths is the same
abbrev pub SameElsewhere : List (List ℕ) → Disks → Disks → Type 0
SameElsewhere paths held held' = (other : List ℕ) → IsNoneOf other paths → held' other ≡ held other

module _ {D : Type 0} (disking : Keeps D) where
  -- a keeper was opened on what was held at its path
  pub record WasOpened (keeper : JournalKeeper D disking) (held : Option (List ℕ)) : Type 0 where
    pub disk : D
    pub commits : List Changes
    pub opened : IsOpenedOn disking disk keeper commits
    pub told : (bytes : List ℕ) → disking.contents disk ≡ Some bytes → bytes ≡ bytes_or_none held

  abbrev pub WasMade : Loaded → AnyKeeper D disking → Disks → Type 0
  WasMade c (Memory keeper) held = journal_of c ≡ None
  WasMade c (Journal keeper) held = (path : List ℕ) × (journal_of c ≡ Some path) × WasOpened keeper (held path)

  abbrev pub WereMade : List Loaded → List (AnyKeeper D disking) → Disks → Type 0
  WereMade [] [] held = Unit {0}
  WereMade (c ∷ stores) (keeper ∷ keepers) held = WasMade c keeper held × WereMade stores keepers held
  WereMade [] (keeper ∷ keepers) held = ⊥
  WereMade (c ∷ stores) [] held = ⊥

  -- disks that hold the same at a path which is none of the others serve as well
  same_made : (c : Loaded) (keeper : AnyKeeper D disking) (stores : List Loaded) (path : List ℕ) (held held' : Disks) → IsNoneOf path (paths_of (c ∷ stores)) → ((other : List ℕ) → other ≢ path → held' other ≡ held other) → WasMade c keeper held' → WasMade c keeper held
  same_made c (Memory keeper) stores path held held' none same made = made
  same_made c (Journal keeper) stores path held held' none same made =
      let apart = subst (IsNoneOf path) (paths_of_journal c stores made.0 made.1) none in
      (made.0, made.1, subst (WasOpened keeper) (same made.0 apart.0) made.2)

  none_left : (c : Loaded) (keeper : AnyKeeper D disking) (stores : List Loaded) (path : List ℕ) (held : Disks) → WasMade c keeper held → IsNoneOf path (paths_of (c ∷ stores)) → IsNoneOf path (paths_of stores)
  none_left c (Memory keeper) stores path held made none = subst (IsNoneOf path) (ap (λ (p : Option (List ℕ)). cons_option p (paths_of stores)) made) none
  none_left c (Journal keeper) stores path held made none = (subst (IsNoneOf path) (paths_of_journal c stores made.0 made.1) none).1

  same_all_made : (stores : List Loaded) (keepers : List (AnyKeeper D disking)) (path : List ℕ) (held held' : Disks) → IsNoneOf path (paths_of stores) → ((other : List ℕ) → other ≢ path → held' other ≡ held other) → WereMade stores keepers held' → WereMade stores keepers held
  same_all_made [] [] path held held' none same made = tt
  same_all_made (c ∷ stores) (keeper ∷ keepers) path held held' none same made = (same_made c keeper stores path held held' none same made.0, same_all_made stores keepers path held held' (none_left c keeper stores path held' made.0 none) same made.1)
  same_all_made [] (keeper ∷ keepers) path held held' none same made = absurd made
  same_all_made (c ∷ stores) [] path held held' none same made = absurd made

  abbrev pub TookAll : List Loaded → List (AnyKeeper D disking) → Option Disks → Disks → Type 0
  TookAll stores keepers before held' = (held : Disks) × (before ≡ Some held) × WereMade stores keepers held × SameElsewhere (paths_of stores) held held'

  took_one : (c : Loaded) (keeper : AnyKeeper D disking) (stores : List Loaded) (keepers : List (AnyKeeper D disking)) (before mid : Option Disks) (held' : Disks) → AreApart (paths_of (c ∷ stores)) → IsMade disking c keeper before mid → TookAll stores keepers mid held' → TookAll (c ∷ stores) (keeper ∷ keepers) before held'
  took_one c (Memory keeper) stores keepers before mid held' apart made took =
      (took.0, sym made.2 ∙ took.1, (no_file c made.0, took.2), λ other none. took.3 other (subst (IsNoneOf other) (paths_of_memory c stores made.0) none))
  took_one c (Journal keeper) stores keepers before mid held' apart made took =
      let change = made.taken took.0 took.1 in
      let here = subst AreApart (paths_of_journal c stores made.path made.named) apart in (
        change.0,
        change.1,
        ((made.path, made.named, record { disk = made.disk; commits = made.commits; opened = made.opened; told = change.2.2 }), same_all_made stores keepers made.path change.0 took.0 here.0 change.3 took.2),
        λ other none. let off = subst (IsNoneOf other) (paths_of_journal c stores made.path made.named) none in took.3 other off.1 ∙ change.3 other (λ is. off.0 (sym is)),
      )

  fewer_made : (c : Loaded) (keeper : AnyKeeper D disking) (stores : List Loaded) (before mid : Option Disks) → IsMade disking c keeper before mid → AreApart (paths_of (c ∷ stores)) → AreApart (paths_of stores)
  fewer_made c (Memory keeper) stores before mid made apart = subst AreApart (paths_of_memory c stores made.0) apart
  fewer_made c (Journal keeper) stores before mid made apart = (subst AreApart (paths_of_journal c stores made.path made.named) apart).1

  took_all : (stores : List Loaded) (keepers : List (AnyKeeper D disking)) (before after : Option Disks) (held' : Disks) → AreApart (paths_of stores) → AreMade disking stores keepers before after → after ≡ Some held' → TookAll stores keepers before held'
  took_all [] [] before after held' apart same told = (held', sym same ∙ told, tt, λ other none. refl)
  took_all (c ∷ stores) (keeper ∷ keepers) before after held' apart made told = took_one c keeper stores keepers before made.0 held' apart made.1 (took_all stores keepers made.0 after held' (fewer_made c keeper stores before made.0 made.1 apart) made.2 told)
  took_all [] (keeper ∷ keepers) before after held' apart made told = absurd made
  took_all (c ∷ stores) [] before after held' apart made told = absurd made

  -- a keeper stays of its kind
  kind_stays : (c : Loaded) (first last : AnyKeeper D disking) (answers : List (Option Changes)) → any_leads first answers last → Fits c first → Fits c last
  kind_stays c (Memory first) (Memory last) answers led fits = fits
  kind_stays c (Journal first) (Journal last) answers led fits = fits
  kind_stays c (Memory first) (Journal last) answers led fits = absurd led
  kind_stays c (Journal first) (Memory last) answers led fits = absurd led

  -- what went back of a keeper is held at its path
  abbrev pub WentBack : Loaded → AnyKeeper D disking → Disks → Type 0
  WentBack c (Memory keeper) held' = journal_of c ≡ None
  WentBack c (Journal keeper) held' = (path : List ℕ) × (journal_of c ≡ Some path) × (bytes : List ℕ) × (disking.contents (disk_in keeper) ≡ Some bytes) × (held' path ≡ Some bytes)

  abbrev pub WentAllBack : List Loaded → List (AnyKeeper D disking) → Disks → Type 0
  WentAllBack [] [] held' = Unit {0}
  WentAllBack (c ∷ stores) (keeper ∷ keepers) held' = WentBack c keeper held' × WentAllBack stores keepers held'
  WentAllBack [] (keeper ∷ keepers) held' = ⊥
  WentAllBack (c ∷ stores) [] held' = ⊥

  abbrev pub GaveAll : List Loaded → List (AnyKeeper D disking) → Option Disks → Disks → Type 0
  GaveAll stores keepers before held' = (held : Disks) × (before ≡ Some held) × WentAllBack stores keepers held' × SameElsewhere (paths_of stores) held held'

  gave_one : (c : Loaded) (keeper : AnyKeeper D disking) (stores : List Loaded) (keepers : List (AnyKeeper D disking)) (before mid : Option Disks) (held' : Disks) → AreApart (paths_of (c ∷ stores)) → Fits c keeper → IsBack disking c keeper before mid → GaveAll stores keepers mid held' → GaveAll (c ∷ stores) (keeper ∷ keepers) before held'
  gave_one c (Memory keeper) stores keepers before mid held' apart fits back gave =
      (gave.0, sym back ∙ gave.1, (no_file c fits, gave.2), λ other none. gave.3 other (subst (IsNoneOf other) (paths_of_memory c stores fits) none))
  gave_one c (Journal keeper) stores keepers before mid held' apart fits back gave =
      let change = back.given gave.0 gave.1 in
      let here = subst AreApart (paths_of_journal c stores back.path back.named) apart in (
        change.0,
        change.1,
        ((back.path, back.named, change.2.0, change.2.1, gave.3 back.path here.0 ∙ change.2.2), gave.2),
        λ other none. let off = subst (IsNoneOf other) (paths_of_journal c stores back.path back.named) none in gave.3 other off.1 ∙ change.3 other (λ is. off.0 (sym is)),
      )

  fewer_paths : (c : Loaded) (keeper : AnyKeeper D disking) (stores : List Loaded) (before mid : Option Disks) → Fits c keeper → IsBack disking c keeper before mid → AreApart (paths_of (c ∷ stores)) → AreApart (paths_of stores)
  fewer_paths c (Memory keeper) stores before mid fits back apart = subst AreApart (paths_of_memory c stores fits) apart
  fewer_paths c (Journal keeper) stores before mid fits back apart = (subst AreApart (paths_of_journal c stores back.path back.named) apart).1

  gave_all : (stores : List Loaded) (keepers : List (AnyKeeper D disking)) (before after : Option Disks) (held' : Disks) → AreApart (paths_of stores) → AllFit stores keepers → AreBack disking stores keepers before after → after ≡ Some held' → GaveAll stores keepers before held'
  gave_all [] [] before after held' apart fit same told = (held', sym same ∙ told, tt, λ other none. refl)
  gave_all (c ∷ stores) (keeper ∷ keepers) before after held' apart fit back told =
      gave_one c keeper stores keepers before back.0 held' apart fit.0 back.1 (gave_all stores keepers back.0 after held' (fewer_paths c keeper stores before back.0 fit.0 back.1 apart) fit.1 back.2 told)
  gave_all [] (keeper ∷ keepers) before after held' apart fit back told = absurd back
  gave_all (c ∷ stores) [] before after held' apart fit back told = absurd back

  abbrev AsLong : Type 0
  AsLong = (disk : D) (bytes : List ℕ) → disking.contents disk ≡ Some bytes → disking.size disk ≡ length bytes

  says : AsLong → (disk : D) (keeper : JournalKeeper D disking) (commits : List Changes) → IsOpenedOn disking disk keeper commits → (bytes : List ℕ) → disking.contents disk ≡ Some bytes → SaysOnOpening bytes commits
  says as_long disk keeper commits opened [] told = opened.bare (as_long disk [] told)
  says as_long disk keeper commits opened (byte ∷ bytes) told = opened.read (λ none. absurd (omega (arith, none, as_long disk (byte ∷ bytes) told))) (byte ∷ bytes) told

  module _ (keeping : Ghosts (AnyKeeper D disking)) (of : (first last : AnyKeeper D disking) (answers : List (Option Changes)) → keeping.leads first answers last → any_leads first answers last) where
    -- keepers stay of the kinds of their components
    pub fit_after : (stores : List Loaded) (firsts lasts : List (AnyKeeper D disking)) (made : List (List Changes)) → AllFit stores firsts → HaveMade keeping firsts lasts made → AllFit stores lasts
    fit_after [] [] [] [] fit has = tt
    fit_after [] [] [] (commits ∷ made) fit has = tt
    fit_after [] [] (last ∷ lasts) [] fit has = absurd has
    fit_after [] [] (last ∷ lasts) (commits ∷ made) fit has = absurd has
    fit_after (c ∷ stores) (first ∷ firsts) (last ∷ lasts) (commits ∷ made) fit has = (kind_stays c first last has.0.answers (of first last has.0.answers has.0.leads) fit.0, fit_after stores firsts lasts made fit.1 has.1)
    fit_after (c ∷ stores) (first ∷ firsts) [] [] fit has = absurd has
    fit_after (c ∷ stores) (first ∷ firsts) [] (commits ∷ made) fit has = absurd has
    fit_after (c ∷ stores) (first ∷ firsts) (last ∷ lasts) [] fit has = absurd has
    fit_after [] (first ∷ firsts) lasts made fit has = absurd fit
    fit_after (c ∷ stores) [] lasts made fit has = absurd fit

  module _ (as_long : AsLong) (tells : TellAlways disking) (keeping : Ghosts (AnyKeeper D disking)) (of : (first last : AnyKeeper D disking) (answers : List (Option Changes)) → keeping.leads first answers last → any_leads first answers last) where
    file_after : (c : Loaded) (first last : AnyKeeper D disking) (made : List Changes) (held held' : Disks) → WasMade c first held → HasMade keeping first last made → WentBack c last held' → HasFileAfter (journal_of c) held held' made
    file_after c (Memory first) (Memory last) made held held' was has back = subst (λ (path : Option (List ℕ)). HasFileAfter path held held' made) (sym was) tt
    file_after c (Memory first) (Journal last) made held held' was has back = absurd (of (Memory first) (Journal last) has.answers has.leads)
    file_after c (Journal first) (Memory last) made held held' was has back = absurd (of (Journal first) (Memory last) has.answers has.leads)
    file_after c (Journal first) (Journal last) made held held' was has back =
        let start = was.2 in
        let opening = tells start.disk in
        let same : was.0 ≡ back.0 = ap (λ (path : Option (List ℕ)). unwrap_or path []) (sym was.1 ∙ back.1) in
        subst (λ (path : Option (List ℕ)). HasFileAfter path held held' made) (sym was.1) (record {
          bytes = back.2;
          is = ap held' same ∙ back.4;
          commits = start.commits;
          opening = subst (λ (bytes : List ℕ). SaysOnOpening bytes start.commits) (start.told opening.0 opening.1) (says as_long start.disk first start.commits start.opened opening.0 opening.1);
          behind = disk_has disking (Journal first) (Journal last) has.answers start.commits made None (of (Journal first) (Journal last) has.answers has.leads) has.made start.opened.kept back.2 back.3;
        })

    files_after : (stores : List Loaded) (firsts lasts : List (AnyKeeper D disking)) (made : List (List Changes)) (held held' : Disks) → WereMade stores firsts held → HaveMade keeping firsts lasts made → WentAllBack stores lasts held' → HaveFilesAfter stores held held' made
    files_after [] [] [] [] held held' were has back = tt
    files_after [] [] [] (commits ∷ made) held held' were has back = absurd has
    files_after [] [] (last ∷ lasts) made held held' were has back = absurd back
    files_after (c ∷ stores) (first ∷ firsts) (last ∷ lasts) (commits ∷ made) held held' were has back = (file_after c first last commits held held' were.0 has.0 back.0, files_after stores firsts lasts made held held' were.1 has.1 back.1)
    files_after (c ∷ stores) (first ∷ firsts) (last ∷ lasts) [] held held' were has back = absurd has
    files_after (c ∷ stores) (first ∷ firsts) [] made held held' were has back = absurd back
    files_after [] (first ∷ firsts) lasts made held held' were has back = absurd were
    files_after (c ∷ stores) [] lasts made held held' were has back = absurd were

    -- keepers that were made, and their disks that went back at the end
    pub held_after : (stores : List Loaded) (firsts lasts : List (AnyKeeper D disking)) (made : List (List Changes)) (before mid after : Option Disks) → AreApart (paths_of stores) → AreMade disking stores firsts before mid → HaveMade keeping firsts lasts made → AreBack disking stores lasts mid after
        → (held' : Disks) → after ≡ Some held' → (held : Disks) × (before ≡ Some held) × IsHeldAfter stores held held' made
    held_after stores firsts lasts made before mid after apart were has back held' told =
        let gave = gave_all stores lasts mid after held' apart (fit_after keeping of stores firsts lasts made (made_fit disking stores firsts before mid were) has) back told in
        let took = took_all stores firsts before mid gave.0 apart were gave.1 in
        (took.0, took.1, record { files = files_after stores firsts lasts made took.0 held' took.2 has gave.2; others = λ other none. gave.3 other none ∙ took.3 other none })
