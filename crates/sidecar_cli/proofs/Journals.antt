-- The journals of a run have what its stores have saved, and have paths of their own.
use Rattle.std.specs.Prelude.{◌≡◌, ℕ, Bool, true, false, ◌+◌, List, [], ◌∷◌, length, map, Option, Some, None, Result, Ok, Err, IfOk, refl}
use Rattle.std.proofs.Common.{◌∙◌, ap, sym, subst}
use Rattle.std.specs.List.{cons_option}
use Rattle.std.proofs.Math.Bool.{cond}
use Rattle.side_world.specs.declared.disk.Disk.{Ghosts as Keeps}
use Rattle.keeper_core.specs.declared.keeper.Keeper.{Ghosts}
use Rattle.keeper_journal.specs.declared.any_keeper.AnyKeeper.{AnyKeeper}
use Rattle.turn_cell.specs.Sitting.{Begun, Sitting}
use Rattle.turn_pass.specs.Pass.{AreClosed}
use Rattle.resource_spec.specs.Component.{Loaded}
use Rattle.resource_spec.specs.Follow.{follow}
use Rattle.resource_spec.specs.Load.{joined, journal_of}
use Rattle.resource_spec.specs.declared.component.ComponentKind.{ComponentKind}
use Rattle.resource_spec.specs.declared.component.ComponentKind.TheVariants as kind
use Rattle.resource_spec.specs.declared.spec_err.SpecErr.{SpecErr}
use Rattle.resource_files.specs.declared.resources.Resources.{Resources}
use Rattle.resource_files.specs.Added.{Adds, Reading, reading_for}
use Rattle.resource_files.specs.Read.{AllAdd, FileRead}
use Rattle.state_core.specs.declared.command.Cmd.{Cmd}
use Rattle.state_core.specs.declared.reply.Reply.{Reply}
use Rattle.state_core.specs.declared.store.Store.{Store}
use Rattle.state_core.specs.Store.{Stands, keeper_of}
use Rattle.sidecar_keepers.specs.Runs.{AreApart, HaveMade}
use Rattle.sidecar_keepers.specs.Stores.{is_store, paths_of, stores_of}
use Rattle.sidecar_keepers.proofs.OwnPaths.{joined_own}
use Rattle.sidecar_cli.specs.Configured.{IsConfigured}
use Rattle.sidecar_cli.specs.Journals.{saved_by}
use Rattle.sidecar_cli.specs.World.{FilesAt}

-- ---- what was saved

-- keepers whose stores stand for what their seats have seen have made the commits of these histories
pub have_saved : {D : Type 0} {disking : Keeps D} {keeping : Ghosts (AnyKeeper D disking)} (cells : List (Begun (Store (AnyKeeper D disking) keeping))) (seats : List (Sitting (Store (AnyKeeper D disking) keeping) Cmd Reply)) (stores : List (Store (AnyKeeper D disking) keeping))
    → AreClosed (Stands keeping) cells seats stores → HaveMade keeping (map (λ cell. keeper_of cell.first) cells) (map keeper_of stores) (saved_by keeping cells seats)
have_saved [] [] [] closed = tt
have_saved (cell ∷ cells) (seat ∷ seats) (store ∷ stores) closed = (closed.0.commits, have_saved cells seats stores closed.1)
have_saved [] [] (store ∷ stores) closed = absurd closed
have_saved [] (seat ∷ seats) stores closed = absurd closed
have_saved (cell ∷ cells) [] stores closed = absurd closed
have_saved (cell ∷ cells) (seat ∷ seats) [] closed = absurd closed

-- ---- paths

-- a store, whose file stands where it stood
kept_path : (c : Loaded) (cs : List Loaded) → is_store c.kind ≡ true → paths_of (stores_of cs) ≡ paths_of cs → paths_of (stores_of (c ∷ cs)) ≡ paths_of (c ∷ cs)
kept_path c cs store same = ap (λ (b : Bool). paths_of (cond b (c ∷ stores_of cs) (stores_of cs))) store ∙ ap (λ (ps : List (List ℕ)). cons_option (journal_of c) ps) same

-- a component that is no store, and has no journal
passed_path : (c : Loaded) (cs : List Loaded) (k : ComponentKind) → c.kind ≡ k → is_store k ≡ false → journal_of (record c { kind = k }) ≡ None → paths_of (stores_of cs) ≡ paths_of cs → paths_of (stores_of (c ∷ cs)) ≡ paths_of (c ∷ cs)
passed_path c cs k is other bare same =
    let none : journal_of c ≡ None = subst (λ (k' : ComponentKind). journal_of (record c { kind = k' }) ≡ None) (sym is) bare in
    ap (λ (b : Bool). paths_of (cond b (c ∷ stores_of cs) (stores_of cs))) (ap is_store is ∙ other) ∙ (same ∙ ap (λ (p : Option (List ℕ)). cons_option p (paths_of cs)) (sym none))

path_of_kind : (c : Loaded) (cs : List Loaded) (k : ComponentKind) → c.kind ≡ k → paths_of (stores_of cs) ≡ paths_of cs → paths_of (stores_of (c ∷ cs)) ≡ paths_of (c ∷ cs)
path_of_kind c cs kind.StateMemory is same = kept_path c cs (ap is_store is) same
path_of_kind c cs kind.StateJournal is same = kept_path c cs (ap is_store is) same
path_of_kind c cs kind.PubsubMemory is same = passed_path c cs kind.PubsubMemory is refl refl same
path_of_kind c cs kind.BindingHttp is same = passed_path c cs kind.BindingHttp is refl refl same
path_of_kind c cs kind.BindingCron is same = passed_path c cs kind.BindingCron is refl refl same

-- only stores have journals
same_paths : (cs : List Loaded) → paths_of (stores_of cs) ≡ paths_of cs
same_paths [] = refl
same_paths (c ∷ cs) = path_of_kind c cs c.kind refl (same_paths cs)

followed_own : (said : Result (List Loaded) SpecErr) (before : List Loaded) → AreApart (paths_of before) → IfOk (follow said (λ more. joined (length before + length more) before more)) (λ all. AreApart (paths_of all))
followed_own (Ok more) before own = joined_own (length before + length more) before more own
followed_own (Err e) before own = tt

-- a file that is added leaves paths that differ
adds_own : (reading : Reading) (bytes : List ℕ) (before after : Resources) → Adds reading bytes before after → AreApart (paths_of before.components) → AreApart (paths_of after.components)
adds_own reading bytes before after adds own = subst (λ (r : Result (List Loaded) SpecErr). IfOk r (λ all. AreApart (paths_of all))) adds.components (followed_own _ before.components own)

all_own : (reading : Reading) (before : Resources) (files : List FileRead) (after : Resources) → AllAdd reading before files after → AreApart (paths_of before.components) → AreApart (paths_of after.components)
all_own reading before [] after same own = subst (λ (r : Resources). AreApart (paths_of r.components)) (sym same) own
all_own reading before (file ∷ later) after adds own = all_own reading adds.0 later after adds.1.1 (adds_own reading file.bytes before adds.0 adds.1.0 own)

-- the journals that are configured have paths of their own
pub configured_own : (folder : Option (List ℕ)) (app : List ℕ) (subscribing : Bool) (files files' : FilesAt) (resources : Resources) → IsConfigured folder app subscribing files files' (Ok resources) → AreApart (paths_of (stores_of resources.components))
configured_own None app subscribing files files' resources read = subst (λ (r : Resources). AreApart (paths_of (stores_of r.components))) (sym read.1) tt
configured_own (Some folder) app subscribing files files' resources read = subst AreApart (sym (same_paths resources.components)) (all_own (reading_for app subscribing) _ _ resources read.1.0.added tt)
