-- Keepers are of the kinds of their components exactly where the truth value says so.
use Rattle.std.specs.Prelude.{◌≡◌, Bool, true, false, ◌&&◌, List, [], ◌∷◌, refl}
use Rattle.std.proofs.Common.{ap, sym, true≢false}
use Rattle.side_world.specs.declared.disk.Disk.{Ghosts}
use Rattle.keeper_journal.specs.declared.any_keeper.AnyKeeper.{AnyKeeper}
use Rattle.keeper_journal.specs.declared.any_keeper.AnyKeeper.TheVariants.{Memory, Journal}
use Rattle.resource_spec.specs.declared.component.ComponentKind.{ComponentKind}
use Rattle.resource_spec.specs.declared.component.ComponentKind.TheVariants as kind
use Rattle.resource_spec.specs.Component.{Loaded}
use Rattle.sidecar_keepers.specs.Kinds.{AllFit, Fits}
use Rattle.sidecar_cli.specs.Fits.{all_fit, fits, is_in_memory, is_on_journal}

both : (one other : Bool) → one ≡ true → other ≡ true → (one && other) ≡ true
both true other first second = second
both false other first second = absurd (true≢false (sym first))

each : (one other : Bool) → (one && other) ≡ true → (one ≡ true) × (other ≡ true)
each true other is = (refl, is)
each false other is = absurd (true≢false (sym is))

in_memory : (k : ComponentKind) → is_in_memory k ≡ true → k ≡ kind.StateMemory
in_memory kind.StateMemory is = refl
in_memory kind.StateJournal is = absurd (true≢false (sym is))
in_memory kind.PubsubMemory is = absurd (true≢false (sym is))
in_memory kind.BindingHttp is = absurd (true≢false (sym is))
in_memory kind.BindingCron is = absurd (true≢false (sym is))

on_journal : (k : ComponentKind) → is_on_journal k ≡ true → k ≡ kind.StateJournal
on_journal kind.StateJournal is = refl
on_journal kind.StateMemory is = absurd (true≢false (sym is))
on_journal kind.PubsubMemory is = absurd (true≢false (sym is))
on_journal kind.BindingHttp is = absurd (true≢false (sym is))
on_journal kind.BindingCron is = absurd (true≢false (sym is))

module _ {D : Type 0} {disking : Ghosts D} where
  one_fits : (c : Loaded) (keeper : AnyKeeper D disking) → fits c keeper ≡ true → Fits c keeper
  one_fits c (Memory keeper) is = in_memory c.kind is
  one_fits c (Journal keeper) is = on_journal c.kind is

  fits_one : (c : Loaded) (keeper : AnyKeeper D disking) → Fits c keeper → fits c keeper ≡ true
  fits_one c (Memory keeper) is = ap is_in_memory is
  fits_one c (Journal keeper) is = ap is_on_journal is

  pub told_fit : (components : List Loaded) (keepers : List (AnyKeeper D disking)) → all_fit components keepers ≡ true → AllFit components keepers
  told_fit [] [] is = tt
  told_fit (c ∷ cs) (keeper ∷ keepers) is = let e = each (fits c keeper) (all_fit cs keepers) is in (one_fits c keeper e.0, told_fit cs keepers e.1)
  told_fit [] (keeper ∷ keepers) is = absurd (true≢false (sym is))
  told_fit (c ∷ cs) [] is = absurd (true≢false (sym is))

  pub fit_told : (components : List Loaded) (keepers : List (AnyKeeper D disking)) → AllFit components keepers → all_fit components keepers ≡ true
  fit_told [] [] fit = refl
  fit_told (c ∷ cs) (keeper ∷ keepers) fit = both (fits c keeper) (all_fit cs keepers) (fits_one c keeper fit.0) (fit_told cs keepers fit.1)
  fit_told [] (keeper ∷ keepers) fit = absurd fit
  fit_told (c ∷ cs) [] fit = absurd fit
