-- Components place by place.
use Rattle.std.proofs.Common.{◌≡◌, ◌∙◌, ◌<◌, ◌+◌, ℕ, suc, List, [], ◌∷◌, ◌++◌, length, map, take, drop, slice_index_or, codes, Option, Some, None, sym, ap, subst, refl}
use Rattle.std.specs.List.{cons_option}
use Rattle.std.proofs.Math.Seq.{drop-cons}
use Rattle.std.proofs.lemmas.List.{map-append, take_more, take-append-drop}
use Rattle.std.proofs.lemmas.List.Elements.{filter-append, filter_map-append}
use Rattle.resource_spec.specs.declared.component.ComponentKind.{ComponentKind}
use Rattle.resource_spec.specs.declared.component.ComponentKind.TheVariants.{StateMemory, StateJournal}
use Rattle.resource_spec.specs.Component.{Loaded, setting_of}
use Rattle.resource_spec.specs.Load.{journal_of}
use Rattle.side_world.specs.declared.outside.OutsideCall.TheVariants.{TakeDisk}
use Rattle.sidecar_keepers.specs.Stores.{is_store, stores_of, paths_of, takes_of}

pub stores-append : (front behind : List Loaded) → stores_of (front ++ behind) ≡ stores_of front ++ stores_of behind
stores-append front behind = filter-append (λ (c : Loaded). is_store c.kind) front behind

pub paths-append : (front behind : List Loaded) → paths_of (front ++ behind) ≡ paths_of front ++ paths_of behind
paths-append front behind = filter_map-append journal_of front behind

pub takes-append : (front behind : List Loaded) → takes_of (front ++ behind) ≡ takes_of front ++ takes_of behind
takes-append front behind = ap (map TakeDisk) (paths-append front behind) ∙ map-append TakeDisk (paths_of front) (paths_of behind)

module _ (xs : List Loaded) (i : ℕ) (x : Loaded) (low : i < length xs) (is : x ≡ slice_index_or xs i x) where
  -- one more of a list
  pub one_more : take (i + 1) xs ≡ take i xs ++ x ∷ []
  one_more = take_more xs i x low ∙ (λ j. take i xs ++ sym is j ∷ [])

  -- the next one of those that are left
  pub next_left : drop i xs ≡ x ∷ drop (suc i) xs
  next_left = drop-cons xs i x low ∙ (λ j. sym is j ∷ drop (suc i) xs)

  -- a list at one of its places
  pub at_place : xs ≡ take i xs ++ x ∷ drop (suc i) xs
  at_place = sym (take-append-drop i xs) ∙ ap (λ l. take i xs ++ l) next_left

  pub stores_more : stores_of (take (i + 1) xs) ≡ stores_of (take i xs) ++ stores_of (x ∷ [])
  stores_more = ap stores_of one_more ∙ stores-append (take i xs) (x ∷ [])

  pub takes_more : takes_of (take (i + 1) xs) ≡ takes_of (take i xs) ++ takes_of (x ∷ [])
  takes_more = ap takes_of one_more ∙ takes-append (take i xs) (x ∷ [])

-- a component in memory is no journal
pub no_file : (c : Loaded) → c.kind ≡ StateMemory → journal_of c ≡ None
no_file c is = subst (λ (kind : ComponentKind). journal_of (record c { kind = kind }) ≡ None) (sym is) refl

pub paths_of_memory : (c : Loaded) (stores : List Loaded) → c.kind ≡ StateMemory → paths_of (c ∷ stores) ≡ paths_of stores
paths_of_memory c stores is = ap (λ (path : Option (List ℕ)). cons_option path (paths_of stores)) (no_file c is)

pub paths_of_journal : (c : Loaded) (stores : List Loaded) (path : List ℕ) → journal_of c ≡ Some path → paths_of (c ∷ stores) ≡ path ∷ paths_of stores
paths_of_journal c stores path named = ap (λ (p : Option (List ℕ)). cons_option p (paths_of stores)) named

-- a journal's file is at its setting `path`
pub file_at : (c : Loaded) (path : List ℕ) → c.kind ≡ StateJournal → setting_of c (codes "path") ≡ Some path → journal_of c ≡ Some path
file_at c path is named = subst (λ (kind : ComponentKind). journal_of (record c { kind = kind }) ≡ Some path) (sym is) named
