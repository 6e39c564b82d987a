-- Components that were loaded have files of their own.
use Rattle.std.proofs.Common.{◌≡◌, ◌≢◌, ℕ, suc, Bool, true, false, ◌||◌, bytes_eq, List, [], ◌∷◌, ◌++◌, length, nat_lt, if◌then◌else◌, Option, Some, None, Result, Ok, Err, refl, sym, subst}
use Rattle.std.specs.Prelude.{IfOk}
use Rattle.std.specs.List.{list_any, cons_option}
use Rattle.std.proofs.lemmas.Bool.{or_parts, both_ways, true≢false}
use Rattle.std.proofs.lemmas.List.{append-nil}
use Rattle.std.proofs.lemmas.Slice.Eq.{bytes_eq-Decides}
use Rattle.yaml_subset.specs.Trees.{Trees, none, tree}
use Rattle.resource_spec.specs.Component.{Loaded}
use Rattle.resource_spec.specs.Follow.{follow}
use Rattle.resource_spec.specs.Load.{journal_of, is_second, is_same_file, clashes, added, with_document, document_loaded, loaded, joined, component_in}
use Rattle.resource_spec.specs.declared.spec_err.SpecErr.{SpecErr}
use Rattle.resource_spec.specs.declared.spec_err.SpecErr.TheVariants.{Repeated, TooMany}
use Rattle.sidecar_keepers.specs.Stores.{paths_of}
use Rattle.sidecar_keepers.specs.Runs.{IsNoneOf, AreApart}
use Rattle.sidecar_keepers.proofs.Places.{paths-append}

abbrev HaveOwn : List Loaded → Type 0
HaveOwn components = AreApart (paths_of components)

none_of_more : (path other : List ℕ) (paths : List (List ℕ)) → IsNoneOf path paths → other ≢ path → IsNoneOf path (paths ++ other ∷ [])
none_of_more path other [] off differs = (differs, tt)
none_of_more path other (first ∷ paths) off differs = (off.0, none_of_more path other paths off.1 differs)

apart_more : (paths : List (List ℕ)) (path : List ℕ) → AreApart paths → IsNoneOf path paths → AreApart (paths ++ path ∷ [])
apart_more [] path apart off = (tt, tt)
apart_more (first ∷ paths) path apart off = (none_of_more first path paths apart.0 (λ is. off.0 (sym is)), apart_more paths path apart.1 off.1)

first_false : (a b c : Bool) → (a || b || c) ≡ false → a ≡ false
first_false true b c is = absurd (true≢false is)
first_false false b c is = refl

other_file : (path : List ℕ) (file : Option (List ℕ)) (rest : List (List ℕ)) → is_same_file (Some path) file ≡ false → IsNoneOf path rest → IsNoneOf path (cons_option file rest)
other_file path None rest differs off = off
other_file path (Some other) rest differs off = (λ is. both_ways (bytes_eq path other) (first_false (bytes_eq path other) (is_second path other) (is_second other path) differs) ((bytes_eq-Decides path other).1 (sym is)), off)

no_clash : (c : Loaded) (path : List ℕ) → journal_of c ≡ Some path → (components : List Loaded) → list_any (clashes c) components ≡ false → IsNoneOf path (paths_of components)
no_clash c path named [] off = tt
no_clash c path named (other ∷ others) off =
    let parts = or_parts (clashes c other) (list_any (clashes c) others) off in
    let file = (or_parts (bytes_eq c.name other.name) (is_same_file (journal_of c) (journal_of other)) parts.0).1 in
    other_file path (journal_of other) (paths_of others) (subst (λ (p : Option (List ℕ)). is_same_file p (journal_of other) ≡ false) named file) (no_clash c path named others parts.1)

with_one : (c : Loaded) (components : List Loaded) (file : Option (List ℕ)) → journal_of c ≡ file → list_any (clashes c) components ≡ false → HaveOwn components → AreApart (paths_of components ++ cons_option file [])
with_one c components None named off own = subst AreApart (sym (append-nil (paths_of components))) own
with_one c components (Some path) named off own = apart_more (paths_of components) path own (no_clash c path named components off)

by_tests : (count : ℕ) (c : Loaded) (components : List Loaded) (clash room : Bool) → (clash ≡ false → HaveOwn (components ++ c ∷ [])) → IfOk {T = List Loaded} {E = SpecErr} (if clash then Err (Repeated c.name) else if room then Ok (components ++ c ∷ []) else Err (TooMany count)) HaveOwn
by_tests count c components true room own = tt
by_tests count c components false true own = own refl
by_tests count c components false false own = tt

added_own : (count : ℕ) (c : Loaded) (components : List Loaded) → HaveOwn components → IfOk (added count c components) HaveOwn
added_own count c components own = by_tests count c components (list_any (clashes c) components) (nat_lt (length components) 256) (λ off. subst AreApart (sym (paths-append components (c ∷ []))) (with_one c components (journal_of c) refl off own))

follow_own : {A : Type 0} (r : Result A SpecErr) (P : A → Type 0) (f : A → Result (List Loaded) SpecErr) → IfOk r P → ((x : A) → P x → IfOk (f x) HaveOwn) → IfOk (follow r f) HaveOwn
follow_own (Ok x) P f is next = next x is
follow_own (Err e) P f is next = tt

any_ok : {A : Type 0} (r : Result A SpecErr) → IfOk r (λ _. Unit {0})
any_ok (Ok x) = tt
any_ok (Err e) = tt

pub joined_own : (count : ℕ) (components others : List Loaded) → HaveOwn components → IfOk (joined count components others) HaveOwn
joined_own count components [] own = own
joined_own count components (c ∷ others) own = follow_own (added count c components) HaveOwn (λ more. joined count more others) (added_own count c components own) (λ more next. joined_own count more others next)

document_own : (doc : ℕ) (components : List Loaded) (row : Trees) (name : Option (List ℕ)) → HaveOwn components → IfOk (with_document doc components row name) HaveOwn
document_own doc components row None own = own
document_own doc components row (Some name) own = follow_own (component_in doc name row) (λ _. Unit {0}) (λ c. added 257 c components) (any_ok (component_in doc name row)) (λ c _. added_own 257 c components own)

pub loaded_own : (app : List ℕ) (doc : ℕ) (components : List Loaded) (docs : Trees) → HaveOwn components → IfOk (loaded app doc components docs) HaveOwn
loaded_own app doc components none own = own
loaded_own app doc components (tree t inner later) own =
    follow_own (document_loaded app doc components (tree t inner later)) HaveOwn (λ more. loaded app (suc doc) more later)
    (follow_own _ (λ _. Unit {0}) (with_document doc components (tree t inner later)) (any_ok _) (λ name _. document_own doc components (tree t inner later) name own))
    (λ more next. loaded_own app (suc doc) more later next)
