-- What documents of all kinds begin with: their kind, its version, a name, and the apps that they are for.
use Rattle.std.specs.Prelude.{◌≡◌, ℕ, Bool, true, false, ◌&&◌, ◌||◌, if◌then◌else◌, List, [], ◌∷◌, bytes_eq, codes, Option, Some, None, Result, Ok, Err}
use Rattle.yaml_subset.specs.PartKind.{PartKind}
use Rattle.yaml_subset.specs.PartKind.TheVariants as kinds
use Rattle.yaml_subset.specs.Trees.{Trees, none, tree}
use Rattle.yaml_subset.specs.Docs.{told_of, inner_of, Walked, absent, wrong, here, walked}
use Rattle.resource_spec.specs.declared.field_err.FieldErr.{FieldErr}
use Rattle.resource_spec.specs.declared.field_err.FieldErr.TheVariants.{Wrong}
use Rattle.resource_spec.specs.Follow.{follow}
use Rattle.resource_spec.specs.Field.{asked_at, IsFieldErr}

-- all items are scalars
abbrev pub is_scalar : PartKind → Bool
is_scalar kinds.Scalar = true
is_scalar kinds.Sequence = false
is_scalar kinds.Mapping = false
is_scalar kinds.Empty = false

abbrev pub are_scalars : Trees → Bool
are_scalars none = true
are_scalars (tree t inner later) = is_scalar t.kind && are_scalars later

-- some item has this text
abbrev pub has_item : List ℕ → Trees → Bool
has_item text none = false
has_item text (tree t inner later) = bytes_eq t.text text || has_item text later

-- whether the items name the app
abbrev pub names_app : List ℕ → Trees → Result Bool FieldErr
names_app app items = if are_scalars items then Ok (has_item app items) else Err (Wrong (codes "scopes"))

-- scopes are a sequence
abbrev pub scopes_named : List ℕ → Trees → Result Bool FieldErr
scopes_named app part = of_kind (told_of part).kind
  where
    of_kind : PartKind → Result Bool FieldErr
    of_kind kinds.Sequence = names_app app (inner_of part)
    of_kind kinds.Scalar = Err (Wrong (codes "scopes"))
    of_kind kinds.Mapping = Err (Wrong (codes "scopes"))
    of_kind kinds.Empty = Err (Wrong (codes "scopes"))

-- a document without scopes is for all apps
abbrev pub scopes_walked : List ℕ → Walked → Result Bool FieldErr
scopes_walked app absent = Ok true
scopes_walked app (wrong passed) = Err (Wrong (codes "scopes"))
scopes_walked app (here part) = scopes_named app part

abbrev pub is_for : List ℕ → Trees → Result Bool FieldErr
is_for app row = scopes_walked app (walked 0 row (codes "scopes" ∷ []))

abbrev pub same_or_wrong : List ℕ → List ℕ → List ℕ → Result (Unit {0}) FieldErr
same_or_wrong field wanted text = if bytes_eq text wanted then Ok tt else Err (Wrong field)

-- the version is this one
abbrev pub has_version : List ℕ → Trees → Result (Unit {0}) FieldErr
has_version version row = follow (asked_at [] (codes "apiVersion" ∷ []) row) (same_or_wrong (codes "apiVersion") version)

-- of a document of this kind: its name, if it is for the app
abbrev pub name_for : List ℕ → Trees → Result (Option (List ℕ)) FieldErr
name_for app row =
    follow (asked_at [] (codes "metadata" ∷ codes "name" ∷ []) row) (λ name.
    follow (is_for app row) (λ listed.
    Ok (if listed then Some name else None)))

-- of a document: its name, if it is of this kind and for the app; all others are passed over
abbrev pub head_of : List ℕ → List ℕ → List ℕ → Trees → Result (Option (List ℕ)) FieldErr
head_of kind version app row = follow (asked_at [] (codes "kind" ∷ []) row) (λ said. if bytes_eq said kind then follow (has_version version row) (λ _. name_for app row) else Ok None)

-- what is read is this, but for want of memory
abbrev pub IsRead : {T : Type 0} → Result T FieldErr → Result T FieldErr → Type 0
IsRead (Ok x) wanted = wanted ≡ Ok x
IsRead (Err e) wanted = IsFieldErr e wanted
