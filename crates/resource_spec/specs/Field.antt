-- Fields of a document, by the path of names that leads to them.
use Rattle.std.specs.Prelude.{◌≡◌, ℕ, zero, suc, if◌then◌else◌, List, [], ◌∷◌, ◌++◌, length, take, Option, Some, None, option_map, Result, Ok, Err}
use Rattle.std.specs.Borrow.{Bor}
use Rattle.std.specs.Str.{is_utf8}
use Rattle.yaml_subset.specs.PartKind.{PartKind}
use Rattle.yaml_subset.specs.PartKind.TheVariants as kinds
use Rattle.yaml_subset.specs.Trees.{Told, Trees}
use Rattle.yaml_subset.specs.Docs.{told_of, Walked, absent, wrong, here, walked}
use Rattle.resource_spec.specs.declared.field_err.FieldErr.{FieldErr}
use Rattle.resource_spec.specs.declared.field_err.FieldErr.TheVariants.{Missing, Wrong, NoMemory}
use Rattle.resource_spec.specs.Follow.{follow}

-- a name behind others, with a dot between
abbrev pub with_name : List ℕ → List ℕ → List ℕ
with_name [] name = name
with_name (byte ∷ others) name = (byte ∷ others) ++ 46 ∷ name

-- names behind others, with dots between them
abbrev pub with_names : List ℕ → List (List ℕ) → List ℕ
with_names field [] = field
with_names field (name ∷ names) = with_names (with_name field name) names

-- a document that has no members itself is named by the first of the names
abbrev pub at_least : List ℕ → ℕ → ℕ
at_least [] zero = 1
at_least [] (suc passed) = suc passed
at_least (byte ∷ others) passed = passed

-- the field that so many names of a path lead to, which begins at a part that is this field
abbrev pub field_at : List ℕ → List (List ℕ) → ℕ → List ℕ
field_at field path passed = with_names field (take (at_least field passed) path)

-- the text that a part is: a scalar in UTF-8
abbrev pub text_of : Told → Option (List ℕ)
text_of t = of_kind t.kind
  where
    of_kind : PartKind → Option (List ℕ)
    of_kind kinds.Scalar = if is_utf8 t.text then Some t.text else None
    of_kind kinds.Sequence = None
    of_kind kinds.Mapping = None
    of_kind kinds.Empty = None

abbrev pub or_wrong : List ℕ → Option (List ℕ) → Result (Option (List ℕ)) FieldErr
or_wrong field None = Err (Wrong field)
or_wrong field (Some text) = Ok (Some text)

abbrev pub text_walked : List ℕ → List (List ℕ) → Walked → Result (Option (List ℕ)) FieldErr
text_walked field path absent = Ok None
text_walked field path (wrong passed) = Err (Wrong (field_at field path passed))
text_walked field path (here part) = or_wrong (field_at field path (length path)) (text_of (told_of part))

-- the text of a field, which may be absent or empty; the path begins at a part that is this field
abbrev pub text_at : List ℕ → List (List ℕ) → Trees → Result (Option (List ℕ)) FieldErr
text_at field path row = text_walked field path (walked 0 row path)

abbrev pub or_missing : List ℕ → Option (List ℕ) → Result (List ℕ) FieldErr
or_missing field None = Err (Missing field)
or_missing field (Some text) = Ok text

-- the text of a field, which must be there
abbrev pub asked_at : List ℕ → List (List ℕ) → Trees → Result (List ℕ) FieldErr
asked_at field path row = follow (text_at field path row) (or_missing (field_at field path (length path)))

-- a refusal is this one, or want of memory
abbrev pub IsFieldErr : {T : Type 0} → FieldErr → Result T FieldErr → Type 0
IsFieldErr (Missing field) wanted = wanted ≡ Err (Missing field)
IsFieldErr (Wrong field) wanted = wanted ≡ Err (Wrong field)
IsFieldErr NoMemory wanted = Unit {0}

-- what is read is this, but for want of memory
abbrev pub IsAsked : Result (Bor (List ℕ)) FieldErr → Result (List ℕ) FieldErr → Type 0
IsAsked (Ok text) wanted = wanted ≡ Ok text.now
IsAsked (Err e) wanted = IsFieldErr e wanted

abbrev pub IsSaid : Result (Option (Bor (List ℕ))) FieldErr → Result (Option (List ℕ)) FieldErr → Type 0
IsSaid (Ok text) wanted = wanted ≡ Ok (option_map (λ t. t.now) text)
IsSaid (Err e) wanted = IsFieldErr e wanted
