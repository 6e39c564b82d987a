-- A subscription as it is written down, before its rules are read.
use Rattle.std.specs.Prelude.{◌≡◌, ℕ, Bool, true, false, ◌==◌, bytes_eq, if◌then◌else◌, List, [], ◌∷◌, Option, Some, None, option_map, Result, Ok, Err}
use Rattle.resource_spec.specs.declared.field_err.FieldErr.{FieldErr}
use Rattle.resource_spec.specs.declared.field_err.FieldErr.TheVariants as fields
use Rattle.topic_spec.specs.declared.draft.RuleText.{RuleText}
use Rattle.topic_spec.specs.declared.draft.Routes.{Routes}
use Rattle.topic_spec.specs.declared.draft.Draft.{Draft}
use Rattle.topic_spec.specs.declared.sub_err.SubErr.{SubErr}
use Rattle.topic_spec.specs.declared.sub_err.SubErr.TheVariants.{Missing, Wrong, NoMemory, SelfDead, TooMany, Rule}

-- a path begins with a slash: one that doesn't gets it
unfoldable pub with_slash : List ℕ → List ℕ
with_slash [] = 47 ∷ []
with_slash (byte ∷ bytes) = if byte == 47 then byte ∷ bytes else 47 ∷ byte ∷ bytes

-- routes have a rule or a default
abbrev pub some_route : List ℕ → List RuleText → Option (List ℕ) → Result Routes FieldErr
some_route field [] None = Err (fields.Missing field)
some_route field [] (Some path) = Ok (record { rules = []; default = Some path })
some_route field (rule ∷ rules) default = Ok (record { rules = rule ∷ rules; default = default })

-- the one route of a subscription without rules
abbrev pub one_route : List ℕ → Option (List ℕ) → Result Routes FieldErr
one_route field path = some_route field [] (option_map with_slash path)

abbrev pub is_same : List ℕ → Option (List ℕ) → Bool
is_same topic None = false
is_same topic (Some dead) = bytes_eq dead topic

-- the dead-letter topic is another one than the topic
abbrev pub unless_self : List ℕ → Draft → Result Draft SubErr
unless_self name draft = if is_same draft.topic draft.dead then Err (SelfDead name) else Ok draft

-- a refusal of a field, in the document of this number
abbrev pub err_in : ℕ → FieldErr → SubErr
err_in doc (fields.Missing field) = Missing doc field
err_in doc (fields.Wrong field) = Wrong doc field
err_in doc fields.NoMemory = NoMemory

abbrev pub in_doc : {T : Type 0} → ℕ → Result T FieldErr → Result T SubErr
in_doc doc (Ok x) = Ok x
in_doc doc (Err e) = Err (err_in doc e)

-- a refusal is this one, or want of memory
abbrev pub IsSubErr : {T : Type 0} → SubErr → Result T SubErr → Type 0
IsSubErr (Missing doc field) wanted = wanted ≡ Err (Missing doc field)
IsSubErr (Wrong doc field) wanted = wanted ≡ Err (Wrong doc field)
IsSubErr NoMemory wanted = Unit {0}
IsSubErr (SelfDead name) wanted = wanted ≡ Err (SelfDead name)
IsSubErr (TooMany count) wanted = wanted ≡ Err (TooMany count)
IsSubErr (Rule doc at) wanted = wanted ≡ Err (Rule doc at)

-- what is written down is this, but for want of memory
abbrev pub IsSaid : {T : Type 0} → Result T SubErr → Result T SubErr → Type 0
IsSaid (Ok x) wanted = wanted ≡ Ok x
IsSaid (Err e) wanted = IsSubErr e wanted
