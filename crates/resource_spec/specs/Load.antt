-- What the documents of a file say of components.
use Rattle.std.specs.Prelude.{◌≡◌, ℕ, suc, Bool, true, false, ◌||◌, ◌&&◌, nat_lt, nat_eq, bytes_eq, if◌then◌else◌, List, [], ◌∷◌, ◌++◌, length, drop, codes, unwrap_or, Option, Some, None, Result, Ok, Err}
use Rattle.std.specs.List.{list_any, starts_with}
use Rattle.yaml_subset.specs.PartKind.{PartKind}
use Rattle.yaml_subset.specs.PartKind.TheVariants as parts
use Rattle.yaml_subset.specs.Trees.{Trees, none, tree}
use Rattle.yaml_subset.specs.Docs.{told_of, inner_of, member, Walked, absent, wrong, here, walked}
use Rattle.resource_spec.specs.declared.component.ComponentKind.{ComponentKind}
use Rattle.resource_spec.specs.declared.component.ComponentKind.TheVariants as kinds
use Rattle.resource_spec.specs.declared.setting.Setting.{Setting}
use Rattle.resource_spec.specs.declared.field_err.FieldErr.{FieldErr}
use Rattle.resource_spec.specs.declared.field_err.FieldErr.TheVariants as fields
use Rattle.resource_spec.specs.declared.spec_err.SpecErr.{SpecErr}
use Rattle.resource_spec.specs.declared.spec_err.SpecErr.TheVariants.{Missing, Wrong, Repeated, SecretRef, UnknownType, NoMemory, TooMany}
use Rattle.resource_spec.specs.Follow.{follow}
use Rattle.resource_spec.specs.Setting.{setting_named}
use Rattle.resource_spec.specs.Schedule.{period_in}
use Rattle.resource_spec.specs.Url.{Address, address_of}
use Rattle.resource_spec.specs.Field.{field_at, text_at, asked_at}
use Rattle.resource_spec.specs.Document.{head_of}
use Rattle.resource_spec.specs.Component.{Loaded, kind_name, setting_of}

-- a refusal of a field, in the document of this number
abbrev pub err_in : ℕ → FieldErr → SpecErr
err_in doc (fields.Missing field) = Missing doc field
err_in doc (fields.Wrong field) = Wrong doc field
err_in doc fields.NoMemory = NoMemory

abbrev pub in_doc : {T : Type 0} → ℕ → Result T FieldErr → Result T SpecErr
in_doc doc (Ok x) = Ok x
in_doc doc (Err e) = Err (err_in doc e)

-- the kind of component that has this type
abbrev pub type_named : List ℕ → Option ComponentKind
type_named name =
    if bytes_eq name (kind_name kinds.StateMemory) then Some kinds.StateMemory
    else if bytes_eq name (kind_name kinds.StateJournal) then Some kinds.StateJournal
    else if bytes_eq name (kind_name kinds.PubsubMemory) then Some kinds.PubsubMemory
    else if bytes_eq name (kind_name kinds.BindingHttp) then Some kinds.BindingHttp
    else if bytes_eq name (kind_name kinds.BindingCron) then Some kinds.BindingCron
    else None

-- keys may not be kept by namespaces
abbrev pub prefix_need : Option (List ℕ) → Result (Unit {0}) FieldErr
prefix_need None = Ok tt
prefix_need (Some prefix) = if bytes_eq prefix (codes "namespace") then Err (fields.Wrong (codes "spec.metadata.keyPrefix")) else Ok tt

-- the path of a journal's file must be there
abbrev pub path_need : Option (List ℕ) → Result (Unit {0}) FieldErr
path_need None = Err (fields.Missing (codes "spec.metadata.path"))
path_need (Some path) = Ok tt

-- a binding's address must be there, and be one
abbrev pub address_need : Option Address → Result (Unit {0}) FieldErr
address_need None = Err (fields.Wrong (codes "spec.metadata.url"))
address_need (Some address) = Ok tt

abbrev pub url_need : Option (List ℕ) → Result (Unit {0}) FieldErr
url_need None = Err (fields.Missing (codes "spec.metadata.url"))
url_need (Some url) = address_need (address_of url)

-- a schedule must be there, and say a period
abbrev pub period_need : Option ℕ → Result (Unit {0}) FieldErr
period_need None = Err (fields.Wrong (codes "spec.metadata.schedule"))
period_need (Some ms) = Ok tt

abbrev pub schedule_need : Option (List ℕ) → Result (Unit {0}) FieldErr
schedule_need None = Err (fields.Missing (codes "spec.metadata.schedule"))
schedule_need (Some schedule) = period_need (period_in schedule)

-- what a component of a kind must have among its settings
abbrev pub needs_of : ComponentKind → List Setting → Result (Unit {0}) FieldErr
needs_of kinds.StateMemory settings = prefix_need (setting_named (codes "keyPrefix") settings)
needs_of kinds.StateJournal settings = follow (path_need (setting_named (codes "path") settings)) (λ _. prefix_need (setting_named (codes "keyPrefix") settings))
needs_of kinds.PubsubMemory settings = Ok tt
needs_of kinds.BindingHttp settings = url_need (setting_named (codes "url") settings)
needs_of kinds.BindingCron settings = schedule_need (setting_named (codes "schedule") settings)

abbrev pub is_there : Trees → Bool
is_there none = false
is_there (tree t inner later) = true

-- a setting: its name, and its value, which is empty where none is there; a value that is kept elsewhere is refused
abbrev pub setting_in : ℕ → List ℕ → Trees → Result Setting SpecErr
setting_in doc component row =
    follow (in_doc doc (asked_at (codes "spec.metadata") (codes "name" ∷ []) row)) (λ name.
    if is_there (member (codes "secretKeyRef") row) then Err (SecretRef component)
    else follow (in_doc doc (text_at (codes "spec.metadata") (codes "value" ∷ []) row)) (λ value.
    Ok (record { name = name; value = unwrap_or value [] })))

-- the settings of these items, behind those that are there
abbrev pub settings_from : ℕ → List ℕ → List Setting → Trees → Result (List Setting) SpecErr
settings_from doc component settings none = Ok settings
settings_from doc component settings (tree t inner later) = follow (setting_in doc component (tree t inner later)) (λ setting. settings_from doc component (settings ++ setting ∷ []) later)

abbrev pub settings_listed : ℕ → List ℕ → Trees → Result (List Setting) SpecErr
settings_listed doc component part = of_kind (told_of part).kind
  where
    of_kind : PartKind → Result (List Setting) SpecErr
    of_kind parts.Sequence = settings_from doc component [] (inner_of part)
    of_kind parts.Scalar = Err (Wrong doc (codes "spec.metadata"))
    of_kind parts.Mapping = Err (Wrong doc (codes "spec.metadata"))
    of_kind parts.Empty = Err (Wrong doc (codes "spec.metadata"))

-- settings are a sequence; a component without them has none
abbrev pub settings_walked : ℕ → List ℕ → Walked → Result (List Setting) SpecErr
settings_walked doc component absent = Ok []
settings_walked doc component (wrong passed) = Err (Wrong doc (field_at [] (codes "spec" ∷ codes "metadata" ∷ []) passed))
settings_walked doc component (here part) = settings_listed doc component part

abbrev pub settings_in : ℕ → List ℕ → Trees → Result (List Setting) SpecErr
settings_in doc component row = settings_walked doc component (walked 0 row (codes "spec" ∷ codes "metadata" ∷ []))

-- a type must be known, and have what it needs
abbrev pub component_by : ℕ → List ℕ → Option (List ℕ) → List Setting → Option ComponentKind → Result Loaded SpecErr
component_by doc name version settings None = Err (UnknownType name)
component_by doc name version settings (Some kind) =
    follow (in_doc doc (needs_of kind settings)) (λ _.
    Ok (record { name = name; kind = kind; version = unwrap_or version (codes "v1"); settings = settings }))

-- the component of a document that has this name: its type, its version, and its settings
abbrev pub component_in : ℕ → List ℕ → Trees → Result Loaded SpecErr
component_in doc name row =
    follow (in_doc doc (asked_at [] (codes "spec" ∷ codes "type" ∷ []) row)) (λ type.
    follow (in_doc doc (text_at [] (codes "spec" ∷ codes "version" ∷ []) row)) (λ version.
    follow (settings_in doc name row) (λ settings.
    component_by doc name version settings (type_named type))))

-- the file of a journal
abbrev pub journal_of : Loaded → Option (List ℕ)
journal_of c = of_kind c.kind
  where
    of_kind : ComponentKind → Option (List ℕ)
    of_kind kinds.StateJournal = setting_of c (codes "path")
    of_kind kinds.StateMemory = None
    of_kind kinds.PubsubMemory = None
    of_kind kinds.BindingHttp = None
    of_kind kinds.BindingCron = None

-- a path that is another one with `.v2` behind it
abbrev pub is_second : List ℕ → List ℕ → Bool
is_second path other = starts_with nat_eq path other && bytes_eq (drop (length other) path) (codes ".v2")

abbrev pub is_same_file : Option (List ℕ) → Option (List ℕ) → Bool
is_same_file None other = false
is_same_file (Some path) None = false
is_same_file (Some path) (Some other) = bytes_eq path other || is_second path other || is_second other path

-- two components may have neither one name nor one file
abbrev pub clashes : Loaded → Loaded → Bool
clashes c other = bytes_eq c.name other.name || is_same_file (journal_of c) (journal_of other)

-- components with one more, which clashes with none of them; there are at most 256, and `count` is told of more
abbrev pub added : ℕ → Loaded → List Loaded → Result (List Loaded) SpecErr
added count c components =
    if list_any (clashes c) components then Err (Repeated c.name)
    else if nat_lt (length components) 256 then Ok (components ++ c ∷ [])
    else Err (TooMany count)

-- components with those of a document behind them: it is passed over, or it has this name
abbrev pub with_document : ℕ → List Loaded → Trees → Option (List ℕ) → Result (List Loaded) SpecErr
with_document doc components row None = Ok components
with_document doc components row (Some name) = follow (component_in doc name row) (λ c. added 257 c components)

-- components with the one behind them that a document is, if it is one and for the app
abbrev pub document_loaded : List ℕ → ℕ → List Loaded → Trees → Result (List Loaded) SpecErr
document_loaded app doc components row = follow (in_doc doc (head_of (codes "Component") (codes "dapr.io/v1alpha1") app row)) (with_document doc components row)

-- the components of these documents, the first of which has this number, behind those that are there
abbrev pub loaded : List ℕ → ℕ → List Loaded → Trees → Result (List Loaded) SpecErr
loaded app doc components none = Ok components
loaded app doc components (tree t inner later) = follow (document_loaded app doc components (tree t inner later)) (λ more. loaded app (suc doc) more later)

-- components with others behind them, one after the other
abbrev pub joined : ℕ → List Loaded → List Loaded → Result (List Loaded) SpecErr
joined count components [] = Ok components
joined count components (c ∷ others) = follow (added count c components) (λ more. joined count more others)

-- a refusal is this one, or want of memory
abbrev pub IsSpecErr : {T : Type 0} → SpecErr → Result T SpecErr → Type 0
IsSpecErr (Missing doc field) wanted = wanted ≡ Err (Missing doc field)
IsSpecErr (Wrong doc field) wanted = wanted ≡ Err (Wrong doc field)
IsSpecErr (Repeated name) wanted = wanted ≡ Err (Repeated name)
IsSpecErr (SecretRef name) wanted = wanted ≡ Err (SecretRef name)
IsSpecErr (UnknownType name) wanted = wanted ≡ Err (UnknownType name)
IsSpecErr (TooMany count) wanted = wanted ≡ Err (TooMany count)
IsSpecErr NoMemory wanted = Unit {0}

-- what is loaded is this, but for want of memory
abbrev pub IsLoad : {T : Type 0} → Result T SpecErr → Result T SpecErr → Type 0
IsLoad (Ok x) wanted = wanted ≡ Ok x
IsLoad (Err e) wanted = IsSpecErr e wanted

-- the components after a change are these, or they are unchanged
abbrev pub IsChange : Result (Unit {0}) SpecErr → List Loaded → List Loaded → Result (List Loaded) SpecErr → Type 0
IsChange (Ok done) old new wanted = wanted ≡ Ok new
IsChange (Err e) old new wanted = IsSpecErr e wanted × (new ≡ old)
