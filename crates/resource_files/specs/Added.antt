-- What a resource file adds to what the files before it say, and why it is refused.
use Rattle.std.specs.Prelude.{◌≡◌, ◌⊎◌, ◌+◌, ◌<◌, ◌≤◌, ℕ, Bool, true, false, List, [], length, Result, Ok, Err}
use Rattle.yaml_subset.specs.Trees.{Trees}
use Rattle.yaml_subset.specs.File.{IsFile, IsRefusal}
use Rattle.yaml_subset.specs.Docs.{Shows}
use Rattle.yaml_subset.specs.declared.error.YamlErr.{YamlErr}
use Rattle.resource_spec.specs.Component.{Loaded}
use Rattle.resource_spec.specs.Follow.{follow}
use Rattle.resource_spec.specs.Load.{loaded, joined}
use Rattle.resource_spec.specs.declared.spec_err.SpecErr.{SpecErr}
use Rattle.policy_spec.specs.Policies.{Binding}
use Rattle.policy_spec.specs.Readers.{Readers, AreReaders}
use Rattle.policy_spec.specs.Resiliency.{nothing_bound}
use Rattle.policy_spec.specs.Resiliency.{loaded as policies_loaded}
use Rattle.policy_spec.specs.Join.{first_repeated, IsRefused, IsBoth}
use Rattle.policy_spec.specs.declared.policy_err.PolicyErr.{PolicyErr}
use Rattle.resource_files.specs.declared.resources.Resources.{Resources}
use Rattle.resource_files.specs.declared.resources.Refusal.{Refusal}
use Rattle.topic_spec.specs.declared.sub.Sub.{Sub}
use Rattle.topic_spec.specs.declared.sub_err.SubErr.{SubErr}
use Rattle.topic_spec.specs.Documents.{all_said}
use Rattle.topic_spec.specs.Loading.{Loads}
use Rattle.topic_spec.specs.Joining.{joined as subscriptions_joined}
use Rattle.resource_files.specs.declared.resources.Refusal.TheVariants.{TooLong, Yaml, Components, Subscriptions, Policies}

-- what no file says: no component, no subscription, and nothing is bound
abbrev pub nothing_said : Resources
nothing_said = record { components = []; subscriptions = []; policies = nothing_bound }

-- for which app files are read, and whether their subscriptions are
pub record Reading : Type 0 where
  pub app : List ℕ
  pub subscribing : Bool

abbrev pub reading_for : List ℕ → Bool → Reading
reading_for app subscribing = record { app = app; subscribing = subscribing }

-- the components that these documents say for the app, behind those of the files before
abbrev pub components_with : List ℕ → Trees → List Loaded → Result (List Loaded) SpecErr
components_with app documents before = follow (loaded app 0 [] documents) (λ more. joined (length before + length more) before more)

-- the subscriptions that these documents say for the app, or why they are refused
abbrev pub Subscribes : List ℕ → Trees → Result (List Sub) SubErr → Type 0
Subscribes app documents said = Loads 0 [] (all_said app 0 documents) said

-- behind those of the files before; where they are passed over there are those of the files before alone
abbrev pub SubscribedWhere : Bool → List ℕ → Trees → List Sub → List Sub → Type 0
SubscribedWhere true app documents before after = (said : List Sub) × (Subscribes app documents (Ok said) × (subscriptions_joined before said ≡ Ok after))
SubscribedWhere false app documents before after = after ≡ before

abbrev pub AreSubscribed : Reading → Trees → List Sub → List Sub → Type 0
AreSubscribed reading = SubscribedWhere reading.subscribing reading.app

-- what these documents bind to targets for the app, whatever reads their durations and trips as they are
abbrev pub Binds : List ℕ → Trees → Result Binding PolicyErr → Type 0
Binds app documents said = (readers : Readers) → AreReaders readers → policies_loaded readers app 0 nothing_bound documents ≡ said

-- a file of these bytes is read, and says what stands after it together with what stood before
pub record Adds (reading : Reading) (bytes : List ℕ) (before after : Resources) : Type 0 where
  pub within : length bytes ≤ 1048576
  pub documents : Trees
  pub shows : Shows documents bytes
  pub components : components_with reading.app documents before.components ≡ Ok after.components
  pub bound : Binding
  pub binds : Binds reading.app documents (Ok bound)
  pub both : IsBoth before.policies bound after.policies
  pub subscribed : AreSubscribed reading documents before.subscriptions after.subscriptions

-- the bytes are refused as YAML, so that they say no documents
pub record IsNoYaml (bytes : List ℕ) (e : YamlErr) : Type 0 where
  pub within : length bytes ≤ 1048576
  pub refusal : IsRefusal bytes e
  pub only : (documents : Trees) → IsFile bytes documents → ⊥

-- the components of a file are refused, or a joining of them to those before
pub record HasNoComponents (reading : Reading) (bytes : List ℕ) (before : Resources) (e : SpecErr) : Type 0 where
  pub within : length bytes ≤ 1048576
  pub documents : Trees
  pub shows : Shows documents bytes
  pub refused : components_with reading.app documents before.components ≡ Err e

-- the policies of documents are refused, or one of their targets is bound before
abbrev pub AreRefused : List ℕ → Trees → Binding → PolicyErr → Type 0
AreRefused app documents before e = Binds app documents (Err e) ⊎ ((bound : Binding) × Binds app documents (Ok bound) × IsRefused e (first_repeated before bound))

-- the policies of a file are refused, and its components are not
pub record HasNoPolicies (reading : Reading) (bytes : List ℕ) (before : Resources) (e : PolicyErr) : Type 0 where
  pub within : length bytes ≤ 1048576
  pub documents : Trees
  pub shows : Shows documents bytes
  pub components : List Loaded
  pub joined_are : components_with reading.app documents before.components ≡ Ok components
  pub refused : AreRefused reading.app documents before.policies e

-- the subscriptions of documents are read and refused, or there are too many behind those before
abbrev pub UnsubscribedWhere : Bool → List ℕ → Trees → List Sub → SubErr → Type 0
UnsubscribedWhere true app documents before e = Subscribes app documents (Err e) ⊎ ((said : List Sub) × (Subscribes app documents (Ok said) × (subscriptions_joined before said ≡ Err e)))
UnsubscribedWhere false app documents before e = ⊥

abbrev pub AreUnsubscribed : Reading → Trees → List Sub → SubErr → Type 0
AreUnsubscribed reading = UnsubscribedWhere reading.subscribing reading.app

-- the subscriptions of a file are refused, and its components and policies are not
pub record HasNoSubscriptions (reading : Reading) (bytes : List ℕ) (before : Resources) (e : SubErr) : Type 0 where
  pub within : length bytes ≤ 1048576
  pub documents : Trees
  pub shows : Shows documents bytes
  pub components : List Loaded
  pub joined_are : components_with reading.app documents before.components ≡ Ok components
  pub bound : Binding
  pub binds : Binds reading.app documents (Ok bound)
  pub policies : Binding
  pub both : IsBoth before.policies bound policies
  pub refused : AreUnsubscribed reading documents before.subscriptions e

-- a file of these bytes is refused so behind those that say what stood before: for its length, as YAML, for its components,
-- its policies or its subscriptions, the first of them that refuses
abbrev pub IsRefusedBehind : Reading → List ℕ → Resources → Refusal → Type 0
IsRefusedBehind reading bytes before (TooLong len) = (length bytes ≡ len) × (1048576 < len)
IsRefusedBehind reading bytes before (Yaml e) = IsNoYaml bytes e
IsRefusedBehind reading bytes before (Components e) = HasNoComponents reading bytes before e
IsRefusedBehind reading bytes before (Policies e) = HasNoPolicies reading bytes before e
IsRefusedBehind reading bytes before (Subscriptions e) = HasNoSubscriptions reading bytes before e
