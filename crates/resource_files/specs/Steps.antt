-- What the steps of a reading do: the components, the subscriptions, the policies and the whole of one file, and one call for a file.
use Rattle.std.specs.Prelude.{◌≡◌, ℕ, false, List, Option, Result, Ok, Err}
use Rattle.yaml_subset.specs.Trees.{Trees}
use Rattle.resource_spec.specs.Component.{Loaded}
use Rattle.resource_spec.specs.declared.spec_err.SpecErr.{SpecErr}
use Rattle.policy_spec.specs.Policies.{Binding}
use Rattle.policy_spec.specs.Join.{IsBoth}
use Rattle.policy_spec.specs.declared.policy_err.PolicyErr.{PolicyErr}
use Rattle.topic_spec.specs.declared.sub.Sub.{Sub}
use Rattle.topic_spec.specs.declared.sub_err.SubErr.{SubErr}
use Rattle.side_world.specs.Faults.{Rose}
use Rattle.side_world.specs.Files.{Folders, HasBytes}
use Rattle.side_world.specs.declared.files.FilesErr.{FilesErr}
use Rattle.side_world.specs.declared.files.FilesErr.TheVariants as files
use Rattle.resource_files.specs.declared.resources.Resources.{Resources}
use Rattle.resource_files.specs.declared.resources.Refusal.{Refusal}
use Rattle.resource_files.specs.declared.resources.Refusal.TheVariants.{TooLong}
use Rattle.resource_files.specs.declared.resources.ResourcesErr.{ResourcesErr}
use Rattle.resource_files.specs.declared.resources.ResourcesErr.TheVariants.{Refused, Failed, NoMemory}
use Rattle.resource_files.specs.Refusals.{components_want_memory, subscriptions_want_memory, policies_want_memory, wants_memory}
use Rattle.resource_files.specs.Added.{components_with, AreSubscribed, AreUnsubscribed, Binds, AreRefused, Adds, IsRefusedBehind, Reading}

-- the components of documents are added to others, or refused but for want of memory
abbrev pub AddsComponents : List ℕ → Trees → List Loaded → List Loaded → Result (Unit {0}) SpecErr → Type 0
AddsComponents app documents old new (Ok done) = components_with app documents old ≡ Ok new
AddsComponents app documents old new (Err e) = components_want_memory e ≡ false → components_with app documents old ≡ Err e

-- the same of what they bind
abbrev pub AddsPolicies : List ℕ → Trees → Binding → Binding → Result (Unit {0}) PolicyErr → Type 0
AddsPolicies app documents old new (Ok done) = (bound : Binding) × (Binds app documents (Ok bound) × IsBoth old bound new)
AddsPolicies app documents old new (Err e) = policies_want_memory e ≡ false → AreRefused app documents old e

-- the same of their subscriptions, where these are read
abbrev pub AddsSubscriptions : Reading → Trees → List Sub → List Sub → Result (Unit {0}) SubErr → Type 0
AddsSubscriptions reading documents old new (Ok done) = AreSubscribed reading documents old new
AddsSubscriptions reading documents old new (Err e) = subscriptions_want_memory e ≡ false → AreUnsubscribed reading documents old e

-- the same of a file of these bytes
abbrev pub AddsFile : Reading → List ℕ → Resources → Resources → Result (Unit {0}) Refusal → Type 0
AddsFile reading bytes old new (Ok done) = Adds reading bytes old new
AddsFile reading bytes old new (Err refusal) = wants_memory refusal ≡ false → IsRefusedBehind reading bytes old refusal

-- a file that was called for was read and added, or it is refused
abbrev pub IsNext : Option Folders → List ℕ → Reading → List ℕ → Resources → Resources → Result (Unit {0}) ResourcesErr → Type 0
IsNext told folder reading name old new (Ok done) = (bytes : List ℕ) × (HasBytes told folder name bytes × Adds reading bytes old new)
IsNext told folder reading name old new (Err (Refused file refusal)) =
    (file ≡ name) × ((bytes : List ℕ) × (HasBytes told folder name bytes × IsRefusedBehind reading bytes old refusal × (wants_memory refusal ≡ false)))
IsNext told folder reading name old new (Err Failed) = Unit {0}
IsNext told folder reading name old new (Err NoMemory) = Unit {0}

-- the count of faults rose exactly where the files failed
abbrev pub CountsFailed : {T : Type 0} → Result T ResourcesErr → ℕ → ℕ → Type 0
CountsFailed (Ok x) before after = after ≡ before
CountsFailed (Err (Refused file refusal)) before after = after ≡ before
CountsFailed (Err Failed) before after = Rose before after
CountsFailed (Err NoMemory) before after = after ≡ before

-- why the file of this name isn't read, by what the call answered
abbrev pub unread : List ℕ → FilesErr → ResourcesErr
unread name files.Failed = Failed
unread name (files.TooLong len) = Refused name (TooLong len)
unread name files.NoMemory = NoMemory

-- why a folder isn't listed; its listing has no length
abbrev pub unlisted : FilesErr → ResourcesErr
unlisted files.Failed = Failed
unlisted (files.TooLong len) = NoMemory
unlisted files.NoMemory = NoMemory
