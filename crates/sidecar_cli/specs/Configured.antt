-- What is configured: by the resource files of a folder, or without one.
use Rattle.std.specs.Prelude.{◌≡◌, ◌⊎◌, ℕ, Bool, List, ◌++◌, Option, Some, None, Result, Ok, Err, codes, is_some}
use Rattle.resource_files.specs.declared.resources.Resources.{Resources}
use Rattle.resource_files.specs.declared.resources.ResourcesErr.{ResourcesErr}
use Rattle.resource_files.specs.declared.resources.ResourcesErr.TheVariants as fault
use Rattle.resource_files.specs.Added.{reading_for}
use Rattle.resource_files.specs.Read.{IsReadFrom}
use Rattle.resource_files.specs.Refusals.{told_as}
use Rattle.resource_files.specs.Usual.{usual}
use Rattle.topic_spec.specs.Aiming.{kept}
use Rattle.topic_spec.specs.declared.sub.Sub.{Sub}
use Rattle.sidecar_core.specs.declared.config.Config.{Config}
use Rattle.sidecar_words.specs.declared.given.Words.{Words}
use Rattle.sidecar_cli.specs.World.{FilesAt}
use Rattle.sidecar_cli.specs.declared.status.Status.{Status}
use Rattle.sidecar_cli.specs.declared.status.Status.TheVariants.{BadResources, OutsideFailed, NoMemory}
use Rattle.sidecar_cli.specs.declared.status.Device.TheVariants.{Files}

-- a store and a broker in memory are there, or there is no memory for them
abbrev pub IsUsual : Result Resources ResourcesErr → Type 0
IsUsual (Ok resources) = resources ≡ usual
IsUsual (Err e) = e ≡ fault.NoMemory

-- the resources for an app, with what was read for them, and whether subscriptions are read of it; without a folder no file is read
abbrev pub IsConfigured : Option (List ℕ) → List ℕ → Bool → FilesAt → FilesAt → Result Resources ResourcesErr → Type 0
IsConfigured None app subscribing files files' result = (files' ≡ files) × IsUsual result
IsConfigured (Some folder) app subscribing files files' result = (files'.folders ≡ files.folders) × IsReadFrom files.folders files.calls files'.calls files.faults files'.faults folder (reading_for app subscribing) result

-- The same for a run that words mean: subscriptions are read where the app has a port
abbrev pub IsConfiguredFor : Words → FilesAt → FilesAt → Result Resources ResourcesErr → Type 0
IsConfiguredFor given = IsConfigured given.resources given.app (is_some given.app_port)

-- what a run is configured as, by words, resources and subscriptions, of which those are kept that the app may have
abbrev pub config_of : Words → Resources → List Sub → Config
config_of given resources subs = record { app = given.app; app_port = given.app_port; peers = given.peers; components = resources.components; subs = kept resources.components given.app subs; policies = resources.policies }

-- how a run ends that has no resources: the file and its refusal are told, where there is memory for it
abbrev pub Says : ResourcesErr → Status → Type 0
Says (fault.Refused file refusal) status = (status ≡ BadResources (file ++ (codes ": " ++ told_as refusal))) ⊎ (status ≡ NoMemory)
Says fault.Failed status = status ≡ OutsideFailed Files
Says fault.NoMemory status = status ≡ NoMemory
