-- A check: the resources are read, and the sink gets how many components there are, and how many subscriptions are kept.
use Rattle.std.specs.Prelude.{◌≡◌, ℕ, List, ◌++◌, true, Ok, Err, length, codes, decimal}
use Rattle.side_world.specs.Faults.{Rose}
use Rattle.side_world.specs.Told.{Told, SentSome}
use Rattle.conn_serve.specs.Ends.{SinkAt}
use Rattle.resource_files.specs.declared.resources.Resources.{Resources}
use Rattle.resource_files.specs.declared.resources.ResourcesErr.{ResourcesErr}
use Rattle.topic_spec.specs.Aiming.{kept}
use Rattle.sidecar_words.specs.declared.given.Words.{Words}
use Rattle.sidecar_cli.specs.Configured.{IsConfigured, Says}
use Rattle.sidecar_cli.specs.World.{WorldAt}
use Rattle.sidecar_cli.specs.declared.status.Status.{Status}
use Rattle.sidecar_cli.specs.declared.status.Status.TheVariants as ends
use Rattle.sidecar_cli.specs.declared.status.Device.TheVariants.{Sink}

-- so many components and subscriptions
unfoldable pub check_line : ℕ → ℕ → List ℕ
check_line components subscriptions = (((codes "ok components " ++ decimal components) ++ codes " subscriptions ") ++ decimal subscriptions) ++ codes "\n"

-- the line was sent, or the sink failed and a front of the line was sent, or there was no memory for it
pub data IsCounted (components subscriptions : ℕ) (sink sink' : SinkAt) (status : Status) : Type 0 where
  sent : status ≡ ends.Ok → Told sink.contents sink'.contents (check_line components subscriptions) → sink'.faults ≡ sink.faults → IsCounted components subscriptions sink sink' status
  failed : status ≡ ends.OutsideFailed Sink → SentSome sink.contents sink'.contents (check_line components subscriptions) → Rose sink.faults sink'.faults → IsCounted components subscriptions sink sink' status
  lacks : status ≡ ends.NoMemory → sink' ≡ sink → IsCounted components subscriptions sink sink' status

-- nothing but files and sink was asked; subscriptions are read without a port of the app too
pub data IsCheck (given : Words) (world world' : WorldAt) (status : Status) : Type 0 where
  refused : (e : ResourcesErr) → IsConfigured given.resources given.app true world.files world'.files (Err e) → Says e status → world' ≡ record world { files = world'.files } → IsCheck given world world' status
  counted : (resources : Resources) → IsConfigured given.resources given.app true world.files world'.files (Ok resources) → IsCounted (length resources.components) (length (kept resources.components given.app resources.subscriptions)) world.sink world'.sink status → world' ≡ record world { files = world'.files; sink = world'.sink } → IsCheck given world world' status
