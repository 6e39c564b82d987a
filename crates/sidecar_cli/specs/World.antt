-- What a run has of the outside, as it shows it.
use Rattle.std.specs.Prelude.{ℕ, List, ◌++◌, Option}
use Rattle.std.specs.Int.{w64, to_le_bytes}
use Rattle.rand_core.specs.Stream.{Stream}
use Rattle.rand_core.specs.declared.Rng.{Ghosts as Draws}
use Rattle.rand_core.specs.declared.seedable_rng.SeedableRng.{Ghosts as Seeds}
use Rattle.side_world.specs.declared.source.Source.{Ghosts as Gives}
use Rattle.side_world.specs.declared.sink.Sink.{Ghosts as Takes}
use Rattle.side_world.specs.declared.files.Files.{Ghosts as Holds}
use Rattle.side_world.specs.declared.files.FilesCall.{FilesCall}
use Rattle.side_world.specs.declared.link.Link.{Ghosts as Asks}
use Rattle.side_world.specs.declared.clock.Clock.{Ghosts as Times}
use Rattle.side_world.specs.declared.outside.Outside.{Ghosts as Lends}
use Rattle.side_world.specs.declared.outside.OutsideCall.{OutsideCall}
use Rattle.side_world.specs.Files.{Folders}
use Rattle.side_world.specs.Outside.{Backs, Disks}
use Rattle.policy_run.specs.Effects.{Clocked, clocked}
use Rattle.link_call.specs.LinkAt.{LinkAt, link_at}
use Rattle.conn_serve.specs.Ends.{SourceAt, SinkAt, source_at, sink_at}
use Rattle.sidecar_cli.specs.declared.world.World.{World}

-- the folders that are there, the calls on them, where they are told, and how often one failed
pub record FilesAt : Type 0 where
  pub folders : Option Folders
  pub calls : Option (List FilesCall)
  pub faults : ℕ

abbrev pub files_at : {F : Type 0} → Holds F → F → FilesAt
files_at holds files = record { folders = holds.folders files; calls = holds.calls files; faults = holds.faults files }

-- the disks that are there and not taken, the calls that took some or asked for the parts of workers, what came back of workers and the numbers that were given, where
-- they are told, and how often it failed
pub record OutsideAt : Type 0 where
  pub disks : Option Disks
  pub calls : Option (List OutsideCall)
  pub backs : Option Backs
  pub numbers : Option (List ℕ)
  pub faults : ℕ

abbrev pub outside_at : {O D A L C S N : Type 0} → Lends O D A L C S N → O → OutsideAt
outside_at lends o = record { disks = lends.disks o; calls = lends.calls o; backs = lends.backs o; numbers = lends.numbers o; faults = lends.faults o }

pub record WorldAt : Type 0 where
  pub source : SourceAt
  pub sink : SinkAt
  pub note : SinkAt
  pub files : FilesAt
  pub link : LinkAt
  pub clock : Clocked
  pub outside : OutsideAt

abbrev pub world_at : {S N E F L C O D A' L' C' S' N' : Type 0} → Gives S → Takes N → Takes E → Holds F → Asks L → Times C → Lends O D A' L' C' S' N' → World S N E F L C O → WorldAt
world_at gives takes notes holds asks times lends world = record {
  source = source_at gives world.source;
  sink = sink_at takes world.sink;
  note = sink_at notes world.note;
  files = files_at holds world.files;
  link = link_at asks world.link;
  clock = clocked times world.clock;
  outside = outside_at lends world.outside;
}

-- what a start has of it: the link by which the app is asked for its list, the clock that is read, and where disks come from
pub record BesideAt : Type 0 where
  pub link : LinkAt
  pub clock : Clocked
  pub outside : OutsideAt

abbrev pub beside_at : {L C O D A' L' C' S' N' : Type 0} → Asks L → Times C → Lends O D A' L' C' S' N' → L → C → O → BesideAt
beside_at asks times lends link clock outside = record { link = link_at asks link; clock = clocked times clock; outside = outside_at lends outside }

abbrev pub beside_of : WorldAt → BesideAt
beside_of world = record { link = world.link; clock = world.clock; outside = world.outside }

-- what is said of two worlds, said of a world before a call and behind it, as its parts show themselves, and of what came of the call
abbrev pub OverWorld : {S N E F L C O D A' L' C' S' N' X : Type 0} → Gives S → Takes N → Takes E → Holds F → Asks L → Times C → Lends O D A' L' C' S' N' → (WorldAt → WorldAt → X → Type 0) → World S N E F L C O → World S N E F L C O → X → Type 0
OverWorld gives takes notes holds asks times lends P world world' result =
    P (world_at gives takes notes holds asks times lends world) (world_at gives takes notes holds asks times lends world') result

-- the same where a call has the note and the outside alone
abbrev pub OverOutside : {E O D A' L' C' S' N' X : Type 0} → Takes E → Lends O D A' L' C' S' N' → (SinkAt → SinkAt → OutsideAt → OutsideAt → X → Type 0) → E → E → O → O → X → Type 0
OverOutside notes lends P note note' outside outside' result =
    P (sink_at notes note) (sink_at notes note') (outside_at lends outside) (outside_at lends outside') result

-- the secret bytes of two numbers: eight of each, the lowest first
abbrev pub secret_of : ℕ → ℕ → List ℕ
secret_of one other = to_le_bytes w64 one ++ to_le_bytes w64 other

-- the random words of such a generator, by the number from which it begins
abbrev pub words_by : {R S : Type 0} → Draws R → Seeds R S → ℕ → Stream
words_by draws seeds number = draws.stream (seeds.of_seed (seeds.seed_of_u64 number))
