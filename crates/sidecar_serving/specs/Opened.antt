-- Workers that were opened, and workers that have run.
use Rattle.std.specs.Prelude.{◌≡◌, ◌≤◌, ◌+◌, ℕ, zero, suc, List, [], ◌∷◌, ◌++◌, Option, Some, None}
use Rattle.rand_core.specs.Stream.{Stream}
use Rattle.side_world.specs.declared.outside.OutsideCall.{OutsideCall}
use Rattle.side_world.specs.declared.outside.OutsideCall.TheVariants as call
use Rattle.side_world.specs.Told.{IsFresh}
use Rattle.sidecar_core.specs.declared.config.Config.{Config}
use Rattle.sidecar_objects.specs.Kind.{CellsAt, Kinds}
use Rattle.sidecar_objects.specs.Did.{Standing}
use Rattle.sidecar_workers.specs.declared.exit.Exit.{Exit}
use Rattle.sidecar_workers.specs.declared.work.Owed.TheVariants as owed
use Rattle.sidecar_serving.specs.Passes.{worker_pass}
use Rattle.sidecar_serving.specs.Worker.{HasDone, HasExit, Reached}

-- the calls by which the parts of so many workers are asked for
abbrev pub worker_calls : ℕ → ℕ → List OutsideCall
worker_calls port zero = []
worker_calls port (suc n) = worker_calls port n ++ call.Worker port n ∷ []

-- so many workers' parts were asked for where so many of all were opened: those of the opened ones, and of no other but the first that was refused
abbrev pub IsAskedUpTo : ℕ → ℕ → ℕ → Type 0
IsAskedUpTo all opened asked = (asked ≤ all) × (opened ≤ asked) × (asked ≤ opened + 1)

-- a worker: its number, what it has come to, how often its acceptor has failed, and how it ended, if it has run
pub record WorkerAt (O : Type 0) : Type 0 where
  pub number : ℕ
  pub reached : Reached O
  pub faults : ℕ
  pub ended : Option Exit

-- a worker that was just opened: its pass has seen and done nothing, its random words are these, and nothing was accepted and no link asked
pub record IsOpened {O : Type 0} (cells : CellsAt O) (number : ℕ) (words : Stream) (w : WorkerAt O) : Type 0 where
  pub numbered : w.number ≡ number
  pub pass : w.reached.at.seats ≡ worker_pass number cells
  pub drawn : w.reached.at.words ≡ words
  pub unasked : IsFresh w.reached.at.link.calls
  pub unaccepted : IsFresh w.reached.told
  pub goes_on : w.reached.exit ≡ None
  pub no_faults : w.faults ≡ 0
  pub waits : w.ended ≡ None

-- A worker of this number and with these random words: from its beginning it has done exactly what the answers of its acceptor say, and it has ended, if it has run, for the
-- reason that its exit names
pub record HasWorked {O : Type 0} (config : Config) (kinds : Kinds O) (cells : CellsAt O) (number : ℕ) (words : Stream) (w : WorkerAt O) : Type 0 where
  pub start : Standing O
  pub numbered : w.number ≡ number
  pub pass : start.seats ≡ worker_pass number cells
  pub drawn : start.words ≡ words
  pub unasked : IsFresh start.link.calls
  pub done : HasDone config kinds cells start owed.Nothing (Unit {0}) w.reached
  pub exit : (e : Exit) → w.ended ≡ Some e → HasExit e w.reached.told w.faults w.reached.exit

-- workers from this number on, as many as were opened of those that these words were for
abbrev pub AreWorkers : {X : Type 0} → (ℕ → Stream → X → Type 0) → ℕ → List Stream → List X → Type 0
AreWorkers is number words [] = Unit {0}
AreWorkers is number [] (w ∷ workers) = ⊥
AreWorkers is number (one ∷ words) (w ∷ workers) = is number one w × AreWorkers is (suc number) words workers

-- each of these workers has worked, from the first on, with its random words
abbrev pub HaveWorked : {O : Type 0} → Config → Kinds O → CellsAt O → List Stream → List (WorkerAt O) → Type 0
HaveWorked config kinds cells words workers = AreWorkers (HasWorked config kinds cells) 0 words workers
