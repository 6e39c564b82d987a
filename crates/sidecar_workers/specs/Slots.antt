-- What running does to the slot of a worker.
use Rattle.std.specs.Prelude.{◌≡◌, ◌≢◌, ◌+◌, false, true, List, ◌++◌, Option, Some, None, MatchOption, IfSome}
use Rattle.atomic_table.specs.Seated.{TableId}
use Rattle.sidecar_workers.specs.declared.exit.Exit.{Exit}
use Rattle.sidecar_workers.specs.declared.exit.Exit.TheVariants as exits
use Rattle.sidecar_workers.specs.declared.slot.Slot.{Slot}
use Rattle.sidecar_workers.specs.declared.work.Owed.TheVariants as owed
use Rattle.sidecar_workers.specs.declared.work.Call.{Call}
use Rattle.sidecar_workers.specs.declared.work.Work.{Ghosts}
use Rattle.sidecar_workers.specs.Works.{reason_of, is_over_at, is_over_by, accepts_in, IsRun, Leads}

-- the calls of rounds that end a worker so, or after which it goes on
abbrev pub Makes : List Call → Option Exit → Type 0
Makes ds exit = MatchOption exit (Leads ds) (λ e. IsRun ds e)

module _ {W : Type 0} (work : Ghosts W) where
  -- the worker has a seat of this stop word which hasn't ended, and its work owes nothing and isn't over
  abbrev pub IsReady : TableId → Slot W → Type 0
  IsReady word s = (s.seat.table ≡ word) × (s.seat.ended ≡ None) × (work.owes s.work ≡ owed.Nothing) × (work.is_over s.work ≡ false)

  -- rounds of a worker, after which it ends so or goes on
  pub record RoundOf (s s' : Slot W) (ending : Option Exit) : Type 0 where
    pub free : work.owes s'.work ≡ owed.Nothing
    pub over : work.is_over s'.work ≡ is_over_by ending
    pub kept : work.keeps s.work s'.work
    pub own : IfSome ending (λ e. e ≢ exits.Stopped → work.exits e s'.work)
    pub same : (s'.number ≡ s.number) × (s'.exit ≡ s.exit)
    pub seat : s'.seat ≡ record s.seat { found = s'.seat.found; looks = s'.seat.looks }
    pub stopped : ending ≡ Some exits.Stopped → s'.seat.found ≡ true
    pub awake : IfSome ending (λ e. e ≢ exits.Stopped → s'.seat.found ≡ false)
    pub told : (cs : List Call) → work.calls s'.work ≡ Some cs → (bs ds : List Call) × (work.calls s.work ≡ Some bs) × (cs ≡ bs ++ ds) × Makes ds ending × (s'.seat.looks ≡ s.seat.looks + accepts_in ds)

  -- a worker has run: it ended, owes nothing, and has kept its fact; its work is over exactly where a shutdown was asked for or a cell
  -- was spent; where it ended of its own, it has the fact of that end; its seat has ended exactly where it stops all others; it was
  -- stopped exactly where its last look found the word set; and its calls are a run, with one look that found the word not set for
  -- each `accept`
  pub record HasRun (s s' : Slot W) : Type 0 where
    pub ending : Exit
    pub exit : s'.exit ≡ Some ending
    pub free : work.owes s'.work ≡ owed.Nothing
    pub kept : work.keeps s.work s'.work
    pub over : work.is_over s'.work ≡ is_over_at ending
    pub own : ending ≢ exits.Stopped → work.exits ending s'.work
    pub number : s'.number ≡ s.number
    pub seat : s'.seat ≡ record s.seat { found = s'.seat.found; looks = s'.seat.looks; ended = reason_of ending }
    pub stopped : ending ≡ exits.Stopped → s'.seat.found ≡ true
    pub awake : ending ≢ exits.Stopped → s'.seat.found ≡ false
    pub told : (cs : List Call) → work.calls s'.work ≡ Some cs → (bs ds : List Call) × (work.calls s.work ≡ Some bs) × (cs ≡ bs ++ ds) × IsRun ds ending × (s'.seat.looks ≡ s.seat.looks + accepts_in ds)
