-- Each status of a drill has its cause.
use Rattle.std.specs.Prelude.{◌≡◌, ◌⊎◌, ℕ, ◌<◌, ◌-◌, ◌^◌, List, [], ◌∷◌, ◌++◌, length, Option, Some, None, Result, Ok, Err, true, false, refl, Bool}
use Rattle.std.proofs.Common.{inl, inr, ◌∙◌, ap, sym, subst, arith, suc, zero, true≢false, length-append}
use Rattle.std.specs.Option.{option_or}
use Rattle.side_world.specs.declared.disk.Disk.{Ghosts as Keeps}
use Rattle.side_world.specs.Faults.{Rose}
use Rattle.rand_core.specs.Stream.{Stream}
use Rattle.keeper_core.specs.declared.keeper.Keeper.{Ghosts}
use Rattle.keeper_journal.specs.declared.any_keeper.AnyKeeper.{AnyKeeper}
use Rattle.state_core.specs.declared.store.Store.{Store}
use Rattle.conn_serve.specs.declared.ended.Ended.{Ended}
use Rattle.conn_serve.specs.declared.ended.Ended.TheVariants as ends
use Rattle.conn_serve.specs.Exchanged.{request_in}
use Rattle.drill.specs.Devices.{Written}
use Rattle.resource_files.specs.Usual.{usual_components}
use Rattle.resource_spec.specs.Component.{Loaded}
use Rattle.resource_spec.specs.declared.component.ComponentKind.{ComponentKind}
use Rattle.resource_spec.specs.declared.component.ComponentKind.TheVariants as kind
use Rattle.sidecar_keepers.specs.declared.starting.KeepersErr.{KeepersErr}
use Rattle.sidecar_keepers.specs.declared.starting.KeepersErr.TheVariants as lack
use Rattle.sidecar_keepers.specs.Refused.{IsRefused}
use Rattle.sidecar_core.specs.declared.config.Config.{Config}
use Rattle.sidecar_core.specs.Shown.{some_seat}
use Rattle.sidecar_objects.specs.Composed.{lone_stays, sound_stays}
use Rattle.sidecar_objects.specs.declared.objects.Objects.{Objects}
use Rattle.sidecar_objects.specs.declared.objects.Pass.{Pass}
use Rattle.sidecar_objects.specs.Did.{Standing}
use Rattle.sidecar_objects.specs.Kind.{Kinds}
use Rattle.sidecar_objects.specs.Pass.{cells_of, seats_of}
use Rattle.sidecar_objects.specs.Passes.{IsLone, IsSoundPass}
use Rattle.sidecar_objects.specs.Shown.{Shows, spent_of}
use Rattle.sidecar_words.specs.declared.given.Words.{Words}
use Rattle.sidecar_words.specs.declared.given.Mode.{Mode}
use Rattle.sidecar_words.specs.declared.given.Mode.TheVariants as mode
use Rattle.sidecar_words.specs.Meaning.{Means}
use Rattle.sidecar_words.proofs.OneMeaning.{one_meaning}
use Rattle.sidecar_cli.specs.Causes.{HasFault}
use Rattle.sidecar_cli.specs.Drill.{AreAllAnswered, EndsBy, IsDrill, IsDrilled, IsDrillSession, IsPrepared, IsReady, IsSaid, IsServedByDrill, IsToldOf, drill_clock, drill_config, drill_line, drill_link, stop_of}
use Rattle.sidecar_cli.specs.Drill as drill
use Rattle.sidecar_cli.specs.DrillCauses.{EndsBetween, HasDrill, IsDrillDone, IsSpentInDrill, IsWhyOfDrill}
use Rattle.sidecar_cli.specs.Play.{IsDown, SaysOfKeepers}
use Rattle.sidecar_cli.specs.Play as play
use Rattle.sidecar_cli.specs.Run.{IsCommand, IsRun}
use Rattle.sidecar_cli.specs.Run as run
use Rattle.sidecar_cli.specs.Status.{status_after}
use Rattle.sidecar_cli.specs.World.{OutsideAt, WorldAt}
use Rattle.sidecar_cli.specs.declared.status.Status.{Status}
use Rattle.sidecar_cli.specs.declared.status.Status.TheVariants as status
use Rattle.sidecar_cli.specs.declared.status.Input.TheVariants.{Cut, Refused}
use Rattle.sidecar_cli.specs.declared.status.Device.TheVariants.{Source, Sink, Files, Disk, Acceptor, Outside, Link}
use Rattle.sidecar_cli.proofs.Causes.{begins_lone, full_of, none_is_none, spent_shown}

-- ---- the components of a drill have no journal

abbrev IsJournal : ComponentKind → Bool
IsJournal kind.StateJournal = true
IsJournal other = false

no_journal : (front : List Loaded) (c : Loaded) (behind : List Loaded) → usual_components ≡ front ++ c ∷ behind → c.kind ≡ kind.StateJournal → ⊥
no_journal [] c behind same is = let first : IsJournal kind.StateMemory ≡ IsJournal c.kind = ap (λ (l : List Loaded). IsJournal (kind_in l)) same in true≢false (sym (first ∙ ap IsJournal is))
  where
    kind_in : List Loaded → ComponentKind
    kind_in [] = kind.StateMemory
    kind_in (x ∷ xs) = x.kind
no_journal (x ∷ []) c behind same is = let second : IsJournal kind.PubsubMemory ≡ IsJournal c.kind = ap (λ (l : List Loaded). IsJournal (second_in l)) same in true≢false (sym (second ∙ ap IsJournal is))
  where
    second_in : List Loaded → ComponentKind
    second_in (y ∷ z ∷ zs) = z.kind
    second_in _ = kind.StateMemory
no_journal (x ∷ y ∷ front) c behind same is = absurd (omega (arith, ap length same, length-append front (c ∷ behind)))

module _ {D : Type 0} {disking : Keeps D} where
  -- no keeper of a drill is refused but for want of memory
  not_kept : (components : List Loaded) (outside outside' : OutsideAt) (e : KeepersErr) (end : Status) → components ≡ usual_components → IsRefused disking components e outside.disks outside'.disks outside.calls outside'.calls → SaysOfKeepers e end → end ≡ status.NoMemory
  not_kept components outside outside' e end usual (inl begun) says = subst (λ (x : KeepersErr). SaysOfKeepers x end) begun.cause says
  not_kept components outside outside' lack.NoMemory end usual (inr one) says = says
  not_kept components outside outside' (lack.NotAJournal component at) end usual (inr one) says = absurd (no_journal one.front one.c one.behind (sym usual ∙ one.in_order) one.cause.1.kind)
  not_kept components outside outside' lack.OutsideFailed end usual (inr one) says = absurd (no_journal one.front one.c one.behind (sym usual ∙ one.in_order) one.cause.0)
  not_kept components outside outside' lack.DiskFailed end usual (inr one) says = absurd (no_journal one.front one.c one.behind (sym usual ∙ one.in_order) one.cause.kind)

  -- the objects of a drill are not started only where there is no memory
  not_started : (components : List Loaded) (outside outside' : OutsideAt) (end : Status) → components ≡ usual_components → IsDown disking components outside outside' end → end ≡ status.NoMemory
  not_started components outside outside' end usual (play.lacks keepers kept same) = same
  not_started components outside outside' end usual (play.refused un) = not_kept components outside outside' un.error end usual un.refused un.says

abbrev err_in : Status → Result Written Status → Status
err_in other (Ok kept) = other
err_in other (Err e) = e

err_same : (one other : Status) → ◌≡◌ {A = Result Written Status} (Err one) (Err other) → one ≡ other
err_same one other same = ap (err_in one) same

no_rise : (n : ℕ) → n ≡ 0 → Rose 0 n → ⊥
no_rise n none (inl more) = absurd (omega (arith, none, more))
no_rise n none (inr last) = absurd (omega (arith, none, last))

-- ---- the session

module _ {D : Type 0} {disking : Keeps D} {keeping : Ghosts (AnyKeeper D disking)} (kinds : Kinds (Store (AnyKeeper D disking) keeping)) (start requests : ℕ) (given : Words) where
  spent_drill : {out : List ℕ} {ended : Ended} {spent : Option ℕ} (count : ℕ) → ((d : HasDrill kinds start requests given out ended spent) → Shows (seats_of d.after) count) → HasDrill kinds start requests given out ended spent → IsSpentInDrill kinds start requests given count
  spent_drill {out} {ended} {spent} count shows d =
      let before : Standing (Store (AnyKeeper D disking) keeping) = record { seats = seats_of d.pass; clock = drill_clock; link = drill_link; words = d.words } in
      let behind : Standing (Store (AnyKeeper D disking) keeping) = record { seats = seats_of d.after; clock = d.served.clock'; link = d.served.link'; words = d.served.rest } in
      let went = d.served.served.acted in
      let lone = lone_stays kinds (cells_of d.objects) before _ behind went d.lone in
      let sound = sound_stays kinds (cells_of d.objects) before _ behind went d.sound in
      record { out = out; ended = ended; spent = spent; drill = d; lone = lone; sound = sound; full = full_of kinds (cells_of d.objects) (seats_of d.after) count lone sound (shows d) }

  spent_then : {out : List ℕ} {ended : Ended} {spent : Option ℕ} (count : ℕ) → spent ≡ Some count → HasDrill kinds start requests given out ended spent → IsSpentInDrill kinds start requests given count
  spent_then count is d = spent_drill count (λ x. spent_shown (seats_of x.after) count (sym x.spent_is ∙ is)) d

  spent_now : {out : List ℕ} {spent : Option ℕ} (count : ℕ) → HasDrill kinds start requests given out (ends.Spent count) spent → IsSpentInDrill kinds start requests given count
  spent_now count d = spent_drill count (λ x. let end = x.served.served.session.ends in some_seat x.config (seats_of x.after) count (request_in end.next.whole) (x.served.served.shown end.next count end.this end.why)) d

  module _ (world world' : WorldAt) where
    abbrev Why : Status → Type 0
    Why end = IsWhyOfDrill kinds start requests given world world' end

    -- what stopped the session is the cause
    stopped_by : {out : List ℕ} (ended : Ended) (spent : Option ℕ) (end : Status) → HasDrill kinds start requests given out ended spent → EndsBy (stop_of (status_after ended spent)) out (Err end) → Why end
    stopped_by ends.Done None end d by = absurd by
    stopped_by ends.Closed None end d by = absurd by
    stopped_by ends.Asked None end d by = absurd by
    stopped_by {out} ends.ClosedByPeer None end d by = subst Why (sym by) (out, d)
    stopped_by {out} (ends.Refused why) None end d by = subst Why (sym by) (out, d)
    stopped_by {out} ends.Limit None end d by = subst Why (sym by) (out, d)
    stopped_by ends.SourceFailed None end d by = absurd (no_rise d.served.source'.faults d.served.no_fault d.served.served.cause.0)
    stopped_by ends.SinkFailed None end d by = subst Why (sym by) tt
    stopped_by ends.NoMemory None end d by = subst Why (sym by) tt
    stopped_by (ends.Spent count) None end d by = subst Why (sym by) (spent_now count d)
    stopped_by (ends.Spent count) (Some n) end d by = subst Why (sym by) (spent_now count d)
    stopped_by ends.Done (Some n) end d by = subst Why (sym by) (spent_then n refl d)
    stopped_by ends.Closed (Some n) end d by = subst Why (sym by) (spent_then n refl d)
    stopped_by ends.Asked (Some n) end d by = subst Why (sym by) (spent_then n refl d)
    stopped_by ends.ClosedByPeer (Some n) end d by = subst Why (sym by) (spent_then n refl d)
    stopped_by (ends.Refused why) (Some n) end d by = subst Why (sym by) (spent_then n refl d)
    stopped_by ends.Limit (Some n) end d by = subst Why (sym by) (spent_then n refl d)
    stopped_by ends.SourceFailed (Some n) end d by = subst Why (sym by) (spent_then n refl d)
    stopped_by ends.SinkFailed (Some n) end d by = subst Why (sym by) (spent_then n refl d)
    stopped_by ends.NoMemory (Some n) end d by = subst Why (sym by) (spent_then n refl d)

    -- where nothing stopped it, it ended well
    went_well : {out : List ℕ} (ended : Ended) (spent : Option ℕ) (kept : Written) → EndsBy (stop_of (status_after ended spent)) out (Ok kept) → EndsBetween ended × (spent ≡ None) × (kept.contents ≡ out)
    went_well ends.Done None kept by = (tt, refl, by)
    went_well ends.Closed None kept by = (tt, refl, by)
    went_well ends.Asked None kept by = (tt, refl, by)
    went_well ends.ClosedByPeer None kept by = absurd by
    went_well (ends.Refused why) None kept by = absurd by
    went_well ends.Limit None kept by = absurd by
    went_well ends.SourceFailed None kept by = absurd by
    went_well ends.SinkFailed None kept by = absurd by
    went_well ends.NoMemory None kept by = absurd by
    went_well (ends.Spent count) None kept by = absurd by
    went_well (ends.Spent count) (Some n) kept by = absurd by
    went_well ends.Done (Some n) kept by = absurd by
    went_well ends.Closed (Some n) kept by = absurd by
    went_well ends.Asked (Some n) kept by = absurd by
    went_well ends.ClosedByPeer (Some n) kept by = absurd by
    went_well (ends.Refused why) (Some n) kept by = absurd by
    went_well ends.Limit (Some n) kept by = absurd by
    went_well ends.SourceFailed (Some n) kept by = absurd by
    went_well ends.SinkFailed (Some n) kept by = absurd by
    went_well ends.NoMemory (Some n) kept by = absurd by

    module _ (words_of : ℕ → Stream) (config : Config) (bytes : List ℕ) (prepared : IsPrepared words_of given.app start requests config bytes) (words : Stream) where
      components : config.components ≡ usual_components
      components = ap (λ (c : Config). c.components) prepared.config_is

      has_drill : {objects : Objects (AnyKeeper D disking) keeping} {pass : Pass (AnyKeeper D disking) keeping} {outside outside' : OutsideAt} {result : Result Written Status} → IsLone (cells_of objects) (seats_of pass) → IsSoundPass kinds (cells_of objects) (seats_of pass)
          → (s : IsDrillSession kinds config objects pass bytes words outside outside' result) → HasDrill kinds start requests given s.out s.ended (spent_of (seats_of s.after))
      has_drill {objects} {pass} lone sound s = record {
        words_of = words_of;
        config = config;
        bytes = bytes;
        prepared = prepared;
        objects = objects;
        pass = pass;
        after = s.after;
        words = words;
        faults = s.faults;
        lone = lone;
        sound = sound;
        served = s.served;
        spent_is = refl;
      }

      why_stopped : (outside outside' : OutsideAt) (end : Status) → IsDrilled kinds config bytes words outside outside' (Err end) → Why end
      why_stopped outside outside' end (drill.down refusal down is) = subst Why (sym (not_started config.components outside outside' end components (subst (λ (e : Status). IsDown disking config.components outside outside' e) (err_same refusal end (sym is)) down))) tt
      why_stopped outside outside' end (drill.up objects pass between up session) = stopped_by session.ended (spent_of (seats_of session.after)) end (has_drill (begins_lone up.started) up.sound session) session.ends

      why_told : (outside outside' : OutsideAt) (kept : Written) (end : Status) → IsDrilled kinds config bytes words outside outside' (Ok kept) → IsToldOf requests kept.contents world.sink world'.sink end → Why end
      why_told outside outside' kept end (drill.down refusal down is) told = absurd (true≢false (ap is_ok is))
        where
          is_ok : Result Written Status → Bool
          is_ok (Ok x) = true
          is_ok (Err e) = false
      why_told outside outside' kept end (drill.up objects pass between up session) told = by told.said
        where
          well : EndsBetween session.ended × (spent_of (seats_of session.after) ≡ None) × (kept.contents ≡ session.out)
          well = went_well session.ended (spent_of (seats_of session.after)) kept session.ends

          by : IsSaid (drill_line requests told.tally) world.sink world'.sink end → Why end
          by (drill.sent same line no_fault) = subst Why (sym same) record {
            out = session.out;
            ended = session.ended;
            drill = subst (λ (s : Option ℕ). HasDrill kinds start requests given session.out session.ended s) well.1 (has_drill (begins_lone up.started) up.sound session);
            well = well.0;
            told = subst (λ (e : Status). IsToldOf requests session.out world.sink world'.sink e) same (subst (λ (o : List ℕ). IsToldOf requests o world.sink world'.sink end) well.2 told);
          }
          by (drill.failed same front rose) = subst Why (sym same) rose
          by (drill.lacks same left) = subst Why (sym same) tt

      why_all : (end : Status) → AreAllAnswered kinds config bytes requests words world world' end → Why end
      why_all end (drill.stopped drilled rest) = why_stopped world.outside world'.outside end drilled
      why_all end (drill.told kept drilled told rest) = why_told world.outside world'.outside kept end drilled told

-- ---- words that mean one

abbrev start_in : Mode → ℕ
start_in (mode.Drill start requests) = start
start_in other = 0

abbrev requests_in : Mode → ℕ
requests_in (mode.Drill start requests) = requests
requests_in other = 0

abbrev IsNoDrill : Mode → Type 0
IsNoDrill mode.Stdio = Unit {0}
IsNoDrill mode.Check = Unit {0}
IsNoDrill (mode.Drill start requests) = ⊥
IsNoDrill mode.Serve = Unit {0}

module _ {D : Type 0} {disking : Keeps D} {keeping : Ghosts (AnyKeeper D disking)} (kinds : Kinds (Store (AnyKeeper D disking) keeping)) (start requests : ℕ) (given : Words) (world world' : WorldAt) where
  why_ready : (words_of : ℕ → Stream) (words : Stream) (numbers : Option (List ℕ)) (end : Status) → IsReady kinds words_of given.app start requests words (record world { outside = record world.outside { numbers = numbers } }) world' end → IsWhyOfDrill kinds start requests given world world' end
  why_ready words_of words numbers end (drill.lacks same left) = subst (IsWhyOfDrill kinds start requests given world world') (sym same) tt
  why_ready words_of words numbers end (drill.ready config bytes prepared all) = sink_alone end (why_all kinds start requests given (record world { outside = record world.outside { numbers = numbers } }) world' words_of config bytes prepared words end all)
    where
      sink_alone : (e : Status) → IsWhyOfDrill kinds start requests given (record world { outside = record world.outside { numbers = numbers } }) world' e → IsWhyOfDrill kinds start requests given world world' e
      sink_alone status.Ok why = record { out = why.out; ended = why.ended; drill = why.drill; well = why.well; told = why.told }
      sink_alone (status.BadInput Cut) why = why
      sink_alone (status.BadInput (Refused reason)) why = why
      sink_alone status.Usage why = why
      sink_alone (status.BadResources text) why = why
      sink_alone (status.OutsideFailed Source) why = why
      sink_alone (status.OutsideFailed Sink) why = why
      sink_alone (status.OutsideFailed Files) why = why
      sink_alone (status.OutsideFailed Disk) why = why
      sink_alone (status.OutsideFailed Acceptor) why = why
      sink_alone (status.OutsideFailed Outside) why = why
      sink_alone (status.OutsideFailed Link) why = why
      sink_alone status.NoMemory why = why
      sink_alone status.Limit why = why
      sink_alone (status.Spent count) why = why

  why_drill : (words_of : ℕ → Stream) (end : Status) → IsDrill kinds words_of given.app start requests world world' end → IsWhyOfDrill kinds start requests given world world' end
  why_drill words_of end ran = why_ready words_of (words_of ran.seed) ran.between.outside.numbers end (subst (λ w. IsReady kinds words_of given.app start requests (words_of ran.seed) w world' end) ran.only ran.ran)

  module _ (words_of : ℕ → Stream) (words : List (List ℕ)) (means : Means words given) where
    drill_command : (end : Status) → given.mode ≡ mode.Drill start requests → IsCommand kinds words_of given world world' end → IsWhyOfDrill kinds start requests given world world' end
    drill_command end is (run.drilled from count also ran) =
        why_drill words_of end (subst (λ (n : ℕ). IsDrill kinds words_of given.app start n world world' end) (ap requests_in (sym also ∙ is)) (subst (λ (a : ℕ). IsDrill kinds words_of given.app a count world world' end) (ap start_in (sym also ∙ is)) ran))
    drill_command end is (run.played also ran) = absurd (subst IsNoDrill (sym also ∙ is) tt)
    drill_command end is (run.checked also ran) = absurd (subst IsNoDrill (sym also ∙ is) tt)
    drill_command end is (run.served also ran) = absurd (subst IsNoDrill (sym also ∙ is) tt)

    -- a run of words that mean a drill
    pub drill_run : (end : Status) → given.mode ≡ mode.Drill start requests → IsRun kinds words_of words world world' end → IsWhyOfDrill kinds start requests given world world' end
    drill_run end is (run.meant other also command) = drill_command end is (subst (λ g. IsCommand kinds words_of g world world' end) (one_meaning words other given also means) command)
    drill_run end is (run.meaningless nothing same left) = absurd (nothing given means)
    drill_run end is (run.lacks same left) = subst (IsWhyOfDrill kinds start requests given world world') (sym same) tt
