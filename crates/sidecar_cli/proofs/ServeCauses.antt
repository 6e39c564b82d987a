-- Each status of a run that serves has its cause.
use Rattle.std.specs.Prelude.{◌≡◌, ◌⊎◌, ◌||◌, ℕ, zero, suc, Bool, true, false, List, [], ◌∷◌, ◌++◌, length, map, All, Option, Some, None, IsSome, is_some, unwrap_or, Ok, refl}
use Rattle.std.specs.Option.{option_or}
use Rattle.std.proofs.Common.{◌∙◌, ap, sym, subst, inl, inr, arith, true≢false}
use Rattle.std.proofs.lemmas.List.Elements.{All-cons, All-head, All-nil, All-tail}
use Rattle.side_world.specs.declared.disk.Disk.{Ghosts as Keeps}
use Rattle.side_world.specs.Faults.{Rose, RoseWith}
use Rattle.rand_core.specs.Stream.{Stream}
use Rattle.keeper_core.specs.declared.keeper.Keeper.{Ghosts}
use Rattle.keeper_journal.specs.declared.any_keeper.AnyKeeper.{AnyKeeper}
use Rattle.state_core.specs.declared.store.Store.{Store}
use Rattle.conn_serve.specs.Ends.{SinkAt}
use Rattle.resource_files.specs.declared.resources.Resources.{Resources}
use Rattle.sidecar_keepers.specs.declared.starting.KeepersErr.{KeepersErr}
use Rattle.sidecar_keepers.specs.declared.starting.KeepersErr.TheVariants as lack
use Rattle.sidecar_keepers.specs.Refused.{Counts, IsRefused}
use Rattle.sidecar_core.specs.declared.config.Config.{Config}
use Rattle.sidecar_objects.specs.declared.objects.Objects.{Objects}
use Rattle.sidecar_objects.specs.declared.objects.Pass.{Pass}
use Rattle.sidecar_objects.specs.Kind.{Kinds}
use Rattle.sidecar_objects.specs.Pass.{cells_of, seats_of}
use Rattle.sidecar_workers.specs.declared.exit.Exit.{Exit}
use Rattle.sidecar_workers.specs.declared.exit.Exit.TheVariants as exits
use Rattle.sidecar_serving.specs.declared.end.End.{End}
use Rattle.sidecar_serving.specs.Ending.{end_of, is_failed, spent_by}
use Rattle.sidecar_serving.specs.Met.{AreMet, failed_in, spent_in}
use Rattle.sidecar_serving.specs.Opened.{AreWorkers, HasWorked, WorkerAt}
use Rattle.sidecar_serving.specs.Passes.{root_pass}
use Rattle.sidecar_serving.specs.Served as serves
use Rattle.sidecar_serving.specs.Served.{IsServed}
use Rattle.sidecar_words.specs.declared.given.Words.{Words}
use Rattle.sidecar_words.specs.declared.given.Mode.{Mode}
use Rattle.sidecar_words.specs.declared.given.Mode.TheVariants as mode
use Rattle.sidecar_words.specs.Meaning.{Means}
use Rattle.sidecar_words.proofs.OneMeaning.{one_meaning}
use Rattle.sidecar_cli.specs.Causes.{IsUntouched}
use Rattle.sidecar_cli.specs.Configured.{IsConfiguredFor}
use Rattle.sidecar_cli.specs.Play.{IsDownBeside, IsDownOver, IsUp, SaysOfKeepers}
use Rattle.sidecar_cli.specs.Play as play
use Rattle.sidecar_cli.specs.Run.{IsCommand, IsRun}
use Rattle.sidecar_cli.specs.Run as run
use Rattle.sidecar_cli.specs.Serve.{IsBegunServing, IsKeptServing, IsServe, IsServing, refusal_of, status_after_serving}
use Rattle.sidecar_cli.specs.Serve as serve
use Rattle.sidecar_cli.specs.ServeCauses.{AllIsWellOfServing, HasFailedAcceptor, HasServing, IsAmong, IsSpentInServing, IsWellEnded, IsWhyOfServing, RoseOnce, hub_of, counting, working}
use Rattle.sidecar_cli.specs.World.{BesideAt, FilesAt, OutsideAt, WorldAt, beside_of}
use Rattle.sidecar_cli.specs.declared.status.Device.TheVariants as device
use Rattle.sidecar_cli.specs.declared.status.Status.{Status}
use Rattle.sidecar_cli.specs.declared.status.Status.TheVariants as status
use Rattle.sidecar_cli.proofs.Causes.{IsFiles, TellsMore, WhyUnread, full_of, met_of, none_is_none, same_count, unlisted_by, why_unread}
use Rattle.sidecar_cli.proofs.Countings.{silent, still, unasked}
use Rattle.sidecar_cli.proofs.Fitting.{root_started}
use Rattle.sidecar_cli.proofs.Serves.{served_sound}
use Rattle.sidecar_cli.proofs.Shown.{AllWide, all_wide_worked, met_among, shown_after, wide_root}

-- ---- counts of faults

rose_once : (before after : ℕ) → Rose before after → RoseOnce before after
rose_once before after rose = (after, rose, inl refl)

rose_then : (back before between after : ℕ) → Rose before between → RoseWith back between after → RoseOnce before after
rose_then zero before between after rose counted = (between, rose, inl (counted.none refl))
rose_then (suc n) before between after rose counted = (between, rose, inr (counted.some (λ (none : suc n ≡ 0). omega (arith, none))))

-- ---- how workers ended

spent_exit : (exit : Option Exit) (count : ℕ) → spent_by exit ≡ Some count → exit ≡ Some (exits.Spent count)
spent_exit None count is = absurd (none_is_none is)
spent_exit (Some exits.Asked) count is = absurd (none_is_none is)
spent_exit (Some exits.Stopped) count is = absurd (none_is_none is)
spent_exit (Some exits.Closed) count is = absurd (none_is_none is)
spent_exit (Some exits.Failed) count is = absurd (none_is_none is)
spent_exit (Some (exits.Spent n)) count is = ap (λ (k : ℕ). Some (exits.Spent k)) (same_count is)

failed_exit : (exit : Option Exit) → is_failed exit ≡ true → exit ≡ Some exits.Failed
failed_exit None is = absurd (true≢false (sym is))
failed_exit (Some exits.Asked) is = absurd (true≢false (sym is))
failed_exit (Some exits.Stopped) is = absurd (true≢false (sym is))
failed_exit (Some exits.Closed) is = absurd (true≢false (sym is))
failed_exit (Some exits.Failed) is = refl
failed_exit (Some (exits.Spent n)) is = absurd (true≢false (sym is))

well_exit : (exit : Option Exit) → IsSome exit → spent_by exit ≡ None → is_failed exit ≡ false → IsWellEnded exit
well_exit None some spent failed = absurd (true≢false (sym some))
well_exit (Some exits.Asked) some spent failed = tt
well_exit (Some exits.Stopped) some spent failed = tt
well_exit (Some exits.Closed) some spent failed = tt
well_exit (Some exits.Failed) some spent failed = absurd (true≢false failed)
well_exit (Some (exits.Spent n)) some spent failed = absurd (none_is_none (sym spent))

-- the first of two counts, where there is none of both
or_none_first : (one other : Option ℕ) → option_or one other ≡ None → (one ≡ None) × (other ≡ None)
or_none_first None other none = (refl, none)
or_none_first (Some n) other none = absurd (none_is_none (sym none))

or_false : (one other : Bool) → (one || other) ≡ false → (one ≡ false) × (other ≡ false)
or_false false other is = (refl, is)
or_false true other is = absurd (true≢false is)

module _ {O : Type 0} where
  later_among : (w x : WorkerAt O) (workers : List (WorkerAt O)) → IsAmong w workers → IsAmong w (x ∷ workers)
  later_among w x workers among = record { before = x ∷ among.before; behind = among.behind; whole = ap (λ (l : List (WorkerAt O)). x ∷ l) among.whole }

  -- one of these workers of which this holds
  record HasOne (P : WorkerAt O → Type 0) (workers : List (WorkerAt O)) : Type 0 where
    pub worker : WorkerAt O
    pub among : IsAmong worker workers
    pub holds : P worker

  this_one : (P : WorkerAt O → Type 0) (w : WorkerAt O) (workers : List (WorkerAt O)) → P w → HasOne P (w ∷ workers)
  this_one P w workers holds = record { worker = w; among = record { before = []; behind = workers; whole = refl }; holds = holds }

  later_one : (P : WorkerAt O → Type 0) (w : WorkerAt O) (workers : List (WorkerAt O)) → HasOne P workers → HasOne P (w ∷ workers)
  later_one P w workers found = record { worker = found.worker; among = later_among found.worker w workers found.among; holds = found.holds }

  spent_first : (count : ℕ) (w : WorkerAt O) (workers : List (WorkerAt O)) (read : Option ℕ) → spent_by w.ended ≡ read → option_or read (spent_in workers) ≡ Some count → (spent_in workers ≡ Some count → HasOne (λ x. x.ended ≡ Some (exits.Spent count)) workers)
      → HasOne (λ x. x.ended ≡ Some (exits.Spent count)) (w ∷ workers)
  spent_first count w workers None is either others = later_one (λ x. x.ended ≡ Some (exits.Spent count)) w workers (others either)
  spent_first count w workers (Some n) is either others = this_one (λ x. x.ended ≡ Some (exits.Spent count)) w workers (spent_exit w.ended count (is ∙ either))

  spent_one : (count : ℕ) (workers : List (WorkerAt O)) → spent_in workers ≡ Some count → HasOne (λ x. x.ended ≡ Some (exits.Spent count)) workers
  spent_one count [] is = absurd (none_is_none is)
  spent_one count (w ∷ workers) is = spent_first count w workers (spent_by w.ended) refl is (λ later. spent_one count workers later)

  failed_first : (w : WorkerAt O) (workers : List (WorkerAt O)) (failed : Bool) → is_failed w.ended ≡ failed → (failed || failed_in workers) ≡ true → (failed_in workers ≡ true → HasOne (λ x. x.ended ≡ Some exits.Failed) workers) → HasOne (λ x. x.ended ≡ Some exits.Failed) (w ∷ workers)
  failed_first w workers false is either others = later_one (λ x. x.ended ≡ Some exits.Failed) w workers (others either)
  failed_first w workers true is either others = this_one (λ x. x.ended ≡ Some exits.Failed) w workers (failed_exit w.ended is)

  failed_one : (workers : List (WorkerAt O)) → failed_in workers ≡ true → HasOne (λ x. x.ended ≡ Some exits.Failed) workers
  failed_one [] is = absurd (true≢false (sym is))
  failed_one (w ∷ workers) is = failed_first w workers (is_failed w.ended) refl is (λ later. failed_one workers later)

  all_well : (workers : List (WorkerAt O)) → All (λ w. IsSome w.ended) workers → spent_in workers ≡ None → failed_in workers ≡ false → All (λ w. IsWellEnded w.ended) workers
  all_well [] ended spent failed = All-nil (λ (w : WorkerAt O). IsWellEnded w.ended)
  all_well (w ∷ workers) ended spent failed =
      let s = or_none_first (spent_by w.ended) (spent_in workers) spent in
      let f = or_false (is_failed w.ended) (failed_in workers) failed in
      All-cons (λ (x : WorkerAt O). IsWellEnded x.ended) w workers (well_exit w.ended (All-head (λ (x : WorkerAt O). IsSome x.ended) w workers ended) s.0 f.0) (all_well workers (All-tail (λ (x : WorkerAt O). IsSome x.ended) w workers ended) s.1 f.1)

  -- what is said of each worker is said of this one
  worked_one : (is : ℕ → Stream → WorkerAt O → Type 0) (number : ℕ) (words : List Stream) (before : List (WorkerAt O)) (w : WorkerAt O) (behind : List (WorkerAt O)) → AreWorkers is number words (before ++ w ∷ behind) → (n : ℕ) × (stream : Stream) × is n stream w
  worked_one is number [] [] w behind each = absurd each
  worked_one is number (stream ∷ words) [] w behind each = (number, stream, each.0)
  worked_one is number [] (x ∷ before) w behind each = absurd each
  worked_one is number (stream ∷ words) (x ∷ before) w behind each = worked_one is (suc number) words before w behind each.1

-- ---- serving

module _ {D : Type 0} {disking : Keeps D} {keeping : Ghosts (AnyKeeper D disking)} (kinds : Kinds (Store (AnyKeeper D disking) keeping)) (given : Words) (world world' : WorldAt) where
  -- the acceptor of a worker failed
  why_failed : (serving : HasServing kinds world world' None) → failed_in serving.workers ≡ true → HasFailedAcceptor kinds world world'
  why_failed serving is =
      let found = failed_one serving.workers is in
      let among = found.among in
      let whole = among.whole in
      let cells = cells_of serving.objects in
      let from = hub_of kinds (root_pass (length serving.workers) cells) serving.started in
      let to = hub_of kinds (seats_of serving.after) serving.over in
      let met = subst (λ (l : List (WorkerAt (Store (AnyKeeper D disking) keeping))). AreMet kinds cells l from to) whole serving.met.met in
      let w = worked_one (HasWorked serving.config kinds cells) 0 serving.words among.before found.worker among.behind (subst (AreWorkers (HasWorked serving.config kinds cells) 0 serving.words) whole serving.met.each) in
      let exit = w.2.exit exits.Failed found.holds in
      let m = met_among kinds cells among.before found.worker among.behind from to met in
      record {
        serving = serving;
        worker = found.worker;
        among = among;
        ended = found.holds;
        answered = exit.0;
        at = m.met;
        after = m.left;
        first = m.first;
        back = m.this;
        later = m.later;
        rose = m.this.faults.some exit.1;
      }

  -- a worker was ended by an exhausted cell
  why_spent_working : (spent : Option ℕ) (count : ℕ) (serving : HasServing kinds world world' spent) → spent_in serving.workers ≡ Some count → IsSpentInServing kinds world world' count
  why_spent_working spent count serving is =
      let found = spent_one count serving.workers is in
      let among = found.among in
      let whole = among.whole in
      let cells = cells_of serving.objects in
      let from = hub_of kinds (root_pass (length serving.workers) cells) serving.started in
      let to = hub_of kinds (seats_of serving.after) serving.over in
      let met = subst (λ (l : List (WorkerAt (Store (AnyKeeper D disking) keeping))). AreMet kinds cells l from to) whole serving.met.met in
      let w = worked_one (HasWorked serving.config kinds cells) 0 serving.words among.before found.worker among.behind (subst (AreWorkers (HasWorked serving.config kinds cells) 0 serving.words) whole serving.met.each) in
      let exit = w.2.exit (exits.Spent count) found.holds in
      let wide = all_wide_worked kinds cells serving.config 0 serving.words serving.workers serving.met.each in
      let shows = shown_after kinds cells among.before found.worker among.behind from to met (subst (AllWide kinds cells) whole wide) (wide_root kinds cells (length serving.workers)) count (w.2.done.shown count exit) in
      record {
        spent = spent;
        serving = serving;
        read = working found.worker among found.holds;
        seats = seats_of serving.after;
        lone = serving.met.lone;
        sound = serving.sound;
        shown = shows.0;
        full = full_of kinds cells (seats_of serving.after) shows.0 serving.met.lone serving.sound shows.1;
      }

  -- a cell was found exhausted as the ledgers were counted
  why_spent_counting : (count : ℕ) → HasServing kinds world world' (Some count) → IsSpentInServing kinds world world' count
  why_spent_counting count serving =
      let cells = cells_of serving.objects in
      let met = met_of kinds cells still unasked silent count _ (seats_of serving.after) _ serving.counted (seats_of serving.last) serving.told.counted serving.met.lone serving.sound (sym serving.spent_is) in
      record {
        spent = Some count;
        serving = serving;
        read = counting refl;
        seats = met.seats;
        lone = met.lone;
        sound = met.sound;
        shown = count;
        full = full_of kinds cells met.seats count met.lone met.sound met.shows;
      }

  -- the status behind workers that have run has its cause
  why_workers : (read : Option ℕ) (failed : Bool) (spent : Option ℕ) (serving : HasServing kinds world world' spent) → spent_in serving.workers ≡ read → failed_in serving.workers ≡ failed → IsWhyOfServing kinds given world world' (status_after_serving (end_of read failed) spent)
  why_workers (Some count) failed spent serving reads fails = why_spent_working spent count serving reads
  why_workers None true (Some count) serving reads fails = why_spent_counting count serving
  why_workers None false (Some count) serving reads fails = why_spent_counting count serving
  why_workers None true None serving reads fails = why_failed serving fails
  why_workers None false None serving reads fails = (serving, all_well serving.workers serving.ended reads fails)

-- a mode that is named
abbrev IsNoServing : Mode → Type 0
IsNoServing mode.Stdio = Unit {0}
IsNoServing mode.Check = Unit {0}
IsNoServing (mode.Drill start requests) = Unit {0}
IsNoServing mode.Serve = ⊥

-- where workers have run, serving ends so that the ledgers are counted
ran_on : (read : Option ℕ) (failed : Bool) → refusal_of (end_of read failed) ≡ None
ran_on (Some count) failed = refl
ran_on None true = refl
ran_on None false = refl

same_status : {one other : Status} → Some one ≡ Some other → one ≡ other
same_status {one} is = ap (λ (o : Option Status). unwrap_or o one) is

module _ {D : Type 0} {disking : Keeps D} {keeping : Ghosts (AnyKeeper D disking)} (kinds : Kinds (Store (AnyKeeper D disking) keeping)) (given : Words) (world world' : WorldAt) (left : IsUntouched world world') where
  module _ (config : Config) (start : ℕ) (begins started : OutsideAt) (objects : Objects (AnyKeeper D disking) keeping) (pass : Pass (AnyKeeper D disking) keeping) (words : List Stream) (up : IsUp kinds config start begins started objects pass) (faults : begins.faults ≡ world.outside.faults) where
    -- workers were opened and have run, and the ledgers were counted
    why_went : (after : Pass (AnyKeeper D disking) keeping) (over : OutsideAt) (end : End) (spent : Option ℕ) → serve.IsPortServed kinds config objects pass after given.port words started over end → refusal_of end ≡ None → play.IsFinished kinds config objects after world.note world'.note over world'.outside spent
        → IsServed config kinds (cells_of objects) given.port words started.calls over.calls (hub_of kinds (seats_of pass) started) (hub_of kinds (seats_of after) over) end → IsWhyOfServing kinds given world world' (status_after_serving end spent)
    why_went after over end spent served opens finished (serves.went workers wide met ran stopped told ends) =
        subst (λ (e : End). IsWhyOfServing kinds given world world' (status_after_serving e spent)) (sym ends) (why_workers kinds given world world' (spent_in workers) (failed_in workers) spent (record {
          config = config;
          keepers = up.keepers;
          start = start;
          objects = objects;
          pass = pass;
          after = after;
          last = finished.last;
          words = words;
          started = started;
          over = over;
          workers = workers;
          begun = up.started;
          wide = wide;
          met = met;
          ended = ran;
          sound = served_sound kinds (cells_of objects) config given.port words started.calls over.calls (hub_of kinds (seats_of pass) started) (hub_of kinds (seats_of after) over) end (root_started up.started) up.sound served.served;
          counted = finished.counted;
          told = finished.told;
          spent_is = finished.spent_is;
        }) refl refl)
    why_went after over end spent served opens finished (serves.unopened workers asked between few low met waits told failed (inl is)) = absurd (none_is_none (sym (subst (λ (e : End). refusal_of e ≡ None) is opens)))
    why_went after over end spent served opens finished (serves.unopened workers asked between few low met waits told failed (inr is)) = absurd (none_is_none (sym (subst (λ (e : End). refusal_of e ≡ None) is opens)))

    -- a worker was not opened
    why_unopened : (after : Pass (AnyKeeper D disking) keeping) (over : OutsideAt) (end : End) (answer : Status) → refusal_of end ≡ Some answer → play.IsClosed kinds config objects after over world'.outside
        → IsServed config kinds (cells_of objects) given.port words started.calls over.calls (hub_of kinds (seats_of pass) started) (hub_of kinds (seats_of after) over) end → IsWhyOfServing kinds given world world' answer
    why_unopened after over end answer is closed (serves.went workers wide met ran stopped told ends) = absurd (none_is_none (sym (ran_on (spent_in workers) (failed_in workers)) ∙ subst (λ (e : End). refusal_of e ≡ Some answer) ends is))
    why_unopened after over end answer is closed (serves.unopened workers asked between few low met waits told failed (inl fails)) =
        subst (IsWhyOfServing kinds given world world') (same_status (subst (λ (e : End). refusal_of e ≡ Some answer) fails is))
        (rose_then _ world.outside.faults over.faults world'.outside.faults (subst (λ (n : ℕ). Rose n over.faults) (up.kept.no_fault ∙ faults) (failed fails)) closed.faults, left)
    why_unopened after over end answer is closed (serves.unopened workers asked between few low met waits told failed (inr lacks)) =
        subst (IsWhyOfServing kinds given world world') (same_status (subst (λ (e : End). refusal_of e ≡ Some answer) lacks is)) tt

    why_serving : (end : Status) → IsServing kinds config objects pass given.port words world.note world'.note started world'.outside end → IsWhyOfServing kinds given world world' end
    why_serving end (serve.went after over e spent served opens finished ends) = subst (IsWhyOfServing kinds given world world') (sym ends) (why_went after over e spent served opens finished served.served)
    why_serving end (serve.unopened after over e served refused closed quiet) = why_unopened after over e end refused closed served.served

  module _ (resources : Resources) (numbers : Option (List ℕ)) (read : IsConfiguredFor given world.files world'.files (Ok resources)) where
    -- a start that is refused has its cause
    why_refused : (e : KeepersErr) (end : Status) → IsRefused disking resources.components e world.outside.disks world'.outside.disks world.outside.calls world'.outside.calls → Counts e world.outside.faults world'.outside.faults → SaysOfKeepers e end → IsWhyOfServing kinds given world world' end
    why_refused (lack.NotAJournal component at) end (inl begun) counts says = absurd (subst TellsMore begun.cause tt)
    why_refused (lack.NotAJournal component at) end (inr one) counts (inl same) = subst (IsWhyOfServing kinds given world world') (sym same) (inr (inl record { resources = resources; configured = read; component = component; at = at; refused = one; tells = refl }))
    why_refused (lack.NotAJournal component at) end (inr one) counts (inr same) = subst (IsWhyOfServing kinds given world world') (sym same) tt
    why_refused lack.OutsideFailed end refused counts same = subst (IsWhyOfServing kinds given world world') (sym same) (rose_once world.outside.faults world'.outside.faults counts, left)
    why_refused lack.DiskFailed end refused counts same = subst (IsWhyOfServing kinds given world world') (sym same) (counts, left)
    why_refused lack.NoMemory end refused counts same = subst (IsWhyOfServing kinds given world world') (sym same) tt

    -- so has one whose app's list was not had
    why_over : (keepers : List (AnyKeeper D disking)) (between : OutsideAt) (end : Status) → IsDownOver disking given resources keepers (record { link = world.link; clock = world.clock; outside = between }) (beside_of world') end → IsWhyOfServing kinds given world world' end
    why_over keepers between end (play.unlisted had unread back) = unlisted_by (IsWhyOfServing kinds given world world') given.app_port resources.subscriptions world.link world'.link end
        (λ port text response beside asked refused. inr (inr record { resources = resources; configured = read; port = port; beside = beside; response = response; asked = asked; refused = refused }))
        (λ rose. (rose, left)) tt had
    why_over keepers between end (play.lacks config begins configured reads same is) = subst (IsWhyOfServing kinds given world world') (sym is) tt

    -- what a start begins with
    abbrev begun : BesideAt
    begun = record { link = world.link; clock = world.clock; outside = record world.outside { numbers = numbers } }

    why_down : (end : Status) → IsDownBeside disking given resources begun (beside_of world') end → IsWhyOfServing kinds given world world' end
    why_down end (play.unkept un same unread) = why_refused un.error end un.refused un.counts un.says
    why_down end (play.kept keepers between are_kept over) = why_over keepers between end over

    why_up : (config : Config) (objects : Objects (AnyKeeper D disking) keeping) (pass : Pass (AnyKeeper D disking) keeping) (words : List Stream) (between : WorldAt) (end : Status) → play.IsUpNow kinds config begun (beside_of between) objects pass → between.note ≡ world.note
        → IsServing kinds config objects pass given.port words between.note world'.note between.outside world'.outside end → IsWhyOfServing kinds given world world' end
    why_up config objects pass words between end up quiet serving = why_serving config up.start begun.outside between.outside objects pass words up.up refl end (subst (λ (n : SinkAt). IsServing kinds config objects pass given.port words n world'.note between.outside world'.outside end) quiet serving)

  unread_serving : (end : Status) → WhyUnread given (is_some given.app_port) world.files world'.files end → IsWhyOfServing kinds given world world' end
  unread_serving (status.BadResources text) why = inl why
  unread_serving (status.OutsideFailed device.Files) why = (why.1, left)
  unread_serving (status.OutsideFailed device.Source) why = absurd (subst IsFiles (sym why.0) tt)
  unread_serving (status.OutsideFailed device.Sink) why = absurd (subst IsFiles (sym why.0) tt)
  unread_serving (status.OutsideFailed device.Disk) why = absurd (subst IsFiles (sym why.0) tt)
  unread_serving (status.OutsideFailed device.Acceptor) why = absurd (subst IsFiles (sym why.0) tt)
  unread_serving (status.OutsideFailed device.Outside) why = absurd (subst IsFiles (sym why.0) tt)
  unread_serving (status.OutsideFailed device.Link) why = absurd (subst IsFiles (sym why.0) tt)
  unread_serving status.NoMemory why = tt
  unread_serving status.Ok why = absurd why
  unread_serving (status.BadInput input) why = absurd why
  unread_serving status.Usage why = absurd why
  unread_serving status.Limit why = absurd why
  unread_serving (status.Spent count) why = absurd why

module _ {D : Type 0} {disking : Keeps D} {keeping : Ghosts (AnyKeeper D disking)} (kinds : Kinds (Store (AnyKeeper D disking) keeping)) (given : Words) (world world' : WorldAt) where
  -- a run that has read the resources, and nothing else
  why_kept : (numbers : Option (List ℕ)) (files : FilesAt) (resources : Resources) (words : List Stream) (end : Status) → IsConfiguredFor given world.files files (Ok resources)
      → IsKeptServing kinds given resources words (record world { outside = record world.outside { numbers = numbers }; files = files }) world' end → IsWhyOfServing kinds given world world' end
  why_kept numbers files resources words end read (serve.down down rest) =
      why_down kinds given world world' (record { source = ap (λ w. w.source) rest; sink = ap (λ w. w.sink) rest }) resources numbers (subst (λ (f : FilesAt). IsConfiguredFor given world.files f (Ok resources)) (sym (ap (λ w. w.files) rest)) read) end down
  why_kept numbers files resources words end read (serve.up config objects pass between configured up only serving rest) =
      why_up kinds given world world' (record { source = ap (λ w. w.source) rest ∙ ap (λ w. w.source) only; sink = ap (λ w. w.sink) rest ∙ ap (λ w. w.sink) only }) resources numbers
      (subst (λ (f : FilesAt). IsConfiguredFor given world.files f (Ok resources)) (sym (ap (λ w. w.files) rest ∙ ap (λ w. w.files) only)) read) config objects pass words between end up (ap (λ w. w.note) only) serving

  why_begun : (numbers : Option (List ℕ)) (words : List Stream) (end : Status) → IsBegunServing kinds given words (record world { outside = record world.outside { numbers = numbers } }) world' end → IsWhyOfServing kinds given world world' end
  why_begun numbers words end (serve.refused e read says rest) = unread_serving kinds given world world' (record { source = ap (λ w. w.source) rest; sink = ap (λ w. w.sink) rest }) end (why_unread given (is_some given.app_port) world.files world'.files e given.resources end refl read says)
  why_begun numbers words end (serve.read resources now read only kept) = why_kept numbers now.files resources words end read (subst (λ (w : WorldAt). IsKeptServing kinds given resources words w world' end) only kept)

  why_serve : (words_of : ℕ → Stream) (end : Status) → IsServe kinds words_of given world world' end → IsWhyOfServing kinds given world world' end
  why_serve words_of end (serve.asked seeds one other between wide told only begun) = why_begun between.outside.numbers (map words_of seeds) end (subst (λ w. IsBegunServing kinds given (map words_of seeds) w world' end) only begun)
  why_serve words_of end (serve.lacks same _) = subst (IsWhyOfServing kinds given world world') (sym same) tt

  module _ (words_of : ℕ → Stream) (words : List (List ℕ)) (means : Means words given) where
    serve_command : (end : Status) → given.mode ≡ mode.Serve → IsCommand kinds words_of given world world' end → IsWhyOfServing kinds given world world' end
    serve_command end is (run.served also ran) = why_serve words_of end ran
    serve_command end is (run.played also ran) = absurd (subst IsNoServing (sym also ∙ is) tt)
    serve_command end is (run.drilled start requests also ran) = absurd (subst IsNoServing (sym also ∙ is) tt)
    serve_command end is (run.checked also ran) = absurd (subst IsNoServing (sym also ∙ is) tt)

    -- a run of words that name no mode
    pub serve_run : (end : Status) → given.mode ≡ mode.Serve → IsRun kinds words_of words world world' end → IsWhyOfServing kinds given world world' end
    serve_run end is (run.meant other also command) = serve_command end is (subst (λ g. IsCommand kinds words_of g world world' end) (one_meaning words other given also means) command)
    serve_run end is (run.meaningless nothing same left) = absurd (nothing given means)
    serve_run end is (run.lacks same left) = subst (IsWhyOfServing kinds given world world') (sym same) tt

  -- where all is well, a run that serves ends with 0, or there was no memory
  pub serve_well : (end : Status) → IsWhyOfServing kinds given world world' end → AllIsWellOfServing kinds given world world' → (end ≡ status.Ok) ⊎ (end ≡ status.NoMemory)
  serve_well status.Ok why well = inl refl
  serve_well status.NoMemory why well = inr refl
  serve_well (status.BadResources text) (inl why) well = absurd (well.files text why)
  serve_well (status.BadResources text) (inr (inl why)) well = absurd (well.journals text why)
  serve_well (status.BadResources text) (inr (inr why)) well = absurd (well.lists text why)
  serve_well (status.OutsideFailed device.Files) why well = absurd (well.read why)
  serve_well (status.OutsideFailed device.Disk) why well = absurd (well.disks why)
  serve_well (status.OutsideFailed device.Acceptor) why well = absurd (well.acceptors why)
  serve_well (status.OutsideFailed device.Outside) why well = absurd (well.outside why.0)
  serve_well (status.OutsideFailed device.Link) why well = absurd (well.app why)
  serve_well (status.OutsideFailed device.Source) why well = absurd why
  serve_well (status.OutsideFailed device.Sink) why well = absurd why
  serve_well (status.BadInput input) why well = absurd why
  serve_well status.Usage why well = absurd why
  serve_well status.Limit why well = absurd why
  serve_well (status.Spent count) why well = absurd (well.fresh count why)
