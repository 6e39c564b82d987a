-- Each status has its cause.
use Rattle.std.specs.Prelude.{◌≡◌, ◌⊎◌, ℕ, Bool, true, false, is_some, ◌+◌, zero, suc, List, [], ◌∷◌, ◌++◌, length, map, Option, Some, None, IsSome, unwrap_or, Result, Ok, Err, refl}
use Rattle.std.proofs.Common.{◌∙◌, sym, subst, ap, inl, inr, ⊎_elim, arith, true≢false}
use Rattle.std.proofs.lemmas.List.{length-append, length-map}
use Rattle.std.specs.Option.{option_or}
use mathlib.Core.Option.{some, some-injective, some-ne-none}
use lib.ListN.{get_elem?}
use Rattle.side_world.specs.declared.disk.Disk.{Ghosts as Keeps}
use Rattle.link_call.specs.LinkAt.{LinkAt}
use Rattle.side_world.specs.Faults.{Rose}
use Rattle.rand_core.specs.Stream.{Stream}
use Rattle.keeper_core.specs.declared.keeper.Keeper.{Ghosts}
use Rattle.keeper_journal.specs.declared.any_keeper.AnyKeeper.{AnyKeeper}
use Rattle.policy_run.specs.Effects.{Clocked}
use Rattle.turn_cell.specs.declared.error.Exhausted.{Exhausted}
use Rattle.ledger_core.specs.declared.reply.LedgerReply.{LedgerReply}
use Rattle.turn_cell.specs.declared.object.Object.{Ghosts as ObjectGhosts}
use Rattle.turn_cell.specs.Sitting.{Begun, Sitting, root_of, either_count}
use Rattle.turn_cell.specs.Passes.{IsRootOf, EachAlone, EachSeat, EachSound}
use Rattle.turn_cell.proofs.Lists.{in_range, one_place, there}
use Rattle.state_core.specs.declared.store.Store.{Store}
use Rattle.side_base.specs.declared.message.Request.{Request}
use Rattle.side_base.specs.declared.message.Response.{Response}
use Rattle.side_world.specs.declared.link.LinkErr.{LinkErr}
use Rattle.side_world.specs.declared.link.LinkErr.TheVariants as miss
use Rattle.turn_cell.specs.declared.error.ApiErr.{ApiErr}
use Rattle.http_frames.specs.declared.refusal.FrameErr.{FrameErr}
use Rattle.http_frames.specs.Requests.{IsRefused as IsRefusedAs}
use Rattle.http_frames.specs.Streams.{Begins, IsStream, Whole}
use Rattle.conn_serve.specs.Exchanged.{AreAnswered, Exchanged, IsStop, Unanswered, request_in, wholes_of}
use Rattle.conn_serve.specs.Session.{Session}
use Rattle.conn_serve.specs.declared.ended.Ended.{Ended}
use Rattle.conn_serve.specs.declared.ended.Ended.TheVariants as ends
use Rattle.resource_spec.specs.Component.{Loaded}
use Rattle.topic_spec.specs.declared.sub.Sub.{Sub}
use Rattle.resource_files.specs.declared.resources.Resources.{Resources}
use Rattle.resource_files.specs.declared.resources.ResourcesErr.{ResourcesErr}
use Rattle.resource_files.specs.declared.resources.ResourcesErr.TheVariants as fault
use Rattle.sidecar_keepers.specs.declared.starting.KeepersErr.{KeepersErr}
use Rattle.sidecar_keepers.specs.declared.starting.KeepersErr.TheVariants as lack
use Rattle.sidecar_keepers.specs.Refused.{Counts, IsRefused, IsRefusedAtOne}
use Rattle.sidecar_core.specs.declared.config.Config.{Config}
use Rattle.sidecar_objects.specs.declared.objects.Objects.{Objects}
use Rattle.sidecar_objects.specs.declared.objects.Pass.{Pass}
use Rattle.sidecar_objects.specs.Composed.{lone_stays, sound_stays}
use Rattle.sidecar_objects.specs.Kind.{CellsAt, Kinds, SeatsAt, breakers, cells_in, ledgers, seats_in, stores}
use Rattle.sidecar_objects.specs.Passes.{IsLone, IsSoundPass}
use Rattle.sidecar_objects.specs.Shown.{Shows, ShowsAt, book_shows, spent_of, ticks_show, turns_show}
use Rattle.sidecar_objects.specs.Did.{Standing}
use Rattle.turn_pass.specs.Pass.{count_shown}
use Rattle.sidecar_objects.specs.Pass.{cells_of, seats_of}
use Rattle.sidecar_core.specs.Shown.{some_seat}
use Rattle.sidecar_core.specs.Started.{IsStarted}
use Rattle.sidecar_turns.specs.declared.draining.Drained.{Drained}
use Rattle.sidecar_turns.specs.declared.draining.Drained.TheVariants as drained
use Rattle.sidecar_words.specs.declared.given.Words.{Words}
use Rattle.sidecar_words.specs.declared.given.Mode.{Mode}
use Rattle.sidecar_words.specs.declared.given.Mode.TheVariants as mode
use Rattle.sidecar_words.specs.Meaning.{Means}
use Rattle.sidecar_words.proofs.OneMeaning.{one_meaning}
use Rattle.sidecar_cli.specs.Causes.{AllIsWell, AllIsWellOfCheck, AreRequests, EndsAsItShould, EndsWell, HasFault, HasSession, IsFileRefusedBy, IsFull, IsFullAt, IsListRefused, IsSpent, IsUntouched, IsWhy, IsWhyOfCheck, done, closed, asked}
use Rattle.sidecar_cli.specs.Check.{IsCheck}
use Rattle.sidecar_cli.specs.Check as check
use Rattle.sidecar_cli.specs.Configured.{IsConfigured, IsConfiguredFor, Says}
use Rattle.sidecar_cli.specs.Counting.{AreCountedOf, IsCountedOf, none, more, spent_told}
use Rattle.sidecar_cli.specs.Play.{AreUnkept, IsBegun, IsConfiguredBy, IsDownBeside, IsDownOver, IsKept, IsPlay}
use Rattle.sidecar_cli.specs.Play as play
use Rattle.sidecar_cli.specs.Run.{IsCommand, IsRun}
use Rattle.sidecar_cli.specs.Run as run
use Rattle.sidecar_cli.specs.Status.{held_over, status_after}
use Rattle.sidecar_cli.specs.Subscribed.{AsksForList, Hears, IsListRefusedBy, IsSubscribed}
use Rattle.sidecar_cli.specs.Subscribed as subscribed
use Rattle.sidecar_cli.specs.World.{FilesAt, OutsideAt, WorldAt, beside_of}
use Rattle.sidecar_cli.specs.declared.status.Input.TheVariants.{Cut, Refused}
use Rattle.sidecar_cli.specs.declared.status.Device.{Device}
use Rattle.sidecar_cli.specs.declared.status.Device.TheVariants.{Source, Sink, Files, Disk, Acceptor, Outside, Link}
use Rattle.sidecar_cli.specs.declared.status.Status.{Status}
use Rattle.sidecar_cli.specs.declared.status.Status.TheVariants as status
use Rattle.sidecar_cli.proofs.Drained.{lone_drained_on, sound_drained_on}
use Rattle.sidecar_cli.proofs.Fitting.{lone_served, sound_served}

-- ---- a pass that has just begun

root_at : {O C R : Type 0} (cells : List (Begun O)) (k : ℕ) (cell : Begun O) → get_elem? cells k ≡ some cell → get_elem? (map (root_of {O = O} {C = C} {R = R}) cells) k ≡ some (root_of cell)
root_at [] k cell e = absurd (some-ne-none cell (sym e))
root_at (x ∷ l) zero cell e = ap (λ c. some (root_of c)) (some-injective x cell e)
root_at (x ∷ l) (suc k) cell e = root_at l k cell e

-- what holds of every root holds of each
each_root : {O C R : Type 0} (P : Begun O → Sitting O C R → Type 0) → ((cell : Begun O) → P cell (root_of cell)) → (cells : List (Begun O)) (seats : List (Sitting O C R)) → seats ≡ map root_of cells → EachSeat P cells seats
each_root {O} {C} {R} P holds cells seats are = subst (λ (l : List (Sitting O C R)). EachSeat P cells l) (sym are) record {
  wide = length-map cells root_of;
  each = λ k cell seat at here. subst (λ (s : Sitting O C R). P cell s) (one_place (map root_of cells) k (root_of cell) seat (root_at cells k cell at) here) (holds cell);
}

-- the pass of objects that have just begun is alone
pub begins_lone : {D : Type 0} {disking : Keeps D} {keeping : Ghosts (AnyKeeper D disking)} {config config' : Config} {keepers : List (AnyKeeper D disking)} {start : ℕ} {objects : Objects (AnyKeeper D disking) keeping} {pass : Pass (AnyKeeper D disking) keeping} → IsStarted config keepers start config' objects pass → IsLone (cells_of objects) (seats_of pass)
begins_lone {objects = objects} {pass = pass} started = record { each = λ kind. each_root (IsRootOf 0) (λ cell. ((refl, refl), refl, refl)) (cells_in (cells_of objects) kind) (seats_in (seats_of pass) kind) (started.roots.each kind) }

-- ---- an exhausted cell

pub none_is_none : {T : Type 0} {x : T} → None ≡ Some x → ⊥
none_is_none e = true≢false (sym (subst IsSome (sym e) refl))

pub same_count : {one other : ℕ} → Some one ≡ Some other → one ≡ other
same_count e = ap (λ o. unwrap_or o 0) e

module _ {O C R : Type 0} (object : ObjectGhosts O C R) (cells : List (Begun O)) (seats : List (Sitting O C R)) (alone : EachAlone cells seats) (sound : EachSound object cells seats) where
  -- a root that is alone shows a count only where it has seen all
  full_at : (k count : ℕ) → ShowsAt k count seats → IsFullAt k count seats
  full_at k count (seat, at, shown) =
      let cell = there cells k (omega (arith, in_range seats k seat at, alone.wide)) in
      let root = alone.each k cell.0 seat cell.1 at in
      record { seat = seat; there = at; shows = shown; long = (sound.each k cell.0 seat cell.1 at).full (root.1, root.2) (subst IsSome (sym shown) refl) }

pub full_of : {O : Type 0} (kinds : Kinds O) (cells : CellsAt O) (seats : SeatsAt O) (count : ℕ) → IsLone cells seats → IsSoundPass kinds cells seats → Shows seats count → IsFull seats count
full_of kinds cells seats count lone sound shows = record {
  kind = shows.kind;
  place = shows.place;
  full = full_at (kinds shows.kind) (cells_in cells shows.kind) (seats_in seats shows.kind) (lone.each shows.kind) (sound.each shows.kind) shows.place count shows.shown;
}

-- a pass shows this count, and is alone and sound
pub record IsShown {O : Type 0} (kinds : Kinds O) (cells : CellsAt O) (count : ℕ) : Type 0 where
  pub seats : SeatsAt O
  pub lone : IsLone cells seats
  pub sound : IsSoundPass kinds cells seats
  pub shows : Shows seats count

module _ {O : Type 0} (kinds : Kinds O) (cells : CellsAt O) (clock : Clocked) (link : LinkAt) (words : Stream) (count : ℕ) where
  -- what is read of the first exhausted cell, this ledger's or a later one's, is shown by its seat
  one_shown : (place : ℕ) (name : List ℕ) (seats between : SeatsAt O) (text : List ℕ) (spent later : Option ℕ) (one : IsCountedOf kinds cells name place seats text spent between) (result : Result LedgerReply Exhausted) → one.result ≡ result → option_or spent later ≡ Some count → IsLone cells between
      → IsSoundPass kinds cells between → (later ≡ Some count → IsShown kinds cells count) → IsShown kinds cells count
  one_shown place name seats between text spent later one (Ok reply) is e lone sound others = others (subst (λ s. option_or s later ≡ Some count) (one.spent_is ∙ ap spent_told is) e)
  one_shown place name seats between text spent later one (Err exhausted) is e lone sound others =
      let same : exhausted.count ≡ count = same_count (subst (λ s. option_or s later ≡ Some count) (one.spent_is ∙ ap spent_told is) e) in
      record { seats = between; lone = lone; sound = sound; shows = record { kind = ledgers; place = place; shown = one.shows count (is ∙ ap (λ n. Err (record { count = n })) same) } }

  pub counts_shown : (place : ℕ) (cs : List Loaded) (seats : SeatsAt O) (texts : List (List ℕ)) (spent : Option ℕ) (seats' : SeatsAt O) → AreCountedOf kinds cells place cs seats texts spent seats' → spent ≡ Some count → IsLone cells seats → IsSoundPass kinds cells seats → IsShown kinds cells count
  counts_shown _ _ _ _ _ _ (none place seats) e lone sound = absurd (none_is_none e)
  counts_shown _ _ _ _ _ _ (more place c cs seats between seats' text texts spent later one others) e lone sound =
      let d = one.does clock link words in
      let still = lone_stays kinds cells (record { seats = seats; clock = clock; link = link; words = words }) d.events (record { seats = between; clock = clock; link = link; words = words }) d.went lone in
      let well = sound_stays kinds cells (record { seats = seats; clock = clock; link = link; words = words }) d.events (record { seats = between; clock = clock; link = link; words = words }) d.went sound in
      one_shown place c.name seats between text spent later one one.result refl e still well (λ behind. counts_shown (suc place) cs between texts later seats' others behind still well)

shown_first : {O C R : Type 0} (seat : Sitting O C R) (seats : List (Sitting O C R)) (count : ℕ) (read : Option ℕ) → seat.count ≡ read → either_count read (count_shown seats) ≡ Some count → (count_shown seats ≡ Some count → (k : ℕ) × ShowsAt k count seats) → (k : ℕ) × ShowsAt k count (seat ∷ seats)
shown_first seat seats count None is either later = let at = later either in (suc at.0, at.1)
shown_first seat seats count (Some n) is either later = (0, (seat, refl, is ∙ either))

-- a seat of the list shows its first count
shown_at : {O C R : Type 0} (seats : List (Sitting O C R)) (count : ℕ) → count_shown seats ≡ Some count → (k : ℕ) × ShowsAt k count seats
shown_at [] count e = absurd (none_is_none e)
shown_at (seat ∷ seats) count e = shown_first seat seats count seat.count refl e (λ is. shown_at seats count is)

one_of : (one other : Option ℕ) (count : ℕ) → option_or one other ≡ Some count → (one ≡ Some count) ⊎ (other ≡ Some count)
one_of None other count e = inr e
one_of (Some n) other count e = inl e

-- a seat of the pass shows its first count
pub spent_shown : {O : Type 0} (seats : SeatsAt O) (count : ℕ) → spent_of seats ≡ Some count → Shows seats count
spent_shown seats count e = ⊎_elim (λ is. let at = shown_at seats.stores count is in record { kind = stores; place = at.0; shown = at.1 })
    (λ later. ⊎_elim (λ is. let at = shown_at seats.ledgers count is in record { kind = ledgers; place = at.0; shown = at.1 })
    (λ next. ⊎_elim (λ is. let at = shown_at seats.breakers count is in record { kind = breakers; place = at.0; shown = at.1 })
    (λ last. ⊎_elim (λ is. book_shows seats count is)
    (λ still. ⊎_elim (λ is. turns_show seats count is) (λ is. ticks_show seats count is)
    (one_of seats.turns.count seats.ticks.count count still)) (one_of seats.notes.count (option_or seats.turns.count seats.ticks.count) count last))
    (one_of (count_shown seats.breakers) (option_or seats.notes.count (option_or seats.turns.count seats.ticks.count)) count next))
    (one_of (count_shown seats.ledgers) (option_or (count_shown seats.breakers) (option_or seats.notes.count (option_or seats.turns.count seats.ticks.count))) count later))
    (one_of (count_shown seats.stores) (option_or (count_shown seats.ledgers) (option_or (count_shown seats.breakers) (option_or seats.notes.count (option_or seats.turns.count seats.ticks.count)))) count e)

-- what is spent behind a pass is shown by it, or as the ledgers are counted by it
pub met_of : {O : Type 0} (kinds : Kinds O) (cells : CellsAt O) (clock : Clocked) (link : LinkAt) (words : Stream) (count : ℕ) (cs : List Loaded) (seats : SeatsAt O) (texts : List (List ℕ)) (counted : Option ℕ) (seats' : SeatsAt O)
    → AreCountedOf kinds cells 0 cs seats texts counted seats' → IsLone cells seats → IsSoundPass kinds cells seats → option_or (spent_of seats) counted ≡ Some count → IsShown kinds cells count
met_of kinds cells clock link words count cs seats texts counted seats' told lone sound e =
    ⊎_elim (λ is. record { seats = seats; lone = lone; sound = sound; shows = spent_shown seats count is })
    (λ is. counts_shown kinds cells clock link words count 0 cs seats texts counted seats' told is lone sound) (one_of (spent_of seats) counted count e)

-- an error of a start that isn't want of memory
abbrev pub TellsMore : KeepersErr → Type 0
TellsMore lack.NoMemory = ⊥
TellsMore (lack.NotAJournal component at) = Unit {0}
TellsMore lack.OutsideFailed = Unit {0}
TellsMore lack.DiskFailed = Unit {0}

-- ---- bytes that are whole requests

-- bytes are one stream, and it can't be that they are none
abbrev pub OneStream : Type 0
OneStream = (bytes : List ℕ) (one other : List Whole) (rest last : List ℕ) → IsStream bytes one rest → IsStream bytes other last → (one ≡ other) × (rest ≡ last)

abbrev pub SomeStream : Type 0
SomeStream = (bytes : List ℕ) → ¬ ((wholes : List Whole) (rest : List ℕ) → ¬ (IsStream bytes wholes rest))

begins_on : (text : List ℕ) (first : List Whole) (left : List ℕ) (then : List Whole) (rest : List ℕ) → Begins text first left → Begins left then rest → Begins text (first ++ then) rest
begins_on text [] left then rest same behind = subst (λ t. Begins t then rest) (sym same) behind
begins_on text (whole ∷ first) left then rest (after, reads, begins) behind = (after, reads, begins_on after first left then rest begins behind)

module _ {E : Type 0} (exchange : Request → List E → Result Response ApiErr → Type 0) where
  -- the number of the last answered request
  last_stop : (before : List (Exchanged E)) (last : Exchanged E) (n m : ℕ) → m ≡ n + length before → AreAnswered exchange n (before ++ last ∷ []) → IsStop m (request_in last.whole) last.stop
  last_stop [] last n m is answered = subst (λ k. IsStop k (request_in last.whole) last.stop) (omega (arith, is)) answered.1
  last_stop (x ∷ before) last n m is answered = last_stop before last (suc n) m (omega (arith, is)) answered.2

module _ (single : OneStream) {E : Type 0} (exchange : Request → List E → Result Response ApiErr → Type 0) (bytes : List ℕ) (done : List (Exchanged E)) (more : Option (Unanswered E)) (all front : List ℕ → Type 0) where
  -- a session of whole requests alone ends in none of these ways
  no_cut : Session exchange bytes done more all front ends.ClosedByPeer → AreRequests bytes → ⊥
  no_cut session are =
      let end = session.ends in
      end.1 (single bytes (wholes_of done) are.wholes end.0 [] end.2.all.stream are.stream).1

  no_refusal : (why : FrameErr) → Session exchange bytes done more all front (ends.Refused why) → AreRequests bytes → ⊥
  no_refusal why session are =
      let end = session.ends in
      let bare : end.rest ≡ [] = (single bytes (wholes_of done) are.wholes end.rest [] end.stream are.stream).1 in
      let refused : IsRefusedAs [] why = subst (λ r. IsRefusedAs r why) bare end.refused in
      are.accepted refused.prefix refused.rest why refused.whole refused.meets

  no_limit : SomeStream → Session exchange bytes done more all front ends.Limit → AreRequests bytes → ⊥
  no_limit exists session are =
      let end = session.ends in
      let stops = end.stops in
      let answered : AreAnswered exchange 1 (stops.before ++ stops.last ∷ []) = subst (λ l. AreAnswered exchange 1 l) stops.whole session.answered in
      let number : IsStop (1 + length stops.before) (request_in stops.last.whole) stops.last.stop = last_stop exchange stops.before stops.last 1 (1 + length stops.before) refl answered in
      let limit : IsStop (1 + length stops.before) (request_in stops.last.whole) (Some ends.Limit) = subst (λ z. IsStop (1 + length stops.before) (request_in stops.last.whole) z) stops.stop number in
      let wide : length (wholes_of done) ≡ length stops.before + 1 = length-map done (λ x. x.whole) ∙ (ap length stops.whole ∙ length-append stops.before (stops.last ∷ [])) in
      exists end.left (λ wholes rest stream.
      let same : wholes_of done ++ wholes ≡ are.wholes = (single bytes (wholes_of done ++ wholes) are.wholes rest [] (record { begins = begins_on bytes (wholes_of done) end.left wholes rest end.begins stream.begins; none = stream.none }) are.stream).0 in
      let long : length are.wholes ≡ length (wholes_of done) + length wholes = ap length (sym same) ∙ length-append (wholes_of done) wholes in
      let hundred = limit.2 in
      let few = are.few in
      omega (arith, wide, long, hundred, few))

-- ---- the list of the app

abbrev is_ok : Status → Bool
is_ok status.Ok = true
is_ok (status.BadInput input) = false
is_ok status.Usage = false
is_ok (status.BadResources text) = false
is_ok (status.OutsideFailed device) = false
is_ok status.NoMemory = false
is_ok status.Limit = false
is_ok (status.Spent count) = false

abbrev status_in : Status → Result (List Sub) Status → Status
status_in other (Ok subs) = other
status_in other (Err e) = e

same_end : (one other : Status) → ◌≡◌ {A = Result (List Sub) Status} (Err one) (Err other) → one ≡ other
same_end one other same = ap (status_in one) same

abbrev is_had : Result (List Sub) Status → Bool
is_had (Ok subs) = true
is_had (Err e) = false

module _ (P : Status → Type 0) (app_port : Option ℕ) (declared : List Sub) (link link' : LinkAt) (end : Status)
    (refused : (port : ℕ) (text : List ℕ) (response : Response) → app_port ≡ Some port → AsksForList port (Ok response) link link' → IsListRefusedBy declared response text → P (status.BadResources text))
    (rose : Rose link.faults link'.faults ⊎ Rose link.expiries link'.expiries → P (status.OutsideFailed Link)) (lacks : P status.NoMemory) where
  unheard_by : (port : ℕ) (answer : Result Response LinkErr) → app_port ≡ Some port → AsksForList port answer link link' → Hears declared answer (Err end) → P end
  unheard_by port (Ok response) beside ask (inl told) = subst P (sym told.2) (refused port told.0 response beside ask told.1)
  unheard_by port (Ok response) beside ask (inr is) = subst P (sym is) lacks
  unheard_by port (Err miss.Failed) beside ask is = subst P (sym (same_end end (status.OutsideFailed Link) is)) (rose (inl (subst (λ n. Rose link.faults n) (sym ask.faults.3) ask.faults.1)))
  unheard_by port (Err miss.Expired) beside ask is = subst P (sym (same_end end (status.OutsideFailed Link) is)) (rose (inr (subst (λ n. Rose link.expiries n) (sym ask.expiries.3) ask.expiries.1)))
  unheard_by port (Err miss.NoMemory) beside ask is = subst P (sym (same_end end status.NoMemory is)) lacks

  -- subscriptions that were not had end the run by the list, by the link, or for want of memory
  pub unlisted_by : IsSubscribed app_port declared link link' (Err end) → P end
  unlisted_by (subscribed.alone no_port same is) = absurd (true≢false (sym (ap is_had is)))
  unlisted_by (subscribed.asked port answer beside ask heard) = unheard_by port answer beside ask heard
  unlisted_by (subscribed.lacks same is) = subst P (sym (same_end end status.NoMemory is)) lacks

-- ---- a session

module _ {D : Type 0} {disking : Keeps D} {keeping : Ghosts (AnyKeeper D disking)} (kinds : Kinds (Store (AnyKeeper D disking) keeping)) where
  module _ (given : Words) (world world' : WorldAt) where
    -- the pass behind a session, and behind the deliveries, is alone and sound
    module _ {ended : Ended} {how : Drained} {spent : Option ℕ} (s : HasSession kinds world world' ended how spent) where
      lone_after : IsLone (cells_of s.objects) (seats_of s.after)
      lone_after = lone_served s.served s.lone

      sound_after : IsSoundPass kinds (cells_of s.objects) (seats_of s.after)
      sound_after = sound_served s.served s.sound

      lone_idle : IsLone (cells_of s.objects) (seats_of s.idle)
      lone_idle = lone_drained_on s.drained lone_after

      sound_idle : IsSoundPass kinds (cells_of s.objects) (seats_of s.idle)
      sound_idle = sound_drained_on s.drained sound_after

    -- what a session, deliveries and the counts behind them met of exhausted cells
    spent_then : {ended : Ended} {how : Drained} {spent : Option ℕ} (count : ℕ) → spent ≡ Some count → HasSession kinds world world' ended how spent → IsSpent kinds world world' count
    spent_then {ended} {how} {spent} count e s =
        let met = met_of kinds (cells_of s.objects) s.later.clock s.later.link s.drained.rest count _ (seats_of s.idle) _ s.counted (seats_of s.last) s.told.counted (lone_idle s) (sound_idle s) (sym s.spent_is ∙ e) in
        record { ended = ended; how = how; spent = spent; session = s; seats = met.seats; lone = met.lone; sound = met.sound; full = full_of kinds (cells_of s.objects) met.seats count met.lone met.sound met.shows }

    spent_in : {how : Drained} {spent : Option ℕ} (count : ℕ) → HasSession kinds world world' (ends.Spent count) how spent → IsSpent kinds world world' count
    spent_in {how} {spent} count s =
        let end = s.served.served.session.ends in
        record {
          ended = ends.Spent count;
          how = how;
          spent = spent;
          session = s;
          seats = seats_of s.after;
          lone = lone_after s;
          sound = sound_after s;
          full = full_of kinds (cells_of s.objects) (seats_of s.after) count (lone_after s) (sound_after s) (some_seat s.config (seats_of s.after) count (request_in end.next.whole) (s.served.served.shown end.next count end.this end.why));
        }

    -- what a session did with the source and the sink is what the run did with them
    module _ {ended : Ended} {how : Drained} {spent : Option ℕ} (s : HasSession kinds world world' ended how spent) where
      source_rose : Rose s.started.source.faults s.over.source.faults → Rose world.source.faults world'.source.faults
      source_rose rose = subst (λ n. Rose n world'.source.faults) (ap (λ x. x.faults) s.before.source) (subst (λ n. Rose s.started.source.faults n) (sym (ap (λ x. x.faults) s.behind.source ∙ ap (λ w. w.source.faults) s.drained.only)) rose)

      sink_rose : Rose s.started.sink.faults s.over.sink.faults → Rose world.sink.faults world'.sink.faults
      sink_rose rose = subst (λ n. Rose n world'.sink.faults) (ap (λ x. x.faults) s.before.sink) (subst (λ n. Rose s.started.sink.faults n) (sym (ap (λ x. x.faults) s.behind.sink ∙ ap (λ w. w.sink.faults) s.drained.only)) rose)

    -- deliveries that ended without want of memory
    abbrev not_held : Drained → Type 0
    not_held drained.Held = ⊥
    not_held drained.Done = Unit {0}
    not_held (drained.Spent count) = Unit {0}
    not_held drained.UsedUp = Unit {0}

    is_fine : (how : Drained) → not_held how → how ≡ drained.Held → ⊥
    is_fine how fine is = subst not_held is fine

    -- the status behind a session that would have ended well, and behind its deliveries, has its cause
    why_well : (how : Drained) → ((how ≡ drained.Held → ⊥) → EndsWell kinds world world') → IsWhy kinds given world world' (held_over how status.Ok)
    why_well drained.Held fine = tt
    why_well drained.Done fine = fine (is_fine drained.Done tt)
    why_well (drained.Spent count) fine = fine (is_fine (drained.Spent count) tt)
    why_well drained.UsedUp fine = fine (is_fine drained.UsedUp tt)

    -- another status is as it was
    held_not : (how : Drained) (end : Status) → is_ok end ≡ false → held_over how end ≡ end
    held_not drained.Held status.Ok other = absurd (true≢false other)
    held_not drained.Held (status.BadInput input) other = refl
    held_not drained.Held status.Usage other = refl
    held_not drained.Held (status.BadResources text) other = refl
    held_not drained.Held (status.OutsideFailed device) other = refl
    held_not drained.Held status.NoMemory other = refl
    held_not drained.Held status.Limit other = refl
    held_not drained.Held (status.Spent count) other = refl
    held_not drained.Done end other = refl
    held_not (drained.Spent count) end other = refl
    held_not drained.UsedUp end other = refl

    why_other : (how : Drained) (end : Status) → is_ok end ≡ false → IsWhy kinds given world world' end → IsWhy kinds given world world' (held_over how end)
    why_other how end other why = subst (IsWhy kinds given world world') (sym (held_not how end other)) why

    -- the status behind a session and its deliveries has its cause
    why_served : (ended : Ended) (how : Drained) (spent : Option ℕ) → HasSession kinds world world' ended how spent → IsWhy kinds given world world' (held_over how (status_after ended spent))
    why_served ends.Done how None s = why_well how (λ fine. done (how, fine, s))
    why_served ends.Closed how None s = why_well how (λ fine. closed (how, fine, s))
    why_served ends.Asked how None s = why_well how (λ fine. asked (how, fine, s))
    why_served ends.ClosedByPeer how None s = why_other how (status.BadInput Cut) refl (how, s)
    why_served (ends.Refused why) how None s = why_other how (status.BadInput (Refused why)) refl (how, s)
    why_served ends.Limit how None s = why_other how status.Limit refl (how, s)
    why_served ends.SourceFailed how None s = why_other how (status.OutsideFailed Source) refl (source_rose s s.served.served.cause.0)
    why_served ends.SinkFailed how None s = why_other how (status.OutsideFailed Sink) refl (sink_rose s s.served.served.cause.0)
    why_served ends.NoMemory how None s = why_other how status.NoMemory refl tt
    why_served (ends.Spent count) how spent s = why_other how (status.Spent count) refl (spent_in count s)
    why_served ends.Done how (Some count) s = why_other how (status.Spent count) refl (spent_then count refl s)
    why_served ends.Closed how (Some count) s = why_other how (status.Spent count) refl (spent_then count refl s)
    why_served ends.Asked how (Some count) s = why_other how (status.Spent count) refl (spent_then count refl s)
    why_served ends.ClosedByPeer how (Some count) s = why_other how (status.Spent count) refl (spent_then count refl s)
    why_served (ends.Refused why) how (Some count) s = why_other how (status.Spent count) refl (spent_then count refl s)
    why_served ends.Limit how (Some count) s = why_other how (status.Spent count) refl (spent_then count refl s)
    why_served ends.SourceFailed how (Some count) s = why_other how (status.Spent count) refl (spent_then count refl s)
    why_served ends.SinkFailed how (Some count) s = why_other how (status.Spent count) refl (spent_then count refl s)
    why_served ends.NoMemory how (Some count) s = why_other how (status.Spent count) refl (spent_then count refl s)

    -- ---- the start

    -- the resources were read, and nothing else was asked but numbers
    record HasRead (resources : Resources) (now : WorldAt) : Type 0 where
      pub configured : IsConfiguredFor given world.files now.files (Ok resources)
      pub disks : now.outside.disks ≡ world.outside.disks
      pub calls : now.outside.calls ≡ world.outside.calls
      pub faults : now.outside.faults ≡ world.outside.faults
      pub link : now.link ≡ world.link
      pub untouched : IsUntouched world now

    module _ (resources : Resources) (now : WorldAt) (read : HasRead resources now) (rest : world' ≡ record now { outside = world'.outside; link = world'.link; clock = world'.clock }) where
      still : IsUntouched world world'
      still = record { source = ap (λ w. w.source) rest ∙ read.untouched.source; sink = ap (λ w. w.sink) rest ∙ read.untouched.sink }

      outside_rose : Rose now.outside.faults world'.outside.faults → Rose world.outside.faults world'.outside.faults
      outside_rose rose = subst (λ n. Rose n world'.outside.faults) read.faults rose

      configured_still : IsConfiguredFor given world.files world'.files (Ok resources)
      configured_still = subst (λ files. IsConfiguredFor given world.files files (Ok resources)) (sym (ap (λ w. w.files) rest)) read.configured

      -- a start that is refused has its cause
      why_refused : (e : KeepersErr) (end : Status) → IsRefused disking resources.components e now.outside.disks world'.outside.disks now.outside.calls world'.outside.calls → Counts e now.outside.faults world'.outside.faults → play.SaysOfKeepers e end
          → IsWhy kinds given world world' end
      why_refused (lack.NotAJournal component at) end (inl begun) counts says = absurd (subst TellsMore begun.cause tt)
      why_refused (lack.NotAJournal component at) end (inr one) counts (inl same) = subst (IsWhy kinds given world world') (sym same) (inr (inl record {
        resources = resources;
        configured = configured_still;
        component = component;
        at = at;
        refused = subst (λ disks. IsRefusedAtOne disking resources.components (lack.NotAJournal component at) disks world'.outside.disks world.outside.calls world'.outside.calls) read.disks
            (subst (λ calls. IsRefusedAtOne disking resources.components (lack.NotAJournal component at) now.outside.disks world'.outside.disks calls world'.outside.calls) read.calls one);
        tells = refl;
      }))
      why_refused (lack.NotAJournal component at) end (inr one) counts (inr same) = subst (IsWhy kinds given world world') (sym same) tt
      why_refused lack.OutsideFailed end refused counts same = subst (IsWhy kinds given world world') (sym same) (outside_rose counts, still)
      why_refused lack.DiskFailed end refused counts same = subst (IsWhy kinds given world world') (sym same) (outside_rose counts, still)
      why_refused lack.NoMemory end refused counts same = subst (IsWhy kinds given world world') (sym same) tt

      -- so has one whose app's list was not had
      why_unlisted : (end : Status) → IsSubscribed given.app_port resources.subscriptions now.link world'.link (Err end) → IsWhy kinds given world world' end
      why_unlisted end had = unlisted_by (IsWhy kinds given world world') given.app_port resources.subscriptions world.link world'.link end
          (λ port text response beside asked refused. inr (inr record { resources = resources; configured = configured_still; port = port; beside = beside; response = response; asked = asked; refused = refused }))
          (λ rose. (rose, still)) tt (subst (λ l. IsSubscribed given.app_port resources.subscriptions l world'.link (Err end)) read.link had)

      why_over : (keepers : List (AnyKeeper D disking)) (between : OutsideAt) (end : Status) → IsDownOver disking given resources keepers (record (beside_of now) { outside = between }) (beside_of world') end → IsWhy kinds given world world' end
      why_over keepers between end (play.unlisted had unread back) = why_unlisted end had
      why_over keepers between end (play.lacks config begins configured reads same is) = subst (IsWhy kinds given world world') (sym is) tt

      why_down : (end : Status) → IsDownBeside disking given resources (beside_of now) (beside_of world') end → IsWhy kinds given world world' end
      why_down end (play.unkept un same unread) = why_refused un.error end un.refused un.counts un.says
      why_down end (play.kept keepers between are_kept over) = why_over keepers between end over

    -- a run that came as far as this has its cause
    why_kept : (resources : Resources) (now : WorldAt) (words : Stream) (end : Status) → HasRead resources now → IsKept kinds given resources words now world' end → IsWhy kinds given world world' end
    why_kept resources now words end read (play.down down rest) = why_down resources now read rest end down
    why_kept resources now words end read (play.up config objects pass started configured up rest session) = subst (IsWhy kinds given world world') (sym session.ends) (why_served session.ended session.how session.spent record {
      config = config;
      objects = objects;
      pass = pass;
      after = session.after;
      idle = session.idle;
      last = session.finished.last;
      words = words;
      more = session.more;
      started = started;
      over = session.between;
      later = session.later;
      lone = begins_lone up.up.started;
      sound = up.up.sound;
      served = session.served;
      drained = session.drained;
      counted = session.finished.counted;
      told = session.finished.told;
      spent_is = session.finished.spent_is;
      before = record { source = ap (λ w. w.source) rest ∙ read.untouched.source; sink = ap (λ w. w.sink) rest ∙ read.untouched.sink };
      behind = record { source = ap (λ w. w.source) session.rest; sink = ap (λ w. w.sink) session.rest };
    })

-- an error of a reading that isn't want of memory
abbrev SaysMore : ResourcesErr → Type 0
SaysMore fault.NoMemory = ⊥
SaysMore (fault.Refused file refusal) = Unit {0}
SaysMore fault.Failed = Unit {0}

-- a reading that is refused: the file and its refusal are told, or a fault of the files was counted
abbrev pub WhyUnread : Words → Bool → FilesAt → FilesAt → Status → Type 0
WhyUnread given subscribing files files' (status.BadResources text) = IsFileRefusedBy given subscribing files files' text
WhyUnread given subscribing files files' (status.OutsideFailed device) = (device ≡ Files) × Rose files.faults files'.faults
WhyUnread given subscribing files files' status.NoMemory = Unit {0}
WhyUnread given subscribing files files' _ = ⊥

-- the device is the files
abbrev pub IsFiles : Device → Type 0
IsFiles Files = Unit {0}
IsFiles Source = ⊥
IsFiles Sink = ⊥
IsFiles Disk = ⊥
IsFiles Acceptor = ⊥
IsFiles Outside = ⊥
IsFiles Link = ⊥

-- another mode than that of a run on standard input, or of a check
abbrev IsElse : Mode → Type 0
IsElse mode.Stdio = ⊥
IsElse mode.Check = Unit {0}
IsElse (mode.Drill start requests) = Unit {0}
IsElse mode.Serve = Unit {0}

abbrev IsNoCheck : Mode → Type 0
IsNoCheck mode.Stdio = Unit {0}
IsNoCheck mode.Check = ⊥
IsNoCheck (mode.Drill start requests) = Unit {0}
IsNoCheck mode.Serve = Unit {0}

module _ (given : Words) (subscribing : Bool) (files files' : FilesAt) where
  pub why_unread : (e : ResourcesErr) (folder : Option (List ℕ)) (end : Status) → given.resources ≡ folder → IsConfigured folder given.app subscribing files files' (Err e) → Says e end → WhyUnread given subscribing files files' end
  why_unread (fault.Refused file refusal) None end named read says = absurd (subst SaysMore read.1 tt)
  why_unread fault.Failed None end named read says = absurd (subst SaysMore read.1 tt)
  why_unread fault.NoMemory folder end named read same = subst (WhyUnread given subscribing files files') (sym same) tt
  why_unread (fault.Refused file refusal) (Some folder) end named read (inl same) = subst (WhyUnread given subscribing files files') (sym same) record { folder = folder; named = named; file = file; refusal = refusal; refused = read.1.0; tells = refl }
  why_unread (fault.Refused file refusal) (Some folder) end named read (inr same) = subst (WhyUnread given subscribing files files') (sym same) tt
  why_unread fault.Failed (Some folder) end named read same = subst (WhyUnread given subscribing files files') (sym same) (refl, read.1.1)

module _ {D : Type 0} {disking : Keeps D} {keeping : Ghosts (AnyKeeper D disking)} (kinds : Kinds (Store (AnyKeeper D disking) keeping)) (given : Words) (world world' : WorldAt) where
  unread_stdio : (end : Status) → IsUntouched world world' → WhyUnread given (is_some given.app_port) world.files world'.files end → IsWhy kinds given world world' end
  unread_stdio (status.BadResources text) left why = inl why
  unread_stdio (status.OutsideFailed device) left why = subst (λ d. HasFault d world world') (sym why.0) (why.1, left)
  unread_stdio status.NoMemory left why = tt
  unread_stdio status.Ok left why = absurd why
  unread_stdio (status.BadInput input) left why = absurd why
  unread_stdio status.Usage left why = absurd why
  unread_stdio status.Limit left why = absurd why
  unread_stdio (status.Spent count) left why = absurd why

  why_begun : (numbers : Option (List ℕ)) (words : Stream) (end : Status) → IsBegun kinds given words (record world { outside = record world.outside { numbers = numbers } }) world' end → IsWhy kinds given world world' end
  why_begun numbers words end (play.refused e read says rest) = unread_stdio end (record { source = ap (λ w. w.source) rest; sink = ap (λ w. w.sink) rest }) (why_unread given (is_some given.app_port) world.files world'.files e given.resources end refl read says)
  why_begun numbers words end (play.read resources now read rest kept) = why_kept kinds given world world' resources now words end (record {
    configured = read;
    disks = ap (λ w. w.outside.disks) rest;
    calls = ap (λ w. w.outside.calls) rest;
    faults = ap (λ w. w.outside.faults) rest;
    link = ap (λ w. w.link) rest;
    untouched = record { source = ap (λ w. w.source) rest; sink = ap (λ w. w.sink) rest };
  }) kept

  -- a run on standard input
  pub why_played : (words_of : ℕ → Stream) (end : Status) → IsPlay kinds words_of given world world' end → IsWhy kinds given world world' end
  why_played words_of end ran = why_begun ran.between.outside.numbers (words_of ran.seed) end (subst (λ w. IsBegun kinds given (words_of ran.seed) w world' end) ran.only ran.begun)

module _ (given : Words) (world world' : WorldAt) where
  unread_check : (end : Status) → IsUntouched world world' → WhyUnread given true world.files world'.files end → IsWhyOfCheck given world world' end
  unread_check (status.BadResources text) left why = why
  unread_check (status.OutsideFailed Files) left why = (why.1, left)
  unread_check (status.OutsideFailed Source) left why = absurd (subst IsFiles (sym why.0) tt)
  unread_check (status.OutsideFailed Sink) left why = absurd (subst IsFiles (sym why.0) tt)
  unread_check (status.OutsideFailed Disk) left why = absurd (subst IsFiles (sym why.0) tt)
  unread_check (status.OutsideFailed Acceptor) left why = absurd (subst IsFiles (sym why.0) tt)
  unread_check (status.OutsideFailed Outside) left why = absurd (subst IsFiles (sym why.0) tt)
  unread_check (status.OutsideFailed Link) left why = absurd (subst IsFiles (sym why.0) tt)
  unread_check status.NoMemory left why = tt
  unread_check status.Ok left why = absurd why
  unread_check (status.BadInput input) left why = absurd why
  unread_check status.Usage left why = absurd why
  unread_check status.Limit left why = absurd why
  unread_check (status.Spent count) left why = absurd why

  -- a check
  pub why_checked : (end : Status) → IsCheck given world world' end → IsWhyOfCheck given world world' end
  why_checked end (check.refused e read says rest) = unread_check end (record { source = ap (λ w. w.source) rest; sink = ap (λ w. w.sink) rest }) (why_unread given true world.files world'.files e given.resources end refl read says)
  why_checked end (check.counted resources read (check.sent same told no_fault) rest) = subst (IsWhyOfCheck given world world') (sym same) tt
  why_checked end (check.counted resources read (check.failed same front rose) rest) = subst (IsWhyOfCheck given world world') (sym same) rose
  why_checked end (check.counted resources read (check.lacks same left) rest) = subst (IsWhyOfCheck given world world') (sym same) tt

module _ {D : Type 0} {disking : Keeps D} {keeping : Ghosts (AnyKeeper D disking)} (kinds : Kinds (Store (AnyKeeper D disking) keeping)) (given : Words) (world world' : WorldAt) where
  -- where all is well, a status is 0, or there was no memory
  pub ends_well : OneStream → SomeStream → (end : Status) → IsWhy kinds given world world' end → AllIsWell kinds given world world' → EndsAsItShould kinds world world' end
  ends_well single exists status.Ok why well = inl (refl, why)
  ends_well single exists (status.BadInput Cut) why well = absurd (no_cut single _ _ _ _ _ _ why.1.served.served.session (well.bytes ends.ClosedByPeer why.0 None why.1))
  ends_well single exists (status.BadInput (Refused reason)) why well = absurd (no_refusal single _ _ _ _ _ _ reason why.1.served.served.session (well.bytes (ends.Refused reason) why.0 None why.1))
  ends_well single exists status.Usage why well = absurd why
  ends_well single exists (status.BadResources text) (inl why) well = absurd (well.files text why)
  ends_well single exists (status.BadResources text) (inr (inl why)) well = absurd (well.journals text why)
  ends_well single exists (status.BadResources text) (inr (inr why)) well = absurd (well.lists text why)
  ends_well single exists (status.OutsideFailed device) why well = absurd (well.devices device why)
  ends_well single exists status.NoMemory why well = inr refl
  ends_well single exists status.Limit why well = absurd (no_limit single _ _ _ _ _ _ exists why.1.served.served.session (well.bytes ends.Limit why.0 None why.1))
  ends_well single exists (status.Spent count) why well = absurd (well.fresh count why)

  -- ---- words that mean it

  module _ (words_of : ℕ → Stream) (words : List (List ℕ)) (means : Means words given) where
    -- the words mean nothing else
    same_meaning : (other : Words) → Means words other → other ≡ given
    same_meaning other also = one_meaning words other given also means

    command_given : (other : Words) (end : Status) → Means words other → IsCommand kinds words_of other world world' end → IsCommand kinds words_of given world world' end
    command_given other end also command = subst (λ g. IsCommand kinds words_of g world world' end) (same_meaning other also) command

    stdio_command : (end : Status) → given.mode ≡ mode.Stdio → IsCommand kinds words_of given world world' end → IsWhy kinds given world world' end
    stdio_command end is (run.played also ran) = why_played kinds given world world' words_of end ran
    stdio_command end is (run.checked also ran) = absurd (subst IsElse (sym also ∙ is) tt)
    stdio_command end is (run.drilled start requests also ran) = absurd (subst IsElse (sym also ∙ is) tt)
    stdio_command end is (run.served also ran) = absurd (subst IsElse (sym also ∙ is) tt)

    -- a run of words that mean one on standard input
    pub stdio_run : (end : Status) → given.mode ≡ mode.Stdio → IsRun kinds words_of words world world' end → IsWhy kinds given world world' end
    stdio_run end is (run.meant other also command) = stdio_command end is (command_given other end also command)
    stdio_run end is (run.meaningless nothing same left) = absurd (nothing given means)
    stdio_run end is (run.lacks same left) = subst (IsWhy kinds given world world') (sym same) tt

    check_command : (end : Status) → given.mode ≡ mode.Check → IsCommand kinds words_of given world world' end → IsWhyOfCheck given world world' end
    check_command end is (run.checked also ran) = why_checked given world world' end ran
    check_command end is (run.played also ran) = absurd (subst IsNoCheck (sym also ∙ is) tt)
    check_command end is (run.drilled start requests also ran) = absurd (subst IsNoCheck (sym also ∙ is) tt)
    check_command end is (run.served also ran) = absurd (subst IsNoCheck (sym also ∙ is) tt)

    -- of words that mean a check
    pub check_run : (end : Status) → given.mode ≡ mode.Check → IsRun kinds words_of words world world' end → IsWhyOfCheck given world world' end
    check_run end is (run.meant other also command) = check_command end is (command_given other end also command)
    check_run end is (run.meaningless nothing same left) = absurd (nothing given means)
    check_run end is (run.lacks same left) = subst (IsWhyOfCheck given world world') (sym same) tt

-- where all is well, a check ends with 0, or there was no memory
pub check_well : (given : Words) (world world' : WorldAt) (end : Status) → IsWhyOfCheck given world world' end → AllIsWellOfCheck given world world' → (end ≡ status.Ok) ⊎ (end ≡ status.NoMemory)
check_well given world world' status.Ok why well = inl refl
check_well given world world' status.NoMemory why well = inr refl
check_well given world world' (status.BadResources text) why well = absurd (well.files text why)
check_well given world world' (status.OutsideFailed Files) why well = absurd (well.read why)
check_well given world world' (status.OutsideFailed Sink) why well = absurd (well.wrote why)
check_well given world world' (status.OutsideFailed Source) why well = absurd why
check_well given world world' (status.OutsideFailed Disk) why well = absurd why
check_well given world world' (status.OutsideFailed Acceptor) why well = absurd why
check_well given world world' (status.OutsideFailed Outside) why well = absurd why
check_well given world world' (status.OutsideFailed Link) why well = absurd why
check_well given world world' (status.BadInput input) why well = absurd why
check_well given world world' status.Usage why well = absurd why
check_well given world world' status.Limit why well = absurd why
check_well given world world' (status.Spent count) why well = absurd why
