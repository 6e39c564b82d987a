-- A turn, put together from its parts.
use Rattle.std.proofs.Common.{◌≡◌, refl, ap, sym, subst, ◌∙◌, ℕ, List, [], ◌++◌, flat_map, append-nil, inl, inr}
use Rattle.std.proofs.lemmas.Grind.{flat_map-append}
use Rattle.rand_core.specs.Stream.{Stream, next_u64}
use Rattle.side_base.specs.declared.message.Response.{Response}
use Rattle.side_world.specs.Moments.{Drawn}
use Rattle.turn_cell.specs.Sitting.{Begun}
use Rattle.turn_cell.specs.Growth.{Grew}
use Rattle.turn_cell.proofs.Growing.{grew_more}
use Rattle.side_world.proofs.Composed.{drawn_on}
use Rattle.breaker_core.specs.Course.{Step as BreakerStep}
use Rattle.ledger_core.specs.declared.ledger.Ledger.{Ledger}
use Rattle.ledger_core.specs.declared.command.Finish.TheVariants as finish
use Rattle.link_call.specs.declared.miss.Miss.{Miss}
use Rattle.link_call.specs.declared.miss.Miss.TheVariants as miss
use Rattle.link_call.specs.LinkAt.{Asks, LinkAt, asks_none}
use Rattle.policy_run.specs.declared.outcome.Outcome.{Outcome}
use Rattle.policy_run.specs.declared.outcome.Outcome.TheVariants as outcome
use Rattle.policy_run.specs.Event.{Event}
use Rattle.policy_run.specs.Effects.{AreNone, Clocked, Effects, Made}
use Rattle.policy_run.proofs.Composed.{effects_on, nothing_before, nothing_after, nothing_at_all}
use Rattle.delivery_turn.specs.declared.row.Row.{Row}
use Rattle.delivery_turn.specs.declared.settling.Early.TheVariants as early
use Rattle.delivery_turn.specs.declared.settling.Settling.{Settling}
use Rattle.delivery_turn.specs.declared.settling.Settling.TheVariants.{LetGo}
use Rattle.delivery_turn.specs.declared.taking.Taking.{Taking}
use Rattle.delivery_turn.specs.declared.taking.Taking.TheVariants as taking
use Rattle.delivery_turn.specs.declared.ending.Turn.{Turn}
use Rattle.delivery_turn.specs.Settling.{Own}
use Rattle.delivery_turn.specs.Posting.{Heard, MayLack, for_call, for_letter, replied, missed, lacked}
use Rattle.delivery_turn.specs.Delivery.{Setting, Delivery, Delivers, Tried}
use Rattle.delivery_turn.specs.Delivery as delivery
use Rattle.delivery_turn.specs.Stepping.{AsksApp, AsksLedger, Did, Enters, LedgerGhosts, LedgerSeat, asked_in, entered_in}
use Rattle.delivery_turn.specs.Turning.{Judges, PostsBy, Retries, Settled, SettlesSo, TakesBy, TakesNone}
use Rattle.delivery_turn.specs.Turning as turning

-- ---- what a turn is

module _ (setting : Setting) (row : Row) (settling : Settling) (came : Turn) (post draw settles : List (Event Own)) (so : SettlesSo row settling came settles) where
  -- it is let go, and no word was drawn
  let_go : (what : Heard) → Tried setting row what post → MayLack setting.subs row what → settling ≡ LetGo early.Held → draw ≡ [] → Delivers setting row (post ++ (draw ++ settles)) came
  let_go what tried lacking is none-drawn = delivery.cut_short what post settles tried lacking (subst (λ s. SettlesSo row s came settles) is so) (ap (λ l. post ++ (l ++ settles)) none-drawn)

  by_reply : (response : Response) → Tried setting row (replied response) post → Judges setting.subs row response settling draw → Delivers setting row (post ++ (draw ++ settles)) came
  by_reply response tried (turning.judged v drawn dead is-judged is draws) =
      delivery.tried (replied response) post (draw ++ settles) tried
      (record { finish = _; drawn = drawn; dead = dead; draw = draw; settling = settles; is_finish = (v, is-judged, refl); draws = draws; settles = subst (λ s. SettlesSo row s came settles) is so; whole = refl })
      refl
  by_reply response tried (turning.lacks lacking is none-drawn) = let_go (replied response) tried lacking is none-drawn

  by_miss : Tried setting row missed post → Retries setting.subs row settling draw → Delivers setting row (post ++ (draw ++ settles)) came
  by_miss tried (turning.again drawn dead is draws) =
      delivery.tried missed post (draw ++ settles) tried
      (record { finish = finish.Retry; drawn = drawn; dead = dead; draw = draw; settling = settles; is_finish = refl; draws = draws; settles = subst (λ s. SettlesSo row s came settles) is so; whole = refl })
      refl
  by_miss tried (turning.lacks letter is none-drawn) = let_go missed tried (for_letter refl letter) is none-drawn

  delivers : (outcome : Outcome Response Miss) → PostsBy setting row outcome post → Settled setting.subs row outcome settling draw → Delivers setting row (post ++ (draw ++ settles)) came
  delivers (outcome.Good response) posts chosen = by_reply response posts chosen
  delivers (outcome.Bad (miss.Replied response)) posts chosen = by_reply response posts chosen
  delivers (outcome.Bad miss.Failed) posts chosen = by_miss posts chosen
  delivers (outcome.Bad miss.Expired) posts chosen = by_miss posts chosen
  delivers (outcome.Refused why) posts chosen =
      delivery.refused (record { refusal = why; asks = post; settling = settles; guards = posts.0; refused = posts.1; settles = subst (λ s. SettlesSo row s came settles) chosen.0 so; whole = ap (λ l. post ++ (l ++ settles)) chosen.1 })
  delivers (outcome.Exhausted count) (inl unheard) chosen = delivery.unasked count post settles unheard (subst (λ s. SettlesSo row s came settles) chosen.0 so) (ap (λ l. post ++ (l ++ settles)) chosen.1)
  delivers (outcome.Exhausted count) (inr untold) chosen = delivery.untold count post settles untold (subst (λ s. SettlesSo row s came settles) chosen.0 so) (ap (λ l. post ++ (l ++ settles)) chosen.1)
  delivers outcome.NoMemory (inl none-asked) chosen =
      subst (λ l. Delivers setting row l came) (sym (ap (λ l. l ++ (draw ++ settles)) none-asked ∙ ap (λ l. l ++ settles) chosen.1)) (delivery.unmade (subst (λ s. SettlesSo row s came settles) chosen.0 so))
  delivers outcome.NoMemory (inr tried) chosen = let_go lacked tried (for_call refl) chosen.0 chosen.1

pub none_taken : (setting : Setting) (events : List (Event Own)) (came : Turn) → TakesNone events came → Delivery setting events came
none_taken setting events came (turning.idle next answered is) = delivery.idle next answered is
none_taken setting events came (turning.lacks answered is) = delivery.lacks answered is
none_taken setting events came (turning.exhausted count stuck is) = delivery.exhausted count stuck is

-- ---- what it does

module _ (object : LedgerGhosts) (cell : Begun Ledger) where
  -- the app is asked, and then the ledger
  app_then : (seat seat' : LedgerSeat) (link link' : LinkAt) (xs ys : List Own) → AsksApp link link' xs → Enters object cell seat seat' ys → Did object cell seat seat' link link' (xs ++ ys)
  app_then seat seat' link link' xs ys app enters = record {
    steps = subst (λ l. Grew object cell.first seat l seat') (sym (flat_map-append entered_in xs ys ∙ ap (λ l. l ++ flat_map entered_in ys) app.steps)) enters.steps;
    calls = subst (λ l. Asks link l link') (sym (flat_map-append asked_in xs ys ∙ ap (λ l. flat_map asked_in xs ++ l) enters.calls ∙ append-nil (flat_map asked_in xs))) app.calls;
  }

  -- the ledger, and then all else
  ledger_then : (seat between seat' : LedgerSeat) (link link' : LinkAt) (xs ys : List Own) → Enters object cell seat between xs → Did object cell between seat' link link' ys → Did object cell seat seat' link link' (xs ++ ys)
  ledger_then seat between seat' link link' xs ys enters did = record {
    steps = subst (λ l. Grew object cell.first seat l seat') (sym (flat_map-append entered_in xs ys)) (grew_more object cell.first seat (flat_map entered_in xs) between (flat_map entered_in ys) seat' enters.steps did.steps);
    calls = subst (λ l. Asks link l link') (sym (flat_map-append asked_in xs ys ∙ ap (λ l. l ++ flat_map asked_in ys) enters.calls)) did.calls;
  }

  -- the ledger alone
  ledger_only : (seat seat' : LedgerSeat) (link : LinkAt) (xs : List Own) → Enters object cell seat seat' xs → Did object cell seat seat' link link xs
  ledger_only seat seat' link xs enters = record { steps = enters.steps; calls = subst (λ l. Asks link l link) (sym enters.calls) (asks_none link) }

  module _ (setting : Setting) where
    -- no row was taken
    pub idled : (seat seat' : LedgerSeat) (link : LinkAt) (held : List BreakerStep → Type 0) (clock clock' : Clocked) (stream : Stream) (came : Turn) → held [] → AsksLedger object cell seat seat' clock clock' (λ events. TakesNone events came)
        → Made (λ events. Delivery setting events came) (Did object cell seat seat' link link) held (record { before = clock; after = clock' }) (λ words. Drawn next_u64 stream words stream)
    idled seat seat' link held clock clock' stream came none-held asks = (
      asks.0,
      none_taken setting asks.0 came asks.1,
      record {
        owned = ledger_only seat seat' link _ asks.2.owned;
        guards = subst held (sym asks.2.guards) none-held;
        times = asks.2.times;
        pauses = asks.2.pauses;
        ticks = asks.2.ticks;
        words = subst (λ ws. Drawn next_u64 stream ws stream) (sym asks.2.words) refl;
      },
    )

    module _ (seat between seat' : LedgerSeat) (link link' : LinkAt) (held : List BreakerStep → Type 0) (clock one two clock' : Clocked) (stream stream' stream'' : Stream) where
      abbrev Words : List ℕ → Type 0
      Words words = Drawn next_u64 stream words stream''

      effects_all : (first post draw settles : List (Event Own)) → Effects first (Enters object cell seat between) AreNone clock one AreNone → Effects post (AsksApp link link') held one two (λ words. Drawn next_u64 stream words stream')
          → Effects draw AreNone AreNone two two (λ words. Drawn next_u64 stream' words stream'') → Effects settles (Enters object cell between seat') AreNone two clock' AreNone
          → Effects (first ++ (post ++ (draw ++ settles))) (Did object cell seat seat' link link') held clock clock' Words
      effects_all first post draw settles e1 e2 e3 e4 =
          let last = effects_on draw settles AreNone (Enters object cell between seat') (Enters object cell between seat') AreNone AreNone AreNone two two clock' (λ words. Drawn next_u64 stream' words stream'') AreNone (λ words. Drawn next_u64 stream' words stream'')
          (nothing_before (Enters object cell between seat')) nothing_at_all (nothing_after (λ words. Drawn next_u64 stream' words stream'')) e3 e4 in
          let rest = effects_on post (draw ++ settles) (AsksApp link link') (Enters object cell between seat') (Did object cell between seat' link link') held AreNone held one two clock' (λ words. Drawn next_u64 stream words stream') (λ words. Drawn next_u64 stream' words stream'') Words
          (app_then between seat' link link') (nothing_after held) (λ xs ys before later. drawn_on next_u64 stream xs stream' ys stream'' before later) e2 last in
          effects_on first (post ++ (draw ++ settles)) (Enters object cell seat between) (Did object cell between seat' link link') (Did object cell seat seat' link link') AreNone held held clock one clock' AreNone Words Words
          (ledger_then seat between seat' link link') (nothing_before held) (nothing_before Words) e1 rest

      -- a row was taken
      pub turned : (row : Row) (outcome : Outcome Response Miss) (settling : Settling) (came : Turn) → AsksLedger object cell seat between clock one (λ events. TakesBy (taking.Row row) events)
          → Made (λ events. PostsBy setting row outcome events) (AsksApp link link') held (record { before = one; after = two }) (λ words. Drawn next_u64 stream words stream')
          → Made (λ events. Settled setting.subs row outcome settling events) AreNone AreNone (record { before = two; after = two }) (λ words. Drawn next_u64 stream' words stream'')
          → AsksLedger object cell between seat' two clock' (λ events. SettlesSo row settling came events)
          → Made (λ events. Delivery setting events came) (Did object cell seat seat' link link') held (record { before = clock; after = clock' }) Words
      turned row outcome settling came takes posts chosen settles = (
        takes.0 ++ (posts.0 ++ (chosen.0 ++ settles.0)),
        delivery.taken row takes.1.0 takes.0 (posts.0 ++ (chosen.0 ++ settles.0)) takes.1.1 (delivers setting row settling came posts.0 chosen.0 settles.0 settles.1 outcome posts.1 chosen.1) refl,
        effects_all takes.0 posts.0 chosen.0 settles.0 takes.2 posts.2 chosen.2 settles.2,
      )

      -- the same, of what came of taking a row
      pub turned_from : (took : Taking) (row : Row) (outcome : Outcome Response Miss) (settling : Settling) (came : Turn) → took ≡ taking.Row row → AsksLedger object cell seat between clock one (TakesBy took)
          → Made (λ events. PostsBy setting row outcome events) (AsksApp link link') held (record { before = one; after = two }) (λ words. Drawn next_u64 stream words stream')
          → Made (λ events. Settled setting.subs row outcome settling events) AreNone AreNone (record { before = two; after = two }) (λ words. Drawn next_u64 stream' words stream'')
          → AsksLedger object cell between seat' two clock' (λ events. SettlesSo row settling came events)
          → Made (λ events. Delivery setting events came) (Did object cell seat seat' link link') held (record { before = clock; after = clock' }) Words
      turned_from took row outcome settling came is takes posts chosen settles = turned row outcome settling came (subst (λ t. AsksLedger object cell seat between clock one (TakesBy t)) is takes) posts chosen settles

    pub idled_from : (seat seat' : LedgerSeat) (link : LinkAt) (held : List BreakerStep → Type 0) (clock clock' : Clocked) (stream : Stream) (took : Taking) (came : Turn) → took ≡ taking.Ended came → held [] → AsksLedger object cell seat seat' clock clock' (TakesBy took)
        → Made (λ events. Delivery setting events came) (Did object cell seat seat' link link) held (record { before = clock; after = clock' }) (λ words. Drawn next_u64 stream words stream)
    idled_from seat seat' link held clock clock' stream took came is none-held asks = idled seat seat' link held clock clock' stream came none-held (subst (λ t. AsksLedger object cell seat seat' clock clock' (TakesBy t)) is asks)
