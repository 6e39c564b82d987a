-- Each answer of the ledger in a turn fits its command.
use Rattle.std.proofs.Common.{◌≡◌, ℕ, Bool, true, false, List, [], ◌∷◌, ◌++◌, sym, subst}
use Rattle.std.specs.Prelude.{Result}
use Rattle.breaker_core.specs.declared.command.BreakerReply.{BreakerReply}
use Rattle.ledger_core.specs.declared.plan.Aim.{Aim}
use Rattle.ledger_core.specs.declared.command.Finish.{Finish}
use Rattle.ledger_core.specs.declared.command.LedgerCmd.{LedgerCmd}
use Rattle.ledger_core.specs.declared.reply.LedgerReply.{LedgerReply}
use Rattle.ledger_core.specs.Fits.{Fits}
use Rattle.side_base.specs.declared.message.Response.{Response}
use Rattle.side_world.specs.declared.link.LinkErr.{LinkErr}
use Rattle.policy_run.specs.Event.{Event, own, guarded, word, moment, pause}
use Rattle.policy_run.specs.Turn.{Asks, LetsThrough, IsReported}
use Rattle.delivery_turn.specs.declared.ending.Turn.{Turn}
use Rattle.delivery_turn.specs.declared.ending.Turn.TheVariants.{Held, Exhausted}
use Rattle.delivery_turn.specs.Settling.{Own, entered, asked, Answered, Stuck, Row, Settles, settled, lacks, exhausted, LetsGo, released, kept}
use Rattle.delivery_turn.specs.Posting.{Heard, Posts, free, timed, Draws, again, otherwise}
use Rattle.delivery_turn.specs.Delivery.{Setting, guarded as is_guarded, Sent, Tried, Untold, Concludes, Postponed, Delivers, Delivery}
use Rattle.delivery_turn.specs.Delivery as turns
use Rattle.delivery_turn.specs.Kinds.{AllFit}
use Rattle.delivery_turn.specs.Samples.{misanswered}

-- ---- parts

fit_on : (xs ys : List (Event Own)) → AllFit xs → AllFit ys → AllFit (xs ++ ys)
fit_on [] ys f g = g
fit_on (own (entered step) ∷ xs) ys f g = (f.0, fit_on xs ys f.1 g)
fit_on (own (asked made) ∷ xs) ys f g = fit_on xs ys f g
fit_on (guarded step ∷ xs) ys f g = fit_on xs ys f g
fit_on (word w ∷ xs) ys f g = fit_on xs ys f g
fit_on (moment m ∷ xs) ys f g = fit_on xs ys f g
fit_on (pause ms ∷ xs) ys f g = fit_on xs ys f g

joined : (events xs ys : List (Event Own)) → events ≡ xs ++ ys → AllFit xs → AllFit ys → AllFit events
joined events xs ys whole f g = subst AllFit (sym whole) (fit_on xs ys f g)

answered : (cmd : ℕ → LedgerCmd) (reply : LedgerReply) (events : List (Event Own)) → Answered cmd reply events → AllFit events
answered cmd reply events a = subst AllFit (sym a.whole) (subst (λ c. Fits c a.step.reply) (sym a.told) (subst (λ r. Fits (cmd a.now) r) (sym a.answer) a.fits), tt)

stuck : (events : List (Event Own)) → Stuck events → AllFit events
stuck events h = subst AllFit (sym h.1) tt

asks : (reply : BreakerReply) (events : List (Event Own)) → Asks reply events → AllFit events
asks reply events a = subst AllFit (sym a.whole) tt

let_through : (guard : Bool) (generation : ℕ) (events : List (Event Own)) → LetsThrough guard generation events → AllFit events
let_through true generation events h = asks _ events h.1
let_through false generation events h = subst AllFit (sym h) tt

reported : (guard : Bool) (generation : ℕ) (good : Bool) (events : List (Event Own)) → IsReported guard generation good events → AllFit events
reported true generation good events h = subst AllFit (sym h.whole) tt
reported false generation good events h = subst AllFit (sym h) tt

posted : (port limit : ℕ) (row : Row) (answer : Result Response LinkErr) (late : Bool) (events : List (Event Own)) → Posts port limit row answer late events → AllFit events
posted port limit row answer late events (free l e whole) = subst AllFit (sym whole) tt
posted port limit row answer late events (timed before after l e whole) = subst AllFit (sym whole) tt

-- ---- a row

module _ (setting : Setting) (row : Row) where
  sent : (generation : ℕ) (what : Heard) (events : List (Event Own)) → Sent setting row generation what events → AllFit events
  sent generation what events h = joined events h.admission h.post h.whole (let_through (is_guarded setting) generation h.admission h.admitted) (posted _ _ row h.answer h.late h.post h.posted)

  tried : (what : Heard) (events : List (Event Own)) → Tried setting row what events → AllFit events
  tried what events h = joined events h.call h.report h.whole (sent h.generation what h.call h.sent) (reported (is_guarded setting) h.generation _ h.report h.reported)

  untold : (events : List (Event Own)) → Untold setting row events → AllFit events
  untold events h = joined events h.call h.stuck h.whole (sent h.generation h.what h.call h.sent) (stuck h.stuck h.unheard.1)

  settles : (finish : ℕ → Finish) (drawn : ℕ) (dead : List Aim) (events : List (Event Own)) (turn : Turn) → Settles row finish drawn dead events turn → AllFit events
  settles finish drawn dead events turn (settled reply some a e) = answered _ _ events a
  settles finish drawn dead events turn (lacks a e) = answered _ _ events a
  settles finish drawn dead events turn (exhausted count h e) = stuck events h

  let_go : (came : Turn) (events : List (Event Own)) (turn : Turn) → LetsGo row came events turn → AllFit events
  let_go came events turn (released reply a e) = answered _ _ events a
  let_go came events turn (kept count h e) = stuck events h

  drawn_so : (finish : Finish) (drawn : ℕ) (dead : List Aim) (events : List (Event Own)) → Draws setting.subs row finish drawn dead events → AllFit events
  drawn_so finish drawn dead events (again is aims whole) = subst AllFit (sym whole) tt
  drawn_so finish drawn dead events (otherwise differs undrawn unaimed whole) = subst AllFit (sym whole) tt

  concluded : (what : Heard) (events : List (Event Own)) (turn : Turn) → Concludes setting row what events turn → AllFit events
  concluded what events turn h = joined events h.draw h.settling h.whole (drawn_so h.finish h.drawn h.dead h.draw h.draws) (settles _ _ _ h.settling turn h.settles)

  postponed : (events : List (Event Own)) (turn : Turn) → Postponed setting row events turn → AllFit events
  postponed events turn h = joined events h.asks h.settling h.whole (asks _ h.asks h.refused) (settles _ _ _ h.settling turn h.settles)

  delivers : (events : List (Event Own)) (turn : Turn) → Delivers setting row events turn → AllFit events
  delivers events turn (turns.tried what first rest t c whole) = joined events first rest whole (tried what first t) (concluded what rest turn c)
  delivers events turn (turns.refused h) = postponed events turn h
  delivers events turn (turns.unmade h) = let_go Held events turn h
  delivers events turn (turns.cut_short what first rest t m h whole) = joined events first rest whole (tried what first t) (let_go Held rest turn h)
  delivers events turn (turns.unasked count first rest u h whole) = joined events first rest whole (stuck first u.1) (let_go (Exhausted count) rest turn h)
  delivers events turn (turns.untold count first rest u h whole) = joined events first rest whole (untold first u) (let_go (Exhausted count) rest turn h)

-- ---- a whole turn

pub all_fit : (setting : Setting) (events : List (Event Own)) (turn : Turn) → Delivery setting events turn → AllFit events
all_fit setting events turn (turns.idle next a e) = answered _ _ events a
all_fit setting events turn (turns.lacks a e) = answered _ _ events a
all_fit setting events turn (turns.exhausted count h e) = stuck events h
all_fit setting events turn (turns.taken row attempt first rest a d whole) = joined events first rest whole (answered _ _ first a) (delivers setting row rest turn d)

pub not_misanswered : (setting : Setting) (event : List ℕ) (turn : Turn) → Delivery setting (misanswered event) turn → ⊥
not_misanswered setting event turn d = let fits = all_fit setting (misanswered event) turn d in fits.1.0
