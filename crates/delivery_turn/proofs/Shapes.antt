-- Which kinds of events a turn has, in their order.
use Rattle.std.proofs.Common.{◌≡◌, ℕ, Bool, true, false, List, [], ◌∷◌, ◌++◌, refl, sym, ap, subst, ◌∙◌}
use Rattle.std.specs.Prelude.{◌≢◌, Result}
use Rattle.std.proofs.lemmas.Grind.{flat_map-append}
use Rattle.breaker_core.specs.declared.command.BreakerReply.{BreakerReply}
use Rattle.ledger_core.specs.declared.plan.Aim.{Aim}
use Rattle.ledger_core.specs.declared.command.Finish.{Finish}
use Rattle.ledger_core.specs.declared.command.Finish.TheVariants.{Success, Retry, Drop, Later}
use Rattle.ledger_core.specs.declared.command.LedgerCmd.{LedgerCmd}
use Rattle.ledger_core.specs.declared.command.LedgerCmd.TheVariants.{Take}
use Rattle.ledger_core.specs.declared.reply.LedgerReply.{LedgerReply}
use Rattle.side_base.specs.declared.message.Response.{Response}
use Rattle.side_world.specs.declared.link.LinkErr.{LinkErr}
use Rattle.policy_run.specs.declared.outcome.Refusal.{Refusal}
use Rattle.policy_run.specs.declared.outcome.Refusal.TheVariants as refusals
use Rattle.policy_run.specs.Event.{Event}
use Rattle.policy_run.specs.Attempts.{limit_of}
use Rattle.policy_run.specs.Turn.{Asks, LetsThrough, IsReported, reply_of}
use Rattle.delivery_turn.specs.declared.ending.Turn.{Turn}
use Rattle.delivery_turn.specs.declared.ending.Turn.TheVariants.{Held, Exhausted}
use Rattle.delivery_turn.specs.Settling.{Own, Answered, Stuck, Row, Settles, settled, lacks, exhausted, LetsGo, released, kept, postponed}
use Rattle.delivery_turn.specs.Posting.{Heard, Posts, free, timed, Draws, again, otherwise}
use Rattle.delivery_turn.specs.Delivery.{Setting, guarded, Sent, Tried, Untold, Concludes, Postponed, Delivers, Delivery}
use Rattle.delivery_turn.specs.Delivery as turns
use Rattle.delivery_turn.specs.Kinds.{Kind, taking, idling, settling, call, admission, refusal, report, draw, ledger_kind, answer_kind, breaker_kind, kinds_of, is_again}

-- what is done with a row before it is settled
pub data Middle (guard : Bool) (turn : Turn) (kinds : List Kind) : Type 0 where
  nothing : kinds ≡ [] → Middle guard turn kinds
  refused : kinds ≡ refusal ∷ [] → Middle guard turn kinds
  told : kinds ≡ admission ∷ call ∷ report ∷ [] → Middle guard turn kinds
  bare : guard ≡ false → kinds ≡ call ∷ [] → Middle guard turn kinds
  untold : (count : ℕ) → turn ≡ Exhausted count → kinds ≡ admission ∷ call ∷ [] → Middle guard turn kinds

-- how it is settled
pub data Ending (turn : Turn) (kinds : List Kind) : Type 0 where
  once : (finish : Finish) → is_again finish ≡ false → kinds ≡ settling finish ∷ [] → Ending turn kinds
  retried : kinds ≡ draw ∷ settling Retry ∷ [] → Ending turn kinds
  stays : (count : ℕ) → turn ≡ Exhausted count → kinds ≡ [] → Ending turn kinds
  drawn : (count : ℕ) → turn ≡ Exhausted count → kinds ≡ draw ∷ [] → Ending turn kinds

-- a row that was taken
pub record Served (guard : Bool) (turn : Turn) (kinds : List Kind) : Type 0 where
  pub first : List Kind
  pub rest : List Kind
  pub middle : Middle guard turn first
  pub ending : Ending turn rest
  pub whole : kinds ≡ first ++ rest

pub data Shape (guard : Bool) (turn : Turn) (kinds : List Kind) : Type 0 where
  none : kinds ≡ [] → Shape guard turn kinds
  alone : kinds ≡ idling ∷ [] → Shape guard turn kinds
  more : (served : List Kind) → Served guard turn served → kinds ≡ taking ∷ served → Shape guard turn kinds

-- ---- parts

kinds_on : (xs ys : List (Event Own)) → kinds_of (xs ++ ys) ≡ kinds_of xs ++ kinds_of ys
kinds_on xs ys = flat_map-append _ xs ys

joined : (events xs ys : List (Event Own)) (a b : List Kind) → events ≡ xs ++ ys → kinds_of xs ≡ a → kinds_of ys ≡ b → kinds_of events ≡ a ++ b
joined events xs ys a b e h k = ap kinds_of e ∙ kinds_on xs ys ∙ ap (λ l. l ++ kinds_of ys) h ∙ ap (λ l. a ++ l) k

answered : (cmd : ℕ → LedgerCmd) (reply : LedgerReply) (events : List (Event Own)) (a : Answered cmd reply events) → kinds_of events ≡ ledger_kind (cmd a.now) reply ∷ []
answered cmd reply events a = ap kinds_of a.whole ∙ ap (λ c. ledger_kind c a.step.reply ∷ []) a.told ∙ ap (λ r. ledger_kind (cmd a.now) r ∷ []) a.answer

stuck : (events : List (Event Own)) → Stuck events → kinds_of events ≡ []
stuck events h = ap kinds_of h.1

posted : (port limit : ℕ) (row : Row) (answer : Result Response LinkErr) (late : Bool) (events : List (Event Own)) → Posts port limit row answer late events → kinds_of events ≡ call ∷ []
posted port limit row answer late events (free l e w) = ap kinds_of w
posted port limit row answer late events (timed before after l e w) = ap kinds_of w

refusing : (r : Refusal) → answer_kind (reply_of r) ≡ refusal
refusing (refusals.Opened until) = refl
refusing (refusals.TooMany out) = refl

asking : (reply : BreakerReply) (kind : Kind) (events : List (Event Own)) → answer_kind reply ≡ kind → Asks reply events → kinds_of events ≡ kind ∷ []
asking reply kind events is a = ap kinds_of a.whole ∙ ap (λ c. breaker_kind c a.step.reply ∷ []) a.answers.cmd ∙ ap (λ r. answer_kind r ∷ []) a.answers.reply ∙ ap (λ k. k ∷ []) is

-- what stands before a call, and behind it
abbrev before : Bool → List Kind
before true = admission ∷ []
before false = []

abbrev behind : Bool → List Kind
behind true = report ∷ []
behind false = []

let_through : (guard : Bool) (generation : ℕ) (events : List (Event Own)) → LetsThrough guard generation events → kinds_of events ≡ before guard
let_through true generation events h = asking _ admission events refl h.1
let_through false generation events h = ap kinds_of h

reported : (guard : Bool) (generation : ℕ) (good : Bool) (events : List (Event Own)) → IsReported guard generation good events → kinds_of events ≡ behind guard
reported true generation good events h = ap kinds_of h.whole ∙ ap (λ c. breaker_kind c h.step.reply ∷ []) h.answers.cmd
reported false generation good events h = ap kinds_of h

sent : (setting : Setting) (row : Row) (generation : ℕ) (what : Heard) (events : List (Event Own)) → Sent setting row generation what events → kinds_of events ≡ before (guarded setting) ++ call ∷ []
sent setting row generation what events h =
    joined events h.admission h.post _ _ h.whole (let_through (guarded setting) generation h.admission h.admitted) (posted setting.port (limit_of setting.bound) row h.answer h.late h.post h.posted)

tried_middle : (guard : Bool) (turn : Turn) (kinds : List Kind) → kinds ≡ (before guard ++ call ∷ []) ++ behind guard → Middle guard turn kinds
tried_middle true turn kinds e = told e
tried_middle false turn kinds e = bare refl e

tried_part : (setting : Setting) (row : Row) (what : Heard) (turn : Turn) (events : List (Event Own)) → Tried setting row what events → Middle (guarded setting) turn (kinds_of events)
tried_part setting row what turn events h =
    tried_middle (guarded setting) turn (kinds_of events) (joined events h.call h.report _ _ h.whole (sent setting row h.generation what h.call h.sent) (reported (guarded setting) h.generation _ h.report h.reported))

untold_part : (setting : Setting) (row : Row) (count : ℕ) (turn : Turn) (events : List (Event Own)) → turn ≡ Exhausted count → Untold setting row events → Middle (guarded setting) turn (kinds_of events)
untold_part setting row count turn events spent h =
    let e : kinds_of events ≡ (before (guarded setting) ++ call ∷ []) ++ [] = joined events h.call h.stuck _ _ h.whole (sent setting row h.generation h.what h.call h.sent) (stuck h.stuck h.unheard.1) in
    untold count spent (e ∙ ap (λ b. (before b ++ call ∷ []) ++ []) h.unheard.0)

-- ---- settlings

pub not_again : (finish : Finish) → finish ≢ Retry → is_again finish ≡ false
not_again Success differs = refl
not_again Retry differs = absurd (differs refl)
not_again Drop differs = refl
not_again (Later at) differs = refl

module _ (row : Row) (finish : ℕ → Finish) (word : ℕ) (dead : List Aim) (turn : Turn) where
  -- without a word
  settles : ((now : ℕ) → is_again (finish now) ≡ false) → (events : List (Event Own)) → Settles row finish word dead events turn → Ending turn (kinds_of events)
  settles plain events (settled reply some a e) = once (finish a.now) (plain a.now) (answered _ _ events a)
  settles plain events (lacks a e) = once (finish a.now) (plain a.now) (answered _ _ events a)
  settles plain events (exhausted count h e) = stays count e (stuck events h)

  -- behind a word
  settles_drawn : ((now : ℕ) → finish now ≡ Retry) → (all draws events : List (Event Own)) → all ≡ draws ++ events → kinds_of draws ≡ draw ∷ [] → Settles row finish word dead events turn → Ending turn (kinds_of all)
  settles_drawn is all draws events w d (settled reply some a e) = retried (joined all draws events _ _ w d (answered _ _ events a ∙ ap (λ f. settling f ∷ []) (is a.now)))
  settles_drawn is all draws events w d (lacks a e) = retried (joined all draws events _ _ w d (answered _ _ events a ∙ ap (λ f. settling f ∷ []) (is a.now)))
  settles_drawn is all draws events w d (exhausted count h e) = drawn count e (joined all draws events _ _ w d (stuck events h))

concluded : (setting : Setting) (row : Row) (what : Heard) (events : List (Event Own)) (turn : Turn) → Concludes setting row what events turn → Ending turn (kinds_of events)
concluded setting row what events turn h = by h.draws
  where
    by : Draws setting.subs row h.finish h.drawn h.dead h.draw → Ending turn (kinds_of events)
    by (again is aims e) = settles_drawn row (λ now. h.finish) h.drawn h.dead turn (λ now. is) events h.draw h.settling h.whole (ap kinds_of e) h.settles
    by (otherwise differs undrawn unaimed e) =
        subst (λ l. Ending turn (kinds_of l)) (sym (h.whole ∙ ap (λ l. l ++ h.settling) e)) (settles row (λ now. h.finish) h.drawn h.dead turn (λ now. not_again h.finish differs) h.settling h.settles)

-- ---- a whole turn

served : (setting : Setting) (row : Row) (turn : Turn) (events first rest : List (Event Own)) → events ≡ first ++ rest → Middle (guarded setting) turn (kinds_of first) → Ending turn (kinds_of rest) → Served (guarded setting) turn (kinds_of events)
served setting row turn events first rest e middle ending = record { first = kinds_of first; rest = kinds_of rest; middle = middle; ending = ending; whole = joined events first rest _ _ e refl refl }

postponing : (r : Refusal) (now : ℕ) → is_again (postponed r now) ≡ false
postponing (refusals.Opened until) now = refl
postponing (refusals.TooMany out) now = refl

module _ (setting : Setting) (row : Row) (turn : Turn) where
  let_go : (came : Turn) (events : List (Event Own)) → LetsGo row came events turn → Ending turn (kinds_of events)
  let_go came events (released reply a e) = once (Later a.now) refl (answered _ _ events a)
  let_go came events (kept count h e) = stays count e (stuck events h)

  spent : (count : ℕ) (events : List (Event Own)) → LetsGo row (Exhausted count) events turn → (shown : ℕ) × (turn ≡ Exhausted shown)
  spent count events (released reply a e) = (count, e)
  spent count events (kept shown h e) = (shown, e)

  postponed_part : (events : List (Event Own)) → Postponed setting row events turn → Served (guarded setting) turn (kinds_of events)
  postponed_part events h = served setting row turn events h.asks h.settling h.whole (refused (asking (reply_of h.refusal) refusal h.asks (refusing h.refusal) h.refused)) (settles row (postponed h.refusal) 0 [] turn (postponing h.refusal) h.settling h.settles)

  delivers : (events : List (Event Own)) → Delivers setting row events turn → Served (guarded setting) turn (kinds_of events)
  delivers events (turns.tried what first rest t c e) = served setting row turn events first rest e (tried_part setting row what turn first t) (concluded setting row what rest turn c)
  delivers events (turns.refused h) = postponed_part events h
  delivers events (turns.unmade h) = served setting row turn events [] events refl (nothing refl) (let_go Held events h)
  delivers events (turns.cut_short what first rest t m h e) = served setting row turn events first rest e (tried_part setting row what turn first t) (let_go Held rest h)
  delivers events (turns.unasked count first rest u h e) = served setting row turn events first rest e (nothing (stuck first u.1)) (let_go (Exhausted count) rest h)
  delivers events (turns.untold count first rest u h e) = let shown = spent count rest h in served setting row turn events first rest e (untold_part setting row shown.0 turn first shown.1 u) (let_go (Exhausted count) rest h)

pub shape : (setting : Setting) (events : List (Event Own)) (turn : Turn) → Delivery setting events turn → Shape (guarded setting) turn (kinds_of events)
shape setting events turn (turns.idle next a e) = alone (answered Take _ events a)
shape setting events turn (turns.lacks a e) = alone (answered Take _ events a)
shape setting events turn (turns.exhausted count h e) = none (stuck events h)
shape setting events turn (turns.taken row attempt first rest a d e) = more (kinds_of rest) (delivers setting row turn rest d) (joined events first rest _ _ e (answered Take _ first a) refl)
