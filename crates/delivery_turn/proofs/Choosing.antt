-- How a row is settled, by what was heard.
use Rattle.std.proofs.Common.{◌≡◌, ◌≢◌, ◌<◌, refl, ap, sym, ◌∙◌, arith, ℕ, zero, suc, true, false, List, [], ◌∷◌, length}
use Rattle.std.specs.Prelude.{Some, None, Result, Ok, Err, IfErr, IfOk, slice_index_or}
use lib.ListN.{get_elem?}
use mathlib.Core.Option.{some}
use Rattle.rand_core.specs.Stream.{Stream, next_u64}
use Rattle.side_base.specs.declared.message.Response.{Response}
use Rattle.side_world.specs.Moments.{Drawn}
use Rattle.side_world.proofs.Composed.{drawn_one, rises_nothing, tells_nothing}
use Rattle.json_text.specs.declared.doc.Doc.{Doc}
use Rattle.json_text.specs.declared.doc.Node.{Node}
use Rattle.json_text.specs.Forest.{Forest, one}
use Rattle.json_text.specs.Doc.{Shows}
use Rattle.json_text.specs.Faults.{IsFirstBad, IsFirstDeep}
use Rattle.json_text.proofs.FirstFaults.{no_bad, no_deep}
use Rattle.ledger_core.specs.declared.plan.Aim.{Aim}
use Rattle.ledger_core.specs.declared.command.Finish.TheVariants as finish
use Rattle.cloud_events.specs.declared.outcome.Verdict.{Verdict}
use Rattle.cloud_events.specs.declared.outcome.Verdict.TheVariants as verdict
use Rattle.cloud_events.specs.Verdict.{IsVerdict, by_reply, by_status, is_good as is_success}
use Rattle.cloud_events.specs.Wrapped.{IsRead}
use Rattle.rule_value.specs.Standing.{IsEvent}
use Rattle.rule_value.specs.Values.{Event as Shown}
use Rattle.topic_spec.specs.declared.sub.Sub.{Sub}
use Rattle.topic_spec.specs.Aiming.{aims_of}
use Rattle.policy_run.specs.Event.{Event, word}
use Rattle.policy_run.specs.Effects.{AreNone, Clocked, Effects, Made}
use Rattle.policy_run.proofs.Composed.{no_effects}
use Rattle.delivery_turn.specs.declared.row.Row.{Row}
use Rattle.delivery_turn.specs.declared.settling.Early.TheVariants as early
use Rattle.delivery_turn.specs.declared.settling.Settling.{Settling}
use Rattle.delivery_turn.specs.declared.settling.Settling.TheVariants.{Concluded, LetGo}
use Rattle.delivery_turn.specs.Settling.{Own}
use Rattle.delivery_turn.specs.Posting.{AimsAt, no_text, matches, DeadAims, nowhere, unreadable, matched, again, otherwise, IsJudged, by_number, read, unread, IsSubOf, HasLetter, for_body, for_letter, finish_of}
use Rattle.delivery_turn.specs.Turning.{Judges, Retries}
use Rattle.delivery_turn.specs.Turning as turning
use Rattle.delivery_turn.proofs.Shown.{RootLaw, is_event, is_read}

-- ---- verdicts

pub judged_unread : (response : Response) (v : Verdict) → is_success response.status ≡ false → v ≡ by_status response.status → IsJudged response v
judged_unread response v bad is = by_number bad is

module _ (response : Response) (good : is_success response.status ≡ true) (some_body : response.body ≢ []) where
  pub judged_read : (law : RootLaw) (doc : Doc) (v : Verdict) → Shows doc response.body → IsVerdict response.status (Some doc) v → IsJudged response v
  judged_read law doc v shows is =
      let first : Node = record { number = 0 } in
      let value = law doc response.body first shows refl in
      let told = is first refl (one value.spot value.children) value.here in
      read good some_body value.spot value.children (record { text = value.text; clean = value.clean }) (told ∙ ap (λ bytes. by_reply response.status bytes value.children) shows.same)

  pub judged_bad : (at : ℕ) (v : Verdict) → IsFirstBad response.body at → v ≡ by_status response.status → IsJudged response v
  judged_bad at v bad is = unread good some_body (λ values its. no_bad response.body at its.clean bad) is

  pub judged_deep : (at : ℕ) (v : Verdict) → IsFirstDeep response.body at → v ≡ by_status response.status → IsJudged response v
  judged_deep at v deep is = unread good some_body (λ values its. no_deep response.body at its.clean deep) is

-- ---- the dead letter

pub aims_matched : {E : Type 0} (law : RootLaw) (subs : List Sub) (event pubsub topic : List ℕ) (doc : Doc) (result : Result (List Aim) E) → Shows doc event → ((shown : Shown) → IsEvent doc shown → IfOk result (λ aims. aims ≡ aims_of shown pubsub topic subs)) → IfOk result (AimsAt subs event pubsub topic)
aims_matched law subs event pubsub topic doc (Ok aims) shows are =
    let its = is_read doc event shows in
    matches shows.values its (are (record { bytes = event; values = shows.values }) (is_event law doc event shows.values shows its))
aims_matched law subs event pubsub topic doc (Err e) shows are = tt

pub aims_of_none : (subs : List Sub) (event pubsub topic : List ℕ) (aims : List Aim) → aims ≡ [] → ((values : Forest) → ¬ IsRead event values) → AimsAt subs event pubsub topic aims
aims_of_none subs event pubsub topic aims is none_read = no_text none_read is

module _ (subs : List Sub) (row : Row) (sub : Sub) (is_sub : IsSubOf subs row sub) where
  pub dead_at : (topic : List ℕ) (aims : List Aim) → sub.dead ≡ Some topic → AimsAt subs row.event sub.pubsub topic aims → DeadAims subs row aims
  dead_at topic aims is (no_text none_read none_there) = unreadable sub topic is_sub is none_read none_there
  dead_at topic aims is (matches values its are) = matched sub topic values is_sub is its are

  pub dead_nowhere : (aims : List Aim) → sub.dead ≡ None → aims ≡ [] → DeadAims subs row aims
  dead_nowhere aims is none_there = nowhere sub is_sub is none_there

  pub has_letter : (topic : List ℕ) → sub.dead ≡ Some topic → HasLetter subs row
  has_letter topic is = record { sub = sub; topic = topic; is_sub = is_sub; dead = is }

pub sub_there : (subs : List Sub) (at : ℕ) (sub other : Sub) → at < length subs → sub ≡ slice_index_or subs at other → get_elem? subs at ≡ some sub
sub_there [] at sub other inside is = absurd (omega (arith, inside))
sub_there (one ∷ subs) zero sub other inside is = ap some (sym is)
sub_there (one ∷ subs) (suc at) sub other inside is = sub_there subs at sub other (omega (arith, inside)) is

-- ---- what is done

module _ (stream : Stream) (clock : Clocked) where
  nothing_drawn : Effects {E = Own} [] AreNone AreNone clock clock (λ words. Drawn next_u64 stream words stream)
  nothing_drawn = no_effects AreNone AreNone clock (λ words. Drawn next_u64 stream words stream) refl refl refl

  -- where nothing is drawn
  pub not_drawn : (is : List (Event Own) → Type 0) → is [] → Made is AreNone AreNone (record { before = clock; after = clock }) (λ words. Drawn next_u64 stream words stream)
  not_drawn is h = ([], h, nothing_drawn)

  -- one word is
  pub drawn : (is : List (Event Own) → Type 0) (w : ℕ) (stream' : Stream) → (w, stream') ≡ next_u64 stream → is (word w ∷ []) → Made is AreNone AreNone (record { before = clock; after = clock }) (λ words. Drawn next_u64 stream words stream')
  drawn is w stream' next h = (word w ∷ [], h, record { owned = refl; guards = refl; times = omega arith; pauses = rises_nothing clock.paused; ticks = tells_nothing clock.ticks; words = drawn_one next_u64 stream stream' w next })

-- the settlings
pub retried : (subs : List Sub) (row : Row) (w : ℕ) (dead : List Aim) (settling : Settling) → settling ≡ Concluded finish.Retry w dead → DeadAims subs row dead → Retries subs row settling (word w ∷ [])
retried subs row w dead settling is are = turning.again w dead is (again refl are refl)

pub concluded : (subs : List Sub) (row : Row) (response : Response) (v : Verdict) (settling : Settling) → IsJudged response v → settling ≡ Concluded (finish_of v) 0 [] → finish_of v ≢ finish.Retry → Judges subs row response settling []
concluded subs row response v settling is_judged is other = turning.judged v 0 [] is_judged is (otherwise other refl refl refl)

pub judged_retry : (subs : List Sub) (row : Row) (response : Response) (settling : Settling) (events : List (Event Own)) → IsJudged response verdict.Retry → Retries subs row settling events → Judges subs row response settling events
judged_retry subs row response settling events is_judged (turning.again w dead is draws) = turning.judged verdict.Retry w dead is_judged is draws
judged_retry subs row response settling events is_judged (turning.lacks letter is none_drawn) = turning.lacks (for_letter (verdict.Retry, is_judged, refl) letter) is none_drawn

-- its body was to be read
pub unread_body : (subs : List Sub) (row : Row) (response : Response) (settling : Settling) → (is_success response.status ≡ true) × (response.body ≢ []) → settling ≡ LetGo early.Held → Judges subs row response settling []
unread_body subs row response settling wanted is = turning.lacks (for_body response refl wanted.0 wanted.1) is refl

-- ---- carried on

pub each_err : {T E : Type 0} (result : Result T E) (P : E → Type 0) → ((e : E) → P e) → IfErr result P
each_err (Ok x) P f = tt
each_err (Err e) P f = f e

pub more_ok : {T E : Type 0} (result : Result T E) (P Q : T → Type 0) → ((x : T) → P x → Q x) → IfOk result P → IfOk result Q
more_ok (Ok x) P Q f h = f x h
more_ok (Err e) P Q f h = tt

pub more_made : (clock : Clocked) (is other : List (Event Own) → Type 0) (drawn : List ℕ → Type 0) → ((events : List (Event Own)) → is events → other events) → Made is AreNone AreNone (record { before = clock; after = clock }) drawn → Made other AreNone AreNone (record { before = clock; after = clock }) drawn
more_made clock is other drawn f made = (made.0, f made.0 made.1, made.2)
