-- One attempt of a call of a link.
use Rattle.std.proofs.Common.{◌≡◌, ◌≤◌, ◌<◌, ◌+◌, nat_lt, ℕ, false, List, [], ◌∷◌, Option, Result, refl, arith}
use Rattle.std.specs.Prelude.{IfOk}
use Rattle.side_base.specs.declared.message.LinkRequest.{LinkRequest}
use Rattle.side_base.specs.declared.message.Response.{Response}
use Rattle.side_world.specs.declared.link.LinkCall.{LinkCall}
use Rattle.side_world.specs.declared.link.LinkErr.{LinkErr}
use Rattle.side_world.specs.declared.clock.Tick.TheVariants as tick
use Rattle.side_world.specs.Link.{CountsFault, CountsExpiry, IsReply}
use Rattle.side_world.specs.Told.{Tells}
use Rattle.side_world.proofs.Composed.{tells_nothing, tells_on, rises_nothing}
use Rattle.policy_run.specs.declared.operation.Attempt.{Attempt}
use Rattle.policy_run.specs.Event.{Event, own, moment}
use Rattle.policy_run.specs.Effects.{Clocked, Effects, ReadsNow}
use Rattle.link_call.specs.declared.miss.Miss.{Miss}
use Rattle.link_call.specs.Linked.{Tries, free, timed, call_of, heard}
use Rattle.link_call.specs.LinkAt.{Asks, Holds, LinkAt}

-- one call of a link, and its answer
pub record Answers (at : LinkAt) (call : LinkCall) (after : LinkAt) : Type 0 where
  pub told : Tells at.calls after.calls (call ∷ [])
  pub faults : CountsFault call.answer at.faults after.faults
  pub no_fewer : at.faults ≤ after.faults
  pub expiries : CountsExpiry call.answer at.expiries after.expiries
  pub no_fewer_expiries : at.expiries ≤ after.expiries
  pub reply : IfOk call.answer IsReply

pub asks_one : (at after : LinkAt) (call : LinkCall) → Answers at call after → Asks at (call ∷ []) after
asks_one at after call answers = record {
  told = answers.told;
  faults = (after.faults, answers.faults, answers.no_fewer, refl);
  expiries = (after.expiries, answers.expiries, answers.no_fewer_expiries, refl);
  replies = (answers.reply, tt);
}

module _ (request : LinkRequest) (name : ℕ) (at after : LinkAt) (limit : ℕ) (answer : Result Response LinkErr) (came : Attempt Response Miss) (answers : Answers at (call_of request limit answer) after) where
  abbrev Comes : Clocked → Clocked → Type 0
  Comes clock clock' = (events : List (Event LinkCall)) × Tries request limit came events × Effects events (λ xs. Holds request name at xs request name after) (λ xs. xs ≡ []) clock clock' (λ xs. xs ≡ [])

  -- without a limit no moment is read
  pub unlimited : (clock : Clocked) → limit ≡ 0 → came ≡ heard answer false → Comes clock clock
  unlimited clock none is = (
    own (call_of request limit answer) ∷ [],
    free answer none is refl,
    record {
      owned = record { same_request = refl; same_link = refl; asks = asks_one at after (call_of request limit answer) answers };
      guards = refl;
      times = omega arith;
      pauses = rises_nothing clock.paused;
      ticks = tells_nothing clock.ticks;
      words = refl;
    },
  )

  -- with one, one before and one after
  pub limited : (clock between clock' : Clocked) (before later : ℕ) → ReadsNow clock before between → ReadsNow between later clock' → 0 < limit → came ≡ heard answer (nat_lt (before + limit) later) → Comes clock clock'
  limited clock between clock' before later one two some is = (
    moment before ∷ own (call_of request limit answer) ∷ moment later ∷ [],
    timed before later answer some is refl,
    record {
      owned = record { same_request = refl; same_link = refl; asks = asks_one at after (call_of request limit answer) answers };
      guards = refl;
      times = (omega (arith, one.later, one.last), (omega (arith, one.last, two.later, two.last), omega (arith, two.last)));
      pauses = (omega (arith, one.paused, two.paused), omega (arith, one.paused, two.paused), λ below. omega (arith, one.paused, two.paused));
      ticks = tells_on clock.ticks between.ticks clock'.ticks (tick.Read before ∷ []) (tick.Read later ∷ []) one.ticks two.ticks;
      words = refl;
    },
  )
