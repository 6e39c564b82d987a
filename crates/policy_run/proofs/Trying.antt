-- The turns of a call under a retry policy, from turn to turn.
use Rattle.std.proofs.Common.{◌≡◌, ℕ, Bool, true, false, List, [], ◌∷◌, ◌++◌, ◌≤◌, Option, Some, None, refl, sym, ap, subst, append_assoc, arith}
use Rattle.rand_core.specs.Stream.{Stream, next_u64}
use Rattle.breaker_core.specs.Course.{Step}
use Rattle.retry_core.specs.declared.policy.RetryPolicy.{RetryPolicy}
use Rattle.retry_core.specs.RetryRun.{Run, run_after}
use Rattle.retry_core.specs.RetryPolicy.{decided}
use Rattle.retry_core.specs.declared.run.Next.TheVariants.{GiveUp, Wait}
use Rattle.side_world.specs.Moments.{Drawn, Rises}
use Rattle.side_world.specs.Told.{Tells}
use Rattle.side_world.specs.declared.clock.Tick.TheVariants as tick
use Rattle.side_world.proofs.Composed.{drawn_on, drawn_one, rises_nothing, tells_nothing}
use Rattle.policy_run.specs.declared.operation.Attempt.{Attempt}
use Rattle.policy_run.specs.declared.outcome.Outcome.{Outcome}
use Rattle.policy_run.specs.declared.outcome.Outcome.TheVariants.{Good, Bad, Refused, Exhausted, NoMemory}
use Rattle.policy_run.specs.declared.turn.Turned.{Turned}
use Rattle.policy_run.specs.declared.turn.Turned.TheVariants.{Failed, Ended}
use Rattle.policy_run.specs.Event.{Event, word, pause}
use Rattle.policy_run.specs.Effects.{Clocked, Effects}
use Rattle.policy_run.specs.Attempts.{Tried, TurnsTo, Ends, Decides, Attempted, last_outcome}
use Rattle.policy_run.proofs.Composed.{effects_on, nothing_after}

-- so far: turns that failed with these words, and what they did
pub record Trying {E G B : Type 0} (policy : RetryPolicy) (there : Bool) (makes : Attempt G B → List (Event E) → Type 0) (did : List E → Type 0) (held : List Step → Type 0) (clock clock' : Clocked) (drawn : List ℕ → Type 0) (run : Run) : Type 0 where
  pub words : List ℕ
  pub events : List (Event E)
  pub tried : Tried there makes (Some policy) words events
  pub run_is : run ≡ run_after policy words
  pub effects : Effects events did held clock clock' drawn

module _ {E G B : Type 0} (policy : RetryPolicy) (there : Bool) (makes : Attempt G B → List (Event E) → Type 0) where
  -- before the first turn
  pub begun : (did : List E → Type 0) (held : List Step → Type 0) (clock : Clocked) (drawn : List ℕ → Type 0) (run : Run) → run ≡ run_after policy [] → Effects [] did held clock clock drawn → Trying policy there makes did held clock clock drawn run
  begun did held clock drawn run is effects = record { words = []; events = []; tried = refl; run_is = is; effects = effects }

  module _ (did did-then did-all : List E → Type 0) (held held-then held-all : List Step → Type 0) (clock between clock' : Clocked) (stream stream' : Stream) (run : Run)
      (did-on : (xs ys : List E) → did xs → did-then ys → did-all (xs ++ ys)) (held-on : (xs ys : List Step) → held xs → held-then ys → held-all (xs ++ ys))
      (so-far : Trying policy there makes did held clock between (λ ws. Drawn next_u64 stream ws stream') run) where
    with_turn : (turn : List (Event E)) → Effects turn did-then held-then between clock' (λ xs. xs ≡ []) → Effects (so-far.events ++ turn) did-all held-all clock clock' (λ ws. Drawn next_u64 stream ws stream')
    with_turn turn e = effects_on so-far.events turn did did-then did-all held held-then held-all clock between clock' (λ ws. Drawn next_u64 stream ws stream') (λ xs. xs ≡ []) (λ ws. Drawn next_u64 stream ws stream') did-on held-on (nothing_after (λ ws. Drawn next_u64 stream ws stream')) so-far.effects e

    ends_so : (outcome : Outcome G B) (turn : List (Event E)) → TurnsTo there makes (Ended outcome) turn → Ends there makes (Some policy) so-far.words outcome turn
    ends_so (Good good) turn h = h
    ends_so (Bad bad) turn h = absurd h
    ends_so (Refused refusal) turn h = h
    ends_so (Exhausted count) turn h = h
    ends_so NoMemory turn h = h

    -- the turn that ends the call
    pub ended : (outcome : Outcome G B) → ((turn : List (Event E)) × TurnsTo there makes (Ended outcome) turn × Effects turn did-then held-then between clock' (λ xs. xs ≡ []))
        → (events : List (Event E)) × Attempted (Some policy) there makes outcome events × Effects events did-all held-all clock clock' (λ ws. Drawn next_u64 stream ws stream')
    ended outcome t = (so-far.events ++ t.0, record { words = so-far.words; before = so-far.events; last = t.0; tried = so-far.tried; ends = ends_so outcome t.0 t.1; whole = refl }, with_turn t.0 t.2)

    module _ (bad : B) (t : (turn : List (Event E)) × TurnsTo there makes (Failed bad) turn × Effects turn did-then held-then between clock' (λ xs. xs ≡ [])) (clock'' : Clocked) (stream'' : Stream) where
      decided_so : (after : List (Event E)) → Effects after (λ xs. xs ≡ []) (λ xs. xs ≡ []) clock' clock'' (λ ws. Drawn next_u64 stream' ws stream'') → Effects ((so-far.events ++ t.0) ++ after) did-all held-all clock clock'' (λ ws. Drawn next_u64 stream ws stream'')
      decided_so after e = effects_on (so-far.events ++ t.0) after did-all (λ xs. xs ≡ []) did-all held-all (λ xs. xs ≡ []) held-all clock clock' clock'' (λ ws. Drawn next_u64 stream ws stream') (λ ws. Drawn next_u64 stream' ws stream'') (λ ws. Drawn next_u64 stream ws stream'') (nothing_after did-all) (nothing_after held-all) (λ xs ys. drawn_on next_u64 stream xs stream' ys stream'') (with_turn t.0 t.2) e

      -- a turn that failed, and a word that gave a wait
      pub one_more : (run' : Run) → ((after : List (Event E)) × Decides policy so-far.words true run' after × Effects after (λ xs. xs ≡ []) (λ xs. xs ≡ []) clock' clock'' (λ ws. Drawn next_u64 stream' ws stream''))
          → Trying policy there makes did-all held-all clock clock'' (λ ws. Drawn next_u64 stream ws stream'') run'
      one_more run' a = record {
        words = a.1.0 ∷ so-far.words;
        events = (so-far.events ++ t.0) ++ a.0;
        tried = (so-far.events, t.0, bad, a.1.1, so-far.tried, t.1, a.1.2, ap (λ z. (so-far.events ++ t.0) ++ z) a.1.4);
        run_is = a.1.3;
        effects = decided_so a.0 a.2;
      }

      -- a turn that failed, and a word after which none follows
      pub given_up : (run' : Run) → ((after : List (Event E)) × Decides policy so-far.words false run' after × Effects after (λ xs. xs ≡ []) (λ xs. xs ≡ []) clock' clock'' (λ ws. Drawn next_u64 stream' ws stream''))
          → (events : List (Event E)) × Attempted (Some policy) there makes (Bad bad) events × Effects events did-all held-all clock clock'' (λ ws. Drawn next_u64 stream ws stream'')
      given_up run' a = (
        (so-far.events ++ t.0) ++ a.0,
        record { words = so-far.words; before = so-far.events; last = t.0 ++ a.0; tried = so-far.tried; ends = (t.0, a.1.0, a.1.1, t.1, a.1.2, ap (λ z. t.0 ++ z) a.1.3); whole = append_assoc so-far.events t.0 a.0 },
        decided_so a.0 a.2,
      )

-- what was decided, where it is known
module _ {E : Type 0} (policy : RetryPolicy) (words : List ℕ) (run : Run) (clock clock' : Clocked) (drawn : List ℕ → Type 0) where
  pub decided_as : (went went' : Bool) → went ≡ went' → ((after : List (Event E)) × Decides policy words went run after × Effects after (λ xs. xs ≡ []) (λ xs. xs ≡ []) clock clock' drawn)
      → (after : List (Event E)) × Decides policy words went' run after × Effects after (λ xs. xs ≡ []) (λ xs. xs ≡ []) clock clock' drawn
  decided_as went went' same d = (d.0, subst (λ z. Decides policy words z run d.0) same d.1, d.2)

-- one word was drawn, and decides
module _ {E : Type 0} (policy : RetryPolicy) (words : List ℕ) (clock : Clocked) (stream stream' : Stream) (w : ℕ) (drawn : (w, stream') ≡ next_u64 stream) where
  pub gives_up : (run : Run) (attempts : ℕ) → decided policy (w ∷ words) ≡ GiveUp attempts
      → (after : List (Event E)) × Decides policy words false run after × Effects after (λ xs. xs ≡ []) (λ xs. xs ≡ []) clock clock (λ ws. Drawn next_u64 stream ws stream')
  gives_up run attempts is = (word w ∷ [], (w, attempts, is, refl), record { owned = refl; guards = refl; times = omega arith; pauses = rises_nothing clock.paused; ticks = tells_nothing clock.ticks; words = drawn_one next_u64 stream stream' w drawn })

  pub waits : (run : Run) (clock' : Clocked) (ms : ℕ) → decided policy (w ∷ words) ≡ Wait ms → run ≡ run_after policy (w ∷ words) → clock.last ≤ clock'.last → Rises clock.paused ms clock'.paused → Tells clock.ticks clock'.ticks (tick.Paused ms ∷ [])
      → (after : List (Event E)) × Decides policy words true run after × Effects after (λ xs. xs ≡ []) (λ xs. xs ≡ []) clock clock' (λ ws. Drawn next_u64 stream ws stream')
  waits run clock' ms is run-is later paused ticks = (word w ∷ pause ms ∷ [], (w, ms, is, run-is, refl), record { owned = refl; guards = refl; times = later; pauses = (omega (arith, paused.0), omega (arith, paused.1), λ below. omega (arith, paused.2 below)); ticks = ticks; words = drawn_one next_u64 stream stream' w drawn })

-- a call without a retry policy has one turn
module _ {E G B : Type 0} (there : Bool) (makes : Attempt G B → List (Event E) → Type 0) where
  only_turn : (turned : Turned G B) (turn : List (Event E)) → TurnsTo there makes turned turn → Ends there makes None [] (last_outcome turned) turn
  only_turn (Failed bad) turn h = h
  only_turn (Ended (Good good)) turn h = h
  only_turn (Ended (Bad bad)) turn h = absurd h
  only_turn (Ended (Refused refusal)) turn h = h
  only_turn (Ended (Exhausted count)) turn h = h
  only_turn (Ended NoMemory) turn h = h

module _ {E G B : Type 0} (there : Bool) (makes : ℕ → Attempt G B → List (Event E) → Type 0) (limit taken : ℕ) (same : taken ≡ limit) where
  pub once : (there' : Bool) (retry : Option RetryPolicy) (did : List E → Type 0) (held : List Step → Type 0) (clock clock' : Clocked) (drawn : List ℕ → Type 0) (turned : Turned G B) (outcome : Outcome G B) → there' ≡ there → retry ≡ None → drawn [] → outcome ≡ last_outcome turned
      → ((turn : List (Event E)) × TurnsTo there' (makes taken) turned turn × Effects turn did held clock clock' (λ xs. xs ≡ []))
      → (events : List (Event E)) × Attempted retry there (makes limit) outcome events × Effects events did held clock clock' drawn
  once there' retry did held clock clock' drawn turned outcome same-there none-is none-drawn is t = (
    t.0,
    subst (λ z. Attempted z there (makes limit) outcome t.0) (sym none-is) (subst (λ z. Attempted None there (makes limit) z t.0) (sym is) (record { words = []; before = []; last = t.0; tried = refl; ends = only_turn there (makes limit) turned t.0 (subst (λ n. TurnsTo there (makes n) turned t.0) same (subst (λ b. TurnsTo b (makes taken) turned t.0) same-there t.1)); whole = refl })),
    record { owned = t.2.owned; guards = t.2.guards; times = t.2.times; pauses = t.2.pauses; ticks = t.2.ticks; words = subst drawn (sym t.2.words) none-drawn },
  )
