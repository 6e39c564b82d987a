-- What is done of a call of a link, as a part of a turn.
use Rattle.std.proofs.Common.{◌≡◌, refl, ap, sym, subst, ℕ, List, [], ◌∷◌, ◌++◌, map, flat_map}
use Rattle.side_world.specs.declared.link.LinkCall.{LinkCall}
use Rattle.side_world.specs.Moments.{Between, Rises}
use Rattle.side_world.specs.Told.{Tells}
use Rattle.std.specs.List.{sum_by}
use Rattle.breaker_core.specs.Course.{Step}
use Rattle.link_call.specs.LinkAt.{Asks, LinkAt}
use Rattle.policy_run.specs.Event.{Event, own, guarded, word, moment, pause, own_of, step_of, word_of, moment_in, pause_of, tick_of}
use Rattle.policy_run.specs.Effects.{Clocked, Effects}
use Rattle.delivery_turn.specs.Settling.{Own, asked}
use Rattle.delivery_turn.specs.Stepping.{AsksApp, asked_in, entered_in}

abbrev pub raise : Event LinkCall → Event Own
raise (own call) = own (asked call)
raise (guarded step) = guarded step
raise (word w) = word w
raise (moment m) = moment m
raise (pause ms) = pause ms

abbrev pub raised : List (Event LinkCall) → List (Event Own)
raised events = map raise events

module _ {A B C : Type 0} (f : B → List C) (g : A → B) (h : A → List C) (each : (x : A) → f (g x) ≡ h x) where
  through : (xs : List A) → flat_map f (map g xs) ≡ flat_map h xs
  through [] = refl
  through (x ∷ xs) = λ i. each x i ++ through xs i

step_same : (e : Event LinkCall) → step_of (raise e) ≡ step_of e
step_same (own call) = refl
step_same (guarded step) = refl
step_same (word w) = refl
step_same (moment m) = refl
step_same (pause ms) = refl

word_same : (e : Event LinkCall) → word_of (raise e) ≡ word_of e
word_same (own call) = refl
word_same (guarded step) = refl
word_same (word w) = refl
word_same (moment m) = refl
word_same (pause ms) = refl

moment_same : (e : Event LinkCall) → moment_in (raise e) ≡ moment_in e
moment_same (own call) = refl
moment_same (guarded step) = refl
moment_same (word w) = refl
moment_same (moment m) = refl
moment_same (pause ms) = refl

pause_same : (e : Event LinkCall) → pause_of (raise e) ≡ pause_of e
pause_same (own call) = refl
pause_same (guarded step) = refl
pause_same (word w) = refl
pause_same (moment m) = refl
pause_same (pause ms) = refl

tick_same : (e : Event LinkCall) → tick_of (raise e) ≡ tick_of e
tick_same (own call) = refl
tick_same (guarded step) = refl
tick_same (word w) = refl
tick_same (moment m) = refl
tick_same (pause ms) = refl

own_raised : (events : List (Event LinkCall)) → flat_map own_of (raised events) ≡ map asked (flat_map own_of events)
own_raised [] = refl
own_raised (own call ∷ events) = ap (λ l. asked call ∷ l) (own_raised events)
own_raised (guarded step ∷ events) = own_raised events
own_raised (word w ∷ events) = own_raised events
own_raised (moment m ∷ events) = own_raised events
own_raised (pause ms ∷ events) = own_raised events

asked_back : (calls : List LinkCall) → flat_map asked_in (map asked calls) ≡ calls
asked_back [] = refl
asked_back (call ∷ calls) = ap (λ l. call ∷ l) (asked_back calls)

none_entered : (calls : List LinkCall) → flat_map entered_in (map asked calls) ≡ []
none_entered [] = refl
none_entered (call ∷ calls) = none_entered calls

pub raised_append : (one two : List (Event LinkCall)) → raised (one ++ two) ≡ raised one ++ raised two
raised_append [] two = refl
raised_append (e ∷ one) two = ap (λ l. raise e ∷ l) (raised_append one two)

pub effects_raised : (events : List (Event LinkCall)) (link link' : LinkAt) (held : List Step → Type 0) (clock clock' : Clocked) (drawn : List ℕ → Type 0)
    → Effects events (λ calls. Asks link calls link') held clock clock' drawn → Effects (raised events) (AsksApp link link') held clock clock' drawn
effects_raised events link link' held clock clock' drawn e = record {
  owned = subst (AsksApp link link') (sym (own_raised events)) (record { steps = none_entered (flat_map own_of events); calls = subst (λ calls. Asks link calls link') (sym (asked_back (flat_map own_of events))) e.owned });
  guards = subst held (sym (through step_of raise step_of step_same events)) e.guards;
  times = subst (λ ms. Between clock.last ms clock'.last) (sym (through moment_in raise moment_in moment_same events)) e.times;
  pauses = subst (λ ms. Rises clock.paused (sum_by (λ (n : ℕ). n) ms) clock'.paused) (sym (through pause_of raise pause_of pause_same events)) e.pauses;
  ticks = subst (λ ts. Tells clock.ticks clock'.ticks ts) (sym (through tick_of raise tick_of tick_same events)) e.ticks;
  words = subst drawn (sym (through word_of raise word_of word_same events)) e.words;
}
