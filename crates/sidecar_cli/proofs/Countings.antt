-- Brokers that are counted one after the other, and the texts that the note gets of them.
use Rattle.std.specs.Prelude.{◌≡◌, ◌≤◌, ◌<◌, ◌+◌, ℕ, suc, Bool, true, false, List, [], ◌∷◌, ◌++◌, not, length, take, drop, slice_index_or, Option, Some, None, refl}
use Rattle.std.specs.Option.{option_or}
use Rattle.std.proofs.Common.{◌∙◌, ap, sym, subst, arith}
use Rattle.std.proofs.Math.Bool.{cond}
use Rattle.std.proofs.Math.Seq.{drop-cons}
use Rattle.std.proofs.lemmas.List.{append-nil, take_all, take_more, take-append-drop, length-append}
use Rattle.std.proofs.lemmas.List.Elements.{filter-append}
use Rattle.std.proofs.lemmas.List.Filters.{length-filter_both}
use Rattle.rand_core.specs.Stream.{Stream}
use Rattle.policy_run.specs.Effects.{Clocked}
use Rattle.link_call.specs.LinkAt.{LinkAt}
use Rattle.conn_serve.specs.Ends.{SinkAt}
use Rattle.resource_spec.specs.Component.{Loaded}
use Rattle.sidecar_objects.specs.Composed.{lone_stays, pass_stays, sound_stays}
use Rattle.sidecar_objects.specs.Kind.{CellsAt, Kinds, SeatsAt}
use Rattle.sidecar_objects.specs.Passes.{IsLone, IsPassOf, IsSoundPass}
use Rattle.sidecar_turns.specs.Brokers.{is_broker, brokers_of}
use Rattle.sidecar_cli.specs.Counting.{AreCountedOf, IsCountedOf, IsTold, none, more}
use Rattle.sidecar_cli.specs.Note.{AreNoted, IsNoted}
use Rattle.sidecar_cli.proofs.Noted.{noted_more}

-- ---- the brokers

-- a clock, a link and random words, of which nothing is asked
pub still : Clocked
still = record { last = 0; paused = 0; ticks = None }

pub unasked : LinkAt
unasked = record { calls = None; faults = 0; expiries = 0 }

pub silent : Stream
silent = record { u32_after = λ cs. 0; u64_after = λ cs. 0; bytes_after = λ cs n. [] }

or_assoc : {T : Type 0} (a b c : Option T) → option_or (option_or a b) c ≡ option_or a (option_or b c)
or_assoc None b c = refl
or_assoc (Some x) b c = refl

or_none : {T : Type 0} (a : Option T) → option_or a None ≡ a
or_none None = refl
or_none (Some x) = refl

-- there are no more brokers than components
pub few : (components : List Loaded) → length (brokers_of components) ≤ length components
few components =
    let both = length-filter_both (λ (c : Loaded). is_broker c.kind) (λ (c : Loaded). not (is_broker c.kind)) (λ c. refl) components in
    omega (arith, both)

module _ {O : Type 0} (kinds : Kinds O) (cells : CellsAt O) where
  pub pass_counted : (name : List ℕ) (place : ℕ) (seats seats' : SeatsAt O) (text : List ℕ) (spent : Option ℕ) → IsCountedOf kinds cells name place seats text spent seats' → IsPassOf cells seats → IsPassOf cells seats'
  pass_counted name place seats seats' text spent counted of = pass_stays kinds cells (record { seats = seats; clock = still; link = unasked; words = silent }) _ (record { seats = seats'; clock = still; link = unasked; words = silent }) (counted.does still unasked silent).went of

  pub lone_counted : (place : ℕ) (cs : List Loaded) (seats seats' : SeatsAt O) (texts : List (List ℕ)) (spent : Option ℕ) → AreCountedOf kinds cells place cs seats texts spent seats' → IsLone cells seats → IsLone cells seats'
  lone_counted _ _ _ _ _ _ (none place seats) lone = lone
  lone_counted _ _ _ _ _ _ (more place c cs seats between seats' text texts spent later counted behind) lone =
      lone_counted (suc place) cs between seats' texts later behind (lone_stays kinds cells (record { seats = seats; clock = still; link = unasked; words = silent }) _ (record { seats = between; clock = still; link = unasked; words = silent }) (counted.does still unasked silent).went lone)

  pub sound_counted : (place : ℕ) (cs : List Loaded) (seats seats' : SeatsAt O) (texts : List (List ℕ)) (spent : Option ℕ) → AreCountedOf kinds cells place cs seats texts spent seats' → IsSoundPass kinds cells seats → IsSoundPass kinds cells seats'
  sound_counted _ _ _ _ _ _ (none place seats) sound = sound
  sound_counted _ _ _ _ _ _ (more place c cs seats between seats' text texts spent later counted behind) sound =
      sound_counted (suc place) cs between seats' texts later behind (sound_stays kinds cells (record { seats = seats; clock = still; link = unasked; words = silent }) _ (record { seats = between; clock = still; link = unasked; words = silent }) (counted.does still unasked silent).went sound)

  -- one more broker behind the others
  pub counted_on : (place at : ℕ) (c : Loaded) (cs : List Loaded) (seats between seats' : SeatsAt O) (texts : List (List ℕ)) (text : List ℕ) (spent later : Option ℕ) → at ≡ place + length cs → AreCountedOf kinds cells place cs seats texts spent between → IsCountedOf kinds cells c.name at between text later seats'
      → AreCountedOf kinds cells place (cs ++ c ∷ []) seats (texts ++ text ∷ []) (option_or spent later) seats'
  counted_on _ at c _ _ _ seats' _ text _ later here (none place seats) one =
      let same : at ≡ place = omega (arith, here) in
      subst (λ s. AreCountedOf kinds cells place (c ∷ []) seats (text ∷ []) s seats') (or_none later)
      (more place c [] seats seats' seats' text [] later None (subst (λ k. IsCountedOf kinds cells c.name k seats text later seats') same one) (none (suc place) seats'))
  counted_on _ at c _ _ _ seats' _ text _ later here (more place d ds seats mid between first texts spent' others counted behind) one =
      let next : at ≡ suc place + length ds = omega (arith, here) in
      subst (λ s. AreCountedOf kinds cells place (d ∷ (ds ++ c ∷ [])) seats (first ∷ (texts ++ text ∷ [])) s seats') (sym (or_assoc spent' others later))
      (more place d (ds ++ c ∷ []) seats mid seats' first (texts ++ text ∷ []) spent' (option_or others later) counted (counted_on (suc place) at c ds mid between seats' texts text others later next behind one))

  -- the brokers among the components before a place are counted
  pub record CountedSoFar (components : List Loaded) (at place : ℕ) (seats seats' : SeatsAt O) (note note' : SinkAt) (spent : Option ℕ) : Type 0 where
    pub wide : place ≡ length (brokers_of (take at components))
    pub texts : List (List ℕ)
    pub counted : AreCountedOf kinds cells 0 (brokers_of (take at components)) seats texts spent seats'
    pub noted : AreNoted note note' texts
    pub pass : IsPassOf cells seats'

  pub none_counted : (components : List Loaded) (seats : SeatsAt O) (note : SinkAt) → IsPassOf cells seats → CountedSoFar components 0 0 seats seats note note None
  none_counted components seats note pass = record { wide = refl; texts = []; counted = none 0 seats; noted = refl; pass = pass }

  module _ (components : List Loaded) (at : ℕ) (c : Loaded) (low : at < length components) (is : c ≡ slice_index_or components at c) where
    one_more : take (at + 1) components ≡ take at components ++ c ∷ []
    one_more = take_more components at c low ∙ (λ j. take at components ++ sym is j ∷ [])

    pubsubs_more : brokers_of (take (at + 1) components) ≡ brokers_of (take at components) ++ brokers_of (c ∷ [])
    pubsubs_more = ap brokers_of one_more ∙ filter-append (λ (d : Loaded). is_broker d.kind) (take at components) (c ∷ [])

    alone_in : (chosen : Bool) → is_broker c.kind ≡ chosen → brokers_of (c ∷ []) ≡ cond chosen (c ∷ []) []
    alone_in chosen kind = ap (λ b. cond b (c ∷ []) []) kind

    -- a broker's ledger stands at the place that is counted next
    pub place_within : (place : ℕ) → is_broker c.kind ≡ true → place ≡ length (brokers_of (take at components)) → place < length (brokers_of components)
    place_within place chosen wide =
        let whole : brokers_of components ≡ brokers_of (take at components) ++ (brokers_of (c ∷ []) ++ brokers_of (drop (suc at) components)) =
        ap brokers_of (sym (take-append-drop at components) ∙ ap (λ l. take at components ++ l) (drop-cons components at c low ∙ (λ j. sym is j ∷ drop (suc at) components)))
        ∙ filter-append (λ (d : Loaded). is_broker d.kind) (take at components) (c ∷ drop (suc at) components)
        ∙ ap (λ l. brokers_of (take at components) ++ l) (filter-append (λ (d : Loaded). is_broker d.kind) (c ∷ []) (drop (suc at) components)) in
        let one : length (brokers_of (c ∷ [])) ≡ 1 = ap length (alone_in true chosen) in
        let all : length (brokers_of components) ≡ length (brokers_of (take at components)) + (length (brokers_of (c ∷ [])) + length (brokers_of (drop (suc at) components))) =
        ap length whole ∙ length-append (brokers_of (take at components)) (brokers_of (c ∷ []) ++ brokers_of (drop (suc at) components)) ∙ ap (λ n. length (brokers_of (take at components)) + n) (length-append (brokers_of (c ∷ [])) (brokers_of (drop (suc at) components))) in
        omega (arith, wide, one, all)

    pub one_counted : (place : ℕ) (seats between seats' : SeatsAt O) (note mid note' : SinkAt) (spent later : Option ℕ) (text name : List ℕ) → name ≡ c.name → is_broker c.kind ≡ true → CountedSoFar components at place seats between note mid spent
        → IsCountedOf kinds cells name place between text later seats' → IsNoted mid note' text → CountedSoFar components (at + 1) (place + 1) seats seats' note note' (option_or spent later)
    one_counted place seats between seats' note mid note' spent later text name named chosen so_far counted noted =
        let more_of : brokers_of (take (at + 1) components) ≡ brokers_of (take at components) ++ c ∷ [] = pubsubs_more ∙ ap (λ l. brokers_of (take at components) ++ l) (alone_in true chosen) in
        let count : length (brokers_of (take (at + 1) components)) ≡ length (brokers_of (take at components)) + 1 = ap length more_of ∙ length-append (brokers_of (take at components)) (c ∷ []) in
        let one : IsCountedOf kinds cells c.name place between text later seats' = subst (λ n. IsCountedOf kinds cells n place between text later seats') named counted in
        let wide = so_far.wide in
        let from_none : place ≡ 0 + length (brokers_of (take at components)) = omega (arith, wide) in
        record {
          wide = omega (arith, count, wide);
          texts = so_far.texts ++ text ∷ [];
          counted = subst (λ l. AreCountedOf kinds cells 0 l seats (so_far.texts ++ text ∷ []) (option_or spent later) seats') (sym more_of) (counted_on 0 place c (brokers_of (take at components)) seats between seats' so_far.texts text spent later from_none so_far.counted one);
          noted = noted_more note mid note' so_far.texts text so_far.noted noted;
          pass = pass_counted c.name place between seats' text later one so_far.pass;
        }

    pub passed_over : (place : ℕ) (seats seats' : SeatsAt O) (note note' : SinkAt) (spent : Option ℕ) → is_broker c.kind ≡ false → CountedSoFar components at place seats seats' note note' spent → CountedSoFar components (at + 1) place seats seats' note note' spent
    passed_over place seats seats' note note' spent chosen so_far =
        let same : brokers_of (take (at + 1) components) ≡ brokers_of (take at components) = pubsubs_more ∙ ap (λ l. brokers_of (take at components) ++ l) (alone_in false chosen) ∙ append-nil (brokers_of (take at components)) in
        record {
          wide = so_far.wide ∙ ap length (sym same);
          texts = so_far.texts;
          counted = subst (λ l. AreCountedOf kinds cells 0 l seats so_far.texts spent seats') (sym same) so_far.counted;
          noted = so_far.noted;
          pass = so_far.pass;
        }

  pub all_counted : (components : List Loaded) (at place : ℕ) (seats seats' : SeatsAt O) (note note' : SinkAt) (spent : Option ℕ) → length components ≤ at → CountedSoFar components at place seats seats' note note' spent → IsTold kinds cells components seats seats' note note' spent
  all_counted components at place seats seats' note note' spent high so_far = record {
    texts = so_far.texts;
    counted = subst (λ l. AreCountedOf kinds cells 0 (brokers_of l) seats so_far.texts spent seats') (take_all at components high) so_far.counted;
    noted = so_far.noted;
  }

  pub so_far_by : {components : List Loaded} {at place place' : ℕ} {seats now now' : SeatsAt O} {note mid mid' : SinkAt} {spent spent' : Option ℕ} → place' ≡ place → now' ≡ now → mid' ≡ mid → spent' ≡ spent
      → CountedSoFar components at place seats now note mid spent → CountedSoFar components at place' seats now' note mid' spent'
  so_far_by {components} {at} {place} {place'} {seats} {now} {now'} {note} {mid} {mid'} {spent} {spent'} a b c d so_far =
      subst (λ p. CountedSoFar components at p seats now' note mid' spent') (sym a)
      (subst (λ z. CountedSoFar components at place seats z note mid' spent') (sym b)
      (subst (λ z. CountedSoFar components at place seats now note z spent') (sym c)
      (subst (λ z. CountedSoFar components at place seats now note mid z) (sym d) so_far)))
