-- Two calls, one after the other: what a source, a sink or a list of calls tells, moments, pauses and drawn words.
use Rattle.std.proofs.Common.{◌≡◌, ◌≤◌, ◌<◌, ◌+◌, ◌-◌, ◌^◌, min, ℕ, List, [], ◌∷◌, ◌++◌, length, take, Option, Some, None, map, refl, ap, sym, subst, ◌∙◌, arith, append_assoc, length-append}
use Rattle.std.specs.Prelude.{option_map}
use Rattle.std.proofs.lemmas.List.{map-append, append-nil, append_cancel_right, take-append-le}
use Rattle.std.proofs.Math.Seq.{take-append-add, take-length}
use Rattle.side_world.specs.Told.{Told, Took, SentSome, Tells}
use Rattle.side_world.specs.Answer.{Answer, Back, conn, Returns, AddsConn}
use Rattle.side_world.specs.Moments.{Between, Rises, Drawn}

-- nothing was added
pub told_nothing : {X : Type 0} (before : Option (List X)) → Told before before []
told_nothing None = refl
told_nothing (Some held) = ap Some (sym (append-nil held))

-- what two calls added is joined
pub told_on : {X : Type 0} (before between after : Option (List X)) (first second : List X) → Told before between first → Told between after second → Told before after (first ++ second)
told_on None between after first second one two = subst (λ z. Told z after second) one two
told_on (Some held) between after first second one two =
    subst (λ z. Told z after second) one two ∙ ap Some (append_assoc held first second)

-- nothing was taken
pub took_nothing : {X : Type 0} (before : Option (List X)) → Took before before []
took_nothing None = refl
took_nothing (Some left) = (left, refl, refl)

-- what two calls took is joined
pub took_on : {X : Type 0} (before between after : Option (List X)) (first second : List X) → Took before between first → Took between after second → Took before after (first ++ second)
took_on None between after first second one two = subst (λ z. Took z after second) one two
took_on {X} (Some left) between after first second one two =
    let after_first : Took (Some one.0) after second = subst (λ z. Took z after second) one.2 two in
    (after_first.0, one.1 ∙ ap (λ z. first ++ z) after_first.1 ∙ sym (append_assoc first second after_first.0), after_first.2)

-- all of it is a prefix of it
pub sent_all : {X : Type 0} (before after : Option (List X)) (items : List X) → Told before after items → SentSome before after items
sent_all before after items told = (length items, omega arith, rw take-length told)

-- all of a first piece, and a prefix of a second
pub sent_after : {X : Type 0} (before between after : Option (List X)) (first second : List X) → Told before between first → SentSome between after second → SentSome before after (first ++ second)
sent_after {X} before between after first second one two = (
  length first + two.0,
  omega (arith, length-append first second, two.1),
  subst (λ (z : List X). Told before after z) (sym (take-append-add first second two.0)) (told_on before between after first (take two.0 second) one two.2),
)

-- a prefix of a first piece, and nothing of a second
pub sent_before : {X : Type 0} (before after : Option (List X)) (first second : List X) → SentSome before after first → SentSome before after (first ++ second)
sent_before {X} before after first second one = (
  one.0,
  omega (arith, length-append first second, one.1),
  subst (λ (z : List X). Told before after z) (sym (take-append-le one.0 first second one.1)) one.2,
)

-- a list of calls that no call was added to
pub tells_nothing : {X : Type 0} (before : Option (List X)) → Tells before before []
tells_nothing before = λ all is. (all, is, sym (append-nil all))

-- what was added by two calls is joined
pub tells_on : {X : Type 0} (before between after : Option (List X)) (first second : List X) → Tells before between first → Tells between after second → Tells before after (first ++ second)
tells_on {X} before between after first second one two = λ all is.
    let later = two all is in
    let earlier = one later.0 later.1 in
    (earlier.0, earlier.1, later.2 ∙ (ap (λ (z : List X). z ++ second) earlier.2 ∙ append_assoc earlier.0 first second))

-- what is told no more says nothing of what was added
pub tells_no_more : {X : Type 0} (before : Option (List X)) (added : List X) → Tells before None added
tells_no_more before added = λ all is. absurd (cc)

-- what is told forwards is told backwards
pub told_tells : {X : Type 0} (before after : Option (List X)) (added : List X) → Told before after added → Tells before after added
told_tells None after added told = λ all is. absurd (cc)
told_tells (Some held) after added told = λ all is. (held, refl, cc)

-- moments may begin earlier
pub between_from : (earlier first : ℕ) (moments : List ℕ) (last : ℕ) → earlier ≤ first → Between first moments last → Between earlier moments last
between_from earlier first [] last before rise = omega arith
between_from earlier first (moment ∷ moments) last before rise = (omega (arith, rise.0), rise.1)

-- moments of two calls
pub between_on : (first : ℕ) (moments : List ℕ) (middle : ℕ) (others : List ℕ) (last : ℕ) → Between first moments middle → Between middle others last → Between first (moments ++ others) last
between_on first [] middle others last one two = between_from first middle others last one two
between_on first (moment ∷ moments) middle others last one two = (one.0, between_on moment moments middle others last one.1 two)

-- the last is not before the first
pub between_rises : (first : ℕ) (moments : List ℕ) (last : ℕ) → Between first moments last → first ≤ last
between_rises first [] last rise = rise
between_rises first (moment ∷ moments) last rise = omega (arith, rise.0, between_rises moment moments last rise.1)

-- a sum that nothing was added to
pub rises_nothing : (sum : ℕ) → Rises sum 0 sum
rises_nothing sum = (omega arith, omega arith, λ below. omega arith)

-- sums of two calls
pub rises_on : (before : ℕ) (first : ℕ) (between : ℕ) (second : ℕ) (after : ℕ) → Rises before first between → Rises between second after → Rises before (first + second) after
rises_on before first between second after one two = (omega (arith, one.0, two.0), omega (arith, one.1, two.1), λ below. last below (one.2 (omega (arith, two.0, below))) (two.2 below)) where
  last : after < 2 ^ 64 - 1 → between ≡ before + first → after ≡ between + second → after ≡ before + (first + second)
  last below p q = omega arith

-- a sum that stops at the end of its type rises so
pub rises_stopping : (before n after : ℕ) → before ≤ 2 ^ 64 - 1 → after ≡ min (before + n) (2 ^ 64 - 1) → Rises before n after
rises_stopping before n after within is = (omega arith, omega arith, λ below. omega arith)

-- no word was drawn
pub drawn_nothing : {S : Type 0} (next : S → ℕ × S) (stream : S) → Drawn next stream [] stream
drawn_nothing next stream = refl

-- one word
pub drawn_one : {S : Type 0} (next : S → ℕ × S) (stream after : S) (word : ℕ) → (word, after) ≡ next stream → Drawn next stream (word ∷ []) after
drawn_one {S} next stream after word is = (ap (λ (z : ℕ × S). z.0) is, ap (λ (z : ℕ × S). z.1) is)

-- words of two calls
pub drawn_on : {S : Type 0} (next : S → ℕ × S) (stream : S) (words : List ℕ) (between : S) (others : List ℕ) (after : S) → Drawn next stream words between → Drawn next between others after → Drawn next stream (words ++ others) after
drawn_on {S} next stream [] between others after one two = subst (λ (z : S). Drawn next z others after) one two
drawn_on next stream (word ∷ words) between others after one two = (one.0, drawn_on next (next stream).1 words between others after one.1 two)

-- a connection was accepted, and then it came back
pub adds_conn : (before between after : Option (List Answer)) (came : Back → Type 0) → Tells before between (conn None ∷ []) → Returns between after came → AddsConn before after came
adds_conn before between after came accepted returned = λ all is.
    let back = returned all is in
    let out = accepted (back.0 ++ conn None ∷ []) back.2 in
    let same : back.0 ≡ out.0 = append_cancel_right back.0 out.0 (conn None ∷ []) out.2 in
    (out.0, back.1, out.1, back.3 ∙ ap (λ (z : List Answer). z ++ conn (Some back.1) ∷ []) same, back.4)

-- what is told of each item by a function of it
pub tells_map : {X Y : Type 0} (f : X → Y) (before after : Option (List X)) (added : List X) → Tells before after added → Tells (option_map (map f) before) (option_map (map f) after) (map f added)
tells_map f before None added tells = λ all is. absurd (cc)
tells_map {X} {Y} f before (Some items) added tells = λ all is.
    let from = tells items refl in
    (map f from.0, ap (option_map (map f)) from.1, sym (same all is) ∙ (ap (map f) from.2 ∙ map-append f from.0 added)) where
      same : (all : List Y) → Some (map f items) ≡ Some all → map f items ≡ all
      same all is = cc
