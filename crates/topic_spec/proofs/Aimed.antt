-- The aims, one after the other.
use Rattle.std.proofs.Common.{◌≡◌, ◌≢◌, inl, inr, ◌∙◌, ap, sym, subst, arith, ℕ, ◌+◌, ◌<◌, ◌≤◌, List, [], ◌∷◌, ◌++◌, append_assoc, append-nil, Option}
use Rattle.std.specs.List.{All, AllPairs}
use Rattle.std.proofs.lemmas.List.Elements.{All-append, All-cons}
use Rattle.std.proofs.lemmas.List.Quantifiers.{all_pairs_push}
use Rattle.ledger_core.specs.declared.plan.Aim.{Aim}
use Rattle.ledger_core.specs.Aims.{AreAims}
use Rattle.rule_value.specs.Values.{Event}
use Rattle.topic_spec.specs.declared.sub.Sub.{Sub}
use Rattle.topic_spec.specs.Aiming.{aim_at, aims_from, IsAimed}

module _ (event : Event) (pubsub topic : List ℕ) where
  -- one subscription more
  pub aims_on : (all : List Aim) (place : ℕ) (sub : Sub) (subs later : List Sub) (before after : List Aim) → subs ≡ sub ∷ later → after ≡ before ++ aim_at place event pubsub topic sub → before ++ aims_from place event pubsub topic subs ≡ all → after ++ aims_from (place + 1) event pubsub topic later ≡ all
  unfolding aims_from
  aims_on all place sub subs later before after at new old =
      ap (λ xs. xs ++ aims_from (place + 1) event pubsub topic later) new
      ∙ append_assoc before (aim_at place event pubsub topic sub) (aims_from (place + 1) event pubsub topic later)
      ∙ ap (λ xs. before ++ aims_from place event pubsub topic xs) (sym at) ∙ old

  pub aims_done : (all : List Aim) (place : ℕ) (subs : List Sub) (aims : List Aim) → subs ≡ [] → aims ++ aims_from place event pubsub topic subs ≡ all → aims ≡ all
  unfolding aims_from
  aims_done all place [] aims is old = sym (append-nil aims) ∙ old
  aims_done all place (sub ∷ subs) aims is old = let bad : ⊥ = cc in absurd bad

-- ---- places

abbrev pub AreBelow : ℕ → List Aim → Type 0
AreBelow place aims = All (λ (aim : Aim). aim.sub < place) aims

abbrev pub AreApart : List Aim → Type 0
AreApart aims = AllPairs (λ (a b : Aim). a.sub ≢ b.sub) aims

all_below : (place next : ℕ) (aims : List Aim) → place ≤ next → AreBelow place aims → AreBelow next aims
all_below place next aims less below = λ k d within. (let own = below k d within in omega (arith, own, less))

one_below : (place : ℕ) (path : Option (List ℕ)) → AreBelow (place + 1) (record { sub = place; path = path } ∷ [])
one_below place path = All-cons (λ (aim : Aim). aim.sub < place + 1) (record { sub = place; path = path }) [] (omega arith) (λ k d within. absurd (omega (arith, within)))

pub below_on : (place : ℕ) (old new : List Aim) → IsAimed place old new → AreBelow place old → AreBelow (place + 1) new
below_on place old new (inl same) below = subst (AreBelow (place + 1)) (sym same) (all_below place (place + 1) old (omega arith) below)
below_on place old new (inr (path, is)) below = subst (AreBelow (place + 1)) (sym is) (All-append (λ (aim : Aim). aim.sub < place + 1) old (record { sub = place; path = path } ∷ []) (all_below place (place + 1) old (omega arith) below) (one_below place path))

pub apart_on : (place : ℕ) (old new : List Aim) → IsAimed place old new → AreBelow place old → AreApart old → AreApart new
apart_on place old new (inl same) below apart = subst AreApart (sym same) apart
apart_on place old new (inr (path, is)) below apart = subst AreApart (sym is) (all_pairs_push (λ (a b : Aim). a.sub ≢ b.sub) old (record { sub = place; path = path }) apart (λ k d within e. (let own = below k d within in absurd (omega (arith, own, e)))))

pub are_aims : (place count : ℕ) (aims : List Aim) → place ≤ count → AreBelow place aims → AreApart aims → AreAims count aims
are_aims place count aims over below apart = record { planned = all_below place count aims over below; once = apart }
