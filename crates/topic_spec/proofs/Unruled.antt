-- Aims that no event decides: of subscriptions without rules.
use Rattle.std.proofs.Common.{◌≡◌, ◌∙◌, ap, sym, refl, cond, Bool, true, false, ℕ, List, [], ◌∷◌, Option, None}
use Rattle.std.specs.Prelude.{◌&&◌, ◌||◌}
use Rattle.std.specs.Option.{option_or}
use Rattle.ledger_core.specs.declared.plan.Aim.{Aim}
use Rattle.rule_value.specs.Values.{Event}
use Rattle.topic_spec.specs.declared.sub.Rule.{Rule}
use Rattle.topic_spec.specs.declared.sub.Sub.{Sub}
use Rattle.topic_spec.specs.Aiming.{first_yes, path_of, is_to, has_rules, is_ruled, are_ruled, aim_at}

without_rules : (event : Event) (rules : List Rule) → has_rules rules ≡ false → first_yes event rules ≡ None
unfolding first_yes
without_rules event [] none_there = refl
without_rules event (rule ∷ rules) none_there = let bad : ⊥ = cc in absurd bad

-- the path of a subscription to the topic that has no rules is its default
default_path : (event : Event) (pubsub topic : List ℕ) (sub : Sub) → is_to pubsub topic sub ≡ true → is_ruled pubsub topic sub ≡ false → path_of event sub ≡ sub.default
unfolding path_of is_ruled
default_path event pubsub topic sub to unruled =
    ap (λ found. option_or found sub.default) (without_rules event sub.rules (ap (λ b. b && has_rules sub.rules) (sym to) ∙ unruled))

abbrev aim : ℕ → Option (List ℕ) → List Aim
aim place path = record { sub = place; path = path } ∷ []

pub default_aim : (place : ℕ) (event : Event) (pubsub topic : List ℕ) (sub : Sub) → is_to pubsub topic sub ≡ true → is_ruled pubsub topic sub ≡ false
    → aim place sub.default ≡ aim_at place event pubsub topic sub
unfolding aim_at
default_aim place event pubsub topic sub to unruled =
    ap (aim place) (sym (default_path event pubsub topic sub to unruled)) ∙ ap (λ b. cond b (aim place (path_of event sub)) []) (sym to)

-- ---- one subscription after the other

module _ (pubsub topic : List ℕ) (all : Bool) (rest later : List Sub) (sub : Sub) (at : rest ≡ sub ∷ later) (old : are_ruled pubsub topic rest ≡ all) where
  pub ruled_past : is_ruled pubsub topic sub ≡ false → are_ruled pubsub topic later ≡ all
  unfolding are_ruled
  ruled_past unruled = ap (λ b. b || are_ruled pubsub topic later) (sym unruled) ∙ ap (are_ruled pubsub topic) (sym at) ∙ old

  pub ruled_here : is_ruled pubsub topic sub ≡ true → true ≡ all
  unfolding are_ruled
  ruled_here ruled = ap (λ b. b || are_ruled pubsub topic later) (sym ruled) ∙ ap (are_ruled pubsub topic) (sym at) ∙ old

pub ruled_done : (pubsub topic : List ℕ) (all : Bool) (rest : List Sub) → rest ≡ [] → are_ruled pubsub topic rest ≡ all → false ≡ all
unfolding are_ruled
ruled_done pubsub topic all rest at old = ap (are_ruled pubsub topic) (sym at) ∙ old
