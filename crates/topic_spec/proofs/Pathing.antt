-- The path of an event by the values of rules, one rule and one subscription after the other.
use Rattle.std.proofs.Common.{◌≡◌, ◌≢◌, inl, inr, ◌∙◌, ap, sym, subst, refl, cond, true, false, ℕ, ◌+◌, List, [], ◌∷◌, ◌++◌, append_assoc, append-nil, Option, Some}
use Rattle.std.specs.Prelude.{◌&&◌, bytes_eq, Result, Ok, Err, OnOk}
use Rattle.ledger_core.specs.declared.plan.Aim.{Aim}
use Rattle.rule_value.specs.declared.truth.Truth.{Truth}
use Rattle.rule_value.specs.Codes.{IsExpr}
use Rattle.rule_value.specs.Trees.{Tree, or}
use Rattle.rule_value.specs.Values as values
use Rattle.rule_value.specs.Values.{Event, Value, flag, value, truth}
use Rattle.topic_spec.specs.declared.draft.RuleText.{RuleText}
use Rattle.topic_spec.specs.declared.draft.Draft.{Draft}
use Rattle.topic_spec.specs.declared.sub.Rule.{Rule}
use Rattle.topic_spec.specs.declared.sub.Sub.{Sub}
use Rattle.topic_spec.specs.Reading.{AreRules, IsSub}
use Rattle.topic_spec.specs.Aiming.{is_yes, answer, first_yes, IsPath, is_to, is_draft_to, AreSubs, AddsBy, AimsBy, done, past, aimed}

yes_is : (v : Value) → is_yes (truth v) ≡ true → v ≡ flag true
yes_is (values.flag true) e = refl
yes_is (values.flag false) e = let bad : ⊥ = cc in absurd bad
yes_is (values.text held) e = let bad : ⊥ = cc in absurd bad
yes_is (values.number whole) e = let bad : ⊥ = cc in absurd bad
yes_is values.null e = let bad : ⊥ = cc in absurd bad
yes_is values.other e = let bad : ⊥ = cc in absurd bad
yes_is values.error e = let bad : ⊥ = cc in absurd bad

no_is : (v : Value) → is_yes (truth v) ≡ false → v ≢ flag true
no_is v e same = let both : true ≡ false = ap (λ w. is_yes (truth w)) (sym same) ∙ e in let bad : ⊥ = cc in absurd bad

-- ---- rules

-- these rules are left; whatever path comes of their texts comes of all
abbrev pub Onward : Event → List RuleText → Option (List ℕ) → List Rule → Type 0
Onward event texts default rest = (left : List RuleText) × AreRules left rest × ((path : Option (List ℕ)) → IsPath event left default path → IsPath event texts default path)

module _ (event : Event) (texts : List RuleText) (default : Option (List ℕ)) where
  pub onward_start : (rules : List Rule) → AreRules texts rules → Onward event texts default rules
  onward_start rules are = (texts, are, λ path is. is)

  module _ (rest later : List Rule) (rule : Rule) (answer : Truth) (at : rest ≡ rule ∷ later) (says : (tree : Tree or) → IsExpr rule.expr.ops.items tree → answer ≡ truth (value event tree)) (h : Onward event texts default rest) where
    pub on_yes : is_yes answer ≡ true → IsPath event texts default (Some rule.path)
    on_yes answered = pick h.0 (subst (AreRules h.0) at h.1) h.2
      where
        pick : (left : List RuleText) → AreRules left (rule ∷ later) → ((path : Option (List ℕ)) → IsPath event left default path → IsPath event texts default path) → IsPath event texts default (Some rule.path)
        pick [] are on = absurd are
        pick (text ∷ left) are on =
            let read = are.0.read in
            on (Some rule.path) (read.tree, read.rule, inl (yes_is (value event read.tree) (ap is_yes (sym (says read.tree read.computes)) ∙ answered), ap Some are.0.path))

    pub on_no : is_yes answer ≡ false → Onward event texts default later
    on_no no_answer = pick h.0 (subst (AreRules h.0) at h.1) h.2
      where
        pick : (left : List RuleText) → AreRules left (rule ∷ later) → ((path : Option (List ℕ)) → IsPath event left default path → IsPath event texts default path) → Onward event texts default later
        pick [] are on = absurd are
        pick (text ∷ left) are on =
            let read = are.0.read in
            (left, are.1, λ path is. on path (read.tree, read.rule, inr (no_is (value event read.tree) (ap is_yes (sym (says read.tree read.computes)) ∙ no_answer), is)))

  pub on_end : (rest : List Rule) → rest ≡ [] → Onward event texts default rest → IsPath event texts default default
  on_end rest at h = pick h.0 (subst (AreRules h.0) at h.1) h.2
    where
      pick : (left : List RuleText) → AreRules left [] → ((path : Option (List ℕ)) → IsPath event left default path → IsPath event texts default path) → IsPath event texts default default
      pick [] are on = on default refl
      pick (text ∷ left) are on = absurd are

-- a rule that doesn't answer yes is passed over
pub first_past : (event : Event) (rest later : List Rule) (rule : Rule) (all : Option (List ℕ)) → rest ≡ rule ∷ later → is_yes (answer event rule) ≡ false → first_yes event rest ≡ all → first_yes event later ≡ all
unfolding first_yes
first_past event rest later rule all at no_answer old = sym (ap (first_yes event) at ∙ ap (λ b. cond b (Some rule.path) (first_yes event later)) no_answer) ∙ old

-- ---- subscriptions

pub same_to : (pubsub topic : List ℕ) (draft : Draft) (sub : Sub) → IsSub draft sub → is_to pubsub topic sub ≡ is_draft_to pubsub topic draft
unfolding is_to
same_to pubsub topic draft sub is = ap (λ p. bytes_eq p pubsub && bytes_eq sub.topic topic) is.pubsub ∙ ap (λ t. bytes_eq draft.pubsub pubsub && bytes_eq t topic) is.topic

-- these subscriptions are left, the first of which has this place; whatever aims come of them come behind those that are there
abbrev pub Aiming : Event → List ℕ → List ℕ → List Draft → ℕ → List Sub → List Aim → Type 0
Aiming event pubsub topic drafts place rest aims = (left : List Draft) × AreSubs left rest × ((more : List Aim) → AimsBy event pubsub topic place left more → AimsBy event pubsub topic 0 drafts (aims ++ more))

module _ (event : Event) (pubsub topic : List ℕ) (drafts : List Draft) where
  pub aiming_start : (subs : List Sub) (aims : List Aim) → aims ≡ [] → AreSubs drafts subs → Aiming event pubsub topic drafts 0 subs aims
  aiming_start subs aims empty are = (drafts, are, λ more by. subst (λ a. AimsBy event pubsub topic 0 drafts (a ++ more)) (sym empty) by)

  pub aiming_on : (place : ℕ) (sub : Sub) (rest later : List Sub) (old new : List Aim) → rest ≡ sub ∷ later → ((draft : Draft) → IsSub draft sub → AddsBy event pubsub topic place draft old new) → Aiming event pubsub topic drafts place rest old → Aiming event pubsub topic drafts (place + 1) later new
  aiming_on place sub rest later old new at adds h = pick h.0 (subst (AreSubs h.0) at h.1) h.2
    where
      further : (draft : Draft) (left : List Draft) (more : List Aim) → ((more : List Aim) → AimsBy event pubsub topic place (draft ∷ left) more → AimsBy event pubsub topic 0 drafts (old ++ more)) → AddsBy event pubsub topic place draft old new → AimsBy event pubsub topic (place + 1) left more → AimsBy event pubsub topic 0 drafts (new ++ more)
      further draft left more on (inl (other, same)) by = subst (λ a. AimsBy event pubsub topic 0 drafts (a ++ more)) (sym same) (on more (past other by))
      further draft left more on (inr (to, path, is, same)) by =
          subst (AimsBy event pubsub topic 0 drafts) (sym (ap (λ a. a ++ more) same ∙ append_assoc old (record { sub = place; path = path } ∷ []) more)) (on (record { sub = place; path = path } ∷ more) (aimed to is by))

      pick : (left : List Draft) → AreSubs left (sub ∷ later) → ((more : List Aim) → AimsBy event pubsub topic place left more → AimsBy event pubsub topic 0 drafts (old ++ more)) → Aiming event pubsub topic drafts (place + 1) later new
      pick [] are on = absurd are
      pick (draft ∷ left) are on = (left, are.1, λ more by. further draft left more on (adds draft are.0) by)

  pub aiming_end : (place : ℕ) (rest : List Sub) (aims : List Aim) → rest ≡ [] → Aiming event pubsub topic drafts place rest aims → AimsBy event pubsub topic 0 drafts aims
  aiming_end place rest aims at h = pick h.0 (subst (AreSubs h.0) at h.1) h.2
    where
      pick : (left : List Draft) → AreSubs left [] → ((more : List Aim) → AimsBy event pubsub topic place left more → AimsBy event pubsub topic 0 drafts (aims ++ more)) → AimsBy event pubsub topic 0 drafts aims
      pick [] are on = subst (AimsBy event pubsub topic 0 drafts) (append-nil aims) (on [] done)
      pick (draft ∷ left) are on = absurd are

-- ---- results

pub on_ok : {T E A B : Type 0} (result : Result T E) → (A → B) → OnOk result A → OnOk result B
on_ok (Ok x) f h = f h
on_ok (Err e) f h = tt
