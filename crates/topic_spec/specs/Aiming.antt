-- Which subscriptions a message is for, and which path each of them gives it.
use Rattle.std.specs.Prelude.{◌≡◌, ◌≢◌, ℕ, ◌+◌, ⊤, ◌⊎◌, Bool, true, false, ◌&&◌, ◌||◌, List, [], ◌∷◌, ◌++◌, bytes_eq, filter, if◌then◌else◌, Option, Some, None}
use Rattle.std.specs.Option.{option_or}
use Rattle.ledger_core.specs.declared.plan.Aim.{Aim}
use Rattle.rule_value.specs.declared.truth.Truth.{Truth}
use Rattle.rule_value.specs.declared.truth.Truth.TheVariants.{Yes, No, Error}
use Rattle.rule_expr.specs.Rules.{IsRule}
use Rattle.rule_value.specs.Trees.{Tree, or}
use Rattle.rule_value.specs.Values.{Event, value, flag}
use Rattle.rule_value.specs.Codes.{verdict}
use Rattle.resource_spec.specs.Component.{Loaded}
use Rattle.resource_spec.specs.Components.{component_named}
use Rattle.resource_spec.specs.declared.component.ComponentKind.{ComponentKind}
use Rattle.resource_spec.specs.declared.component.ComponentKind.TheVariants as kinds
use Rattle.topic_spec.specs.declared.draft.RuleText.{RuleText}
use Rattle.topic_spec.specs.declared.draft.Draft.{Draft}
use Rattle.topic_spec.specs.declared.sub.Rule.{Rule}
use Rattle.topic_spec.specs.declared.sub.Sub.{Sub}
use Rattle.topic_spec.specs.Reading.{IsSub}
use Rattle.topic_spec.specs.Scopes.{may_subscribe}

-- ---- the path of an event

abbrev pub is_yes : Truth → Bool
is_yes Yes = true
is_yes No = false
is_yes Error = false

-- what a rule answers of an event
abbrev pub answer : Event → Rule → Truth
answer event rule = verdict event rule.expr.ops.items

-- the path of the first rule that answers yes
unfoldable pub first_yes : Event → List Rule → Option (List ℕ)
first_yes event [] = None
first_yes event (rule ∷ rules) = if is_yes (answer event rule) then Some rule.path else first_yes event rules

-- the path of the first rule that answers yes, or else the default
unfoldable pub path_of : Event → Sub → Option (List ℕ)
path_of event sub = option_or (first_yes event sub.rules) sub.default

-- ---- the subscriptions to a topic

unfoldable pub is_to : List ℕ → List ℕ → Sub → Bool
is_to pubsub topic sub = bytes_eq sub.pubsub pubsub && bytes_eq sub.topic topic

-- one aim where the subscription at this place is to the topic
unfoldable pub aim_at : ℕ → Event → List ℕ → List ℕ → Sub → List Aim
aim_at place event pubsub topic sub = if is_to pubsub topic sub then record { sub = place; path = path_of event sub } ∷ [] else []

-- those of subscriptions, in order; the first of them has this place
unfoldable pub aims_from : ℕ → Event → List ℕ → List ℕ → List Sub → List Aim
aims_from place event pubsub topic [] = []
aims_from place event pubsub topic (sub ∷ subs) = aim_at place event pubsub topic sub ++ aims_from (place + 1) event pubsub topic subs

abbrev pub aims_of : Event → List ℕ → List ℕ → List Sub → List Aim
aims_of event pubsub topic subs = aims_from 0 event pubsub topic subs

-- nothing was added, or an aim of this place
abbrev pub IsAimed : ℕ → List Aim → List Aim → Type 0
IsAimed place old new = (new ≡ old) ⊎ ((path : Option (List ℕ)) × (new ≡ old ++ record { sub = place; path = path } ∷ []))

-- ---- without an event

abbrev pub has_rules : List Rule → Bool
has_rules [] = false
has_rules (rule ∷ rules) = true

-- the subscription is to the topic and has rules, so that its path depends on the event
unfoldable pub is_ruled : List ℕ → List ℕ → Sub → Bool
is_ruled pubsub topic sub = is_to pubsub topic sub && has_rules sub.rules

-- one of them is such
unfoldable pub are_ruled : List ℕ → List ℕ → List Sub → Bool
are_ruled pubsub topic [] = false
are_ruled pubsub topic (sub ∷ subs) = is_ruled pubsub topic sub || are_ruled pubsub topic subs

-- ---- the same by the texts of rules

-- the path of the first rule whose value is true, or else the default
abbrev pub IsPath : Event → List RuleText → Option (List ℕ) → Option (List ℕ) → Type 0
IsPath event [] default path = path ≡ default
IsPath event (text ∷ texts) default path =
    (tree : Tree or) × IsRule text.condition tree × (((value event tree ≡ flag true) × (path ≡ Some text.path)) ⊎ ((value event tree ≢ flag true) × IsPath event texts default path))

-- these are the subscriptions that are written down
abbrev pub AreSubs : List Draft → List Sub → Type 0
AreSubs [] [] = ⊤
AreSubs [] (sub ∷ subs) = ⊥
AreSubs (draft ∷ drafts) [] = ⊥
AreSubs (draft ∷ drafts) (sub ∷ subs) = IsSub draft sub × AreSubs drafts subs

abbrev pub is_draft_to : List ℕ → List ℕ → Draft → Bool
is_draft_to pubsub topic draft = bytes_eq draft.pubsub pubsub && bytes_eq draft.topic topic

-- one aim for each that is to the topic, in order; the first of them has this place
pub data AimsBy (event : Event) (pubsub topic : List ℕ) : ℕ → List Draft → List Aim → Type 0 where
  done : {place : ℕ} → AimsBy event pubsub topic place [] []
  past : {place : ℕ} {draft : Draft} {drafts : List Draft} {aims : List Aim} → is_draft_to pubsub topic draft ≡ false → AimsBy event pubsub topic (place + 1) drafts aims → AimsBy event pubsub topic place (draft ∷ drafts) aims
  aimed : {place : ℕ} {draft : Draft} {drafts : List Draft} {aims : List Aim} {path : Option (List ℕ)} → is_draft_to pubsub topic draft ≡ true → IsPath event draft.rules draft.default path → AimsBy event pubsub topic (place + 1) drafts aims → AimsBy event pubsub topic place (draft ∷ drafts) (record { sub = place; path = path } ∷ aims)

-- what is added for one of them
abbrev pub AddsBy : Event → List ℕ → List ℕ → ℕ → Draft → List Aim → List Aim → Type 0
AddsBy event pubsub topic place draft old new =
    ((is_draft_to pubsub topic draft ≡ false) × (new ≡ old))
    ⊎ ((is_draft_to pubsub topic draft ≡ true) × (path : Option (List ℕ)) × IsPath event draft.rules draft.default path × (new ≡ old ++ record { sub = place; path = path } ∷ []))

-- ---- the subscriptions that are kept

abbrev pub is_pubsub : ComponentKind → Bool
is_pubsub kinds.PubsubMemory = true
is_pubsub kinds.StateMemory = false
is_pubsub kinds.StateJournal = false
is_pubsub kinds.BindingHttp = false
is_pubsub kinds.BindingCron = false

abbrev pub lets : List ℕ → List ℕ → Option Loaded → Bool
lets app topic None = false
lets app topic (Some c) = is_pubsub c.kind && may_subscribe c app topic

-- its pub/sub component is loaded, and lets the app subscribe to the topic
unfoldable pub is_kept : List Loaded → List ℕ → Sub → Bool
is_kept components app sub = lets app sub.topic (component_named sub.pubsub components)

abbrev pub kept : List Loaded → List ℕ → List Sub → List Sub
kept components app subs = filter (is_kept components app) subs
