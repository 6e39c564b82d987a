-- What holds of all subscriptions that are loaded.
use Rattle.std.specs.Prelude.{◌≡◌, ◌≢◌, ⊤, ◌⊎◌, ℕ, true, List, [], ◌∷◌, Option, Some, None, is_some, IfSome, Result, Ok, Err}
use Rattle.ledger_core.specs.declared.plan.Aim.{Aim}
use Rattle.topic_spec.specs.declared.draft.Draft.{Draft}
use Rattle.topic_spec.specs.declared.sub.Rule.{Rule}
use Rattle.topic_spec.specs.declared.sub.Sub.{Sub}
use Rattle.topic_spec.specs.declared.sub_err.SubErr.{SubErr}

-- a path begins with a slash
abbrev pub BeginsWithSlash : List ℕ → Type 0
BeginsWithSlash path = (rest : List ℕ) × (path ≡ 47 ∷ rest)

abbrev pub HavePaths : List Rule → Type 0
HavePaths [] = ⊤
HavePaths (rule ∷ rules) = BeginsWithSlash rule.path × HavePaths rules

-- A subscription that can be delivered: it has a rule or a default, each of its paths begins with a slash, and what is given up
-- goes to another topic.
pub record IsSound (sub : Sub) : Type 0 where
  pub somewhere : (sub.rules ≢ []) ⊎ (is_some sub.default ≡ true)
  pub rules : HavePaths sub.rules
  pub default : IfSome sub.default BeginsWithSlash
  pub dead : IfSome sub.dead (λ dead. dead ≢ sub.topic)

abbrev pub AreSound : List Sub → Type 0
AreSound [] = ⊤
AreSound (sub ∷ subs) = IsSound sub × AreSound subs

-- each path to which an event is delivered begins with a slash
abbrev pub LeadToPaths : List Aim → Type 0
LeadToPaths [] = ⊤
LeadToPaths (aim ∷ aims) = IfSome aim.path BeginsWithSlash × LeadToPaths aims

-- what documents write down, up to the first that is refused
abbrev pub drafts_said : List (Result (Option Draft) SubErr) → List Draft
drafts_said [] = []
drafts_said (Ok None ∷ more) = drafts_said more
drafts_said (Ok (Some draft) ∷ more) = draft ∷ drafts_said more
drafts_said (Err error ∷ more) = []
