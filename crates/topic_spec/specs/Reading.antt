-- Subscriptions, and the texts from which their rules were read.
use Rattle.std.specs.Prelude.{◌≡◌, ℕ, ⊤, ◌⊎◌, List, [], ◌∷◌, Option, Some, None, Result, Ok, Err}
use Rattle.rule_expr.specs.declared.error.RuleErr.{RuleErr}
use Rattle.rule_expr.specs.declared.error.RuleErr.TheVariants as whys
use Rattle.rule_value.specs.declared.expr.Expr.{Expr}
use Rattle.rule_value.specs.Trees.{Tree, or}
use Rattle.rule_expr.specs.Rules.{IsRule}
use Rattle.rule_expr.specs.Walks.{IsRefused}
use Rattle.rule_value.specs.Codes.{IsExpr}
use Rattle.topic_spec.specs.declared.draft.RuleText.{RuleText}
use Rattle.topic_spec.specs.declared.draft.Draft.{Draft}
use Rattle.topic_spec.specs.declared.sub.Rule.{Rule}
use Rattle.topic_spec.specs.declared.sub.Sub.{Sub}
use Rattle.topic_spec.specs.declared.sub_err.SubErr.{SubErr}
use Rattle.topic_spec.specs.declared.sub_err.SubErr.TheVariants as refusals

-- ---- one rule

-- the text is a rule, and this computes it
pub record IsRead (text : List ℕ) (expr : Expr) : Type 0 where
  pub tree : Tree or
  pub rule : IsRule text tree
  pub computes : IsExpr expr.ops.items tree

-- the place at which a text is refused
abbrev pub place_of : RuleErr → Option ℕ
place_of (whys.Bad at) = Some at
place_of (whys.LeftOut at) = Some at
place_of (whys.Deep at) = Some at
place_of whys.NoMemory = None

-- the text is no rule, and this is the place at which it is refused
pub record IsNoRule (text : List ℕ) (at : ℕ) : Type 0 where
  pub why : RuleErr
  pub refused : IsRefused text why
  pub place : place_of why ≡ Some at

-- the refusal of a rule in the document of this number
abbrev pub IsRefusal : ℕ → RuleErr → SubErr → Type 0
IsRefusal doc (whys.Bad at) error = error ≡ refusals.Rule doc at
IsRefusal doc (whys.LeftOut at) error = error ≡ refusals.Rule doc at
IsRefusal doc (whys.Deep at) error = error ≡ refusals.Rule doc at
IsRefusal doc whys.NoMemory error = error ≡ refusals.NoMemory

-- what reading a text there gives
abbrev pub IsReadAs : ℕ → List ℕ → Result Expr SubErr → Type 0
IsReadAs doc text (Ok expr) = IsRead text expr
IsReadAs doc text (Err (refusals.Rule number at)) = (number ≡ doc) × IsNoRule text at
IsReadAs doc text (Err refusals.NoMemory) = ⊤
IsReadAs doc text (Err (refusals.Missing number field)) = ⊥
IsReadAs doc text (Err (refusals.Wrong number field)) = ⊥
IsReadAs doc text (Err (refusals.SelfDead name)) = ⊥
IsReadAs doc text (Err (refusals.TooMany count)) = ⊥

-- ---- all rules of a subscription

pub record IsRuleOf (text : RuleText) (rule : Rule) : Type 0 where
  pub read : IsRead text.condition rule.expr
  pub path : rule.path ≡ text.path

-- these rules are what the texts say, in their order
abbrev pub AreRules : List RuleText → List Rule → Type 0
AreRules [] [] = ⊤
AreRules [] (rule ∷ rules) = ⊥
AreRules (text ∷ texts) [] = ⊥
AreRules (text ∷ texts) (rule ∷ rules) = IsRuleOf text rule × AreRules texts rules

-- the first text that is no rule is refused at this place
abbrev pub IsUnread : List RuleText → ℕ → Type 0
IsUnread [] at = ⊥
IsUnread (text ∷ texts) at = IsNoRule text.condition at ⊎ (((expr : Expr) × IsRead text.condition expr) × IsUnread texts at)

-- ---- subscriptions

pub record IsSub (draft : Draft) (sub : Sub) : Type 0 where
  pub pubsub : sub.pubsub ≡ draft.pubsub
  pub topic : sub.topic ≡ draft.topic
  pub rules : AreRules draft.rules sub.rules
  pub default : sub.default ≡ draft.default
  pub dead : sub.dead ≡ draft.dead

-- what reading the rules of the document of this number gives
abbrev pub IsReading : {T : Type 0} → ℕ → List RuleText → (T → Type 0) → Result T SubErr → Type 0
IsReading doc texts good (Ok x) = good x
IsReading doc texts good (Err (refusals.Rule number at)) = (number ≡ doc) × IsUnread texts at
IsReading doc texts good (Err refusals.NoMemory) = ⊤
IsReading doc texts good (Err (refusals.Missing number field)) = ⊥
IsReading doc texts good (Err (refusals.Wrong number field)) = ⊥
IsReading doc texts good (Err (refusals.SelfDead name)) = ⊥
IsReading doc texts good (Err (refusals.TooMany count)) = ⊥
