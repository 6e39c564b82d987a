-- Rules, read one after the other.
use Rattle.std.proofs.Common.{◌≡◌, ◌≢◌, inl, inr, ◌∙◌, ap, sym, subst, refl, ℕ, List, [], ◌∷◌, ◌++◌, append_assoc, append-nil, Some}
use Rattle.std.specs.Prelude.{Result, Ok, Err}
use Rattle.rule_expr.specs.declared.error.RuleErr.{RuleErr}
use Rattle.rule_expr.specs.declared.error.RuleErr.TheVariants as whys
use Rattle.rule_value.specs.declared.expr.Expr.{Expr}
use Rattle.rule_expr.specs.Walks.{IsRefused}
use Rattle.topic_spec.specs.declared.draft.RuleText.{RuleText}
use Rattle.topic_spec.specs.declared.sub.Rule.{Rule}
use Rattle.topic_spec.specs.declared.sub_err.SubErr.{SubErr}
use Rattle.topic_spec.specs.declared.sub_err.SubErr.TheVariants as refusals
use Rattle.topic_spec.specs.Reading.{IsRead, IsNoRule, IsRefusal, IsReadAs, IsRuleOf, AreRules, IsUnread, IsReading}

-- a text that is refused
pub refusal_read : (doc : ℕ) (text : List ℕ) (why : RuleErr) (error : SubErr) → IsRefusal doc why error → (why ≢ whys.NoMemory → IsRefused text why) → IsReadAs doc text (Err error)
refusal_read doc text (whys.Bad at) error is refused = subst (λ e. IsReadAs doc text (Err e)) (sym is) (refl, record { why = whys.Bad at; refused = refused (λ e. cc); place = refl })
refusal_read doc text (whys.LeftOut at) error is refused = subst (λ e. IsReadAs doc text (Err e)) (sym is) (refl, record { why = whys.LeftOut at; refused = refused (λ e. cc); place = refl })
refusal_read doc text (whys.Deep at) error is refused = subst (λ e. IsReadAs doc text (Err e)) (sym is) (refl, record { why = whys.Deep at; refused = refused (λ e. cc); place = refl })
refusal_read doc text whys.NoMemory error is refused = subst (λ e. IsReadAs doc text (Err e)) (sym is) tt

module _ (all : List RuleText) where
  pub good_start : (rules : List Rule) → rules ≡ [] → (more : List Rule) → AreRules all more → AreRules all (rules ++ more)
  good_start rules empty more are = subst (λ r. AreRules all (r ++ more)) (sym empty) are

  pub good_on : (texts later : List RuleText) (text : RuleText) (rules after : List Rule) (rule : Rule) → texts ≡ text ∷ later → after ≡ rules ++ rule ∷ [] → IsRuleOf text rule → ((more : List Rule) → AreRules texts more → AreRules all (rules ++ more)) → (more : List Rule) → AreRules later more → AreRules all (after ++ more)
  good_on texts later text rules after rule at new is good more are =
      subst (AreRules all) (sym (ap (λ r. r ++ more) new ∙ append_assoc rules (rule ∷ []) more)) (good (rule ∷ more) (subst (λ t. AreRules t (rule ∷ more)) (sym at) (is, are)))

  pub bad_on : (texts later : List RuleText) (text : RuleText) (expr : Expr) → texts ≡ text ∷ later → IsRead text.condition expr → ((at : ℕ) → IsUnread texts at → IsUnread all at) → (at : ℕ) → IsUnread later at → IsUnread all at
  bad_on texts later text expr at read bad place unread = bad place (subst (λ t. IsUnread t place) (sym at) (inr ((expr, read), unread)))

  pub bad_here : (doc : ℕ) (texts later : List RuleText) (text : RuleText) (e : SubErr) → texts ≡ text ∷ later → IsReadAs doc text.condition (Err e) → ((at : ℕ) → IsUnread texts at → IsUnread all at) → IsReading {T = List Rule} doc all (AreRules all) (Err e)
  bad_here doc texts later text (refusals.Rule number place) at read bad = (read.0, bad place (subst (λ t. IsUnread t place) (sym at) (inl read.1)))
  bad_here doc texts later text refusals.NoMemory at read bad = tt
  bad_here doc texts later text (refusals.Missing number field) at read bad = absurd read
  bad_here doc texts later text (refusals.Wrong number field) at read bad = absurd read
  bad_here doc texts later text (refusals.SelfDead name) at read bad = absurd read
  bad_here doc texts later text (refusals.TooMany count) at read bad = absurd read

  pub good_end : (texts : List RuleText) (rules : List Rule) → texts ≡ [] → ((more : List Rule) → AreRules texts more → AreRules all (rules ++ more)) → AreRules all rules
  good_end texts rules empty good = subst (AreRules all) (append-nil rules) (good [] (subst (λ t. AreRules t []) (sym empty) tt))

-- what was refused of the rules is refused of the subscription
pub same_refusal : {A B : Type 0} (doc : ℕ) (texts : List RuleText) (one : A → Type 0) (other : B → Type 0) (e : SubErr) → IsReading {T = A} doc texts one (Err e) → IsReading {T = B} doc texts other (Err e)
same_refusal doc texts one other (refusals.Rule number place) is = is
same_refusal doc texts one other refusals.NoMemory is = tt
same_refusal doc texts one other (refusals.Missing number field) is = absurd is
same_refusal doc texts one other (refusals.Wrong number field) is = absurd is
same_refusal doc texts one other (refusals.SelfDead name) is = absurd is
same_refusal doc texts one other (refusals.TooMany count) is = absurd is
