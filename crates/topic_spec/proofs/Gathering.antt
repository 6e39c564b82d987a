-- The rules of an app's list, one after the other.
use Rattle.std.proofs.Common.{◌≡◌, ◌≢◌, ◌∙◌, ap, sym, subst, refl, ℕ, List, [], ◌∷◌, ◌++◌}
use Rattle.std.specs.Prelude.{Option, Some, None, MatchOption, Result, Ok, Err}
use Rattle.json_text.specs.declared.doc.Doc.{Doc}
use Rattle.json_text.specs.declared.doc.Node.{Node}
use Rattle.json_text.specs.declared.spot.Spot.{Spot}
use Rattle.json_text.specs.Forest.{Forest, empty, grows}
use Rattle.json_text.specs.Doc.{bytes_read, IsNode, StandsAt, OfNode}
use Rattle.resource_spec.specs.declared.field_err.FieldErr.{FieldErr}
use Rattle.resource_spec.specs.declared.field_err.FieldErr.TheVariants.{Missing, Wrong, NoMemory}
use Rattle.resource_spec.specs.Document.{IsRead}
use Rattle.resource_spec.specs.Field.{IsFieldErr}
use Rattle.resource_spec.specs.Follow.{follow}
use Rattle.rule_value.specs.Standing.{IsAt}
use Rattle.rule_value.specs.Values.{held}
use Rattle.topic_spec.specs.declared.draft.RuleText.{RuleText}
use Rattle.topic_spec.specs.declared.draft.Routes.{Routes}
use Rattle.topic_spec.specs.declared.draft.Draft.{Draft}
use Rattle.topic_spec.specs.declared.sub_err.SubErr.{SubErr}
use Rattle.topic_spec.specs.Draft.{some_route, unless_self, err_in, in_doc, IsSaid, IsSubErr}
use Rattle.topic_spec.specs.Listed.{rule_of, rules_from}
use Rattle.topic_spec.proofs.Members.{at_node}
use Rattle.topic_spec.proofs.Steps.{Left}

-- ---- one result after the other

module _ {A B : Type 0} (next : A → Result B FieldErr) where
  pub went : (first : Result A FieldErr) (a : A) (result : Result B FieldErr) → first ≡ Ok a → IsRead result (next a) → IsRead result (follow first next)
  went first a result is read = subst (λ r. IsRead result (follow r next)) (sym is) read

  pub went_ok : (first : Result A FieldErr) (a : A) (wanted : Result B FieldErr) → first ≡ Ok a → next a ≡ wanted → follow first next ≡ wanted
  went_ok first a wanted is read = ap (λ r. follow r next) is ∙ read

  pub went_err : (first : Result A FieldErr) (a : A) (e : FieldErr) → first ≡ Ok a → IsFieldErr {T = B} e (next a) → IsFieldErr {T = B} e (follow first next)
  went_err first a e is read = subst (λ r. IsFieldErr {T = B} e (follow r next)) (sym is) read

  pub stopped : (first : Result A FieldErr) (e : FieldErr) → IsFieldErr {T = A} e first → IsFieldErr {T = B} e (follow first next)
  stopped first (Missing field) is = ap (λ r. follow r next) is
  stopped first (Wrong field) is = ap (λ r. follow r next) is
  stopped first NoMemory is = tt

pub in_ok : {A : Type 0} (a b : A) → ◌≡◌ {A = Result A FieldErr} (Ok a) (Ok b) → a ≡ b
in_ok a b e = cc

-- routes by the path that is said
pub by_path : (field : List ℕ) (rules : List RuleText) (given path : Option (List ℕ)) (result : Result Routes FieldErr) → ◌≡◌ {A = Result (Option (List ℕ)) FieldErr} (Ok given) (Ok path) → IsRead result (some_route field rules path) → IsRead result (some_route field rules given)
by_path field rules given path result is read = subst (λ p. IsRead result (some_route field rules p)) (sym (in_ok given path is)) read

-- ---- drafts of items

pub said_on : (doc : ℕ) (drafted : Result Draft FieldErr) (draft : Draft) (result : Result Draft SubErr) → drafted ≡ Ok draft → IsSaid result (unless_self draft.topic draft) → IsSaid result (follow (in_doc doc drafted) (λ draft. unless_self draft.topic draft))
said_on doc drafted draft result is said = subst (λ d. IsSaid result (follow (in_doc doc d) (λ draft. unless_self draft.topic draft))) (sym is) said

pub said_err : (doc : ℕ) (drafted : Result Draft FieldErr) (e : FieldErr) (error : SubErr) → error ≡ err_in doc e → IsFieldErr {T = Draft} e drafted → IsSubErr {T = Draft} error (follow (in_doc doc drafted) (λ draft. unless_self draft.topic draft))
said_err doc drafted (Missing field) error same is = subst (λ e. IsSubErr {T = Draft} e (follow (in_doc doc drafted) (λ draft. unless_self draft.topic draft))) (sym same) (ap (λ d. follow (in_doc doc d) (λ draft. unless_self draft.topic draft)) is)
said_err doc drafted (Wrong field) error same is = subst (λ e. IsSubErr {T = Draft} e (follow (in_doc doc drafted) (λ draft. unless_self draft.topic draft))) (sym same) (ap (λ d. follow (in_doc doc d) (λ draft. unless_self draft.topic draft)) is)
said_err doc drafted NoMemory error same is = subst (λ e. IsSubErr {T = Draft} e (follow (in_doc doc drafted) (λ draft. unless_self draft.topic draft))) (sym same) tt

-- ---- rules

module _ (doc : Doc) (wanted : Result (List RuleText) FieldErr) where
  pub record GoingRules (here : Option Node) (rules : List RuleText) : Type 0 where
    pub tail : Forest
    pub at : Left doc here tail
    pub same : wanted ≡ rules_from (bytes_read doc) rules tail

  pub rules_start : (n : Node) (here : Option Node) (rules : List RuleText) (values : Forest) → rules ≡ [] → OfNode doc n (λ spot children later. Left doc here children) → IsAt doc n values → rules_from (bytes_read doc) [] (held values) ≡ wanted → GoingRules here rules
  rules_start n here rules values empty_rules first at is = record {
    tail = at.children;
    at = at_node doc n _ first values at;
    same = sym is ∙ ap (λ v. rules_from (bytes_read doc) [] (held v)) at.are ∙ ap (λ r. rules_from (bytes_read doc) r at.children) (sym empty_rules);
  }

  next_of : (n : Node) (next : Option Node) (rules : List RuleText) (rule : RuleText) (tail : Forest) → IsNode doc n → StandsAt doc n tail → tail ≢ empty → wanted ≡ rules_from (bytes_read doc) rules tail
      → OfNode doc n (λ spot children later. Left doc next later) → ((values : Forest) → IsAt doc n values → rule_of (bytes_read doc) values ≡ Ok rule) → GoingRules next (rules ++ rule ∷ [])
  next_of n next rules rule empty inside stands some same follows read = absurd (some refl)
  next_of n next rules rule (grows spot children later) inside stands some same follows read = record {
    tail = later;
    at = follows (grows spot children later) stands;
    same = same ∙ ap (λ r. follow r (λ one. rules_from (bytes_read doc) (rules ++ one ∷ []) later)) (read (grows spot children later) (record { inside = inside; spot = spot; children = children; later = later; are = refl; stands = stands }));
  }

  pub rules_next : (n : Node) (next : Option Node) (rules : List RuleText) (rule : RuleText) → GoingRules (Some n) rules → IsNode doc n → OfNode doc n (λ spot children later. Left doc next later) → ((values : Forest) → IsAt doc n values → rule_of (bytes_read doc) values ≡ Ok rule) → GoingRules next (rules ++ rule ∷ [])
  rules_next n next rules rule h inside follows read = next_of n next rules rule h.tail inside h.at.0 h.at.1 h.same follows read

  stop_of : (n : Node) (rules : List RuleText) (e : FieldErr) (tail : Forest) → IsNode doc n → StandsAt doc n tail → tail ≢ empty → wanted ≡ rules_from (bytes_read doc) rules tail → ((values : Forest) → IsAt doc n values → IsFieldErr {T = RuleText} e (rule_of (bytes_read doc) values)) → IsFieldErr {T = List RuleText} e wanted
  stop_of n rules e empty inside stands some same read = absurd (some refl)
  stop_of n rules e (grows spot children later) inside stands some same read =
      subst (IsFieldErr {T = List RuleText} e) (sym same)
      (stopped (λ one. rules_from (bytes_read doc) (rules ++ one ∷ []) later) _ e (read (grows spot children later) (record { inside = inside; spot = spot; children = children; later = later; are = refl; stands = stands })))

  pub rules_stop : (n : Node) (rules : List RuleText) (e : FieldErr) → GoingRules (Some n) rules → IsNode doc n → ((values : Forest) → IsAt doc n values → IsFieldErr {T = RuleText} e (rule_of (bytes_read doc) values)) → IsFieldErr {T = List RuleText} e wanted
  rules_stop n rules e h inside read = stop_of n rules e h.tail inside h.at.0 h.at.1 h.same read

  pub rules_end : (rules : List RuleText) → GoingRules None rules → wanted ≡ Ok rules
  rules_end rules h = h.same ∙ ap (rules_from (bytes_read doc) rules) h.at
