-- What the documents of a file say of subscriptions.
use Rattle.std.specs.Prelude.{ℕ, ◌+◌, Bool, true, false, bytes_eq, if◌then◌else◌, List, [], ◌∷◌, ◌++◌, codes, Option, Some, None, option_map, Result, Ok, Err}
use Rattle.yaml_subset.specs.PartKind.{PartKind}
use Rattle.yaml_subset.specs.PartKind.TheVariants as parts
use Rattle.yaml_subset.specs.Trees.{Trees, none, tree}
use Rattle.yaml_subset.specs.Docs.{told_of, inner_of, Walked, absent, wrong, here, walked}
use Rattle.resource_spec.specs.declared.field_err.FieldErr.{FieldErr}
use Rattle.resource_spec.specs.declared.field_err.FieldErr.TheVariants as fields
use Rattle.resource_spec.specs.Follow.{follow}
use Rattle.resource_spec.specs.Field.{field_at, text_of, text_at, asked_at}
use Rattle.resource_spec.specs.Document.{head_of}
use Rattle.topic_spec.specs.declared.draft.RuleText.{RuleText}
use Rattle.topic_spec.specs.declared.draft.Routes.{Routes}
use Rattle.topic_spec.specs.declared.draft.Draft.{Draft}
use Rattle.topic_spec.specs.declared.sub_err.SubErr.{SubErr}
use Rattle.topic_spec.specs.Draft.{with_slash, some_route, one_route, unless_self, in_doc}

-- ---- rules

-- whatever is wrong with a rule, the field is that of all rules
abbrev pub rule_err : FieldErr → FieldErr
rule_err (fields.Missing field) = fields.Missing (codes "spec.routes.rules")
rule_err (fields.Wrong field) = fields.Wrong (codes "spec.routes.rules")
rule_err fields.NoMemory = fields.NoMemory

abbrev pub in_rules : {T : Type 0} → Result T FieldErr → Result T FieldErr
in_rules (Ok x) = Ok x
in_rules (Err e) = Err (rule_err e)

-- a rule: its text, and its path
abbrev pub rule_in : Trees → Result RuleText FieldErr
rule_in row =
    follow (in_rules (asked_at [] (codes "match" ∷ []) row)) (λ condition.
    follow (in_rules (asked_at [] (codes "path" ∷ []) row)) (λ path.
    Ok (record { condition = condition; path = with_slash path })))

-- the rules of these items, behind those that are there
abbrev pub rules_from : List RuleText → Trees → Result (List RuleText) FieldErr
rules_from rules none = Ok rules
rules_from rules (tree t inner later) = follow (rule_in (tree t inner later)) (λ rule. rules_from (rules ++ rule ∷ []) later)

abbrev pub rules_listed : Trees → Result (List RuleText) FieldErr
rules_listed part = of_kind (told_of part).kind
  where
    of_kind : PartKind → Result (List RuleText) FieldErr
    of_kind parts.Sequence = rules_from [] (inner_of part)
    of_kind parts.Scalar = Err (fields.Wrong (codes "spec.routes.rules"))
    of_kind parts.Mapping = Err (fields.Wrong (codes "spec.routes.rules"))
    of_kind parts.Empty = Err (fields.Wrong (codes "spec.routes.rules"))

abbrev pub rules_path : List (List ℕ)
rules_path = codes "spec" ∷ codes "routes" ∷ codes "rules" ∷ []

-- rules are a sequence, which may be absent
abbrev pub rules_walked : Walked → Result (List RuleText) FieldErr
rules_walked absent = Ok []
rules_walked (wrong passed) = Err (fields.Wrong (field_at [] rules_path passed))
rules_walked (here part) = rules_listed part

abbrev pub rules_in : Trees → Result (List RuleText) FieldErr
rules_in row = rules_walked (walked 0 row rules_path)

-- ---- routes

-- rules, and the path where none of them answers yes
abbrev pub routes_of_rules : Trees → Result Routes FieldErr
routes_of_rules row =
    follow (rules_in row) (λ rules.
    follow (text_at [] (codes "spec" ∷ codes "routes" ∷ codes "default" ∷ []) row) (λ path.
    some_route (codes "spec.routes") rules (option_map with_slash path)))

-- the earlier version has one route in place of rules
abbrev pub routes_of_one : Trees → Result Routes FieldErr
routes_of_one row = follow (text_at [] (codes "spec" ∷ codes "route" ∷ []) row) (λ path. one_route (codes "spec.route") path)

abbrev pub routes_in : Bool → Trees → Result Routes FieldErr
routes_in true row = routes_of_one row
routes_in false row = routes_of_rules row

-- ---- documents

-- a subscription of the earlier version, or of the later one
abbrev pub draft_in : Bool → Trees → Result Draft FieldErr
draft_in earlier row =
    follow (asked_at [] (codes "spec" ∷ codes "pubsubname" ∷ []) row) (λ pubsub.
    follow (asked_at [] (codes "spec" ∷ codes "topic" ∷ []) row) (λ topic.
    follow (routes_in earlier row) (λ routes.
    follow (text_at [] (codes "spec" ∷ codes "deadLetterTopic" ∷ []) row) (λ dead.
    Ok (record { pubsub = pubsub; topic = topic; rules = routes.rules; default = routes.default; dead = dead })))))

abbrev pub is_text : List ℕ → Option (List ℕ) → Bool
is_text wanted None = false
is_text wanted (Some text) = bytes_eq text wanted

abbrev pub says_text : List ℕ → Walked → Bool
says_text wanted absent = false
says_text wanted (wrong passed) = false
says_text wanted (here part) = is_text wanted (text_of (told_of part))

-- whether the document says the earlier version
abbrev pub is_earlier : Trees → Bool
is_earlier row = says_text (codes "dapr.io/v1alpha1") (walked 0 row (codes "apiVersion" ∷ []))

abbrev pub version_of : Bool → List ℕ
version_of true = codes "dapr.io/v1alpha1"
version_of false = codes "dapr.io/v2alpha1"

-- of a document that has a name, the subscription
abbrev pub draft_named : ℕ → Bool → Trees → Option (List ℕ) → Result (Option Draft) SubErr
draft_named doc earlier row None = Ok None
draft_named doc earlier row (Some name) =
    follow (in_doc doc (draft_in earlier row)) (λ draft.
    follow (unless_self name draft) (λ kept.
    Ok (Some kept)))

-- of a document, the subscription that it is, if it is one and for the app
unfoldable pub document_said : List ℕ → ℕ → Trees → Result (Option Draft) SubErr
document_said app doc row =
    follow (in_doc doc (head_of (codes "Subscription") (version_of (is_earlier row)) app row)) (λ name. draft_named doc (is_earlier row) row name)

-- of each of these documents, the first of which has this number
unfoldable pub all_said : List ℕ → ℕ → Trees → List (Result (Option Draft) SubErr)
all_said app doc none = []
all_said app doc (tree t inner later) = document_said app doc (tree t inner later) ∷ all_said app (doc + 1) later
