-- What an app's own list of subscriptions says, as a JSON text. Of repeated members the last counts; null counts as absent.
use Rattle.std.specs.Prelude.{◌≡◌, ℕ, ◌+◌, Bool, true, false, if◌then◌else◌, List, [], ◌∷◌, ◌++◌, codes, Option, Some, None, option_map, Result, Ok, Err}
use Rattle.json_text.specs.Kind.{Kind}
use Rattle.json_text.specs.Kind.TheVariants as kinds
use Rattle.json_text.specs.declared.spot.Spot.{Spot}
use Rattle.json_text.specs.Forest.{Forest, empty, grows}
use Rattle.json_text.specs.Unescape.{text_shown}
pub use Rattle.json_text.specs.Shape.{is_list, is_map, is_null, is_text}
use Rattle.resource_spec.specs.declared.field_err.FieldErr.{FieldErr}
use Rattle.resource_spec.specs.declared.field_err.FieldErr.TheVariants as fields
use Rattle.resource_spec.specs.Follow.{follow}
use Rattle.rule_value.specs.Values.{last_named, held}
use Rattle.topic_spec.specs.declared.draft.RuleText.{RuleText}
use Rattle.topic_spec.specs.declared.draft.Routes.{Routes}
use Rattle.topic_spec.specs.declared.draft.Draft.{Draft}
use Rattle.topic_spec.specs.declared.sub.Sub.{Sub}
use Rattle.topic_spec.specs.declared.sub_err.SubErr.{SubErr}
use Rattle.topic_spec.specs.declared.sub_err.SubErr.TheVariants as refusals
use Rattle.topic_spec.specs.Draft.{with_slash, some_route, one_route, unless_self, in_doc}
use Rattle.topic_spec.specs.Loading.{Loads}

-- ---- values and members

-- what the first of these values is
abbrev pub kind_of : Forest → Kind
kind_of empty = kinds.Null
kind_of (grows spot children later) = spot.kind

-- its text
abbrev pub shown : List ℕ → Forest → List ℕ
shown bytes empty = []
shown bytes (grows spot children later) = text_shown bytes spot

-- unless it is null
abbrev pub there : Option Forest → Option Forest
there None = None
there (Some values) = if is_null (kind_of values) then None else Some values

-- the member of this name, if it is there
unfoldable pub member_of : List ℕ → List ℕ → Forest → Option Forest
member_of bytes name values = there (last_named bytes name (held values))

-- where the test holds; else the field is wrong
abbrev pub provided : {T : Type 0} → Bool → List ℕ → Result T FieldErr → Result T FieldErr
provided true field further = further
provided false field further = Err (fields.Wrong field)

-- the text that a value is
abbrev pub as_text : List ℕ → List ℕ → Forest → Result (List ℕ) FieldErr
as_text bytes field values = provided (is_text (kind_of values)) field (Ok (shown bytes values))

abbrev pub text_or_none : List ℕ → List ℕ → Option Forest → Result (Option (List ℕ)) FieldErr
text_or_none bytes field None = Ok None
text_or_none bytes field (Some values) = follow (as_text bytes field values) (λ text. Ok (Some text))

-- the text of a member, which may be absent
unfoldable pub text_in : List ℕ → List ℕ → List ℕ → Forest → Result (Option (List ℕ)) FieldErr
text_in bytes field name values = text_or_none bytes field (member_of bytes name values)

abbrev pub or_missing : List ℕ → Option (List ℕ) → Result (List ℕ) FieldErr
or_missing field None = Err (fields.Missing field)
or_missing field (Some text) = Ok text

-- the text of a member, which must be there
unfoldable pub needed_in : List ℕ → List ℕ → List ℕ → Forest → Result (List ℕ) FieldErr
needed_in bytes field name values = follow (text_in bytes field name values) (or_missing field)

-- ---- rules

-- a rule: its text, and its path
abbrev pub rule_members : List ℕ → Forest → Result RuleText FieldErr
rule_members bytes values =
    follow (needed_in bytes (codes "routes.rules") (codes "match") values) (λ condition.
    follow (needed_in bytes (codes "routes.rules") (codes "path") values) (λ path.
    Ok (record { condition = condition; path = with_slash path })))

abbrev pub rule_of : List ℕ → Forest → Result RuleText FieldErr
rule_of bytes values = provided (is_map (kind_of values)) (codes "routes.rules") (rule_members bytes values)

-- the rules of these items, behind those that are there
abbrev pub rules_from : List ℕ → List RuleText → Forest → Result (List RuleText) FieldErr
rules_from bytes rules empty = Ok rules
rules_from bytes rules (grows spot children later) = follow (rule_of bytes (grows spot children later)) (λ rule. rules_from bytes (rules ++ rule ∷ []) later)

abbrev pub rules_of : List ℕ → Option Forest → Result (List RuleText) FieldErr
rules_of bytes None = Ok []
rules_of bytes (Some values) = provided (is_list (kind_of values)) (codes "routes.rules") (rules_from bytes [] (held values))

-- ---- routes

abbrev pub routes_members : List ℕ → Forest → Result Routes FieldErr
routes_members bytes values =
    follow (rules_of bytes (member_of bytes (codes "rules") values)) (λ rules.
    follow (text_in bytes (codes "routes.default") (codes "default") values) (λ path.
    some_route (codes "routes") rules (option_map with_slash path)))

-- `routes`, or else the one `route`
abbrev pub routes_or_route : List ℕ → Forest → Option Forest → Result Routes FieldErr
routes_or_route bytes item None = follow (text_in bytes (codes "route") (codes "route") item) (λ path. one_route (codes "routes") path)
routes_or_route bytes item (Some values) = provided (is_map (kind_of values)) (codes "routes") (routes_members bytes values)

abbrev pub routes_of : List ℕ → Forest → Result Routes FieldErr
routes_of bytes item = routes_or_route bytes item (member_of bytes (codes "routes") item)

-- ---- items

abbrev pub draft_members : List ℕ → Forest → Result Draft FieldErr
draft_members bytes item =
    follow (needed_in bytes (codes "pubsubname") (codes "pubsubname") item) (λ pubsub.
    follow (needed_in bytes (codes "topic") (codes "topic") item) (λ topic.
    follow (routes_of bytes item) (λ routes.
    follow (text_in bytes (codes "deadLetterTopic") (codes "deadLetterTopic") item) (λ dead.
    Ok (record { pubsub = pubsub; topic = topic; rules = routes.rules; default = routes.default; dead = dead })))))

abbrev pub draft_of : List ℕ → Forest → Result Draft FieldErr
draft_of bytes item = provided (is_map (kind_of item)) (codes "list") (draft_members bytes item)

-- of an item, the subscription that it is; one that is its own dead-letter topic has the topic's name
unfoldable pub item_draft : List ℕ → ℕ → Forest → Result Draft SubErr
item_draft bytes place item = follow (in_doc place (draft_of bytes item)) (λ draft. unless_self draft.topic draft)

unfoldable pub item_said : List ℕ → ℕ → Forest → Result (Option Draft) SubErr
item_said bytes place item = follow (item_draft bytes place item) (λ draft. Ok (Some draft))

-- of each of these items, the first of which has this place
unfoldable pub items_said : List ℕ → ℕ → Forest → List (Result (Option Draft) SubErr)
items_said bytes place empty = []
items_said bytes place (grows spot children later) = item_said bytes place (grows spot children later) ∷ items_said bytes (place + 1) later

-- what the items of a list come to; of any other text the list is wrong
abbrev pub ListLoadsIf : List ℕ → Forest → Bool → Result (List Sub) SubErr → Type 0
ListLoadsIf bytes values true result = Loads 0 [] (items_said bytes 0 (held values)) result
ListLoadsIf bytes values false result = result ≡ Err (refusals.Wrong 0 (codes "list"))

abbrev pub ListLoads : List ℕ → Forest → Result (List Sub) SubErr → Type 0
ListLoads bytes values result = ListLoadsIf bytes values (is_list (kind_of values)) result
