-- What resiliency documents bind to their targets.
use Rattle.std.specs.Prelude.{◌≡◌, ℕ, suc, if◌then◌else◌, List, [], ◌∷◌, ◌++◌, length, codes, Option, Some, None, is_some, option_to_list, Result, Ok, Err}
use Rattle.yaml_subset.specs.PartKind.{PartKind}
use Rattle.yaml_subset.specs.PartKind.TheVariants as parts
use Rattle.yaml_subset.specs.Trees.{Trees, none, tree}
use Rattle.yaml_subset.specs.Docs.{told_of, member}
use Rattle.resource_spec.specs.declared.field_err.FieldErr.{FieldErr}
use Rattle.resource_spec.specs.declared.field_err.FieldErr.TheVariants as fields
use Rattle.resource_spec.specs.Follow.{follow}
use Rattle.resource_spec.specs.Field.{with_name, text_at}
use Rattle.resource_spec.specs.Document.{head_of}
use Rattle.retry_core.specs.declared.policy.Bound.{Bound}
use Rattle.retry_core.specs.declared.policy.BreakerPolicy.{BreakerPolicy}
use Rattle.retry_core.specs.declared.policy.RetryPolicy.{RetryPolicy}
use Rattle.retry_core.specs.declared.policy.RetryKind.TheVariants.{Constant, Exponential}
use Rattle.policy_spec.specs.declared.choice.Choice.{Choice}
use Rattle.policy_spec.specs.declared.choice.Side.{Side}
use Rattle.policy_spec.specs.declared.choice.Side.TheVariants as sides
use Rattle.policy_spec.specs.declared.policy.Policy.{Policy}
use Rattle.policy_spec.specs.declared.policy.Policy.TheVariants.{Timeout, Retry, Breaker}
use Rattle.policy_spec.specs.declared.policy.Section.TheVariants.{Timeouts, Retries, Breakers}
use Rattle.policy_spec.specs.declared.policy_err.PolicyErr.{PolicyErr}
use Rattle.policy_spec.specs.declared.policy_err.PolicyErr.TheVariants.{Missing, Wrong, NoSuchPolicy, Repeated, NoMemory}
use Rattle.policy_spec.specs.Named.{under, put_under}
use Rattle.policy_spec.specs.Policies.{Aim, app, outbound, inbound, Binding, named_bound}
use Rattle.policy_spec.specs.Policy.{member_field, mapping_at, section_said}
use Rattle.policy_spec.specs.Readers.{Readers}

-- a refusal of a field, in the document of this number
abbrev pub err_in : ℕ → FieldErr → PolicyErr
err_in doc (fields.Missing field) = Missing doc field
err_in doc (fields.Wrong field) = Wrong doc field
err_in doc fields.NoMemory = NoMemory

abbrev pub in_doc : {T : Type 0} → ℕ → Result T FieldErr → Result T PolicyErr
in_doc doc (Ok x) = Ok x
in_doc doc (Err e) = Err (err_in doc e)

-- the policies of a document, by their names
pub record Tables : Type 0 where
  pub timeouts : List (List ℕ × Policy)
  pub retries : List (List ℕ × Policy)
  pub breakers : List (List ℕ × Policy)

abbrev pub tables_said : Readers → Trees → Result Tables FieldErr
tables_said readers row =
    follow (section_said readers Timeouts row) (λ timeouts.
    follow (section_said readers Retries row) (λ retries.
    follow (section_said readers Breakers row) (λ breakers.
    Ok (record { timeouts = timeouts; retries = retries; breakers = breakers }))))

-- the policy of a name must be there
abbrev pub or_none_such : List ℕ → Option Policy → Result (Option Policy) PolicyErr
or_none_such name None = Err (NoSuchPolicy name)
or_none_such name (Some policy) = Ok (Some policy)

abbrev pub named_in : List (List ℕ × Policy) → Option (List ℕ) → Result (Option Policy) PolicyErr
named_in table None = Ok None
named_in table (Some name) = or_none_such name (under name table)

-- the policy that a member of a target names, if it is there
abbrev pub chosen : ℕ → List ℕ → List ℕ → List (List ℕ × Policy) → Trees → Result (Option Policy) PolicyErr
chosen doc field name table row = follow (in_doc doc (text_at field (name ∷ []) row)) (named_in table)

-- what a target names
abbrev pub choice_said : ℕ → Tables → List ℕ → Trees → Result Choice PolicyErr
choice_said doc tables field row =
    follow (chosen doc field (codes "timeout") tables.timeouts row) (λ timeout.
    follow (chosen doc field (codes "retry") tables.retries row) (λ retry.
    follow (chosen doc field (codes "circuitBreaker") tables.breakers row) (λ breaker.
    Ok (record { timeout = timeout; retry = retry; breaker = breaker }))))

abbrev pub timeout_of : Option Policy → Option ℕ
timeout_of None = None
timeout_of (Some (Timeout ms)) = Some ms
timeout_of (Some (Retry exponential wait most retries)) = None
timeout_of (Some (Breaker requests interval timeout trip)) = None

abbrev pub retry_of : Option Policy → Option RetryPolicy
retry_of None = None
retry_of (Some (Timeout ms)) = None
retry_of (Some (Retry exponential wait most retries)) = Some (record { kind = if exponential then Exponential most else Constant wait; max_retries = retries })
retry_of (Some (Breaker requests interval timeout trip)) = None

abbrev pub breaker_of : Option Policy → Option BreakerPolicy
breaker_of None = None
breaker_of (Some (Timeout ms)) = None
breaker_of (Some (Retry exponential wait most retries)) = None
breaker_of (Some (Breaker requests interval timeout trip)) = Some (record { max_requests = requests; interval_ms = interval; timeout_ms = timeout; trip = trip })

-- a breaker's place is behind those that are there
abbrev pub place_for : ℕ → Option BreakerPolicy → Option ℕ
place_for count None = None
place_for count (Some breaker) = Some count

-- what is bound by what a target names, where there are so many breakers
abbrev pub bound_for : ℕ → Choice → Bound
bound_for count choice = record { timeout_ms = timeout_of choice.timeout; retry = retry_of choice.retry; breaker = place_for count (breaker_of choice.breaker) }

abbrev pub aim_for : Side → List ℕ → Aim
aim_for sides.App name = app name
aim_for sides.Outbound name = outbound name
aim_for sides.Inbound name = inbound name

-- with this bound to a target, and these breakers
abbrev pub with_bound : Binding → Side → List ℕ → Bound → List BreakerPolicy → Binding
with_bound b sides.App name bound breakers = record { apps = put_under b.apps name bound; outbound = b.outbound; inbound = b.inbound; breakers = breakers }
with_bound b sides.Outbound name bound breakers = record { apps = b.apps; outbound = put_under b.outbound name bound; inbound = b.inbound; breakers = breakers }
with_bound b sides.Inbound name bound breakers = record { apps = b.apps; outbound = b.outbound; inbound = put_under b.inbound name bound; breakers = breakers }

-- a target is bound once, with a breaker of its own
abbrev pub choice_put : Binding → Side → List ℕ → Choice → Result Binding PolicyErr
choice_put b side name choice =
    if is_some (named_bound b (aim_for side name)) then Err (Repeated name)
    else Ok (with_bound b side name (bound_for (length b.breakers) choice) (b.breakers ++ option_to_list (breaker_of choice.breaker)))

-- with a target of this field and name
abbrev pub target_put : ℕ → Tables → List ℕ → Side → List ℕ → Binding → Trees → Result Binding PolicyErr
target_put doc tables field side name b row = follow (choice_said doc tables field row) (choice_put b side name)

abbrev pub app_put : ℕ → Tables → Binding → Trees → Result Binding PolicyErr
app_put doc tables b row =
    follow (in_doc doc (member_field (codes "spec.targets.apps") (told_of row).name)) (λ own. target_put doc tables own sides.App (told_of row).name b row)

abbrev pub apps_from : ℕ → Tables → Binding → Trees → Result Binding PolicyErr
apps_from doc tables b none = Ok b
apps_from doc tables b (tree t inner later) = follow (app_put doc tables b (tree t inner later)) (λ more. apps_from doc tables more later)

-- one direction of a component is a target where it is there
abbrev pub direction_put : ℕ → Tables → List ℕ → Side → List ℕ → Binding → Trees → Result Binding PolicyErr
direction_put doc tables field side name b none = Ok b
direction_put doc tables field side name b (tree t inner later) = target_put doc tables field side name b (tree t inner later)

abbrev pub is_mapping_or_empty : List ℕ → PartKind → Result (Unit {0}) FieldErr
is_mapping_or_empty field parts.Mapping = Ok tt
is_mapping_or_empty field parts.Empty = Ok tt
is_mapping_or_empty field parts.Scalar = Err (fields.Wrong field)
is_mapping_or_empty field parts.Sequence = Err (fields.Wrong field)

-- both directions of a component, `outbound` first
abbrev pub directions_put : ℕ → Tables → List ℕ → List ℕ → Binding → Trees → Result Binding PolicyErr
directions_put doc tables field name b row =
    follow (direction_put doc tables (with_name field (codes "outbound")) sides.Outbound name b (member (codes "outbound") row)) (λ more.
    direction_put doc tables (with_name field (codes "inbound")) sides.Inbound name more (member (codes "inbound") row))

-- a component of this field is a mapping, or empty
abbrev pub tested_put : ℕ → Tables → List ℕ → List ℕ → Binding → Trees → Result Binding PolicyErr
tested_put doc tables field name b row = follow (in_doc doc (is_mapping_or_empty field (told_of row).kind)) (λ _. directions_put doc tables field name b row)

abbrev pub component_put : ℕ → Tables → Binding → Trees → Result Binding PolicyErr
component_put doc tables b row =
    follow (in_doc doc (member_field (codes "spec.targets.components") (told_of row).name)) (λ own. tested_put doc tables own (told_of row).name b row)

abbrev pub components_from : ℕ → Tables → Binding → Trees → Result Binding PolicyErr
components_from doc tables b none = Ok b
components_from doc tables b (tree t inner later) = follow (component_put doc tables b (tree t inner later)) (λ more. components_from doc tables more later)

-- the targets of a document: apps, and then components
abbrev pub app_targets_put : ℕ → Tables → Binding → Trees → Result Binding PolicyErr
app_targets_put doc tables b row = follow (in_doc doc (mapping_at (codes "spec" ∷ codes "targets" ∷ codes "apps" ∷ []) row)) (apps_from doc tables b)

abbrev pub component_targets_put : ℕ → Tables → Binding → Trees → Result Binding PolicyErr
component_targets_put doc tables b row =
    follow (in_doc doc (mapping_at (codes "spec" ∷ codes "targets" ∷ codes "components" ∷ []) row)) (components_from doc tables b)

abbrev pub targets_put : ℕ → Tables → Binding → Trees → Result Binding PolicyErr
targets_put doc tables b row = follow (app_targets_put doc tables b row) (λ more. component_targets_put doc tables more row)

-- a document that has a name is for the app
abbrev pub named_document : Readers → ℕ → Binding → Trees → Option (List ℕ) → Result Binding PolicyErr
named_document readers doc b row None = Ok b
named_document readers doc b row (Some name) = follow (in_doc doc (tables_said readers row)) (λ tables. targets_put doc tables b row)

abbrev pub document_loaded : Readers → List ℕ → ℕ → Binding → Trees → Result Binding PolicyErr
document_loaded readers id doc b row = follow (in_doc doc (head_of (codes "Resiliency") (codes "dapr.io/v1alpha1") id row)) (named_document readers doc b row)

-- what these documents bind, the first of which has this number, beside what is bound
abbrev pub loaded : Readers → List ℕ → ℕ → Binding → Trees → Result Binding PolicyErr
loaded readers id doc b none = Ok b
loaded readers id doc b (tree t inner later) = follow (document_loaded readers id doc b (tree t inner later)) (λ more. loaded readers id (suc doc) more later)

-- nothing is bound
abbrev pub nothing_bound : Binding
nothing_bound = record { apps = []; outbound = []; inbound = []; breakers = [] }

-- a refusal is this one, or want of memory
abbrev pub IsPolicyErr : {T : Type 0} → PolicyErr → Result T PolicyErr → Type 0
IsPolicyErr (Missing doc field) wanted = wanted ≡ Err (Missing doc field)
IsPolicyErr (Wrong doc field) wanted = wanted ≡ Err (Wrong doc field)
IsPolicyErr (NoSuchPolicy name) wanted = wanted ≡ Err (NoSuchPolicy name)
IsPolicyErr (Repeated name) wanted = wanted ≡ Err (Repeated name)
IsPolicyErr NoMemory wanted = Unit {0}

-- what is loaded is this, but for want of memory
abbrev pub IsLoad : {T : Type 0} → Result T PolicyErr → Result T PolicyErr → Type 0
IsLoad (Ok x) wanted = wanted ≡ Ok x
IsLoad (Err e) wanted = IsPolicyErr e wanted

-- what is bound is this after a change, but for a refusal
abbrev pub IsChange : Result (Unit {0}) PolicyErr → Binding → Result Binding PolicyErr → Type 0
IsChange (Ok done) new wanted = wanted ≡ Ok new
IsChange (Err e) new wanted = IsPolicyErr e wanted
