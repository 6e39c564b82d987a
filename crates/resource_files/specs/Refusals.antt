-- Which refusals are but want of memory, and how a refusal is told.
use Rattle.std.specs.Prelude.{ℕ, Bool, true, false, List, ◌++◌, codes, decimal}
use Rattle.yaml_subset.specs.declared.error.YamlErr.{YamlErr}
use Rattle.yaml_subset.specs.declared.error.YamlErr.TheVariants as yaml
use Rattle.yaml_subset.specs.RefusalText.{refusal_text}
use Rattle.resource_spec.specs.declared.spec_err.SpecErr.{SpecErr}
use Rattle.resource_spec.specs.declared.spec_err.SpecErr.TheVariants as spec
use Rattle.topic_spec.specs.declared.sub_err.SubErr.{SubErr}
use Rattle.topic_spec.specs.declared.sub_err.SubErr.TheVariants as sub
use Rattle.policy_spec.specs.declared.policy_err.PolicyErr.{PolicyErr}
use Rattle.policy_spec.specs.declared.policy_err.PolicyErr.TheVariants as policy
use Rattle.resource_files.specs.declared.resources.Refusal.{Refusal}
use Rattle.resource_files.specs.declared.resources.Refusal.TheVariants.{TooLong, Yaml, Components, Subscriptions, Policies}

abbrev pub yaml_wants_memory : YamlErr → Bool
yaml_wants_memory (yaml.Tab line) = false
yaml_wants_memory (yaml.Indent line) = false
yaml_wants_memory (yaml.LeftOut line what) = false
yaml_wants_memory (yaml.Repeated line) = false
yaml_wants_memory (yaml.Scalar line) = false
yaml_wants_memory (yaml.NotUtf8 at) = false
yaml_wants_memory yaml.NoMemory = true

abbrev pub components_want_memory : SpecErr → Bool
components_want_memory (spec.Missing doc field) = false
components_want_memory (spec.Wrong doc field) = false
components_want_memory (spec.Repeated name) = false
components_want_memory (spec.SecretRef name) = false
components_want_memory (spec.UnknownType name) = false
components_want_memory spec.NoMemory = true
components_want_memory (spec.TooMany count) = false

abbrev pub subscriptions_want_memory : SubErr → Bool
subscriptions_want_memory (sub.Missing doc field) = false
subscriptions_want_memory (sub.Wrong doc field) = false
subscriptions_want_memory sub.NoMemory = true
subscriptions_want_memory (sub.SelfDead name) = false
subscriptions_want_memory (sub.TooMany count) = false
subscriptions_want_memory (sub.Rule doc at) = false

abbrev pub policies_want_memory : PolicyErr → Bool
policies_want_memory (policy.Missing doc field) = false
policies_want_memory (policy.Wrong doc field) = false
policies_want_memory (policy.NoSuchPolicy name) = false
policies_want_memory (policy.Repeated name) = false
policies_want_memory policy.NoMemory = true

-- the refusal says that there is no memory, and nothing of the file
abbrev pub wants_memory : Refusal → Bool
wants_memory (TooLong len) = false
wants_memory (Yaml e) = yaml_wants_memory e
wants_memory (Components e) = components_want_memory e
wants_memory (Subscriptions e) = subscriptions_want_memory e
wants_memory (Policies e) = policies_want_memory e

abbrev pub components_text : SpecErr → List ℕ
components_text (spec.Missing doc field) = codes "Missing " ++ field
components_text (spec.Wrong doc field) = codes "Wrong " ++ field
components_text (spec.Repeated name) = codes "Repeated " ++ name
components_text (spec.SecretRef name) = codes "SecretRef " ++ name
components_text (spec.UnknownType name) = codes "UnknownType " ++ name
components_text spec.NoMemory = codes "NoMemory"
components_text (spec.TooMany count) = codes "TooMany at " ++ decimal count

abbrev pub subscriptions_text : SubErr → List ℕ
subscriptions_text (sub.Missing doc field) = codes "Missing " ++ field
subscriptions_text (sub.Wrong doc field) = codes "Wrong " ++ field
subscriptions_text sub.NoMemory = codes "NoMemory"
subscriptions_text (sub.SelfDead name) = codes "SelfDead " ++ name
subscriptions_text (sub.TooMany count) = codes "TooMany at " ++ decimal count
subscriptions_text (sub.Rule doc at) = codes "Rule at " ++ decimal at

abbrev pub policies_text : PolicyErr → List ℕ
policies_text (policy.Missing doc field) = codes "Missing " ++ field
policies_text (policy.Wrong doc field) = codes "Wrong " ++ field
policies_text (policy.NoSuchPolicy name) = codes "NoSuchPolicy " ++ name
policies_text (policy.Repeated name) = codes "Repeated " ++ name
policies_text policy.NoMemory = codes "NoMemory"

-- how a refusal is told: its name, and the line, the place, the field or the name behind it, where it has one
abbrev pub told_as : Refusal → List ℕ
told_as (TooLong len) = codes "TooLong at " ++ decimal len
told_as (Yaml e) = refusal_text e
told_as (Components e) = components_text e
told_as (Subscriptions e) = subscriptions_text e
told_as (Policies e) = policies_text e
