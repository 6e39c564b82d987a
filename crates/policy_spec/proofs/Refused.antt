-- A refusal of the first part is one of the whole.
use Rattle.std.proofs.Common.{◌≢◌, ap, refl, ℕ, List, Result}
use Rattle.yaml_subset.specs.Trees.{Trees, none, tree}
use Rattle.resource_spec.specs.Follow.{follow}
use Rattle.policy_spec.specs.declared.policy_err.PolicyErr.{PolicyErr}
use Rattle.policy_spec.specs.declared.policy_err.PolicyErr.TheVariants.{Missing, Wrong, NoSuchPolicy, Repeated, NoMemory}
use Rattle.policy_spec.specs.Policies.{Binding}
use Rattle.policy_spec.specs.Readers.{Readers}
use Rattle.policy_spec.specs.Resiliency.{Tables, app_put, apps_from, component_put, components_from, document_loaded, loaded, IsPolicyErr}

pub err_follow : {A B : Type 0} (e : PolicyErr) (r : Result A PolicyErr) (f : A → Result B PolicyErr) → IsPolicyErr e r → IsPolicyErr e (follow r f)
err_follow (Missing doc field) r f h = ap (λ x. follow x f) h
err_follow (Wrong doc field) r f h = ap (λ x. follow x f) h
err_follow (NoSuchPolicy name) r f h = ap (λ x. follow x f) h
err_follow (Repeated name) r f h = ap (λ x. follow x f) h
err_follow NoMemory r f h = tt

pub apps_err : (doc : ℕ) (tables : Tables) (b : Binding) (row : Trees) (e : PolicyErr) → IsPolicyErr e (app_put doc tables b row) → row ≢ none → IsPolicyErr e (apps_from doc tables b row)
apps_err doc tables b none e h some = absurd (some refl)
apps_err doc tables b (tree t c l) e h some = err_follow e (app_put doc tables b (tree t c l)) _ h

pub components_err : (doc : ℕ) (tables : Tables) (b : Binding) (row : Trees) (e : PolicyErr) → IsPolicyErr e (component_put doc tables b row) → row ≢ none → IsPolicyErr e (components_from doc tables b row)
components_err doc tables b none e h some = absurd (some refl)
components_err doc tables b (tree t c l) e h some = err_follow e (component_put doc tables b (tree t c l)) _ h

pub documents_err : (readers : Readers) (app : List ℕ) (doc : ℕ) (b : Binding) (row : Trees) (e : PolicyErr) → IsPolicyErr e (document_loaded readers app doc b row) → row ≢ none → IsPolicyErr e (loaded readers app doc b row)
documents_err readers app doc b none e h some = absurd (some refl)
documents_err readers app doc b (tree t c l) e h some = err_follow e (document_loaded readers app doc b (tree t c l)) _ h
