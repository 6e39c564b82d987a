-- The subscriptions of a file, behind those of the files before it.
use Rattle.std.proofs.Common.{◌≡◌, true, false, ℕ, List, [], Result, Ok, Err, inl, inr}
use Rattle.yaml_subset.specs.Trees.{Trees}
use Rattle.topic_spec.specs.declared.sub.Sub.{Sub}
use Rattle.topic_spec.specs.declared.sub_err.SubErr.{SubErr}
use Rattle.topic_spec.specs.declared.sub_err.SubErr.TheVariants.{Missing, Wrong, NoMemory, SelfDead, TooMany, Rule}
use Rattle.topic_spec.specs.Documents.{all_said}
use Rattle.topic_spec.specs.Draft.{IsSubErr}
use Rattle.topic_spec.specs.Loading.{Loads, IsLoad}
use Rattle.topic_spec.specs.Joining.{joined, IsChange}
use Rattle.resource_files.specs.Refusals.{subscriptions_want_memory}
use Rattle.resource_files.specs.Added.{reading_for}
use Rattle.resource_files.specs.Steps.{AddsSubscriptions}

-- a refusal but for want of memory
load_refused : (comes : Result (List Sub) SubErr → Type 0) (e : SubErr) → subscriptions_want_memory e ≡ false → IsLoad comes (Err e) → comes (Err e)
load_refused comes (Missing doc field) known is = is
load_refused comes (Wrong doc field) known is = is
load_refused comes NoMemory known is = absurd (cc known)
load_refused comes (SelfDead name) known is = is
load_refused comes (TooMany count) known is = is
load_refused comes (Rule doc at) known is = is

join_refused : (e : SubErr) (wanted : Result (List Sub) SubErr) → subscriptions_want_memory e ≡ false → IsSubErr e wanted → wanted ≡ Err e
join_refused (Missing doc field) wanted known is = is
join_refused (Wrong doc field) wanted known is = is
join_refused NoMemory wanted known is = absurd (cc known)
join_refused (SelfDead name) wanted known is = is
join_refused (TooMany count) wanted known is = is
join_refused (Rule doc at) wanted known is = is

module _ (app : List ℕ) (documents : Trees) (old new : List Sub) where
  pub unread : (e : SubErr) → IsLoad (Loads 0 [] (all_said app 0 documents)) (Err e) → AddsSubscriptions (reading_for app true) documents old new (Err e)
  unread e loads = λ known. inl (load_refused (Loads 0 [] (all_said app 0 documents)) e known loads)

  pub read : (said : List Sub) (result : Result (Unit {0}) SubErr) → IsLoad (Loads 0 [] (all_said app 0 documents)) (Ok said) → IsChange result old new (joined old said) → AddsSubscriptions (reading_for app true) documents old new result
  read said (Ok done) loads change = (said, (loads, change))
  read said (Err e) loads change = λ known. inr (said, (loads, join_refused e (joined old said) known change.0))
