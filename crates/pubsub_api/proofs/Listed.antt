-- The subscriptions of a body, as it was read or not.
use Rattle.std.proofs.Common.{◌≡◌, ◌≢◌, refl, sym, subst, ℕ, List, []}
use Rattle.std.specs.Prelude.{Result, Ok, Err, IsErrOf, codes}
use Rattle.json_text.specs.declared.doc.Doc.{Doc}
use Rattle.json_text.specs.declared.error.JsonErr.{JsonErr}
use Rattle.json_text.specs.declared.error.JsonErr.TheVariants as json
use Rattle.json_text.specs.Doc.{Shows}
use Rattle.json_text.specs.Faults.{IsFirstBad, IsFirstDeep}
use Rattle.json_text.proofs.FirstFaults.{no_bad, no_deep}
use Rattle.rule_value.specs.Standing.{IsEvent}
use Rattle.rule_value.specs.Values.{Event}
use Rattle.topic_spec.specs.declared.sub.Sub.{Sub}
use Rattle.topic_spec.specs.declared.sub_err.SubErr.{SubErr}
use Rattle.topic_spec.specs.declared.sub_err.SubErr.TheVariants.{Missing, Wrong, NoMemory, SelfDead, TooMany, Rule}
use Rattle.topic_spec.specs.Listed.{ListLoads}
use Rattle.topic_spec.specs.Loading.{IsLoad}
use Rattle.pubsub_api.specs.Listing.{IsList, unlisted, read, unread}
use Rattle.pubsub_api.proofs.Shown.{RootLaw, is_event, is_read}

pub load_more : (P Q : Result (List Sub) SubErr → Type 0) (result : Result (List Sub) SubErr) → ((r : Result (List Sub) SubErr) → P r → Q r) → IsLoad P result → IsLoad Q result
load_more P Q (Ok subs) f h = f (Ok subs) h
load_more P Q (Err NoMemory) f h = tt
load_more P Q (Err (Missing doc field)) f h = f (Err (Missing doc field)) h
load_more P Q (Err (Wrong doc field)) f h = f (Err (Wrong doc field)) h
load_more P Q (Err (SelfDead name)) f h = f (Err (SelfDead name)) h
load_more P Q (Err (TooMany count)) f h = f (Err (TooMany count)) h
load_more P Q (Err (Rule doc at)) f h = f (Err (Rule doc at)) h

module _ (body : List ℕ) (some : body ≢ []) where
  pub list_read : (law : RootLaw) (doc : Doc) (result : Result (List Sub) SubErr) → Shows doc body → ((shown : Event) → IsEvent doc shown → IsLoad (ListLoads shown.bytes shown.values) result) → IsLoad (IsList body) result
  list_read law doc result shows loads =
      let its = is_read doc body shows in
      load_more (ListLoads body shows.values) (IsList body) result (λ r h. read shows.values some its h)
      (loads (record { bytes = body; values = shows.values }) (is_event law doc body shows.values shows its))

  no_list : (told : SubErr) → told ≡ Wrong 0 (codes "list") → ((at : ℕ) → IsFirstBad body at → IsLoad (IsList body) (Err told)) × ((at : ℕ) → IsFirstDeep body at → IsLoad (IsList body) (Err told))
  no_list told is = (
    λ at first. subst (λ e. IsLoad (IsList body) (Err e)) (sym is) (unread some (λ values its. no_bad body at its.clean first) refl),
    λ at first. subst (λ e. IsLoad (IsList body) (Err e)) (sym is) (unread some (λ values its. no_deep body at its.clean first) refl),
  )

  pub list_unread : (error : JsonErr) (told : SubErr) → told ≡ unlisted error → ((at : ℕ) → IsErrOf {T = Doc} (Err error) (json.Bad at) → IsFirstBad body at) → ((at : ℕ) → IsErrOf {T = Doc} (Err error) (json.Deep at) → IsFirstDeep body at) → IsLoad (IsList body) (Err told)
  list_unread (json.Bad at) told is bad deep = (no_list told is).0 at (bad at refl)
  list_unread (json.Deep at) told is bad deep = (no_list told is).1 at (deep at refl)
  list_unread json.NoMemory told is bad deep = subst (λ e. IsLoad (IsList body) (Err e)) (sym is) tt
