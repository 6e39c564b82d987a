-- Why a list of an app is refused, and how that ends a run.
use Rattle.std.specs.Prelude.{◌≡◌, ◌⊎◌, List, ◌++◌, Result, Ok, Err, IsErrAnd, refl}
use Rattle.std.proofs.Common.{sym, subst, inl, inr}
use Rattle.side_base.specs.declared.message.Response.{Response}
use Rattle.pubsub_api.specs.Listing.{IsSaid}
use Rattle.topic_spec.specs.declared.sub.Sub.{Sub}
use Rattle.topic_spec.specs.declared.sub_err.SubErr.{SubErr}
use Rattle.topic_spec.specs.declared.sub_err.SubErr.TheVariants.{Missing, Wrong, NoMemory, SelfDead, TooMany, Rule}
use Rattle.topic_spec.specs.Draft.{IsSubErr}
use Rattle.topic_spec.specs.Joining.{IsChange, joined}
use Rattle.topic_spec.specs.Loading.{IsLoad}
use Rattle.sidecar_cli.specs.Subscribed.{Hears, IsToldOfList, Lists, behind, list_text, refused}
use Rattle.sidecar_cli.specs.declared.status.Status.{Status}
use Rattle.sidecar_cli.specs.declared.status.Status.TheVariants as status

-- what is so of the error that is handed on is so of the result
pub at_err : (P : Result (List Sub) SubErr → Type 0) (result : Result (List Sub) SubErr) (why : SubErr) → IsErrAnd result (λ own. own ≡ why) → P (Err why) → P result
at_err P (Ok subs) why is holds = absurd is
at_err P (Err e) why is holds = subst (λ (x : SubErr). P (Err x)) (sym is) holds

module _ (declared : List Sub) (response : Response) where
  -- a list that is refused in itself
  pub said_refused : (e : SubErr) → IsLoad (IsSaid response) (Err e) → IsLoad (Lists declared response) (Err e)
  said_refused NoMemory said = tt
  said_refused (Missing doc field) said = refused (Missing doc field) said refl
  said_refused (Wrong doc field) said = refused (Wrong doc field) said refl
  said_refused (SelfDead name) said = refused (SelfDead name) said refl
  said_refused (TooMany count) said = refused (TooMany count) said refl
  said_refused (Rule doc at) said = refused (Rule doc at) said refl

  -- with it there are too many
  pub join_refused : (said : List Sub) (e : SubErr) → IsSaid response (Ok said) → IsSubErr e (joined declared said) → IsLoad (Lists declared response) (Err e)
  join_refused said NoMemory is is_err = tt
  join_refused said (Missing doc field) is is_err = behind said is (sym is_err)
  join_refused said (Wrong doc field) is is_err = behind said is (sym is_err)
  join_refused said (SelfDead name) is is_err = behind said is (sym is_err)
  join_refused said (TooMany count) is is_err = behind said is (sym is_err)
  join_refused said (Rule doc at) is is_err = behind said is (sym is_err)

  -- how it ends the run
  pub hears_refused : (e : SubErr) (end : Status) → IsLoad (Lists declared response) (Err e) → IsToldOfList e end → Hears declared (Ok response) (Err end)
  hears_refused NoMemory end lists told = inr told
  hears_refused (Missing doc field) end lists (inl told) = inl (list_text (Missing doc field), (Missing doc field, lists, refl), told)
  hears_refused (Missing doc field) end lists (inr lacks) = inr lacks
  hears_refused (Wrong doc field) end lists (inl told) = inl (list_text (Wrong doc field), (Wrong doc field, lists, refl), told)
  hears_refused (Wrong doc field) end lists (inr lacks) = inr lacks
  hears_refused (SelfDead name) end lists (inl told) = inl (list_text (SelfDead name), (SelfDead name, lists, refl), told)
  hears_refused (SelfDead name) end lists (inr lacks) = inr lacks
  hears_refused (TooMany count) end lists (inl told) = inl (list_text (TooMany count), (TooMany count, lists, refl), told)
  hears_refused (TooMany count) end lists (inr lacks) = inr lacks
  hears_refused (Rule doc at) end lists (inl told) = inl (list_text (Rule doc at), (Rule doc at, lists, refl), told)
  hears_refused (Rule doc at) end lists (inr lacks) = inr lacks
