-- A body means one answer.
use Rattle.std.proofs.Common.{◌≡◌, inl, inr, ℕ, suc, ◌<◌, ◌≤◌, ◌+◌, Bool, false, List, length, take, sym, ap, ◌∙◌, arith}
use Rattle.std.specs.Prelude.{Result, Err}
use Rattle.std.proofs.lemmas.Bool.{cases_lt}
use Rattle.std.proofs.lemmas.List.{get_or_past, take_all}
use Rattle.side_base.specs.declared.message.Request.{Request}
use Rattle.api_routes.specs.declared.route.Route.{Route}
use Rattle.api_routes.specs.declared.route.Route.TheVariants as route
use Rattle.state_core.specs.declared.command.Prefix.{Prefix}
use Rattle.state_core.specs.declared.command.Cmd.{Cmd}
use Rattle.json_text.specs.Forest.{Forest, empty, grows}
use Rattle.json_text.specs.Grammar.{IsText}
use Rattle.json_text.specs.Progress.{after}
use Rattle.json_text.specs.Faults.{IsBad, dead, short, lone, IsDeep, IsFirstBad, IsFirstDeep, is_lone, is_numbered, open_count}
use Rattle.state_api.specs.declared.what.What.{What}
use Rattle.state_api.specs.declared.what.What.TheVariants.{Json}
use Rattle.state_api.specs.Values.{Value}
use Rattle.state_api.specs.Asked.{Asks, AsksActor, BodyAsks, bad, deep, text, actor_front, changes_in, save_in, bulk_in, transact_in}
use Rattle.state_api.proofs.Members.{false_true}

-- ---- what is wrong with a text stands within it

no_number : (bytes : List ℕ) (at : ℕ) → length bytes ≤ at → is_numbered bytes at ≡ false
unfolding is_numbered
no_number bytes at past = rw (get_or_past bytes at 0 past)

not_lone : (bytes : List ℕ) (at : ℕ) (high : Bool) → length bytes ≤ at → is_lone high bytes at ≡ false
not_lone bytes at high past = rw (no_number bytes at past)

bad_within : (bytes : List ℕ) (at : ℕ) → IsBad bytes at → at < length bytes + 1
bad_within bytes at (dead lt none) = omega arith
bad_within bytes at (short e none) = omega arith
bad_within bytes at (lone h) = elim (cases_lt at (length bytes)) [ inl before ↦ omega arith | inr past ↦ false_true _ (sym (not_lone bytes at h.0 past) ∙ h.2) ]

deep_within : (bytes : List ℕ) (at : ℕ) → IsDeep bytes at → at < length bytes + 1
deep_within bytes at h = elim (cases_lt at (length bytes)) [
  | inl before ↦ omega arith
  | inr past ↦ let same : take (suc at) bytes ≡ take at bytes = take_all (suc at) bytes (omega arith) ∙ sym (take_all at bytes past) in absurd (omega (arith, h.0, h.1, ap (λ x. open_count (after x)) same))
]

-- ---- one place

one_bad : (bytes : List ℕ) (a b : ℕ) → IsFirstBad bytes a → IsFirstBad bytes b → a ≡ b
one_bad bytes a b h g = elim (cases_lt a b) [
  | inl lt ↦ absurd ((g.before a lt).0 h.bad)
  | inr ge ↦ elim (cases_lt b a) [ inl lt ↦ absurd ((h.before b lt).0 g.bad) | inr le ↦ omega arith ]
]

one_deep : (bytes : List ℕ) (a b : ℕ) → IsFirstDeep bytes a → IsFirstDeep bytes b → a ≡ b
one_deep bytes a b h g = elim (cases_lt a b) [
  | inl lt ↦ absurd ((g.before a lt).1 h.deep)
  | inr ge ↦ elim (cases_lt b a) [ inl lt ↦ absurd ((h.before b lt).1 g.deep) | inr le ↦ omega arith ]
]

bad_deep : (bytes : List ℕ) (a b : ℕ) → IsFirstBad bytes a → IsFirstDeep bytes b → a ≡ b
bad_deep bytes a b h g = elim (cases_lt a b) [
  | inl lt ↦ absurd ((g.before a lt).0 h.bad)
  | inr ge ↦ elim (cases_lt b a) [ inl lt ↦ absurd ((h.before b lt).1 g.deep) | inr le ↦ omega arith ]
]

-- ---- one answer

module _ (tree : (bytes : List ℕ) (values others : Forest) → IsText bytes values → IsText bytes others → values ≡ others) where
  module _ {A : Type 0} (means : List ℕ → Value → Result A What) (body : List ℕ) where
    told : (a b : ℕ) (one other : Result A What) → a ≡ b → one ≡ Err (Json a) → other ≡ Err (Json b) → one ≡ other
    told a b one other same e f = e ∙ ap (λ at. Err (Json at)) same ∙ sym f

    one_body : (one other : Result A What) → BodyAsks means body one → BodyAsks means body other → one ≡ other
    one_body one other (bad a h e) (bad b g f) = told a b one other (one_bad body a b h g) e f
    one_body one other (bad a h e) (deep b g f) = told a b one other (bad_deep body a b h g) e f
    one_body one other (deep a h e) (bad b g f) = told a b one other (sym (bad_deep body b a g h)) e f
    one_body one other (deep a h e) (deep b g f) = told a b one other (one_deep body a b h g) e f
    one_body one other (bad a h e) (text s c l is clean f) = absurd ((clean a (bad_within body a h.bad)).0 h.bad)
    one_body one other (deep a h e) (text s c l is clean f) = absurd ((clean a (deep_within body a h.deep)).1 h.deep)
    one_body one other (text s c l is clean e) (bad a h f) = absurd ((clean a (bad_within body a h.bad)).0 h.bad)
    one_body one other (text s c l is clean e) (deep a h f) = absurd ((clean a (deep_within body a h.deep)).1 h.deep)
    one_body one other (text s c l is clean e) (text t d r are good f) =
        let same : grows s c l ≡ grows t d r = tree body (grows s c l) (grows t d r) is are in
        let value : record { spot = s; children = c } ≡ record { spot = t; children = d } = ap value_of same in
        e ∙ ap (means body) value ∙ sym f
      where
        value_of : Forest → Value
        value_of empty = record { spot = s; children = c }
        value_of (grows spot children later) = record { spot = spot; children = children }

  pub one_answer : (prefix : Prefix) (request : Request) (route : Route) (one other : Result Cmd What) → Asks prefix request route one → Asks prefix request route other → one ≡ other
  one_answer prefix request (route.Save store) one other h g = one_body (save_in prefix) request.body one other h g
  one_answer prefix request (route.Get store key) one other h g = h ∙ sym g
  one_answer prefix request (route.Delete store key) one other h g = h ∙ sym g
  one_answer prefix request (route.Bulk store) one other h g = one_body (bulk_in prefix) request.body one other h g
  one_answer prefix request (route.Transact store) one other h g = one_body (transact_in prefix) request.body one other h g
  one_answer prefix request (route.Invoke app rest) one other h g = absurd h
  one_answer prefix request (route.Publish pubsub topic) one other h g = absurd h
  one_answer prefix request (route.Binding name) one other h g = absurd h
  one_answer prefix request (route.ActorCall actor id) one other h g = absurd h
  one_answer prefix request (route.ActorGet actor id key) one other h g = absurd h
  one_answer prefix request (route.ActorChange actor id) one other h g = absurd h
  one_answer prefix request route.Health one other h g = absurd h
  one_answer prefix request route.Metadata one other h g = absurd h
  one_answer prefix request (route.SetMetadata name) one other h g = absurd h
  one_answer prefix request route.Shutdown one other h g = absurd h

  pub one_actors_answer : (app : List ℕ) (request : Request) (route : Route) (one other : Result Cmd What) → AsksActor app request route one → AsksActor app request route other → one ≡ other
  one_actors_answer app request (route.Save store) one other h g = absurd h
  one_actors_answer app request (route.Get store key) one other h g = absurd h
  one_actors_answer app request (route.Delete store key) one other h g = absurd h
  one_actors_answer app request (route.Bulk store) one other h g = absurd h
  one_actors_answer app request (route.Transact store) one other h g = absurd h
  one_actors_answer app request (route.Invoke id rest) one other h g = absurd h
  one_actors_answer app request (route.Publish pubsub topic) one other h g = absurd h
  one_actors_answer app request (route.Binding name) one other h g = absurd h
  one_actors_answer app request (route.ActorCall kind id) one other h g = absurd h
  one_actors_answer app request (route.ActorGet kind id key) one other h g = h ∙ sym g
  one_actors_answer app request (route.ActorChange kind id) one other h g = one_body (changes_in (actor_front app kind id)) request.body one other h g
  one_actors_answer app request route.Health one other h g = absurd h
  one_actors_answer app request route.Metadata one other h g = absurd h
  one_actors_answer app request (route.SetMetadata name) one other h g = absurd h
  one_actors_answer app request route.Shutdown one other h g = absurd h
