-- Connections that are kept, of which one goes, or comes.
use Rattle.std.proofs.Common.{◌≡◌, ◌≢◌, ℕ, ◌+◌, ◌-◌, ◌<◌, ◌≤◌, Bool, cond, true, false, List, [], ◌∷◌, ◌++◌, length, All, Option, Some, None, Result, Ok, Err, refl, sym, ap, ◌∙◌, subst, arith, ⊎_elim}
use Rattle.std.specs.Prelude.{nat_lt, if◌then◌else◌, slice_index_or, IsOk}
use Rattle.std.specs.List.{AllPairs, filter, remove}
use Rattle.std.proofs.lemmas.Bool.{cases_lt}
use Rattle.std.proofs.lemmas.Bool.Decides.{nat_tests}
use Rattle.std.proofs.lemmas.List.{get_or_default}
use Rattle.std.proofs.lemmas.List.Edits.{get_or-remove_below, get_or-remove_above, length-remove}
use Rattle.std.proofs.lemmas.List.Elements.{All-filter, All-append, All-cons, All-nil}
use Rattle.std.proofs.lemmas.List.Kept.{AllPairs-filter}
use Rattle.std.proofs.lemmas.List.Quantifiers.{all_pairs_remove, all_pairs_push}
use Rattle.side_base.specs.declared.message.LinkRequest.{LinkRequest}
use Rattle.side_base.specs.declared.message.Response.{Response}
use Rattle.side_world.specs.declared.link.LinkErr.{LinkErr}
use Rattle.http_client.specs.declared.reply.Reply.{Reply}
use Rattle.http_client.specs.declared.asking.AskErr.{AskErr}
use Rattle.net_edge.specs.CallTimes.{KeepsWhere}
use Rattle.net_edge.specs.Calls.{IsTo, Answers, IsElsewhere, AreApart, AreSingle, AreAmong, KeepsOwn, IsOutcome, is_young, young, with_room, with_one_more}
use Rattle.net_edge.specs.declared.call_connection.CallConnection.{CallConnection}

-- what holds of all holds of those that are left where one went
pub All-removed : (P : CallConnection → Type 0) (xs : List CallConnection) (n : ℕ) → n < length xs → All P xs → All P (remove xs n)
All-removed P xs n l h k d within =
    let long = length-remove xs n l in
    ⊎_elim
    (λ below. rw (get_or-remove_below xs n d k below l) (h k d (omega arith)))
    (λ above. rw (get_or-remove_above xs n d k above l) (h (k + 1) d (omega arith)))
    (cases_lt k n)

-- where of each target there is one at most, those that are left go elsewhere than the one that went
pub elsewhere_removed : (xs : List CallConnection) (n : ℕ) (it : CallConnection) → n < length xs → AreSingle xs → it ≡ slice_index_or xs n it
    → All (IsElsewhere it.host it.port) (remove xs n)
elsewhere_removed xs n it l single is k d within =
    let long = length-remove xs n l in
    ⊎_elim
    (λ below. rw (get_or-remove_below xs n d k below l) (before below))
    (λ above. rw (get_or-remove_above xs n d k above l) (behind (omega arith) (omega arith)))
    (cases_lt k n) where
      same : it ≡ slice_index_or xs n d
      same = is ∙ get_or_default xs n it d l

      before : k < n → IsElsewhere it.host it.port (slice_index_or xs k d)
      before below host port =
          let apart : AreApart (slice_index_or xs k d) it = subst (λ (z : CallConnection). AreApart (slice_index_or xs k d) z) (sym same) (single k n d below l) in
          apart (sym host) (sym port)

      behind : n < k + 1 → k + 1 < length xs → IsElsewhere it.host it.port (slice_index_or xs (k + 1) d)
      behind above far =
          subst (λ (z : CallConnection). AreApart z (slice_index_or xs (k + 1) d)) (sym same) (single n (k + 1) d above far)

-- one to another target may come
pub single_pushed : (xs : List CallConnection) (it : CallConnection) (now : ℕ) → AreSingle xs → All (IsElsewhere it.host it.port) xs
    → AreSingle (xs ++ record it { since = now } ∷ [])
single_pushed xs it now single others =
    all_pairs_push AreApart xs (record it { since = now }) single (λ k d l host port. others k d l (sym host) (sym port))

-- the same where the list is another name for those that are left
pub elsewhere_left : (xs ys : List CallConnection) (n : ℕ) (it : CallConnection) → n < length xs → AreSingle xs → it ≡ slice_index_or xs n it
    → ys ≡ remove xs n → All (IsElsewhere it.host it.port) ys
elsewhere_left xs ys n it l single is left = subst (All (IsElsewhere it.host it.port)) (sym left) (elsewhere_removed xs n it l single is)

pub single_left : (xs ys : List CallConnection) (n : ℕ) → n < length xs → AreSingle xs → ys ≡ remove xs n → AreSingle ys
single_left xs ys n l single left = subst AreSingle (sym left) (all_pairs_remove AreApart xs n l single)

pub single_of_young : (now : ℕ) (xs ys : List CallConnection) → AreSingle xs → ys ≡ young now xs → AreSingle ys
unfolding young
single_of_young now xs ys single is = subst AreSingle (sym is) (AllPairs-filter AreApart (is_young now) xs single)

-- one to this target goes to it under another name, too
pub elsewhere_of : (host other : List ℕ) (port number : ℕ) (ys : List CallConnection) → other ≡ host → number ≡ port → All (IsElsewhere other number) ys
    → All (IsElsewhere host port) ys
elsewhere_of host other port number ys same equal all k d l h p = all k d l (h ∙ sym same) (p ∙ sym equal)

-- those that have not idled long
pub All-young : (P : CallConnection → Type 0) (now : ℕ) (xs : List CallConnection) → All P xs → All P (young now xs)
unfolding young
All-young P now xs h = All-filter (is_young now) P xs h

-- each of those has idled for less than a second
young_all : (now : ℕ) (xs : List CallConnection) → All (λ it. now - it.since < 1000) (filter (is_young now) xs)
young_all now [] = All-nil (λ it. now - it.since < 1000)
young_all now (x ∷ xs) = by (is_young now x) refl (young_all now xs) where
  by : (short : Bool) → is_young now x ≡ short → All (λ it. now - it.since < 1000) (filter (is_young now) xs)
      → All (λ it. now - it.since < 1000) (cond short (x ∷ filter (is_young now) xs) (filter (is_young now) xs))
  by true is others = All-cons (λ it. now - it.since < 1000) x (filter (is_young now) xs) (grind (arith, nat_tests)) others
  by false is others = others

pub young_at : (now : ℕ) (xs ys : List CallConnection) (n : ℕ) (it : CallConnection) → ys ≡ young now xs → n < length ys → it ≡ slice_index_or ys n it
    → now - it.since < 1000
unfolding young
young_at now xs ys n it is l same =
    subst (λ (z : CallConnection). now - z.since < 1000) (sym same) (subst (All (λ it. now - it.since < 1000)) (sym is) (young_all now xs) n it l)

-- those that stay where one goes for another
pub All-with_room : (P : CallConnection → Type 0) (xs : List CallConnection) → All P xs → All P (with_room xs)
unfolding with_room
All-with_room P xs h = by (nat_lt (length xs) 8) refl where
  by : (short : Bool) → nat_lt (length xs) 8 ≡ short → All P (if short then xs else remove xs 0)
  by true is = h
  by false is = All-removed P xs 0 (grind arith) h

pub single_with_room : (xs : List CallConnection) → AreSingle xs → AreSingle (with_room xs)
unfolding with_room
single_with_room xs h = by (nat_lt (length xs) 8) refl where
  by : (short : Bool) → nat_lt (length xs) 8 ≡ short → AreSingle (if short then xs else remove xs 0)
  by true is = h
  by false is = all_pairs_remove AreApart xs 0 (grind arith) h

-- the same where there was made room for it, and behind a push that may have failed
pub single_put : (done : Bool) (xs zs ys : List CallConnection) (it : CallConnection) (now : ℕ) → AreSingle zs → All (IsElsewhere it.host it.port) xs
    → zs ≡ with_room xs → ys ≡ (if done then zs ++ record it { since = now } ∷ [] else zs) → AreSingle ys
single_put true xs zs ys it now single others room is = subst AreSingle (sym is) (single_pushed zs it now single (subst (All (IsElsewhere it.host it.port)) (sym room) (All-with_room (IsElsewhere it.host it.port) xs others)))
single_put false xs zs ys it now single others room is = subst AreSingle (sym is) single

-- those behind are among those before
pub among_on : (xs ys zs : List CallConnection) → AreAmong xs ys → AreAmong ys zs → AreAmong xs zs
among_on xs ys zs first second test h = second test (first test h)

pub among_young : (now : ℕ) (xs ys : List CallConnection) → ys ≡ young now xs → AreAmong xs ys
among_young now xs ys is test h = subst (All (λ it. test it ≡ true)) (sym is) (All-young (λ it. test it ≡ true) now xs h)

pub among_removed : (xs ys : List CallConnection) (n : ℕ) → n < length xs → ys ≡ remove xs n → AreAmong xs ys
among_removed xs ys n l is test h = subst (All (λ it. test it ≡ true)) (sym is) (All-removed (λ it. test it ≡ true) xs n l h)

-- what a call keeps that keeps nothing of its own
pub keeps_none : (request : LinkRequest) (answer : Result Response LinkErr) (before after : List CallConnection) → AreAmong before after
    → KeepsOwn request answer before after
keeps_none request answer before after among test h own = among test h

-- a connection that is left behind a call goes to its target, and the call was answered
pub outcome_own : (request : LinkRequest) (answer : Result Response LinkErr) (it : CallConnection) → IsOutcome request answer (Some it)
    → IsOk answer × IsTo request it
outcome_own request answer it outcome = by outcome.reply outcome.answers outcome.keeps where
  same : (persists : Bool) → Some it ≡ (if persists then Some outcome.connection else None) → outcome.connection ≡ it
  same true is = cc
  same false is = absurd (cc)

  by : (reply : Result Reply AskErr) → Answers outcome.connection reply answer → KeepsWhere reply outcome.connection (Some it) → IsOk answer × IsTo request it
  by (Ok reply) answers keeps = (subst IsOk (sym answers) refl, subst (IsTo request) (same reply.persists keeps) outcome.target)
  by (Err why) answers keeps = absurd (cc)

-- what one keeps whose connection is put back
pub keeps_one : (request : LinkRequest) (answer : Result Response LinkErr) (before between after : List CallConnection) (it : CallConnection) (now : ℕ)
    → AreAmong before between → IsOutcome request answer (Some it)
    → (done : Bool) → after ≡ (if done then with_one_more it now between else with_room between)
    → KeepsOwn request answer before after
keeps_one request answer before between after it now among outcome done is test h own =
    subst (All (λ z. test z ≡ true)) (sym is) (kept done) where
      stay : All (λ z. test z ≡ true) (with_room between)
      stay = All-with_room (λ z. test z ≡ true) between (among test h)

      mine : test (record it { since = now }) ≡ true
      mine =
          let is_own = outcome_own request answer it outcome in
          own is_own.0 (record it { since = now }) (record { host = is_own.1.host; port = is_own.1.port })

      kept : (done : Bool) → All (λ z. test z ≡ true) (if done then with_one_more it now between else with_room between)
      kept true = All-append (λ z. test z ≡ true) (with_room between) (record it { since = now } ∷ []) stay
          (All-cons (λ z. test z ≡ true) (record it { since = now }) [] mine (All-nil (λ z. test z ≡ true)))
      kept false = stay
