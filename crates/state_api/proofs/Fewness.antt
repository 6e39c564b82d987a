-- Lists of which there are at most 1,024.
use Rattle.std.proofs.Common.{◌≡◌, ◌<◌, ◌≤◌, nat_le, arith, length-append, Bool, true, false, List, [], ◌∷◌, ◌++◌, length, sym, ap, ◌∙◌}
use Rattle.std.specs.Prelude.{Result, Ok, Err}
use Rattle.state_api.specs.declared.what.What.{What}
use Rattle.state_api.specs.declared.what.What.TheVariants.{TooMany}
use Rattle.state_api.specs.declared.what.StateErr.{StateErr}
use Rattle.state_api.specs.declared.what.StateErr.TheVariants.{Malformed, NoMemory}
use Rattle.state_api.specs.Given.{Gives, followed, provided, each}
use Rattle.state_api.specs.Raw.{few_of}
use Rattle.state_api.specs.Asked.{few}
use Rattle.state_api.specs.Kept.{Kept}
use Rattle.state_api.proofs.Following.{went, went_on, stopped, held, held_err, failed, few_more, few_enough}
use Rattle.state_api.proofs.Keyed.{followed_ok, provided_ok}

module _ {A : Type 0} where
  pub kept_next : (many : Bool) (parts grown read : List A) (part : A) → length parts < 1024 → grown ≡ parts ++ part ∷ [] → Kept many parts read → Kept many grown (read ++ part ∷ [])
  kept_next false parts grown read part short is kept =
      (is ∙ ap (λ l. l ++ part ∷ []) kept.0, omega (arith, length-append read (part ∷ []), ap length kept.0, short))
  kept_next true parts grown read part short is kept = absurd (omega (arith, kept.0, short))

  pub kept_more : (many : Bool) (parts read : List A) (part : A) → 1024 ≤ length parts → Kept many parts read → Kept true parts (read ++ part ∷ [])
  kept_more false parts read part full kept =
      (omega (arith, ap length kept.0, kept.1, full), omega (arith, length-append read (part ∷ []), ap length kept.0, full))
  kept_more true parts read part full kept = (kept.0, omega (arith, length-append read (part ∷ []), kept.1))

  pub many_kept : (parts read : List A) → Kept true parts read → few_of (Ok read) ≡ Err TooMany
  unfolding few_of followed
  many_kept parts read kept = failed _ _ _ (few_more (length read) kept.1)

  pub all_kept : (parts read : List A) → Kept false parts read → few_of (Ok read) ≡ Ok parts
  unfolding few_of followed
  all_kept parts read kept = held _ _ _ _ (few_enough (length read) kept.1) (ap Ok (sym kept.0))

  pub kept_none : (parts : List A) → parts ≡ [] → Kept false parts []
  kept_none parts none = (none, omega arith)

  pub few_failed : (all : Result (List A) What) (what : What) → all ≡ Err what → few_of all ≡ Err what
  unfolding few_of followed
  few_failed all what is = ap few_of is

  pub few_fault : (all : Result (List A) What) (error : StateErr) → Gives {A = List A} (Err error) all → Gives {A = List A} (Err error) (few_of all)
  unfolding few_of
  few_fault all error stops = stopped _ _ _ stops

  few_ok : (all : Result (List A) What) (raws : List A) → few_of all ≡ Ok raws → (all ≡ Ok raws) × (nat_le (length raws) 1024 ≡ true)
  unfolding few_of
  few_ok all raws h =
      let first = followed_ok all (λ xs. provided (nat_le (length xs) 1024) TooMany (Ok xs)) raws h in
      let then = provided_ok (nat_le (length first.0) 1024) TooMany (Ok first.0) raws first.2 in
      let same : first.0 ≡ raws = cc then.1 in
      (first.1 ∙ then.1, ap (λ xs. nat_le (length xs) 1024) (sym same) ∙ then.0)

module _ {A B C : Type 0} (all : Result (List A) What) (one : A → Result B What) (next : List B → Result C What) where
  pub few_went : (raws : List A) (made : List B) (answer : Result C What) → few_of all ≡ Ok raws → each one raws ≡ Ok made → next made ≡ answer → followed all (λ raws. followed (few one raws) next) ≡ answer
  few_went raws made answer are each_is is =
      let ok = few_ok all raws are in
      went _ _ _ _ ok.0 (went _ _ _ _ (held _ _ _ _ ok.1 each_is) is)

  pub few_went_on : (raws : List A) (error : StateErr) → few_of all ≡ Ok raws → Gives {A = List B} (Err error) (each one raws) → Gives {A = C} (Err error) (followed all (λ raws. followed (few one raws) next))
  few_went_on raws error are stops =
      let ok = few_ok all raws are in
      went_on _ _ _ _ ok.0 (stopped _ _ _ (held_err _ _ _ _ ok.1 stops))

few_refused : {A B C : Type 0} (all : Result (List A) What) (one : A → Result B What) (next : List B → Result C What) (what : What) → few_of all ≡ Err what → followed all (λ raws. followed (few one raws) next) ≡ Err what
unfolding few_of followed provided
few_refused (Err w) one next what h = cc h
few_refused (Ok raws) one next what h = refused_by (nat_le (length raws) 1024) h where
  refused_by : (test : Bool) → provided test TooMany (Ok raws) ≡ Err what → followed (provided test TooMany (each one raws)) next ≡ Err what
  refused_by true h = absurd (cc h)
  refused_by false h = cc h

pub few_stopped : {A B C : Type 0} (all : Result (List A) What) (one : A → Result B What) (next : List B → Result C What) (error : StateErr) → Gives {A = List A} (Err error) (few_of all) → Gives {A = C} (Err error) (followed all (λ raws. followed (few one raws) next))
few_stopped all one next (Malformed what) h = few_refused all one next what h
few_stopped all one next NoMemory h = tt
