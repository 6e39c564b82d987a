-- One result after the other.
use Rattle.std.proofs.Common.{◌≡◌, ◌<◌, ◌≤◌, ℕ, nat_le, arith, Bool, true, false, List, [], ◌∷◌, ◌++◌, append-nil, append_assoc, refl, sym, ap, subst, ◌∙◌}
use Rattle.std.specs.Prelude.{Result, Ok, Err, All}
use Rattle.std.proofs.lemmas.Bool.Decides.{nat_tests}
use Rattle.std.proofs.lemmas.List.Elements.{All-cons}
use Rattle.state_api.specs.declared.what.What.{What}
use Rattle.state_api.specs.declared.what.StateErr.{StateErr}
use Rattle.state_api.specs.declared.what.StateErr.TheVariants.{Malformed, NoMemory}
use Rattle.state_api.specs.Given.{Gives, followed, provided, each}

module _ {A B : Type 0} where
  pub went : (first : Result A What) (next : A → Result B What) (a : A) (r : Result B What) → first ≡ Ok a → next a ≡ r → followed first next ≡ r
  unfolding followed
  went first next a r e h = ap (λ x. followed x next) e ∙ h

  pub went_on : (first : Result A What) (next : A → Result B What) (a : A) (error : StateErr) → first ≡ Ok a → Gives {A = B} (Err error) (next a) → Gives {A = B} (Err error) (followed first next)
  unfolding followed
  went_on first next a error e h = subst (λ r. Gives {A = B} (Err error) (followed r next)) (sym e) h

  pub stopped : (first : Result A What) (next : A → Result B What) (error : StateErr) → Gives {A = A} (Err error) first → Gives {A = B} (Err error) (followed first next)
  unfolding followed
  stopped first next (Malformed what) h = ap (λ r. followed r next) h
  stopped first next NoMemory h = tt

module _ {A : Type 0} where
  pub held : (test : Bool) (what : What) (answer r : Result A What) → test ≡ true → answer ≡ r → provided test what answer ≡ r
  unfolding provided
  held test what answer r e h = ap (λ b. provided b what answer) e ∙ h

  pub held_on : (test : Bool) (what : What) (answer : Result A What) (result : Result A StateErr) → test ≡ true → Gives result answer → Gives result (provided test what answer)
  unfolding provided
  held_on test what answer result e h = subst (λ b. Gives result (provided b what answer)) (sym e) h

  pub held_err : (test : Bool) (what : What) (answer : Result A What) (error : StateErr) → test ≡ true → Gives {A = A} (Err error) answer → Gives {A = A} (Err error) (provided test what answer)
  unfolding provided
  held_err test what answer error e h = subst (λ b. Gives {A = A} (Err error) (provided b what answer)) (sym e) h

  pub failed : (test : Bool) (what : What) (answer : Result A What) → test ≡ false → provided test what answer ≡ Err what
  unfolding provided
  failed test what answer e = ap (λ b. provided b what answer) e

-- ---- lists

-- what was gathered, and then the rest
abbrev pub joined : {B : Type 0} → List B → Result (List B) What → Result (List B) What
joined done rest = followed rest (λ ys. Ok (done ++ ys))

pub joined_start : {B : Type 0} (rest : Result (List B) What) → joined [] rest ≡ rest
unfolding followed
joined_start (Ok ys) = refl
joined_start (Err what) = refl

module _ {A B : Type 0} (one : A → Result B What) where
  pub joined_end : (done : List B) → joined done (each one []) ≡ Ok done
  unfolding followed each
  joined_end done = ap Ok (append-nil done)

  both : (done : List B) (y : B) (rest : Result (List B) What) → joined done (followed rest (λ ys. Ok (y ∷ ys))) ≡ joined (done ++ y ∷ []) rest
  unfolding followed
  both done y (Ok ys) = ap Ok (sym (append_assoc done (y ∷ []) ys))
  both done y (Err what) = refl

  pub joined_next : (done : List B) (x : A) (xs : List A) (y : B) → one x ≡ Ok y → joined done (each one (x ∷ xs)) ≡ joined (done ++ y ∷ []) (each one xs)
  unfolding followed each
  joined_next done x xs y e = ap (λ r. joined done (followed r (λ y. followed (each one xs) (λ ys. Ok (y ∷ ys))))) e ∙ both done y (each one xs)

  pub joined_stop : (done : List B) (x : A) (xs : List A) (error : StateErr) → Gives {A = B} (Err error) (one x) → Gives {A = List B} (Err error) (joined done (each one (x ∷ xs)))
  unfolding followed each
  joined_stop done x xs (Malformed what) e = ap (λ r. joined done (followed r (λ y. followed (each one xs) (λ ys. Ok (y ∷ ys))))) e
  joined_stop done x xs NoMemory e = tt

-- ---- small facts

pub in_ok : {A : Type 0} (a b : A) → ◌≡◌ {A = Result A What} (Ok a) (Ok b) → a ≡ b
in_ok a b e = cc

-- a fault where none can be
pub of_ok : {A B : Type 0} (a : A) (error : StateErr) (wanted : Result B What) → Gives {A = A} (Err error) (Ok a) → Gives {A = B} (Err error) wanted
of_ok a (Malformed what) wanted h = absurd (let bad : ⊥ = cc in bad)
of_ok a NoMemory wanted h = tt

pub few_more : (n : ℕ) → 1024 < n → nat_le n 1024 ≡ false
few_more n h = grind (arith, nat_tests)

pub few_enough : (n : ℕ) → n ≤ 1024 → nat_le n 1024 ≡ true
few_enough n h = grind (arith, nat_tests)

pub all_none : {A : Type 0} (P : A → Type 0) → All P []
all_none P = λ k d below. absurd (omega (arith, below))

pub all_one : {A : Type 0} (P : A → Type 0) (x : A) → P x → All P (x ∷ [])
all_one P x h = All-cons P x [] h (all_none P)
