-- What a reader gives: a value, or why the request is malformed; want of memory says nothing.
use Rattle.std.specs.Prelude.{◌≡◌, Bool, true, false, List, [], ◌∷◌, Result, Ok, Err}
use Rattle.state_api.specs.declared.what.What.{What}
use Rattle.state_api.specs.declared.what.StateErr.{StateErr}
use Rattle.state_api.specs.declared.what.StateErr.TheVariants.{Malformed, NoMemory}

-- a fact of what was given
abbrev pub Tells : {A : Type 0} → Result A StateErr → (Result A What → Type 0) → Type 0
Tells (Ok a) fact = fact (Ok a)
Tells (Err (Malformed what)) fact = fact (Err what)
Tells (Err NoMemory) fact = Unit {0}

-- it is what is wanted
abbrev pub Gives : {A : Type 0} → Result A StateErr → Result A What → Type 0
Gives result wanted = Tells result (λ given. wanted ≡ given)

-- what follows a value; a fault stays
unfoldable pub followed : {A B : Type 0} → Result A What → (A → Result B What) → Result B What
followed (Ok a) next = next a
followed (Err what) next = Err what

-- where the test holds, and otherwise this fault
unfoldable pub provided : {A : Type 0} → Bool → What → Result A What → Result A What
provided true what answer = answer
provided false what answer = Err what

-- all of a list in order, or the fault of the first that has one
unfoldable pub each : {A B : Type 0} → (A → Result B What) → List A → Result (List B) What
each one [] = Ok []
each one (x ∷ xs) = followed (one x) (λ y. followed (each one xs) (λ ys. Ok (y ∷ ys)))
