-- What a reader gives: a value, or why the request is malformed; want of memory says nothing.
use Rattle.std.specs.Prelude.{◌≡◌, ℕ, Bool, true, false, List, Result, Ok, Err}
use Rattle.std.specs.Borrow.{Bor}
use Rattle.bind_api.specs.declared.malformed.Wrong.{Wrong}
use Rattle.bind_api.specs.declared.malformed.AskErr.{AskErr}
use Rattle.bind_api.specs.declared.malformed.AskErr.TheVariants.{Malformed, NoMemory}

-- a fact of what was given
abbrev pub Tells : {A : Type 0} → Result A AskErr → (Result A Wrong → Type 0) → Type 0
Tells (Ok a) fact = fact (Ok a)
Tells (Err (Malformed what)) fact = fact (Err what)
Tells (Err NoMemory) fact = Unit {0}

-- it is what is wanted
abbrev pub Gives : {A : Type 0} → Result A AskErr → Result A Wrong → Type 0
Gives result wanted = Tells result (λ given. wanted ≡ given)

-- what lies in a body is what is wanted, as `show` tells it
abbrev pub Says : {A B : Type 0} → (A → B) → Result A Wrong → Result B Wrong → Type 0
Says show (Ok a) wanted = wanted ≡ Ok (show a)
Says show (Err what) wanted = wanted ≡ Err what

-- the bytes that are borrowed
abbrev pub shown : Bor (List ℕ) → List ℕ
shown bytes = bytes.now

-- what follows a value; a fault stays
unfoldable pub followed : {A B : Type 0} → Result A Wrong → (A → Result B Wrong) → Result B Wrong
followed (Ok a) next = next a
followed (Err what) next = Err what

-- where the test holds, and otherwise this fault
unfoldable pub provided : {A : Type 0} → Bool → Wrong → Result A Wrong → Result A Wrong
provided true what answer = answer
provided false what answer = Err what
