-- What is known of what a thing of the outside tells: the bytes of a source or a sink, the calls and answers of what is called.
-- It may tell them (`Some`) or not (`None`).
use Rattle.std.specs.Prelude.{◌≡◌, ◌↔◌, ◌≤◌, ℕ, List, [], ◌++◌, length, take, Option, Some, None}

-- where it is told what is held, these are the items that were added at its end
abbrev pub Told : {X : Type 0} → Option (List X) → Option (List X) → List X → Type 0
Told None after added = after ≡ None
Told (Some held) after added = after ≡ Some (held ++ added)

-- the same for some prefix of what was to be added
abbrev pub SentSome : {X : Type 0} → Option (List X) → Option (List X) → List X → Type 0
SentSome before after items = (k : ℕ) × (k ≤ length items) × Told before after (take k items)

-- where it is told what is left, these are the items that were taken off its front
abbrev pub Took : {X : Type 0} → Option (List X) → Option (List X) → List X → Type 0
Took None after taken = after ≡ None
Took {X} (Some left) after taken = (rest : List X) × (left ≡ taken ++ rest) × (after ≡ Some rest)

-- backwards: where a list is told afterwards, it was told before, and these were added at its end. What keeps such a list may
-- stop telling it at any call, as for want of room
abbrev pub Tells : {X : Type 0} → Option (List X) → Option (List X) → List X → Type 0
Tells {X} before after added = (all : List X) → after ≡ Some all → (held : List X) × (before ≡ Some held) × (all ≡ held ++ added)

-- a read of no bytes: where it is told what is left, it comes exactly where that is nothing
abbrev pub EndsWhereTold : Option (List ℕ) → ℕ → Type 0
EndsWhereTold None n = Unit {0}
EndsWhereTold (Some left) n = (n ≡ 0) ↔ (left ≡ [])

-- nothing is left, where it is told
abbrev pub IsDrained : Option (List ℕ) → Type 0
IsDrained None = Unit {0}
IsDrained (Some left) = left ≡ []

-- nothing was added yet, where it is told
abbrev pub IsFresh : {X : Type 0} → Option (List X) → Type 0
IsFresh None = Unit {0}
IsFresh (Some held) = held ≡ []
