-- Putting a value on others, and taking it off.
use Rattle.std.proofs.Common.{◌≡◌, ◌∙◌, ap, ℕ, ◌+◌, ◌<◌, List, [], ◌∷◌, length, take, set, get_or, reverse}
use Rattle.std.proofs.lemmas.List.{take_more, take_more_set, reverse-append}

pub pushed : {X : Type 0} (values : List X) (height : ℕ) (value : X) → height < length values → reverse (take (height + 1) (set values height value)) ≡ value ∷ reverse (take height values)
pushed values height value within = ap reverse (take_more_set values height value within) ∙ reverse-append (take height values) (value ∷ [])

pub popped : {X : Type 0} (values : List X) (height below : ℕ) (some : X) → height ≡ below + 1 → below < length values → reverse (take height values) ≡ get_or values below some ∷ reverse (take below values)
popped values height below some is within = ap (λ n. reverse (take n values)) is ∙ ap reverse (take_more values below some within) ∙ reverse-append (take below values) (get_or values below some ∷ [])
