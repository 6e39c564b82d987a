-- What a guard without a breaker does: nothing.
use Rattle.std.specs.Prelude.{◌≡◌, List, [], ◌++◌}
use Rattle.std.proofs.Common.{ap, ◌∙◌}

-- nothing, and then nothing, is nothing
pub nothing_more : {A X : Type 0} (a b c : A) (xs ys : List X) → xs ≡ [] → ys ≡ [] → xs ++ ys ≡ []
nothing_more a b c xs ys none-first none-then = ap (λ l. l ++ ys) none-first ∙ none-then
