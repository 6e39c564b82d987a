-- What a script does beside its answers: nothing.
use Rattle.std.specs.Prelude.{◌≡◌, List, [], ◌++◌}
use Rattle.std.proofs.Common.{ap, ◌∙◌}

pub nothing_more : {A X : Type 0} (a b c : A) (xs ys : List X) → xs ≡ [] → ys ≡ [] → xs ++ ys ≡ []
nothing_more a b c xs ys none-first none-then = ap (λ l. l ++ ys) none-first ∙ none-then
