use Rattle.std.proofs.Common.{[], ◌∷◌, refl}
use Rattle.api_routes.proofs.Decoding.{three-texts, third-broken, two-broken}
use Rattle.api_routes.proofs.parameters.three_texts.Goals as goal

pub returns-in-Ok-text_of : goal.returns-in-Ok-text_of
returns-in-Ok-text_of c first next last stands =
    let found = c.parameter_of.ensures (first ∷ next ∷ last ∷ []) [] last stands refl in
    three-texts first next last (c.in-Ok.first, c.in-Ok.next) c.in-Ok-text_of.last (c.in-Ok.ensures first next (last ∷ []) stands) (c.in-Ok-text_of.ensures last found.0 found.1)

pub returns-in-Err-text_of : goal.returns-in-Err-text_of
returns-in-Err-text_of c first next last stands =
    let found = c.parameter_of.ensures (first ∷ next ∷ last ∷ []) [] last stands refl in
    third-broken first next last (c.in-Ok.first, c.in-Ok.next) c.in-Err-text_of.why (c.in-Ok.ensures first next (last ∷ []) stands) (c.in-Err-text_of.ensures last found.0 found.1)

pub returns-in-Err : goal.returns-in-Err
returns-in-Err c first next last stands = two-broken first next last c.in-Err.why (c.in-Err.ensures first next (last ∷ []) stands)
