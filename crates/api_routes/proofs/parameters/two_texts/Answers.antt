use Rattle.std.proofs.Common.{◌∷◌, refl}
use Rattle.api_routes.proofs.Decoding.{broken-first, broken-last}
use Rattle.api_routes.proofs.parameters.two_texts.Goals as goal

pub returns-in-Ok-text_of : goal.returns-in-Ok-text_of
returns-in-Ok-text_of c first last others stands =
    let found = c.parameter_of-first.ensures (first ∷ last ∷ others) (last ∷ others) first stands refl in
    let next = c.parameter_of-last.ensures (first ∷ last ∷ others) others last stands refl in
    let one = c.in-Ok.ensures first found.0 found.1 in
    let two = c.in-Ok-text_of.ensures last next.0 next.1 in
    (one.0, one.1, two.0, two.1)

pub returns-in-Err-text_of : goal.returns-in-Err-text_of
returns-in-Err-text_of c first last others stands =
    let found = c.parameter_of-first.ensures (first ∷ last ∷ others) (last ∷ others) first stands refl in
    let next = c.parameter_of-last.ensures (first ∷ last ∷ others) others last stands refl in
    let one = c.in-Ok.ensures first found.0 found.1 in
    broken-last first last c.in-Err-text_of.why one.1 (c.in-Err-text_of.ensures last next.0 next.1)

pub returns-in-Err : goal.returns-in-Err
returns-in-Err c first last others stands =
    let found = c.parameter_of-first.ensures (first ∷ last ∷ others) (last ∷ others) first stands refl in
    broken-first first last c.in-Err.why (c.in-Err.ensures first found.0 found.1)
