use Rattle.std.proofs.Common.{[], ◌∷◌, ◌∙◌, refl, arith}
use Rattle.api_routes.specs.Parameters.{parts_of}
use Rattle.api_routes.proofs.Cuts.{target-rest}
use Rattle.api_routes.proofs.Cutting.{cuts-within}
use Rattle.api_routes.proofs.parameters.invocation.Goals as goal

pub slice_bounds-from_bytes-count : goal.slice_bounds-from_bytes-count
slice_bounds-from_bytes-count c =
    let has = c.requires.last in
    let same = c.parameter_of-last.ensures has.parameters has.others has.parameter has.cuts has.is in
    omega (arith, same.0, cuts-within 0 (parts_of c.args.kind) c.args.path.now 1 has.parameters has.others has.parameter has.cuts has.is, c.requires.within)

pub slice_bounds-from_bytes-start : goal.slice_bounds-from_bytes-start
slice_bounds-from_bytes-start c = slice_bounds-from_bytes-count c

pub returns-in-Ok-from_bytes : goal.returns-in-Ok-from_bytes
returns-in-Ok-from_bytes c first last stands =
    let found = c.parameter_of-first.ensures (first ∷ last ∷ []) (last ∷ []) first stands refl in
    let next = c.parameter_of-last.ensures (first ∷ last ∷ []) [] last stands refl in
    let one = c.in-Ok.ensures first found.0 found.1 in
    (one.0, one.1, c.in-Ok-from_bytes.ensures ∙ target-rest c.args.target.now _ last.at next.0)

pub returns-in-Err : goal.returns-in-Err
returns-in-Err c first last stands =
    let found = c.parameter_of-first.ensures (first ∷ last ∷ []) (last ∷ []) first stands refl in
    c.in-Err.ensures first found.0 found.1
