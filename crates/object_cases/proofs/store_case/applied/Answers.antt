use Rattle.std.proofs.Common.{◌++◌, ◌∷◌, []}
use Rattle.object_cases.proofs.store_case.applied.Goals as goal

pub returns : goal.returns
returns g c =
    let r = c.requires.reached in
    (r.0, r.1 ++ _ ∷ [], (c.apply.ensures.step r.0 r.1 0 r.2 c.requires.taken).1)
