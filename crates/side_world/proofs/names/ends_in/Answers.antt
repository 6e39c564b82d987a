use Rattle.std.proofs.lemmas.Bool.Decides.{Decides-eqb}
use Rattle.std.proofs.lemmas.Slice.Eq.{ends_is}
use Rattle.side_world.proofs.names.ends_in.Goals as goal

pub returns : goal.returns
returns c =
    let is = ends_is Decides-eqb c.args.name.now c.args.ending.now c.ends_with.result c.ends_with.ensures.value in
    (λ yes. (_, is.0 yes), λ front. is.1 front.0 front.1)
