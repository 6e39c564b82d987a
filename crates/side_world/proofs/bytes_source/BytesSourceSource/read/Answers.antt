use Rattle.std.proofs.Common.{ap, sym, ◌∙◌, ◌++◌, take, drop, refl, arith, Some}
use Rattle.side_world.specs.BytesSource.{BytesState}
use Rattle.side_world.proofs.Pieces.{lent_is_piece}
use Rattle.side_world.proofs.bytes_source.BytesSourceSource.read.Goals as goal

pub returns-clause-took : goal.returns-clause-took
returns-clause-took c = (
  _,
  sym (ap (λ s. s.left) c.self.view_is)
      ∙ (lent_is_piece c.self.inside.at c.min-n.result c.self.inside.bytes c.bytes.result.now _ _ c.bytes.ensures (omega arith) c.copy_from_slice.ensures.after).0,
  refl,
)

pub returns-clause-taken : goal.returns-clause-taken
returns-clause-taken c =
    let copied = c.copy_from_slice.new.self in
    let behind = drop c.min-n.result c.args.into.now in
    let more = (lent_is_piece c.self.inside.at c.min-n.result c.self.inside.bytes c.bytes.result.now copied behind c.bytes.ensures (omega arith) c.copy_from_slice.ensures.after).1 in
    ap Some (more ∙ ap (λ (s : BytesState). s.taken ++ take c.min-n.result (copied ++ behind)) c.self.view_is)
