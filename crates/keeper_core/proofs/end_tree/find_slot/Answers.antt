use Rattle.std.proofs.Common.{refl, sym, ◌∙◌}
use Rattle.std.proofs.lemmas.Bool.Decides.{Decides-eqb}
use Rattle.std.proofs.lemmas.Option.{slice_get_read}
use Rattle.std.proofs.lemmas.Slice.Eq.{slice_eq-Decides}
use Rattle.keeper_core.proofs.EndTable.{hinted}
use Rattle.keeper_core.proofs.end_tree.find_slot.Goals as goal

pub returns-in-Some : goal.returns-in-Some
returns-in-Some c =
    let look = c.in-Some.ensures.lookup in
    let there = slice_get_read c.args.keys.now _ c.args.hint c.in-Some.other.now refl look.3.0 look.1 in
    let same = (slice_eq-Decides Decides-eqb c.as_slice.result.now c.args.key.now c.eq.result c.eq.ensures).0 c.if-eq.true in
    hinted c.args.keys.now c.args.links.now c.args.root c.args.hint c.args.key.now c.in-Some.other.now c.requires there (sym c.as_slice.ensures.value ∙ same)
