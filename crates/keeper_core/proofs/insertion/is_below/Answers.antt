use Rattle.std.proofs.Common.{◌≡◌, refl, sym, ap, ◌∙◌}
use Rattle.std.proofs.lemmas.Option.{slice_get_read}
use Rattle.std.specs.Ordering.{is_lt}
use Rattle.keeper_core.specs.Shapes.{key_at, key_in}
use Rattle.keeper_core.proofs.insertion.is_below.Goals as goal

pub returns : goal.returns
returns c =
    let first : key_at c.args.keys.now c.args.slot ≡ c.as_slice.result.now = ap key_in (slice_get_read _ _ _ c.index-keys-slot.result refl c.requires.slot c.index-keys-slot.is) ∙ sym c.as_slice.ensures.value in
    let second : key_at c.args.keys.now c.args.other ≡ c.as_slice-2.result.now = ap key_in (slice_get_read _ _ _ c.index-keys-other.result refl c.requires.other c.index-keys-other.is) ∙ sym c.as_slice-2.ensures.value in
    rw (first, second) (c.is_lt.ensures ∙ ap is_lt c.cmp.ensures)
