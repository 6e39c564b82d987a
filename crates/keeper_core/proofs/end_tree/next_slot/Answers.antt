use Rattle.std.proofs.Common.{◌∙◌, sym, ap}
use Rattle.std.specs.Prelude.{option_map, slice_get}
use Rattle.std.specs.List.{filter}
use Rattle.keeper_core.specs.Rows.{lapsed_in, is_behind}
use Rattle.keeper_core.specs.EndTable.{ends_in}
use Rattle.keeper_core.proofs.Ending.{behind_none}
use Rattle.keeper_core.proofs.end_tree.next_slot.Goals as goal

pub returns-in-Some-clause-lapsed : goal.returns-in-Some-clause-lapsed
returns-in-Some-clause-lapsed c =
    let lapsed = lapsed_in c.args.moment (ends_in c.args.keys.now c.args.links.now c.args.root) in
    c.next_lapsed.ensures.lapsed _ c.requires.holds c.requires.sorted
    ∙ ap (λ after. slice_get (filter (is_behind (option_map (λ key. key.now) after)) lapsed) 0) (sym c.in-Some.is)

pub returns-in-None-clause-lapsed : goal.returns-in-None-clause-lapsed
returns-in-None-clause-lapsed c =
    let lapsed = lapsed_in c.args.moment (ends_in c.args.keys.now c.args.links.now c.args.root) in
    c.first_lapsed.ensures.lapsed _ c.args.keys.now c.requires.holds
    ∙ ap (λ keys. slice_get keys 0) (sym (behind_none lapsed))
    ∙ ap (λ after. slice_get (filter (is_behind (option_map (λ key. key.now) after)) lapsed) 0) (sym c.in-None.is)
