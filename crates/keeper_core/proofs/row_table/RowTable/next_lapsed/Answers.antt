use Rattle.std.proofs.Common.{Bor, ap, ◌∙◌}
use Rattle.std.specs.Prelude.{option_map}
use Rattle.std.specs.List.{filter, slice_get}
use Rattle.keeper_core.specs.Rows.{next_lapsed, is_behind}
use Rattle.keeper_core.proofs.Ends.{lapsed_ends}
use Rattle.keeper_core.proofs.Sorted.{Key}
use Rattle.keeper_core.proofs.row_table.RowTable.next_lapsed.Goals as goal

pub returns : goal.returns
returns c =
    let after = option_map (λ (key : Bor Key). key.now) c.args.after in
    c.next_lapsed.ensures
    ∙ ap (λ keys. slice_get (filter (is_behind after) keys) 0) (lapsed_ends _ _ c.args.moment c.self.invariant)
    ∙ ap (λ table. next_lapsed table.rows after c.args.moment) c.self.view_is
