use Rattle.std.proofs.Common.{sym, ap, ◌∙◌}
use Rattle.std.specs.Prelude.{option_map}
use Rattle.keeper_core.specs.Rows.{row_at}
use Rattle.keeper_core.specs.Table.{row_of}
use Rattle.keeper_core.proofs.Hashed.{get-rows_of}
use Rattle.keeper_core.proofs.hashed_rows.HashedRows.get.Goals as goal

pub returns : goal.returns
returns c =
    ap (option_map row_of) c.get.ensures.value
    ∙ sym (get-rows_of c.self.inside.map.entries c.args.key.now)
    ∙ ap (λ table. row_at table.rows c.args.key.now) c.self.view_is
