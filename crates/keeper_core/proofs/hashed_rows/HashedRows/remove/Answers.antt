use Rattle.std.proofs.Common.{refl, sym, ap, ◌∙◌}
use Rattle.std.specs.Prelude.{option_map}
use Rattle.std.specs.FinMap.{remove}
use Rattle.keeper_core.specs.Growth.{found_bytes, bytes_at}
use Rattle.keeper_core.specs.Table.{row_of}
use Rattle.keeper_core.proofs.Hashed.{get-rows_of, rows_of-without}
use Rattle.keeper_core.proofs.hashed_rows.HashedRows.remove.Goals as goal

pub returns-clause-rows : goal.returns-clause-rows
returns-clause-rows c =
    rows_of-without _ _ c.args.key.now c.remove-old.ensures.updates.1 c.remove-old.ensures.updates.3
    ∙ ap (λ table. remove table.rows c.args.key.now) c.self.view_is

pub returns-clause-took : goal.returns-clause-took
returns-clause-took c =
    c.found_bytes.ensures c.args.key.now refl
    ∙ ap (λ old. found_bytes c.args.key.now (option_map row_of old)) c.remove-old.ensures.value
    ∙ ap (found_bytes c.args.key.now) (sym (get-rows_of c.self.inside.map.entries c.args.key.now))
    ∙ ap (λ table. bytes_at table.rows c.args.key.now) c.self.view_is
