use Rattle.std.proofs.Common.{sym, ap, ◌∙◌}
use Rattle.std.specs.Prelude.{option_map}
use Rattle.std.specs.FinMap.{insert}
use Rattle.keeper_core.specs.Growth.{found_bytes, bytes_at}
use Rattle.keeper_core.specs.Table.{row_of}
use Rattle.keeper_core.proofs.Hashed.{get-rows_of, rows_of-put}
use Rattle.keeper_core.proofs.hashed_rows.HashedRows.insert.Goals as goal

pub returns-clause-rows : goal.returns-clause-rows
returns-clause-rows c =
    rows_of-put _ _ c.args.key.items c.args.row c.in-Ok.ensures.updates.1 c.in-Ok.ensures.updates.3
    ∙ ap (λ table. insert table.rows c.args.key.items (row_of c.args.row)) c.self.view_is

pub returns-clause-took : goal.returns-clause-took
returns-clause-took c =
    c.found_bytes.ensures c.args.key.items (sym (c.len-key_len.ensures ∙ c.args.key.ok.0))
    ∙ ap (λ old. found_bytes c.args.key.items (option_map row_of old)) c.in-Ok.ensures.old
    ∙ ap (found_bytes c.args.key.items) (sym (get-rows_of c.self.inside.map.entries c.args.key.items))
    ∙ ap (λ table. bytes_at table.rows c.args.key.items) c.self.view_is
