use Rattle.std.proofs.Common.{Some, sym, ap, ◌∙◌}
use Rattle.std.specs.Prelude.{option_map}
use Rattle.std.specs.Option.{option_copied}
use Rattle.keeper_core.specs.Rows.{row_at}
use Rattle.keeper_core.specs.Table.{row_of}
use Rattle.keeper_core.proofs.row_table.RowTable.find.Goals as goal

pub returns-in-Some : goal.returns-in-Some
returns-in-Some c =
    ap (λ value. Some (record { value = value; version = c.in-Some.row.now.version; until = c.in-Some.row.now.until })) c.bytes.ensures
    ∙ sym (ap (λ lent. option_map row_of (option_copied lent)) c.in-Some.is)
    ∙ c.get.ensures
    ∙ ap (λ table. row_at table.rows c.args.key.now) c.self.view_is

pub returns-in-None : goal.returns-in-None
returns-in-None c =
    sym (ap (λ lent. option_map row_of (option_copied lent)) c.in-None.is)
    ∙ c.get.ensures
    ∙ ap (λ table. row_at table.rows c.args.key.now) c.self.view_is
