use Rattle.std.proofs.Common.{◌≡◌, ◌≤◌, ◌*◌, ◌^◌, map, take}
use Rattle.state_core.specs.Reply.{bulk_len, bulk_row}
use Rattle.state_core.proofs.reading.bulk.Given as goal

abbrev pub invariant-loop-place : goal.invariant-loop-place
invariant-loop-place g l = record {
  so_far : l.len ≡ bulk_len (g.K.Keeper.rows l.keeper) l.moment (take l.place l.keys);
  few : l.len ≤ l.place * 2 ^ 64;
  copied : l.len ≤ 67108864 → l.rows ≡ map (bulk_row (g.K.Keeper.rows l.keeper) l.moment) (take l.place l.keys);
}
