use Rattle.std.proofs.Common.{◌≡◌, ◌+◌, ◌*◌, ◌^◌, ◌≤◌, take}
use Rattle.keeper_journal.specs.Body.{body_len}
use Rattle.keeper_journal.proofs.encoding.body_len.Given as goal

abbrev pub invariant-loop-change : goal.invariant-loop-change
invariant-loop-change l = record {
  len_is : l.len ≡ body_len (take l.change-index l.list);
  few : l.len ≤ 12 + l.change-index * (2 ^ 64 + 25);
}
