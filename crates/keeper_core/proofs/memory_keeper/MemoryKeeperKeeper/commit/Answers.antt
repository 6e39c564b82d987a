use Rattle.std.proofs.Common.{◌≡◌, sym, ap, ◌∙◌, subst, arith}
use Rattle.keeper_core.specs.Rows.{bytes_in, IsCounted}
use Rattle.keeper_core.specs.Changes.{after_changes}
use Rattle.keeper_core.specs.Growth.{bytes_put}
use Rattle.keeper_core.proofs.Counted.{counted-after_changes}
use Rattle.keeper_core.proofs.Overlay.{bytes_in-most}
use Rattle.keeper_core.proofs.memory_keeper.MemoryKeeperKeeper.commit.Goals as goal

pub invariant_of-self-2 : goal.invariant_of-self-2
invariant_of-self-2 c =
    let list : c.in-Ok-prepare.prepared ≡ c.args.changes.list = c.in-Ok-prepare.ensures.prepared ∙ c.from_vec.ensures ∙ c.into_vec-list.ensures in
    let table : c.apply-freed.new.self.rows ≡ after_changes c.args.self.now.table.rows c.args.changes.list =
    c.apply-freed.ensures.rows ∙ ap (λ rows. after_changes rows c.in-Ok-prepare.prepared) c.prepare.ensures.rows ∙ ap (after_changes c.args.self.now.table.rows) list in
    let put : c.bytes_put-put.result ≡ bytes_put c.args.changes.list = c.bytes_put-put.ensures.exact ∙ ap bytes_put (c.deref.ensures.value ∙ c.into_vec-list.ensures) in
    record {
      sized = omega (arith, c.from.ensures, c.args.self.now.sized, put, c.bytes_put-put.ensures.limit, c.apply-freed.ensures.freed, ap bytes_in c.prepare.ensures.rows, ap bytes_put list, ap bytes_in table, bytes_in-most c.args.self.now.table.rows c.args.changes.list);
      counted = subst (λ rows. IsCounted rows c.args.changes.next) (sym table) (counted-after_changes _ _ c.args.self.now.table.rows c.args.changes.list c.args.self.now.counted c.requires.grows c.requires.most c.requires.below);
    }
