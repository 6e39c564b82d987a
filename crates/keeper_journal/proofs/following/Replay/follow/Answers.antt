use Rattle.std.proofs.Common.{rules, sym, subst}
use Rattle.keeper_core.specs.Rows.{IsCounted}
use Rattle.keeper_core.specs.Changes.{VersionsAreBelow}
use Rattle.keeper_journal.specs.History.{MayFollow}
use Rattle.keeper_journal.proofs.following.Replay.follow.Goals as goal

pub invariant_of-self : goal.invariant_of-self
invariant_of-self c = record { counted = subst (λ rows. IsCounted rows c.args.self.now.next) (sym c.prepare.ensures.rows) c.args.self.now.counted }

pub invariant_of-self-2 : goal.invariant_of-self-2
invariant_of-self-2 c =
    let may : MayFollow c.args.self.now.next c.in-Ok.commit = search rules in
    record {
      counted = c.apply.ensures.counted c.args.self.now.next c.in-Ok.commit.next (subst (λ rows. IsCounted rows c.args.self.now.next) (sym c.prepare.ensures.rows) c.args.self.now.counted) may.grows may.most
          (subst (VersionsAreBelow c.in-Ok.commit.next) (sym c.in-Ok-prepare.ensures.prepared) may.below);
    }
