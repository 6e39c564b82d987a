use Rattle.std.proofs.Common.{◌≡◌, ◌+◌, length, refl, sym, ap, ◌∙◌, subst, arith}
use Rattle.std.proofs.lemmas.List.Elements.{All-rest}
use Rattle.keeper_core.specs.Rows.{bytes_in, IsCounted}
use Rattle.keeper_core.specs.Changes.{after_changes}
use Rattle.keeper_core.specs.Growth.{bytes_after, bytes_put}
use Rattle.keeper_core.specs.Prepared.{change_of, changes_of, IsReady}
use Rattle.keeper_core.proofs.Counted.{counted-after_changes}
use Rattle.keeper_core.proofs.Overlay.{bytes_in-after_change}
use Rattle.keeper_core.proofs.row_table.RowTable.apply.Goals as goal

pub loop-step-preserved : goal.loop-step-preserved
loop-step-preserved c =
    let put : bytes_put (changes_of c.loop-step.steps) ≡ bytes_after (change_of c.in-Some.step) + bytes_put (changes_of c.take_first.new.self) = ap (λ steps. bytes_put (changes_of steps)) c.in-Some.ensures.first in
    let one = bytes_in-after_change c.loop-step.self.rows (change_of c.in-Some.step) in
    record {
      rows = ap (λ rows. after_changes rows (changes_of c.take_first.new.self)) c.make.ensures.rows
          ∙ ap (λ steps. after_changes c.loop-step.self.rows (changes_of steps)) (sym c.in-Some.ensures.first)
          ∙ c.loop-step.invariant.rows;
      ready = All-rest IsReady _ _ _ c.in-Some.ensures.first c.loop-step.invariant.ready;
      room = omega (arith, c.loop-step.invariant.room, c.make.ensures.room, ap length c.in-Some.ensures.first);
      hasher = c.make.ensures.hasher ∙ c.loop-step.invariant.hasher;
      most = omega (arith, c.loop-step.invariant.most, put, one, ap bytes_in c.make.ensures.rows);
      freed = omega (arith, c.loop-step.invariant.most, c.loop-step.invariant.freed, put, one, ap bytes_in c.make.ensures.rows, c.make.ensures.took, c.saturating_add-freed.ensures);
    }

pub returns-clause-freed : goal.returns-clause-freed
returns-clause-freed c =
    let none : bytes_put (changes_of c.loop-step.steps) ≡ 0 = ap (λ steps. bytes_put (changes_of steps)) (c.in_default.ensures.none.0 refl) in
    omega (arith, c.loop-step.invariant.freed, none)

pub returns-clause-counted : goal.returns-clause-counted
returns-clause-counted c = λ next later counted grows most below.
    let changed : c.loop-step.self.rows ≡ after_changes c.args.self.now.rows c.args.prepared =
    ap (λ steps. after_changes c.loop-step.self.rows (changes_of steps)) (sym (c.in_default.ensures.none.0 refl)) ∙ c.loop-step.invariant.rows in
    subst (λ rows. IsCounted rows later) (sym changed) (counted-after_changes next later c.args.self.now.rows c.args.prepared counted grows most below)
