use Rattle.std.proofs.Common.{◌≡◌, ◌^◌, List, ◌++◌, length, take, ap, ◌∙◌, arith}
use Rattle.std.proofs.lemmas.List.{take_all}
use Rattle.std.proofs.lemmas.List.Elements.{All-from_recursion, recursion_from_All}
use Rattle.std.specs.Int.{w32, w64, to_le_bytes}
use Rattle.std.specs.List.{flat_map}
use Rattle.keeper_core.specs.declared.changes.Change.{Change}
use Rattle.keeper_journal.specs.Body.{spelled, HasSpelling}
use Rattle.keeper_journal.proofs.Lengths.{count-below, each_below}
use Rattle.keeper_journal.proofs.encoding.encode.Goals as goal

pub overflow_cast-list : goal.overflow_cast-list
overflow_cast-list c = omega (arith, count-below c.args.list.now)

pub push_change-requires : goal.push_change-requires
push_change-requires c = rw c.change-item.is (All-from_recursion _ c.args.list.now (each_below (2 ^ 32) c.args.list.now (omega arith)) c.loop-change.change-index _ c.loop-change-test.true)

pub returns : goal.returns
returns c =
    let whole : take c.loop-change.change-index c.args.list.now ≡ c.args.list.now = take_all c.loop-change.change-index c.args.list.now c.loop-change-test.false in
    record {
      spelling = c.loop-change.invariant.body_is ∙ ap (λ (l : List Change). to_le_bytes w64 c.args.next ++ (to_le_bytes w32 (length c.args.list.now) ++ flat_map spelled l)) whole;
      next = omega arith;
      count = omega (arith, count-below c.args.list.now);
      each = recursion_from_All HasSpelling c.args.list.now (λ k d lt. c.loop-change.invariant.fits k d (omega arith));
    }
