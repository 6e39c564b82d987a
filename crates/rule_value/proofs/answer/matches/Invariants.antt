use Rattle.std.proofs.Common.{◌≡◌, List, [], ◌≤◌, drop, true}
use Rattle.rule_value.specs.Values.{Event, Value}
use Rattle.rule_value.specs.Codes.{fits, are_utf8, after_steps}
use Rattle.rule_value.specs.Stacks.{stacked}
use Rattle.rule_value.specs.Standing.{IsEvent, Are, AreReadable}
use Rattle.rule_value.proofs.answer.matches.Given as goal

abbrev pub invariant-loop-op : goal.invariant-loop-op
invariant-loop-op l = record {
  readable : AreReadable l.event (stacked l.stack);
  most : l.stack.height ≤ 132;
  fits : fits l.stack.height (drop l.op-index l.expr.ops.items) ≡ true;
  utf8 : are_utf8 (drop l.op-index l.expr.ops.items) ≡ true;
  values : (shown : Event) → IsEvent l.event shown → (meant : List Value) × Are l.event (stacked l.stack) meant × (after_steps shown (drop l.op-index l.expr.ops.items) meant ≡ after_steps shown l.expr.ops.items []);
}
