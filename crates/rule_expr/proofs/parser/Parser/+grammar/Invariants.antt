use Rattle.std.proofs.Common.{◌≡◌, ◌≤◌, ◌+◌, ◌*◌, ℕ, List, ◌++◌, replicate, length}
use Rattle.rule_value.specs.declared.op.Op.{Op}
use Rattle.rule_value.specs.declared.op.Op.TheVariants as ops
use Rattle.rule_value.specs.declared.part.Part.TheVariants as parts
use Rattle.rule_value.specs.Trees
use Rattle.rule_value.specs.Trees.{mark}
use Rattle.rule_expr.specs.Reading.{Reads, Passes}
use Rattle.rule_expr.specs.Walking.{Went, WentItems, WalksAtom, WalksBangs, WalksOperand, IsRelationOver, IsAndOver, IsOrOver}
use Rattle.rule_expr.proofs.parser.Parser.+grammar.Given as goal

abbrev pub decreases-either : goal.decreases-either
decreases-either l = 16 * l.room + 8

abbrev pub decreases-both : goal.decreases-both
decreases-both l = 16 * l.room + 7

abbrev pub decreases-relation : goal.decreases-relation
decreases-relation l = 16 * l.room + 6

abbrev pub decreases-unary : goal.decreases-unary
decreases-unary l = 16 * l.room + 5

abbrev pub decreases-post : goal.decreases-post
decreases-post l = 16 * l.room + 4

abbrev pub decreases-atom : goal.decreases-atom
decreases-atom l = 16 * l.room + 3

abbrev pub decreases-named : goal.decreases-named
decreases-named l = 16 * l.room + 2

abbrev pub decreases-list : goal.decreases-list
decreases-list l = 16 * l.room + 3

abbrev pub decreases-items : goal.decreases-items
decreases-items l = 16 * l.room + 9

abbrev pub decreases-round : goal.decreases-round
decreases-round l = 16 * l.room + 1

abbrev pub invariant-either-loop-self : goal.invariant-either-loop-self
invariant-either-loop-self l = record {
  read : Reads Trees.or l.room l.fn.self.rest.now l.self.rest.now l.fn.self.ops.items l.self.ops.items;
  walk : Went IsAndOver l.room l.fn.self.rest.now l.self.rest.now;
}

abbrev pub decreases-either-loop-self : goal.decreases-either-loop-self
decreases-either-loop-self l = length l.self.rest.now

abbrev pub invariant-both-loop-self : goal.invariant-both-loop-self
invariant-both-loop-self l = record {
  read : Reads Trees.and l.room l.fn.self.rest.now l.self.rest.now l.fn.self.ops.items l.self.ops.items;
  walk : Went IsRelationOver l.room l.fn.self.rest.now l.self.rest.now;
}

abbrev pub decreases-both-loop-self : goal.decreases-both-loop-self
decreases-both-loop-self l = length l.self.rest.now

abbrev pub invariant-items-loop-self : goal.invariant-items-loop-self
invariant-items-loop-self l = record {
  read : Reads Trees.items l.room l.fn.self.rest.now l.self.rest.now l.fn.self.ops.items l.self.ops.items;
  walk : WentItems IsOrOver l.room l.fn.self.rest.now l.self.rest.now;
}

abbrev pub decreases-items-loop-self : goal.decreases-items-loop-self
decreases-items-loop-self l = length l.self.rest.now

abbrev pub invariant-post-loop-self : goal.invariant-post-loop-self
invariant-post-loop-self l = record {
  read : Reads Trees.post l.room l.fn.self.rest.now l.self.rest.now l.fn.self.ops.items l.self.ops.items;
  walk : WalksAtom l.room l.fn.self.rest.now l.self.rest.now;
}

abbrev pub decreases-post-loop-self : goal.decreases-post-loop-self
decreases-post-loop-self l = length l.self.rest.now

abbrev pub invariant-unary-loop-self : goal.invariant-unary-loop-self
invariant-unary-loop-self l = record {
  passes : Passes (replicate l.count (mark parts.Bang)) l.fn.self.rest.now l.self.rest.now;
  ops : l.self.ops.items ≡ l.fn.self.ops.items;
  few : l.count + length l.self.rest.now ≤ length l.fn.self.rest.now;
  walk : WalksBangs l.room l.fn.self.rest.now l.self.rest.now;
}

abbrev pub decreases-unary-loop-self : goal.decreases-unary-loop-self
decreases-unary-loop-self l = length l.self.rest.now

abbrev pub invariant-unary-loop : goal.invariant-unary-loop
invariant-unary-loop l = record {
  middle : List ℕ;
  begun : List Op;
  passes : Passes (replicate l.count (mark parts.Bang)) l.fn.self.rest.now middle;
  read : Reads Trees.post l.room middle l.self.rest.now l.fn.self.ops.items begun;
  steps : l.self.ops.items ≡ begun ++ replicate l.counter ops.Not;
  walk : WalksOperand l.room l.fn.self.rest.now l.self.rest.now;
}
