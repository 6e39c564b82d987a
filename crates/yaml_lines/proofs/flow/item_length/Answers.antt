use Rattle.std.proofs.Common.{sym, ◌∙◌, arith}
use Rattle.yaml_lines.proofs.Words.{left_on}
use Rattle.yaml_lines.proofs.Items.{len_on, len_stop, len_end}
use Rattle.yaml_lines.proofs.flow.item_length.Goals as goal

pub loop-byte-preserved : goal.loop-byte-preserved
loop-byte-preserved c = record {
  left = left_on c.args.bytes.now c.loop-byte.count c.loop-byte.left.now c.in-Some.byte.now c.in-Some.others.now c.loop-byte.invariant.left c.in-Some.ensures.cases.0;
  same = len_on c.loop-byte.count c.loop-byte.within c.next_within-within.result c.in-Some.byte.now c.in-Some.others.now c.loop-byte.left.now c.in-Some.ensures.cases.0 (sym c.in-Later.is ∙ c.look_for_end.ensures) c.next_within-within.ensures ∙ c.loop-byte.invariant.same;
}

pub returns-in_default-look_for_end : goal.returns-in_default-look_for_end
returns-in_default-look_for_end c = record {
  exact = sym (len_stop c.loop-byte.count c.loop-byte.within c.in-Some.byte.now c.in-Some.others.now c.loop-byte.left.now c.look_for_end.result c.in-Some.ensures.cases.0 c.look_for_end.ensures c.in_default-look_for_end.not-Later) ∙ c.loop-byte.invariant.same;
  inside = omega (arith, c.loop-byte.invariant.left.inside);
}

pub returns-clause-exact : goal.returns-clause-exact
returns-clause-exact c = sym (len_end c.loop-byte.count c.loop-byte.within c.loop-byte.left.now c.in_default.ensures.cases) ∙ c.loop-byte.invariant.same
