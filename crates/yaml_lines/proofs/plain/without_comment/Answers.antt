use Rattle.std.proofs.Common.{sym, ap, ◌∙◌, false, ◌==◌}
use Rattle.yaml_lines.specs.Plain.{comment_place, up_to}
use Rattle.yaml_lines.specs.Found.{found_at}
use Rattle.yaml_lines.proofs.Words.{left_all, left_on, shifted_zero, comment_step, comment_end, comment_here}
use Rattle.yaml_lines.proofs.plain.without_comment.Goals as goal

pub loop-byte-init : goal.loop-byte-init
loop-byte-init c = record { left = left_all c.args.bytes.now; same = shifted_zero (comment_place false c.args.bytes.now) }

pub loop-byte-preserved : goal.loop-byte-preserved
loop-byte-preserved c = record {
  left = left_on c.args.bytes.now c.loop-byte.at c.loop-byte.left.now c.in-Some.byte.now c.in-Some.others.now c.loop-byte.invariant.left c.in-Some.ensures.cases.0;
  same = ap (λ f. found_at c.loop-byte.at f (comment_place (c.in-Some.byte.now == 32) c.in-Some.others.now)) (sym c.in-Later.is)
      ∙ sym (comment_step c.loop-byte.after_space c.loop-byte.at c.in-Some.byte.now c.in-Some.others.now c.loop-byte.left.now c.look_for_comment.result c.in-Some.ensures.cases.0 c.look_for_comment.ensures)
      ∙ c.loop-byte.invariant.same;
}

pub returns : goal.returns
returns c = ap (up_to c.args.bytes.now) (sym (comment_end c.loop-byte.after_space c.loop-byte.at c.loop-byte.left.now c.in_default.ensures.cases) ∙ c.loop-byte.invariant.same)

pub returns-in_default-look_for_comment : goal.returns-in_default-look_for_comment
returns-in_default-look_for_comment c = ap (up_to c.args.bytes.now) (
    ap (λ f. found_at c.loop-byte.at f (comment_place (c.in-Some.byte.now == 32) c.in-Some.others.now)) (sym (comment_here c.loop-byte.after_space c.in-Some.byte.now c.look_for_comment.result c.look_for_comment.ensures c.in_default-look_for_comment.not-Later))
    ∙ sym (comment_step c.loop-byte.after_space c.loop-byte.at c.in-Some.byte.now c.in-Some.others.now c.loop-byte.left.now c.look_for_comment.result c.in-Some.ensures.cases.0 c.look_for_comment.ensures)
    ∙ c.loop-byte.invariant.same)
