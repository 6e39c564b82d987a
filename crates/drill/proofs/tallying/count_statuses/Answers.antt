use Rattle.std.proofs.Common.{rules, arith}
use Rattle.drill.proofs.Tallies.{by_one, none_left, one_less}
use Rattle.drill.proofs.tallying.count_statuses.Goals as goal

pub loop-at-preserved : goal.loop-at-preserved
loop-at-preserved c =
    let h = c.loop-at.invariant in
    let few = by_one c.first_answer-answer.result.status c.loop-at.tally c.add.new.tally c.loop-at.at c.add.ensures h.ok h.no_content h.conflict h.other in
    record {
      within = search rules;
      ok = omega (arith, few.0, c.first_answer-answer.ensures.some);
      no_content = omega (arith, few.1, c.first_answer-answer.ensures.some);
      conflict = omega (arith, few.2, c.first_answer-answer.ensures.some);
      other = omega (arith, few.3, c.first_answer-answer.ensures.some);
      answers = λ answers each whole.
          one_less c.args.bytes.now answers c.loop-at.at c.loop-at.tally c.add.new.tally c.first_answer-answer.result.status c.first_answer-answer.result.len (search rules) (h.answers answers each whole)
          c.first_answer-answer.ensures.reads c.add.ensures;
    }

pub returns : goal.returns
returns c = λ answers each whole. none_left c.args.bytes.now answers c.loop-at.at c.loop-at.tally (search rules) (c.loop-at.invariant.answers answers each whole)
