use Rattle.std.proofs.Common.{◌-◌, arith}
use Rattle.http_frames.proofs.BlankLemmas.{return_ends, line_ends, no_ends}
use Rattle.http_frames.proofs.lines.blank_end.Goals as goal

pub returns-then-end-eq0-clause-blank : goal.returns-then-end-eq0-clause-blank
returns-then-end-eq0-clause-blank c = λ is. no_ends c.args.text.now

pub returns-then-text-end-eq-CR-clause-blank : goal.returns-then-text-end-eq-CR-clause-blank
returns-then-text-end-eq-CR-clause-blank c =
    return_ends c.args.text.now c.args.end (c.args.end - 1) (omega arith) (omega arith) c.if-text-end-eq-CR.true

pub returns-else-text-end-eq-CR-clause-blank : goal.returns-else-text-end-eq-CR-clause-blank
returns-else-text-end-eq-CR-clause-blank c =
    line_ends c.args.text.now c.args.end (c.args.end - 1) (omega arith) (omega arith) c.if-text-end-eq-CR.false
