use Rattle.std.proofs.Common.{rules}
use Rattle.drill.proofs.Tallies.{end_at, no_end}
use Rattle.drill.proofs.tallying.first_line.Goals as goal

pub returns-in-Some-clause-cut : goal.returns-in-Some-clause-cut
returns-in-Some-clause-cut c = λ text behind lacks whole. end_at c.args.bytes.now text behind c.in-Some.at lacks whole (search rules)

pub returns-in-None-clause-cut : goal.returns-in-None-clause-cut
returns-in-None-clause-cut c = λ text behind lacks whole. absurd (no_end c.args.bytes.now text behind lacks whole (search rules))
