use Rattle.std.proofs.Common.{◌++◌}
use Rattle.json_lexemes.specs.Unescape.{unescaped}
use Rattle.json_lexemes.proofs.CopiedRuns.{all_copied}
use Rattle.json_lexemes.proofs.copies.push_pieces.Goals as goal

pub returns-clause-ok : goal.returns-clause-ok
returns-clause-ok c = all_copied c.args.inside.now c.loop-at.out (c.args.out.now ++ unescaped c.args.inside.now) c.loop-at.at c.loop-at.pending c.loop-at-test.false c.loop-at.invariant.copied
