use Rattle.std.proofs.Common.{sym, ◌∙◌}
use Rattle.byte_lanes.proofs.SpellingLemmas.{none_special}
use Rattle.byte_lanes.proofs.escapes.block_len.Goals as goal

pub returns-then-passing_lanes-eq0-clause-exact : goal.returns-then-passing_lanes-eq0-clause-exact
returns-then-passing_lanes-eq0-clause-exact c =
    sym (none_special c.args.block.now (sym c.passing_lanes.ensures ∙ c.if-passing_lanes-eq0.true) ∙ c.told-block)
