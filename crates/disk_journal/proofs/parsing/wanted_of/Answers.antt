use Rattle.std.proofs.Common.{take, ap, ◌∙◌}
use Rattle.std.proofs.lemmas.List.{take_rest}
use Rattle.disk_journal.proofs.Found.{open_gate, part_is_shorter, at_most}
use Rattle.disk_journal.proofs.parsing.wanted_of.Goals as goal

pub returns-then-open-ne1-clause-suffices : goal.returns-then-open-ne1-clause-suffices
returns-then-open-ne1-clause-suffices c more nine part = absurd (c.if-open-ne1.true (open_gate c.args.bytes.now more c.in-len1-up.len_at_least part))

pub returns-clause-suffices : goal.returns-clause-suffices
returns-clause-suffices c more nine part =
    at_most c.from_le_bytes.ensures c.saturating_add.ensures (part_is_shorter c.args.bytes.now more c.in-Some.len.now nine (c.in-Some.ensures.cases.0 ∙ ap (take 8) (take_rest c.args.bytes.now 1)) part)
