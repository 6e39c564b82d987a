use Rattle.disk_journal.proofs.Found.{cut_before, cut_in_len, cut_in_body, begins_with}
use Rattle.disk_journal.proofs.parsing.found_in.Goals as goal

pub returns-in_default : goal.returns-in_default
returns-in_default c = cut_before c.args.bytes.now c.in_default.len_below

pub returns-in_default-split_first_chunk : goal.returns-in_default-split_first_chunk
returns-in_default-split_first_chunk c =
    cut_in_len c.args.bytes.now (λ i. (c.type_inv.bytes i).fits) c.in-len1-up.len_at_least c.if-gate-ne1.false c.in_default-split_first_chunk.ensures.cases

pub returns-then-len-content : goal.returns-then-len-content
returns-then-len-content c =
    let some = c.in-Some.ensures.cases in
    cut_in_body c.args.bytes.now (λ i. (c.type_inv.bytes i).fits) c.in-len1-up.len_at_least c.if-gate-ne1.false c.in-Some.len.now c.in-Some.content.now c.from_le_bytes-len.result some.0 some.1 some.2 c.from_le_bytes-len.ensures
    c.if-len-content.true

pub returns : goal.returns
returns c =
    let some = c.in-Some.ensures.cases in
    let split = c.split_at.ensures in
    begins_with c.args.bytes.now (λ i. (c.type_inv.bytes i).fits) c.in-len1-up.len_at_least c.if-gate-ne1.false c.in-Some.len.now c.in-Some.content.now c.from_le_bytes-len.result some.0 some.1 some.2 c.from_le_bytes-len.ensures
    c.split_at.result.0.now c.split_at.result.1.now c.if-len-content.false split.front split.back
