use Rattle.http_chunks.proofs.LineLemmas.{whole_line, never_line_from}
use Rattle.http_chunks.proofs.chunk_line.short_line.Goals as goal

pub returns-in-Ok-Complete : goal.returns-in-Ok-Complete
returns-in-Ok-Complete c =
    let at = rw c.in-Ok-Complete.field-0-is at c.in-Ok-Complete.ensures.complete in
    whole_line c.args.text.now _ _ at.0 c.requires at.1

pub returns-in-Err : goal.returns-in-Err
returns-in-Err c = never_line_from c.args.text.now c.in-Err.ensures.invalid
