use Rattle.std.proofs.Common.{◌≡◌, take, ap, ◌∙◌}
use Rattle.std.proofs.lemmas.List.{take_min}
use Rattle.http_chunks.proofs.LineLemmas.{line_of_all}
use Rattle.http_chunks.proofs.chunk_line.read_line.Goals as goal

pub returns : goal.returns
returns c =
    let same : take c.min.result c.args.rest.now ≡ take 16384 c.args.rest.now =
    ap (λ n. take n c.args.rest.now) c.min.ensures ∙ take_min 16384 c.args.rest.now in
    line_of_all c.args.rest.now _ (rw same at c.in_ok-read.ensures)
