use Rattle.std.proofs.Common.{◌∙◌, ap}
use Rattle.http_frames.specs.Said.{broken}
use Rattle.http_frames.proofs.SaidLemmas.{broken_same}
use Rattle.http_frames.proofs.rules.fields_refusal.Goals as goal

pub returns : goal.returns
returns c =
    c.broken.ensures ∙ ap (λ n. broken c.args.minor n c.args.said.now) c.len.ensures ∙ broken_same c.args.minor c.args.fields.now c.args.said.now c.requires
