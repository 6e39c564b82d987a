use Rattle.std.proofs.Common.{◌≡◌, ◌∙◌, ◌++◌, ◌∷◌, [], List, ℕ, sym, ap}
use Rattle.http_chunks.proofs.LineLemmas.{ended_line}
use Rattle.http_chunks.proofs.chunk_line.ends_line.Goals as goal

pub returns-in-Ok-Complete : goal.returns-in-Ok-Complete
returns-in-Ok-Complete c =
    let at = rw c.in-Ok-Complete.field-0-is at c.in-Ok-Complete.ensures.complete in
    let line : c.deref.result.now ≡ c.args.text.now ++ 10 ∷ [] =
    c.deref.ensures.value ∙ c.in_ok-push.ensures.items ∙ ap (λ (t : List ℕ). t ++ 10 ∷ []) c.in_ok-line.ensures.items in
    (at.0, at.1.reads.0, ended_line c.args.text.now at.0 _ c.requires at.1.reads.0 (sym line ∙ at.1.reads.1))
