use Rattle.std.proofs.Common.{IsUtf8, ◌∙◌, ap, subst}
use Rattle.std.proofs.lemmas.Str.{IsUtf8-had}
use Rattle.side_base.proofs.blob.text_of.Goals as goal

pub returns-in-Ok-clause-text : goal.returns-in-Ok-clause-text
returns-in-Ok-clause-text c =
    let same = ap (λ v. v.items) c.in-Ok.ensures.ok in
    (c.from_string.ensures ∙ same, subst IsUtf8 same (IsUtf8-had _ c.in-Ok.string.ok))
