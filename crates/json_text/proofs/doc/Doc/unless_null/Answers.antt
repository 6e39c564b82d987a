use Rattle.std.proofs.Common.{◌∙◌, ap, sym, subst, cond, None, Some}
use Rattle.json_text.specs.Doc.{IsUnlessNull}
use Rattle.json_text.proofs.Walks.{for_first}
use Rattle.json_text.proofs.doc.Doc.unless_null.Goals as goal

pub returns-then-is_null-clause-there : goal.returns-then-is_null-clause-there
returns-then-is_null-clause-there c =
    let n = c.in-Some.n in
    subst (λ found. IsUnlessNull c.args.self.now found None) (sym c.in-Some.is)
    (λ values h. for_first values _ _ (c.is_null.ensures values h) (λ s children later e. ap (λ b. cond b None (Some n)) (sym c.if-is_null.true ∙ e)))

pub returns-else-is_null-clause-there : goal.returns-else-is_null-clause-there
returns-else-is_null-clause-there c =
    let n = c.in-Some.n in
    subst (λ found. IsUnlessNull c.args.self.now found (Some n)) (sym c.in-Some.is)
    (λ values h. for_first values _ _ (c.is_null.ensures values h) (λ s children later e. ap (λ b. cond b None (Some n)) (sym c.if-is_null.false ∙ e)))
