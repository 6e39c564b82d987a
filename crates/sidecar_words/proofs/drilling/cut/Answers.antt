use Rattle.std.proofs.Common.{None, Some, ◌∙◌, sym, arith}
use Rattle.std.proofs.lemmas.Grind.{get_or_default_zero}
use Rattle.std.proofs.lemmas.Str.Pattern.{split_parts}
use Rattle.std.proofs.lemmas.Bool.{ne_eqb}
use Rattle.sidecar_words.proofs.drilling.cut.Goals as goal

pub returns-in-Some-clause-some : goal.returns-in-Some-clause-some
returns-in-Some-clause-some c =
    let parts = split_parts 44 c.args.text.now (Some (c.in-Some.front, c.in-Some.back)) c.in-Some.ensures.cases (omega arith) in
    record { whole = parts.0; first = λ k d inside. ne_eqb _ _ (λ same. parts.1 k inside (sym (get_or_default_zero c.in-Some.front.now k d inside) ∙ same)) }

pub returns-in-None-clause-none : goal.returns-in-None-clause-none
returns-in-None-clause-none c = λ k d inside. ne_eqb _ _ (λ same. split_parts 44 c.args.text.now None c.in-None.ensures.cases (omega arith) k inside (sym (get_or_default_zero c.args.text.now k d inside) ∙ same))
