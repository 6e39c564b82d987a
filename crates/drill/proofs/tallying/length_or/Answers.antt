use Rattle.std.proofs.Common.{rules, ◌∙◌, ap, sym, unwrap_or, Option, ℕ}
use Rattle.drill.proofs.Tallies.{not_told, told_by}
use Rattle.drill.proofs.tallying.length_or.Goals as goal

pub returns-in-Some : goal.returns-in-Some
returns-in-Some c = λ of is whole.
    let told = told_by c.args.line.now of c.in-Some.text.now is whole (search rules) in
    c.number_in.ensures told.0 told.2 told.3 ∙ sym (ap (λ (o : Option ℕ). unwrap_or o c.args.before) told.1)

pub returns-in-None : goal.returns-in-None
returns-in-None c = λ of is whole. sym (ap (λ (o : Option ℕ). unwrap_or o c.args.before) (not_told c.args.line.now of is whole (search rules)))
