use Rattle.std.proofs.Common.{refl, sym, ap, subst, ◌∙◌, ◌≤◌, ℕ, false, length, Option}
use Rattle.std.specs.Prelude.{IfSome}
use Rattle.yaml_lines.specs.Quoted.{quoted_len, paired_after}
use Rattle.yaml_lines.specs.Found.{found_at}
use Rattle.yaml_lines.proofs.Words.{left_all, left_on, shifted_zero, quote_step, quote_end, quote_inside, told}
use Rattle.yaml_lines.proofs.quoted.quoted_length.Goals as goal

pub loop-byte-init : goal.loop-byte-init
loop-byte-init c = record { left = left_all c.args.bytes.now; same = shifted_zero (quoted_len c.args.double false c.args.bytes.now) }

pub loop-byte-preserved : goal.loop-byte-preserved
loop-byte-preserved c = record {
  left = left_on c.args.bytes.now c.loop-byte.count c.loop-byte.left.now c.in-Some.byte.now c.in-Some.others.now c.loop-byte.invariant.left c.in-Some.ensures.cases.0;
  same = ap (λ f. found_at c.loop-byte.count f (quoted_len c.args.double c.is_paired_after-paired.result c.in-Some.others.now)) (sym c.in-Later.is)
      ∙ sym (quote_step c.args.double c.loop-byte.paired c.is_paired_after-paired.result c.loop-byte.count c.in-Some.byte.now c.in-Some.others.now c.loop-byte.left.now c.look_for_quote.result c.in-Some.ensures.cases.0 c.look_for_quote.ensures c.is_paired_after-paired.ensures)
      ∙ c.loop-byte.invariant.same;
}

pub returns-in_default-look_for_quote-clause-exact : goal.returns-in_default-look_for_quote-clause-exact
returns-in_default-look_for_quote-clause-exact c =
    c.place_told.ensures
    ∙ sym (told c.loop-byte.count c.look_for_quote.result (quoted_len c.args.double (paired_after c.args.double c.loop-byte.paired c.in-Some.byte.now) c.in-Some.others.now) c.in_default-look_for_quote.not-Later)
    ∙ sym (quote_step c.args.double c.loop-byte.paired (paired_after c.args.double c.loop-byte.paired c.in-Some.byte.now) c.loop-byte.count c.in-Some.byte.now c.in-Some.others.now c.loop-byte.left.now c.look_for_quote.result c.in-Some.ensures.cases.0 c.look_for_quote.ensures refl)
    ∙ c.loop-byte.invariant.same

pub returns-in_default-look_for_quote-clause-inside : goal.returns-in_default-look_for_quote-clause-inside
returns-in_default-look_for_quote-clause-inside c = subst (λ (o : Option ℕ). IfSome o (λ place. place ≤ length c.args.bytes.now)) (sym (returns-in_default-look_for_quote-clause-exact c)) (quote_inside c.args.double false c.args.bytes.now)

pub returns-clause-exact : goal.returns-clause-exact
returns-clause-exact c = c.length_at_end.ensures ∙ sym (quote_end c.args.double c.loop-byte.paired c.loop-byte.count c.loop-byte.left.now c.in_default.ensures.cases) ∙ c.loop-byte.invariant.same

pub returns-clause-inside : goal.returns-clause-inside
returns-clause-inside c = subst (λ (o : Option ℕ). IfSome o (λ place. place ≤ length c.args.bytes.now)) (sym (returns-clause-exact c)) (quote_inside c.args.double false c.args.bytes.now)
