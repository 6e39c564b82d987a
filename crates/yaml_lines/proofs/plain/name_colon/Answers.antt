use Rattle.std.proofs.Common.{sym, ap, subst, ◌∙◌, ◌<◌, ℕ, false, ◌==◌, length, Option}
use Rattle.std.specs.Prelude.{IfSome}
use Rattle.yaml_lines.specs.Plain.{colon_place}
use Rattle.yaml_lines.specs.Found.{found_at}
use Rattle.yaml_lines.proofs.Words.{left_all, left_on, shifted_zero, colon_step, colon_end, colon_inside, told}
use Rattle.yaml_lines.proofs.plain.name_colon.Goals as goal

pub loop-byte-init : goal.loop-byte-init
loop-byte-init c = record { left = left_all c.args.bytes.now; same = shifted_zero (colon_place false c.args.bytes.now) }

pub loop-byte-preserved : goal.loop-byte-preserved
loop-byte-preserved c = record {
  left = left_on c.args.bytes.now c.loop-byte.at c.loop-byte.left.now c.in-Some.byte.now c.in-Some.others.now c.loop-byte.invariant.left c.in-Some.ensures.cases.0;
  same = ap (λ f. found_at c.loop-byte.at f (colon_place (c.in-Some.byte.now == 32) c.in-Some.others.now)) (sym c.in-Later.is)
      ∙ sym (colon_step c.loop-byte.after_space c.loop-byte.at c.in-Some.byte.now c.in-Some.others.now c.loop-byte.left.now c.look_for_colon.result c.in-Some.ensures.cases.0 c.look_for_colon.ensures)
      ∙ c.loop-byte.invariant.same;
}

pub returns-in_default-look_for_colon-clause-exact : goal.returns-in_default-look_for_colon-clause-exact
returns-in_default-look_for_colon-clause-exact c =
    c.place_told.ensures
    ∙ sym (told c.loop-byte.at c.look_for_colon.result (colon_place (c.in-Some.byte.now == 32) c.in-Some.others.now) c.in_default-look_for_colon.not-Later)
    ∙ sym (colon_step c.loop-byte.after_space c.loop-byte.at c.in-Some.byte.now c.in-Some.others.now c.loop-byte.left.now c.look_for_colon.result c.in-Some.ensures.cases.0 c.look_for_colon.ensures)
    ∙ c.loop-byte.invariant.same

pub returns-in_default-look_for_colon-clause-inside : goal.returns-in_default-look_for_colon-clause-inside
returns-in_default-look_for_colon-clause-inside c = subst (λ (o : Option ℕ). IfSome o (λ place. place < length c.args.bytes.now)) (sym (returns-in_default-look_for_colon-clause-exact c)) (colon_inside false c.args.bytes.now)

pub returns-clause-exact : goal.returns-clause-exact
returns-clause-exact c = sym (colon_end c.loop-byte.after_space c.loop-byte.at c.loop-byte.left.now c.in_default.ensures.cases) ∙ c.loop-byte.invariant.same
