use Rattle.std.proofs.Common.{sym, ap, ◌∙◌}
use Rattle.std.specs.Prelude.{nat_lt}
use Rattle.yaml_subset.specs.Refusal.{may_have}
use Rattle.yaml_subset.proofs.Opens.{innermost, no_frames}
use Rattle.yaml_subset.proofs.place.has_in.Goals as goal

pub returns-in-Some : goal.returns-in-Some
returns-in-Some c frames e =
    let i = innermost c.in-Some.last.now c.in-Some.field-0-1.now frames (sym c.in-Some.ensures.cases.0 ∙ e) in
    ap (λ o. nat_lt o.column c.args.column) i.last_is ∙ sym (ap (λ fs. may_have fs c.args.column) i.are)

pub returns-in-None : goal.returns-in-None
returns-in-None c frames e = sym (ap (λ fs. may_have fs c.args.column) (no_frames c.args.opened.now frames c.in-None.ensures.cases e))
