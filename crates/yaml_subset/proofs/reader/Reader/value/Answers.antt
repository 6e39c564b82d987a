use Rattle.std.proofs.Common.{sym, ap, subst, ◌∙◌, Result}
use Rattle.yaml_lines.specs.LineShown.{value_shown}
use Rattle.yaml_subset.specs.declared.error.YamlErr.{YamlErr}
use Rattle.yaml_subset.specs.Front.{Front}
use Rattle.yaml_subset.specs.Refusal.{at_line, is_absent, may_have, with_value, has_column, misplaced, misplaced_in, counts_as_level, leaf_said}
use Rattle.yaml_subset.specs.Held.{IsCause, Placed}
use Rattle.yaml_subset.proofs.Machine.{value_begins}
use Rattle.yaml_subset.proofs.Causes.{both_true, absent_is, cause_of, value_none, value_full}
use Rattle.yaml_subset.proofs.reader.Reader.value.Goals as goal

pub returns-then-not-has_at : goal.returns-then-not-has_at
returns-then-not-has_at c front stands =
    let v = value_shown c.args.value in
    let r = at_line c.args.line v.first (with_value (counts_as_level v.leaf) v.column (leaf_said c.args.line v.column v.leaf) front) in
    subst (λ (x : YamlErr). IsCause x r) (sym (c.misplaced_error.ensures ∙ ap (λ b. misplaced c.args.line 0 (misplaced_in b)) (c.has_column_at.ensures front stands)))
    (cause_of (misplaced c.args.line 0 (misplaced_in (has_column v.column front.frames))) r (value_none (counts_as_level v.leaf) v.column c.args.line v.first (leaf_said c.args.line v.column v.leaf) front (sym (c.has_at.ensures front stands) ∙ c.if-not-has_at.true)))

pub returns-then-is_too_deep : goal.returns-then-is_too_deep
returns-then-is_too_deep c front stands =
    let v = value_shown c.args.value in
    value_full (counts_as_level v.leaf) v.column c.args.line v.first (leaf_said c.args.line v.column v.leaf) front (sym (c.has_at.ensures front stands) ∙ c.if-not-has_at.false) (sym (c.is_too_deep.ensures front stands) ∙ c.if-is_too_deep.true)

pub returns : goal.returns
returns c front stands =
    let v = value_shown c.args.value in
    let has = sym (c.has_at.ensures front stands) ∙ c.if-not-has_at.false in
    let both = both_true (is_absent front.tip) (may_have front.frames v.column) has in
    subst (λ (r : Result Front YamlErr). Placed c.set_spelled.new.self c.set_spelled.result r)
    (sym (ap (at_line c.args.line v.first) (value_begins (counts_as_level v.leaf) v.column (leaf_said c.args.line v.column v.leaf) front has (sym (c.is_too_deep.ensures front stands) ∙ c.if-is_too_deep.false))))
    (c.set_spelled.ensures front v.column stands (absent_is front.tip both.0) both.1)
