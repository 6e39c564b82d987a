use Rattle.std.proofs.Common.{sym, ap, subst, ◌∙◌}
use Rattle.yaml_subset.specs.declared.error.YamlErr.{YamlErr}
use Rattle.yaml_subset.specs.Tree.{empty}
use Rattle.yaml_subset.specs.Refusal.{at_line, with_lead, has_column, misplaced, misplaced_in}
use Rattle.yaml_subset.specs.Held.{IsCause}
use Rattle.yaml_subset.proofs.Machine.{lead_turns}
use Rattle.yaml_subset.proofs.Growth.{turned_none}
use Rattle.yaml_subset.proofs.Causes.{cause_of, lead_none}
use Rattle.yaml_subset.proofs.reader.Reader.lead_on.Goals as goal

pub returns-in-Ok : goal.returns-in-Ok
returns-in-Ok c front first stands shut =
    let row = c.args.row in
    let t = c.in-Ok.ensures front stands (sym (c.in-Some.ensures front stands)) in
    record {
      next = _;
      is = ap (at_line row.line first) (lead_turns row.holder row.column row.line row.name.items front t.next shut t.is);
      stands = t.stands;
      tells = t.tells;
    }

pub returns-in-None : goal.returns-in-None
returns-in-None c front first stands shut =
    let row = c.args.row in
    let name = row.name.items in
    let none = turned_none front.frames row.holder row.column row.line name front.tip empty (sym (c.in-None.ensures front stands)) in
    subst (λ (x : YamlErr). IsCause x (at_line row.line first (with_lead row.holder row.column row.line name front))) (sym (c.misplaced_error.ensures ∙ ap (λ b. misplaced row.line 0 (misplaced_in b)) (c.has_column_at.ensures front stands)))
    (cause_of (misplaced row.line 0 (misplaced_in (has_column row.column front.frames))) (at_line row.line first (with_lead row.holder row.column row.line name front)) (lead_none row.holder row.column row.line first name front shut none))
