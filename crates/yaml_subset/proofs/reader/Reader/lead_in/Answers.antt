use Rattle.std.proofs.Common.{ap}
use Rattle.yaml_subset.specs.Refusal.{may_begin, is_absent, at_line}
use Rattle.yaml_subset.proofs.Machine.{lead_begins}
use Rattle.yaml_subset.proofs.Causes.{both_true, absent_is, new_not_repeated}
use Rattle.yaml_subset.proofs.reader.Reader.lead_in.Goals as goal

pub returns-in-Ok : goal.returns-in-Ok
returns-in-Ok c front first stands begins shallow =
    let row = c.args.row in
    record {
      next = _;
      is = ap (at_line row.line first) (lead_begins row.holder row.column row.line row.name.items front begins shallow);
      stands = c.in-Ok.ensures front stands (absent_is front.tip (both_true (is_absent front.tip) (may_begin front.frames row.holder row.column) begins).0);
      tells = new_not_repeated row.holder;
    }
