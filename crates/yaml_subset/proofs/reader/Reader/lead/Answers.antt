use Rattle.std.proofs.Common.{sym, ◌∙◌}
use Rattle.yaml_subset.proofs.Causes.{lead_full}
use Rattle.yaml_subset.proofs.reader.Reader.lead.Goals as goal

pub returns-then-is_full : goal.returns-then-is_full
returns-then-is_full c front stands = lead_full c.args.row.holder c.args.row.column c.args.row.line c.args.first c.args.row.name.items front (sym (c.begins_at.ensures front stands) ∙ c.if-begins_at.true) (sym (c.is_full.ensures front stands) ∙ c.if-is_full.true)

pub returns-then-begins_at : goal.returns-then-begins_at
returns-then-begins_at c front stands = c.lead_in.ensures front c.args.first stands (sym (c.begins_at.ensures front stands) ∙ c.if-begins_at.true) (sym (c.is_full.ensures front stands) ∙ c.if-is_full.false)

pub returns : goal.returns
returns c front stands = c.lead_on.ensures front c.args.first stands (sym (c.begins_at.ensures front stands) ∙ c.if-begins_at.false)
