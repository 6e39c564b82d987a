use Rattle.std.proofs.Common.{ap, ◌∙◌, ◌==◌}
use Rattle.std.specs.List.{list_any}
use Rattle.yaml_subset.specs.declared.open.Open.{Open}
use Rattle.yaml_subset.proofs.Opens.{any_opening}
use Rattle.yaml_subset.proofs.place.has_column_in.Goals as goal

pub returns : goal.returns
returns c frames e = c.any_column.ensures ∙ ap (λ l. list_any (λ (part : Open). part.column == c.args.column) l) e ∙ any_opening c.args.column frames
