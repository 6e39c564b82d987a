use Rattle.std.proofs.Common.{ap, ◌∙◌, length}
use Rattle.std.specs.Prelude.{nat_lt}
use Rattle.yaml_subset.proofs.Opens.{openings_length}
use Rattle.yaml_subset.proofs.place.is_full_with.Goals as goal

pub returns : goal.returns
returns c frames e = ap (λ n. nat_lt 32 n) (ap length e ∙ openings_length frames)
