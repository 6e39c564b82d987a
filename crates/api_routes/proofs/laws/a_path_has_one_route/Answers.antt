use Rattle.api_routes.proofs.OneAnswer.{fits-values, means-one}
use Rattle.api_routes.proofs.Tables.{fits-one}
use Rattle.api_routes.proofs.laws.a_path_has_one_route.Goals as goal

pub returns : goal.returns
returns c = record { row = fits-one; values = fits-values; meaning = means-one }
