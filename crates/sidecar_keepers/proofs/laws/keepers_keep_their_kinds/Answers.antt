use Rattle.sidecar_keepers.proofs.Makings.{made_fit}
use Rattle.sidecar_keepers.proofs.Runs.{fit_after}
use Rattle.sidecar_keepers.proofs.laws.keepers_keep_their_kinds.Goals as goal

pub returns-clause-first : goal.returns-clause-first
returns-clause-first g c = λ stores keepers before after made. made_fit g.D.Disk stores keepers before after made

pub returns-clause-last : goal.returns-clause-last
returns-clause-last g c = λ stores firsts lasts made fit has. fit_after g.D.Disk _ (λ first last answers led. led) stores firsts lasts made fit has
