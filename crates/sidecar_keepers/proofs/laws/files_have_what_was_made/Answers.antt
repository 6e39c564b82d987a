use Rattle.sidecar_keepers.proofs.Runs.{held_after}
use Rattle.sidecar_keepers.proofs.laws.files_have_what_was_made.Goals as goal

pub returns : goal.returns
returns g c = λ stores firsts lasts made before mid after apart tells were has back held' told.
    held_after g.D.Disk g.met.D.Disk.as_long tells _ (λ first last answers led. led) stores firsts lasts made before mid after apart were has back held' told
