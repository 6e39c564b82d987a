use Rattle.std.proofs.Common.{map, subst}
use Rattle.sidecar_keepers.specs.Given.{AreBack}
use Rattle.sidecar_keepers.specs.Runs.{HaveMade}
use Rattle.sidecar_keepers.specs.Stores.{stores_of}
use Rattle.keeper_journal.specs.contracts.any_keeper.AnyKeeperKeeper.TheImpl.{ghosts}
use Rattle.state_core.specs.Store.{keeper_of}
use Rattle.sidecar_cli.specs.Journals.{saved_by}
use Rattle.sidecar_cli.proofs.Journals.{have_saved}
use Rattle.sidecar_cli.proofs.laws.journals_have_what_was_saved.Goals as goal

pub returns : goal.returns
returns g c = λ config objects pass last begins outside started over outside' up same closed apart tells held' told.
    c.files_have_what_was_made.ensures (stores_of config.components) up.keepers (map keeper_of closed.stores) (saved_by (ghosts g.row.D g.D.Disk g.D.Disk-dict g.D.Destruct-dict) objects.stores.items last.stores.items) outside.disks started.disks outside'.disks apart tells up.kept.made
    (subst (λ l. HaveMade (ghosts g.row.D g.D.Disk g.D.Disk-dict g.D.Destruct-dict) l (map keeper_of closed.stores) (saved_by (ghosts g.row.D g.D.Disk g.D.Disk-dict g.D.Destruct-dict) objects.stores.items last.stores.items)) up.started.stores (have_saved objects.stores.items last.stores.items closed.stores closed.closed))
    (subst (λ disks. AreBack g.D.Disk (stores_of config.components) (map keeper_of closed.stores) disks outside'.disks) same closed.back) held' told
