use Rattle.std.proofs.Common.{arith}
use Rattle.sidecar_core.proofs.Closed.{as_wide}
use Rattle.sidecar_core.proofs.shared.Shared.close.Goals as goal

pub give_back-requires-clause-room : goal.give_back-requires-clause-room
give_back-requires-clause-room g c = omega (arith, as_wide _ c.args.self.objects.stores.items c.args.pass.stores.items c.close.new.stores.items c.close.ensures, c.requires.room.for_keepers)
