use Rattle.ledger_core.specs.Ledger.{plans_of}
use Rattle.session_laws.proofs.Publishing.{no_room_in}
use Rattle.session_laws.proofs.messages.a_full_ledger_has_no_room.Goals as goal

pub returns : goal.returns
returns g c first seen step event aims now rows bytes there given full = no_room_in (plans_of first) there.before step rows bytes event aims now given full there.follows.reply
