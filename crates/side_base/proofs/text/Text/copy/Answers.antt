use Rattle.std.proofs.Common.{rules}
use Rattle.std.proofs.lemmas.Str.{IsUtf8-had}
use Rattle.side_base.proofs.text.Text.copy.Goals as goal

pub from_shared-requires : goal.from_shared-requires
from_shared-requires c = search (IsUtf8-had, rules)
