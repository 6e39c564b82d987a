-- What a pending change stands for.
use Rattle.std.specs.Prelude.{ℕ, List, Option, Some, None}
use Rattle.keeper_core.specs.declared.changes.Change.{Change}
use Rattle.keeper_core.specs.declared.changes.Change.TheVariants as kept
use Rattle.state_core.specs.declared.batch.Pending.{Pending}
use Rattle.state_core.specs.declared.batch.Pending.TheVariants.{Put, Remove}

-- the change as a keeper gets it
abbrev pub change_of : Pending → Change
change_of (Put item version until) = kept.Put item.now.key item.now.value version until
change_of (Remove key) = kept.Remove key.now

-- the key that it changes
abbrev pub key_of : Pending → List ℕ
key_of (Put item version until) = item.now.key
key_of (Remove key) = key.now

-- the version that its key has then; `None` is no row
abbrev pub version_of : Pending → Option ℕ
version_of (Put item version until) = Some version
version_of (Remove key) = None
