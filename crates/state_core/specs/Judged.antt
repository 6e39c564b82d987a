-- How the items of one command are judged: in order, each by the rows as the passing items before it leave them.
use Rattle.std.specs.Prelude.{ℕ, ◌+◌, Bool, List, [], ◌∷◌, ◌++◌, fold, map, Option, Some, None, if◌then◌else◌}
use Rattle.keeper_core.specs.Rows.{Rows}
use Rattle.state_core.specs.declared.command.Op.{Op}
use Rattle.state_core.specs.declared.command.Op.TheVariants.{Upsert, Remove}
use Rattle.state_core.specs.declared.command.Cmd.{Cmd}
use Rattle.state_core.specs.declared.command.Cmd.TheVariants.{Get, Save, Delete, Bulk, Transact}
use Rattle.state_core.specs.Current.{live_at, version_of, is_current, until_of}
use Rattle.state_core.specs.Write.{Write, upsert, removal, rows_after}

-- the items of a command, as operations
abbrev pub ops_of : Cmd → List Op
ops_of (Get key now) = []
ops_of (Bulk keys skip now) = []
ops_of (Save items now) = map (λ item. Upsert item) items
ops_of (Delete key etag mode now) = Remove key etag mode ∷ []
ops_of (Transact ops now) = ops

abbrev pub key_of : Op → List ℕ
key_of (Upsert item) = item.key
key_of (Remove key etag mode) = key

-- for a row of this version, or for none
abbrev pub passes : Op → Option ℕ → Bool
passes (Upsert item) version = is_current item.mode item.etag version
passes (Remove key etag mode) version = is_current mode etag version

abbrev pub removal_of : List ℕ → Option ℕ → List Write
removal_of key None = []
removal_of key (Some version) = removal key ∷ []

-- what an operation that passes writes: a removal where there is no row is no write
abbrev pub write_of : ℕ → Op → Option ℕ → List Write
write_of moment (Upsert item) version = upsert item.key item.value (until_of moment item.ttl) ∷ []
write_of moment (Remove key etag mode) version = removal_of key version

-- the version that a key has at a moment after writes over these rows, where its row is live then
abbrev pub version_in : Rows → ℕ → ℕ → List Write → List ℕ → Option ℕ
version_in rows next moment writes key = version_of (live_at (rows_after rows next writes) moment key)

-- how many operations are judged, what those that pass write, and the places of the others
pub record Judged : Type 0 where
  pub place : ℕ
  pub writes : List Write
  pub refused : List ℕ

abbrev pub passed : Judged → List Write → Judged
passed judged writes = record { place = judged.place + 1; writes = judged.writes ++ writes; refused = judged.refused }

abbrev pub refused : Judged → Judged
refused judged = record { place = judged.place + 1; writes = judged.writes; refused = judged.refused ++ judged.place ∷ [] }

abbrev pub judged_by : ℕ → Op → Option ℕ → Judged → Judged
judged_by moment op version judged = if passes op version then passed judged (write_of moment op version) else refused judged

abbrev pub judge : Rows → ℕ → ℕ → Judged → Op → Judged
judge rows next moment judged op = judged_by moment op (version_in rows next moment judged.writes (key_of op)) judged

abbrev pub unjudged : Judged
unjudged = record { place = 0; writes = []; refused = [] }

abbrev pub judged_in : Rows → ℕ → ℕ → List Op → Judged
judged_in rows next moment ops = fold (judge rows next moment) unjudged ops

-- the writes where nothing is refused, else none
abbrev pub unless_refused : List ℕ → List Write → List Write
unless_refused [] writes = writes
unless_refused (place ∷ places) writes = []

-- what a command is to write: a transaction all or nothing
abbrev pub writes_in : Cmd → Judged → List Write
writes_in (Get key now) judged = []
writes_in (Bulk keys skip now) judged = []
writes_in (Save items now) judged = judged.writes
writes_in (Delete key etag mode now) judged = judged.writes
writes_in (Transact ops now) judged = unless_refused judged.refused judged.writes
