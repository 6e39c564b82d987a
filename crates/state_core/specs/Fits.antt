-- Which replies fit which commands.
use Rattle.std.specs.Prelude.{◌≡◌, ◌≢◌, ◌<◌, ◌≤◌, ℕ, ◌+◌, List, [], ◌∷◌, length, map}
use Rattle.state_core.specs.declared.command.Item.{Item}
use Rattle.state_core.specs.declared.command.Cmd.{Cmd}
use Rattle.state_core.specs.declared.command.Cmd.TheVariants.{Get, Save, Delete, Bulk, Transact}
use Rattle.state_core.specs.declared.reply.BulkRow.{BulkRow}
use Rattle.state_core.specs.declared.reply.Reply.{Reply}
use Rattle.state_core.specs.declared.reply.Reply.TheVariants.{Value, Absent, Saved, SomeRefused, Deleted, Mismatch, Rows, TooLong, Committed, Failed, Full, Spent, NoMemory}

-- ---- kinds of commands, and what is so of their items

abbrev pub IsGet : Cmd → Type 0
IsGet (Get key now) = Unit {0}
IsGet (Save items now) = ⊥
IsGet (Delete key etag mode now) = ⊥
IsGet (Bulk keys skip now) = ⊥
IsGet (Transact ops now) = ⊥

abbrev pub IsSave : (List Item → Type 0) → Cmd → Type 0
IsSave P (Get key now) = ⊥
IsSave P (Save items now) = P items
IsSave P (Delete key etag mode now) = ⊥
IsSave P (Bulk keys skip now) = ⊥
IsSave P (Transact ops now) = ⊥

abbrev pub IsDelete : Cmd → Type 0
IsDelete (Get key now) = ⊥
IsDelete (Save items now) = ⊥
IsDelete (Delete key etag mode now) = Unit {0}
IsDelete (Bulk keys skip now) = ⊥
IsDelete (Transact ops now) = ⊥

abbrev pub IsBulk : (List (List ℕ) → Type 0) → Cmd → Type 0
IsBulk P (Get key now) = ⊥
IsBulk P (Save items now) = ⊥
IsBulk P (Delete key etag mode now) = ⊥
IsBulk P (Bulk keys skip now) = P keys
IsBulk P (Transact ops now) = ⊥

abbrev pub IsTransact : Cmd → Type 0
IsTransact (Get key now) = ⊥
IsTransact (Save items now) = ⊥
IsTransact (Delete key etag mode now) = ⊥
IsTransact (Bulk keys skip now) = ⊥
IsTransact (Transact ops now) = Unit {0}

-- the command may write
abbrev pub MayWrite : Cmd → Type 0
MayWrite (Get key now) = ⊥
MayWrite (Save items now) = Unit {0}
MayWrite (Delete key etag mode now) = Unit {0}
MayWrite (Bulk keys skip now) = ⊥
MayWrite (Transact ops now) = Unit {0}

-- ---- places

-- places that rise, none below the one number, each below the other
abbrev pub ArePlaces : ℕ → ℕ → List ℕ → Type 0
ArePlaces low high [] = Unit {0}
ArePlaces low high (place ∷ places) = (low ≤ place) × (place < high) × ArePlaces (place + 1) high places

-- the place of an item that may be the first that is refused: a removal is the only one of its command
abbrev pub MayStopAt : ℕ → Cmd → Type 0
MayStopAt place (Get key now) = ⊥
MayStopAt place (Save items now) = ⊥
MayStopAt place (Delete key etag mode now) = place ≡ 0
MayStopAt place (Bulk keys skip now) = ⊥
MayStopAt place (Transact ops now) = place < length ops

abbrev pub key_of : BulkRow → List ℕ
key_of row = row.key

-- ---- replies

abbrev pub Fits : Cmd → Reply → Type 0
Fits cmd (Value value version) = IsGet cmd
Fits cmd Absent = IsGet cmd
Fits cmd Saved = IsSave (λ items. Unit {0}) cmd
Fits cmd (SomeRefused places) = IsSave (λ items. (places ≢ []) × ArePlaces 0 (length items) places) cmd
Fits cmd Deleted = IsDelete cmd
Fits cmd (Mismatch place) = MayStopAt place cmd
Fits cmd (Rows rows) = IsBulk (λ keys. map key_of rows ≡ keys) cmd
Fits cmd (TooLong len) = IsBulk (λ keys. 67108864 < len) cmd
Fits cmd Committed = IsTransact cmd
Fits cmd Failed = MayWrite cmd
Fits cmd (Full len) = MayWrite cmd
Fits cmd (Spent next) = MayWrite cmd
Fits cmd NoMemory = Unit {0}
