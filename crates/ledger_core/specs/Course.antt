-- What the replies of a ledger turn on.
use Rattle.std.specs.Prelude.{ℕ, ◌==◌, ◌&&◌, nat_le, Bool, true, false, List, length, count_by, find, Option, Some, None, is_none, if◌then◌else◌}
use Rattle.std.specs.List.{sum_by}
use Rattle.ledger_core.specs.declared.place.Place.{Place}
use Rattle.ledger_core.specs.declared.reply.LedgerReply.{LedgerReply}
use Rattle.ledger_core.specs.declared.reply.LedgerReply.TheVariants as says
use Rattle.ledger_core.specs.Message.{Step, is_pair, messages_of}
use Rattle.ledger_core.specs.Size.{path_bytes}
use Rattle.ledger_core.specs.Standing.{Status, owed, done, dropped, dead, Standing, standings}

-- how many messages were made and how many claims given out, and all pairs
pub record Course : Type 0 where
  pub made : ℕ
  pub claims : ℕ
  pub book : List Standing

abbrev pub is_claim : LedgerReply → Bool
is_claim (says.Taken number sub claim event path attempt) = true
is_claim reply = false

abbrev pub course_of : List Step → Course
course_of history = record {
  made = length (messages_of history);
  claims = count_by (λ entry. is_claim entry.reply) history;
  book = standings history;
}

abbrev pub is_owed : Status → Bool
is_owed owed = true
is_owed done = false
is_owed dropped = false
is_owed dead = false

abbrev pub is_done : Status → Bool
is_done owed = false
is_done done = true
is_done dropped = false
is_done dead = false

abbrev pub is_dropped : Status → Bool
is_dropped owed = false
is_dropped done = false
is_dropped dropped = true
is_dropped dead = false

abbrev pub is_dead : Status → Bool
is_dead owed = false
is_dead done = false
is_dead dropped = false
is_dead dead = true

abbrev pub count_of : (Status → Bool) → List Standing → ℕ
count_of is book = count_by (λ s. is s.status) book

-- the rows are the owed pairs; their bytes are those of event and path
abbrev pub rows_in : List Standing → ℕ
rows_in book = count_of is_owed book

abbrev pub row_bytes : Standing → ℕ
row_bytes s = path_bytes (length s.pair.event) s.pair.path

abbrev pub bytes_in : List Standing → ℕ
bytes_in book = sum_by (λ s. if is_owed s.status then row_bytes s else 0) book

-- the pair of a message and a subscription
abbrev pub standing_at : ℕ → ℕ → List Standing → Option Standing
standing_at number sub book = find (λ s. is_pair number sub s.pair) book

-- a row waits where nobody holds it
abbrev pub is_waiting : Standing → Bool
is_waiting s = is_owed s.status && is_none s.claim

abbrev pub is_ready : ℕ → Standing → Bool
is_ready now s = is_waiting s && nat_le s.due now

abbrev pub is_claimed : ℕ → Option ℕ → Bool
is_claimed claim None = false
is_claimed claim (Some other) = other == claim

abbrev pub is_held : ℕ → Standing → Bool
is_held claim s = is_owed s.status && is_claimed claim s.claim

abbrev pub kept_if : (Standing → Bool) → Option Standing → Option Standing
kept_if test None = None
kept_if test (Some s) = if test s then Some s else None

-- the row that is held under a claim
abbrev pub held_at : ℕ → ℕ → ℕ → List Standing → Option Standing
held_at claim number sub book = kept_if (is_held claim) (standing_at number sub book)

-- where a row that waits stands in the order of taking: by due, then by message, then by subscription
abbrev pub place_of : Standing → Place
place_of s = record { at = s.due; no = s.pair.no; sub = s.pair.sub }
