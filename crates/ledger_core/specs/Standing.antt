-- What a history says of a pair, by the entries that took or settled it.
use Rattle.std.specs.Prelude.{ℕ, ◌+◌, ◌==◌, ◌&&◌, ◌||◌, Bool, false, List, [], ◌∷◌, ◌++◌, map, fold, Option, Some, None}
use Rattle.std.specs.List.{filter}
use Rattle.ledger_core.specs.declared.command.Finish.TheVariants as ended
use Rattle.ledger_core.specs.declared.command.LedgerCmd.{LedgerCmd}
use Rattle.ledger_core.specs.declared.command.LedgerCmd.TheVariants.{Take, Settle}
use Rattle.ledger_core.specs.declared.reply.LedgerReply.{LedgerReply}
use Rattle.ledger_core.specs.declared.reply.LedgerReply.TheVariants as says
use Rattle.ledger_core.specs.Message.{Step, Pair, pairs_of}

-- the entry settles the pair: each reply to a settling does, but that the row is not held
abbrev pub settles : ℕ → ℕ → LedgerCmd → LedgerReply → Bool
settles number sub (Settle n s claim finish now word dead_aims) says.NotTaken = false
settles number sub (Settle n s claim finish now word dead_aims) reply = (number == n) && (sub == s)
settles number sub cmd reply = false

-- the entry hands the pair out
abbrev pub takes : ℕ → ℕ → LedgerCmd → LedgerReply → Bool
takes number sub (Take now) (says.Taken n s claim event path attempt) = (number == n) && (sub == s)
takes number sub cmd reply = false

abbrev pub is_settling : Pair → Step → Bool
is_settling pair entry = settles pair.no pair.sub entry.cmd entry.reply

abbrev pub is_handling : Pair → Step → Bool
is_handling pair entry = takes pair.no pair.sub entry.cmd entry.reply || settles pair.no pair.sub entry.cmd entry.reply

-- the last of a list
abbrev pub last_of : {X : Type 0} → List X → Option X
last_of xs = fold (λ seen x. Some x) None xs

-- the last entry that settled the pair, and the last that took or settled it
abbrev pub last_settling : List Step → Pair → Option Step
last_settling history pair = last_of (filter (is_settling pair) history)

abbrev pub last_handling : List Step → Pair → Option Step
last_handling history pair = last_of (filter (is_handling pair) history)

pub data Status : Type 0 where
  owed : Status
  done : Status
  dropped : Status
  dead : Status

abbrev pub status_by : LedgerReply → Status
status_by says.Done = done
status_by (says.Dropped reason) = dropped
status_by (says.Dead number) = dead
status_by reply = owed

-- without a path a pair is dropped at once; else its last settling decides
abbrev pub status_in : Option (List ℕ) → Option Step → Status
status_in None settling = dropped
status_in (Some path) None = owed
status_in (Some path) (Some entry) = status_by entry.reply

-- the claim under which a pair is held: that of the last entry that took or settled it, where it took it
abbrev pub claim_by : LedgerReply → Option ℕ
claim_by (says.Taken number sub claim event path attempt) = Some claim
claim_by reply = None

abbrev pub claim_in : Option Step → Option ℕ
claim_in None = None
claim_in (Some entry) = claim_by entry.reply

-- when it is due: as its last settling says, and before the first at its message's moment
abbrev pub due_by : ℕ → LedgerCmd → LedgerReply → ℕ
due_by moment cmd (says.Again at) = at
due_by moment (Settle number sub claim finish now word dead_aims) (says.Full rows bytes) = now + 1000
due_by moment (Settle number sub claim finish now word dead_aims) says.NoMemory = now
due_by moment cmd reply = moment

abbrev pub due_in : ℕ → Option Step → ℕ
due_in moment None = moment
due_in moment (Some entry) = due_by moment entry.cmd entry.reply

-- the word of an attempt that failed and is made again
abbrev pub words_by : LedgerCmd → LedgerReply → List ℕ
words_by (Settle number sub claim ended.Retry now word dead_aims) (says.Again at) = word ∷ []
words_by cmd reply = []

-- with those before it, the latest first
abbrev pub words_with : List ℕ → Step → List ℕ
words_with words entry = words_by entry.cmd entry.reply ++ words

abbrev pub words_in : List Step → List ℕ
words_in settlings = fold words_with [] settlings

-- what a history says of a pair; its next attempt has the number 1 and that of its words
pub record Standing : Type 0 where
  pub pair : Pair
  pub status : Status
  pub claim : Option ℕ
  pub due : ℕ
  pub words : List ℕ

abbrev pub standing : List Step → Pair → Standing
standing history pair = record {
  pair = pair;
  status = status_in pair.path (last_settling history pair);
  claim = claim_in (last_handling history pair);
  due = due_in pair.moment (last_settling history pair);
  words = words_in (filter (is_settling pair) history);
}

-- what a history says of all its pairs
abbrev pub standings : List Step → List Standing
standings history = map (standing history) (pairs_of history)
