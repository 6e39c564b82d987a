-- What holds of every history of a ledger.
use Rattle.std.specs.Prelude.{◌≡◌, ◌<◌, ◌+◌, ℕ, true, false, List, [], ◌∷◌, ◌++◌, length, Some, None}
use Rattle.std.specs.FinMap.{find}
use Rattle.ledger_core.specs.declared.plan.Aim.{Aim}
use Rattle.ledger_core.specs.declared.plan.Plan.{Plan}
use Rattle.ledger_core.specs.declared.books.Books.{Books}
use Rattle.ledger_core.specs.declared.command.Finish.{Finish}
use Rattle.ledger_core.specs.declared.command.LedgerCmd.TheVariants.{Settle}
use Rattle.ledger_core.specs.declared.reply.LedgerReply.TheVariants.{Taken, Dead, Counts}
use Rattle.ledger_core.specs.Message.{Step, Pair, pair_at, made_by, messages_of, pairs_of}
use Rattle.ledger_core.specs.Place.{place_order}
use Rattle.ledger_core.specs.Row.{Row}
use Rattle.ledger_core.specs.Fits.{Fits}
use Rattle.ledger_core.specs.Books.{row_for}
use Rattle.ledger_core.specs.Standing.{Standing, settles, takes, status_by, claim_by, standings}
use Rattle.ledger_core.specs.Course.{count_of, is_owed, is_done, is_dropped, is_dead, standing_at, held_at}

-- each pair has one status
abbrev pub AreCountedOnce : List Step → Type 0
AreCountedOnce history =
    count_of is_owed (standings history) + count_of is_done (standings history) + count_of is_dropped (standings history) + count_of is_dead (standings history)
    ≡ length (pairs_of history)

-- a status other than owed stays
abbrev pub StaysSettled : List Step → Type 0
StaysSettled history =
    (before after : List Step) (number sub : ℕ) (s : Standing) → history ≡ before ++ after → standing_at number sub (standings before) ≡ Some s → is_owed s.status ≡ false
    → (t : Standing) × (standing_at number sub (standings (before ++ after)) ≡ Some t) × (t.pair ≡ s.pair) × (t.status ≡ s.status)

-- what is settled for good is not settled again
abbrev pub IsSettledOnce : List Step → Type 0
IsSettledOnce history =
    (before between after : List Step) (entry later : Step) (number sub : ℕ) → history ≡ before ++ entry ∷ (between ++ later ∷ after)
    → settles number sub entry.cmd entry.reply ≡ true → is_owed (status_by entry.reply) ≡ false → settles number sub later.cmd later.reply ≡ false

-- a dead letter is one message more: the next in number, with the event of the row that was settled, and one hop more
pub record IsLetter (before : List Step) (number sub claim : ℕ) (finish : Finish) (now word : ℕ) (aims : List Aim) (new : ℕ) : Type 0 where
  pub pair : Pair
  pub there : pair_at number sub (pairs_of before) ≡ Some pair
  pub next : new ≡ length (messages_of before) + 1
  pub made : made_by (messages_of before) (Settle number sub claim finish now word aims) (Dead new) ≡ record { no = new; event = pair.event; aims = aims; hops = pair.hops + 1; moment = now } ∷ []

abbrev pub AreLetters : List Step → Type 0
AreLetters history =
    (before after : List Step) (entry : Step) (number sub claim : ℕ) (finish : Finish) (now word : ℕ) (aims : List Aim) (new : ℕ)
    → history ≡ before ++ entry ∷ after → entry.cmd ≡ Settle number sub claim finish now word aims → entry.reply ≡ Dead new
    → IsLetter before number sub claim finish now word aims new

-- The rows of a ledger are the owed pairs: an entry that waits is of an owed pair that nobody holds, at its due moment, and one that
-- is held of an owed pair under its claim; and each owed pair has its entry. So a pair has one entry, and one claim at most.
pub record RowsAreOwed (plans : List Plan) (history : List Step) (books : Books) : Type 0 where
  pub waiting : (at number sub : ℕ) (row : Row) → find place_order (record { at = at; no = number; sub = sub }) books.waiting ≡ Some row
      → (s : Standing) × (standing_at number sub (standings history) ≡ Some s) × (is_owed s.status ≡ true) × (s.claim ≡ None) × (s.due ≡ at)
  pub held : (at number sub : ℕ) (row : Row) → find place_order (record { at = at; no = number; sub = sub }) books.held ≡ Some row
      → (s : Standing) × (standing_at number sub (standings history) ≡ Some s) × (is_owed s.status ≡ true) × (s.claim ≡ Some at)
  pub each_waits : (number sub : ℕ) (s : Standing) → standing_at number sub (standings history) ≡ Some s → is_owed s.status ≡ true → s.claim ≡ None
      → find place_order (record { at = s.due; no = number; sub = sub }) books.waiting ≡ Some (row_for plans s)
  pub each_held : (number sub : ℕ) (s : Standing) (claim : ℕ) → standing_at number sub (standings history) ≡ Some s → is_owed s.status ≡ true → s.claim ≡ Some claim
      → find place_order (record { at = claim; no = number; sub = sub }) books.held ≡ Some (row_for plans s)

-- each reply fits its command
abbrev pub AreFitting : List Step → Type 0
AreFitting history = (before after : List Step) (entry : Step) → history ≡ before ++ entry ∷ after → Fits entry.cmd entry.reply

-- a pair that is given out is of a subscription that has a plan
abbrev pub ArePlanned : List Plan → List Step → Type 0
ArePlanned plans history =
    (before after : List Step) (entry : Step) (number sub claim : ℕ) (event path : List ℕ) (attempt : ℕ)
    → history ≡ before ++ entry ∷ after → entry.reply ≡ Taken number sub claim event path attempt → sub < length plans

-- claims rise, so no two are the same
abbrev pub ClaimsRise : List Step → Type 0
ClaimsRise history =
    (before between after : List Step) (entry later : Step) (claim other : ℕ) → history ≡ before ++ entry ∷ (between ++ later ∷ after)
    → claim_by entry.reply ≡ Some claim → claim_by later.reply ≡ Some other → claim < other

-- some entry settles the pair
pub record HasSettling (number sub : ℕ) (history : List Step) : Type 0 where
  pub before : List Step
  pub entry : Step
  pub after : List Step
  pub there : history ≡ before ++ entry ∷ after
  pub its : settles number sub entry.cmd entry.reply ≡ true

-- a pair is given out again only after it was settled
abbrev pub IsSettledBetween : List Step → Type 0
IsSettledBetween history =
    (before between after : List Step) (entry later : Step) (number sub : ℕ) → history ≡ before ++ entry ∷ (between ++ later ∷ after)
    → takes number sub entry.cmd entry.reply ≡ true → takes number sub later.cmd later.reply ≡ true → HasSettling number sub between

-- after a settling under a claim that was given out, whatever its reply, nobody holds the pair under it
abbrev pub IsLetGo : List Step → Type 0
IsLetGo history =
    (before between after : List Step) (taking settling : Step) (number sub claim : ℕ) (finish : Finish) (now word : ℕ) (aims : List Aim)
    → history ≡ before ++ taking ∷ (between ++ settling ∷ after) → claim_by taking.reply ≡ Some claim → settling.cmd ≡ Settle number sub claim finish now word aims
    → held_at claim number sub (standings history) ≡ None

-- what is counted adds up to the number of pairs
abbrev pub CountsAddUp : List Step → Type 0
CountsAddUp history =
    (before after : List Step) (entry : Step) (owed done dropped dead : ℕ) → history ≡ before ++ entry ∷ after → entry.reply ≡ Counts owed done dropped dead
    → owed + done + dropped + dead ≡ length (pairs_of before)
