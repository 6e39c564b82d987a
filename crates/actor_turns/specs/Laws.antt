-- What holds of every history of turns.
use Rattle.std.specs.Prelude.{◌≡◌, ◌≤◌, ◌<◌, ℕ, List, [], ◌∷◌, ◌++◌, All, Some}
use Rattle.actor_turns.specs.declared.command.TurnsCmd.{TurnsCmd}
use Rattle.actor_turns.specs.declared.command.TurnsCmd.TheVariants.{Look, Leave}
use Rattle.actor_turns.specs.declared.command.TurnsReply.TheVariants.{Yours, Left}
use Rattle.actor_turns.specs.Course.{Step, Open, actor_of, open_in}

-- the entry is the `Left` of this ticket
abbrev pub IsLeft : ℕ → Step → Type 0
IsLeft ticket entry = (entry.cmd ≡ Leave ticket) × (entry.reply ≡ Left)

-- the entry says that it is this ticket's turn
abbrev pub IsYours : ℕ → Step → Type 0
IsYours ticket entry = (entry.cmd ≡ Look ticket) × (entry.reply ≡ Yours)

-- the ticket is open, and it is the least open ticket of its actor
pub record IsFirst (held : List Open) (ticket : ℕ) (actor : List ℕ) : Type 0 where
  pub is_open : actor_of ticket held ≡ Some actor
  pub least : (other : ℕ) → actor_of other held ≡ Some actor → ticket ≤ other

-- a ticket whose turn it was, and that hasn't left since, is the least open ticket of its actor
abbrev pub TurnsLast : List Step → Type 0
TurnsLast history = (earlier later : List Step) (entry : Step) (ticket : ℕ) (actor : List ℕ) → history ≡ earlier ++ entry ∷ later → IsYours ticket entry → actor_of ticket (open_in earlier) ≡ Some actor
    → All (λ other. ¬ IsLeft ticket other) later → IsFirst (open_in history) ticket actor

-- where it was one ticket's turn and then another's of the same actor, the first was given before the other, and has left in between
pub record Follows (between : List Step) (ticket other : ℕ) : Type 0 where
  pub order : ticket < other
  pub left : ¬ All (λ entry. ¬ IsLeft ticket entry) between

abbrev pub TurnsFollow : List Step → Type 0
TurnsFollow history = (earlier between later : List Step) (entry next : Step) (ticket other : ℕ) (actor : List ℕ) → history ≡ earlier ++ entry ∷ between ++ next ∷ later → IsYours ticket entry → IsYours other next
    → actor_of ticket (open_in earlier) ≡ Some actor → actor_of other (open_in (earlier ++ entry ∷ between)) ≡ Some actor → ¬ (ticket ≡ other) → Follows between ticket other
