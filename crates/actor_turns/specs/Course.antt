-- Which tickets are open after a history, and what is answered after it.
use Rattle.std.specs.Prelude.{◌≡◌, ◌<◌, ◌+◌, ◌==◌, ℕ, List, [], ◌∷◌, ◌++◌, if◌then◌else◌, bytes_eq, filter, fold, length, map, not, Option, Some, None}
use Rattle.turn_cell.specs.declared.entry.Entry.{Entry}
use Rattle.actor_turns.specs.declared.command.TurnsCmd.{TurnsCmd}
use Rattle.actor_turns.specs.declared.command.TurnsCmd.TheVariants.{Join, Look, Leave}
use Rattle.actor_turns.specs.declared.command.TurnsReply.{TurnsReply}
use Rattle.actor_turns.specs.declared.command.TurnsReply.TheVariants.{Joined, Full, NoMemory, Yours, Behind, Left, NotOpen}
use Rattle.actor_turns.specs.Lines.{before}

-- one entry of a history
abbrev pub Step : Type 0
Step = Entry TurnsCmd TurnsReply

-- an open ticket, and the actor that it is for
pub record Open : Type 0 where
  pub ticket : ℕ
  pub actor : List ℕ

-- the actor of a ticket, if it is open
abbrev pub actor_of : ℕ → List Open → Option (List ℕ)
actor_of ticket [] = None
actor_of ticket (first ∷ held) = if first.ticket == ticket then Some first.actor else actor_of ticket held

-- the open tickets of an actor, in the order in which they were given
abbrev pub tickets_of : List ℕ → List Open → List ℕ
tickets_of actor held = map (λ (o : Open). o.ticket) (filter (λ (o : Open). bytes_eq o.actor actor) held)

-- what is open after an answer: a ticket is open from `Joined` to `Left`
abbrev pub open_after : List Open → TurnsCmd → TurnsReply → List Open
open_after held (Join actor) (Joined ticket) = held ++ record { ticket = ticket; actor = actor } ∷ []
open_after held (Leave ticket) Left = filter (λ (o : Open). not (o.ticket == ticket)) held
open_after held cmd reply = held

-- the tickets that are open after a history, in the order in which they were given
abbrev pub open_in : List Step → List Open
open_in history = fold (λ held (entry : Step). open_after held entry.cmd entry.reply) [] history

-- the ticket that was given last; 0 where none was
abbrev pub given_after : ℕ → TurnsReply → ℕ
given_after given (Joined ticket) = ticket
given_after given reply = given

abbrev pub given_in : List Step → ℕ
given_in history = fold (λ given (entry : Step). given_after given entry.reply) 0 history

-- how many open tickets of the actor are less
abbrev pub ahead_of : ℕ → List ℕ → List Open → ℕ
ahead_of ticket actor held = length (before ticket (tickets_of actor held))

-- what is answered to a look, by the actor of the ticket if it is open
abbrev pub LookAnswers : Option (List ℕ) → ℕ → List Open → TurnsReply → Type 0
LookAnswers None ticket held reply = reply ≡ NotOpen
LookAnswers (Some actor) ticket held reply = reply ≡ (if ahead_of ticket actor held == 0 then Yours else Behind (ahead_of ticket actor held))

abbrev pub LeaveAnswers : Option (List ℕ) → TurnsReply → Type 0
LeaveAnswers None reply = reply ≡ NotOpen
LeaveAnswers (Some actor) reply = reply ≡ Left

-- what is answered where these tickets are open, and this one was given last
abbrev pub Answers : List Open → ℕ → TurnsCmd → TurnsReply → Type 0
Answers held given (Join actor) (Joined ticket) = (length held < 4096) × (ticket ≡ given + 1)
Answers held given (Join actor) (Full waiting) = (length held ≡ 4096) × (waiting ≡ 4096)
Answers held given (Join actor) NoMemory = length held < 4096
Answers held given (Join actor) reply = ⊥
Answers held given (Look ticket) reply = LookAnswers (actor_of ticket held) ticket held reply
Answers held given (Leave ticket) reply = LeaveAnswers (actor_of ticket held) reply

-- an entry may come after a history
pub record IsStep (history : List Step) (entry : Step) : Type 0 where
  pub reply : Answers (open_in history) (given_in history) entry.cmd entry.reply
  pub mark : entry.mark ≡ 0
