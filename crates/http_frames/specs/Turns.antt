-- What `src/turn` answers, for the clauses of private functions.
use Rattle.std.specs.Prelude.{◌≡◌, ℕ, ◌+◌, ◌<◌, ◌≤◌, List, length, drop, Bool, true, false, Result, Ok, Err}
use Rattle.std.specs.declared.alloc.AllocError.{AllocError}
use Rattle.httparse.specs.Grammar.{RequestHead}
use Rattle.side_base.specs.declared.message.Request.{Request}
use Rattle.http_frames.specs.HeadRules.{HEAD_LIMIT, fields_of, asks_to_continue, request_of}
use Rattle.http_frames.specs.Requests.{ReadsHead, ReadsWhole, HasNoWhole, IsRefused, IsAccepted}
use Rattle.http_frames.specs.Framing.{IsQuiet}
use Rattle.http_frames.specs.Progress.{HoldsContent}
use Rattle.http_frames.specs.Framer.{IsStage}
use Rattle.http_frames.specs.Lines.{beginning}
use Rattle.http_frames.specs.declared.framer.Stage.{Stage}
use Rattle.http_frames.specs.declared.framer.Stage.TheVariants as stage
use Rattle.http_frames.specs.declared.turn.Turn.{Turn}
use Rattle.http_frames.specs.declared.turn.Turn.TheVariants as turn

-- a whole request begins the bytes, behind which rest stands, and its `Continue` was given where it asks for one
pub record IsRequestTo (pending rest : List ℕ) (continued : Bool) (request : Request) : Type 0 where
  pub head : RequestHead
  pub body : List ℕ
  pub whole : ReadsWhole pending head body rest
  pub is : request ≡ request_of head body
  pub told : asks_to_continue head.minor (fields_of head) ≡ true → continued ≡ true

-- a head that asks for `Continue` begins the bytes
pub record IsAsking (pending : List ℕ) : Type 0 where
  pub head : RequestHead
  pub after : List ℕ
  pub heads : ReadsHead pending head after
  pub asks : asks_to_continue head.minor (fields_of head) ≡ true

-- the bytes are those that were read at a stage of an open stream, and then rest
abbrev pub Holds : List ℕ → List ℕ → Stage → Type 0
Holds pending rest (stage.Head place) = pending ≡ rest
Holds pending rest (stage.Content content) = HoldsContent pending rest content
Holds pending rest (stage.Refused error) = ⊥

abbrev pub IsTurn : List ℕ → List ℕ → Bool → Stage × Result Turn AllocError → Type 0
IsTurn pending rest continued (next, Ok (turn.Request request end)) = IsRequestTo pending (drop end rest) continued request
IsTurn pending rest continued (next, Ok turn.Continue) = IsAsking pending × (continued ≡ false) × Holds pending rest next
IsTurn pending rest continued (next, Ok turn.Need) =
    HasNoWhole pending × IsAccepted pending × IsQuiet pending continued × Holds pending rest next
IsTurn pending rest continued (next, Ok (turn.Refused error)) = IsRefused pending error × IsQuiet pending continued
IsTurn pending rest continued (next, Err error) = Holds pending rest next

-- what is left at a stage of an open stream
abbrev pub IsOpen : List ℕ → Bool → Stage → Type 0
IsOpen rest continued (stage.Head place) = IsStage rest continued (stage.Head place)
IsOpen rest continued (stage.Content content) = IsStage rest continued (stage.Content content)
IsOpen rest continued (stage.Refused error) = ⊥

-- what is left behind a turn, of which rest was not read
abbrev pub Leaves : List ℕ → Bool → Stage × Result Turn AllocError → Type 0
Leaves rest continued (next, Ok (turn.Request request end)) = (next ≡ stage.Head beginning) × (end ≤ length rest)
Leaves rest continued (next, Ok turn.Continue) = IsOpen rest true next
Leaves rest continued (next, Ok turn.Need) = IsOpen rest continued next × (length rest < HEAD_LIMIT + HEAD_LIMIT)
Leaves rest continued (next, Ok (turn.Refused error)) = next ≡ stage.Refused error
Leaves rest continued (next, Err error) = IsOpen rest continued next

-- the turn from a stage on, with what was not read before it and behind it; a refused stream is refused again
abbrev pub TakesTurn : List ℕ → List ℕ → List ℕ → Bool → Stage → Stage × Result Turn AllocError → Type 0
TakesTurn pending rest rest' continued (stage.Head place) result = pending ≡ rest → IsTurn pending rest' continued result
TakesTurn pending rest rest' continued (stage.Content content) result = HoldsContent pending rest content → IsTurn pending rest' continued result
TakesTurn pending rest rest' continued (stage.Refused error) result = result ≡ (stage.Refused error, Ok (turn.Refused error))
