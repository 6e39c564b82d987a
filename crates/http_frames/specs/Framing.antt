-- What a framer holds, and what each of its calls does.
use Rattle.std.specs.Prelude.{◌≡◌, ℕ, ◌+◌, ◌<◌, ◌⊎◌, List, [], ◌++◌, length, Bool, true, false, Option, Some, None, Result, Ok, Err}
use Rattle.httparse.specs.Grammar.{RequestHead}
use Rattle.side_base.specs.declared.message.Request.{Request}
use Rattle.http_frames.specs.HeadRules.{fields_of, asks_to_continue, request_of}
use Rattle.http_frames.specs.Requests.{ReadsHead, ReadsWhole, HasNoWhole, IsRefused, IsAccepted}
use Rattle.http_frames.specs.Progress.{HoldsContent}
use Rattle.http_frames.specs.declared.progress.Content.{Content}
use Rattle.http_frames.specs.declared.step.Step.{Step}
use Rattle.http_frames.specs.declared.step.Step.TheVariants as step
use Rattle.http_frames.specs.declared.refusal.FrameErr.{FrameErr}
use Rattle.http_frames.specs.declared.refusal.FrameErr.TheVariants.{NoMemory}

-- the bytes from the start of the request that is not whole yet, whether its `Continue` was given, and the refusal
-- that ended the stream, after which no bytes are kept
pub record State : Type 0 where
  pub pending : List ℕ
  pub continued : Bool
  pub refused : Option FrameErr

-- what came of the content
abbrev pub content_of : Option Content → List ℕ
content_of None = []
content_of (Some content) = content.body.bytes

-- What a framer keeps of a state: of the bytes that it has read and dropped the request that they begin, if they do; the bytes behind them, and the rest
pub record Kept : Type 0 where
  pub begun : Option Content
  pub buffered : List ℕ
  -- the bytes that were read and stand in the buffer still
  pub behind : ℕ
  pub continued : Bool
  pub refused : Option FrameErr

-- what is pending is the bytes that were read and dropped, none or a head and a part of its content, and then those that are kept
abbrev pub IsPending : Option Content → List ℕ → List ℕ → Type 0
IsPending None pending buffered = pending ≡ buffered
IsPending (Some content) pending buffered = HoldsContent pending buffered content

-- The framer stands for the state: the bytes that were read and dropped, and then those that it keeps, are what is pending
pub record Stands (state : State) (kept : Kept) : Type 0 where
  pub pending : IsPending kept.begun state.pending kept.buffered
  pub continued : state.continued ≡ kept.continued
  pub refused : state.refused ≡ kept.refused

-- a stream that is not refused
abbrev pub waiting : List ℕ → Bool → State
waiting pending continued = record { pending = pending; continued = continued; refused = None }

-- a stream that is
abbrev pub ended : FrameErr → State
ended error = record { pending = []; continued = false; refused = Some error }

-- bytes that come: a refused stream keeps none
abbrev pub grown : Option FrameErr → State → List ℕ → State
grown None state piece = waiting (state.pending ++ piece) state.continued
grown (Some error) state piece = state

abbrev pub fed : State → List ℕ → State
fed state piece = grown state.refused state piece

-- where the head of the unfinished request asks for `Continue`, that was given
abbrev pub IsQuiet : List ℕ → Bool → Type 0
IsQuiet pending continued = (head : RequestHead) (after : List ℕ) → ReadsHead pending head after
    → asks_to_continue head.minor (fields_of head) ≡ true → continued ≡ true

-- a whole request is given, and the bytes behind it are left
pub record IsRequestStep (old : State) (request : Request) (new : State) : Type 0 where
  pub waits : old.refused ≡ None
  pub head : RequestHead
  pub body : List ℕ
  pub rest : List ℕ
  pub whole : ReadsWhole old.pending head body rest
  pub is : request ≡ request_of head body
  pub told : asks_to_continue head.minor (fields_of head) ≡ true → old.continued ≡ true
  pub after : new ≡ waiting rest false

-- `Continue` is given for a head that asks for it, once
pub record IsContinueStep (old new : State) : Type 0 where
  pub waits : old.refused ≡ None
  pub head : RequestHead
  pub after : List ℕ
  pub heads : ReadsHead old.pending head after
  pub asks : asks_to_continue head.minor (fields_of head) ≡ true
  pub untold : old.continued ≡ false
  pub told : new ≡ waiting old.pending true

-- nothing further: no whole request begins the bytes, no front of them is refused, and no `Continue` is due
pub record IsNeedStep (old new : State) : Type 0 where
  pub waits : old.refused ≡ None
  pub none : HasNoWhole old.pending
  pub accepted : IsAccepted old.pending
  pub quiet : IsQuiet old.pending old.continued
  pub same : new ≡ old

-- the bytes are refused, which ends the stream
pub record IsRefusal (old : State) (error : FrameErr) : Type 0 where
  pub waits : old.refused ≡ None
  pub refused : IsRefused old.pending error
  pub quiet : IsQuiet old.pending old.continued

-- what a call of `next` gives
abbrev pub IsNext : State → Result Step FrameErr → State → Type 0
IsNext old (Ok (step.Request request)) new = IsRequestStep old request new
IsNext old (Ok step.Continue) new = IsContinueStep old new
IsNext old (Ok step.Need) new = IsNeedStep old new
IsNext old (Err NoMemory) new = new ≡ old
IsNext old (Err error) new = (new ≡ ended error) × ((old ≡ ended error) ⊎ IsRefusal old error)

-- the number of bytes that are held: those of the content that came, and those that were not read
abbrev pub held : Kept → ℕ
held kept = length kept.buffered + length (content_of kept.begun)

-- the number of bytes that stand in the buffer and in the content, those that were read among them
abbrev pub stored : Kept → ℕ
stored kept = kept.behind + held kept

-- all that is held of a request that is not whole: its content, and a chunk line and trailers
abbrev pub HELD_LIMIT : ℕ
HELD_LIMIT = 4227072

-- where more bytes are needed no more is held
abbrev pub HasRoom : Result Step FrameErr → Kept → Type 0
HasRoom (Ok (step.Request request)) kept = Unit {0}
HasRoom (Ok step.Continue) kept = Unit {0}
HasRoom (Ok step.Need) kept = held kept < HELD_LIMIT
HasRoom (Err error) kept = Unit {0}

-- a refused stream is refused again, which takes no memory
abbrev pub IsRefusedAgain : Option FrameErr → Result Step FrameErr → Type 0
IsRefusedAgain None answer = Unit {0}
IsRefusedAgain (Some error) answer = answer ≡ Err error

-- a call of `next` gives this, and the framer then stands for what the call leaves
pub record Answers (old : State) (answer : Result Step FrameErr) (kept : Kept) : Type 0 where
  pub new : State
  pub next : IsNext old answer new
  pub again : IsRefusedAgain old.refused answer
  pub stands : Stands new kept
  pub room : HasRoom answer kept
