-- What whole streams hold, and what a framer gives for them however they were cut.
use Rattle.std.specs.Prelude.{◌≡◌, ℕ, ◌⊎◌, List, [], ◌∷◌, ◌++◌, Bool, true, false, if◌then◌else◌, Option, Some, None, Result, Ok, Err}
use Rattle.std.specs.List.{flat_map}
use Rattle.httparse.specs.Grammar.{RequestHead}
use Rattle.side_base.specs.declared.message.Request.{Request}
use Rattle.http_frames.specs.declared.step.Step.{Step}
use Rattle.http_frames.specs.declared.step.Step.TheVariants as step
use Rattle.http_frames.specs.declared.refusal.FrameErr.{FrameErr}
use Rattle.http_frames.specs.declared.refusal.FrameErr.TheVariants.{NoMemory}
use Rattle.http_frames.specs.HeadRules.{fields_of, asks_to_continue, request_of}
use Rattle.http_frames.specs.Requests.{ReadsHead, ReadsWhole, HasNoWhole, IsRefused, IsAccepted}
use Rattle.http_frames.specs.Framing.{State, waiting, ended, fed, IsNext}

-- a whole request of a stream
pub record Whole : Type 0 where
  pub head : RequestHead
  pub body : List ℕ

-- the text begins with these whole requests, one behind the other, and then has rest
abbrev pub Begins : List ℕ → List Whole → List ℕ → Type 0
Begins text [] rest = text ≡ rest
Begins text (whole ∷ wholes) rest = (after : List ℕ) × ReadsWhole text whole.head whole.body after × Begins after wholes rest

-- the text is these whole requests and a rest, of which no prefix is a whole request
pub record IsStream (text : List ℕ) (wholes : List Whole) (rest : List ℕ) : Type 0 where
  pub begins : Begins text wholes rest
  pub none : HasNoWhole rest

-- the head asks for `Continue`
abbrev pub asks : RequestHead → Bool
asks head = asks_to_continue head.minor (fields_of head)

-- what a framer gives for a whole request: `Continue` where its head asks for it, and the request
abbrev pub steps_of : Whole → List Step
steps_of whole = (if asks whole.head then step.Continue ∷ [] else []) ++ step.Request (request_of whole.head whole.body) ∷ []

-- a head that breaks no rule and asks for `Continue` begins the text
pub record IsAsking (text : List ℕ) : Type 0 where
  pub head : RequestHead
  pub after : List ℕ
  pub heads : ReadsHead text head after
  pub asking : asks head ≡ true

-- what a framer gives for the rest: `Continue` where such a head begins it
abbrev pub RestGives : List ℕ → List Step → Type 0
RestGives rest steps = (IsAsking rest × (steps ≡ step.Continue ∷ [])) ⊎ (¬ (IsAsking rest) × (steps ≡ []))

-- whether the rest is refused, and why
abbrev pub RestEnds : List ℕ → Option FrameErr → Type 0
RestEnds rest None = IsAccepted rest
RestEnds rest (Some error) = IsRefused rest error

-- all steps that the text gives, and whether it is refused behind them
pub record Gives (text : List ℕ) (steps : List Step) (refusal : Option FrameErr) : Type 0 where
  pub wholes : List Whole
  pub rest : List ℕ
  pub stream : IsStream text wholes rest
  pub mark : List Step
  pub marked : RestGives rest mark
  pub all : steps ≡ flat_map steps_of wholes ++ mark
  pub end : RestEnds rest refusal

-- the steps among the answers of `next` that take the stream on
abbrev pub given : Result Step FrameErr → List Step
given (Ok step.Need) = []
given (Ok one) = one ∷ []
given (Err error) = []

-- what a framer was fed in all since it was made, the steps that it gave, and what it then holds
pub data Run : List ℕ → List Step → State → Type 0 where
  made : Run [] [] (waiting [] false)
  feeds : {bytes : List ℕ} {steps : List Step} {state : State} (piece : List ℕ) → Run bytes steps state → Run (bytes ++ piece) steps (fed state piece)
  gives : {bytes : List ℕ} {steps : List Step} {state : State} (answer : Result Step FrameErr) (new : State) → Run bytes steps state → IsNext state answer new → Run bytes (steps ++ given answer) new

-- ---- a stream that goes on

-- Mid-stream: the bytes that were fed in all begin with the whole requests that were given, and then have what is pending; `Continue` was given for that only
-- where its head asks for it
pub record Midway (bytes : List ℕ) (wholes : List Whole) (state : State) : Type 0 where
  pub waits : state.refused ≡ None
  pub begins : Begins bytes wholes state.pending
  pub asking : state.continued ≡ true → IsAsking state.pending

-- the steps that were given so far: those of the whole requests, and `Continue` where it was given for what is pending
abbrev pub steps_until : List Whole → State → List Step
steps_until wholes state = flat_map steps_of wholes ++ (if state.continued then step.Continue ∷ [] else [])

-- the steps that were given so far are those of whole requests that the bytes begin with, in order
pub record HasGiven (bytes : List ℕ) (steps : List Step) (state : State) : Type 0 where
  pub wholes : List Whole
  pub midway : Midway bytes wholes state
  pub all : steps ≡ steps_until wholes state

-- one more request is given, which is the next whole one of the bytes; `Continue` was given before exactly where its head asks for it
pub record GivesRequest (bytes : List ℕ) (wholes : List Whole) (old : State) (request : Request) (new : State) : Type 0 where
  pub whole : Whole
  pub is : request ≡ request_of whole.head whole.body
  pub told : asks whole.head ≡ old.continued
  pub midway : Midway bytes (wholes ++ whole ∷ []) new

-- `Continue` is given for what is pending, whose head asks for it and had none
pub record GivesContinue (bytes : List ℕ) (wholes : List Whole) (old new : State) : Type 0 where
  pub untold : old.continued ≡ false
  pub told : new ≡ waiting old.pending true
  pub midway : Midway bytes wholes new

-- whether `Continue` was given for the text is whether a head begins it that asks for it
abbrev pub IsMarked : List ℕ → Bool → Type 0
IsMarked text true = IsAsking text
IsMarked text false = ¬ (IsAsking text)

-- all whole requests of the bytes were given, and what is pending is their rest, which is refused so or not refused
pub record IsWholeStream (bytes : List ℕ) (wholes : List Whole) (state : State) (refusal : Option FrameErr) : Type 0 where
  pub stream : IsStream bytes wholes state.pending
  pub marked : IsMarked state.pending state.continued
  pub end : RestEnds state.pending refusal

-- what an answer of `next` says of a stream that was mid-stream
abbrev pub GoesOn : List ℕ → List Whole → State → Result Step FrameErr → State → Type 0
GoesOn bytes wholes old (Ok (step.Request request)) new = GivesRequest bytes wholes old request new
GoesOn bytes wholes old (Ok step.Continue) new = GivesContinue bytes wholes old new
GoesOn bytes wholes old (Ok step.Need) new = IsWholeStream bytes wholes old None × (new ≡ old)
GoesOn bytes wholes old (Err NoMemory) new = new ≡ old
GoesOn bytes wholes old (Err error) new = IsWholeStream bytes wholes old (Some error) × (new ≡ ended error)

-- ---- all that a stream gives

-- the first of what is still to come: a step; or, behind all of them, a refusal or the need of more bytes
abbrev pub first : List Step → Option FrameErr → Result Step FrameErr
first (one ∷ steps) refusal = Ok one
first [] None = Ok step.Need
first [] (Some error) = Err error

-- a framer was fed these bytes in all, gave these steps, and this is its next answer
pub record HasAnswered (bytes : List ℕ) (steps : List Step) (answer : Result Step FrameErr) : Type 0 where
  pub state : State
  pub new : State
  pub run : Run bytes steps state
  pub next : IsNext state answer new

-- an answer that says that all was given, and whether the stream is refused
abbrev pub IsLast : Result Step FrameErr → Option FrameErr → Type 0
IsLast answer refusal = (answer ≡ first [] refusal) × ¬ (answer ≡ Err NoMemory)

-- a framer was fed these bytes in all, gave these steps, and has answered that there are no more, and why
pub record HasEnded (bytes : List ℕ) (steps : List Step) (refusal : Option FrameErr) : Type 0 where
  pub state : State
  pub new : State
  pub answer : Result Step FrameErr
  pub run : Run bytes steps state
  pub next : IsNext state answer new
  pub last : IsLast answer refusal

-- one list of steps begins another
abbrev pub IsFront : List Step → List Step → Type 0
IsFront front steps = (left : List Step) × (steps ≡ front ++ left)

-- the answer is the first of those steps of the text that were not given, or its end; or there was no memory
abbrev pub IsAnswerAfter : List Step → List Step → Option FrameErr → Result Step FrameErr → Type 0
IsAnswerAfter steps all refusal answer =
    (left : List Step) × (all ≡ steps ++ left) × ((answer ≡ first left refusal) ⊎ (answer ≡ Err NoMemory))
