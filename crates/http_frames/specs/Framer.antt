-- What the fields of a framer stand for.
use Rattle.std.specs.Prelude.{◌≡◌, ℕ, ◌≤◌, ◌+◌, List, [], length, drop, Bool, false, Some, None}
use Rattle.http_frames.specs.Framing.{Kept}
use Rattle.http_frames.specs.Lines.{IsPlace}
use Rattle.http_frames.specs.Progress.{IsSound}
use Rattle.http_frames.specs.declared.framer.Stage.{Stage}
use Rattle.http_frames.specs.declared.framer.Stage.TheVariants as stage
use Rattle.http_frames.specs.declared.framer.Framer.TheInside.{Inside}

-- what is kept at a stage, with these bytes that were not read behind so many that were; a refused stream has all that stand there behind it
abbrev pub kept_at : ℕ → List ℕ → Bool → Stage → Kept
kept_at start rest continued (stage.Head place) = record { begun = None; buffered = rest; behind = start; continued = continued; refused = None }
kept_at start rest continued (stage.Content content) = record { begun = Some content; buffered = rest; behind = start; continued = continued; refused = None }
kept_at start rest continued (stage.Refused error) = record { begun = None; buffered = []; behind = start + length rest; continued = false; refused = Some error }

-- the bytes that were not read
abbrev pub rest_of : Inside → List ℕ
rest_of framer = drop framer.start framer.bytes.items

abbrev pub kept_of : Inside → Kept
kept_of framer = kept_at framer.start (rest_of framer) framer.continued framer.stage

-- before its head is whole no request was answered by `Continue`, and so much of it is as read; then its head and what came of its content are
-- within their limits
abbrev pub IsStage : List ℕ → Bool → Stage → Type 0
IsStage rest continued (stage.Head place) = (continued ≡ false) × IsPlace rest place
IsStage rest continued (stage.Content content) = IsSound content
IsStage rest continued (stage.Refused error) = Unit {0}

-- a refused stream keeps no bytes
abbrev pub IsEmptied : List ℕ → Stage → Type 0
IsEmptied bytes (stage.Head place) = Unit {0}
IsEmptied bytes (stage.Content content) = Unit {0}
IsEmptied bytes (stage.Refused error) = bytes ≡ []

abbrev pub IsFramer : Inside → Type 0
IsFramer framer = (framer.start ≤ length framer.bytes.items) × IsStage (rest_of framer) framer.continued framer.stage × IsEmptied framer.bytes.items framer.stage
