-- How a run ends: the exit status, and the line that the note gets.
use Rattle.std.specs.Prelude.{ℕ, List, [], ◌∷◌, ◌++◌, Option, None, Some, codes, decimal}
use Rattle.std.specs.Option.{option_or}
use Rattle.conn_serve.specs.declared.ended.Ended.{Ended}
use Rattle.conn_serve.specs.declared.ended.Ended.TheVariants as ends
use Rattle.http_frames.specs.Refusals.{refused_name}
use Rattle.sidecar_turns.specs.declared.draining.Drained.{Drained}
use Rattle.sidecar_turns.specs.declared.draining.Drained.TheVariants as drained
use Rattle.sidecar_cli.specs.declared.status.Status.{Status}
use Rattle.sidecar_cli.specs.declared.status.Status.TheVariants.{Ok, BadInput, Usage, BadResources, OutsideFailed, NoMemory, Limit, Spent}
use Rattle.sidecar_cli.specs.declared.status.Input.TheVariants.{Cut, Refused}
use Rattle.sidecar_cli.specs.declared.status.Device.{Device}
use Rattle.sidecar_cli.specs.declared.status.Device.TheVariants.{Source, Sink, Files, Disk, Acceptor, Outside, Link}

abbrev pub code_of : Status → ℕ
code_of Ok = 0
code_of (BadInput input) = 1
code_of Usage = 2
code_of (BadResources text) = 3
code_of (OutsideFailed device) = 4
code_of NoMemory = 5
code_of Limit = 6
code_of (Spent count) = 7

abbrev pub name_of : Device → List ℕ
name_of Source = codes "source"
name_of Sink = codes "sink"
name_of Files = codes "files"
name_of Disk = codes "disk"
name_of Acceptor = codes "acceptor"
name_of Outside = codes "outside"
name_of Link = codes "link"

-- a line of two parts, with its end
abbrev pub line_of : List ℕ → List ℕ → List ℕ
line_of front rest = front ++ (rest ++ 10 ∷ [])

abbrev pub text_of : Status → List ℕ
text_of Ok = []
text_of (BadInput Cut) = line_of (codes "input: ") (codes "cut")
text_of (BadInput (Refused why)) = line_of (codes "input: ") (refused_name why)
text_of Usage = line_of [] (codes "usage")
text_of (BadResources text) = line_of (codes "resources: ") text
text_of (OutsideFailed device) = line_of (codes "outside: ") (name_of device)
text_of NoMemory = line_of [] (codes "no memory")
text_of Limit = line_of [] (codes "limit")
text_of (Spent count) = line_of (codes "spent ") (decimal count)

-- how a run ends whose one connection ended so
abbrev pub status_of : Ended → Status
status_of ends.Done = Ok
status_of ends.Closed = Ok
status_of ends.Asked = Ok
status_of ends.ClosedByPeer = BadInput Cut
status_of (ends.Refused why) = BadInput (Refused why)
status_of ends.Limit = Limit
status_of (ends.Spent count) = Spent count
status_of ends.SourceFailed = OutsideFailed Source
status_of ends.SinkFailed = OutsideFailed Sink
status_of ends.NoMemory = NoMemory

-- what was read in the cell that ended a connection
abbrev pub spent_in : Ended → Option ℕ
spent_in ends.Done = None
spent_in ends.Closed = None
spent_in ends.Asked = None
spent_in ends.ClosedByPeer = None
spent_in (ends.Refused why) = None
spent_in ends.Limit = None
spent_in (ends.Spent count) = Some count
spent_in ends.SourceFailed = None
spent_in ends.SinkFailed = None
spent_in ends.NoMemory = None

-- an exhausted cell stands before all other ends
abbrev pub spent_or : Option ℕ → Status → Status
spent_or None status = status
spent_or (Some count) status = Spent count

-- how a run ends whose connection ended so, where this was read in an exhausted cell, if there is one
abbrev pub status_after : Ended → Option ℕ → Status
status_after ended spent = spent_or (option_or (spent_in ended) spent) (status_of ended)

-- how ticks and the deliveries behind them ended: for want of memory where either found none, and else as the deliveries did
abbrev pub together : Drained → Drained → Drained
together drained.Held delivered = drained.Held
together drained.Done delivered = delivered
together (drained.Spent count) delivered = delivered
together drained.UsedUp delivered = delivered

-- and then ticks were taken and what is due was delivered: a run that would have ended well ends for want of memory where one of them found none
abbrev pub held_over : Drained → Status → Status
held_over drained.Held Ok = NoMemory
held_over how status = status
