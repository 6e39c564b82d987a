-- What an acceptor answers, what comes back to it, and how it tells both.
use Rattle.std.specs.Prelude.{◌≡◌, ℕ, Bool, false, List, [], ◌∷◌, ◌++◌, Option, Some, None}
use Rattle.side_world.specs.declared.acceptor.Accepted.{Accepted}
use Rattle.side_world.specs.declared.acceptor.Accepted.TheVariants as accepted
use Rattle.side_world.specs.declared.source.Source.{Ghosts as Reads}
use Rattle.side_world.specs.declared.sink.Sink.{Ghosts as Writes}
use Rattle.side_world.specs.Faults.{Rose}
use Rattle.side_world.specs.Told.{IsFresh}

-- a connection that came back: the bytes that were read from it, of them those that all reads but the last have given, the bytes that were written to it,
-- whether its source has ended, and the counts of faults of its source and its sink
pub record Back : Type 0 where
  pub read : List ℕ
  pub earlier : List ℕ
  pub written : List ℕ
  pub ended : Bool
  pub faults : ℕ
  pub sink_faults : ℕ

-- an answer of an acceptor: a connection with what came back of it, or without while it is out; nothing in the time of a short
-- wait; no connection any more; a fault
pub data Answer : Type 0 where
  conn : Option Back → Answer
  idle : Answer
  closed : Answer
  failed : Answer

module _ {S N : Type 0} where
  abbrev pub answer_of : Accepted S N → Answer
  answer_of (accepted.Conn source sink) = conn None
  answer_of accepted.Idle = idle
  answer_of accepted.Closed = closed
  answer_of accepted.Failed = failed

  -- a fact about the connection, where one was accepted
  abbrev pub IfConn : Accepted S N → (S → N → Type 0) → Type 0
  IfConn (accepted.Conn source sink) fact = fact source sink
  IfConn accepted.Idle fact = Unit {0}
  IfConn accepted.Closed fact = Unit {0}
  IfConn accepted.Failed fact = Unit {0}

  -- the count of faults rose exactly where the acceptor failed
  abbrev pub CountsFault : Accepted S N → ℕ → ℕ → Type 0
  CountsFault (accepted.Conn source sink) before after = after ≡ before
  CountsFault accepted.Idle before after = after ≡ before
  CountsFault accepted.Closed before after = after ≡ before
  CountsFault accepted.Failed before after = Rose before after

module _ {S N : Type 0} (reads : Reads S) (writes : Writes N) where
  -- a connection of which nothing was read and to which nothing was written, and which hasn't failed
  pub record IsNew (source : S) (sink : N) : Type 0 where
    pub not_ended : reads.ended source ≡ false
    pub no_faults : reads.faults source ≡ 0
    pub no_sink_faults : writes.faults sink ≡ 0
    pub unread : IsFresh (reads.taken source)
    pub no_earlier : IsFresh (reads.earlier source)
    pub unwritten : IsFresh (writes.contents sink)

  -- what comes back of a connection whose source and sink tell it
  pub record ComesBack (source : S) (sink : N) (back : Back) : Type 0 where
    pub read : reads.taken source ≡ Some back.read
    pub earlier : reads.earlier source ≡ Some back.earlier
    pub written : writes.contents sink ≡ Some back.written
    pub ended : reads.ended source ≡ back.ended
    pub faults : reads.faults source ≡ back.faults
    pub sink_faults : writes.faults sink ≡ back.sink_faults

-- where the answers are told afterwards, the last of those before was a connection that was out, and it has come back so
abbrev pub Returns : Option (List Answer) → Option (List Answer) → (Back → Type 0) → Type 0
Returns before after came =
    (all : List Answer) → after ≡ Some all
    → (held : List Answer) × (back : Back) × (before ≡ Some (held ++ conn None ∷ [])) × (all ≡ held ++ conn (Some back) ∷ []) × came back

-- where the answers are told afterwards, they were told before, and a connection was added, of which this is so as it came back
abbrev pub AddsConn : Option (List Answer) → Option (List Answer) → (Back → Type 0) → Type 0
AddsConn before after came =
    (all : List Answer) → after ≡ Some all
    → (held : List Answer) × (back : Back) × (before ≡ Some held) × (all ≡ held ++ conn (Some back) ∷ []) × came back
