-- What contracts see of a link in memory.
use Rattle.std.specs.Prelude.{◌≡◌, ◌⊎◌, ℕ, List, [], ◌∷◌, Option, Result, Ok, Err}
use Rattle.side_base.specs.declared.message.Response.{Response}
use Rattle.side_world.specs.declared.link.LinkCall.{LinkCall}
use Rattle.side_world.specs.declared.link.LinkErr.{LinkErr}
use Rattle.side_world.specs.declared.link.LinkErr.TheVariants.{Failed, Expired, NoMemory}
use Rattle.side_world.specs.Link.{IsReply}
use Rattle.disk_memory.specs.Plan.{Plan}

pub record LinkState : Type 0 where
  -- the answers that are left
  pub answers : List (Result Response LinkErr)
  -- the calls so far, where they are told
  pub calls : Option (List LinkCall)
  pub faults : ℕ
  pub expiries : ℕ
  -- which calls are to fail
  pub plan : Plan

-- a failed answer is the first of a list, of which these are left then: a fault, or a reply that no link may answer; or the list is
-- at its end
abbrev pub FailsBy : List (Result Response LinkErr) → List (Result Response LinkErr) → Type 0
FailsBy answers rest =
    (answers ≡ Err Failed ∷ rest) ⊎ (((reply : Response) × (answers ≡ Ok reply ∷ rest) × (IsReply reply → ⊥)) ⊎ ((answers ≡ []) × (rest ≡ [])))

-- an answer is the first of a list, of which these are left then
abbrev pub StartsWith : List (Result Response LinkErr) → Result Response LinkErr → List (Result Response LinkErr) → Type 0
StartsWith answers (Ok reply) rest = answers ≡ Ok reply ∷ rest
StartsWith answers (Err Failed) rest = FailsBy answers rest
StartsWith answers (Err Expired) rest = answers ≡ Err Expired ∷ rest
StartsWith answers (Err NoMemory) rest = answers ≡ Err NoMemory ∷ rest
