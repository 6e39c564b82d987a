-- What the answers of a link say.
use Rattle.std.specs.Prelude.{◌≡◌, ◌≤◌, ℕ, length, Result, Ok, Err}
use Rattle.side_base.specs.declared.message.Response.{Response}
use Rattle.side_world.specs.declared.link.LinkErr.{LinkErr}
use Rattle.side_world.specs.declared.link.LinkErr.TheVariants.{Failed, Expired, NoMemory}
use Rattle.side_world.specs.Faults.{Rose}

-- the count of faults rose exactly where the call failed
abbrev pub CountsFault : {X : Type 0} → Result X LinkErr → ℕ → ℕ → Type 0
CountsFault (Ok answer) before after = after ≡ before
CountsFault (Err Failed) before after = Rose before after
CountsFault (Err Expired) before after = after ≡ before
CountsFault (Err NoMemory) before after = after ≡ before

-- the count of expiries rose exactly where the call expired
abbrev pub CountsExpiry : {X : Type 0} → Result X LinkErr → ℕ → ℕ → Type 0
CountsExpiry (Ok answer) before after = after ≡ before
CountsExpiry (Err Failed) before after = after ≡ before
CountsExpiry (Err Expired) before after = Rose before after
CountsExpiry (Err NoMemory) before after = after ≡ before

-- a reply that a link may answer: a final status below 600, and at most 4 MiB of content
pub record IsReply (response : Response) : Type 0 where
  pub final : 200 ≤ response.status
  pub known : response.status ≤ 599
  pub short : length response.body ≤ 4194304
