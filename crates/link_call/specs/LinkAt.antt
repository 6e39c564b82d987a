-- What calls of a link do to what it shows.
use Rattle.std.specs.Prelude.{◌≡◌, ◌≤◌, ℕ, List, [], ◌∷◌, ◌++◌, Option, Result, IfOk, refl}
use Rattle.std.proofs.Common.{◌∙◌, subst, sym}
use Rattle.side_base.specs.declared.message.LinkRequest.{LinkRequest}
use Rattle.side_base.specs.declared.message.Response.{Response}
use Rattle.side_world.specs.declared.link.Link.{Ghosts}
use Rattle.side_world.specs.declared.link.LinkCall.{LinkCall}
use Rattle.side_world.specs.declared.link.LinkErr.{LinkErr}
use Rattle.side_world.specs.Link.{CountsFault, CountsExpiry, IsReply}
use Rattle.side_world.specs.Told.{Tells}
use Rattle.side_world.proofs.Composed.{tells_nothing, tells_on}

-- what a link shows: its calls, where it tells them, and how often one failed or expired
pub record LinkAt : Type 0 where
  pub calls : Option (List LinkCall)
  pub faults : ℕ
  pub expiries : ℕ

abbrev pub link_at : {L : Type 0} → Ghosts L → L → LinkAt
link_at link l = record { calls = link.calls l; faults = link.faults l; expiries = link.expiries l }

-- what a link shows before and after
pub record Links : Type 0 where
  pub before : LinkAt
  pub after : LinkAt

abbrev pub links : {L : Type 0} → Ghosts L → L → L → Links
links link l l' = record { before = link_at link l; after = link_at link l' }

-- one call after the other changes a count so, by what it answers, and none lowers it
abbrev pub Counted : (Result Response LinkErr → ℕ → ℕ → Type 0) → List LinkCall → ℕ → ℕ → Type 0
Counted counts [] before after = after ≡ before
Counted counts (call ∷ calls) before after = (between : ℕ) × counts call.answer before between × (before ≤ between) × Counted counts calls between after

-- each reply is one that a link may answer: a final status below 600, and at most 4 MiB of content
abbrev pub AreReplies : List LinkCall → Type 0
AreReplies [] = Unit {0}
AreReplies (call ∷ calls) = IfOk call.answer IsReply × AreReplies calls

-- These calls were made, in order: they are what the link tells, its count of faults rose exactly at those that failed, and that of expiries exactly at those that
-- expired
pub record Asks (before : LinkAt) (calls : List LinkCall) (after : LinkAt) : Type 0 where
  pub told : Tells before.calls after.calls calls
  pub faults : Counted CountsFault calls before.faults after.faults
  pub expiries : Counted CountsExpiry calls before.expiries after.expiries
  pub replies : AreReplies calls

-- an operation still asks the same by the same link, which these calls were made of
pub record Holds (request : LinkRequest) (name : ℕ) (before : LinkAt) (calls : List LinkCall) (request' : LinkRequest) (name' : ℕ) (after : LinkAt) : Type 0 where
  pub same_request : request' ≡ request
  pub same_link : name' ≡ name
  pub asks : Asks before calls after

-- ---- no call, and calls one after the other

counted_more : (counts : Result Response LinkErr → ℕ → ℕ → Type 0) (calls others : List LinkCall) (before between after : ℕ) → Counted counts calls before between → Counted counts others between after → Counted counts (calls ++ others) before after
counted_more counts [] others before between after one two = subst (λ n. Counted counts others n after) one two
counted_more counts (call ∷ calls) others before between after one two = (one.0, one.1, one.2, counted_more counts calls others one.0 between after one.3 two)

replies_more : (calls others : List LinkCall) → AreReplies calls → AreReplies others → AreReplies (calls ++ others)
replies_more [] others one two = two
replies_more (call ∷ calls) others one two = (one.0, replies_more calls others one.1 two)

pub asks_none : (at : LinkAt) → Asks at [] at
asks_none at = record { told = tells_nothing at.calls; faults = refl; expiries = refl; replies = tt }

pub asks_more : (at : LinkAt) (calls : List LinkCall) (at' : LinkAt) (others : List LinkCall) (at'' : LinkAt) → Asks at calls at' → Asks at' others at'' → Asks at (calls ++ others) at''
asks_more at calls at' others at'' one two = record {
  told = tells_on at.calls at'.calls at''.calls calls others one.told two.told;
  faults = counted_more CountsFault calls others at.faults at'.faults at''.faults one.faults two.faults;
  expiries = counted_more CountsExpiry calls others at.expiries at'.expiries at''.expiries one.expiries two.expiries;
  replies = replies_more calls others one.replies two.replies;
}

pub holds_none : (request : LinkRequest) (name : ℕ) (at : LinkAt) → Holds request name at [] request name at
holds_none request name at = record { same_request = refl; same_link = refl; asks = asks_none at }

pub holds_more : (request : LinkRequest) (name : ℕ) (at : LinkAt) (calls : List LinkCall) (request' : LinkRequest) (name' : ℕ) (at' : LinkAt) (others : List LinkCall) (request'' : LinkRequest) (name'' : ℕ) (at'' : LinkAt)
    → Holds request name at calls request' name' at' → Holds request' name' at' others request'' name'' at'' → Holds request name at (calls ++ others) request'' name'' at''
holds_more request name at calls request' name' at' others request'' name'' at'' one two = record {
  same_request = two.same_request ∙ one.same_request;
  same_link = two.same_link ∙ one.same_link;
  asks = asks_more at calls at' others at'' one.asks two.asks;
}
