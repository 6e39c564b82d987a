-- How a desk goes on through what is done for its requests, and what an exchange is that finds no room for its response.
use Rattle.std.specs.Prelude.{◌≡◌, ℕ, List, [], ◌++◌, Result, Ok, Err, refl}
use Rattle.std.proofs.Common.{◌∙◌, inl, inr, sym, subst}
use Rattle.side_base.specs.declared.message.Request.{Request}
use Rattle.side_base.specs.declared.message.Response.{Response}
use Rattle.turn_cell.specs.declared.error.ApiErr.{ApiErr}
use Rattle.turn_cell.specs.declared.error.ApiErr.TheVariants as error
use Rattle.sidecar_core.specs.declared.config.Config.{Config}
use Rattle.sidecar_objects.specs.declared.doing.Doing.{Doing}
use Rattle.sidecar_objects.specs.Kind.{Kinds, CellsAt}
use Rattle.sidecar_objects.specs.Did.{Standing, Did}
use Rattle.sidecar_objects.specs.Passes.{IsPassOf}
use Rattle.sidecar_objects.specs.Composed.{did_nothing, did_on, pass_stays}
use Rattle.sidecar_core.specs.Exchange.{Exchange, IsSaid, Replied}

-- which borrows a desk holds
pub record Borrowed : Type 0 where
  pub pass : ℕ
  pub link : ℕ
  pub clock : ℕ
  pub rng : ℕ

-- the desk has the same shared objects and holds the same borrows, and these events were done by it
pub record Goes {S O : Type 0} (kinds : Kinds O) (cells_at : S → CellsAt O) (shared : S) (held : Borrowed) (at : Standing O) (events : List Doing) (shared' : S) (held' : Borrowed) (after : Standing O) : Type 0 where
  pub same : shared' ≡ shared
  pub same_pass : held'.pass ≡ held.pass
  pub same_link : held'.link ≡ held.link
  pub same_clock : held'.clock ≡ held.clock
  pub same_rng : held'.rng ≡ held.rng
  pub went : Did kinds (cells_at shared) at events after

module _ {S O : Type 0} (kinds : Kinds O) (cells_at : S → CellsAt O) where
  pub goes_nowhere : (shared : S) (held : Borrowed) (at : Standing O) → Goes kinds cells_at shared held at [] shared held at
  goes_nowhere shared held at = record { same = refl; same_pass = refl; same_link = refl; same_clock = refl; same_rng = refl; went = did_nothing kinds (cells_at shared) at }

  pub goes_on : (shared : S) (held : Borrowed) (at : Standing O) (first : List Doing) (shared' : S) (held' : Borrowed) (between : Standing O) (second : List Doing) (shared'' : S) (held'' : Borrowed) (after : Standing O)
      → Goes kinds cells_at shared held at first shared' held' between → Goes kinds cells_at shared' held' between second shared'' held'' after → Goes kinds cells_at shared held at (first ++ second) shared'' held'' after
  goes_on shared held at first shared' held' between second shared'' held'' after one two = record {
    same = two.same ∙ one.same;
    same_pass = two.same_pass ∙ one.same_pass;
    same_link = two.same_link ∙ one.same_link;
    same_clock = two.same_clock ∙ one.same_clock;
    same_rng = two.same_rng ∙ one.same_rng;
    went = did_on kinds (cells_at shared) at first between second after one.went (subst (λ s. Did kinds (cells_at s) between second after) one.same two.went);
  }

  pub stays_there : (shared : S) (held : Borrowed) (at : Standing O) (events : List Doing) (shared' : S) (held' : Borrowed) (after : Standing O) → IsPassOf (cells_at shared) at.seats
      → Goes kinds cells_at shared held at events shared' held' after → IsPassOf (cells_at shared') after.seats
  stays_there shared held at events shared' held' after of goes = subst (λ s. IsPassOf (cells_at s) after.seats) (sym goes.same) (pass_stays kinds (cells_at shared) at events after goes.went of)

-- ---- no room for the response

abbrev pub no_room : Result Response ApiErr
no_room = Err error.NoMemory

-- what was answered is what is said, where there is room for it
pub said_whole : (config : Config) (request : Request) (events : List Doing) (reply : Result Response ApiErr) → Replied config request events reply → Exchange config request events reply
said_whole config request events reply replied = record { answer = reply; replied = replied; said = inl refl }

-- a request whose response finds no room has ended early, for want of memory
pub unsaid : (config : Config) (request : Request) (events : List Doing) (response : Response) → Exchange config request events (Ok response) → Exchange config request events no_room
unsaid config request events response e = record { answer = e.answer; replied = e.replied; said = by e.said } where
  by : IsSaid e.answer (Ok response) → IsSaid e.answer no_room
  by (inl is) = inr (response, sym is, refl)
  by (inr none-there) = absurd (cc)
