-- What does not depend on the moment of a command.
use Rattle.std.proofs.Common.{◌≡◌, ℕ, refl, sym, ap, subst, ◌∙◌}
use Rattle.state_core.specs.declared.command.Cmd.{Cmd}
use Rattle.state_core.specs.declared.command.Cmd.TheVariants.{Get, Save, Delete, Bulk, Transact}
use Rattle.state_core.specs.Moved.{at_moment}
use Rattle.state_api.specs.declared.running.Ran.{Ran}
use Rattle.state_api.specs.Moment.{IsSame}
use Rattle.state_api.specs.Ran.{IsAnswer}
use Rattle.state_api.specs.Response.{IsCut, response_of}

-- a command is itself at its own moment
own_moment : (cmd : Cmd) → (at : ℕ) × (at_moment at cmd ≡ cmd)
own_moment (Get key now) = (now, refl)
own_moment (Save items now) = (now, refl)
own_moment (Delete key etag mode now) = (now, refl)
own_moment (Bulk keys skip now) = (now, refl)
own_moment (Transact ops now) = (now, refl)

-- the same command is the one at some moment
moved : (cmd after : Cmd) → IsSame cmd after → (at : ℕ) × (after ≡ at_moment at cmd)
moved cmd after same = let own = own_moment after in (own.0, sym own.1 ∙ same own.0)

response_at : (cmd : Cmd) (at : ℕ) (ran : Ran) → response_of (at_moment at cmd) ran ≡ response_of cmd ran
response_at (Get key now) at ran = refl
response_at (Save items now) at ran = refl
response_at (Delete key etag mode now) at ran = refl
response_at (Bulk keys skip now) at ran = refl
response_at (Transact ops now) at ran = refl

answer_at : (cmd : Cmd) (at : ℕ) (ran : Ran) → IsAnswer cmd ran → IsAnswer (at_moment at cmd) ran
answer_at (Get key now) at ran h = h
answer_at (Save items now) at ran h = h
answer_at (Delete key etag mode now) at ran h = h
answer_at (Bulk keys skip now) at ran h = h
answer_at (Transact ops now) at ran h = h

cut_at : (cmd : Cmd) (at : ℕ) → IsCut cmd → IsCut (at_moment at cmd)
cut_at (Get key now) at h = h
cut_at (Save items now) at h = h
cut_at (Delete key etag mode now) at h = h
cut_at (Bulk keys skip now) at h = h
cut_at (Transact ops now) at h = h

pub same_response : (cmd after : Cmd) (ran : Ran) → IsSame cmd after → response_of after ran ≡ response_of cmd ran
same_response cmd after ran same = let m = moved cmd after same in ap (λ z. response_of z ran) m.1 ∙ response_at cmd m.0 ran

pub same_answer : (cmd after : Cmd) (ran : Ran) → IsSame cmd after → IsAnswer cmd ran → IsAnswer after ran
same_answer cmd after ran same h = let m = moved cmd after same in subst (λ z. IsAnswer z ran) (sym m.1) (answer_at cmd m.0 ran h)

pub same_cut : (cmd after : Cmd) → IsSame cmd after → IsCut cmd → IsCut after
same_cut cmd after same h = let m = moved cmd after same in subst IsCut (sym m.1) (cut_at cmd m.0 h)
