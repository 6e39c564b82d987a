-- What a framer's calls do to what it holds.
use Rattle.std.proofs.Common.{◌≡◌, ℕ, ◌+◌, ◌<◌, ◌≤◌, Bool, true, false, List, [], length, drop, Some, None, Result, Ok, Err, ◌⊎◌, inl, inr, refl, sym, ap, ◌∙◌, subst, arith, length-append, length-drop}
use Rattle.std.proofs.lemmas.List.{drop_all}
use Rattle.std.specs.declared.alloc.AllocError.{AllocError}
use Rattle.httparse.specs.Grammar.{RequestHead, print_request}
use Rattle.side_base.specs.declared.message.Request.{Request}
use Rattle.http_frames.specs.declared.step.Step.TheVariants as step
use Rattle.http_frames.specs.declared.refusal.FrameErr.{FrameErr}
use Rattle.http_frames.specs.declared.refusal.FrameErr.TheVariants.{HeadTooLong, BadHead, TooManyHeaders, BadHost, BothLengths, TransferCoding, BadLength, Coding, TooLong, BadChunk, NoMemory}
use Rattle.http_frames.specs.declared.framer.Stage.{Stage}
use Rattle.http_frames.specs.declared.framer.Stage.TheVariants as stage
use Rattle.http_frames.specs.declared.turn.Turn.{Turn}
use Rattle.http_frames.specs.declared.turn.Turn.TheVariants as turn
use Rattle.http_frames.specs.declared.progress.Content.{Content}
use Rattle.http_frames.specs.Framing.{State, Kept, Stands, Answers, waiting, ended, held, HELD_LIMIT, IsRefusal, IsNext}
use Rattle.http_frames.specs.HeadRules.{HEAD_LIMIT}
use Rattle.http_frames.specs.Framer.{kept_at}
use Rattle.http_frames.specs.Lines.{beginning}
use Rattle.http_frames.specs.declared.lines.Place.{Place}
use Rattle.http_frames.specs.Progress.{HoldsContent}
use Rattle.http_frames.specs.Turns.{Holds, IsOpen, IsTurn, TakesTurn, Leaves}

-- what is kept of an open stream stands for these bytes exactly where they are those that were read and the rest
pub stands_so : (start : ℕ) (pending rest : List ℕ) (continued : Bool) (next : Stage) → Holds pending rest next → Stands (waiting pending continued) (kept_at start rest continued next)
stands_so start pending rest continued (stage.Head place) is = record { pending = is; continued = refl; refused = refl }
stands_so start pending rest continued (stage.Content content) is = record { pending = is; continued = refl; refused = refl }
stands_so start pending rest continued (stage.Refused error) is = absurd is

-- the state for which a framer stands that is open
open_is : (state : State) (continued : Bool) → state.continued ≡ continued → state.refused ≡ None → state ≡ waiting state.pending continued
open_is state continued same none = λ i. record { pending = state.pending; continued = same i; refused = none i }

none_left : (state : State) (behind : ℕ) (error : FrameErr) → Stands state (record { begun = None; buffered = []; behind = behind; continued = false; refused = Some error })
    → state ≡ ended error
none_left state behind error is = λ i. record { pending = is.pending i; continued = is.continued i; refused = is.refused i }

-- what a call of `next` gives is given by a turn: at once where the stream is refused, else from what is pending
pub gives : (P : State → Type 0) (state : State) (start : ℕ) (rest rest' : List ℕ) (continued : Bool) (old : Stage) (result : Stage × Result Turn AllocError)
    → Stands state (kept_at start rest continued old) → TakesTurn state.pending rest rest' continued old result
    → (IsTurn state.pending rest' continued result → P (waiting state.pending continued))
    → ((error : FrameErr) → old ≡ stage.Refused error → result ≡ (stage.Refused error, Ok (turn.Refused error)) → P (ended error)) → P state
gives P state start rest rest' continued (stage.Head place) result is took open_ refused =
    subst P (sym (open_is state continued is.continued is.refused)) (open_ (took is.pending))
gives P state start rest rest' continued (stage.Content content) result is took open_ refused =
    subst P (sym (open_is state continued is.continued is.refused)) (open_ (took is.pending))
gives P state start rest rest' continued (stage.Refused error) result is took open_ refused =
    subst P (sym (none_left state _ error is)) (refused error refl took)

pub gives_request : (state : State) (start start' : ℕ) (rest rest' : List ℕ) (continued : Bool) (old next : Stage) (request : Request) (end : ℕ)
    → Stands state (kept_at start rest continued old) → TakesTurn state.pending rest rest' continued old (next, Ok (turn.Request request end))
    → next ≡ stage.Head beginning → Answers state (Ok (step.Request request)) (kept_at start' (drop end rest') false next)
gives_request state start start' rest rest' continued old next request end is took head =
    let K : Kept = kept_at start' (drop end rest') false next in
    gives (λ s. Answers s (Ok (step.Request request)) K) state start rest rest' continued old (next, Ok (turn.Request request end)) is took
    (λ turned. record {
      new = waiting (drop end rest') false;
      next = record {
        waits = refl;
        head = turned.head;
        body = turned.body;
        rest = drop end rest';
        whole = turned.whole;
        is = turned.is;
        told = turned.told;
        after = refl;
      };
      again = tt;
      stands = stands_so start' (drop end rest') (drop end rest') false next (let P : Stage → Type 0 = λ s. Holds (drop end rest') (drop end rest') s in subst P (sym head) refl);
      room = tt;
    })
    (λ error was same. let both = ap (λ (x : Stage × Result Turn AllocError). x.1) same in absurd (cc))

pub gives_continue : (state : State) (start start' : ℕ) (rest rest' : List ℕ) (continued : Bool) (old next : Stage) → Stands state (kept_at start rest continued old)
    → TakesTurn state.pending rest rest' continued old (next, Ok turn.Continue) → Answers state (Ok step.Continue) (kept_at start' rest' true next)
gives_continue state start start' rest rest' continued old next is took =
    let K : Kept = kept_at start' rest' true next in
    gives (λ s. Answers s (Ok step.Continue) K) state start rest rest' continued old (next, Ok turn.Continue) is took
    (λ turned. record {
      new = waiting state.pending true;
      next = record {
        waits = refl;
        head = turned.0.head;
        after = turned.0.after;
        heads = turned.0.heads;
        asks = turned.0.asks;
        untold = turned.1;
        told = refl;
      };
      again = tt;
      stands = stands_so start' state.pending rest' true next turned.2;
      room = tt;
    })
    (λ error was same. let both = ap (λ (x : Stage × Result Turn AllocError). x.1) same in absurd (cc))

-- no more is held than content and what is not read of it
room_at : (start : ℕ) (rest : List ℕ) (continued : Bool) (next : Stage) → IsOpen rest continued next → length rest < HEAD_LIMIT + HEAD_LIMIT
    → held (kept_at start rest continued next) < HELD_LIMIT
room_at start rest continued (stage.Head place) is few = omega (arith, few)
room_at start rest continued (stage.Content content) is few = omega (arith, few, is.bounded)
room_at start rest continued (stage.Refused error) is few = absurd is

pub gives_need : (state : State) (start start' : ℕ) (rest rest' : List ℕ) (continued : Bool) (old next : Stage) → Stands state (kept_at start rest continued old)
    → TakesTurn state.pending rest rest' continued old (next, Ok turn.Need) → Leaves rest' continued (next, Ok turn.Need)
    → Answers state (Ok step.Need) (kept_at start' rest' continued next)
gives_need state start start' rest rest' continued old next is took left =
    let K : Kept = kept_at start' rest' continued next in
    gives (λ s. Answers s (Ok step.Need) K) state start rest rest' continued old (next, Ok turn.Need) is took
    (λ turned. record {
      new = waiting state.pending continued;
      next = record { waits = refl; none = turned.0; accepted = turned.1; quiet = turned.2; same = refl };
      again = tt;
      stands = stands_so start' state.pending rest' continued next turned.3;
      room = room_at start' rest' continued next left.0 left.1;
    })
    (λ error was same. let both = ap (λ (x : Stage × Result Turn AllocError). x.1) same in absurd (cc))

-- without memory it is as before
pub gives_nothing : (state : State) (start start' : ℕ) (rest rest' : List ℕ) (continued : Bool) (old next : Stage) (error : AllocError) → Stands state (kept_at start rest continued old)
    → TakesTurn state.pending rest rest' continued old (next, Err error) → Answers state (Err NoMemory) (kept_at start' rest' continued next)
gives_nothing state start start' rest rest' continued old next error is took =
    let K : Kept = kept_at start' rest' continued next in
    gives (λ s. Answers s (Err NoMemory) K) state start rest rest' continued old (next, Err error) is took
    (λ turned. record { new = waiting state.pending continued; next = refl; again = tt; stands = stands_so start' state.pending rest' continued next turned; room = tt })
    (λ e was same. let both = ap (λ (x : Stage × Result Turn AllocError). x.1) same in absurd (cc))

-- a refusal, as `next` gives it
gives_error : (e : FrameErr) (old new : State) → new ≡ ended e → (old ≡ ended e) ⊎ IsRefusal old e → IsNext old (Err e) new
gives_error NoMemory old new is (inl was) = is ∙ sym was
gives_error NoMemory old new is (inr refusal) = absurd refusal.refused.meets
gives_error HeadTooLong old new is was = (is, was)
gives_error BadHead old new is was = (is, was)
gives_error TooManyHeaders old new is was = (is, was)
gives_error BadHost old new is was = (is, was)
gives_error BothLengths old new is was = (is, was)
gives_error TransferCoding old new is was = (is, was)
gives_error BadLength old new is was = (is, was)
gives_error Coding old new is was = (is, was)
gives_error TooLong old new is was = (is, was)
gives_error BadChunk old new is was = (is, was)

pub gives_refusal : (state : State) (start start' : ℕ) (rest rest' others : List ℕ) (continued flag : Bool) (old next : Stage) (e : FrameErr)
    → Stands state (kept_at start rest continued old) → TakesTurn state.pending rest rest' continued old (next, Ok (turn.Refused e)) → next ≡ stage.Refused e
    → Answers state (Err e) (kept_at start' others flag next)
gives_refusal state start start' rest rest' others continued flag old next e is took head =
    let K : Kept = kept_at start' others flag next in
    let S : Stage → Type 0 = λ s. Stands (ended e) (kept_at start' others flag s) in
    let stands = subst S (sym head) (record { pending = refl; continued = refl; refused = refl }) in
    gives (λ s. Answers s (Err e) K) state start rest rest' continued old (next, Ok (turn.Refused e)) is took
    (λ turned. record {
      new = ended e;
      next = gives_error e (waiting state.pending continued) (ended e) refl (inr (record { waits = refl; refused = turned.0; quiet = turned.1 }));
      again = tt;
      stands = stands;
      room = tt;
    })
    (λ error was same.
    let equal : e ≡ error = let both = ap (λ (x : Stage × Result Turn AllocError). x.1) same in cc in
    record {
      new = ended e;
      next = gives_error e (ended error) (ended e) refl (inl (ap ended (sym equal)));
      again = ap (λ (x : FrameErr). Err x) equal;
      stands = stands;
      room = tt;
    })

-- ---- what is held

pub held_head : (kept : Kept) (start : ℕ) (rest : List ℕ) (continued : Bool) (old : Stage) (place : Place) → old ≡ stage.Head place → kept_at start rest continued old ≡ kept → length rest ≡ held kept
held_head kept start rest continued old place is was =
    let P : Stage → Type 0 = λ s. kept_at start rest continued s ≡ kept in
    let same : length rest + 0 ≡ held kept = ap held (subst P is was) in omega (arith, same)

pub held_content : (kept : Kept) (start : ℕ) (rest : List ℕ) (continued : Bool) (old : Stage) (content : Content) → old ≡ stage.Content content → kept_at start rest continued old ≡ kept
    → length rest + length content.body.bytes ≡ held kept
held_content kept start rest continued old content is was = let P : Stage → Type 0 = λ s. kept_at start rest continued s ≡ kept in ap held (subst P is was)

pub held_refused : (kept : Kept) (start : ℕ) (rest : List ℕ) (continued : Bool) (old : Stage) (error : FrameErr) → old ≡ stage.Refused error → kept_at start rest continued old ≡ kept → 0 ≡ held kept
held_refused kept start rest continued old error is was = let P : Stage → Type 0 = λ s. kept_at start rest continued s ≡ kept in ap held (subst P is was)

-- ---- between requests

head_some : (h : RequestHead) → 0 < length h.method → 0 < length (print_request h)
unfolding print_request
head_some h some = simp length-append (omega arith)

-- while a head is held so are bytes
pub content_bytes : (pending rest : List ℕ) (content : Content) → HoldsContent pending rest content → pending ≡ [] → ⊥
content_bytes pending rest content is none =
    let token = is.heads.reads.0.method.0 in
    omega (arith, ap length none, ap length is.heads.reads.1, length-append (print_request is.head) is.after, head_some is.head token)

pub between_head : (state : State) (bytes : List ℕ) (start : ℕ) (continued : Bool) (place : Place) → start ≤ length bytes → continued ≡ false
    → Stands state (kept_at start (drop start bytes) continued (stage.Head place))
    → ((start ≡ length bytes) → state ≡ waiting [] false) × (state ≡ waiting [] false → start ≡ length bytes)
between_head state bytes start continued place within told is = (
  λ all. λ i. record {
    pending = (is.pending ∙ drop_all start bytes (omega arith)) i;
    continued = (is.continued ∙ told) i;
    refused = is.refused i;
  },
  λ same. omega (arith, ap length (sym is.pending ∙ ap (λ (s : State). s.pending) same), length-drop start bytes),
)
