-- What a framer gives for the bytes that it was fed, however they were cut.
use Rattle.std.proofs.Common.{◌≡◌, ℕ, Bool, true, false, cond, List, [], ◌∷◌, ◌++◌, Option, Some, None, Result, Ok, Err, ◌⊎◌, inl, inr, refl, sym, ap, ◌∙◌, subst, append_assoc, append-nil}
use Rattle.std.specs.List.{flat_map}
use Rattle.std.proofs.lemmas.Bool.{false≢true}
use Rattle.httparse.specs.Grammar.{RequestHead}
use Rattle.httparse.proofs.GrammarLemmas.{request_unique}
use Rattle.side_base.specs.declared.message.Request.{Request}
use Rattle.http_frames.specs.declared.step.Step.{Step}
use Rattle.http_frames.specs.declared.step.Step.TheVariants as step
use Rattle.http_frames.specs.declared.refusal.FrameErr.{FrameErr}
use Rattle.http_frames.specs.declared.refusal.FrameErr.TheVariants.{HeadTooLong, BadHead, TooManyHeaders, BadHost, BothLengths, TransferCoding, BadLength, Coding, TooLong, BadChunk, NoMemory}
use Rattle.http_frames.specs.HeadRules.{request_of}
use Rattle.http_frames.specs.Requests.{ReadsHead, ReadsWhole, HasNoWhole}
use Rattle.http_frames.specs.Framing.{State, waiting, ended, fed, IsNext, IsNeedStep, IsRefusal, IsQuiet}
use Rattle.http_frames.specs.Streams.{Whole, HasGiven, asks, steps_of, IsAsking, RestGives, RestEnds, Gives, given, Run, made, feeds, gives, IsLast, HasEnded}
use Rattle.http_frames.proofs.WholeLemmas.{head_more, head_less, refused_none, refused_more, refusal_unique, refused_accepted}
use Rattle.http_frames.proofs.StreamLemmas.{begins_more, begins_on, stream_unique}

abbrev pub mark_of : Bool → List Step
mark_of continued = cond continued (step.Continue ∷ []) []

-- an open stream, of which these bytes are pending
abbrev pub Open : List ℕ → List Step → List ℕ → Bool → Type 0
Open bytes steps pending continued = HasGiven bytes steps (waiting pending continued)

-- where a stream stands
abbrev pub Stands : List ℕ → List Step → Option FrameErr → List ℕ → Bool → Type 0
Stands bytes steps None pending continued = Open bytes steps pending continued
Stands bytes steps (Some error) pending continued = Gives bytes steps (Some error)

abbrev pub StandsAt : List ℕ → List Step → State → Type 0
StandsAt bytes steps state = Stands bytes steps state.refused state.pending state.continued

pub asking_head : (text : List ℕ) (head : RequestHead) (after : List ℕ) → ReadsHead text head after → IsAsking text → asks head ≡ true
asking_head text head after is asking =
    ap asks (request_unique text head asking.head after asking.after is.reads asking.heads.reads).0 ∙ asking.asking

-- the steps of a whole request are its mark and the request
pub mark_is : (head : RequestHead) (continued : Bool) → (continued ≡ true → asks head ≡ true) → (asks head ≡ true → continued ≡ true) → asks head ≡ continued
mark_is head true there back = there refl
mark_is head false there back = not_asking (asks head) back
  where
    not_asking : (b : Bool) → (b ≡ true → false ≡ true) → b ≡ false
    not_asking true back = sym (back refl)
    not_asking false back = refl

pub steps_are : (whole : Whole) (continued : Bool) → asks whole.head ≡ continued
    → steps_of whole ≡ mark_of continued ++ step.Request (request_of whole.head whole.body) ∷ []
steps_are whole continued is = ap (λ (b : Bool). mark_of b ++ step.Request (request_of whole.head whole.body) ∷ []) is

-- a request is given
open_request : (bytes : List ℕ) (steps : List Step) (pending : List ℕ) (continued : Bool) (request : Request) (head : RequestHead) (body rest : List ℕ)
    → Open bytes steps pending continued → ReadsWhole pending head body rest → request ≡ request_of head body
    → (asks head ≡ true → continued ≡ true) → Open bytes (steps ++ step.Request request ∷ []) rest false
open_request bytes steps pending continued request head body rest is whole same told =
    let w : Whole = record { head = head; body = body } in
    let mark = mark_is head continued (λ c. asking_head pending head whole.after whole.heads (is.midway.asking c)) told in
    let all = flat_map steps_of is.wholes in
    let last = step.Request (request_of head body) ∷ [] in
    record {
      wholes = is.wholes ++ w ∷ [];
      midway = record {
        waits = refl;
        begins = begins_more bytes is.wholes pending w rest is.midway.begins whole;
        asking = λ wrong. absurd (false≢true wrong);
      };
      all = ap (λ (t : List Step). t ++ step.Request request ∷ []) is.all ∙ append_assoc all (mark_of continued) (step.Request request ∷ [])
          ∙ ap (λ (r : Request). all ++ (mark_of continued ++ step.Request r ∷ [])) same
          ∙ ap (λ (t : List Step). all ++ t) (sym (steps_are w continued mark))
          ∙ one_more is.wholes w ∙ sym (append-nil (flat_map steps_of (is.wholes ++ w ∷ [])));
    }
  where
    one_more : (wholes : List Whole) (w : Whole) → flat_map steps_of wholes ++ steps_of w ≡ flat_map steps_of (wholes ++ w ∷ [])
    one_more [] w = sym (append-nil (steps_of w))
    one_more (v ∷ wholes) w = append_assoc (steps_of v) (flat_map steps_of wholes) (steps_of w) ∙ ap (λ (t : List Step). steps_of v ++ t) (one_more wholes w)

-- `Continue` is given
open_continue : (bytes : List ℕ) (steps : List Step) (pending : List ℕ) (continued : Bool) → Open bytes steps pending continued → continued ≡ false
    → IsAsking pending → Open bytes (steps ++ step.Continue ∷ []) pending true
open_continue bytes steps pending continued is untold asking = record {
  wholes = is.wholes;
  midway = record { waits = refl; begins = is.midway.begins; asking = λ _. asking };
  all = ap (λ (t : List Step). t ++ step.Continue ∷ []) (is.all ∙ ap (λ (b : Bool). flat_map steps_of is.wholes ++ mark_of b) untold ∙ append-nil (flat_map steps_of is.wholes));
}

-- what is given where nothing further can be
open_ends : (bytes : List ℕ) (steps : List Step) (pending : List ℕ) (continued : Bool) (refusal : Option FrameErr) → Open bytes steps pending continued
    → IsQuiet pending continued → HasNoWhole pending → RestEnds pending refusal → Gives bytes steps refusal
open_ends bytes steps pending continued refusal is quiet none end = record {
  wholes = is.wholes;
  rest = pending;
  stream = record { begins = is.midway.begins; none = none };
  mark = mark_of continued;
  marked = marked pending continued is.midway.asking quiet;
  all = is.all;
  end = end;
}
  where
    marked : (pending : List ℕ) (continued : Bool) → (continued ≡ true → IsAsking pending) → IsQuiet pending continued → RestGives pending (mark_of continued)
    marked pending true asking quiet = inl (asking refl, refl)
    marked pending false asking quiet = inr (λ is. false≢true (quiet is.head is.after is.heads is.asking), refl)

-- what a refused stream gave stays as its bytes go on
gives_on : (bytes more : List ℕ) (steps : List Step) (error : FrameErr) → Gives bytes steps (Some error) → Gives (bytes ++ more) steps (Some error)
gives_on bytes more steps error is =
    let on = refused_more is.rest more error is.end in
    record {
      wholes = is.wholes;
      rest = is.rest ++ more;
      stream = record { begins = begins_on bytes is.wholes is.rest more is.stream.begins; none = refused_none (is.rest ++ more) error on };
      mark = is.mark;
      marked = elim is.marked [
        | inl (asking, same) ↦ inl (record { head = asking.head; after = asking.after ++ more; heads = head_more is.rest more asking.head asking.after asking.heads; asking = asking.asking }, same)
        | inr (quiet, same) ↦ inr (λ asking. quiet (less asking (head_less is.rest more asking.head asking.after error is.end asking.heads)), same)
      ];
      all = is.all;
      end = on;
    }
  where
    less : {rest longer : List ℕ} (asking : IsAsking longer) → ((behind : List ℕ) × ReadsHead rest asking.head behind) → IsAsking rest
    less asking there = record { head = asking.head; after = there.0; heads = there.1; asking = asking.asking }

pub asking_more : (text piece : List ℕ) → IsAsking text → IsAsking (text ++ piece)
asking_more text piece asking = record {
  head = asking.head;
  after = asking.after ++ piece;
  heads = head_more text piece asking.head asking.after asking.heads;
  asking = asking.asking;
}

-- a run stands somewhere
fed_stands : (bytes piece : List ℕ) (steps : List Step) (refused : Option FrameErr) (pending : List ℕ) (continued : Bool)
    → Stands bytes steps refused pending continued
    → StandsAt (bytes ++ piece) steps (fed (record { pending = pending; continued = continued; refused = refused }) piece)
fed_stands bytes piece steps None pending continued is = record {
  wholes = is.wholes;
  midway = record {
    waits = refl;
    begins = begins_on bytes is.wholes pending piece is.midway.begins;
    asking = λ c. asking_more pending piece (is.midway.asking c);
  };
  all = is.all;
}
fed_stands bytes piece steps (Some error) pending continued is = gives_on bytes piece steps error is

pub open_of : (bytes : List ℕ) (steps : List Step) (state : State) → StandsAt bytes steps state → state.refused ≡ None
    → Open bytes steps state.pending state.continued
open_of bytes steps state is waits =
    let P : Option FrameErr → Type 0 = λ o. Stands bytes steps o state.pending state.continued in subst P waits is

-- what an error of `next` says
abbrev pub Refused : FrameErr → State → State → Type 0
Refused e old new = ((e ≡ NoMemory) × (new ≡ old)) ⊎ ((new ≡ ended e) × ((old ≡ ended e) ⊎ IsRefusal old e))

pub refused_of : (e : FrameErr) (old new : State) → IsNext old (Err e) new → Refused e old new
refused_of NoMemory old new is = inl (refl, is)
refused_of HeadTooLong old new is = inr is
refused_of BadHead old new is = inr is
refused_of TooManyHeaders old new is = inr is
refused_of BadHost old new is = inr is
refused_of BothLengths old new is = inr is
refused_of TransferCoding old new is = inr is
refused_of BadLength old new is = inr is
refused_of Coding old new is = inr is
refused_of TooLong old new is = inr is
refused_of BadChunk old new is = inr is

-- a refusal behind all steps
pub refusal_ends : (bytes : List ℕ) (steps : List Step) (e : FrameErr) (old : State) → StandsAt bytes steps old
    → (old ≡ ended e) ⊎ IsRefusal old e → Gives bytes steps (Some e)
refusal_ends bytes steps e old is (inl was) = let P : State → Type 0 = λ s. StandsAt bytes steps s in subst P was is
refusal_ends bytes steps e old is (inr refusal) =
    open_ends bytes steps old.pending old.continued (Some e) (open_of bytes steps old is refusal.waits) refusal.quiet
    (refused_none old.pending e refusal.refused) refusal.refused

need_ends : (bytes : List ℕ) (steps : List Step) (old new : State) → StandsAt bytes steps old → IsNeedStep old new → Gives bytes steps None
need_ends bytes steps old new is need =
    open_ends bytes steps old.pending old.continued None (open_of bytes steps old is need.waits) need.quiet need.none need.accepted

moved : (bytes : List ℕ) (steps : List Step) (old new : State) → new ≡ old → StandsAt bytes steps old → StandsAt bytes (steps ++ []) new
moved bytes steps old new same is =
    let P : State → Type 0 = λ s. StandsAt bytes (steps ++ []) s in
    let Q : List Step → Type 0 = λ t. StandsAt bytes t old in
    subst P (sym same) (subst Q (sym (append-nil steps)) is)

next_stands : (bytes : List ℕ) (steps : List Step) (old new : State) (answer : Result Step FrameErr) → StandsAt bytes steps old → IsNext old answer new
    → StandsAt bytes (steps ++ given answer) new
next_stands bytes steps old new (Ok (step.Request request)) is next =
    let P : State → Type 0 = λ s. StandsAt bytes (steps ++ step.Request request ∷ []) s in
    subst P (sym next.after)
    (open_request bytes steps old.pending old.continued request next.head next.body next.rest (open_of bytes steps old is next.waits) next.whole next.is next.told)
next_stands bytes steps old new (Ok step.Continue) is next =
    let P : State → Type 0 = λ s. StandsAt bytes (steps ++ step.Continue ∷ []) s in
    subst P (sym next.told)
    (open_continue bytes steps old.pending old.continued (open_of bytes steps old is next.waits) next.untold
    (record { head = next.head; after = next.after; heads = next.heads; asking = next.asks }))
next_stands bytes steps old new (Ok step.Need) is next = moved bytes steps old new next.same is
next_stands bytes steps old new (Err e) is next = elim (refused_of e old new next) [
  | inl (same, kept) ↦ moved bytes steps old new kept is
  | inr (over, why) ↦
      let P : State → Type 0 = λ s. StandsAt bytes (steps ++ []) s in
      let Q : List Step → Type 0 = λ t. Gives bytes t (Some e) in
      subst P (sym over) (subst Q (sym (append-nil steps)) (refusal_ends bytes steps e old is why))
]

pub run_stands : (bytes : List ℕ) (steps : List Step) (state : State) → Run bytes steps state → StandsAt bytes steps state
run_stands _ _ _ made = record { wholes = []; midway = record { waits = refl; begins = refl; asking = λ wrong. absurd (false≢true wrong) }; all = refl }
run_stands _ _ _ (feeds {bytes} {steps} {state} piece run) =
    fed_stands bytes piece steps state.refused state.pending state.continued (run_stands bytes steps state run)
run_stands _ _ _ (gives {bytes} {steps} {state} answer new run next) =
    next_stands bytes steps state new answer (run_stands bytes steps state run) next

-- a last answer tells what the bytes give
pub last_gives : (bytes : List ℕ) (steps : List Step) (state new : State) (answer : Result Step FrameErr) (refusal : Option FrameErr)
    → Run bytes steps state → IsNext state answer new → IsLast answer refusal → Gives bytes steps refusal
last_gives bytes steps state new answer None run next last =
    let P : Result Step FrameErr → Type 0 = λ a. IsNext state a new in
    need_ends bytes steps state new (run_stands bytes steps state run) (subst P last.0 next)
last_gives bytes steps state new answer (Some e) run next last =
    let P : Result Step FrameErr → Type 0 = λ a. IsNext state a new in
    elim (refused_of e state new (subst P last.0 next)) [
      | inl (same, kept) ↦ absurd (last.1 (last.0 ∙ ap (λ (x : FrameErr). Err x) same))
      | inr (over, why) ↦ refusal_ends bytes steps e state (run_stands bytes steps state run) why
    ]

pub ended_gives : (bytes : List ℕ) (steps : List Step) (end : Option FrameErr) → HasEnded bytes steps end → Gives bytes steps end
ended_gives bytes steps end is = last_gives bytes steps is.state is.new is.answer end is.run is.next is.last

-- a text gives one list of steps, and one end
marks_same : (rest : List ℕ) (one other : List Step) → RestGives rest one → RestGives rest other → one ≡ other
marks_same rest one other (inl (asking, is)) (inl (also, it)) = is ∙ sym it
marks_same rest one other (inl (asking, is)) (inr (not, it)) = absurd (not asking)
marks_same rest one other (inr (not, is)) (inl (asking, it)) = absurd (not asking)
marks_same rest one other (inr (not, is)) (inr (also, it)) = is ∙ sym it

ends_same : (rest : List ℕ) (end last : Option FrameErr) → RestEnds rest end → RestEnds rest last → end ≡ last
ends_same rest None None is it = refl
ends_same rest None (Some e) is it = absurd (refused_accepted rest e it is)
ends_same rest (Some e) None is it = absurd (refused_accepted rest e is it)
ends_same rest (Some e) (Some d) is it = ap (λ (x : FrameErr). Some x) (refusal_unique rest e d is it)

pub gives_unique : (bytes : List ℕ) (one other : List Step) (end last : Option FrameErr) → Gives bytes one end → Gives bytes other last
    → (one ≡ other) × (end ≡ last)
gives_unique bytes one other end last is it =
    let same = stream_unique bytes is.wholes it.wholes is.rest it.rest is.stream it.stream in
    let M : List ℕ → Type 0 = λ t. RestGives t it.mark in
    let E : List ℕ → Type 0 = λ t. RestEnds t last in
    let marks = marks_same is.rest is.mark it.mark is.marked (subst M (sym same.1) it.marked) in (
      is.all ∙ ap (λ (w : List Whole). flat_map steps_of w ++ is.mark) same.0 ∙ ap (λ (m : List Step). flat_map steps_of it.wholes ++ m) marks ∙ sym it.all,
      ends_same is.rest end last is.end (subst E (sym same.1) it.end),
    )
