-- Which answer of a framer is the next, and that it does not depend on the cuts.
use Rattle.std.proofs.Common.{◌≡◌, ℕ, Bool, true, false, List, [], ◌∷◌, ◌++◌, Option, Some, None, Result, Ok, Err, ◌⊎◌, inl, inr, refl, sym, ap, ◌∙◌, subst, append_assoc, append-nil}
use Rattle.std.specs.List.{flat_map}
use Rattle.std.proofs.lemmas.Grind.{flat_map-append}
use Rattle.http_frames.specs.declared.step.Step.{Step}
use Rattle.http_frames.specs.declared.step.Step.TheVariants as step
use Rattle.http_frames.specs.declared.refusal.FrameErr.{FrameErr}
use Rattle.http_frames.specs.HeadRules.{request_of}
use Rattle.http_frames.specs.Framing.{State, IsNext}
use Rattle.http_frames.specs.Streams.{Whole, Begins, steps_of, IsAsking, RestGives, Gives, Run, gives, first, IsFront, IsAnswerAfter}
use Rattle.http_frames.proofs.StreamLemmas.{Goes, meet, ends_there}
use Rattle.http_frames.proofs.RunLemmas.{mark_of, Open, Stands, asking_head, steps_are, run_stands, last_gives, gives_unique, refused_of, refusal_ends}

abbrev all_of : List Whole → List Step
all_of wholes = flat_map steps_of wholes

-- where the head at the front was answered, the first request behind it begins with that
first_asks : (pending : List ℕ) (w : Whole) (others : List Whole) (last : List ℕ) (mark : List Step) → Begins pending (w ∷ others) last → IsAsking pending
    → all_of (w ∷ others) ++ mark ≡ mark_of true ++ (step.Request (request_of w.head w.body) ∷ all_of others ++ mark)
first_asks pending w others last mark begins asking =
    let asks = asking_head pending w.head begins.1.after begins.1.heads asking in
    ap (λ (t : List Step). (t ++ all_of others) ++ mark) (steps_are w true asks)

behind : (pending : List ℕ) (others : List Whole) (last : List ℕ) (mark : List Step) (continued : Bool) → Begins pending others last
    → (continued ≡ true → IsAsking pending) → RestGives last mark → IsFront (mark_of continued) (all_of others ++ mark)
behind pending others last mark false begins asking marked = (all_of others ++ mark, refl)
behind pending [] last mark true begins asking (inl (is, same)) = ([], same)
behind pending [] last mark true begins asking (inr (not, same)) = absurd (not (subst IsAsking begins (asking refl)))
behind pending (w ∷ others) last mark true begins asking marked = (_, first_asks pending w others last mark begins (asking refl))

-- one list of steps begins the other
abbrev pub AreFronts : List Step → List Step → Type 0
AreFronts one other = IsFront one other ⊎ IsFront other one

behind_both : (pending : List ℕ) (others : List Whole) (last : List ℕ) (continued also : Bool) → Begins pending others last
    → (continued ≡ true → IsAsking pending) → AreFronts (mark_of continued) (all_of others ++ mark_of also)
behind_both pending others last false also begins asking = inl (_, refl)
behind_both pending [] last true true begins asking = inl ([], refl)
behind_both pending [] last true false begins asking = inr (step.Continue ∷ [], refl)
behind_both pending (w ∷ others) last true also begins asking = inl (_, first_asks pending w others last (mark_of also) begins (asking refl))

-- the same behind whole requests
joined_steps : (wholes others : List Whole) (mark : List Step) → all_of (wholes ++ others) ++ mark ≡ all_of wholes ++ (all_of others ++ mark)
joined_steps wholes others mark = ap (λ (t : List Step). t ++ mark) (flat_map-append steps_of wholes others) ∙ append_assoc (all_of wholes) (all_of others) mark

longer : (wholes others vs : List Whole) (mark m : List Step) → vs ≡ wholes ++ others → IsFront m (all_of others ++ mark) → IsFront (all_of wholes ++ m) (all_of vs ++ mark)
longer wholes others vs mark m is front = (
  front.0,
  ap (λ (w : List Whole). all_of w ++ mark) is ∙ joined_steps wholes others mark ∙ ap (λ (t : List Step). all_of wholes ++ t) front.1
      ∙ sym (append_assoc (all_of wholes) m front.0),
)

shorter : (wholes others vs : List Whole) (mark m : List Step) → vs ≡ wholes ++ others → IsFront (all_of others ++ mark) m → IsFront (all_of vs ++ mark) (all_of wholes ++ m)
shorter wholes others vs mark m is front = (
  front.0,
  ap (λ (t : List Step). all_of wholes ++ t) front.1 ∙ sym (append_assoc (all_of wholes) (all_of others ++ mark) front.0)
      ∙ ap (λ (t : List Step). t ++ front.0) (sym (joined_steps wholes others mark) ∙ ap (λ (w : List Whole). all_of w ++ mark) (sym is)),
)

same_front : (one other a b : List Step) → one ≡ a → other ≡ b → IsFront a b → IsFront one other
same_front one other a b is it front = (front.0, it ∙ front.1 ∙ ap (λ (t : List Step). t ++ front.0) (sym is))

whole_front : (one other : List Step) → one ≡ other → IsFront one other
whole_front one other same = ([], sym same ∙ sym (append-nil one))

-- the requests that an open stream gave begin those of its bytes
goes_of : (bytes : List ℕ) (steps all : List Step) (pending : List ℕ) (continued : Bool) (refusal : Option FrameErr)
    (is : Open bytes steps pending continued) (it : Gives bytes all refusal) → Goes is.wholes it.wholes pending it.rest
goes_of bytes steps all pending continued refusal is it = elim (meet bytes is.wholes it.wholes pending it.rest is.midway.begins it.stream.begins) [
  | inl goes ↦ goes
  | inr goes ↦
      let ends = ends_there it.rest goes.others pending it.stream.none goes.begins in
      record {
        others = [];
        is = sym (append-nil it.wholes) ∙ ap (λ (w : List Whole). it.wholes ++ w) (sym ends.0) ∙ sym goes.is ∙ sym (append-nil is.wholes);
        begins = sym ends.1;
      }
]

stands_front : (bytes : List ℕ) (steps all : List Step) (refused : Option FrameErr) (pending : List ℕ) (continued : Bool) (refusal : Option FrameErr)
    → Stands bytes steps refused pending continued → Gives bytes all refusal → IsFront steps all
stands_front bytes steps all None pending continued refusal is it =
    let goes = goes_of bytes steps all pending continued refusal is it in
    same_front steps all _ _ is.all it.all
    (longer is.wholes goes.others it.wholes it.mark (mark_of continued) goes.is
    (behind pending goes.others it.rest it.mark continued goes.begins is.midway.asking it.marked))
stands_front bytes steps all (Some e) pending continued refusal is it =
    whole_front steps all (gives_unique bytes steps all (Some e) refusal is it).0

pub run_front : (bytes : List ℕ) (steps all : List Step) (state : State) (refusal : Option FrameErr) → Run bytes steps state → Gives bytes all refusal
    → IsFront steps all
run_front bytes steps all state refusal run it =
    stands_front bytes steps all state.refused state.pending state.continued refusal (run_stands bytes steps state run) it

-- the answer is the next of what the bytes give
next_step : (bytes : List ℕ) (steps all : List Step) (state new : State) (refusal : Option FrameErr) (one : Step)
    → Run bytes (steps ++ one ∷ []) new → Gives bytes all refusal → IsAnswerAfter steps all refusal (Ok one)
next_step bytes steps all state new refusal one run it =
    let front = run_front bytes (steps ++ one ∷ []) all new refusal run it in
    (one ∷ front.0, front.1 ∙ append_assoc steps (one ∷ []) front.0, inl refl)

next_end : (bytes : List ℕ) (steps all : List Step) (refusal end : Option FrameErr) (answer : Result Step FrameErr)
    → Gives bytes steps end → answer ≡ first [] end → Gives bytes all refusal → IsAnswerAfter steps all refusal answer
next_end bytes steps all refusal end answer is last it =
    let same = gives_unique bytes steps all end refusal is it in
    ([], sym same.0 ∙ sym (append-nil steps), inl (last ∙ ap (λ (o : Option FrameErr). first [] o) same.1))

pub next_answer : (bytes : List ℕ) (steps all : List Step) (state new : State) (answer : Result Step FrameErr) (refusal : Option FrameErr)
    → Run bytes steps state → Gives bytes all refusal → IsNext state answer new → IsAnswerAfter steps all refusal answer
next_answer bytes steps all state new (Ok (step.Request request)) refusal run it next =
    next_step bytes steps all state new refusal (step.Request request) (gives (Ok (step.Request request)) new run next) it
next_answer bytes steps all state new (Ok step.Continue) refusal run it next =
    next_step bytes steps all state new refusal step.Continue (gives (Ok step.Continue) new run next) it
next_answer bytes steps all state new (Ok step.Need) refusal run it next =
    next_end bytes steps all refusal None (Ok step.Need) (last_gives bytes steps state new (Ok step.Need) None run next (refl, λ wrong. cc)) refl it
next_answer bytes steps all state new (Err e) refusal run it next = elim (refused_of e state new next) [
  | inl (same, kept) ↦
      let front = run_front bytes steps all state refusal run it in
      (front.0, front.1, inr (ap (λ (x : FrameErr). Err x) same))
  | inr (over, why) ↦
      next_end bytes steps all refusal (Some e) (Err e) (refusal_ends bytes steps e state (run_stands bytes steps state run) why) refl it
]

-- two runs over the same bytes
open_fronts : (bytes : List ℕ) (one other : List Step) (p q : List ℕ) (c d : Bool) → Open bytes one p c → Open bytes other q d → AreFronts one other
open_fronts bytes one other p q c d is it = elim (meet bytes is.wholes it.wholes p q is.midway.begins it.midway.begins) [
  | inl goes ↦ elim (behind_both p goes.others q c d goes.begins is.midway.asking) [
    | inl front ↦ inl (same_front one other _ _ is.all it.all (longer is.wholes goes.others it.wholes (mark_of d) (mark_of c) goes.is front))
    | inr front ↦ inr (same_front other one _ _ it.all is.all (shorter is.wholes goes.others it.wholes (mark_of d) (mark_of c) goes.is front))
  ]
  | inr goes ↦ elim (behind_both q goes.others p d c goes.begins it.midway.asking) [
    | inl front ↦ inr (same_front other one _ _ it.all is.all (longer it.wholes goes.others is.wholes (mark_of c) (mark_of d) goes.is front))
    | inr front ↦ inl (same_front one other _ _ is.all it.all (shorter it.wholes goes.others is.wholes (mark_of c) (mark_of d) goes.is front))
  ]
]

stand_fronts : (bytes : List ℕ) (one other : List Step) (e d : Option FrameErr) (p q : List ℕ) (b c : Bool)
    → Stands bytes one e p b → Stands bytes other d q c → AreFronts one other
stand_fronts bytes one other None None p q b c is it = open_fronts bytes one other p q b c is it
stand_fronts bytes one other None (Some d) p q b c is it = inl (stands_front bytes one other None p b (Some d) is it)
stand_fronts bytes one other (Some e) d p q b c is it = inr (stands_front bytes other one d q c (Some e) it is)

pub run_fronts : (bytes : List ℕ) (one other : List Step) (state last : State) → Run bytes one state → Run bytes other last → AreFronts one other
run_fronts bytes one other state last run also =
    stand_fronts bytes one other state.refused last.refused state.pending last.pending state.continued last.continued
    (run_stands bytes one state run) (run_stands bytes other last also)
