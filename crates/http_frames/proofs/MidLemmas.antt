-- A stream that goes on: what was given so far begins it.
use Rattle.std.proofs.Common.{◌≡◌, ℕ, Bool, true, false, List, [], ◌∷◌, ◌++◌, Option, Some, None, Result, Ok, Err, ◌⊎◌, inl, inr, refl, sym, ap, ◌∙◌, subst}
use Rattle.std.proofs.lemmas.Bool.{false≢true}
use Rattle.http_frames.specs.declared.step.Step.{Step}
use Rattle.http_frames.specs.declared.step.Step.TheVariants as step
use Rattle.http_frames.specs.declared.refusal.FrameErr.{FrameErr}
use Rattle.http_frames.specs.declared.refusal.FrameErr.TheVariants.{HeadTooLong, BadHead, TooManyHeaders, BadHost, BothLengths, TransferCoding, BadLength, Coding, TooLong, BadChunk, NoMemory}
use Rattle.http_frames.specs.Framing.{State, waiting, ended, grown, fed, IsNext, IsRefusal, IsQuiet}
use Rattle.http_frames.specs.Streams.{Whole, IsAsking, Midway, HasGiven, IsMarked, IsWholeStream, GoesOn, Run}
use Rattle.http_chunks.proofs.FrontLemmas.{none_is_some}
use Rattle.http_frames.proofs.WholeLemmas.{refused_none}
use Rattle.http_frames.proofs.StreamLemmas.{begins_more, begins_on}
use Rattle.http_frames.proofs.EndLemmas.{untold}
use Rattle.http_frames.proofs.RunLemmas.{asking_head, asking_more, mark_is, open_of, run_stands}

pub mid_made : Midway [] [] (waiting [] false)
mid_made = record { waits = refl; begins = refl; asking = λ wrong. absurd (false≢true wrong) }

pub mid_fed : (bytes piece : List ℕ) (wholes : List Whole) (state : State) → Midway bytes wholes state → Midway (bytes ++ piece) wholes (fed state piece)
mid_fed bytes piece wholes state is =
    let same : fed state piece ≡ waiting (state.pending ++ piece) state.continued = ap (λ (o : Option FrameErr). grown o state piece) is.waits in
    let P : State → Type 0 = λ s. Midway (bytes ++ piece) wholes s in
    subst P (sym same) (record {
      waits = refl;
      begins = begins_on bytes wholes state.pending piece is.begins;
      asking = λ told. asking_more state.pending piece (is.asking told);
    })

marked : (text : List ℕ) (continued : Bool) → (continued ≡ true → IsAsking text) → IsQuiet text continued → IsMarked text continued
marked text true asking quiet = asking refl
marked text false asking quiet = λ is. false≢true (quiet is.head is.after is.heads is.asking)

mid_refused : (bytes : List ℕ) (wholes : List Whole) (old new : State) (e : FrameErr) → Midway bytes wholes old → new ≡ ended e
    → (old ≡ ended e) ⊎ IsRefusal old e → IsWholeStream bytes wholes old (Some e) × (new ≡ ended e)
mid_refused bytes wholes old new e is over (inl was) = absurd (none_is_some e (sym is.waits ∙ ap (λ (s : State). s.refused) was))
mid_refused bytes wholes old new e is over (inr refusal) = (
  record {
    stream = record { begins = is.begins; none = refused_none old.pending e refusal.refused };
    marked = marked old.pending old.continued is.asking refusal.quiet;
    end = refusal.refused;
  },
  over,
)

pub mid_next : (bytes : List ℕ) (wholes : List Whole) (old new : State) (answer : Result Step FrameErr) → Midway bytes wholes old → IsNext old answer new
    → GoesOn bytes wholes old answer new
mid_next bytes wholes old new (Ok (step.Request request)) is next =
    let whole : Whole = record { head = next.head; body = next.body } in
    let P : State → Type 0 = λ s. Midway bytes (wholes ++ whole ∷ []) s in
    record {
      whole = whole;
      is = next.is;
      told = mark_is next.head old.continued (λ told. asking_head old.pending next.head next.whole.after next.whole.heads (is.asking told)) next.told;
      midway = subst P (sym next.after) (record {
        waits = refl;
        begins = begins_more bytes wholes old.pending whole next.rest is.begins next.whole;
        asking = λ wrong. absurd (false≢true wrong);
      });
    }
mid_next bytes wholes old new (Ok step.Continue) is next =
    let P : State → Type 0 = λ s. Midway bytes wholes s in
    record {
      untold = next.untold;
      told = next.told;
      midway = subst P (sym next.told) (record {
        waits = refl;
        begins = is.begins;
        asking = λ _. record { head = next.head; after = next.after; heads = next.heads; asking = next.asks };
      });
    }
mid_next bytes wholes old new (Ok step.Need) is next = (
  record {
    stream = record { begins = is.begins; none = next.none };
    marked = marked old.pending old.continued is.asking next.quiet;
    end = next.accepted;
  },
  next.same,
)
mid_next bytes wholes old new (Err NoMemory) is next = next
mid_next bytes wholes old new (Err HeadTooLong) is next = mid_refused bytes wholes old new HeadTooLong is next.0 next.1
mid_next bytes wholes old new (Err BadHead) is next = mid_refused bytes wholes old new BadHead is next.0 next.1
mid_next bytes wholes old new (Err TooManyHeaders) is next = mid_refused bytes wholes old new TooManyHeaders is next.0 next.1
mid_next bytes wholes old new (Err BadHost) is next = mid_refused bytes wholes old new BadHost is next.0 next.1
mid_next bytes wholes old new (Err BothLengths) is next = mid_refused bytes wholes old new BothLengths is next.0 next.1
mid_next bytes wholes old new (Err TransferCoding) is next = mid_refused bytes wholes old new TransferCoding is next.0 next.1
mid_next bytes wholes old new (Err BadLength) is next = mid_refused bytes wholes old new BadLength is next.0 next.1
mid_next bytes wholes old new (Err Coding) is next = mid_refused bytes wholes old new Coding is next.0 next.1
mid_next bytes wholes old new (Err TooLong) is next = mid_refused bytes wholes old new TooLong is next.0 next.1
mid_next bytes wholes old new (Err BadChunk) is next = mid_refused bytes wholes old new BadChunk is next.0 next.1

-- a run that is not refused is mid-stream
pub run_mid : (bytes : List ℕ) (steps : List Step) (state : State) → Run bytes steps state → state.refused ≡ None → HasGiven bytes steps state
run_mid bytes steps state run waits =
    let is = open_of bytes steps state (run_stands bytes steps state run) waits in
    record { wholes = is.wholes; midway = record { waits = waits; begins = is.midway.begins; asking = is.midway.asking }; all = is.all }

-- where nothing is pending the stream is between requests
pub mid_between : (bytes : List ℕ) (wholes : List Whole) (state : State) → Midway bytes wholes state
    → (state ≡ waiting [] false → state.pending ≡ []) × (state.pending ≡ [] → state ≡ waiting [] false)
mid_between bytes wholes state is = (
  λ between. ap (λ (s : State). s.pending) between,
  λ none.
      let told = untold state.pending state.continued is.asking none in
      λ i. record { pending = none i; continued = told i; refused = is.waits i },
)
