-- Each text gives something, with an end: a rest that is not refused is accepted.
use Rattle.std.proofs.Common.{◌≡◌, ℕ, zero, suc, ◌<◌, Bool, true, false, List, [], ◌∷◌, ◌++◌, length, Option, Some, None, inl, inr, refl, sym, ap, ◌∙◌, subst, arith, append_assoc, append-nil, length-append}
use Rattle.std.specs.List.{flat_map}
use Rattle.std.proofs.lemmas.Bool.{cases_lt}
use Rattle.httparse.specs.Grammar.{RequestHead, print_request, print_chunk_line, ReadsRequest, NeverHasRequest, MayBecomeRequest, EndsInTarget}
use Rattle.httparse.proofs.GrammarLemmas.{request_unique}
use Rattle.http_frames.specs.declared.step.Step.{Step}
use Rattle.http_frames.specs.declared.step.Step.TheVariants as step
use Rattle.http_frames.specs.declared.refusal.FrameErr.{FrameErr}
use Rattle.http_frames.specs.HeadRules.{head_refusal}
use Rattle.http_chunks.specs.Chunked.{Overflows, NeverChunked}
use Rattle.http_chunks.specs.ChunkSteps.{MayEnd}
use Rattle.http_frames.specs.Requests.{ReadsHead, Meets, IsRefused, IsAccepted}
use Rattle.http_frames.specs.Framing.{State, waiting, IsNeedStep}
use Rattle.http_frames.specs.Streams.{Whole, IsStream, steps_of, IsAsking, RestGives, RestEnds, Gives, Run}
use Rattle.http_chunks.proofs.ContentLemmas.{may_content, line_may_end}
use Rattle.http_chunks.proofs.FrontLemmas.{none_is_some}
use Rattle.http_frames.proofs.RowLemmas.{Row, row_of, long_head, bad_head, refused_head, long_chunks, bad_chunks, may_front, whole_front, some_same}
use Rattle.http_frames.proofs.WholeLemmas.{head_some}
use Rattle.http_frames.proofs.StreamLemmas.{stream_exists, stream_unique}
use Rattle.http_frames.proofs.RunLemmas.{open_of, run_stands}

-- a text meets one row at most
never_is : (text : List ℕ) (h : RequestHead) (after : List ℕ) → NeverHasRequest text → ReadsRequest text h after → ⊥
never_is text h after never reads =
    let P : List ℕ → Type 0 = λ t. ReadsRequest t h after in never [] h after (subst P (sym (append-nil text)) reads)

over_never : (text : List ℕ) → Overflows text → NeverChunked text → ⊥
over_never text over never =
    let may = subst MayEnd (sym over.2.whole) (may_content over.0 (print_chunk_line over.1) over.2.each (line_may_end over.1 over.2.valid)) in
    never may.more may.chunks may.ending [] may.reads

over_never_of : (text : List ℕ) (h k : RequestHead) (a b : List ℕ) → ReadsHead text h a → ReadsHead text k b → Overflows a → NeverChunked b → ⊥
over_never_of text h k a b is it over never =
    over_never a over (subst NeverChunked (request_unique text k h b a it.reads is.reads).1 never)

broken_head : (text : List ℕ) (h k : RequestHead) (a b : List ℕ) (e : FrameErr) → ReadsRequest text h a → head_refusal h ≡ Some e → ReadsHead text k b → ⊥
broken_head text h k a b e is broken it =
    none_is_some e (sym it.accepted ∙ ap head_refusal (request_unique text k h b a it.reads is).0 ∙ broken)

may_never : (text : List ℕ) → MayBecomeRequest text → NeverHasRequest text → ¬ (EndsInTarget text) → ⊥
may_never text may never outside = may_front text [] (subst MayBecomeRequest (sym (append-nil text)) may) never outside

rows_same : (text : List ℕ) (e d : FrameErr) → Row e text → Row d text → e ≡ d
rows_same text e d (long_head is _ none may) (long_head it _ _ _) = is ∙ sym it
rows_same text e d (long_head is _ none may) (bad_head it never outside) = absurd (may_never text may never outside)
rows_same text e d (long_head is _ none may) (refused_head h reads broken) = absurd (none h [] reads)
rows_same text e d (long_head is _ none may) (long_chunks it h after there _ _) = absurd (none h after there.reads)
rows_same text e d (long_head is _ none may) (bad_chunks it h after there _ _) = absurd (none h after there.reads)
rows_same text e d (bad_head is never outside) (long_head it _ none may) = absurd (may_never text may never outside)
rows_same text e d (bad_head is never outside) (bad_head it _ _) = is ∙ sym it
rows_same text e d (bad_head is never outside) (refused_head h reads broken) = absurd (never_is text h [] never reads)
rows_same text e d (bad_head is never outside) (long_chunks it h after there _ _) = absurd (never_is text h after never there.reads)
rows_same text e d (bad_head is never outside) (bad_chunks it h after there _ _) = absurd (never_is text h after never there.reads)
rows_same text e d (refused_head h reads broken) (long_head it _ none may) = absurd (none h [] reads)
rows_same text e d (refused_head h reads broken) (bad_head it never outside) = absurd (never_is text h [] never reads)
rows_same text e d (refused_head h reads broken) (refused_head k also again) =
    some_same (sym broken ∙ ap head_refusal (request_unique text h k [] [] reads also).0 ∙ again)
rows_same text e d (refused_head h reads broken) (long_chunks it k after there _ _) = absurd (broken_head text h k [] after e reads broken there)
rows_same text e d (refused_head h reads broken) (bad_chunks it k after there _ _) = absurd (broken_head text h k [] after e reads broken there)
rows_same text e d (long_chunks is h after there _ over) (long_head it _ none may) = absurd (none h after there.reads)
rows_same text e d (long_chunks is h after there _ over) (bad_head it never outside) = absurd (never_is text h after never there.reads)
rows_same text e d (long_chunks is h after there _ over) (refused_head k reads broken) = absurd (broken_head text k h [] after d reads broken there)
rows_same text e d (long_chunks is h after there _ over) (long_chunks it _ _ _ _ _) = is ∙ sym it
rows_same text e d (long_chunks is h after there _ over) (bad_chunks it k behind here _ never) = absurd (over_never_of text h k after behind there here over never)
rows_same text e d (bad_chunks is h after there _ never) (long_head it _ none may) = absurd (none h after there.reads)
rows_same text e d (bad_chunks is h after there _ never) (bad_head it never_so outside) = absurd (never_is text h after never_so there.reads)
rows_same text e d (bad_chunks is h after there _ never) (refused_head k reads broken) = absurd (broken_head text k h [] after d reads broken there)
rows_same text e d (bad_chunks is h after there _ never) (long_chunks it k behind here _ over) = absurd (over_never_of text k h behind after here there over never)
rows_same text e d (bad_chunks is h after there _ never) (bad_chunks it _ _ _ _ _) = is ∙ sym it

meets_same : (text : List ℕ) (e d : FrameErr) → Meets e text → Meets d text → e ≡ d
meets_same text e d is it = rows_same text e d (row_of e text is) (row_of d text it)

-- the shortest front that meets a row makes the text refused
least : (n : ℕ) (rest : List ℕ) → ((e : FrameErr) → ¬ (IsRefused rest e)) → (front back : List ℕ) (e : FrameErr) → length front < n
    → rest ≡ front ++ back → Meets e front → ⊥
least zero rest none front back e few cut meets = omega arith
least (suc n) rest none front back e few cut meets =
    none e (record {
      prefix = front;
      rest = back;
      whole = cut;
      meets = meets;
      alone = λ f b d split also. elim (cases_lt (length f) (length front)) [
        | inl below ↦
            absurd (least n rest none f (b ++ back) d (omega arith) (cut ∙ ap (λ (t : List ℕ). t ++ back) split ∙ append_assoc f b back) also)
        | inr above ↦
            let same = whole_front front f b split above in
            let P : List ℕ → Type 0 = λ t. Meets d t in
            meets_same front d e (subst P same also) meets
      ];
    })

accepted_of : (rest : List ℕ) → ((e : FrameErr) → ¬ (IsRefused rest e)) → IsAccepted rest
accepted_of rest none front back e cut meets =
    least (suc (length front)) rest none front back e (omega arith) cut meets

pub gives_exists : (bytes : List ℕ) → ((steps : List Step) (end : Option FrameErr) → ¬ (Gives bytes steps end)) → ⊥
gives_exists bytes none = stream_exists bytes (λ wholes rest stream.
    let no_end : (mark : List Step) → RestGives rest mark → (end : Option FrameErr) → RestEnds rest end → ⊥ =
    λ mark marked end ends.
    none (flat_map steps_of wholes ++ mark) end
    (record { wholes = wholes; rest = rest; stream = stream; mark = mark; marked = marked; all = refl; end = ends }) in
    let no_mark : (mark : List Step) → RestGives rest mark → ⊥ =
    λ mark marked. no_end mark marked None (accepted_of rest (λ e refused. no_end mark marked (Some e) refused)) in
    no_mark [] (inr (λ asking. no_mark (step.Continue ∷ []) (inl (asking, refl)), refl)))

-- at `Need` a framer that is between requests has no rest, and no other is
nothing_asks : (text : List ℕ) → text ≡ [] → IsAsking text → ⊥
nothing_asks text none asking =
    let token = asking.heads.reads.0.method.0 in
    omega (arith, ap length none, ap length asking.heads.reads.1, length-append (print_request asking.head) asking.after, head_some asking.head token)

pub untold : (text : List ℕ) (continued : Bool) → (continued ≡ true → IsAsking text) → text ≡ [] → continued ≡ false
untold text true asking none = absurd (nothing_asks text none (asking refl))
untold text false asking none = refl

pub between_rest : (bytes : List ℕ) (steps : List Step) (state new : State) (wholes : List Whole) (rest : List ℕ) → Run bytes steps state
    → IsNeedStep state new → IsStream bytes wholes rest → (state ≡ waiting [] false → rest ≡ []) × (rest ≡ [] → state ≡ waiting [] false)
between_rest bytes steps state new wholes rest run need stream =
    let is = open_of bytes steps state (run_stands bytes steps state run) need.waits in
    let same = (stream_unique bytes is.wholes wholes state.pending rest (record { begins = is.midway.begins; none = need.none }) stream).1 in (
      λ between. sym same ∙ ap (λ (s : State). s.pending) between,
      λ none.
          let nothing = same ∙ none in
          let told = untold state.pending state.continued is.midway.asking nothing in
          λ i. record { pending = nothing i; continued = told i; refused = need.waits i },
    )
