-- Empty lines before a request line.
use Rattle.std.proofs.Common.{◌≡◌, ℕ, ◌+◌, ◌-◌, ◌<◌, List, [], ◌∷◌, ◌++◌, length, get_or, take, drop, inl, inr, refl, sym, ap, ◌∙◌, subst, arith, append_assoc, append-nil, length-append, take-append-drop}
use Rattle.std.proofs.lemmas.Grind.{flat_map-append}
use Rattle.std.proofs.lemmas.List.{same_from_push, take_more, take_rest}
use Rattle.httparse.specs.Grammar.{LineEnd, crlf, lf, print_end, print_blank, HasNoRequest, MayBecomeRequest, ReadsRequest, is_token_byte}
use Rattle.http_chunks.proofs.ByteLemmas.{No, no_cons, no_nil}
use Rattle.http_chunks.proofs.FieldLemmas.{token_of}
use Rattle.http_frames.specs.InTarget.{after_blank}
use Rattle.http_frames.specs.Lines.{IsBegunEnd, IsBlank, IsInBlank, IsInMethod, IsOpen}
use Rattle.http_frames.specs.declared.lines.Part.TheVariants.{Blank}
use Rattle.http_frames.proofs.StartLemmas.{line_none, method_becomes}
use Rattle.http_frames.proofs.TargetLemmas.{after_blank-splits}

begun_no_feed : (begun : List ℕ) → IsBegunEnd begun → No 10 begun
begun_no_feed begun (inl none) = subst (No 10) (sym none) (no_nil 10)
begun_no_feed begun (inr one) = subst (No 10) (sym one) (no_cons 10 13 [] (λ e. omega (arith, e)) (no_nil 10))

-- no head is whole in empty lines, and one may follow
pub blank_none : (text : List ℕ) → IsInBlank text → HasNoRequest text
blank_none text is = line_none is.blank is.begun text (begun_no_feed is.begun is.end) is.is

one_letter : (blank : List LineEnd) → IsInMethod (print_blank blank ++ 71 ∷ [])
unfolding is_token_byte
one_letter blank = record { blank = blank; method = 71 ∷ []; token = token_of (71 ∷ []) refl; is = refl }

may_with : (text more : List ℕ) (blank : List LineEnd) → text ++ more ≡ print_blank blank ++ 71 ∷ [] → MayBecomeRequest text
may_with text more blank same =
    let becomes = method_becomes (print_blank blank ++ 71 ∷ []) (one_letter blank) in
    let P : List ℕ → Type 0 = λ t. ReadsRequest t becomes.head [] in
    inl (
      more ++ becomes.more,
      becomes.head,
      subst P (ap (λ (t : List ℕ). t ++ becomes.more) (sym same) ∙ append_assoc text more becomes.more) becomes.reads,
    )

pub blank_may : (text : List ℕ) → IsInBlank text → MayBecomeRequest text
blank_may text is = by_end is.end
  where
    regroup : (a : List ℕ) → (a ++ 13 ∷ []) ++ 10 ∷ 71 ∷ [] ≡ (a ++ 13 ∷ 10 ∷ []) ++ 71 ∷ []
    regroup a = simp append_assoc

    by_end : IsBegunEnd is.begun → MayBecomeRequest text
    by_end (inl none) =
        may_with text (71 ∷ []) is.blank
        (ap (λ (t : List ℕ). t ++ 71 ∷ []) (is.is ∙ ap (λ (t : List ℕ). print_blank is.blank ++ t) none ∙ append-nil (print_blank is.blank)))
    by_end (inr one) =
        may_with text (10 ∷ 71 ∷ []) (is.blank ++ crlf ∷ [])
        (ap (λ (t : List ℕ). t ++ 10 ∷ 71 ∷ []) (is.is ∙ ap (λ (t : List ℕ). print_blank is.blank ++ t) one)
        ∙ regroup (print_blank is.blank) ∙ ap (λ (t : List ℕ). t ++ 71 ∷ []) (sym (flat_map-append print_end is.blank (crlf ∷ []))))

-- ---- the end of empty lines

-- the last byte of an empty line is a line feed
record EndsInFeed (text : List ℕ) : Type 0 where
  front : List ℕ
  is : text ≡ front ++ 10 ∷ []

end_feeds : (end : LineEnd) → EndsInFeed (print_end end)
end_feeds crlf = record { front = 13 ∷ []; is = refl }
end_feeds lf = record { front = []; is = refl }

blank_feeds : (end : LineEnd) (ends : List LineEnd) → EndsInFeed (print_blank (end ∷ ends))
blank_feeds end [] = subst EndsInFeed (sym (append-nil (print_end end))) (end_feeds end)
blank_feeds end (next ∷ ends) =
    let rest = blank_feeds next ends in
    record {
      front = print_end end ++ rest.front;
      is = ap (λ (t : List ℕ). print_end end ++ t) rest.is ∙ sym (append_assoc (print_end end) rest.front (10 ∷ []));
    }

no_return : (blank : List LineEnd) (p : List ℕ) → print_blank blank ≡ p ++ 13 ∷ [] → ⊥
no_return [] p same = omega (arith, ap length same, length-append p (13 ∷ []))
no_return (end ∷ ends) p same =
    let feeds = blank_feeds end ends in
    omega (arith, (same_from_push feeds.front p 10 13 (sym feeds.is ∙ same)).1)

-- before the carriage return that they end in they are whole
before_return : (p begun : List ℕ) (blank : List LineEnd) → IsBegunEnd begun → p ++ 13 ∷ [] ≡ print_blank blank ++ begun → IsBlank p
before_return p begun blank (inl none) same =
    absurd (no_return blank p (sym (same ∙ ap (λ (t : List ℕ). print_blank blank ++ t) none ∙ append-nil (print_blank blank))))
before_return p begun blank (inr one) same =
    record { blank = blank; is = (same_from_push p (print_blank blank) 13 13 (same ∙ ap (λ (t : List ℕ). print_blank blank ++ t) one)).0 }

-- and without one they are
without_return : (p begun : List ℕ) (x : ℕ) (blank : List LineEnd) → IsBegunEnd begun → (x ≡ 13 → ⊥) → p ++ x ∷ [] ≡ print_blank blank ++ begun → IsBlank (p ++ x ∷ [])
without_return p begun x blank (inl none) other same =
    record { blank = blank; is = same ∙ ap (λ (t : List ℕ). print_blank blank ++ t) none ∙ append-nil (print_blank blank) }
without_return p begun x blank (inr one) other same =
    absurd (other (same_from_push p (print_blank blank) x 13 (same ∙ ap (λ (t : List ℕ). print_blank blank ++ t) one)).1)

pub return_ends : (text : List ℕ) (end n : ℕ) → end ≡ n + 1 → n < length text → get_or text n 0 ≡ 13 → IsInBlank (take end text) → IsBlank (take n text)
return_ends text end n one within byte is =
    let cut : take end text ≡ take n text ++ 13 ∷ [] =
    ap (λ (k : ℕ). take k text) one ∙ take_more text n 0 within ∙ ap (λ (b : ℕ). take n text ++ b ∷ []) byte in
    before_return (take n text) is.begun is.blank is.end (sym cut ∙ is.is)

pub line_ends : (text : List ℕ) (end n : ℕ) → end ≡ n + 1 → n < length text → (get_or text n 0 ≡ 13 → ⊥) → IsInBlank (take end text) → IsBlank (take end text)
line_ends text end n one within other is =
    let cut : take end text ≡ take n text ++ get_or text n 0 ∷ [] = ap (λ (k : ℕ). take k text) one ∙ take_more text n 0 within in
    subst IsBlank (sym cut) (without_return (take n text) is.begun (get_or text n 0) is.blank is.end other (sym cut ∙ is.is))

pub no_ends : (text : List ℕ) → IsBlank (take 0 text)
no_ends text = record { blank = []; is = refl }

-- ---- the part

pub in_blank : (text : List ℕ) → IsBegunEnd (after_blank text) → IsInBlank text
in_blank text begun =
    let cut = after_blank-splits text in
    record { blank = cut.0; begun = after_blank text; end = begun; is = cut.1 }

pub on_blank : (text : List ℕ) (lines from : ℕ) → IsBlank (take from text) → IsInBlank (take (length text - from) (drop from text)) → lines ≡ 0
    → IsOpen Blank lines (drop lines text)
on_blank text lines from front back none =
    let rest = subst IsInBlank (take_rest text from) back in
    let all : IsInBlank text = record {
      blank = front.blank ++ rest.blank;
      begun = rest.begun;
      end = rest.end;
      is = sym (take-append-drop from text) ∙ ap (λ (t : List ℕ). t ++ drop from text) front.is
          ∙ ap (λ (t : List ℕ). print_blank front.blank ++ t) rest.is ∙ sym (append_assoc (print_blank front.blank) (print_blank rest.blank) rest.begun)
          ∙ ap (λ (t : List ℕ). t ++ rest.begun) (sym (flat_map-append print_end front.blank rest.blank));
    } in
    (none, subst IsInBlank (ap (λ (n : ℕ). drop n text) (sym none)) all)
