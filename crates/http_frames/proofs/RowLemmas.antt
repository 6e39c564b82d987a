-- The rows of the table of refusals, and which of them a head meets.
use Rattle.std.proofs.Common.{◌≡◌, ℕ, ◌<◌, ◌≤◌, Bool, true, false, cond, List, [], ◌∷◌, ◌++◌, length, Option, Some, inl, inr, lit<, lit≤, refl, sym, ap, ◌∙◌, subst, arith, append_assoc, append-nil, length-append}
use Rattle.std.specs.Prelude.{IsTrue}
use Rattle.std.proofs.lemmas.List.{nil_from_length}
use Rattle.httparse.specs.Grammar.{RequestHead, IsRequestHead, print_request, ReadsRequest, HasNoRequest, NeverHasRequest, EndsInTarget, MayBecomeRequest, LineEnd, print_blank, print_end, print_version, print_section, IsField, crlf, IsToken, AllPass, is_uri_byte}
use Rattle.httparse.proofs.GrammarLemmas.{request_prefix_free, ReadsRequest-append, print_request-append}
use Rattle.http_chunks.proofs.FrontLemmas.{none_is_some}
use Rattle.http_chunks.proofs.SplitLemmas.{split_append, All-front}
use Rattle.std.proofs.lemmas.List.Elements.{All-nil, All-cons}
use Rattle.std.proofs.lemmas.Str.{IsUtf8-from_ascii}
use Rattle.std.proofs.lemmas.Str.Ascii.{IsAscii-nil, IsAscii-cons}
use Rattle.http_frames.specs.declared.refusal.FrameErr.{FrameErr}
use Rattle.http_frames.specs.declared.refusal.FrameErr.TheVariants.{HeadTooLong, BadHead, TooManyHeaders, BadHost, BothLengths, TransferCoding, BadLength, Coding, TooLong, BadChunk, NoMemory}
use Rattle.http_frames.specs.HeadRules.{HEAD_LIMIT, fields_of, head_refusal, fields_refusal, is_chunked}
use Rattle.http_chunks.specs.Chunked.{Overflows, NeverChunked}
use Rattle.http_frames.specs.Requests.{ReadsHead, Meets, IsAccepted}

-- a row that a text meets, by its kind
pub data Row (e : FrameErr) (text : List ℕ) : Type 0 where
  long_head : e ≡ HeadTooLong → HEAD_LIMIT ≤ length text → HasNoRequest text → MayBecomeRequest text → Row e text
  bad_head : e ≡ BadHead → NeverHasRequest text → ¬ (EndsInTarget text) → Row e text
  refused_head : (h : RequestHead) → ReadsRequest text h [] → head_refusal h ≡ Some e → Row e text
  long_chunks : e ≡ TooLong → (h : RequestHead) (after : List ℕ) → ReadsHead text h after → IsTrue (is_chunked (fields_of h)) → Overflows after → Row e text
  bad_chunks : e ≡ BadChunk → (h : RequestHead) (after : List ℕ) → ReadsHead text h after → IsTrue (is_chunked (fields_of h)) → NeverChunked after → Row e text

pub row_of : (e : FrameErr) (text : List ℕ) → Meets e text → Row e text
row_of HeadTooLong text m = long_head refl m.0 m.1 m.2
row_of BadHead text m = bad_head refl m.0 m.1
row_of TooLong text (inl m) = refused_head m.0 m.1 m.2
row_of TooLong text (inr m) = long_chunks refl m.0 m.1 m.2 m.3 m.4
row_of BadChunk text m = bad_chunks refl m.0 m.1 m.2 m.3 m.4
row_of NoMemory text m = absurd m
row_of TooManyHeaders text m = refused_head m.0 m.1 m.2
row_of BadHost text m = refused_head m.0 m.1 m.2
row_of BothLengths text m = refused_head m.0 m.1 m.2
row_of TransferCoding text m = refused_head m.0 m.1 m.2
row_of BadLength text m = refused_head m.0 m.1 m.2
row_of Coding text m = refused_head m.0 m.1 m.2

-- the rule that a head breaks is met by its text
chosen : (P : FrameErr → Type 0) (b : Bool) (x e : FrameErr) (others : Option FrameErr)
    → P x → (others ≡ Some e → P e) → cond b (Some x) others ≡ Some e → P e
chosen P true x e others here more is = let same : x ≡ e = cc in subst P same here
chosen P false x e others here more is = more is

pub some_same : {A : Type 0} {x y : A} → Some x ≡ Some y → x ≡ y
some_same e = cc

pub refusal_meets : (h : RequestHead) (text : List ℕ) (e : FrameErr) → ReadsRequest text h [] → head_refusal h ≡ Some e → Meets e text
unfolding fields_refusal
refusal_meets h text e reads is =
    let P : FrameErr → Type 0 = λ x. head_refusal h ≡ Some x → Meets x text in
    chosen P _ TooManyHeaders e _ (λ o. (h, reads, o)) (
    chosen P _ BadHost e _ (λ o. (h, reads, o)) (
    chosen P _ BothLengths e _ (λ o. (h, reads, o)) (
    chosen P _ TransferCoding e _ (λ o. (h, reads, o)) (
    chosen P _ BadLength e _ (λ o. (h, reads, o)) (
    chosen P _ Coding e _ (λ o. (h, reads, o)) (
    chosen P _ TooLong e _ (λ o. inl (h, reads, o)) (λ none. absurd (none_is_some e none)))))))) is is

-- a head that begins the text begins every longer one
pub head_before : (text front back : List ℕ) (h : RequestHead) (after : List ℕ) → text ≡ front ++ back → ReadsRequest front h after
    → ReadsRequest text h (after ++ back)
head_before text front back h after whole reads =
    let P : List ℕ → Type 0 = λ t. ReadsRequest t h (after ++ back) in
    subst P (sym whole) (ReadsRequest-append front h after back reads)

-- a front that is as long as the whole is the whole
pub whole_front : (text front back : List ℕ) → text ≡ front ++ back → length text ≤ length front → front ≡ text
whole_front text front back whole long =
    let none = nil_from_length back (omega (arith, ap length whole, length-append front back)) in
    sym (append-nil front) ∙ ap (λ (t : List ℕ). front ++ t) (sym none) ∙ sym whole

-- a head with a method
abbrev plain_head : List LineEnd → List ℕ → RequestHead
plain_head blank method =
    record { blank = blank; method = method; target = 47 ∷ []; minor = 1; line_end = crlf; fields = []; last = crlf }

abbrev plain_rest : List ℕ
plain_rest = 47 ∷ 32 ∷ print_version 1 ++ (print_end crlf ++ (print_section [] crlf ++ []))

plain_head_valid : (blank : List LineEnd) (method : List ℕ) → IsToken method → IsRequestHead (plain_head blank method)
plain_head_valid blank method token = record {
  method = token;
  target = (lit< tt, All-cons (λ v. is_uri_byte v ≡ true) 47 [] refl (All-nil (λ v. is_uri_byte v ≡ true)));
  target_text = IsUtf8-from_ascii (47 ∷ []) (IsAscii-cons 47 [] (lit< tt) IsAscii-nil);
  minor = lit≤ tt;
  fields = All-nil IsField;
}

regroup : (a b r : List ℕ) → (a ++ b ++ 32 ∷ []) ++ r ≡ a ++ (b ++ 32 ∷ r)
regroup a b r = simp append_assoc

-- inside a target, or before it, the bytes may still begin a head
pub may_front : (front back : List ℕ) → MayBecomeRequest (front ++ back) → NeverHasRequest front → ¬ (EndsInTarget front) → ⊥
may_front front back (inl (more, h, reads)) never outside =
    let P : List ℕ → Type 0 = λ t. ReadsRequest t h [] in
    never (back ++ more) h [] (subst P (append_assoc front back more) reads)
may_front front back (inr (blank, method, target, token, uri, whole)) never outside =
    let start = print_blank blank ++ method ++ 32 ∷ [] in
    let opened : (print_blank blank ++ method) ++ 32 ∷ target ≡ start ++ target = simp append_assoc in
    elim (split_append front back start target (whole ∙ opened)) [
      | inl (m, is, rest) ↦
          let P : List ℕ → Type 0 = λ t. AllPass is_uri_byte t in
          outside (blank, method, m, token, All-front (λ v. is_uri_byte v ≡ true) m back (subst P rest uri), is ∙ simp append_assoc)
      | inr (m, is, rest) ↦
          let h = plain_head blank method in
          let on : front ++ (m ++ plain_rest) ≡ print_request h ++ [] =
          sym (append_assoc front m plain_rest) ∙ ap (λ (t : List ℕ). t ++ plain_rest) (sym is)
          ∙ regroup (print_blank blank) method plain_rest ∙ sym (print_request-append h []) in
          never (m ++ plain_rest) h [] (plain_head_valid blank method token, on)
    ]

-- a whole head that breaks a rule is refused by it, and by nothing before
pub refused_head_alone : (h : RequestHead) (e : FrameErr) → IsRequestHead h → length (print_request h) ≤ HEAD_LIMIT → head_refusal h ≡ Some e
    → (front back : List ℕ) (other : FrameErr) → print_request h ≡ front ++ back → Meets other front → other ≡ e
refused_head_alone h e valid short refusal front back other whole meets =
    let reads : ReadsRequest (print_request h) h [] = (valid, sym (append-nil (print_request h))) in
    let P : List ℕ → Type 0 = λ t. ReadsRequest t h [] in
    let on : ReadsRequest (front ++ back) h [] = subst P whole reads in
    elim (row_of other front meets) [
      | long_head is long none may ↦
          let same = whole_front (print_request h) front back whole (omega arith) in
          absurd (none h [] (subst P (sym same) reads))
      | bad_head is never outside ↦ absurd (never back h [] on)
      | refused_head k there broken ↦
          let head = (request_prefix_free front back k h [] [] there on).0 in
          some_same (sym broken ∙ ap head_refusal head ∙ refusal)
      | long_chunks is k after there chunked over ↦
          let head = (request_prefix_free front back k h after [] there.reads on).0 in
          absurd (none_is_some e (sym there.accepted ∙ ap head_refusal head ∙ refusal))
      | bad_chunks is k after there chunked never ↦
          let head = (request_prefix_free front back k h after [] there.reads on).0 in
          absurd (none_is_some e (sym there.accepted ∙ ap head_refusal head ∙ refusal))
    ]

-- bytes that are no head at the limit are refused as too long, and by nothing before
pub long_head_alone : (text : List ℕ) → HasNoRequest text → MayBecomeRequest text
    → (front back : List ℕ) (other : FrameErr) → text ≡ front ++ back → Meets other front → other ≡ HeadTooLong
long_head_alone text none may front back other whole meets =
    let may_on = subst MayBecomeRequest whole may in
    elim (row_of other front meets) [
      | long_head is long _ _ ↦ is
      | bad_head is never outside ↦ absurd (may_front front back may_on never outside)
      | refused_head k there broken ↦ absurd (none k _ (head_before text front back k [] whole there))
      | long_chunks is k after there chunked over ↦ absurd (none k _ (head_before text front back k after whole there.reads))
      | bad_chunks is k after there chunked never ↦ absurd (none k _ (head_before text front back k after whole there.reads))
    ]

-- bytes that begin no head are refused so, and by nothing before
pub bad_head_alone : (text : List ℕ) → length text ≤ HEAD_LIMIT → NeverHasRequest text → ¬ (EndsInTarget text)
    → (front back : List ℕ) (other : FrameErr) → text ≡ front ++ back → Meets other front → other ≡ BadHead
bad_head_alone text short never outside front back other whole meets =
    let none : HasNoRequest text = subst HasNoRequest (append-nil text) (never []) in
    elim (row_of other front meets) [
      | long_head is long none_so may ↦
          let same = whole_front text front back whole (omega arith) in
          let P : List ℕ → Type 0 = λ t. MayBecomeRequest t in
          let Q : List ℕ → Type 0 = λ t. MayBecomeRequest t in
          absurd (may_front text [] (subst MayBecomeRequest (same ∙ sym (append-nil text)) may) never outside)
      | bad_head is _ _ ↦ is
      | refused_head k there broken ↦ absurd (none k _ (head_before text front back k [] whole there))
      | long_chunks is k after there chunked over ↦ absurd (none k _ (head_before text front back k after whole there.reads))
      | bad_chunks is k after there chunked never_so ↦ absurd (none k _ (head_before text front back k after whole there.reads))
    ]

-- bytes that may begin a head, and are fewer than the limit, meet no row
pub partial_head_accepted : (text : List ℕ) → length text < HEAD_LIMIT → HasNoRequest text → MayBecomeRequest text → IsAccepted text
partial_head_accepted text short none may front back error whole meets =
    let is = long_head_alone text none may front back error whole meets in
    let P : FrameErr → Type 0 = λ e. Meets e front in
    let long = subst P is meets in
    omega (arith, long.0, ap length whole, length-append front back)
