-- The whole lines of a head, and what stands behind them.
use Rattle.std.proofs.Common.{◌≡◌, ℕ, ◌+◌, ◌-◌, ◌<◌, ◌≤◌, true, false, not, ◌==◌, List, [], ◌∷◌, ◌++◌, length, take, drop, ◌⊎◌, inl, inr, refl, sym, ap, ◌∙◌, subst, arith, append_assoc, append-nil, get_or, get_or-drop, length-take, length-drop, take-append-drop}
use Rattle.std.specs.List.{All, list_all}
use Rattle.std.proofs.lemmas.Bool.{false≢true, eqb-true, and_left, and_right}
use Rattle.std.proofs.lemmas.List.{append_cancel_right, take-append-le, take_more, drop_more, take_rest}
use Rattle.std.proofs.lemmas.List.Elements.{All-nil, All-append}
use Rattle.std.proofs.lemmas.List.Folds.{list_all-append}
use Rattle.std.proofs.lemmas.List.Sums.{AllPass-from_list_all}
use Rattle.std.proofs.Math.Seq.{take-append-add}
use Rattle.httparse.specs.Grammar.{RequestHead, IsRequestHead, ReadsRequest, HasNoRequest, NeverHasRequest, MayBecomeRequest, Field, IsField, print_field, print_section, ReadsSection, HasNoSection, NeverHasSection, MayBecomeSection, LineEnd, crlf, lf, print_end, print_blank, print_version, IsToken, AllPass, is_token_byte, is_uri_byte}
use Rattle.httparse.specs.Pieces.{RequestStart, is_newline}
use Rattle.httparse.proofs.GrammarLemmas.{request_tree, request_pieces, request_from_pieces, print_request-append, cons-append}
use Rattle.httparse.proofs.PieceLemmas.{RequestStart_deterministic, Section_skip, Stops_token}
use Rattle.http_chunks.proofs.ByteLemmas.{No, no_of, no_append, no_cons, no_none}
use Rattle.http_chunks.proofs.FieldLemmas.{lines_of, cut_line, before_feed, before_no_feed, end_is, line_no_feed, EndsFields, HasSection, token_stops, token_no_feed, cut_section}
use Rattle.http_frames.specs.HeadRules.{HEAD_LIMIT}
use Rattle.http_frames.specs.Lines.{OpensHead, AreLines}

-- a start line, and what follows it
abbrev start_on : RequestHead → List ℕ → List ℕ
start_on h rest =
    print_blank h.blank ++ (h.method ++ 32 ∷ (h.target ++ 32 ∷ (print_version h.minor ++ (print_end h.line_end ++ rest))))

start_splits : (h : RequestHead) (rest : List ℕ) → start_on h rest ≡ start_on h [] ++ rest
start_splits h rest = regroup (print_blank h.blank) h.method h.target (print_version h.minor) (print_end h.line_end) rest
  where
    regroup : (a b c d e r : List ℕ) → a ++ (b ++ 32 ∷ (c ++ 32 ∷ (d ++ (e ++ r)))) ≡ (a ++ (b ++ 32 ∷ (c ++ 32 ∷ (d ++ (e ++ []))))) ++ r
    regroup a b c d e r = simp append_assoc

start_reads : (h : RequestHead) → IsRequestHead h → (rest : List ℕ) → RequestStart (request_tree h).0 (start_on h rest) rest
start_reads h is rest = (
  _,
  (refl, Stops_token h.method _ is.method.0 is.method.1),
  (
    _,
    (is.method.0, is.method.1, refl),
    (_, ((is.target.0, is.target.1, refl), is.target_text), (_, (is.minor, refl), refl)),
  ),
)

-- whole lines are a start line and fields
open_is : (front : List ℕ) (is : OpensHead front) → front ≡ start_on is.head [] ++ lines_of is.head.fields
open_is front is =
    let h = is.head in
    append_cancel_right front (start_on h [] ++ lines_of h.fields) (10 ∷ [])
    (is.reads.1 ∙ print_request-append h [] ∙ start_splits h (print_section h.fields h.last ++ [])
    ∙ ap (λ (e : LineEnd). start_on h [] ++ (print_section h.fields e ++ [])) is.last
    ∙ regroup (start_on h []) (lines_of h.fields) (10 ∷ []))
  where
    regroup : (a b c : List ℕ) → a ++ ((b ++ c) ++ []) ≡ (a ++ b) ++ c
    regroup a b c = simp (append_assoc, append-nil)

open_on : (front : List ℕ) (is : OpensHead front) (rest : List ℕ) → front ++ rest ≡ start_on is.head (lines_of is.head.fields ++ rest)
open_on front is rest =
    let h = is.head in
    ap (λ (t : List ℕ). t ++ rest) (open_is front is) ∙ append_assoc (start_on h []) (lines_of h.fields) rest
    ∙ sym (start_splits h (lines_of h.fields ++ rest))

open_start : (front : List ℕ) (is : OpensHead front) (rest : List ℕ)
    → RequestStart (request_tree is.head).0 (front ++ rest) (lines_of is.head.fields ++ rest)
open_start front is rest =
    let P : List ℕ → Type 0 = λ t. RequestStart (request_tree is.head).0 t (lines_of is.head.fields ++ rest) in
    subst P (sym (open_on front is rest)) (start_reads is.head is.reads.0 (lines_of is.head.fields ++ rest))

-- a head that begins with whole lines has a section behind them, and a section behind them makes a head
section_behind : (front : List ℕ) (is : OpensHead front) (text : List ℕ) (k : RequestHead) (rest : List ℕ) → ReadsRequest (front ++ text) k rest
    → (fields : List Field) × ReadsSection text fields k.last rest
section_behind front is text k rest reads =
    let pieces = request_pieces (front ++ text) k rest reads in
    let same = RequestStart_deterministic.unique (request_tree is.head).0 (request_tree k).0 (front ++ text) (lines_of is.head.fields ++ text) pieces.0
    (open_start front is text) pieces.1 in
    let skipped = Section_skip is.head.fields k.fields k.last pieces.0 text rest (is.reads.0.fields, sym same.1) pieces.2 in
    (skipped.0, skipped.2)

head_of_section : (front : List ℕ) (is : OpensHead front) (text : List ℕ) (fields : List Field) (last : LineEnd) (rest : List ℕ)
    → ReadsSection text fields last rest → (h : RequestHead) × ReadsRequest (front ++ text) h rest
head_of_section front is text fields last rest reads = (
  _,
  request_from_pieces (front ++ text) ((request_tree is.head).0, (is.head.fields ++ fields, last)) rest (
    lines_of is.head.fields ++ text,
    open_start front is text,
    (
      All-append IsField is.head.fields fields is.reads.0.fields reads.0,
      ap (λ (t : List ℕ). lines_of is.head.fields ++ t) reads.1 ∙ joined is.head.fields fields (print_end last) rest,
    ),
  ),
)
  where
    joined : (fs gs : List Field) (e r : List ℕ) → lines_of fs ++ ((lines_of gs ++ e) ++ r) ≡ (lines_of (fs ++ gs) ++ e) ++ r
    joined [] gs e r = refl
    joined (f ∷ fs) gs e r =
        append_assoc (print_field f) (lines_of fs) ((lines_of gs ++ e) ++ r) ∙ ap (λ (t : List ℕ). print_field f ++ t) (joined fs gs e r)
        ∙ regroup (print_field f) (lines_of (fs ++ gs)) e r
      where
        regroup : (a b e r : List ℕ) → a ++ ((b ++ e) ++ r) ≡ ((a ++ b) ++ e) ++ r
        regroup a b e r = simp append_assoc

pub none_behind : (front text : List ℕ) → OpensHead front → HasNoSection text → HasNoRequest (front ++ text)
none_behind front text is none k rest reads =
    let section = section_behind front is text k rest reads in none section.0 k.last rest section.1

pub may_behind : (front text : List ℕ) → OpensHead front → MayBecomeSection text → MayBecomeRequest (front ++ text)
may_behind front text is may =
    let head = head_of_section front is (text ++ may.0) may.1 may.2 [] may.3 in
    let P : List ℕ → Type 0 = λ t. ReadsRequest t head.0 [] in
    inl (may.0, head.0, subst P (sym (append_assoc front text may.0)) head.1)

pub never_behind : (front text : List ℕ) → OpensHead front → NeverHasSection text → NeverHasRequest (front ++ text)
never_behind front text is never more k rest reads =
    let P : List ℕ → Type 0 = λ t. ReadsRequest t k rest in
    let section = section_behind front is (text ++ more) k rest (subst P (append_assoc front text more) reads) in
    never more section.0 k.last rest section.1

-- ---- where lines end

-- the empty lines in front are line ends alone
pub cut_blank : (ends : List LineEnd) (rest l m : List ℕ) → print_blank ends ++ rest ≡ l ++ 10 ∷ m → list_all is_newline l ≡ false
    → (k : List ℕ) × (l ≡ print_blank ends ++ k) × (rest ≡ k ++ 10 ∷ m)
cut_blank [] rest l m e some = (l, refl, e)
cut_blank (lf ∷ ends) rest l m e some = elim (cut_line [] (print_blank ends ++ rest) l m (before_no_feed lf) e) [
  | inl (is, at) ↦ absurd (false≢true (sym some ∙ ap (list_all is_newline) is))
  | inr (k, is, at) ↦
      let others = cut_blank ends rest k m at (sym (ap (list_all is_newline) is) ∙ some) in
      (others.0, is ∙ ap (λ (t : List ℕ). 10 ∷ t) others.1, others.2)
]
cut_blank (crlf ∷ ends) rest l m e some = elim (cut_line (13 ∷ []) (print_blank ends ++ rest) l m (before_no_feed crlf) e) [
  | inl (is, at) ↦ absurd (false≢true (sym some ∙ ap (list_all is_newline) is))
  | inr (k, is, at) ↦
      let others = cut_blank ends rest k m at (sym (ap (list_all is_newline) is) ∙ some) in
      (others.0, is ∙ ap (λ (t : List ℕ). 13 ∷ 10 ∷ t) others.1, others.2)
]

-- the start line
unfoldable pub start_body : RequestHead → List ℕ
start_body h = h.method ++ 32 ∷ (h.target ++ 32 ∷ print_version h.minor)

version_no_feed : (minor : ℕ) → No 10 (print_version minor)
version_no_feed minor =
    no_append 10 (72 ∷ 84 ∷ 84 ∷ 80 ∷ 47 ∷ 49 ∷ 46 ∷ []) ((48 + minor) ∷ [])
    (no_of 10 (λ b. not (b == 10)) refl (72 ∷ 84 ∷ 84 ∷ 80 ∷ 47 ∷ 49 ∷ 46 ∷ [])
    (AllPass-from_list_all (λ b. not (b == 10)) (72 ∷ 84 ∷ 84 ∷ 80 ∷ 47 ∷ 49 ∷ 46 ∷ []) refl))
    (no_cons 10 (48 + minor) [] (λ e. omega (arith, e)) (All-nil (λ (v : ℕ). v ≡ 10 → ⊥)))

start_no_feed : (h : RequestHead) → IsRequestHead h → No 10 (start_body h)
unfolding start_body
start_no_feed h is =
    no_append 10 h.method (32 ∷ (h.target ++ 32 ∷ print_version h.minor)) (no_of 10 is_token_byte token_stops h.method is.method.1)
    (no_cons 10 32 (h.target ++ 32 ∷ print_version h.minor) (λ e. omega (arith, e)) (no_append 10 h.target (32 ∷ print_version h.minor) (no_of 10 is_uri_byte refl h.target is.target.1)
    (no_cons 10 32 (print_version h.minor) (λ e. omega (arith, e)) (version_no_feed h.minor))))

pub start_line : (h : RequestHead) (rest : List ℕ) → start_on h rest ≡ print_blank h.blank ++ ((start_body h ++ before_feed h.line_end) ++ 10 ∷ rest)
unfolding start_body
start_line h rest =
    ap (λ (t : List ℕ). print_blank h.blank ++ t)
    (regroup h.method h.target (print_version h.minor) (print_end h.line_end) rest ∙ end_is (start_body h) h.line_end rest)
  where
    regroup : (b c d e r : List ℕ) → b ++ 32 ∷ (c ++ 32 ∷ (d ++ (e ++ r))) ≡ (b ++ 32 ∷ (c ++ 32 ∷ d)) ++ (e ++ r)
    regroup b c d e r = simp (append_assoc, cons-append)

-- a line feed behind the start line, and not behind the end of the head, ends whole lines
opens_with : (h : RequestHead) → IsRequestHead h → (fields : List Field) → All IsField fields → (front : List ℕ) → front ≡ start_on h (lines_of fields) → OpensHead front
opens_with h is fields all front same =
    let reads = request_from_pieces (front ++ 10 ∷ []) ((request_tree h).0, (fields, lf)) [] (
      lines_of fields ++ 10 ∷ [],
      let P : List ℕ → Type 0 = λ t. RequestStart (request_tree h).0 t (lines_of fields ++ 10 ∷ []) in
          subst P (sym (ap (λ (t : List ℕ). t ++ 10 ∷ []) (same ∙ start_splits h (lines_of fields)) ∙ append_assoc (start_on h []) (lines_of fields) (10 ∷ [])
          ∙ sym (start_splits h (lines_of fields ++ 10 ∷ [])))) (start_reads h is (lines_of fields ++ 10 ∷ [])),
      (all, sym (append-nil (lines_of fields ++ 10 ∷ []))),
    ) in
    record { head = _; reads = reads; last = refl }

section_at : (h : RequestHead) (l k m : List ℕ) → IsRequestHead h → HasNoRequest (l ++ 10 ∷ m) → (rest : List ℕ)
    → l ≡ print_blank h.blank ++ ((start_body h ++ before_feed h.line_end) ++ 10 ∷ k) → EndsFields k ⊎ HasSection h.fields h.last k → OpensHead (l ++ 10 ∷ [])
section_at h l k m is none rest cut (inl ends) =
    opens_with h is ends.fields ends.valid (l ++ 10 ∷ []) (
    ap (λ (t : List ℕ). t ++ 10 ∷ []) (cut ∙ sym (start_line h k) ∙ start_splits h k) ∙ append_assoc (start_on h []) k (10 ∷ [])
    ∙ sym (start_splits h (k ++ 10 ∷ [])) ∙ ap (start_on h) ends.is
    )
section_at h l k m is none rest cut (inr has) =
    absurd (none h (has.more ++ m) (
      is,
      regroup l m ∙ ap (λ (t : List ℕ). (t ++ 10 ∷ []) ++ m) (cut ∙ sym (start_line h k) ∙ start_splits h k)
          ∙ deeper (start_on h []) k m ∙ ap (λ (t : List ℕ). start_on h [] ++ (t ++ m)) has.is
          ∙ ap (λ (t : List ℕ). start_on h [] ++ t) (append_assoc (print_section h.fields h.last) has.more m)
          ∙ sym (start_splits h (print_section h.fields h.last ++ (has.more ++ m))) ∙ sym (print_request-append h (has.more ++ m)),
    ))
  where
    regroup : (l m : List ℕ) → l ++ 10 ∷ m ≡ (l ++ 10 ∷ []) ++ m
    regroup l m = simp (append_assoc, cons-append)

    deeper : (a k m : List ℕ) → ((a ++ k) ++ 10 ∷ []) ++ m ≡ a ++ ((k ++ 10 ∷ []) ++ m)
    deeper a k m = simp append_assoc

opens_becoming : (l m more : List ℕ) (h : RequestHead) → list_all is_newline l ≡ false → HasNoRequest (l ++ 10 ∷ m)
    → ReadsRequest ((l ++ 10 ∷ m) ++ more) h [] → OpensHead (l ++ 10 ∷ [])
opens_becoming l m more h some none reads =
    let body = start_body h ++ before_feed h.line_end in
    let section = print_section h.fields h.last ++ [] in
    let all : print_blank h.blank ++ (body ++ 10 ∷ section) ≡ l ++ 10 ∷ (m ++ more) =
    sym (start_line h section) ∙ sym (print_request-append h []) ∙ sym reads.1 ∙ append_assoc l (10 ∷ m) more in
    let blank = cut_blank h.blank (body ++ 10 ∷ section) l (m ++ more) all some in
    elim (cut_line body section blank.0 (m ++ more) (line_no_feed (start_body h) h.line_end (start_no_feed h reads.0)) blank.2) [
      | inl (is, at) ↦
          opens_with h reads.0 [] (All-nil IsField) (l ++ 10 ∷ []) (
          ap (λ (t : List ℕ). t ++ 10 ∷ []) (blank.1 ∙ ap (λ (t : List ℕ). print_blank h.blank ++ t) is)
          ∙ append_assoc (print_blank h.blank) body (10 ∷ []) ∙ sym (start_line h [])
          )
      | inr (k, is, at) ↦
          section_at h l k m reads.0 none [] (blank.1 ∙ ap (λ (t : List ℕ). print_blank h.blank ++ t) is)
          (cut_section h.fields h.last [] k (m ++ more) reads.0.fields at)
    ]

pub target_no_feed : (method target : List ℕ) → IsToken method → AllPass is_uri_byte target → No 10 (method ++ 32 ∷ target)
target_no_feed method target token uri =
    no_append 10 method (32 ∷ target) (token_no_feed method token)
    (no_cons 10 32 target (λ x. omega (arith, x)) (no_of 10 is_uri_byte refl target uri))

opens_target : (l m : List ℕ) (blank : List LineEnd) (method target : List ℕ) → list_all is_newline l ≡ false
    → IsToken method → AllPass is_uri_byte target
    → l ++ 10 ∷ m ≡ print_blank blank ++ method ++ 32 ∷ target → ⊥
opens_target l m blank method target some token uri e =
    let cut = cut_blank blank (method ++ 32 ∷ target) l m (sym (e ∙ append_assoc (print_blank blank) method (32 ∷ target))) some in
    no_none 10 (method ++ 32 ∷ target) cut.0 m (target_no_feed method target token uri) cut.2

pub opens_at : (l m : List ℕ) → list_all is_newline l ≡ false → HasNoRequest (l ++ 10 ∷ m) → MayBecomeRequest (l ++ 10 ∷ m) → OpensHead (l ++ 10 ∷ [])
opens_at l m some none (inl (more, h, reads)) = opens_becoming l m more h some none reads
opens_at l m some none (inr (blank, method, target, token, uri, e)) = absurd (opens_target l m blank method target some token uri e)

-- ---- places

pub no_lines : (text : List ℕ) → AreLines text 0
no_lines text = record { within = omega arith; short = omega arith; opens = λ some. absurd (omega arith) }

-- the same of the front that a head is read in
pub lines_front : (text : List ℕ) (lines : ℕ) → AreLines text lines → AreLines (take HEAD_LIMIT text) lines
lines_front text lines is =
    let within : lines ≤ length (take HEAD_LIMIT text) = omega (arith, is.within, is.short, length-take HEAD_LIMIT text) in
    let same : take lines text ≡ take lines (take HEAD_LIMIT text) =
    ap (take lines) (sym (take-append-drop HEAD_LIMIT text)) ∙ take-append-le lines (take HEAD_LIMIT text) (drop HEAD_LIMIT text) within in
    record { within = within; short = is.short; opens = λ some. subst OpensHead same (is.opens some) }

pub lines_split : (text : List ℕ) (lines : ℕ) → take lines text ++ drop lines text ≡ text
lines_split text lines = take-append-drop lines text

pub lines_at : (text : List ℕ) (at : ℕ) → at < length text → at < HEAD_LIMIT → get_or text at 0 ≡ 10 → list_all is_newline (take at text) ≡ false
    → HasNoRequest text → MayBecomeRequest text → AreLines text (at + 1)
lines_at text at inside short feed some none may =
    let cut : text ≡ take at text ++ 10 ∷ drop (at + 1) text =
    sym (take-append-drop at text) ∙ ap (λ (t : List ℕ). take at text ++ t) (drop_more text at 0 inside ∙ ap (λ (b : ℕ). b ∷ drop (at + 1) text) feed) in
    let front : take (at + 1) text ≡ take at text ++ 10 ∷ [] = take_more text at 0 inside ∙ ap (λ (b : ℕ). take at text ++ b ∷ []) feed in
    record {
      within = omega arith;
      short = omega arith;
      opens = λ _.
          subst OpensHead (sym front)
          (opens_at (take at text) (drop (at + 1) text) some (subst HasNoRequest cut none) (subst MayBecomeRequest cut may));
    }

-- ---- what stands behind the lines, as a slice of the text

abbrev pub rest_of : List ℕ → ℕ → List ℕ
rest_of text lines = take (length text - lines) (drop lines text)

whole_behind : (text : List ℕ) (lines : ℕ) → take lines text ++ rest_of text lines ≡ text
whole_behind text lines = ap (λ (t : List ℕ). take lines text ++ t) (take_rest text lines) ∙ take-append-drop lines text

opened : (text : List ℕ) (lines : ℕ) → AreLines text lines → (lines ≡ 0 → ⊥) → OpensHead (take lines text)
opened text lines is some = is.opens (omega (arith, some))

pub partial_behind : (text : List ℕ) (lines : ℕ) → AreLines text lines → (lines ≡ 0 → ⊥)
    → HasNoSection (rest_of text lines) × MayBecomeSection (rest_of text lines) → HasNoRequest text × MayBecomeRequest text
partial_behind text lines is some read =
    let open_ = opened text lines is some in (
      subst HasNoRequest (whole_behind text lines) (none_behind (take lines text) (rest_of text lines) open_ read.0),
      subst MayBecomeRequest (whole_behind text lines) (may_behind (take lines text) (rest_of text lines) open_ read.1),
    )

pub invalid_behind : (text : List ℕ) (lines : ℕ) → AreLines text lines → (lines ≡ 0 → ⊥) → NeverHasSection (rest_of text lines) → NeverHasRequest text
invalid_behind text lines is some never =
    subst NeverHasRequest (whole_behind text lines) (never_behind (take lines text) (rest_of text lines) (opened text lines is some) never)

-- whole lines of a head are more than line ends
some_line : (front : List ℕ) → OpensHead front → list_all is_newline front ≡ false
some_line front is =
    let h = is.head in
    ap (list_all is_newline) (open_is front is) ∙ list_all-append is_newline (start_on h []) (lines_of h.fields)
    ∙ and_left _ _ (some_start (print_blank h.blank) h.method (h.target ++ 32 ∷ (print_version h.minor ++ (print_end h.line_end ++ []))))
  where
    some_start : (a b c : List ℕ) → list_all is_newline (a ++ (b ++ 32 ∷ c)) ≡ false
    some_start a b c =
        list_all-append is_newline a (b ++ 32 ∷ c) ∙ and_right _ _ (list_all-append is_newline b (32 ∷ c) ∙ and_right (list_all is_newline b) _ refl)

pub lines_some : (text : List ℕ) (lines at : ℕ) → lines ≤ at → AreLines text lines → (lines ≡ 0 → ⊥) → list_all is_newline (take at text) ≡ false
lines_some text lines at behind is some =
    let front = take lines text in
    let place : at ≡ length front + (at - lines) = omega (arith, behind, is.within, length-take lines text) in
    let cut : take at text ≡ front ++ take (at - lines) (drop lines text) =
    ap (λ (n : ℕ). take n text) place ∙ ap (take (length front + (at - lines))) (sym (take-append-drop lines text)) ∙ take-append-add front (drop lines text) (at - lines) in
    ap (list_all is_newline) cut ∙ list_all-append is_newline front (take (at - lines) (drop lines text))
    ∙ and_left _ _ (some_line front (opened text lines is some))

pub feed_behind : (text : List ℕ) (lines at : ℕ) → AreLines text lines → length text < HEAD_LIMIT → at < length (rest_of text lines)
    → (get_or (rest_of text lines) at 0 == 10) ≡ true → list_all is_newline (take (lines + at) text) ≡ false
    → HasNoRequest text → MayBecomeRequest text → AreLines text (lines + at + 1)
feed_behind text lines at is short inside feed some none may =
    let within : lines + at < length text = omega (arith, ap length (take_rest text lines), length-drop lines text) in
    let byte : get_or text (lines + at) 0 ≡ 10 =
    sym (get_or-drop lines text at 0) ∙ ap (λ (t : List ℕ). get_or t at 0) (sym (take_rest text lines)) ∙ eqb-true _ 10 feed in
    lines_at text (lines + at) within (omega arith) byte some none may
