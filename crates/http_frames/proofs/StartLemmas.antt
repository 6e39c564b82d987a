-- A text that ends in the method or the target of a start line holds no head.
use Rattle.std.proofs.Common.{◌≡◌, ℕ, Bool, true, false, ◌&&◌, List, [], ◌∷◌, ◌++◌, refl, sym, ap, ◌∙◌, inl, lit<, lit≤, append_assoc}
use Rattle.std.specs.List.{list_all}
use Rattle.std.proofs.lemmas.List.Elements.{All-nil, All-cons}
use Rattle.std.proofs.lemmas.Str.{IsUtf8-from_ascii}
use Rattle.std.proofs.lemmas.Str.Ascii.{IsAscii-nil, IsAscii-cons}
use Rattle.httparse.specs.Grammar.{RequestHead, IsRequestHead, ReadsRequest, HasNoRequest, MayBecomeRequest, EndsInTarget, IsField, IsToken, LineEnd, lf, print_blank, print_version, print_section, print_request, is_uri_byte}
use Rattle.httparse.specs.Pieces.{is_newline}
use Rattle.httparse.proofs.GrammarLemmas.{print_request-append, cons-append}
use Rattle.http_frames.specs.Lines.{IsInMethod}
use Rattle.http_chunks.proofs.ByteLemmas.{No, no_none}
use Rattle.http_chunks.proofs.FieldLemmas.{before_feed, token_no_feed}
use Rattle.http_frames.proofs.OpenLemmas.{target_no_feed, cut_blank, start_body, start_line}

-- a space is no line end
none_after : (x : ℕ) (rest : Bool) → rest ≡ false → (is_newline x && rest) ≡ false
none_after x rest is = elim (is_newline x) as (λ v. (v && rest) ≡ false) [
  | true ↦ is
  | false ↦ refl
]

some_space : (a b : List ℕ) → list_all is_newline (a ++ 32 ∷ b) ≡ false
some_space [] b = refl
some_space (x ∷ a) b = none_after x (list_all is_newline (a ++ 32 ∷ b)) (some_space a b)

-- the first line of a head holds a space
start_space : (h : RequestHead) → list_all is_newline (print_blank h.blank ++ (start_body h ++ before_feed h.line_end)) ≡ false
unfolding start_body
start_space h =
    ap (list_all is_newline) (regroup (print_blank h.blank) h.method (h.target ++ 32 ∷ print_version h.minor) (before_feed h.line_end))
    ∙ some_space (print_blank h.blank ++ h.method) ((h.target ++ 32 ∷ print_version h.minor) ++ before_feed h.line_end)
  where
    regroup : (a b c d : List ℕ) → a ++ ((b ++ 32 ∷ c) ++ d) ≡ (a ++ b) ++ 32 ∷ (c ++ d)
    regroup a b c d = simp (append_assoc, cons-append)

-- behind empty lines there is no line feed, so no head
pub line_none : (blank : List LineEnd) (body text : List ℕ) → No 10 body → text ≡ print_blank blank ++ body → HasNoRequest text
line_none blank body text none is h rest reads =
    let section = print_section h.fields h.last ++ rest in
    let line = start_body h ++ before_feed h.line_end in
    let l = print_blank h.blank ++ line in
    let e : print_blank blank ++ body ≡ l ++ 10 ∷ section =
    sym is ∙ reads.1 ∙ print_request-append h rest ∙ start_line h section ∙ sym (append_assoc (print_blank h.blank) line (10 ∷ section)) in
    let cut = cut_blank blank body l section e (start_space h) in
    no_none 10 body cut.0 section none cut.2

pub method_none : (text : List ℕ) → IsInMethod text → HasNoRequest text
method_none text is = line_none is.blank is.method text (token_no_feed is.method is.token) is.is

pub target_none : (text : List ℕ) → EndsInTarget text → HasNoRequest text
target_none text (blank, method, target, token, uri, is) =
    line_none blank (method ++ 32 ∷ target) text (target_no_feed method target token uri) (is ∙ append_assoc (print_blank blank) method (32 ∷ target))

-- the shortest head of a method
shortest : List LineEnd → List ℕ → RequestHead
shortest blank method = record { blank = blank; method = method; target = 47 ∷ []; minor = 1; line_end = lf; fields = []; last = lf }

-- what follows the method there
rest_of_shortest : List ℕ
rest_of_shortest = 32 ∷ 47 ∷ 32 ∷ (print_version 1 ++ 10 ∷ 10 ∷ [])

shortest_is : (blank : List LineEnd) (method : List ℕ) → IsToken method → IsRequestHead (shortest blank method)
unfolding shortest
shortest_is blank method token = record {
  method = token;
  target = (lit< tt, All-cons (λ (b : ℕ). is_uri_byte b ≡ true) 47 [] refl (All-nil (λ (b : ℕ). is_uri_byte b ≡ true)));
  target_text = IsUtf8-from_ascii (47 ∷ []) (IsAscii-cons 47 [] (lit< tt) IsAscii-nil);
  minor = lit≤ tt;
  fields = All-nil IsField;
}

shortest_prints : (blank : List LineEnd) (method : List ℕ)
    → (print_blank blank ++ method) ++ rest_of_shortest ≡ print_request (shortest blank method) ++ []
unfolding shortest rest_of_shortest
shortest_prints blank method =
    append_assoc (print_blank blank) method (32 ∷ 47 ∷ 32 ∷ (print_version 1 ++ 10 ∷ 10 ∷ []))
    ∙ sym (print_request-append (shortest blank method) [])

-- some bytes can follow that make the text a head
pub record BecomesHead (text : List ℕ) : Type 0 where
  pub more : List ℕ
  pub head : RequestHead
  pub reads : ReadsRequest (text ++ more) head []

pub method_becomes : (text : List ℕ) → IsInMethod text → BecomesHead text
method_becomes text is = record {
  more = rest_of_shortest;
  head = shortest is.blank is.method;
  reads = (
    shortest_is is.blank is.method is.token,
    ap (λ (t : List ℕ). t ++ rest_of_shortest) is.is ∙ shortest_prints is.blank is.method,
  );
}

pub method_may : (text : List ℕ) → IsInMethod text → MayBecomeRequest text
method_may text is = let becomes = method_becomes text is in inl (becomes.more, becomes.head, becomes.reads)
