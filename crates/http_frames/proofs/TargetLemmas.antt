-- The test for the end of a target is the grammar's fact.
use Rattle.std.proofs.Common.{◌≡◌, ℕ, ◌<◌, true, false, nat_lt, cond, ◌&&◌, ◌==◌, List, [], ◌∷◌, ◌++◌, length, take, drop, refl, sym, ap, ◌∙◌, arith, append_assoc, take-append-drop, length-take, length-drop}
use Rattle.std.proofs.lemmas.Bool.{and_parts, or_parts, lt-ltb, ltb-true, eqb-true}
use Rattle.std.proofs.lemmas.List.{drop_at}
use Rattle.std.proofs.lemmas.List.Sums.{AllPass-from_list_all, list_all-from_AllPass}
use Rattle.std.specs.List.{list_all}
use Rattle.httparse.specs.Grammar.{AllPass, LineEnd, crlf, lf, print_blank, is_token_byte, is_uri_byte, EndsInTarget}
use Rattle.httparse.specs.Pieces.{Stops, is_newline}
use Rattle.httparse.proofs.PieceLemmas.{Stops_token, space_ends_token}
use Rattle.http_frames.specs.InTarget.{after_blank, is_target_open, token_len, ends_in_target}
use Rattle.http_frames.proofs.FrontLemmas.{prefix_len-again, run_passes}

after_lf : (rest : List ℕ) → after_blank (10 ∷ rest) ≡ after_blank rest
unfolding after_blank
after_lf [] = refl
after_lf (c ∷ rest) = refl

after_crlf : (rest : List ℕ) → after_blank (13 ∷ 10 ∷ rest) ≡ after_blank rest
unfolding after_blank
after_crlf rest = refl

after_none : (text : List ℕ) → Stops is_newline text → after_blank text ≡ text
unfolding after_blank
after_none [] stop = absurd stop
after_none (b ∷ []) stop = let parts = or_parts (b == 13) (b == 10) stop in rw (parts.1) refl
after_none (b ∷ c ∷ bytes) stop = let parts = or_parts (b == 13) (b == 10) stop in rw (parts.1, parts.0) refl

after_blank-again : (ends : List LineEnd) (text : List ℕ) → Stops is_newline text → after_blank (print_blank ends ++ text) ≡ text
after_blank-again [] text stop = after_none text stop
after_blank-again (lf ∷ ends) text stop = after_lf (print_blank ends ++ text) ∙ after_blank-again ends text stop
after_blank-again (crlf ∷ ends) text stop = after_crlf (print_blank ends ++ text) ∙ after_blank-again ends text stop

Blanks : List ℕ → List ℕ → Type 0
Blanks text after = (ends : List LineEnd) × (text ≡ print_blank ends ++ after)

one_lf : (b : ℕ) (rest after : List ℕ) → (b == 10) ≡ true → Blanks rest after → Blanks (b ∷ rest) after
unfolding Blanks
one_lf b rest after e w = (lf ∷ w.0, ap (λ (x : ℕ). x ∷ rest) (eqb-true b 10 e) ∙ ap (λ (t : List ℕ). 10 ∷ t) w.1)

one_crlf : (b c : ℕ) (rest after : List ℕ) → (b == 13 && c == 10) ≡ true → Blanks rest after → Blanks (b ∷ c ∷ rest) after
unfolding Blanks
one_crlf b c rest after e w =
    let parts = and_parts _ _ e in (
      crlf ∷ w.0,
      ap (λ (x : ℕ). x ∷ c ∷ rest) (eqb-true b 13 parts.0) ∙ ap (λ (x : ℕ). 13 ∷ x ∷ rest) (eqb-true c 10 parts.1)
          ∙ ap (λ (t : List ℕ). 13 ∷ 10 ∷ t) w.1,
    )

no_blank : (text : List ℕ) → Blanks text text
unfolding Blanks
no_blank text = ([], refl)

after_blank-takes : (text : List ℕ) → Blanks text (after_blank text)
unfolding after_blank
after_blank-takes [] = no_blank []
after_blank-takes (b ∷ []) = elim (b == 10) as (λ v. (b == 10) ≡ v → Blanks (b ∷ []) (cond v [] (b ∷ []))) [
  | true ↦ λ e. one_lf b [] [] e (no_blank [])
  | false ↦ λ e. no_blank (b ∷ [])
] refl
after_blank-takes (b ∷ c ∷ bytes) =
    elim (b == 10) as (λ v. (b == 10) ≡ v → Blanks (b ∷ c ∷ bytes) (cond v (after_blank (c ∷ bytes)) (cond (b == 13 && c == 10) (after_blank bytes) (b ∷ c ∷ bytes)))) [
      | true ↦ λ e. one_lf b (c ∷ bytes) _ e (after_blank-takes (c ∷ bytes))
      | false ↦ λ e. elim (b == 13 && c == 10) as (λ v. (b == 13 && c == 10) ≡ v → Blanks (b ∷ c ∷ bytes) (cond v (after_blank bytes) (b ∷ c ∷ bytes))) [
        | true ↦ λ f. one_crlf b c bytes _ f (after_blank-takes bytes)
        | false ↦ λ f. no_blank (b ∷ c ∷ bytes)
      ] refl
    ] refl

pub after_blank-splits : (text : List ℕ) → (ends : List LineEnd) × (text ≡ print_blank ends ++ after_blank text)
unfolding Blanks
after_blank-splits text = after_blank-takes text

-- the test is true where the text ends in a target
pub ends_in_target-again : (text : List ℕ) → EndsInTarget text → ends_in_target text ≡ true
unfolding ends_in_target is_target_open
ends_in_target-again text (blank, method, target, token, uri, whole) =
    let line = method ++ 32 ∷ target in
    let grouped : text ≡ print_blank blank ++ line = whole ∙ append_assoc (print_blank blank) method (32 ∷ target) in
    let after : after_blank text ≡ line = ap after_blank grouped ∙ after_blank-again blank line (Stops_token method (32 ∷ target) token.0 token.1) in
    let len : token_len line ≡ length method = prefix_len-again is_token_byte method (32 ∷ target) token.1 space_ends_token in
    let rest : drop (length method) line ≡ 32 ∷ target = drop_at method (32 ∷ target) (length method) refl in
    let all : list_all is_uri_byte target ≡ true = list_all-from_AllPass is_uri_byte target uri in
    rw (after, len, rest, lt-ltb _ _ token.0) all

-- a text that opens a target
open_parts : (text : List ℕ) → is_target_open text ≡ true → (target : List ℕ) × AllPass is_uri_byte target × (text ≡ 32 ∷ target)
unfolding is_target_open
open_parts [] e = absurd (cc)
open_parts (b ∷ bytes) e =
    let parts = and_parts _ _ e in
    (bytes, AllPass-from_list_all is_uri_byte bytes parts.1, ap (λ (x : ℕ). x ∷ bytes) (eqb-true b 32 parts.0))

-- and only there
pub ends_in_target-takes : (text : List ℕ) → ends_in_target text ≡ true → EndsInTarget text
unfolding ends_in_target Blanks
ends_in_target-takes text e =
    let line = after_blank text in
    let n = token_len line in
    let parts = and_parts (nat_lt 0 n) (is_target_open (drop n line)) e in
    let target = open_parts (drop n line) parts.1 in
    let blank = after_blank-takes text in
    let split : line ≡ take n line ++ 32 ∷ target.0 =
    sym (take-append-drop n line) ∙ ap (λ (t : List ℕ). take n line ++ t) target.2 in
    let some : 0 < length (take n line) =
    omega (arith, length-take n line, length-drop n line, ap length target.2, ltb-true 0 n parts.0) in (
      blank.0,
      take n line,
      target.0,
      (some, run_passes is_token_byte line),
      target.1,
      blank.1 ∙ ap (λ (t : List ℕ). print_blank blank.0 ++ t) split ∙ sym (append_assoc (print_blank blank.0) (take n line) (32 ∷ target.0)),
    )
