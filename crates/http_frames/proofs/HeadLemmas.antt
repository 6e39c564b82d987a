-- Heads, from what the parser says of them.
use Rattle.std.proofs.Common.{◌≡◌, ℕ, ◌*◌, ◌≤◌, List, [], ◌∷◌, length, map, slice_range, IsUtf8, refl, sym, ap, subst, arith, length-append}
use Rattle.std.proofs.lemmas.List.{take_all}
use Rattle.std.proofs.lemmas.List.Elements.{All-nil, All-cons, All-head, All-tail}
use Rattle.std.specs.List.{All}
use Rattle.httparse.specs.declared.spans.HeaderSpan.{HeaderSpan}
use Rattle.httparse.specs.Grammar as grammar
use Rattle.httparse.specs.Grammar.{AllPass, IsToken, IsField, is_token_byte, LineEnd, crlf, lf, print_end, print_field, print_section, RequestHead, IsRequestHead, print_request}
use Rattle.httparse.specs.Pieces.{IsRunAt}
use Rattle.httparse.specs.Spans.{header_bytes, name_and_value, span_bytes, RequestExceeds}
use Rattle.httparse.proofs.ReadLemmas.{IsRunAt_text}
use Rattle.side_base.specs.declared.message.Field.{Field}
use Rattle.http_chunks.proofs.LengthLemmas.{lines_len}
use Rattle.http_frames.specs.HeadRules.{HEAD_LIMIT, field_of}
use Rattle.http_frames.specs.HeadReading.{header_field}

-- a token is text
pub token_is_text : (name : List ℕ) → IsToken name → IsUtf8 name
token_is_text name token =
    let run : IsRunAt is_token_byte name 0 (length name) = record {
      ordered = omega arith;
      in_range = omega arith;
      pass = λ k _ inside. token.1 k 0 inside;
      stops = λ inside. absurd (omega arith);
    } in
    let whole : slice_range name 0 (length name) ≡ name = grind (arith, take_all (length name) name (omega arith)) in
    subst IsUtf8 whole (IsRunAt_text run)

pub names_are_text : (text : List ℕ) (headers : List HeaderSpan) (fields : List grammar.Field)
    → map (header_bytes text) headers ≡ map name_and_value fields → All IsField fields
    → All (λ header. IsUtf8 (span_bytes text header.name)) headers
names_are_text text [] fields e each = All-nil (λ header. IsUtf8 (span_bytes text header.name))
names_are_text text (h ∷ hs) [] e each = absurd (cc)
names_are_text text (h ∷ hs) (f ∷ fs) e each =
    let first : header_bytes text h ≡ name_and_value f = cc in
    let others : map (header_bytes text) hs ≡ map name_and_value fs = cc in
    All-cons (λ header. IsUtf8 (span_bytes text header.name)) h hs
    (subst IsUtf8 (sym (ap (λ (p : List ℕ × List ℕ). p.0) first)) (token_is_text f.name (All-head IsField f fs each).name))
    (names_are_text text hs fs others (All-tail IsField f fs each))

pub fields_are : (text : List ℕ) (headers : List HeaderSpan) (fields : List grammar.Field)
    → map (header_bytes text) headers ≡ map name_and_value fields
    → map (header_field text) headers ≡ map field_of fields
fields_are text [] [] e = refl
fields_are text [] (f ∷ fs) e = absurd (cc)
fields_are text (h ∷ hs) [] e = absurd (cc)
fields_are text (h ∷ hs) (f ∷ fs) e =
    let first : header_bytes text h ≡ name_and_value f = cc in
    let others : map (header_bytes text) hs ≡ map name_and_value fs = cc in
    let to_field : List ℕ × List ℕ → Field = λ p. record { name = p.0; value = p.1 } in
    let here : header_field text h ≡ field_of f = ap to_field first in
    let more = fields_are text hs fs others in
    cc

-- each field takes three bytes at least
head_len : (h : RequestHead) → IsRequestHead h → 3 * length h.fields ≤ length (print_request h)
unfolding print_request
head_len h is = simp length-append (omega (arith, lines_len h.fields is.fields))

pub never_exceeds : (text : List ℕ) (room : ℕ) → length text ≤ HEAD_LIMIT → 5462 ≤ room → RequestExceeds room text → ⊥
never_exceeds text room short large (front, rest, whole, h, reads, many) =
    omega (
      arith,
      ap length whole,
      length-append front rest,
      ap length reads.1,
      length-append front (print_end lf),
      length-append (print_request h) [],
      head_len h reads.0,
    )
