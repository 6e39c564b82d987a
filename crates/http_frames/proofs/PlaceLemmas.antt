-- How far a head was read, and the part that a text ends in.
use Rattle.std.proofs.Common.{◌≡◌, ℕ, ◌-◌, ◌<◌, ◌≤◌, true, List, ◌∷◌, ◌++◌, length, take, drop, refl, sym, ap, ◌∙◌, subst, arith, append_assoc, length-take, take-append-drop, inr}
use Rattle.std.specs.List.{list_all}
use Rattle.std.proofs.lemmas.List.{take_all, take-append-le, drop-append-le, take_rest}
use Rattle.std.proofs.lemmas.List.Elements.{All-append}
use Rattle.std.proofs.lemmas.List.Sums.{AllPass-from_list_all}
use Rattle.httparse.specs.Grammar.{print_blank, is_token, is_token_byte, is_uri_byte, EndsInTarget, HasNoRequest, MayBecomeRequest}
use Rattle.http_chunks.specs.LinePlaces.{IsInField, is_field_byte}
use Rattle.http_chunks.specs.declared.fields.FieldPart.{FieldPart}
use Rattle.http_chunks.specs.declared.fields.FieldPart.TheVariants.{Name}
use Rattle.http_chunks.proofs.FieldLemmas.{token_of, token_more, same_all, field_none, field_may, field_more}
use Rattle.http_frames.specs.HeadRules.{HEAD_LIMIT}
use Rattle.http_frames.specs.InTarget.{after_blank}
use Rattle.http_frames.specs.Lines.{AreLines, IsInBlank, IsInMethod, IsOpen, IsPlace, beginning}
use Rattle.http_frames.specs.declared.lines.Part.{Part}
use Rattle.http_frames.specs.declared.lines.Part.TheVariants.{Blank, Method, Target, Field}
use Rattle.http_frames.specs.declared.lines.Place.{Place}
use Rattle.http_frames.proofs.BlankLemmas.{blank_none, blank_may}
use Rattle.http_frames.proofs.OpenLemmas.{no_lines, lines_front, partial_behind, rest_of}
use Rattle.http_frames.proofs.StartLemmas.{method_none, method_may, target_none}
use Rattle.http_frames.proofs.TargetLemmas.{after_blank-splits}

-- the part that a text ends in
pub method_at : (text : List ℕ) → is_token (after_blank text) ≡ true → IsOpen Method 0 text
method_at text name =
    let blank = after_blank-splits text in
    (refl, record { blank = blank.0; method = after_blank text; token = token_of (after_blank text) name; is = blank.1 })

method_more : (text more : List ℕ) → IsInMethod text → list_all is_token_byte more ≡ true → IsInMethod (text ++ more)
method_more text more is plain = record {
  blank = is.blank;
  method = is.method ++ more;
  token = token_more is.method more is.token plain;
  is = ap (λ (t : List ℕ). t ++ more) is.is ∙ append_assoc (print_blank is.blank) is.method more;
}

target_more : (text more : List ℕ) → EndsInTarget text → list_all is_uri_byte more ≡ true → EndsInTarget (text ++ more)
target_more text more (blank, method, target, token, uri, same) plain = (
  blank,
  method,
  target ++ more,
  token,
  All-append (λ (b : ℕ). is_uri_byte b ≡ true) target more uri (AllPass-from_list_all is_uri_byte more plain),
  ap (λ (t : List ℕ). t ++ more) same ∙ append_assoc (print_blank blank ++ method) (32 ∷ target) more,
)

-- what follows the lines up to a place, and then behind it
pub onward : (text : List ℕ) (lines end : ℕ) → lines ≤ end → end ≤ length text → drop lines (take end text) ++ drop end text ≡ drop lines text
onward text lines end low within =
    let front = take end text in
    let inside : lines ≤ length front = omega (arith, low, within, length-take end text) in
    sym (drop-append-le lines front (drop end text) inside) ∙ ap (drop lines) (take-append-drop end text)

-- a part that the text has up to a place it has as a whole
abbrev pub GoesOn : List ℕ → ℕ → Part → Type 0
GoesOn text end part = (lines : ℕ) → lines ≤ end → IsOpen part lines (drop lines (take end text)) → IsOpen part lines (drop lines text)

pub goes_as : (text : List ℕ) (end : ℕ) (part known : Part) → part ≡ known → GoesOn text end known → GoesOn text end part
goes_as text end part known is on = subst (GoesOn text end) (sym is) on

-- a part goes on
pub on_method : (text : List ℕ) (lines end : ℕ) → lines ≤ end → end ≤ length text
    → list_all (is_field_byte Name) (take (length text - end) (drop end text)) ≡ true
    → IsOpen Method lines (drop lines (take end text)) → IsOpen Method lines (drop lines text)
on_method text lines end low within plain (none, is) = (
  none,
  subst IsInMethod (onward text lines end low within)
      (method_more (drop lines (take end text)) (drop end text) is
      (sym (same_all (is_field_byte Name) is_token_byte (λ b. refl) (drop end text)) ∙ ap (list_all (is_field_byte Name)) (sym (take_rest text end)) ∙ plain)),
)

pub on_target : (text : List ℕ) (lines end : ℕ) → lines ≤ end → end ≤ length text
    → list_all is_uri_byte (take (length text - end) (drop end text)) ≡ true
    → IsOpen Target lines (drop lines (take end text)) → IsOpen Target lines (drop lines text)
on_target text lines end low within plain (none, is) = (
  none,
  subst EndsInTarget (onward text lines end low within)
      (target_more (drop lines (take end text)) (drop end text) is (ap (list_all is_uri_byte) (sym (take_rest text end)) ∙ plain)),
)

pub on_field : (field : FieldPart) (text : List ℕ) (lines end : ℕ) → lines ≤ end → end ≤ length text
    → list_all (is_field_byte field) (take (length text - end) (drop end text)) ≡ true
    → IsOpen (Field field) lines (drop lines (take end text)) → IsOpen (Field field) lines (drop lines text)
on_field field text lines end low within plain (some, is) = (
  some,
  subst (IsInField field) (onward text lines end low within)
      (field_more field (drop lines (take end text)) (drop end text) is (ap (list_all (is_field_byte field)) (sym (take_rest text end)) ∙ plain)),
)

-- a text that ends in a part holds no head, and may begin one
pub partial_open : (part : Part) (text : List ℕ) (lines : ℕ) → AreLines text lines → IsOpen part lines (drop lines text) → HasNoRequest text × MayBecomeRequest text
partial_open Blank text lines is (none, open_) =
    let there = subst IsInBlank (ap (λ (n : ℕ). drop n text) none) open_ in
    (blank_none text there, blank_may text there)
partial_open Method text lines is (none, open_) =
    let there = subst IsInMethod (ap (λ (n : ℕ). drop n text) none) open_ in
    (method_none text there, method_may text there)
partial_open Target text lines is (none, open_) =
    let there = subst EndsInTarget (ap (λ (n : ℕ). drop n text) none) open_ in
    (target_none text there, inr there)
partial_open (Field field) text lines is (some, open_) =
    let there = subst (IsInField field) (sym (take_rest text lines)) open_ in
    partial_behind text lines is (λ none. omega (arith, none, some))
    (field_none field (rest_of text lines) there, field_may field (rest_of text lines) there)

-- places
pub place_start : (text : List ℕ) → IsPlace text beginning
place_start text = record {
  lines = no_lines text;
  within = omega arith;
  short = omega arith;
  opens = λ wrong. absurd (omega arith);
}

pub place_front : (text : List ℕ) (place : Place) → IsPlace text place → IsPlace (take HEAD_LIMIT text) place
place_front text place is =
    let within : place.end ≤ length (take HEAD_LIMIT text) = omega (arith, is.within, is.short, length-take HEAD_LIMIT text) in
    let same : take place.end text ≡ take place.end (take HEAD_LIMIT text) =
    ap (take place.end) (sym (take-append-drop HEAD_LIMIT text)) ∙ take-append-le place.end (take HEAD_LIMIT text) (drop HEAD_LIMIT text) within in
    record {
      lines = lines_front text place.lines is.lines;
      within = within;
      short = is.short;
      opens = λ behind. subst (IsOpen place.part place.lines) (ap (drop place.lines) same) (is.opens behind);
    }

take_whole : (text : List ℕ) → take (length text) text ≡ text
take_whole text = take_all (length text) text (omega arith)

pub place_open : (text : List ℕ) (place : Place) → AreLines text place.lines → length text < HEAD_LIMIT → place.end ≡ length text
    → IsOpen place.part place.lines (drop place.lines text) → IsPlace text place
place_open text place is short all open_ = record {
  lines = is;
  within = omega (arith, all);
  short = omega (arith, all);
  opens = λ _. subst (IsOpen place.part place.lines) (ap (drop place.lines) (sym (ap (λ (n : ℕ). take n text) all ∙ take_whole text))) open_;
}

pub place_lines : (text : List ℕ) (place : Place) → AreLines text place.lines → place.end ≡ 0 → IsPlace text place
place_lines text place is none = record {
  lines = is;
  within = omega (arith, none);
  short = omega (arith, none);
  opens = λ behind. absurd (omega (arith, none, behind));
}
