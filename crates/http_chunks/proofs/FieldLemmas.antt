-- What fields begin with, and where their lines end.
use Rattle.std.proofs.Common.{◌≡◌, ℕ, ◌+◌, ◌-◌, ◌<◌, Bool, true, false, ◌&&◌, List, [], ◌∷◌, ◌++◌, length, get_or, take, drop, ◌⊎◌, inl, inr, refl, sym, ap, ◌∙◌, subst, arith, append_assoc, append-nil, length-append, take-append-drop}
use Rattle.std.specs.List.{All, flat_map, list_all}
use Rattle.std.proofs.lemmas.Bool.{and_parts, ltb-true}
use Rattle.std.proofs.lemmas.List.{drop_more, take_rest}
use Rattle.std.proofs.lemmas.List.Elements.{All-nil, All-cons, All-head, All-tail, All-append}
use Rattle.std.proofs.lemmas.List.Sums.{AllPass-from_list_all}
use Rattle.httparse.specs.Grammar.{Field, IsField, print_field, print_section, ReadsSection, HasNoSection, MayBecomeSection, LineEnd, crlf, lf, print_end, IsToken, is_token, is_token_byte, is_value_byte}
use Rattle.httparse.proofs.GrammarLemmas.{cons-append}
use Rattle.http_chunks.specs.LinePlaces.{IsInValue, IsInField, is_field_byte}
use Rattle.http_chunks.specs.declared.fields.FieldPart.{FieldPart}
use Rattle.http_chunks.specs.declared.fields.FieldPart.TheVariants.{Name, Value}
use Rattle.http_chunks.proofs.ByteLemmas.{No, no_of, no_append, no_cons, no_nil, no_none}

abbrev pub lines_of : List Field → List ℕ
lines_of fields = flat_map print_field fields

-- a line feed stands at the end of the first line or behind it
abbrev pub Cut : List ℕ → List ℕ → List ℕ → List ℕ → Type 0
Cut body rest l m = ((l ≡ body) × (rest ≡ m)) ⊎ ((k : List ℕ) × (l ≡ body ++ 10 ∷ k) × (rest ≡ k ++ 10 ∷ m))

pub cut_line : (body rest l m : List ℕ) → No 10 body → body ++ 10 ∷ rest ≡ l ++ 10 ∷ m → Cut body rest l m
cut_line [] rest [] m none e = inl (refl, cc)
cut_line [] rest (y ∷ l) m none e = inr (l, cc, cc)
cut_line (b ∷ body) rest [] m none e = absurd (All-head (λ (v : ℕ). v ≡ 10 → ⊥) b body none (cc))
cut_line (b ∷ body) rest (y ∷ l) m none e =
    let same : b ≡ y = cc in
    elim (cut_line body rest l m (All-tail (λ (v : ℕ). v ≡ 10 → ⊥) b body none) (cc)) [
      | inl (is, at) ↦ inl (λ i. sym same i ∷ is i, at)
      | inr (k, is, at) ↦ inr (k, λ i. sym same i ∷ is i, at)
    ]

-- a line end is a line feed, which a carriage return may stand before
abbrev pub before_feed : LineEnd → List ℕ
before_feed crlf = 13 ∷ []
before_feed lf = []

pub before_no_feed : (end : LineEnd) → No 10 (before_feed end)
before_no_feed crlf = no_cons 10 13 [] (λ e. omega (arith, e)) (no_nil 10)
before_no_feed lf = no_nil 10

pub end_is : (body : List ℕ) (end : LineEnd) (rest : List ℕ) → body ++ (print_end end ++ rest) ≡ (body ++ before_feed end) ++ 10 ∷ rest
end_is body crlf rest = sym (append_assoc body (13 ∷ []) (10 ∷ rest))
end_is body lf rest = ap (λ (t : List ℕ). t ++ 10 ∷ rest) (sym (append-nil body))

pub line_no_feed : (body : List ℕ) (end : LineEnd) → No 10 body → No 10 (body ++ before_feed end)
line_no_feed body end none = no_append 10 body (before_feed end) none (before_no_feed end)

pub token_stops : is_token_byte 10 ≡ false
unfolding is_token_byte
token_stops = refl

pub token_no_feed : (token : List ℕ) → IsToken token → No 10 token
token_no_feed token is = no_of 10 is_token_byte token_stops token is.1

pub field_no_feed : (f : Field) → IsField f → No 10 (f.name ++ 58 ∷ f.raw)
field_no_feed f is =
    no_append 10 f.name (58 ∷ f.raw) (token_no_feed f.name is.name)
    (no_cons 10 58 f.raw (λ e. omega (arith, e)) (no_of 10 is_value_byte refl f.raw is.raw))

field_on : (f : Field) (rest : List ℕ) → print_field f ++ rest ≡ ((f.name ++ 58 ∷ f.raw) ++ before_feed f.end) ++ 10 ∷ rest
field_on f rest = regroup f.name f.raw (print_end f.end) rest ∙ end_is (f.name ++ 58 ∷ f.raw) f.end rest
  where
    regroup : (a b e r : List ℕ) → (a ++ 58 ∷ b ++ e) ++ r ≡ (a ++ 58 ∷ b) ++ (e ++ r)
    regroup a b e r = simp append_assoc

-- in a section a line feed ends a field, or comes with the end of the section or behind it
pub record EndsFields (l : List ℕ) : Type 0 where
  pub fields : List Field
  pub valid : All IsField fields
  pub is : l ++ 10 ∷ [] ≡ lines_of fields

pub record HasSection (fields : List Field) (last : LineEnd) (l : List ℕ) : Type 0 where
  pub more : List ℕ
  pub is : l ++ 10 ∷ [] ≡ print_section fields last ++ more

pub cut_section : (fields : List Field) (last : LineEnd) (rest l m : List ℕ) → All IsField fields → print_section fields last ++ rest ≡ l ++ 10 ∷ m
    → EndsFields l ⊎ HasSection fields last l
cut_section [] last rest l m all e =
    elim (cut_line (before_feed last) rest l m (before_no_feed last) (sym (end_is [] last rest) ∙ e)) [
      | inl (is, at) ↦ inr (record { more = []; is = ap (λ (t : List ℕ). t ++ 10 ∷ []) is ∙ sym (end_is [] last []) })
      | inr (k, is, at) ↦ inr (record {
        more = k ++ 10 ∷ [];
        is = ap (λ (t : List ℕ). t ++ 10 ∷ []) is ∙ append_assoc (before_feed last) (10 ∷ k) (10 ∷ []) ∙ sym (end_is [] last (k ++ 10 ∷ []));
      })
    ]
cut_section (f ∷ fields) last rest l m all e =
    let valid = All-head IsField f fields all in
    let body = (f.name ++ 58 ∷ f.raw) ++ before_feed f.end in
    let line = line_no_feed (f.name ++ 58 ∷ f.raw) f.end (field_no_feed f valid) in
    elim (cut_line body (print_section fields last ++ rest) l m line (sym (field_on f (print_section fields last ++ rest)) ∙ opened f fields last rest ∙ e)) [
      | inl (is, at) ↦ inl (record {
        fields = f ∷ [];
        valid = All-cons IsField f [] valid (All-nil IsField);
        is = ap (λ (t : List ℕ). t ++ 10 ∷ []) is ∙ sym (field_on f []);
      })
      | inr (k, is, at) ↦ elim (cut_section fields last rest k m (All-tail IsField f fields all) at) [
        | inl ends ↦ inl (record {
          fields = f ∷ ends.fields;
          valid = All-cons IsField f ends.fields valid ends.valid;
          is = ap (λ (t : List ℕ). t ++ 10 ∷ []) is ∙ append_assoc body (10 ∷ k) (10 ∷ []) ∙ sym (field_on f (k ++ 10 ∷ []))
              ∙ ap (λ (t : List ℕ). print_field f ++ t) ends.is;
        })
        | inr has ↦ inr (record {
          more = has.more;
          is = ap (λ (t : List ℕ). t ++ 10 ∷ []) is ∙ append_assoc body (10 ∷ k) (10 ∷ []) ∙ sym (field_on f (k ++ 10 ∷ []))
              ∙ ap (λ (t : List ℕ). print_field f ++ t) has.is ∙ opened f fields last has.more;
        })
      ]
    ]
  where
    opened : (f : Field) (fields : List Field) (last : LineEnd) (rest : List ℕ)
        → print_field f ++ (print_section fields last ++ rest) ≡ print_section (f ∷ fields) last ++ rest
    opened f fields last rest = regroup (print_field f) (lines_of fields) (print_end last) rest
      where
        regroup : (a b e r : List ℕ) → a ++ ((b ++ e) ++ r) ≡ ((a ++ b) ++ e) ++ r
        regroup a b e r = simp append_assoc

-- ---- a part of a field

-- in a value no section ends, and one may
abbrev field_in : (text : List ℕ) → IsInValue text → Field
field_in text is = record { name = is.name; raw = is.raw; end = lf }

field_in_is : (text : List ℕ) (is : IsInValue text) → IsField (field_in text is)
field_in_is text is = record { name = is.token; raw = is.plain }

value_none : (text : List ℕ) → IsInValue text → HasNoSection text
value_none text is fields last rest reads =
    no_none 10 (is.name ++ 58 ∷ is.raw) (lines_of fields ++ before_feed last) rest (field_no_feed (field_in text is) (field_in_is text is))
    (sym is.is ∙ reads.1 ∙ append_assoc (lines_of fields) _ rest ∙ end_is (lines_of fields) last rest)

value_may : (text : List ℕ) → IsInValue text → MayBecomeSection text
value_may text is = (
  10 ∷ 10 ∷ [],
  field_in text is ∷ [],
  lf,
  (
    All-cons IsField (field_in text is) [] (field_in_is text is) (All-nil IsField),
    ap (λ (t : List ℕ). t ++ 10 ∷ 10 ∷ []) is.is ∙ regroup is.name is.raw,
  ),
)
  where
    regroup : (a b : List ℕ) → (a ++ 58 ∷ b) ++ 10 ∷ 10 ∷ [] ≡ (((a ++ 58 ∷ b ++ 10 ∷ []) ++ []) ++ 10 ∷ []) ++ []
    regroup a b = simp (append_assoc, cons-append)

-- nor does one in a name, and one may
name_in : (text : List ℕ) → IsToken text → IsInValue (text ++ 58 ∷ [])
name_in text token = record { name = text; raw = []; token = token; plain = All-nil (λ (b : ℕ). is_value_byte b ≡ true); is = refl }

name_none : (text : List ℕ) → IsToken text → HasNoSection text
name_none text token fields last rest reads =
    no_none 10 text (lines_of fields ++ before_feed last) rest (token_no_feed text token)
    (reads.1 ∙ append_assoc (lines_of fields) _ rest ∙ end_is (lines_of fields) last rest)

name_may : (text : List ℕ) → IsToken text → MayBecomeSection text
name_may text token =
    let may = value_may (text ++ 58 ∷ []) (name_in text token) in
    let P : List ℕ → Type 0 = λ t. ReadsSection t may.1 may.2 [] in
    (58 ∷ may.0, may.1, may.2, subst P (append_assoc text (58 ∷ []) may.0) may.3)

pub field_none : (part : FieldPart) (text : List ℕ) → IsInField part text → HasNoSection text
field_none Name text is = name_none text is
field_none Value text is = value_none text is

pub field_may : (part : FieldPart) (text : List ℕ) → IsInField part text → MayBecomeSection text
field_may Name text is = name_may text is
field_may Value text is = value_may text is

pub token_of : (bytes : List ℕ) → is_token bytes ≡ true → IsToken bytes
token_of bytes is =
    let parts = and_parts _ _ is in
    (ltb-true _ _ parts.0, AllPass-from_list_all is_token_byte bytes parts.1)

pub value_at : (text : List ℕ) (at : ℕ) → at < length text → get_or text at 0 ≡ 58 → is_token (take at text) ≡ true
    → list_all is_value_byte (take (length text - (at + 1)) (drop (at + 1) text)) ≡ true → IsInValue text
value_at text at inside colon name raw = record {
  name = take at text;
  raw = drop (at + 1) text;
  token = token_of (take at text) name;
  plain = AllPass-from_list_all is_value_byte (drop (at + 1) text) (ap (list_all is_value_byte) (sym (take_rest text (at + 1))) ∙ raw);
  is = sym (take-append-drop at text)
      ∙ ap (λ (t : List ℕ). take at text ++ t) (drop_more text at 0 inside ∙ ap (λ (b : ℕ). b ∷ drop (at + 1) text) colon);
}

-- a part goes on
pub token_more : (text more : List ℕ) → IsToken text → list_all is_token_byte more ≡ true → IsToken (text ++ more)
token_more text more is plain = (
  omega (arith, is.0, length-append text more),
  All-append (λ (b : ℕ). is_token_byte b ≡ true) text more is.1 (AllPass-from_list_all is_token_byte more plain),
)

value_more : (text more : List ℕ) → IsInValue text → list_all is_value_byte more ≡ true → IsInValue (text ++ more)
value_more text more is plain = record {
  name = is.name;
  raw = is.raw ++ more;
  token = is.token;
  plain = All-append (λ (b : ℕ). is_value_byte b ≡ true) is.raw more is.plain (AllPass-from_list_all is_value_byte more plain);
  is = ap (λ (t : List ℕ). t ++ more) is.is ∙ append_assoc is.name (58 ∷ is.raw) more;
}

-- two tests that agree on each byte
pub same_all : (f g : ℕ → Bool) → ((b : ℕ) → f b ≡ g b) → (bytes : List ℕ) → list_all f bytes ≡ list_all g bytes
same_all f g same [] = refl
same_all f g same (b ∷ bytes) = λ i. same b i && same_all f g same bytes i

pub field_more : (part : FieldPart) (text more : List ℕ) → IsInField part text → list_all (is_field_byte part) more ≡ true → IsInField part (text ++ more)
field_more Name text more is plain = token_more text more is (sym (same_all (is_field_byte Name) is_token_byte (λ b. refl) more) ∙ plain)
field_more Value text more is plain = value_more text more is (sym (same_all (is_field_byte Value) is_value_byte (λ b. refl) more) ∙ plain)
