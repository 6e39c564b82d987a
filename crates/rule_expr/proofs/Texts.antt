-- The texts of a rule that is UTF-8 are.
use Rattle.std.proofs.Common.{◌≡◌, ◌∙◌, ap, sym, subst, refl, ℕ, ◌+◌, ◌<◌, ◌≤◌, inl, inr, ◌&&◌, ◌||◌, ◌==◌, cond, Bool, true, false, List, [], ◌∷◌, ◌++◌, length, get_or, take, drop, append_assoc, append-nil, arith, Result, Ok, Err, IsUtf8, slice_index}
use Rattle.std.specs.Str.{is_utf8}
use Rattle.std.proofs.lemmas.Bool.Decides.{nat_tests}
use Rattle.std.proofs.lemmas.List.{take-append-drop, take_at, drop_at, length-append, get_or-append-add}
use Rattle.std.proofs.lemmas.Str.{IsUtf8-take, IsUtf8-drop, IsUtf8-append, is_utf8-from_IsUtf8, IsCharBoundary-before_ascii, IsCharBoundary-after_ascii}
use Rattle.rule_value.specs.declared.part.Part.{Part}
use Rattle.rule_value.specs.declared.part.Part.TheVariants as parts
use Rattle.rule_value.specs.declared.part.Seen.{Seen}
use Rattle.rule_value.specs.declared.op.Op.{Op}
use Rattle.rule_value.specs.declared.op.Op.TheVariants as ops
use Rattle.rule_value.specs.Trees
use Rattle.rule_value.specs.Trees.{Level, Tree, Token, spelled}
use Rattle.rule_value.specs.Codes.{code, has_utf8, are_utf8}
use Rattle.std.specs.Char.{is_ascii_digit, is_ascii_alphabetic}
use Rattle.side_base.specs.Decimal.{digits_at}
use Rattle.std.specs.Str.Parse.{digits_value}
use Rattle.rule_value.specs.Wholes.{whole, is_within}
use Rattle.std.proofs.lemmas.Bool.{true≢false, cases_lt}
use Rattle.rule_expr.specs.Reading.{Reads}
use Rattle.rule_expr.specs.Parts.{seen, seen_from, number_of_digits, number_seen, name_seen, seen_as, mark_seen, part_at, behind, after_blanks, quoted, quoted_from, led_by, is_escaped}
use Rattle.rule_expr.specs.Rules.{Leads, Stands, here, on}
use Rattle.rule_expr.proofs.Quotations.{quoted_is, quoted_none}

-- ---- what stands round an ASCII byte

module _ (front rest : List ℕ) (byte : ℕ) (ascii : byte < 128) (utf8 : IsUtf8 (front ++ byte ∷ rest)) where
  byte_there : get_or (front ++ byte ∷ rest) (length front) 0 < 128
  byte_there = subst (λ n. n < 128) (sym (ap (λ k. get_or (front ++ byte ∷ rest) k 0) (let e : length front ≡ length front + 0 = omega arith in e) ∙ get_or-append-add front (byte ∷ rest) 0 0)) ascii

  inside : length front < length (front ++ byte ∷ rest)
  inside = omega (arith, length-append front (byte ∷ rest))

  pub before_ascii : IsUtf8 front
  before_ascii = subst IsUtf8 (take_at front (byte ∷ rest) (length front) refl) (IsUtf8-take (front ++ byte ∷ rest) (length front) utf8 (IsCharBoundary-before_ascii (front ++ byte ∷ rest) (length front) inside byte_there))

  pub from_ascii : IsUtf8 (byte ∷ rest)
  from_ascii = subst IsUtf8 (drop_at front (byte ∷ rest) (length front) refl) (IsUtf8-drop (front ++ byte ∷ rest) (length front) utf8 (IsCharBoundary-before_ascii (front ++ byte ∷ rest) (length front) inside byte_there))

  pub after_ascii : IsUtf8 rest
  after_ascii = IsUtf8-drop (byte ∷ rest) 1 from_ascii (IsCharBoundary-after_ascii (byte ∷ rest) 0 from_ascii (omega arith) ascii)

-- ---- what a text in quotes holds

abbrev Read : Type 0
Read = Result (List ℕ × List ℕ) (List ℕ)

abbrev got : Read → List ℕ × List ℕ
got (Ok text) = text
got (Err place) = ([], [])

no_ok : (place : List ℕ) (text : List ℕ × List ℕ) (A : Type 0) → Err place ≡ Ok text → A
no_ok place text A is = let bad : ⊥ = cc in absurd bad

ok_led : (byte : ℕ) (read : Read) (text : List ℕ × List ℕ) → led_by byte read ≡ Ok text → (more : List ℕ) × (read ≡ Ok (more, text.1)) × (text.0 ≡ byte ∷ more)
ok_led byte (Ok own) text is = (own.0, ap (λ rest. Ok (own.0, rest)) (ap (λ r. (got r).1) is), sym (ap (λ r. (got r).0) is))
ok_led byte (Err place) text is = no_ok place text _ is

escaped_low : (byte : ℕ) → is_escaped byte ≡ true → byte < 128
escaped_low byte is = grind (arith, nat_tests)

equal_is : (a b : ℕ) → (a == b) ≡ true → a ≡ b
equal_is a b is = grind (arith, nat_tests)

-- what is held behind bytes that are held already
abbrev Keeps : ℕ → List ℕ → Type 0
Keeps quote bytes =
    ((front : List ℕ) (text : List ℕ × List ℕ) → IsUtf8 (front ++ bytes) → quoted_from quote false bytes ≡ Ok text → IsUtf8 (front ++ text.0))
    × ((front : List ℕ) (text : List ℕ × List ℕ) → IsUtf8 front → IsUtf8 bytes → quoted_from quote true bytes ≡ Ok text → IsUtf8 (front ++ text.0))

held_next : (quote : ℕ) (byte : ℕ) (bytes : List ℕ) → Keeps quote bytes → (front : List ℕ) (text : List ℕ × List ℕ) → IsUtf8 (front ++ byte ∷ bytes) → led_by byte (quoted_from quote false bytes) ≡ Ok text → IsUtf8 (front ++ text.0)
held_next quote byte bytes keeps front text utf8 is =
    let more = ok_led byte (quoted_from quote false bytes) text is in
    subst IsUtf8 (append_assoc front (byte ∷ []) more.0 ∙ ap (λ own. front ++ own) (sym more.2))
    (keeps.0 (front ++ byte ∷ []) (more.0, text.1) (subst IsUtf8 (sym (append_assoc front (byte ∷ []) bytes)) utf8) more.1)

held_plain : (quote byte : ℕ) (bytes : List ℕ) → quote < 128 → Keeps quote bytes → (closes escapes : Bool) → (byte == quote) ≡ closes → (byte == 92) ≡ escapes → (front : List ℕ) (text : List ℕ × List ℕ) → IsUtf8 (front ++ byte ∷ bytes)
    → cond closes (Ok ([], bytes)) (cond escapes (quoted_from quote true bytes) (led_by byte (quoted_from quote false bytes))) ≡ Ok text → IsUtf8 (front ++ text.0)
held_plain quote byte bytes low keeps true escapes same other front text utf8 is =
    subst (λ own. IsUtf8 (front ++ own)) (ap (λ r. (got r).0) is) (subst IsUtf8 (sym (append-nil front)) (before_ascii front bytes byte (subst (λ n. n < 128) (sym (equal_is byte quote same)) low) utf8))
held_plain quote byte bytes low keeps false true same other front text utf8 is =
    let ascii : byte < 128 = omega (arith, equal_is byte 92 other) in
    keeps.1 front text (before_ascii front bytes byte ascii utf8) (after_ascii front bytes byte ascii utf8) is
held_plain quote byte bytes low keeps false false same other front text utf8 is = held_next quote byte bytes keeps front text utf8 is

held_escaped : (quote byte : ℕ) (bytes : List ℕ) → Keeps quote bytes → (may : Bool) → (front : List ℕ) (text : List ℕ × List ℕ) → IsUtf8 (front ++ byte ∷ bytes) → cond may (led_by byte (quoted_from quote false bytes)) (Err (byte ∷ bytes)) ≡ Ok text → IsUtf8 (front ++ text.0)
held_escaped quote byte bytes keeps true front text utf8 is = held_next quote byte bytes keeps front text utf8 is
held_escaped quote byte bytes keeps false front text utf8 is = no_ok (byte ∷ bytes) text _ is

keeps_all : (quote : ℕ) (bytes : List ℕ) → quote < 128 → Keeps quote bytes
keeps_all quote [] low = (λ front text utf8 is. no_ok [] text _ is, λ front text before after is. no_ok [] text _ is)
keeps_all quote (byte ∷ bytes) low = (
  λ front text utf8 is. held_plain quote byte bytes low (keeps_all quote bytes low) (byte == quote) (byte == 92) refl refl front text utf8 is,
  λ front text before after is. held_escaped quote byte bytes (keeps_all quote bytes low) (is_escaped byte) front text (IsUtf8-append front (byte ∷ bytes) before after) is,
)

-- ---- each part stands behind a front of the text

-- the one ends with the other
pub record Ends (text rest : List ℕ) : Type 0 where
  pub front : List ℕ
  pub is : text ≡ front ++ rest

ends_self : (text : List ℕ) → Ends text text
ends_self text = record { front = []; is = refl }

ends_on : (text next rest : List ℕ) → Ends text next → Ends next rest → Ends text rest
ends_on text next rest one two = record { front = one.front ++ two.front; is = one.is ∙ ap (λ own. one.front ++ own) two.is ∙ sym (append_assoc one.front two.front rest) }

ends_drop : (n : ℕ) (text : List ℕ) → Ends text (drop n text)
ends_drop n text = record { front = take n text; is = sym (take-append-drop n text) }

ends_blanks : (text : List ℕ) → Ends text (after_blanks text)
unfolding after_blanks
ends_blanks text = ends_drop _ text

ends_behind : (text : List ℕ) → Ends text (behind text)
unfolding behind
ends_behind text = ends_on text (drop (seen text).len text) (after_blanks (drop (seen text).len text)) (ends_drop (seen text).len text) (ends_blanks (drop (seen text).len text))

ends_cons : (byte : ℕ) (bytes rest : List ℕ) → Ends bytes rest → Ends (byte ∷ bytes) rest
ends_cons byte bytes rest e = record { front = byte ∷ e.front; is = ap (λ own. byte ∷ own) e.is }

abbrev Leaves : ℕ → List ℕ → Type 0
Leaves quote bytes = (escaped : Bool) (text : List ℕ × List ℕ) → quoted_from quote escaped bytes ≡ Ok text → Ends bytes text.1

ends_next : (quote byte : ℕ) (bytes : List ℕ) → Leaves quote bytes → (text : List ℕ × List ℕ) → led_by byte (quoted_from quote false bytes) ≡ Ok text → Ends (byte ∷ bytes) text.1
ends_next quote byte bytes leaves text is = let more = ok_led byte (quoted_from quote false bytes) text is in ends_cons byte bytes text.1 (leaves false (more.0, text.1) more.1)

ends_escaped : (quote byte : ℕ) (bytes : List ℕ) → Leaves quote bytes → (may : Bool) (text : List ℕ × List ℕ) → cond may (led_by byte (quoted_from quote false bytes)) (Err (byte ∷ bytes)) ≡ Ok text → Ends (byte ∷ bytes) text.1
ends_escaped quote byte bytes leaves true text is = ends_next quote byte bytes leaves text is
ends_escaped quote byte bytes leaves false text is = no_ok (byte ∷ bytes) text _ is

ends_plain : (quote byte : ℕ) (bytes : List ℕ) → Leaves quote bytes → (closes escapes : Bool) (text : List ℕ × List ℕ) → cond closes (Ok ([], bytes)) (cond escapes (quoted_from quote true bytes) (led_by byte (quoted_from quote false bytes))) ≡ Ok text → Ends (byte ∷ bytes) text.1
ends_plain quote byte bytes leaves true escapes text is = subst (Ends (byte ∷ bytes)) (ap (λ r. (got r).1) is) (ends_cons byte bytes bytes (ends_self bytes))
ends_plain quote byte bytes leaves false true text is = ends_cons byte bytes text.1 (leaves true text is)
ends_plain quote byte bytes leaves false false text is = ends_next quote byte bytes leaves text is

leaves_end : (quote : ℕ) (bytes : List ℕ) → Leaves quote bytes
leaves_end quote [] true text is = no_ok [] text _ is
leaves_end quote [] false text is = no_ok [] text _ is
leaves_end quote (byte ∷ bytes) true text is = ends_escaped quote byte bytes (leaves_end quote bytes) (is_escaped byte) text is
leaves_end quote (byte ∷ bytes) false text is = ends_plain quote byte bytes (leaves_end quote bytes) (byte == quote) (byte == 92) text is

ends_quote : (bytes : List ℕ) (text : List ℕ × List ℕ) → quoted bytes ≡ Ok text → Ends bytes text.1
ends_quote [] text is = no_ok [] text _ (sym quoted_none ∙ is)
ends_quote (quote ∷ bytes) text is = ends_cons quote bytes text.1 (leaves_end quote bytes false text (sym (quoted_is quote bytes) ∙ is))

ends_part : (text next : List ℕ) (token : Token) → Stands text token next → Ends text next
ends_part text next (Trees.mark part) s = subst (Ends text) (sym s.1) (ends_behind text)
ends_part text next (Trees.name letters) s = subst (Ends text) (sym s.2) (ends_behind text)
ends_part text next (Trees.quote held) s = subst (Ends text) (sym s.3) (ends_on text s.1 (after_blanks s.1) (ends_quote text (held, s.1) s.2) (ends_blanks s.1))

-- ---- a quote is ASCII

abbrev is_quote : Part → Bool
is_quote parts.Quote = true
is_quote part = false

off : (byte n : ℕ) → 128 ≤ byte → n < 128 → (byte == n) ≡ false
off byte n high low = grind (arith, nat_tests)

mark_high : (byte next : ℕ) → 128 ≤ byte → is_quote (mark_seen byte next).part ≡ false
unfolding mark_seen
mark_high byte next high =
    rw (off byte 40 high (omega arith), off byte 41 high (omega arith), off byte 91 high (omega arith), off byte 93 high (omega arith), off byte 44 high (omega arith), off byte 46 high (omega arith), off byte 34 high (omega arith), off byte 39 high (omega arith))
    (rw (off byte 38 high (omega arith), off byte 124 high (omega arith), off byte 61 high (omega arith), off byte 33 high (omega arith), off byte 60 high (omega arith), off byte 62 high (omega arith)) refl)

chosen_no : (test : Bool) (x y : Seen) → is_quote x.part ≡ false → is_quote y.part ≡ false → is_quote (cond test x y).part ≡ false
chosen_no true x y one two = one
chosen_no false x y one two = two

number_no : (below : Bool) (sign : ℕ) (digits : List ℕ) → is_quote (number_of_digits below sign digits).part ≡ false
number_no below sign [] = refl
number_no below sign (digit ∷ digits) =
    chosen_no (is_within below (digits_value 10 (digit ∷ digits))) (seen_as (parts.Number (whole below (digits_value 10 (digit ∷ digits)))) (length (digit ∷ digits) + sign)) (seen_as parts.Huge (length (digit ∷ digits) + sign)) refl refl

first_high : (byte : ℕ) (bytes : List ℕ) → 128 ≤ byte → is_quote (seen_from byte bytes).part ≡ false
first_high byte bytes high =
    chosen_no (is_ascii_alphabetic byte || byte == 95) (name_seen (byte ∷ bytes)) _ refl
    (chosen_no (byte == 45) (number_seen true 1 bytes) _ (number_no true 1 (digits_at bytes))
    (chosen_no (is_ascii_digit byte) (number_seen false 0 (byte ∷ bytes)) (mark_seen byte (slice_index bytes 0)) (number_no false 0 (digits_at (byte ∷ bytes))) (mark_high byte (slice_index bytes 0) high)))

quote_low : (byte : ℕ) (bytes : List ℕ) → part_at (byte ∷ bytes) ≡ parts.Quote → byte < 128
unfolding seen
quote_low byte bytes is = elim (cases_lt byte 128) [
  | inl low ↦ low
  | inr high ↦ absurd (true≢false (sym (ap is_quote is) ∙ first_high byte bytes high))
]

-- ---- the texts of parts

held_utf8 : (rule bytes : List ℕ) (text : List ℕ × List ℕ) → IsUtf8 rule → Ends rule bytes → part_at bytes ≡ parts.Quote → quoted bytes ≡ Ok text → IsUtf8 text.0
held_utf8 rule [] text utf8 ends part is = no_ok [] text _ (sym quoted_none ∙ is)
held_utf8 rule (byte ∷ bytes) text utf8 ends part is =
    let low = quote_low byte bytes part in
    (keeps_all byte bytes low).0 [] text (after_ascii ends.front bytes byte low (subst IsUtf8 ends.is utf8)) (sym (quoted_is byte bytes) ∙ is)

abbrev AreTexts : List Token → Type 0
AreTexts [] = Unit {0}
AreTexts (Trees.mark part ∷ tokens) = AreTexts tokens
AreTexts (Trees.name letters ∷ tokens) = AreTexts tokens
AreTexts (Trees.quote held ∷ tokens) = IsUtf8 held × AreTexts tokens

leads_texts : (rule text rest : List ℕ) (tokens : List Token) → IsUtf8 rule → Ends rule text → Leads text tokens rest → AreTexts tokens
leads_texts rule text rest tokens utf8 ends here = tt
leads_texts rule text rest tokens utf8 ends (on {next = next} {token = Trees.mark part} {tokens = later} s leads) = leads_texts rule next rest later utf8 (ends_on rule text next ends (ends_part text next (Trees.mark part) s)) leads
leads_texts rule text rest tokens utf8 ends (on {next = next} {token = Trees.name letters} {tokens = later} s leads) = leads_texts rule next rest later utf8 (ends_on rule text next ends (ends_part text next (Trees.name letters) s)) leads
leads_texts rule text rest tokens utf8 ends (on {next = next} {token = Trees.quote held} {tokens = later} s leads) =
    (held_utf8 rule text (held, s.1) utf8 ends s.0 s.2, leads_texts rule next rest later utf8 (ends_on rule text next ends (ends_part text next (Trees.quote held) s)) leads)

-- ---- those of a tree's steps

first_texts : (one other : List Token) → AreTexts (one ++ other) → AreTexts one
first_texts [] other h = tt
first_texts (Trees.mark part ∷ one) other h = first_texts one other h
first_texts (Trees.name letters ∷ one) other h = first_texts one other h
first_texts (Trees.quote held ∷ one) other h = (h.0, first_texts one other h.1)

last_texts : (one other : List Token) → AreTexts (one ++ other) → AreTexts other
last_texts [] other h = h
last_texts (Trees.mark part ∷ one) other h = last_texts one other h
last_texts (Trees.name letters ∷ one) other h = last_texts one other h
last_texts (Trees.quote held ∷ one) other h = last_texts one other h.1

both_are : (a b : Bool) → a ≡ true → b ≡ true → (a && b) ≡ true
both_are a b one two = rw one two

first_is : (a b : Bool) → (a && b) ≡ true → (a ≡ true) × (b ≡ true)
first_is true b h = (refl, h)
first_is false b h = let bad : ⊥ = cc in absurd bad

utf8_on : (one other : List Op) → are_utf8 one ≡ true → are_utf8 other ≡ true → are_utf8 (one ++ other) ≡ true
utf8_on [] other a b = b
utf8_on (op ∷ one) other a b = let parted = first_is (has_utf8 op) (are_utf8 one) a in both_are (has_utf8 op) (are_utf8 (one ++ other)) parted.0 (utf8_on one other parted.1 b)

of_two : (one other : List Op) (op : Op) → has_utf8 op ≡ true → are_utf8 one ≡ true → are_utf8 other ≡ true → are_utf8 (one ++ (other ++ op ∷ [])) ≡ true
of_two one other op last a b = utf8_on one (other ++ op ∷ []) a (utf8_on other (op ∷ []) b (both_are (has_utf8 op) true last refl))

of_one : (one : List Op) (op : Op) → has_utf8 op ≡ true → are_utf8 one ≡ true → are_utf8 (one ++ op ∷ []) ≡ true
of_one one op last a = utf8_on one (op ∷ []) a (both_are (has_utf8 op) true last refl)

tree_utf8 : {level : Level} (tree : Tree level) → AreTexts (spelled tree) → are_utf8 (code tree) ≡ true
tree_utf8 (Trees.or_of a) h = tree_utf8 a h
tree_utf8 (Trees.either a b) h = of_two (code a) (code b) ops.Either refl (tree_utf8 a (first_texts (spelled a) _ h)) (tree_utf8 b (last_texts (spelled a) _ h))
tree_utf8 (Trees.and_of a) h = tree_utf8 a h
tree_utf8 (Trees.both a b) h = of_two (code a) (code b) ops.Both refl (tree_utf8 a (first_texts (spelled a) _ h)) (tree_utf8 b (last_texts (spelled a) _ h))
tree_utf8 (Trees.rel_of a) h = tree_utf8 a h
tree_utf8 (Trees.test relation a b) h = of_two (code a) (code b) (ops.Test relation) refl (tree_utf8 a (first_texts (spelled a) _ h)) (tree_utf8 b (last_texts (spelled a) _ h))
tree_utf8 (Trees.choice a b) h = utf8_on (code a) (ops.Begin ∷ (code b ++ ops.Chosen ∷ [])) (tree_utf8 a (first_texts (spelled a) _ h)) (of_one (code b) ops.Chosen refl (tree_utf8 b (last_texts (spelled a) _ h)))
tree_utf8 Trees.no_items h = refl
tree_utf8 (Trees.some_items a) h = tree_utf8 a (first_texts (spelled a) _ h)
tree_utf8 (Trees.first_item a) h = of_one (code a) ops.Item refl (tree_utf8 a h)
tree_utf8 (Trees.next_item a b) h = of_two (code a) (code b) ops.Item refl (tree_utf8 a (first_texts (spelled a) _ h)) (tree_utf8 b (last_texts (spelled a) _ h))
tree_utf8 (Trees.unary_of a) h = tree_utf8 a h
tree_utf8 (Trees.negated a) h = of_one (code a) ops.Not refl (tree_utf8 a h)
tree_utf8 (Trees.post_of a) h = tree_utf8 a h
tree_utf8 (Trees.called call a b) h = of_two (code a) (code b) (ops.Called call) refl (tree_utf8 a (first_texts (spelled a) _ h)) (tree_utf8 b (last_texts (spelled a) _ h))
tree_utf8 (Trees.rounded a) h = tree_utf8 a (first_texts (spelled a) _ h)
tree_utf8 (Trees.group a) h = tree_utf8 a h
tree_utf8 (Trees.text held) h = both_are (is_utf8 held) true (is_utf8-from_IsUtf8 held h.0) refl
tree_utf8 (Trees.number whole) h = refl
tree_utf8 (Trees.flag value) h = refl
tree_utf8 Trees.null h = refl
tree_utf8 (Trees.member a) h = tree_utf8 a h
tree_utf8 (Trees.has a) h = refl
tree_utf8 (Trees.int a) h = of_one (code a) ops.ToInt refl (tree_utf8 a h)
tree_utf8 (Trees.steps names) h = refl

-- the steps of a rule
pub ruled_utf8 : (text begun rest : List ℕ) (before after all : List Op) → IsUtf8 text → begun ≡ after_blanks text → before ≡ [] → Reads Trees.or 32 begun rest before after → all ≡ after → are_utf8 all ≡ true
ruled_utf8 text begun rest before after all utf8 begins empty read same =
    ap are_utf8 (same ∙ read.steps ∙ ap (λ own. own ++ code read.tree) empty)
    ∙ tree_utf8 read.tree (leads_texts text begun rest (spelled read.tree) utf8 (subst (Ends text) (sym begins) (ends_blanks text)) read.leads)
