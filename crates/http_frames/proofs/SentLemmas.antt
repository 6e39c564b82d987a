-- A response that was written is read as one head, and then its content.
use Rattle.std.proofs.Common.{◌≡◌, ℕ, ◌+◌, ◌/◌, ◌%◌, ◌^◌, ◌<◌, ◌≤◌, zero, suc, All, Bool, true, false, cond, ◌&&◌, List, [], ◌∷◌, ◌++◌, length, map, codes, decimal, Option, Some, None, unwrap_or, refl, sym, ap, ◌∙◌, subst, arith, append_assoc, length-append}
use Rattle.std.specs.List.{flat_map, list_all}
use Rattle.std.specs.Fmt.{digits}
use Rattle.std.proofs.lemmas.Bool.Decides.{Decides-below_and}
use Rattle.std.proofs.lemmas.Fmt.{decimal_is_IsNumeral, decimal_step, length-decimal-le}
use Rattle.std.proofs.lemmas.Grind.{flat_map-append}
use Rattle.std.proofs.lemmas.List.{append-nil, map-append}
use Rattle.std.proofs.lemmas.List.Elements.{All-nil, All-cons, All-append, All-head, All-tail}
use Rattle.std.proofs.lemmas.List.Sums.{AllPass-from_list_all}
use Rattle.http.specs.StatusCode.{IsStatusCode, reason_phrase}
use Rattle.httparse.specs.Grammar.{ResponseHead, AllPass, IsField, is_token_byte, is_value_byte, print_response, crlf, ReadsResponse, trim_ows}
use Rattle.httparse.proofs.GrammarLemmas.{response_unique}
use Rattle.httparse.proofs.TrimLemmas.{trim_ows_space}
use Rattle.side_base.specs.declared.message.Field.{Field}
use Rattle.side_base.specs.declared.message.Response.{Response}
use Rattle.http_frames.specs.HeadRules.{field_of}
use Rattle.http_frames.specs.Printed.{length_field}
use Rattle.http_frames.specs.Written.{line_end, field_line, length_line, close_line, content, is_bare, phrase, written, continue_bytes}
use Rattle.http_frames.specs.Sent.{MayBeField, MayBeSent, close_field, length_fields, close_fields, sent_fields, IsOneHead}
use Rattle.http_frames.proofs.PrintedLemmas.{all_digits, digits_trim, prints_fields, length_valid, line_of}

-- ---- the status line

three_digits : (n : ℕ) → IsStatusCode n → length (decimal n) ≡ 3
three_digits n is =
    let few : length (decimal n) ≤ 3 = length-decimal-le 3 n (omega (arith, is.1)) (omega (arith, is.1)) (omega (arith, is.1)) in
    let last = ap length (decimal_step n (omega (arith, is.0)) (omega (arith, is.1))) ∙ length-append (decimal (n / 10)) ((48 + n % 10) ∷ []) in
    let tens = n / 10 in
    let middle = ap length (decimal_step tens (omega (arith, is.0)) (omega (arith, is.1))) ∙ length-append (decimal (tens / 10)) ((48 + tens % 10) ∷ []) in
    let first = (decimal_is_IsNumeral (tens / 10) (omega (arith, is.1))).0.0 in
    omega (arith, few, last, middle, first)

abbrev is_plain : Option (List ℕ) → Bool
is_plain None = true
is_plain (Some text) = list_all is_value_byte text

abbrev plain_below : ℕ → Bool
plain_below zero = true
plain_below (suc n) = is_plain (reason_phrase n) && plain_below n

plain_bytes : (found : Option (List ℕ)) → is_plain found ≡ true → AllPass is_value_byte (unwrap_or found [])
plain_bytes None e = All-nil (λ b. is_value_byte b ≡ true)
plain_bytes (Some text) e = AllPass-from_list_all is_value_byte text e

phrase_valid : (n : ℕ) → n < 1000 → AllPass is_value_byte (phrase n)
unfolding phrase
phrase_valid n h =
    let test = λ (k : ℕ). is_plain (reason_phrase k) in
    plain_bytes (reason_phrase n) ((Decides-below_and test (λ k. test k ≡ true) plain_below (λ k. (λ x. x, λ x. x)) refl (λ _. refl) 1000).0 refl n h)

-- ---- the fields

field_valid : (field : Field) → MayBeField field → IsField (line_of field)
field_valid field is = record { name = is.name; raw = All-cons (λ b. is_value_byte b ≡ true) 32 field.value refl is.value }

fields_valid : (fields : List Field) → All MayBeField fields → All IsField (map line_of fields)
fields_valid [] each = All-nil IsField
fields_valid (field ∷ fields) each =
    All-cons IsField (line_of field) (map line_of fields) (field_valid field (All-head MayBeField field fields each)) (fields_valid fields (All-tail MayBeField field fields each))

again : (field : Field) → MayBeField field → field_of (line_of field) ≡ field
again field is = λ i. record { name = field.name; value = trim_ows_space field.value is.front is.back i }

all_again : (fields : List Field) → All MayBeField fields → map field_of (map line_of fields) ≡ fields
all_again [] each = refl
all_again (field ∷ fields) each =
    λ i. again field (All-head MayBeField field fields each) i ∷ all_again fields (All-tail MayBeField field fields each) i

-- what holds of lines that are added
record AreLinesOf (fields : List Field) (bytes : List ℕ) : Type 0 where
  valid : All IsField (map line_of fields)
  back : map field_of (map line_of fields) ≡ fields
  prints : flat_map field_line fields ≡ bytes

length_lines : (bare : Bool) (len : ℕ) → len < 2 ^ 64
    → AreLinesOf (cond bare [] (length_field len ∷ [])) (cond bare [] (codes "Content-Length: " ++ decimal len ++ line_end))
length_lines true len few = record { valid = All-nil IsField; back = refl; prints = refl }
length_lines false len few =
    let digits = all_digits (decimal len) (decimal_is_IsNumeral len few).0.1 in
    record {
      valid = All-cons IsField (line_of (length_field len)) [] (length_valid len digits) (All-nil IsField);
      back = λ i. record { name = codes "Content-Length"; value = digits_trim (decimal len) digits i } ∷ [];
      prints = append-nil (codes "Content-Length: " ++ decimal len ++ line_end);
    }

close_lines : (close : Bool) → AreLinesOf (close_fields close) (close_line close)
unfolding is_token_byte trim_ows
close_lines true = record {
  valid = All-cons IsField (line_of close_field) [] (record {
    name = (omega arith, AllPass-from_list_all is_token_byte (codes "Connection") refl);
    raw = AllPass-from_list_all is_value_byte (32 ∷ codes "close") refl;
  }) (All-nil IsField);
  back = refl;
  prints = refl;
}
close_lines false = record { valid = All-nil IsField; back = refl; prints = refl }

joined_lines : (one other : List Field) (bytes more : List ℕ) → AreLinesOf one bytes → AreLinesOf other more → AreLinesOf (one ++ other) (bytes ++ more)
joined_lines one other bytes more is are = record {
  valid = subst (All IsField) (sym (map-append line_of one other)) (All-append IsField (map line_of one) (map line_of other) is.valid are.valid);
  back = ap (map field_of) (map-append line_of one other) ∙ map-append field_of (map line_of one) (map line_of other) ∙ (λ i. is.back i ++ are.back i);
  prints = flat_map-append field_line one other ∙ (λ i. is.prints i ++ are.prints i);
}

sent_lines : (response : Response) (close : Bool) → MayBeSent response
    → AreLinesOf (sent_fields response close) (flat_map field_line response.fields ++ length_line response ++ close_line close)
sent_lines response close may =
    joined_lines (response.fields ++ length_fields response) (close_fields close) (flat_map field_line response.fields ++ length_line response) (close_line close)
    (joined_lines response.fields (length_fields response) (flat_map field_line response.fields) (length_line response)
    (record { valid = fields_valid response.fields may.fields; back = all_again response.fields may.fields; prints = refl })
    (length_lines (is_bare response.status) (length response.body) may.body))
    (close_lines close)

-- ---- the head

abbrev head_for : ℕ → List Field → ResponseHead
head_for status fields = record {
  blank = [];
  minor = 1;
  digits = decimal status;
  reason = Some (phrase status);
  line_end = crlf;
  fields = map line_of fields;
  last = crlf;
}

regroup : (number text end lines length_bytes close_bytes rest : List ℕ)
    → number ++ codes " " ++ text ++ end ++ lines ++ length_bytes ++ close_bytes ++ end ++ rest
    ≡ number ++ (32 ∷ text) ++ end ++ (lines ++ length_bytes ++ close_bytes ++ end) ++ rest
regroup number text end lines length_bytes close_bytes rest = simp append_assoc

prints_head : (status : ℕ) (fields : List Field) (lines length_bytes close_bytes rest : List ℕ)
    → flat_map field_line fields ≡ lines ++ length_bytes ++ close_bytes
    → (codes "HTTP/1.1 " ++ decimal status ++ codes " " ++ phrase status ++ line_end) ++ lines ++ length_bytes ++ close_bytes ++ line_end ++ rest
    ≡ print_response (head_for status fields) ++ rest
unfolding print_response
prints_head status fields lines length_bytes close_bytes rest prints =
    let front = decimal status ++ (32 ∷ phrase status) ++ line_end in
    ap (λ (t : List ℕ). codes "HTTP/1.1 " ++ t) (regroup (decimal status) (phrase status) line_end lines length_bytes close_bytes rest)
    ∙ ap (λ (t : List ℕ). codes "HTTP/1.1 " ++ (front ++ (t ++ line_end) ++ rest)) (sym (prints_fields fields ∙ prints))

one_head : (text : List ℕ) (status : ℕ) (fields : List Field) (rest bytes : List ℕ) → IsStatusCode status → AreLinesOf fields bytes
    → text ≡ print_response (head_for status fields) ++ rest → IsOneHead text status fields rest
one_head text status fields rest bytes code lines is =
    let numeral = decimal_is_IsNumeral status (omega (arith, code.1)) in
    let reads : ReadsResponse text (head_for status fields) rest = (
      record {
        minor = omega arith;
        digits = (three_digits status code, all_digits (decimal status) numeral.0.1);
        reason = phrase_valid status code.1;
        fields = lines.valid;
      },
      is,
    ) in
    record {
      head = head_for status fields;
      reads = reads;
      minor = refl;
      status_is = numeral.1;
      phrase_is = refl;
      fields_are = lines.back;
      only = λ other after there. response_unique text other (head_for status fields) after rest there reads;
    }

pub written_head : (response : Response) (head_only close : Bool) → MayBeSent response
    → IsOneHead (written response head_only close) response.status (sent_fields response close) (content response head_only)
unfolding written
written_head response head_only close may =
    let lines = sent_lines response close may in
    one_head _ response.status (sent_fields response close) (content response head_only) _ may.status lines
    (prints_head response.status (sent_fields response close) (flat_map field_line response.fields) (length_line response) (close_line close)
    (content response head_only) lines.prints)

pub continue_head : IsOneHead continue_bytes 100 [] []
unfolding print_response phrase digits
continue_head =
    one_head continue_bytes 100 [] [] [] (omega arith, omega arith) (record { valid = All-nil IsField; back = refl; prints = refl }) refl
