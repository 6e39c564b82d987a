-- A request that was written to be read is read as one whole request.
use Rattle.std.proofs.Common.{◌≡◌, ℕ, All, ◌≤◌, true, false, List, [], ◌∷◌, ◌++◌, length, map, reverse, codes, decimal, nat_lt, Option, Some, None, refl, sym, ap, ◌∙◌, arith, append_assoc, length-append}
use Rattle.std.specs.List.{flat_map}
use Rattle.std.specs.Char.{is_ascii_digit}
use Rattle.std.specs.Str.Parse.{digits_value, AllDigits}
use Rattle.std.proofs.lemmas.Bool.Decides.{nat_tests}
use Rattle.std.proofs.lemmas.Fmt.{decimal_is_IsNumeral, length-decimal-le}
use Rattle.std.proofs.lemmas.Str.Parse.{digit_from_value}
use Rattle.std.proofs.lemmas.List.Elements.{All-nil, All-cons, All-head, All-tail}
use Rattle.std.proofs.lemmas.List.Sums.{AllPass-from_list_all, list_all-from_AllPass}
use Rattle.httparse.specs.Grammar as grammar
use Rattle.httparse.specs.Grammar.{RequestHead, AllPass, IsField, IsToken, is_token_byte, is_value_byte, is_ows, skip_ows, trim_ows, print_request, print_field, crlf, ReadsRequest}
use Rattle.httparse.proofs.TrimLemmas.{trim_ows_space, AllPass-reverse}
use Rattle.side_base.specs.declared.message.Field.{Field}
use Rattle.side_base.specs.declared.message.Request.{Request}
use Rattle.side_base.specs.Field.{is_same_word}
use Rattle.http_chunks.specs.Chunked.{BODY_LIMIT}
use Rattle.http_frames.specs.HeadRules.{field_of, fields_refusal, is_chunked, is_length, is_bad_host, is_bad_coding, is_bad_length, is_encoded, content_length, count_named, any_value, asks_to_continue, method_of}
use Rattle.http_frames.specs.Requests.{ReadsWhole}
use Rattle.http_frames.specs.Written.{line_end, field_line}
use Rattle.http_frames.specs.Printed.{host_field, length_field, printed_fields, body_of, printed_head, printed, printed_request, MayBePrinted, IsOneWhole, AreWhole}
use Rattle.http_frames.proofs.RequestLemmas.{whole_length}
use Rattle.http_frames.proofs.WholeLemmas.{head_some}

-- ---- decimal digits

pub all_digits : (text : List ℕ) → AllDigits 10 text → AllPass is_ascii_digit text
all_digits [] is = All-nil (λ b. is_ascii_digit b ≡ true)
all_digits (b ∷ text) is =
    let range = digit_from_value b is.0 in
    All-cons (λ c. is_ascii_digit c ≡ true) b text (grind (arith, nat_tests)) (all_digits text is.1)

-- what begins with no white space is not cut
digits_stay : (text : List ℕ) → AllPass is_ascii_digit text → skip_ows text ≡ text
digits_stay [] is = refl
digits_stay (b ∷ text) is =
    let digit : is_ascii_digit b ≡ true = All-head (λ c. is_ascii_digit c ≡ true) b text is in
    let other : is_ows b ≡ false = grind (arith, nat_tests) in
    rw other refl

pub digits_trim : (text : List ℕ) → AllPass is_ascii_digit text → trim_ows (32 ∷ text) ≡ text
digits_trim text is = trim_ows_space text (digits_stay text is) (digits_stay (reverse text) (AllPass-reverse is_ascii_digit text is))

digits_value_bytes : (text : List ℕ) → AllPass is_ascii_digit text → AllPass is_value_byte text
digits_value_bytes [] is = All-nil (λ b. is_value_byte b ≡ true)
digits_value_bytes (b ∷ text) is =
    let digit : is_ascii_digit b ≡ true = All-head (λ c. is_ascii_digit c ≡ true) b text is in
    All-cons (λ c. is_value_byte c ≡ true) b text (grind (arith, nat_tests)) (digits_value_bytes text (All-tail (λ c. is_ascii_digit c ≡ true) b text is))

record IsNumber (n : ℕ) (text : List ℕ) : Type 0 where
  digits : AllPass is_ascii_digit text
  good : is_length text ≡ true
  value : digits_value 10 text ≡ n

number_of : (n : ℕ) → n ≤ BODY_LIMIT → IsNumber n (decimal n)
unfolding is_length
number_of n few =
    let numeral = decimal_is_IsNumeral n (omega arith) in
    let short : length (decimal n) ≤ 7 = length-decimal-le 7 n (omega arith) (omega arith) (omega arith) in
    let digits = all_digits (decimal n) numeral.0.1 in
    let some = numeral.0.0 in
    let all = list_all-from_AllPass is_ascii_digit (decimal n) digits in
    record { digits = digits; good = rw all (grind (arith, nat_tests)); value = numeral.1 }

-- ---- the head

abbrev pub line_of : Field → grammar.Field
line_of field = record { name = field.name; raw = 32 ∷ field.value; end = crlf }

abbrev pub head_for : List ℕ → List ℕ → Option (List ℕ) → RequestHead
head_for method target content = record {
  blank = [];
  method = method;
  target = target;
  minor = 1;
  line_end = crlf;
  fields = map line_of (printed_fields content);
  last = crlf;
}

prints_field : (field : Field) → print_field (line_of field) ≡ field_line field
prints_field field = ap (λ (t : List ℕ). t ++ line_end) (sym (append_assoc field.name (codes ": ") field.value))

pub prints_fields : (fields : List Field) → flat_map print_field (map line_of fields) ≡ flat_map field_line fields
prints_fields [] = refl
prints_fields (field ∷ fields) =
    ap (λ (t : List ℕ). t ++ flat_map print_field (map line_of fields)) (prints_field field) ∙ ap (λ (t : List ℕ). field_line field ++ t) (prints_fields fields)

prints : (method target : List ℕ) (content : Option (List ℕ)) → print_request (head_for method target content) ≡ printed_head method target content
unfolding print_request
prints method target content =
    let fields = flat_map field_line (printed_fields content) in
    let line = (method ++ 32 ∷ target) ++ codes " HTTP/1.1" ++ line_end in
    ap (λ (t : List ℕ). line ++ (t ++ line_end)) (prints_fields (printed_fields content)) ∙ sym (append_assoc line fields line_end)
    ∙ ap (λ (t : List ℕ). t ++ codes " HTTP/1.1" ++ line_end ++ fields ++ line_end) (sym (append_assoc method (codes " ") target))

host_valid : IsField (line_of host_field)
unfolding is_token_byte
host_valid = record {
  name = (omega arith, AllPass-from_list_all is_token_byte (codes "Host") refl);
  raw = AllPass-from_list_all is_value_byte (32 ∷ codes "a") refl;
}

pub length_valid : (len : ℕ) → AllPass is_ascii_digit (decimal len) → IsField (line_of (length_field len))
unfolding is_token_byte
length_valid len digits = record {
  name = (omega arith, AllPass-from_list_all is_token_byte (codes "Content-Length") refl);
  raw = All-cons (λ b. is_value_byte b ≡ true) 32 (decimal len) refl (digits_value_bytes (decimal len) digits);
}

fields_valid : (content : Option (List ℕ)) → length (body_of content) ≤ BODY_LIMIT → All IsField (map line_of (printed_fields content))
fields_valid None few = All-cons IsField (line_of host_field) [] host_valid (All-nil IsField)
fields_valid (Some content) few =
    let number = number_of (length content) few in
    All-cons IsField (line_of host_field) (line_of (length_field (length content)) ∷ []) host_valid
    (All-cons IsField (line_of (length_field (length content))) [] (length_valid (length content) number.digits) (All-nil IsField))

host_again : field_of (line_of host_field) ≡ host_field
unfolding trim_ows
host_again = refl

fields_again : (content : Option (List ℕ)) → length (body_of content) ≤ BODY_LIMIT → map field_of (map line_of (printed_fields content)) ≡ printed_fields content
fields_again None few = ap (λ (f : Field). f ∷ []) host_again
fields_again (Some content) few =
    let number = number_of (length content) few in
    let name = codes "Content-Length" in
    ap (λ (f : Field). f ∷ field_of (line_of (length_field (length content))) ∷ []) host_again
    ∙ ap (λ (t : List ℕ). host_field ∷ record { name = name; value = t } ∷ []) (digits_trim (decimal (length content)) number.digits)

-- ---- what the fields say

abbrev pub with_length : List ℕ → List Field
with_length value = host_field ∷ record { name = codes "Content-Length"; value = value } ∷ []

host_accepted : fields_refusal 1 (host_field ∷ []) ≡ None
unfolding fields_refusal is_bad_host is_chunked is_bad_coding is_bad_length is_encoded content_length count_named any_value is_same_word
host_accepted = refl

length_accepted : (value : List ℕ) → is_length value ≡ true → nat_lt BODY_LIMIT (digits_value 10 value) ≡ false → fields_refusal 1 (with_length value) ≡ None
unfolding fields_refusal is_bad_host is_chunked is_bad_coding is_bad_length is_encoded content_length count_named any_value is_same_word
length_accepted value good few = rw (good, few) refl

host_plain : is_chunked (host_field ∷ []) ≡ false
unfolding is_chunked count_named is_same_word
host_plain = refl

length_plain : (value : List ℕ) → is_chunked (with_length value) ≡ false
unfolding is_chunked count_named is_same_word
length_plain value = refl

host_counts : content_length (host_field ∷ []) ≡ 0
unfolding content_length is_same_word
host_counts = refl

length_counts : (value : List ℕ) → content_length (with_length value) ≡ digits_value 10 value
unfolding content_length is_same_word
length_counts value = refl

host_quiet : asks_to_continue 1 (host_field ∷ []) ≡ false
unfolding asks_to_continue any_value is_same_word
host_quiet = refl

length_quiet : (value : List ℕ) → asks_to_continue 1 (with_length value) ≡ false
unfolding asks_to_continue any_value is_same_word
length_quiet value = refl

accepted : (content : Option (List ℕ)) → length (body_of content) ≤ BODY_LIMIT → fields_refusal 1 (printed_fields content) ≡ None
accepted None few = host_accepted
accepted (Some content) few =
    let number = number_of (length content) few in
    let value = number.value in
    let small : nat_lt BODY_LIMIT (digits_value 10 (decimal (length content))) ≡ false = grind (arith, nat_tests, value) in
    length_accepted (decimal (length content)) number.good small

plain : (content : Option (List ℕ)) → is_chunked (printed_fields content) ≡ false
plain None = host_plain
plain (Some content) = length_plain (decimal (length content))

counts : (content : Option (List ℕ)) → length (body_of content) ≤ BODY_LIMIT → content_length (printed_fields content) ≡ length (body_of content)
counts None few = host_counts
counts (Some content) few = length_counts (decimal (length content)) ∙ (number_of (length content) few).value

quiet : (content : Option (List ℕ)) → asks_to_continue 1 (printed_fields content) ≡ false
quiet None = host_quiet
quiet (Some content) = length_quiet (decimal (length content))

-- ---- the whole request

whole_for : (method target : List ℕ) (content : Option (List ℕ)) (rest : List ℕ) → MayBePrinted method target content
    → ReadsWhole (printed method target content ++ rest) (head_for method target content) (body_of content) rest
whole_for method target content rest may =
    let head = head_for method target content in
    let body = body_of content in
    let again = fields_again content may.body in
    let reads : ReadsRequest (printed method target content ++ rest) head (body ++ rest) = (
      record {
        method = may.token;
        target = (may.some, may.bytes);
        target_text = may.text;
        minor = omega arith;
        fields = fields_valid content may.body;
      },
      append_assoc (printed_head method target content) body rest ∙ ap (λ (t : List ℕ). t ++ (body ++ rest)) (sym (prints method target content)),
    ) in
    whole_length (printed method target content ++ rest) head (body ++ rest) body rest
    (record {
      reads = reads;
      short = omega (arith, may.head, ap length (prints method target content));
      accepted = ap (fields_refusal 1) again ∙ accepted content may.body;
    })
    (ap is_chunked again ∙ plain content)
    (record { counts = sym (ap content_length again ∙ counts content may.body); whole = refl })

pub printed_whole : (method target : List ℕ) (content : Option (List ℕ)) → MayBePrinted method target content
    → IsOneWhole (printed method target content) (printed_request method target content)
printed_whole method target content may =
    let again = fields_again content may.body in
    record {
      whole = record { head = head_for method target content; body = body_of content };
      reads = λ rest. whole_for method target content rest may;
      is = λ i. record { method = method_of method; target = target; minor = 1; fields = again i; body = body_of content };
      quiet = ap (asks_to_continue 1) again ∙ quiet content;
    }

-- ---- such texts one behind the other

pub nothing_is_whole : AreWhole [] []
nothing_is_whole = record {
  wholes = [];
  stream = record { begins = refl; none = λ head body rest whole. no_bytes head whole.after whole.heads.reads };
  are = refl;
}
  where
    no_bytes : (head : RequestHead) (after : List ℕ) → ReadsRequest [] head after → ⊥
    no_bytes head after reads = omega (arith, ap length reads.1, length-append (print_request head) after, head_some head reads.0.method.0)

pub one_more_whole : (text rest : List ℕ) (request : Request) (requests : List Request) → IsOneWhole text request → AreWhole rest requests
    → AreWhole (text ++ rest) (request ∷ requests)
one_more_whole text rest request requests is are = record {
  wholes = is.whole ∷ are.wholes;
  stream = record { begins = (rest, is.reads rest, are.stream.begins); none = are.stream.none };
  are = λ i. is.is i ∷ are.are i;
}
