-- The request of each word is one whole request.
use Rattle.std.proofs.Common.{◌≡◌, ◌<◌, ◌≤◌, ◌^◌, ◌+◌, ◌++◌, ◌∷◌, [], ◌%◌, ◌/◌, ℕ, List, Bool, true, false, sym, ap, subst, ◌∙◌, append_assoc, append-nil, length-append, ◌==◌, refl, length, map, arith, codes, decimal, Option, Some, None, nat_lt, ◌&&◌}
use Rattle.std.specs.List.{flat_map}
use Rattle.std.specs.Str.Parse.{AllDigits}
use Rattle.std.proofs.lemmas.Str.Parse.{digit_from_value}
use Rattle.std.specs.Str.{IsAscii}
use Rattle.std.proofs.lemmas.Bool.Decides.{nat_tests}
use Rattle.std.proofs.lemmas.Fmt.{decimal_is_IsNumeral, length-decimal-le, IsAscii-decimal}
use Rattle.std.proofs.lemmas.Str.{IsUtf8-from_ascii, IsAscii-append}
use Rattle.std.proofs.lemmas.Str.Ascii.{IsAscii-nil, IsAscii-cons}
use Rattle.std.proofs.lemmas.List.Elements.{All-nil, All-cons, All-head, All-tail, All-append}
use Rattle.std.proofs.lemmas.List.Sums.{AllPass-from_list_all}
use Rattle.httparse.specs.Grammar.{AllPass, IsToken, is_uri_byte, is_token_byte}
use Rattle.http_frames.specs.Written.{line_end, field_line}
use Rattle.http_frames.specs.Printed.{printed, printed_head, printed_fields, printed_request, MayBePrinted, IsOneWhole, AreWhole}
use Rattle.side_base.specs.declared.message.Request.{Request}
use Rattle.drill.specs.Requests.{words_of, request_text, request_of, text_when, request_when, saved, asked, save_request, row_request, posted, save_text, key_text, first_write}
use Rattle.rand_core.specs.Stream.{Stream}
use Rattle.drill.proofs.Words.{Small}

-- ---- the targets

uri_digits : (text : List ℕ) → AllDigits 10 text → AllPass is_uri_byte text
uri_digits [] is = All-nil (λ b. is_uri_byte b ≡ true)
uri_digits (b ∷ text) is =
    let range = digit_from_value b is.0 in
    All-cons (λ c. is_uri_byte c ≡ true) b text (grind (arith, nat_tests)) (uri_digits text is.1)

abbrev all_ascii : List ℕ → Bool
all_ascii [] = true
all_ascii (byte ∷ bytes) = nat_lt byte 128 && all_ascii bytes

both_true : (a b : Bool) → (a && b) ≡ true → (a ≡ true) × (b ≡ true)
both_true true b h = (refl, h)
both_true false b h = absurd (let bad : ⊥ = cc in bad)

below : (byte : ℕ) → nat_lt byte 128 ≡ true → byte < 128
below byte h = grind (arith, nat_tests)

ascii : (bytes : List ℕ) → all_ascii bytes ≡ true → IsAscii bytes
ascii [] h = IsAscii-nil
ascii (byte ∷ bytes) h = let p = both_true (nat_lt byte 128) (all_ascii bytes) h in IsAscii-cons byte bytes (below byte p.0) (ascii bytes p.1)

record IsKey (text : List ℕ) : Type 0 where
  uri : AllPass is_uri_byte text
  ascii : IsAscii text
  short : length text ≤ 3

key_is : (word : ℕ) → IsKey (key_text word)
unfolding key_text
key_is word =
    let number = word / 4 % 16 in
    let few : number < 16 = omega arith in
    let digits = (decimal_is_IsNumeral number (omega (arith, few))).0.1 in
    let len : length (decimal number) ≤ 2 = length-decimal-le 2 number (omega arith) (omega (arith, few)) (omega (arith, few)) in
    record {
      uri = All-cons (λ b. is_uri_byte b ≡ true) 107 (decimal number) refl (uri_digits (decimal number) digits);
      ascii = IsAscii-cons 107 (decimal number) (omega arith) (IsAscii-decimal number (omega (arith, few)));
      short = omega (arith, len);
    }

abbrev front : List ℕ
front = codes "/v1.0/state/statestore/"

abbrev store : List ℕ
store = codes "/v1.0/state/statestore"

-- ---- lengths

six_len : (a b c d e f : List ℕ) → length (a ++ b ++ c ++ d ++ e ++ f) ≡ length a + length b + length c + length d + length e + length f
six_len a b c d e f = omega (arith, length-append (a ++ b ++ c ++ d ++ e) f, length-append (a ++ b ++ c ++ d) e, length-append (a ++ b ++ c) d, length-append (a ++ b) c, length-append a b)

seven_len : (a b c d e f g : List ℕ) → length (a ++ b ++ c ++ d ++ e ++ f ++ g) ≡ length a + length b + length c + length d + length e + length f + length g
seven_len a b c d e f g = omega (arith, length-append (a ++ b ++ c ++ d ++ e ++ f) g, six_len a b c d e f)

head_len : (method target : List ℕ) → length method ≤ 6 → length target ≤ 26 → length (printed_head method target None) ≤ 16384
head_len method target few short =
    let all : length (printed_head method target None) ≡ length method + 1 + length target + 9 + 2 + 9 + 2 =
    seven_len method (codes " ") target (codes " HTTP/1.1") line_end (flat_map field_line (printed_fields None)) line_end in
    omega (arith, all, few, short)

post_len : (content : List ℕ) → length content ≤ 200 → length (printed_head (codes "POST") store (Some content)) ≤ 16384
post_len content few =
    let digits = decimal (length content) in
    let len : length digits ≤ 3 = length-decimal-le 3 (length content) (omega arith) (omega (arith, few)) (omega (arith, few)) in
    omega (arith, len, length-append digits line_end, length-append (digits ++ line_end) [], length-append ((digits ++ line_end) ++ []) line_end)

row_is : (method : List ℕ) (word : ℕ) → IsToken method → length method ≤ 6 → MayBePrinted method (front ++ key_text word) None
row_is method word token short =
    let key = key_is word in
    record {
      token = token;
      some = omega arith;
      bytes = All-append (λ b. is_uri_byte b ≡ true) front (key_text word) (AllPass-from_list_all is_uri_byte front refl) key.uri;
      text = IsUtf8-from_ascii (front ++ key_text word) (IsAscii-append front (key_text word) (ascii front refl) key.ascii);
      head = head_len method (front ++ key_text word) short (omega (arith, key.short));
      body = omega arith;
    }

save_len : (word : ℕ) (options : List ℕ) → word < 2 ^ 64 → length options ≤ 50 → length (save_text word options) ≤ 200
unfolding save_text
save_len word options small few =
    let value = decimal (word / 64) in
    let len : length value ≤ 20 = length-decimal-le 20 (word / 64) (omega arith) (omega (arith, small)) (omega (arith, small)) in
    let key = key_is word in
    let all : length (save_text word options) ≡ 9 + length (key_text word) + 10 + length value + length options + 2 =
    six_len (codes "[{\"key\":\"") (key_text word) (codes "\",\"value\":") value options (codes "}]") in
    omega (arith, all, len, few, key.short)

save_is : (word : ℕ) (options : List ℕ) → word < 2 ^ 64 → length options ≤ 50 → MayBePrinted (codes "POST") store (Some (save_text word options))
unfolding is_token_byte
save_is word options small few =
    let len = save_len word options small few in
    record {
      token = (omega arith, AllPass-from_list_all is_token_byte (codes "POST") refl);
      some = omega arith;
      bytes = AllPass-from_list_all is_uri_byte store refl;
      text = IsUtf8-from_ascii store (ascii store refl);
      head = post_len (save_text word options) len;
      body = omega (arith, len);
    }

-- ---- the requests

-- what is printed so is one whole request
abbrev pub PrintsWhole : Type 0
PrintsWhole = (method target : List ℕ) (content : Option (List ℕ)) → MayBePrinted method target content → IsOneWhole (printed method target content) (printed_request method target content)

-- texts of one whole request each are a stream
pub record MakesStream : Type 0 where
  pub none : AreWhole [] []
  pub more : (text rest : List ℕ) (request : Request) (requests : List Request) → IsOneWhole text request → AreWhole rest requests → AreWhole (text ++ rest) (request ∷ requests)

save_whole : PrintsWhole → (word : ℕ) (options : List ℕ) → word < 2 ^ 64 → length options ≤ 50 → IsOneWhole (save_request word options) (saved word options)
unfolding save_request
save_whole prints word options small few =
    let content = save_text word options in
    let same : printed (codes "POST") store (Some content) ≡ posted content = simp append_assoc in
    subst (λ text. IsOneWhole text (saved word options)) same (prints (codes "POST") store (Some content) (save_is word options small few))

row_whole : PrintsWhole → (method : List ℕ) (word : ℕ) → IsToken method → length method ≤ 6 → IsOneWhole (row_request method word) (asked method word)
unfolding row_request
row_whole prints method word token short =
    let same : printed method (front ++ key_text word) None ≡ row_request method word = simp (append_assoc, append-nil) in
    subst (λ text. IsOneWhole text (asked method word)) same (prints method (front ++ key_text word) None (row_is method word token short))

get_token : IsToken (codes "GET")
unfolding is_token_byte
get_token = (omega arith, AllPass-from_list_all is_token_byte (codes "GET") refl)

delete_token : IsToken (codes "DELETE")
unfolding is_token_byte
delete_token = (omega arith, AllPass-from_list_all is_token_byte (codes "DELETE") refl)

by_kind : PrintsWhole → (zero one two : Bool) (word : ℕ) → word < 2 ^ 64 → IsOneWhole (text_when zero one two word) (request_when zero one two word)
by_kind prints true one two word small = save_whole prints word [] small (omega arith)
by_kind prints false true two word small = row_whole prints (codes "GET") word get_token (omega arith)
by_kind prints false false true word small = save_whole prints word first_write small (omega arith)
by_kind prints false false false word small = row_whole prints (codes "DELETE") word delete_token (omega arith)

word_whole : PrintsWhole → (word : ℕ) → word < 2 ^ 64 → IsOneWhole (request_text word) (request_of word)
unfolding request_text request_of
word_whole prints word small = by_kind prints (word % 4 == 0) (word % 4 == 1) (word % 4 == 2) word small

pub all_whole : PrintsWhole → MakesStream → (words : List ℕ) → Small words → AreWhole (flat_map request_text words) (map request_of words)
all_whole prints stream [] small = stream.none
all_whole prints stream (word ∷ words) small =
    stream.more (request_text word) (flat_map request_text words) (request_of word) (map request_of words)
    (word_whole prints word (All-head (λ w. w < 2 ^ 64) word words small)) (all_whole prints stream words (All-tail (λ w. w < 2 ^ 64) word words small))

pub seeded_whole : PrintsWhole → MakesStream → (n : ℕ) (out first : List ℕ) (stream seeded : Stream) → out ≡ first ++ flat_map request_text (words_of n stream) → first ≡ []
    → Small (words_of n stream) → stream ≡ seeded → AreWhole out (map request_of (words_of n seeded))
seeded_whole prints makes n out first stream seeded written empty small same =
    let is : out ≡ flat_map request_text (words_of n stream) = written ∙ ap (λ o. o ++ flat_map request_text (words_of n stream)) empty in
    subst (λ s. AreWhole out (map request_of (words_of n s))) same
    (subst (λ bytes. AreWhole bytes (map request_of (words_of n stream))) (sym is) (all_whole prints makes (words_of n stream) small))
