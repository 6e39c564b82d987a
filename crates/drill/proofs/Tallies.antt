-- Responses that are counted by their bytes.
use Rattle.std.proofs.Common.{◌≡◌, ◌∙◌, ◌<◌, ◌≤◌, ◌^◌, ◌+◌, ◌-◌, ◌*◌, ◌/◌, ◌%◌, ◌==◌, ◌||◌, ℕ, Bool, true, false, true≢false, suc, refl, sym, ap, ap₂, subst, arith, List, [], ◌∷◌, ◌++◌, map, length, take, drop, All, Option, Some, None, is_some, codes, decimal, unwrap_or, if◌then◌else◌, append_assoc, append-nil, length-append, one-add, nat_lt, get_or, min}
use Rattle.std.specs.List.{flat_map, position, position_or_len, take_while}
use Rattle.std.specs.Str.Parse.{AllDigits, digits_value}
use Rattle.std.specs.Char.{is_ascii_digit}
use Rattle.std.proofs.Math.Seq.{take-append_seam, drop-append_seam, drop-append-add}
use Rattle.std.proofs.lemmas.List.{drop-drop, length-drop, take_all}
use Rattle.std.proofs.lemmas.Grind.{flat_map-append}
use Rattle.std.proofs.lemmas.List.Elements.{All-head, All-tail, All-nil, All-cons, All-append}
use Rattle.std.proofs.lemmas.List.Sums.{take_while-cons}
use Rattle.std.proofs.lemmas.Bool.Decides.{nat_tests}
use Rattle.std.proofs.lemmas.Str.Parse.{digit_from_value}
use Rattle.std.proofs.lemmas.Fmt.{decimal_step, decimal_digit, decimal_is_IsNumeral}
use Rattle.side_base.specs.Decimal.{digits_at}
use Rattle.side_base.specs.declared.message.Field.{Field}
use Rattle.side_base.specs.declared.message.Response.{Response}
use Rattle.http.specs.StatusCode.{IsStatusCode}
use Rattle.http_frames.specs.Written.{written, content, is_bare, phrase, length_line, close_line}
use Rattle.http_frames.specs.Written.{field_line as written_line}
use Rattle.drill.specs.Answers.{Answer, HeadLine, IsHeadLine, Lacks, MayBeCounted, Says, behind_name, close_lines, counted, counted_all, field_line, first_line, head_lines, length_lines, line_text, lines_text, plain_line, status_of, text_of, texts_of, told}
use Rattle.drill.specs.Parts.{AnswersLeft, LinesLeft}
use Rattle.drill.specs.declared.tallying.Head.{Head}
use Rattle.drill.specs.declared.tallying.Tally.{Tally}

abbrev pub is_end : ℕ → Bool
is_end byte = byte == 10

abbrev NoEnd : ℕ → Type 0
NoEnd byte = (byte == 10) ≡ false

-- ---- three digits

three_digits : (n : ℕ) → IsStatusCode n → decimal n ≡ (48 + n / 10 / 10) ∷ (48 + n / 10 % 10) ∷ (48 + n % 10) ∷ []
three_digits n is =
    decimal_step n (omega (arith, is.0)) (omega (arith, is.1))
    ∙ ap (λ x. x ++ (48 + n % 10) ∷ []) (decimal_step (n / 10) (omega (arith, is.0)) (omega (arith, is.1))
    ∙ ap (λ x. x ++ (48 + n / 10 % 10) ∷ []) (decimal_digit (n / 10 / 10) (omega (arith, is.1))))

-- the bytes of a status line begin so
pub status_bytes : (bytes : List ℕ) (n : ℕ) (behind : List ℕ) → IsStatusCode n → bytes ≡ codes "HTTP/1.1 " ++ (decimal n ++ behind)
    → bytes ≡ codes "HTTP/1.1 " ++ ((48 + n / 10 / 10) ∷ (48 + n / 10 % 10) ∷ (48 + n % 10) ∷ behind)
status_bytes bytes n behind is same = same ∙ ap (λ (digits : List ℕ). codes "HTTP/1.1 " ++ (digits ++ behind)) (three_digits n is)

-- ---- lines

place_of_end : (text behind : List ℕ) → Lacks text → position_or_len is_end (text ++ 10 ∷ behind) ≡ length text
place_of_end [] behind lacks = refl
place_of_end (byte ∷ text) behind lacks =
    let other : (byte == 10) ≡ false = All-head NoEnd byte text lacks in
    rw other (one-add (position_or_len is_end (text ++ 10 ∷ behind)) ∙ ap suc (place_of_end text behind (All-tail NoEnd byte text lacks)))

end_found : (text behind : List ℕ) → Lacks text → position is_end (text ++ 10 ∷ behind) ≡ Some (length text)
end_found text behind lacks =
    let inside : nat_lt (length text) (length (text ++ 10 ∷ behind)) ≡ true = grind (arith, nat_tests, length-append text (10 ∷ behind)) in
    rw (place_of_end text behind lacks) (rw inside refl)

pub end_at : (bytes text behind : List ℕ) (at : ℕ) → Lacks text → bytes ≡ text ++ 10 ∷ behind → position is_end bytes ≡ Some at → (take at bytes ≡ text) × (at + 1 ≡ length text + 1)
end_at bytes text behind at lacks whole found =
    let same : at ≡ length text = ap (λ (o : Option ℕ). unwrap_or o 0) (sym found ∙ ap (position is_end) whole ∙ end_found text behind lacks) in
    (ap₂ (λ (n : ℕ) (bs : List ℕ). take n bs) same whole ∙ take-append_seam text (10 ∷ behind), ap (λ (n : ℕ). n + 1) same)

pub no_end : (bytes text behind : List ℕ) → Lacks text → bytes ≡ text ++ 10 ∷ behind → position is_end bytes ≡ None → ⊥
no_end bytes text behind lacks whole none =
    true≢false (sym (ap (λ (o : Option ℕ). is_some o) (sym none ∙ ap (position is_end) whole ∙ end_found text behind lacks)))

-- ---- lengths that lines tell

digits_before : (text rest : List ℕ) → AllDigits 10 text → take_while is_ascii_digit (text ++ 13 ∷ rest) ≡ text
digits_before [] rest is = take_while-cons is_ascii_digit 13 rest
digits_before (b ∷ text) rest is =
    let range = digit_from_value b is.0 in
    let digit : is_ascii_digit b ≡ true = grind (arith, nat_tests) in
    take_while-cons is_ascii_digit b (text ++ 13 ∷ rest) ∙ (rw digit (ap (λ (ds : List ℕ). b ∷ ds) (digits_before text rest is.1)))

pub number_told : (text digits : List ℕ) (n number : ℕ) → n < 2 ^ 63 → text ≡ decimal n ++ 13 ∷ [] → digits ≡ digits_at text → number ≡ min (digits_value 10 digits) (2 ^ 64 - 1) → number ≡ n
number_told text digits n number few whole are is =
    let known = decimal_is_IsNumeral n (omega (arith, few)) in
    let same : digits ≡ decimal n = are ∙ ap digits_at whole ∙ digits_before (decimal n) [] known.0.1 in
    let value : digits_value 10 digits ≡ n = ap (digits_value 10) same ∙ known.1 in
    omega (arith, is, value, few)

pub told_by : (line : List ℕ) (of : HeadLine) (text : List ℕ) → IsHeadLine of → line ≡ of.text ++ 13 ∷ [] → behind_name line ≡ Some text → (n : ℕ) × (of.says ≡ Some n) × (n < 2 ^ 63) × (text ≡ decimal n ++ 13 ∷ [])
unfolding behind_name
told_by line of text is whole behind = by of.says is.tells
  where
    by : (says : Option ℕ) → Says of.text says → (n : ℕ) × (says ≡ Some n) × (n < 2 ^ 63) × (text ≡ decimal n ++ 13 ∷ [])
    by None tells = absurd (true≢false (ap (λ (o : Option (List ℕ)). is_some o) (sym behind ∙ ap behind_name whole ∙ tells)))
    by (Some n) tells =
        let line_is : line ≡ codes "Content-Length: " ++ (decimal n ++ 13 ∷ []) = whole ∙ ap (λ (t : List ℕ). t ++ 13 ∷ []) tells.0 in
        (n, refl, tells.1, ap (λ (o : Option (List ℕ)). unwrap_or o []) (sym behind ∙ ap behind_name line_is))

pub not_told : (line : List ℕ) (of : HeadLine) → IsHeadLine of → line ≡ of.text ++ 13 ∷ [] → behind_name line ≡ None → of.says ≡ None
unfolding behind_name
not_told line of is whole none = by of.says is.tells
  where
    by : (says : Option ℕ) → Says of.text says → says ≡ None
    by None tells = refl
    by (Some n) tells =
        let line_is : line ≡ codes "Content-Length: " ++ (decimal n ++ 13 ∷ []) = whole ∙ ap (λ (t : List ℕ). t ++ 13 ∷ []) tells.0 in
        absurd (true≢false (ap (λ (o : Option (List ℕ)). is_some o) (sym (sym none ∙ ap behind_name line_is))))

pub status_value : (bytes : List ℕ) (n : ℕ) (behind : List ℕ) (one two three : ℕ) → IsStatusCode n → bytes ≡ codes "HTTP/1.1 " ++ (decimal n ++ behind)
    → one ≡ get_or bytes 9 0 - 48 → two ≡ get_or bytes 10 0 - 48 → three ≡ get_or bytes 11 0 - 48 → one * 100 + two * 10 + three ≡ n
status_value bytes n behind one two three is whole a b c =
    let same = status_bytes bytes n behind is whole in
    let first : get_or bytes 9 0 ≡ 48 + n / 10 / 10 = ap (λ (bs : List ℕ). get_or bs 9 0) same in
    let second : get_or bytes 10 0 ≡ 48 + n / 10 % 10 = ap (λ (bs : List ℕ). get_or bs 10 0) same in
    let third : get_or bytes 11 0 ≡ 48 + n % 10 = ap (λ (bs : List ℕ). get_or bs 11 0) same in
    omega (arith, a, b, c, first, second, third)

-- what a slice from a place on is
pub rest_is_drop : (n : ℕ) (bytes : List ℕ) → take (length bytes - n) (drop n bytes) ≡ drop n bytes
rest_is_drop n bytes = rw (← length-drop n bytes) (take_all (length (drop n bytes)) (drop n bytes) (omega arith))

-- ---- a head

-- what a line is that was cut at its end
abbrev pub IsCutOff : List ℕ → List ℕ → ℕ → Type 0
IsCutOff bytes line len = (text behind : List ℕ) → Lacks text → bytes ≡ text ++ 10 ∷ behind → (line ≡ text) × (len ≡ length text + 1)

lacks_return : (text : List ℕ) → Lacks text → Lacks (text ++ 13 ∷ [])
lacks_return text lacks = All-append NoEnd text (13 ∷ []) lacks (All-cons NoEnd 13 [] refl (All-nil NoEnd))

pub cut_of_rest : (n : ℕ) (bytes line : List ℕ) (len : ℕ) → IsCutOff (take (length bytes - n) (drop n bytes)) line len → IsCutOff (drop n bytes) line len
cut_of_rest n bytes line len cut = subst (λ (bs : List ℕ). IsCutOff bs line len) (rest_is_drop n bytes) cut

-- the bytes behind a place, of which the first line is of these lines
first_of : (of : HeadLine) (later : List HeadLine) (more : List ℕ) → lines_text (of ∷ later) ++ more ≡ (of.text ++ 13 ∷ []) ++ 10 ∷ (lines_text later ++ more)
first_of of later more = simp append_assoc

empty_line : (of : HeadLine) → IsHeadLine of → of.text ++ 13 ∷ [] ≡ 13 ∷ [] → ⊥
empty_line of is same = absurd (omega (arith, is.some, ap length same, length-append of.text (13 ∷ [])))

module _ (bytes : List ℕ) (lines : List HeadLine) (behind : List ℕ) (head : Head) (line : List ℕ) (len : ℕ) (so : LinesLeft bytes lines behind head) (cut : IsCutOff (drop head.len bytes) line len) where
  pub head_ends : line ≡ 13 ∷ [] → (head.len + len ≡ length (lines_text lines) + 2) × (head.content ≡ told 0 lines)
  head_ends is_empty = by so.left so.each so.rest so.same_len so.same_told
    where
      by : (left : List HeadLine) → All IsHeadLine left → drop head.len bytes ≡ lines_text left ++ 13 ∷ 10 ∷ behind → head.len + length (lines_text left) ≡ length (lines_text lines) → told head.content left ≡ told 0 lines
          → (head.len + len ≡ length (lines_text lines) + 2) × (head.content ≡ told 0 lines)
      by [] each rest same_len same_told =
          let end = cut (13 ∷ []) behind (lacks_return [] (All-nil NoEnd)) rest in
          (omega (arith, same_len, end.1), same_told)
      by (of ∷ later) each rest same_len same_told =
          let is = All-head IsHeadLine of later each in
          let here = cut (of.text ++ 13 ∷ []) (lines_text later ++ 13 ∷ 10 ∷ behind) (lacks_return of.text is.lacks) (rest ∙ first_of of later (13 ∷ 10 ∷ behind)) in
          absurd (empty_line of is (sym here.0 ∙ is_empty))

  pub head_goes : (content : ℕ) → (line ≡ 13 ∷ [] → ⊥) → ((of : HeadLine) → IsHeadLine of → line ≡ of.text ++ 13 ∷ [] → content ≡ unwrap_or of.says head.content)
      → LinesLeft bytes lines behind (record { len = head.len + len; content = content })
  head_goes content not_empty tells = by so.left so.each so.rest so.same_len so.same_told
    where
      by : (left : List HeadLine) → All IsHeadLine left → drop head.len bytes ≡ lines_text left ++ 13 ∷ 10 ∷ behind → head.len + length (lines_text left) ≡ length (lines_text lines) → told head.content left ≡ told 0 lines
          → LinesLeft bytes lines behind (record { len = head.len + len; content = content })
      by [] each rest same_len same_told = absurd (not_empty (cut (13 ∷ []) behind (lacks_return [] (All-nil NoEnd)) rest).0)
      by (of ∷ later) each rest same_len same_told =
          let is = All-head IsHeadLine of later each in
          let more = lines_text later ++ 13 ∷ 10 ∷ behind in
          let whole : drop head.len bytes ≡ (of.text ++ 13 ∷ []) ++ 10 ∷ more = rest ∙ first_of of later (13 ∷ 10 ∷ behind) in
          let here = cut (of.text ++ 13 ∷ []) more (lacks_return of.text is.lacks) whole in
          record {
            left = later;
            each = All-tail IsHeadLine of later each;
            rest = sym (drop-drop len head.len bytes) ∙ ap₂ (λ (n : ℕ) (bs : List ℕ). drop n bs) here.1 whole ∙ drop-append-add (of.text ++ 13 ∷ []) (10 ∷ more) 1;
            same_len = omega (arith, same_len, here.1, length-append (of.text ++ 13 ∷ 10 ∷ []) (lines_text later), length-append of.text (13 ∷ 10 ∷ []), length-append of.text (13 ∷ []));
            same_told = ap (λ (n : ℕ). told n later) (tells of is here.0) ∙ same_told;
          }

pub head_begins : (bytes : List ℕ) (lines : List HeadLine) (behind : List ℕ) → All IsHeadLine lines → bytes ≡ lines_text lines ++ 13 ∷ 10 ∷ behind → LinesLeft bytes lines behind (record { len = 0; content = 0 })
head_begins bytes lines behind each whole = record { left = lines; each = each; rest = whole; same_len = omega arith; same_told = refl }

-- ---- a response

written_field : (field : Field) → line_text (field_line field) ≡ written_line field
written_field field = simp append_assoc

written_fields : (fields : List Field) → lines_text (map field_line fields) ≡ flat_map written_line fields
written_fields [] = refl
written_fields (field ∷ fields) = ap₂ (λ (one rest : List ℕ). one ++ rest) (written_field field) (written_fields fields)

written_length : (response : Response) → lines_text (length_lines response) ≡ length_line response
written_length response = by (is_bare response.status)
  where
    line : HeadLine
    line = record { text = codes "Content-Length: " ++ decimal (length response.body); says = Some (length response.body) }

    by : (bare : Bool) → lines_text (if bare then [] else (line ∷ [])) ≡ (if bare then [] else (codes "Content-Length: " ++ decimal (length response.body) ++ 13 ∷ 10 ∷ []))
    by true = refl
    by false = simp (append_assoc, append-nil)

written_close : (close : Bool) → lines_text (close_lines close) ≡ close_line close
written_close true = refl
written_close false = refl

-- its bytes are the lines of its head, an empty line and its content
written_lines : (answer : Answer) → text_of answer ≡ lines_text (head_lines answer) ++ 13 ∷ 10 ∷ content answer.response false
unfolding written
written_lines answer =
    let fields = written_fields answer.response.fields in
    let lengths = written_length answer.response in
    let close = written_close answer.close in
    let first : line_text (first_line answer.response.status) ≡ codes "HTTP/1.1 " ++ decimal answer.response.status ++ codes " " ++ phrase answer.response.status ++ 13 ∷ 10 ∷ [] = simp append_assoc in
    let more : lines_text (map field_line answer.response.fields ++ length_lines answer.response ++ close_lines answer.close) ≡ flat_map written_line answer.response.fields ++ length_line answer.response ++ close_line answer.close =
    flat_map-append line_text (map field_line answer.response.fields ++ length_lines answer.response) (close_lines answer.close)
    ∙ ap₂ (λ (a b : List ℕ). a ++ b) (flat_map-append line_text (map field_line answer.response.fields) (length_lines answer.response) ∙ ap₂ (λ (a b : List ℕ). a ++ b) fields lengths) close in
    sym (ap (λ (t : List ℕ). t ++ 13 ∷ 10 ∷ content answer.response false) (ap₂ (λ (a b : List ℕ). a ++ b) first more)
    ∙ regroup (codes "HTTP/1.1 " ++ decimal answer.response.status ++ codes " " ++ phrase answer.response.status ++ 13 ∷ 10 ∷ []) (flat_map written_line answer.response.fields) (length_line answer.response) (close_line answer.close) (content answer.response false))
  where
    regroup : (a b c d e : List ℕ) → (a ++ (b ++ c ++ d)) ++ 13 ∷ 10 ∷ e ≡ a ++ b ++ c ++ d ++ (13 ∷ 10 ∷ []) ++ e
    regroup a b c d e = simp append_assoc

digit_lacks : (text : List ℕ) → AllDigits 10 text → Lacks text
digit_lacks [] is = All-nil NoEnd
digit_lacks (b ∷ text) is =
    let range = digit_from_value b is.0 in
    All-cons NoEnd b text (grind (arith, nat_tests)) (digit_lacks text is.1)

decimal_lacks : (n : ℕ) → n < 2 ^ 64 → Lacks (decimal n)
decimal_lacks n few = digit_lacks (decimal n) (decimal_is_IsNumeral n few).0.1

abbrev no_ends : List ℕ → Bool
no_ends [] = true
no_ends (byte ∷ bytes) = if byte == 10 then false else no_ends bytes

literal_lacks : (text : List ℕ) → no_ends text ≡ true → Lacks text
literal_lacks [] is = All-nil NoEnd
literal_lacks (byte ∷ text) is = by (byte == 10) refl is (literal_lacks text)
  where
    by : (b : Bool) → (byte == 10) ≡ b → (if b then false else no_ends text) ≡ true → (no_ends text ≡ true → Lacks text) → Lacks (byte ∷ text)
    by true ends is next = absurd (true≢false (sym is))
    by false ends is next = All-cons NoEnd byte text ends (next is)

first_is : (status : ℕ) → IsStatusCode status → Lacks (phrase status) → IsHeadLine (first_line status)
unfolding behind_name
first_is status is lacks = record {
  lacks = All-append NoEnd (codes "HTTP/1.1 " ++ decimal status ++ codes " ") (phrase status)
      (All-append NoEnd (codes "HTTP/1.1 " ++ decimal status) (codes " ")
      (All-append NoEnd (codes "HTTP/1.1 ") (decimal status) (literal_lacks (codes "HTTP/1.1 ") refl) (decimal_lacks status (omega (arith, is.1)))) (literal_lacks (codes " ") refl)) lacks;
  some = omega (arith, length-append (codes "HTTP/1.1 " ++ decimal status ++ codes " ") (phrase status), length-append (codes "HTTP/1.1 " ++ decimal status) (codes " "));
  tells = refl;
}

lengths_are : (response : Response) → length response.body < 2 ^ 63 → All IsHeadLine (length_lines response)
lengths_are response few = by (is_bare response.status)
  where
    line : HeadLine
    line = record { text = codes "Content-Length: " ++ decimal (length response.body); says = Some (length response.body) }

    is_line : IsHeadLine line
    is_line = record {
      lacks = All-append NoEnd (codes "Content-Length: ") (decimal (length response.body)) (literal_lacks (codes "Content-Length: ") refl) (decimal_lacks (length response.body) (omega (arith, few)));
      some = omega arith;
      tells = (refl, few);
    }

    by : (bare : Bool) → All IsHeadLine (if bare then [] else (line ∷ []))
    by true = All-nil IsHeadLine
    by false = All-cons IsHeadLine line [] is_line (All-nil IsHeadLine)

closes_are : (close : Bool) → All IsHeadLine (close_lines close)
unfolding behind_name
closes_are true = All-cons IsHeadLine (plain_line (codes "Connection: close")) [] (record { lacks = literal_lacks (codes "Connection: close") refl; some = omega arith; tells = refl }) (All-nil IsHeadLine)
closes_are false = All-nil IsHeadLine

fields_are : (fields : List Field) → All (λ field. IsHeadLine (field_line field)) fields → All IsHeadLine (map field_line fields)
fields_are [] each = All-nil IsHeadLine
fields_are (field ∷ fields) each =
    All-cons IsHeadLine (field_line field) (map field_line fields) (All-head (λ f. IsHeadLine (field_line f)) field fields each) (fields_are fields (All-tail (λ f. IsHeadLine (field_line f)) field fields each))

head_is : (answer : Answer) → MayBeCounted answer → All IsHeadLine (head_lines answer)
head_is answer may =
    All-cons IsHeadLine (first_line answer.response.status) _ (first_is answer.response.status may.status may.phrase_lacks)
    (All-append IsHeadLine (map field_line answer.response.fields ++ length_lines answer.response) (close_lines answer.close)
    (All-append IsHeadLine (map field_line answer.response.fields) (length_lines answer.response) (fields_are answer.response.fields may.fields) (lengths_are answer.response may.body))
    (closes_are answer.close))

told_fields : (fields : List Field) (more : List HeadLine) (before : ℕ) → told before (map field_line fields ++ more) ≡ told before more
told_fields [] more before = refl
told_fields (field ∷ fields) more before = told_fields fields more before

told_close : (close : Bool) (before : ℕ) → told before (close_lines close) ≡ before
told_close true before = refl
told_close false before = refl

told_length : (answer : Answer) → told 0 (length_lines answer.response ++ close_lines answer.close) ≡ length (content answer.response false)
told_length answer = by (is_bare answer.response.status)
  where
    line : HeadLine
    line = record { text = codes "Content-Length: " ++ decimal (length answer.response.body); says = Some (length answer.response.body) }

    by : (bare : Bool) → told 0 ((if bare then [] else (line ∷ [])) ++ close_lines answer.close) ≡ length (if bare || false then [] else answer.response.body)
    by true = told_close answer.close 0
    by false = told_close answer.close (length answer.response.body)

told_is : (answer : Answer) → told 0 (head_lines answer) ≡ length (content answer.response false)
told_is answer =
    ap (told 0) (append_assoc (map field_line answer.response.fields) (length_lines answer.response) (close_lines answer.close))
    ∙ told_fields answer.response.fields (length_lines answer.response ++ close_lines answer.close) 0 ∙ told_length answer

-- what a head of these lines says is the head of this response, and how many bytes all of it has
abbrev pub ReadsHead : List ℕ → ℕ → ℕ → Type 0
ReadsHead bytes len told_content = (lines : List HeadLine) (behind : List ℕ) → All IsHeadLine lines → bytes ≡ lines_text lines ++ 13 ∷ 10 ∷ behind → (len ≡ length (lines_text lines) + 2) × (told_content ≡ told 0 lines)

pub first_len : (bytes : List ℕ) (answer : Answer) (behind : List ℕ) (len told_content whole : ℕ) → MayBeCounted answer → bytes ≡ text_of answer ++ behind → ReadsHead bytes len told_content
    → whole ≡ min (min (len + told_content) (2 ^ 64 - 1)) (length bytes) → length bytes < 2 ^ 63 → whole ≡ length (text_of answer)
first_len bytes answer behind len told_content whole may is reads is_whole short =
    let lines = written_lines answer in
    let all : bytes ≡ lines_text (head_lines answer) ++ 13 ∷ 10 ∷ (content answer.response false ++ behind) =
    is ∙ ap (λ (t : List ℕ). t ++ behind) lines ∙ append_assoc (lines_text (head_lines answer)) (13 ∷ 10 ∷ content answer.response false) behind in
    let r = reads (head_lines answer) (content answer.response false ++ behind) (head_is answer may) all in
    let len_text : length (text_of answer) ≡ length (lines_text (head_lines answer)) + length (13 ∷ 10 ∷ content answer.response false) = ap length lines ∙ length-append (lines_text (head_lines answer)) (13 ∷ 10 ∷ content answer.response false) in
    omega (arith, r.0, r.1, told_is answer, len_text, is_whole, short, ap length is, length-append (text_of answer) behind)

-- the bytes begin as its status line does
pub first_bytes : (bytes : List ℕ) (answer : Answer) (behind : List ℕ) → bytes ≡ text_of answer ++ behind → (rest : List ℕ) × (bytes ≡ codes "HTTP/1.1 " ++ (decimal answer.response.status ++ rest))
unfolding written
first_bytes bytes answer behind is = (
  codes " " ++ phrase answer.response.status ++ (13 ∷ 10 ∷ []) ++ flat_map written_line answer.response.fields ++ length_line answer.response ++ close_line answer.close ++ (13 ∷ 10 ∷ []) ++ content answer.response false ++ behind,
  is ∙ regroup (codes "HTTP/1.1 ") (decimal answer.response.status) (codes " ") (phrase answer.response.status) (13 ∷ 10 ∷ []) (flat_map written_line answer.response.fields) (length_line answer.response) (close_line answer.close)
      (content answer.response false) behind,
)
  where
    regroup : (h a s b l c d e f g : List ℕ) → ((h ++ a ++ s ++ b ++ l) ++ c ++ d ++ e ++ l ++ f) ++ g ≡ h ++ (a ++ (s ++ b ++ l ++ c ++ d ++ e ++ l ++ f ++ g))
    regroup h a s b l c d e f g = simp append_assoc

-- ---- all of them

texts_some : (answer : Answer) → 0 < length (text_of answer)
texts_some answer = omega (arith, ap length (written_lines answer), length-append (lines_text (head_lines answer)) (13 ∷ 10 ∷ content answer.response false))

pub none_left : (bytes : List ℕ) (answers : List Answer) (at : ℕ) (tally : Tally) → length bytes ≤ at → AnswersLeft bytes answers at tally → tally ≡ counted_all (record { ok = 0; no_content = 0; conflict = 0; other = 0 }) (map status_of answers)
none_left bytes answers at tally over so = by so.left so.rest so.same
  where
    by : (left : List Answer) → drop at bytes ≡ texts_of left → counted_all tally (map status_of left) ≡ counted_all (record { ok = 0; no_content = 0; conflict = 0; other = 0 }) (map status_of answers)
        → tally ≡ counted_all (record { ok = 0; no_content = 0; conflict = 0; other = 0 }) (map status_of answers)
    by [] rest same = same
    by (answer ∷ left) rest same = absurd (omega (arith, ap length rest, length-drop at bytes, over, length-append (text_of answer) (texts_of left), texts_some answer))

abbrev pub ReadsFirst : List ℕ → ℕ → ℕ → Type 0
ReadsFirst bytes status len = (answer : Answer) (behind : List ℕ) → MayBeCounted answer → bytes ≡ text_of answer ++ behind → (status ≡ answer.response.status) × (len ≡ length (text_of answer))

pub one_less : (bytes : List ℕ) (answers : List Answer) (at : ℕ) (tally tally' : Tally) (status len : ℕ) → at < length bytes → AnswersLeft bytes answers at tally → ReadsFirst (take (length bytes - at) (drop at bytes)) status len
    → tally' ≡ counted status tally → AnswersLeft bytes answers (at + len) tally'
one_less bytes answers at tally tally' status len inside so reads is = by so.left so.each so.rest so.same
  where
    by : (left : List Answer) → All MayBeCounted left → drop at bytes ≡ texts_of left → counted_all tally (map status_of left) ≡ counted_all (record { ok = 0; no_content = 0; conflict = 0; other = 0 }) (map status_of answers)
        → AnswersLeft bytes answers (at + len) tally'
    by [] each rest same = absurd (omega (arith, ap length rest, length-drop at bytes, inside))
    by (answer ∷ left) each rest same =
        let r = reads answer (texts_of left) (All-head MayBeCounted answer left each) (rest_is_drop at bytes ∙ rest) in
        let add : tally' ≡ counted answer.response.status tally = is ∙ ap (λ (s : ℕ). counted s tally) r.0 in
        record {
          left = left;
          each = All-tail MayBeCounted answer left each;
          rest = sym (drop-drop len at bytes) ∙ ap₂ (λ (n : ℕ) (bs : List ℕ). drop n bs) r.1 rest ∙ drop-append_seam (text_of answer) (texts_of left);
          same = ap (λ (t : Tally). counted_all t (map status_of left)) add ∙ same;
        }

-- no count rises by more than one
pub by_one : (status : ℕ) (tally tally' : Tally) (at : ℕ) → tally' ≡ counted status tally → tally.ok ≤ at → tally.no_content ≤ at → tally.conflict ≤ at → tally.other ≤ at
    → (tally'.ok ≤ at + 1) × (tally'.no_content ≤ at + 1) × (tally'.conflict ≤ at + 1) × (tally'.other ≤ at + 1)
by_one status tally tally' at is a b c d = by (status == 200) (status == 204) (status == 409) tally' is
  where
    by : (one two three : Bool) (t : Tally) → t ≡ (if one then record tally { ok = tally.ok + 1 } else if two then record tally { no_content = tally.no_content + 1 } else if three then record tally { conflict = tally.conflict + 1 } else record tally { other = tally.other + 1 })
        → (t.ok ≤ at + 1) × (t.no_content ≤ at + 1) × (t.conflict ≤ at + 1) × (t.other ≤ at + 1)
    by one two three t same =
        subst (λ (u : Tally). (u.ok ≤ at + 1) × (u.no_content ≤ at + 1) × (u.conflict ≤ at + 1) × (u.other ≤ at + 1)) (sym same) (of one two three)
      where
        of : (one two three : Bool) → (λ (u : Tally). (u.ok ≤ at + 1) × (u.no_content ≤ at + 1) × (u.conflict ≤ at + 1) × (u.other ≤ at + 1)) (if one then record tally { ok = tally.ok + 1 } else if two then record tally { no_content = tally.no_content + 1 } else if three then record tally { conflict = tally.conflict + 1 } else record tally { other = tally.other + 1 })
        of true two three = (omega arith, omega arith, omega arith, omega arith)
        of false true three = (omega arith, omega arith, omega arith, omega arith)
        of false false true = (omega arith, omega arith, omega arith, omega arith)
        of false false false = (omega arith, omega arith, omega arith, omega arith)
