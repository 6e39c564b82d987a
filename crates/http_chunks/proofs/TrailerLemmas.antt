-- Trailers within their limit, from what the parser says of them.
use Rattle.std.proofs.Common.{◌≡◌, ℕ, ◌+◌, ◌*◌, ◌<◌, ◌≤◌, List, [], ◌∷◌, ◌++◌, length, take, drop, inl, inr, lit≤, refl, sym, ap, ◌∙◌, subst, arith, append_assoc, append-nil, length-append, take-append-drop, length-take, true}
use Rattle.std.specs.Prelude.{All}
use Rattle.std.specs.List.{flat_map}
use Rattle.std.proofs.lemmas.List.{take_all, same_from_push}
use Rattle.std.proofs.lemmas.List.Elements.{All-nil, All-cons, All-head, All-tail}
use Rattle.httparse.specs.Grammar.{AllPass, IsToken, is_token_byte, is_value_byte, Field, IsField, print_field, LineEnd, crlf, lf, print_end, print_section, ReadsSection, HasNoSection, NeverHasSection, MayBecomeSection}
use Rattle.httparse.specs.Spans.{SectionExceeds}
use Rattle.http_chunks.specs.Chunked.{LINE_LIMIT}
use Rattle.http_chunks.specs.ChunkReading.{HasNoTrailers, NeverHasTrailers, MayBecomeTrailers, AreTrailersOf, AreTrailersRead, IsSectionOf, EndsSection}
use Rattle.http_chunks.specs.declared.trailers.TrailersRead.{TrailersRead}
use Rattle.http_chunks.specs.declared.trailers.TrailersRead.TheVariants.{Whole, Partial, Invalid}
use Rattle.http_chunks.proofs.SplitLemmas.{split_append}
use Rattle.http_chunks.proofs.SplitLemmas.{All-front}
use Rattle.http_chunks.proofs.LengthLemmas.{lines_len}

-- a front that three bytes more at most make a section
record Soon (p : List ℕ) : Type 0 where
  more : List ℕ
  fields : List Field
  last : LineEnd
  valid : All IsField fields
  few : length more ≤ 3
  whole : p ++ more ≡ print_section fields last

soon_field : (p more : List ℕ) (f : Field) → IsField f → length more ≤ 3 → p ++ more ≡ print_field f ++ 10 ∷ [] → Soon p
soon_field p more f is few same = record {
  more = more;
  fields = f ∷ [];
  last = lf;
  valid = All-cons IsField f [] is (All-nil IsField);
  few = few;
  whole = same ∙ ap (λ (t : List ℕ). t ++ 10 ∷ []) (sym (append-nil (print_field f)));
}

-- a front of a field's name
soon_name : (name p m : List ℕ) → IsToken name → 0 < length p → name ≡ p ++ m → Soon p
soon_name name p m token some same =
    let f : Field = record { name = p; raw = []; end = lf } in
    let is : IsField f = record {
      name = (some, All-front (λ b. is_token_byte b ≡ true) p m (subst (AllPass is_token_byte) same token.1));
      raw = All-nil (λ b. is_value_byte b ≡ true);
    } in
    soon_field p (58 ∷ 10 ∷ 10 ∷ []) f is (lit≤ tt) (simp append_assoc)

-- a front of a field's value
soon_raw : (name raw p m : List ℕ) → IsToken name → AllPass is_value_byte raw → raw ≡ p ++ m → Soon (name ++ 58 ∷ p)
soon_raw name raw p m token pass same =
    let f : Field = record { name = name; raw = p; end = lf } in
    let is : IsField f = record {
      name = token;
      raw = All-front (λ b. is_value_byte b ≡ true) p m (subst (AllPass is_value_byte) same pass);
    } in
    soon_field (name ++ 58 ∷ p) (10 ∷ 10 ∷ []) f is (lit≤ tt) (simp append_assoc)

end_few : (end : LineEnd) → length (print_end end) ≤ 2
end_few crlf = lit≤ tt
end_few lf = lit≤ tt

-- a front that ends in a line's end
soon_end : (f : Field) (m n : List ℕ) → IsField f → print_end f.end ≡ m ++ n → Soon (f.name ++ 58 ∷ f.raw ++ m)
soon_end f m n is same =
    soon_field (f.name ++ 58 ∷ f.raw ++ m) (n ++ 10 ∷ []) f is
    (omega (arith, end_few f.end, ap length same, length-append m n, length-append n (10 ∷ [])))
    (regroup (f.name ++ 58 ∷ f.raw) m n (10 ∷ []) ∙ ap (λ (t : List ℕ). (f.name ++ 58 ∷ f.raw ++ t) ++ 10 ∷ []) (sym same))
  where
    regroup : (a m n r : List ℕ) → (a ++ m) ++ (n ++ r) ≡ (a ++ (m ++ n)) ++ r
    regroup a m n r = simp append_assoc

soon_value : (f : Field) (p m : List ℕ) → IsField f → f.raw ++ print_end f.end ≡ p ++ m → Soon (f.name ++ 58 ∷ p)
soon_value f p m is same = elim (split_append p m f.raw (print_end f.end) (sym same)) [
  | inl (n, front, rest) ↦
      let P : List ℕ → Type 0 = λ t. Soon t in
      subst P (append_assoc f.name (58 ∷ f.raw) n ∙ ap (λ (t : List ℕ). f.name ++ 58 ∷ t) (sym front)) (soon_end f n m is rest)
  | inr (n, front, rest) ↦ soon_raw f.name f.raw p n is.name is.raw front
]

soon_colon : (f : Field) (p n m : List ℕ) → IsField f → 0 < length p → p ≡ f.name ++ n → 58 ∷ (f.raw ++ print_end f.end) ≡ n ++ m → Soon p
soon_colon f p [] m is some front rest = soon_name f.name p [] is.name some (sym (front ∙ append-nil f.name) ∙ sym (append-nil p))
soon_colon f p (x ∷ n) m is some front rest =
    let first : x ≡ 58 = cc in
    let others : f.raw ++ print_end f.end ≡ n ++ m = cc in
    let P : List ℕ → Type 0 = λ t. Soon t in
    subst P (ap (λ (y : ℕ). f.name ++ y ∷ n) (sym first) ∙ sym front) (soon_value f n m is others)

-- a front of a field line that is not empty
soon_line : (f : Field) (p m : List ℕ) → IsField f → 0 < length p → print_field f ≡ p ++ m → Soon p
soon_line f p m is some same =
    let grouped : p ++ m ≡ f.name ++ (58 ∷ (f.raw ++ print_end f.end)) = sym same ∙ append_assoc f.name (58 ∷ f.raw) (print_end f.end) in
    elim (split_append p m f.name (58 ∷ (f.raw ++ print_end f.end)) grouped) [
      | inl (n, front, rest) ↦ soon_colon f p n m is some front rest
      | inr (n, front, rest) ↦ soon_name f.name p n is.name some front
    ]

soon_empty : Soon []
soon_empty = record { more = 10 ∷ []; fields = []; last = lf; valid = All-nil IsField; few = lit≤ tt; whole = refl }

soon_more : (f : Field) (n : List ℕ) → IsField f → Soon n → Soon (print_field f ++ n)
soon_more f n is s = record {
  more = s.more;
  fields = f ∷ s.fields;
  last = s.last;
  valid = All-cons IsField f s.fields is s.valid;
  few = s.few;
  whole = append_assoc (print_field f) n s.more ∙ ap (λ (t : List ℕ). print_field f ++ t) s.whole
      ∙ sym (append_assoc (print_field f) (flat_map print_field s.fields) (print_end s.last));
}

soon_front : (f : Field) (p m : List ℕ) → IsField f → print_field f ≡ p ++ m → Soon p
soon_front f [] m is same = soon_empty
soon_front f (x ∷ p) m is same = soon_line f (x ∷ p) m is (omega arith) same

soon_section : (fields : List Field) (last : LineEnd) (p more : List ℕ) → All IsField fields → p ++ more ≡ print_section fields last → Soon p
soon_section [] last p more each same = record {
  more = more;
  fields = [];
  last = last;
  valid = each;
  few = omega (arith, end_few last, ap length same, length-append p more);
  whole = same;
}
soon_section (f ∷ fs) last p more each same =
    let is = All-head IsField f fs each in
    let grouped : p ++ more ≡ print_field f ++ print_section fs last =
    same ∙ append_assoc (print_field f) (flat_map print_field fs) (print_end last) in
    elim (split_append p more (print_field f) (print_section fs last) grouped) [
      | inl (n, front, rest) ↦
          let P : List ℕ → Type 0 = λ t. Soon t in
          subst P (sym front) (soon_more f n is (soon_section fs last n more (All-tail IsField f fs each) (sym rest)))
      | inr (n, front, rest) ↦ soon_front f p n is front
    ]

-- what may become a section may become one with three bytes more
pub may_trailers : (p : List ℕ) → length p + 3 ≤ LINE_LIMIT → MayBecomeSection p → MayBecomeTrailers p
may_trailers p short (more, fields, last, reads) =
    let soon = soon_section fields last p more reads.0 (reads.1 ∙ append-nil (print_section fields last)) in (
      soon.more,
      soon.fields,
      soon.last,
      record {
        valid = soon.valid;
        short = omega (arith, ap length soon.whole, length-append p soon.more, soon.few);
        whole = soon.whole ∙ sym (append-nil (print_section soon.fields soon.last));
      },
    )

-- field lines end with a line feed
EndsInFeed : List ℕ → Type 0
EndsInFeed text = (front : List ℕ) × (text ≡ front ++ 10 ∷ [])

end_feeds : (end : LineEnd) → EndsInFeed (print_end end)
unfolding EndsInFeed
end_feeds crlf = (13 ∷ [], refl)
end_feeds lf = ([], refl)

feeds_after : (a b : List ℕ) → EndsInFeed b → EndsInFeed (a ++ b)
unfolding EndsInFeed
feeds_after a b (front, same) = (a ++ front, ap (λ (t : List ℕ). a ++ t) same ∙ sym (append_assoc a front (10 ∷ [])))

lines_feed : (f : Field) (fs : List Field) → EndsInFeed (flat_map print_field (f ∷ fs))
lines_feed f [] =
    let P : List ℕ → Type 0 = λ t. EndsInFeed t in
    subst P (sym (append-nil (print_field f))) (feeds_after (f.name ++ 58 ∷ f.raw) (print_end f.end) (end_feeds f.end))
lines_feed f (g ∷ fs) = feeds_after (print_field f) (flat_map print_field (g ∷ fs)) (lines_feed g fs)

last_byte : (text p : List ℕ) (x : ℕ) → EndsInFeed text → text ≡ p ++ x ∷ [] → x ≡ 10
unfolding EndsInFeed
last_byte text p x (front, same) is = (same_from_push p front x 10 (sym is ∙ same)).1

section_feeds : (fields : List Field) (last : LineEnd) → EndsInFeed (print_section fields last)
section_feeds fields last = feeds_after (flat_map print_field fields) (print_end last) (end_feeds last)

-- the byte before the last of a section, where the last line ends in a line feed alone
before_last : (fields : List Field) (p : List ℕ) (x : ℕ) → flat_map print_field fields ≡ p ++ x ∷ [] → x ≡ 10
before_last [] p x same = absurd (omega (arith, ap length same, length-append p (x ∷ [])))
before_last (f ∷ fs) p x same = last_byte _ p x (lines_feed f fs) same

-- one or two bytes that end a section can be line feeds
never_two : (p : List ℕ) (fields : List Field) (last : LineEnd) (x y : ℕ) → All IsField fields → HasNoSection (p ++ 10 ∷ []) → HasNoSection (p ++ 10 ∷ 10 ∷ [])
    → print_section fields last ≡ p ++ x ∷ y ∷ [] → ⊥
never_two p fields lf x y each one two same =
    let parts = same_from_push (flat_map print_field fields) (p ++ x ∷ []) 10 y (same ∙ sym (append_assoc p (x ∷ []) (y ∷ []))) in
    let feed = before_last fields p x parts.0 in
    let P : ℕ → ℕ → Type 0 = λ a b. print_section fields lf ≡ p ++ a ∷ b ∷ [] in
    let both : print_section fields lf ≡ p ++ 10 ∷ 10 ∷ [] = same ∙ ap (λ (a : ℕ). p ++ a ∷ y ∷ []) feed ∙ ap (λ (b : ℕ). p ++ 10 ∷ b ∷ []) (sym parts.1) in
    two fields lf [] (each, sym both ∙ sym (append-nil (print_section fields lf)))
never_two p fields crlf x y each one two same =
    let regrouped : (flat_map print_field fields ++ 13 ∷ []) ++ 10 ∷ [] ≡ (p ++ x ∷ []) ++ y ∷ [] =
    append_assoc (flat_map print_field fields) (13 ∷ []) (10 ∷ []) ∙ same ∙ sym (append_assoc p (x ∷ []) (y ∷ [])) in
    let parts = same_from_push (flat_map print_field fields ++ 13 ∷ []) (p ++ x ∷ []) 10 y regrouped in
    let lines = (same_from_push (flat_map print_field fields) p 13 x parts.0).0 in
    one fields lf [] (each, ap (λ (t : List ℕ). t ++ 10 ∷ []) (sym lines) ∙ sym (append-nil (print_section fields lf)))

never_one : (p : List ℕ) (fields : List Field) (last : LineEnd) (x : ℕ) → All IsField fields → HasNoSection (p ++ 10 ∷ [])
    → print_section fields last ≡ p ++ x ∷ [] → ⊥
never_one p fields last x each one same =
    let feed = last_byte _ p x (section_feeds fields last) same in
    one fields last [] (each, ap (λ (a : ℕ). p ++ a ∷ []) (sym feed) ∙ sym same ∙ sym (append-nil (print_section fields last)))

never_few : (p m : List ℕ) (fields : List Field) (last : LineEnd) → All IsField fields → HasNoSection p
    → (1 ≤ length m → HasNoSection (p ++ 10 ∷ [])) → (2 ≤ length m → HasNoSection (p ++ 10 ∷ 10 ∷ []))
    → length m ≤ 2 → print_section fields last ≡ p ++ m → ⊥
never_few p [] fields last each none one two few same = none fields last [] (each, sym (append-nil p) ∙ sym same ∙ sym (append-nil (print_section fields last)))
never_few p (x ∷ []) fields last each none one two few same = never_one p fields last x each (one (lit≤ tt)) same
never_few p (x ∷ y ∷ []) fields last each none one two few same = never_two p fields last x y each (one (lit≤ tt)) (two (lit≤ tt)) same
never_few p (x ∷ y ∷ z ∷ m) fields last each none one two few same = absurd (omega arith)

pub never_trailers : (p : List ℕ) → LINE_LIMIT ≤ length p + 2 → HasNoSection p
    → (length p + 1 ≤ LINE_LIMIT → HasNoSection (p ++ 10 ∷ [])) → (length p + 2 ≤ LINE_LIMIT → HasNoSection (p ++ 10 ∷ 10 ∷ [])) → NeverHasTrailers p
never_trailers p long none one two more fields last after reads =
    elim (split_append p more (print_section fields last) after reads.whole) [
      | inl (m, front, rest) ↦ none fields last m (reads.valid, front)
      | inr (m, front, rest) ↦
          let fits : length p + length m ≤ LINE_LIMIT = omega (arith, reads.short, ap length front, length-append p m) in
          never_few p m fields last reads.valid none (λ some. one (omega arith)) (λ some. two (omega arith)) (omega arith) front
    ]

pub never_trailers_from : (text : List ℕ) → NeverHasSection text → NeverHasTrailers text
never_trailers_from text never more fields last after reads = never more fields last after (reads.valid, reads.whole)

pub no_trailers_from : (text : List ℕ) → HasNoSection text → HasNoTrailers text
no_trailers_from text none fields last after reads = none fields last after (reads.valid, reads.whole)

pub whole_trailers : (text : List ℕ) (len : ℕ) → length text ≤ LINE_LIMIT → IsSectionOf text len → AreTrailersOf text len
whole_trailers text len short is = record {
  fields = is.fields;
  last = is.last;
  after = is.after;
  reads = record {
    valid = is.reads.0;
    short = omega (arith, ap length is.reads.1, length-append (print_section is.fields is.last) is.after);
    whole = is.reads.1;
  };
  len_is = is.len_is;
}

-- what was read of the first bytes holds of all of them
pub trailers_of_all : (rest : List ℕ) (read : TrailersRead) → AreTrailersRead (take LINE_LIMIT rest) read → AreTrailersRead rest read
trailers_of_all rest (Whole len) is = record {
  fields = is.fields;
  last = is.last;
  after = is.after ++ drop LINE_LIMIT rest;
  reads = record {
    valid = is.reads.valid;
    short = is.reads.short;
    whole = sym (take-append-drop LINE_LIMIT rest) ∙ ap (λ (t : List ℕ). t ++ drop LINE_LIMIT rest) is.reads.whole
        ∙ append_assoc (print_section is.fields is.last) is.after (drop LINE_LIMIT rest);
  };
  len_is = is.len_is;
}
trailers_of_all rest Partial is =
    let all : take LINE_LIMIT rest ≡ rest = take_all LINE_LIMIT rest (omega (arith, is.0, length-take LINE_LIMIT rest)) in
    let P : List ℕ → Type 0 = λ t. AreTrailersRead t Partial in
    subst P all is
trailers_of_all rest Invalid is = λ more.
    let P : List ℕ → Type 0 = λ t. HasNoTrailers t in
    let grouped : take LINE_LIMIT rest ++ (drop LINE_LIMIT rest ++ more) ≡ rest ++ more =
    sym (append_assoc (take LINE_LIMIT rest) (drop LINE_LIMIT rest) more) ∙ ap (λ (t : List ℕ). t ++ more) (take-append-drop LINE_LIMIT rest) in
    subst P grouped (is (drop LINE_LIMIT rest ++ more))

-- a section that some of the bytes more bring
pub ended_section : (p more : List ℕ) (fields : List Field) (last : LineEnd) (after : List ℕ) → HasNoSection p
    → ReadsSection (p ++ more) fields last after → EndsSection true p more
ended_section p more fields last after none reads = elim (split_append p more (print_section fields last) after reads.1) [
  | inl (m, front, rest) ↦ absurd (none fields last m (reads.0, front))
  | inr (m, front, rest) ↦ (m, after, fields, last, reads.0, rest, sym front)
]

pub trailers_of_end : (p more : List ℕ) → length p + length more ≤ LINE_LIMIT → 0 < length more → HasNoSection p → EndsSection true p more → AreTrailersRead p Partial
trailers_of_end p more fits some none (front, back, fields, last, each, cut, same) = (
  omega arith,
  no_trailers_from p none,
  (
    front,
    fields,
    last,
    record {
      valid = each;
      short = omega (arith, ap length same, ap length cut, length-append p front, length-append front back);
      whole = same ∙ sym (append-nil (print_section fields last));
    },
  ),
)

pub never_exceeds_section : (text : List ℕ) (room : ℕ) → length text < 3 * room → SectionExceeds room text → ⊥
never_exceeds_section text room large (front, rest, whole, fields, reads, many) =
    omega (
      arith,
      ap length whole,
      length-append front rest,
      ap length reads.1,
      length-append front (10 ∷ []),
      length-append (print_section fields lf) [],
      length-append (flat_map print_field fields) (10 ∷ []),
      lines_len fields reads.0,
    )
