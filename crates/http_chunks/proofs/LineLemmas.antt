-- Chunk lines within their limit, from what the parser says of them.
use Rattle.std.proofs.Common.{◌≡◌, ℕ, ◌+◌, ◌<◌, ◌≤◌, List, [], ◌∷◌, ◌++◌, length, take, drop, Option, Some, None, inl, inr, lit<, lit≤, refl, sym, ap, ◌∙◌, subst, arith, append_assoc, append-nil, length-append, take-append-drop, length-take, true}
use Rattle.std.proofs.lemmas.Bool.{cases_lt}
use Rattle.std.proofs.lemmas.List.{take_all, same_from_push, nil_from_length}
use Rattle.std.proofs.lemmas.List.Elements.{All-nil, All-cons}
use Rattle.std.specs.Char.{is_ascii_hexdigit}
use Rattle.httparse.specs.Grammar.{ChunkLine, print_chunk_line, print_extension, IsChunkLine, AllPass, is_ows, is_extension_byte, IsExtension, HasNoChunkLine, NeverHasChunkLine, MayBecomeChunkLine}
use Rattle.httparse.specs.Spans.{IsChunkLineAt}
use Rattle.http_chunks.specs.Chunked.{LINE_LIMIT, IsLine}
use Rattle.http_chunks.specs.ChunkReading.{HasNoLine, NeverHasLine, MayBecomeLine, IsLineOf, IsLineRead}
use Rattle.http_chunks.specs.declared.chunk_line.LineRead.{LineRead}
use Rattle.http_chunks.specs.declared.chunk_line.LineRead.TheVariants.{Whole, Partial, Invalid}
use Rattle.http_chunks.proofs.SplitLemmas.{split_append}
use Rattle.http_chunks.proofs.SplitLemmas.{All-front}

-- a line without its end
abbrev pub body : ChunkLine → List ℕ
body l = l.digits ++ (l.pad ++ print_extension l.extension)

pub print_body : (l : ChunkLine) → print_chunk_line l ≡ body l ++ 13 ∷ 10 ∷ []
unfolding print_chunk_line
print_body l = simp append_assoc

cut_extension : (e : Option (List ℕ)) (p m : List ℕ) → IsExtension e → print_extension e ≡ p ++ m
    → (f : Option (List ℕ)) × IsExtension f × (print_extension f ≡ p)
cut_extension e [] m is same = (None, tt, refl)
cut_extension None (x ∷ p) m is same = absurd (cc)
cut_extension (Some text) (x ∷ p) m is same =
    let first : 59 ≡ x = cc in
    let rest : text ≡ p ++ m = cc in
    (Some p, All-front (λ b. is_extension_byte b ≡ true) p m (subst (AllPass is_extension_byte) rest is), ap (λ (y : ℕ). y ∷ p) first)

cut_pad : (pad : List ℕ) (e : Option (List ℕ)) (p m : List ℕ) → AllPass is_ows pad → IsExtension e → pad ++ print_extension e ≡ p ++ m
    → (q : List ℕ) × (f : Option (List ℕ)) × AllPass is_ows q × IsExtension f × (q ++ print_extension f ≡ p)
cut_pad pad e p m is_pad is same = elim (split_append p m pad (print_extension e) (sym same)) [
  | inl (n, whole, rest) ↦
      let (f, is_f, print_f) = cut_extension e n m is rest in
      (pad, f, is_pad, is_f, ap (λ (t : List ℕ). pad ++ t) print_f ∙ sym whole)
  | inr (n, whole, rest) ↦
      (p, None, All-front (λ b. is_ows b ≡ true) p n (subst (AllPass is_ows) whole is_pad), tt, append-nil p)
]

-- a front of a line that is not empty is a line without its end
pub cut_body : (l : ChunkLine) (p m : List ℕ) → IsChunkLine l → 0 < length p → body l ≡ p ++ m
    → (k : ChunkLine) × IsChunkLine k × (body k ≡ p)
cut_body l p m is some same = elim (split_append p m l.digits (l.pad ++ print_extension l.extension) (sym same)) [
  | inl (n, whole, rest) ↦
      let (q, f, is_q, is_f, print_qf) = cut_pad l.pad l.extension n m is.pad is.extension rest in (
        record { digits = l.digits; pad = q; extension = f },
        record { digits = is.digits; pad = is_q; extension = is_f },
        ap (λ (t : List ℕ). l.digits ++ t) print_qf ∙ sym whole,
      )
  | inr (n, whole, rest) ↦ (
    record { digits = p; pad = []; extension = None },
    record {
      digits = (
        some,
        omega (arith, is.digits.1, ap length whole, length-append p n),
        All-front (λ b. is_ascii_hexdigit b ≡ true) p n (subst (AllPass is_ascii_hexdigit) whole is.digits.2),
      );
      pad = All-nil (λ b. is_ows b ≡ true);
      extension = tt;
    },
    append-nil p,
  )
]

-- the shortest line: no chunk follows
abbrev pub zero_line : ChunkLine
zero_line = record { digits = 48 ∷ []; pad = []; extension = None }

pub zero_line_is : IsLine zero_line
unfolding print_chunk_line
zero_line_is = record {
  valid = record {
    digits = (lit< tt, lit≤ tt, All-cons (λ b. is_ascii_hexdigit b ≡ true) 48 [] refl (All-nil (λ b. is_ascii_hexdigit b ≡ true)));
    pad = All-nil (λ b. is_ows b ≡ true);
    extension = tt;
  };
  short = lit≤ tt;
}

-- what may become a line may become one with two bytes more
pub may_line : (p : List ℕ) → length p + 2 ≤ LINE_LIMIT → MayBecomeChunkLine p → MayBecomeLine p
may_line [] short may = (print_chunk_line zero_line, zero_line, zero_line_is, refl)
may_line (x ∷ p) short (more, l, reads) =
    let is = reads.0 in
    let same = reads.1 in
    let P = x ∷ p in
    let whole : P ++ more ≡ body l ++ 13 ∷ 10 ∷ [] = same ∙ append-nil (print_chunk_line l) ∙ print_body l in
    elim (split_append P more (body l) (13 ∷ 10 ∷ []) whole) [
      | inl (m, front, rest) ↦
          let few : length more ≤ 2 = omega (arith, ap length rest, length-append m more) in
          (more, l, record { valid = is; short = omega (arith, ap length (sym (append-nil (print_chunk_line l)) ∙ sym same), length-append P more) }, same ∙ append-nil (print_chunk_line l))
      | inr (m, front, rest) ↦
          let (k, valid, print_k) = cut_body l P m is (omega arith) front in
          let line : P ++ 13 ∷ 10 ∷ [] ≡ print_chunk_line k = ap (λ (t : List ℕ). t ++ 13 ∷ 10 ∷ []) (sym print_k) ∙ sym (print_body k) in
          (13 ∷ 10 ∷ [], k, record { valid = valid; short = omega (arith, ap length line, length-append P (13 ∷ 10 ∷ [])) }, line)
    ]

last_two : (a p : List ℕ) (x y z : ℕ) → p ++ x ∷ [] ≡ a ++ y ∷ z ∷ [] → (p ≡ a ++ y ∷ []) × (x ≡ z)
last_two a p x y z e = same_from_push p (a ++ y ∷ []) x z (e ∙ sym (append_assoc a (y ∷ []) (z ∷ [])))

-- one byte under the limit, only a line feed can end a line
never_at_limit : (p more : List ℕ) (l : ChunkLine) (after m : List ℕ) → HasNoChunkLine p → HasNoChunkLine (p ++ 10 ∷ [])
    → IsChunkLine l → length m ≤ 1 → print_chunk_line l ≡ p ++ m → ⊥
never_at_limit p more l after [] none_yet none is few same = none_yet l [] (is, sym (append-nil p) ∙ sym same ∙ sym (append-nil (print_chunk_line l)))
never_at_limit p more l after (x ∷ []) none_yet none is few same =
    let ends = last_two (body l) p x 13 10 (sym same ∙ print_body l) in
    let P : ℕ → Type 0 = λ y. p ++ y ∷ [] ≡ print_chunk_line l ++ [] in
    none l [] (is, subst P ends.1 (sym same ∙ sym (append-nil (print_chunk_line l))))
never_at_limit p more l after (x ∷ y ∷ m) none_yet none is few same = absurd (omega arith)

pub never_line : (p : List ℕ) → LINE_LIMIT ≤ length p + 1 → HasNoChunkLine p → (length p < LINE_LIMIT → HasNoChunkLine (p ++ 10 ∷ [])) → NeverHasLine p
never_line p long none_yet none more l after (line, same) = elim (split_append p more (print_chunk_line l) after same) [
  | inl (m, front, rest) ↦ none_yet l m (line.valid, front)
  | inr (m, front, rest) ↦ elim (cases_lt (length p) LINE_LIMIT) [
    | inl below ↦ never_at_limit p more l after m none_yet (none below) line.valid (omega (arith, line.short, ap length front, length-append p m)) front
    | inr above ↦
        let nothing : length m ≡ 0 = omega (arith, line.short, ap length front, length-append p m) in
        none_yet l [] (line.valid, sym (append-nil p) ∙ ap (λ (t : List ℕ). p ++ t) (sym (nil_from_length m nothing)) ∙ sym front ∙ sym (append-nil (print_chunk_line l)))
  ]
]

-- what the parser says of the first bytes
pub whole_line : (text : List ℕ) (len size : ℕ) (l : ChunkLine) → length text ≤ LINE_LIMIT → IsChunkLineAt text len size l → IsLineOf text len size
whole_line text len size l short is = record {
  line = l;
  after = drop len text;
  reads = (record { valid = is.reads.0; short = omega (arith, ap length is.reads.1, length-append (print_chunk_line l) (drop len text)) }, is.reads.1);
  len_is = is.len_is;
  size_is = is.size_is;
}

pub never_line_from : (text : List ℕ) → NeverHasChunkLine text → NeverHasLine text
never_line_from text never more l after (line, same) = never more l after (line.valid, same)

pub no_line_from : (text : List ℕ) → HasNoChunkLine text → HasNoLine text
no_line_from text none l after (line, same) = none l after (line.valid, same)

-- what was read of the first bytes holds of all of them
pub line_of_all : (rest : List ℕ) (read : LineRead) → IsLineRead (take LINE_LIMIT rest) read → IsLineRead rest read
line_of_all rest (Whole len size) is = record {
  line = is.line;
  after = is.after ++ drop LINE_LIMIT rest;
  reads = (
    is.reads.0,
    sym (take-append-drop LINE_LIMIT rest) ∙ ap (λ (t : List ℕ). t ++ drop LINE_LIMIT rest) is.reads.1
        ∙ append_assoc (print_chunk_line is.line) is.after (drop LINE_LIMIT rest),
  );
  len_is = is.len_is;
  size_is = is.size_is;
}
line_of_all rest Partial is =
    let all : take LINE_LIMIT rest ≡ rest = take_all LINE_LIMIT rest (omega (arith, is.0, length-take LINE_LIMIT rest)) in
    let P : List ℕ → Type 0 = λ t. IsLineRead t Partial in
    subst P all is
line_of_all rest Invalid is = λ more.
    let P : List ℕ → Type 0 = λ t. HasNoLine t in
    let grouped : take LINE_LIMIT rest ++ (drop LINE_LIMIT rest ++ more) ≡ rest ++ more =
    sym (append_assoc (take LINE_LIMIT rest) (drop LINE_LIMIT rest) more) ∙ ap (λ (t : List ℕ). t ++ more) (take-append-drop LINE_LIMIT rest) in
    subst P grouped (is (drop LINE_LIMIT rest ++ more))

-- a line that a line feed brings ends with it
pub ended_line : (p : List ℕ) (l : ChunkLine) (after : List ℕ) → HasNoChunkLine p → IsChunkLine l → p ++ 10 ∷ [] ≡ print_chunk_line l ++ after
    → p ++ 10 ∷ [] ≡ print_chunk_line l
ended_line p l after none is same = elim (split_append p (10 ∷ []) (print_chunk_line l) after same) [
  | inl (m, front, rest) ↦ absurd (none l m (is, front))
  | inr (m, front, rest) ↦ ended m after front rest
]
  where
    ended : (m after : List ℕ) → print_chunk_line l ≡ p ++ m → 10 ∷ [] ≡ m ++ after → p ++ 10 ∷ [] ≡ print_chunk_line l
    ended [] after front rest = absurd (none l [] (is, sym (append-nil p) ∙ sym front ∙ sym (append-nil (print_chunk_line l))))
    ended (x ∷ m) after front rest =
        let nothing : m ++ after ≡ [] = cc in
        let m_nil = nil_from_length m (omega (arith, ap length nothing, length-append m after)) in
        let first : 10 ≡ x = cc in
        ap (λ (t : List ℕ). p ++ 10 ∷ t) (sym m_nil) ∙ ap (λ (y : ℕ). p ++ y ∷ m) first ∙ sym front

-- a text that a line feed makes a line, within the limit
pub line_of_feed : (p : List ℕ) (l : ChunkLine) → length p < LINE_LIMIT → HasNoChunkLine p → IsChunkLine l → p ++ 10 ∷ [] ≡ print_chunk_line l
    → IsLineRead p Partial
line_of_feed p l below none is same =
    (below, no_line_from p none, (10 ∷ [], l, record { valid = is; short = omega (arith, ap length same, length-append p (10 ∷ [])) }, same))
