-- The bytes of a chunk and their line end.
use Rattle.std.proofs.Common.{◌≡◌, ℕ, ◌-◌, ◌<◌, ◌≤◌, List, [], ◌∷◌, ◌++◌, length, take, drop, Some, None, inl, inr, refl, sym, ap, ◌∙◌, subst, arith, append_assoc, append-nil, length-append, length-take, take-append-drop}
use Rattle.std.specs.Prelude.{replicate}
use Rattle.std.proofs.lemmas.List.{nil_from_length, length-replicate}
use Rattle.http_chunks.specs.Front.{after_front}
use Rattle.http_chunks.specs.ChunkSteps.{ReadsData, HasNoData, IsDataRead}
use Rattle.http_chunks.specs.declared.chunks.DataRead.{DataRead}
use Rattle.http_chunks.specs.declared.chunks.DataRead.TheVariants.{Whole, Partial, Invalid}
use Rattle.http_chunks.proofs.SplitLemmas.{split_append, append_same}
use Rattle.http_chunks.proofs.FrontLemmas.{after_front-again, after_front-takes}
use Rattle.http_chunks.proofs.FrontLemmas.{none_is_some}

-- a line end stands there
pub whole_end : (text rest : List ℕ) → after_front (13 ∷ 10 ∷ []) text ≡ Some rest → IsDataRead text 0 Whole
whole_end text rest e = (rest, record { counts = refl; whole = after_front-takes (13 ∷ 10 ∷ []) text rest e })

no_bytes : (bytes : List ℕ) → length bytes ≡ 0 → bytes ≡ []
no_bytes bytes e = nil_from_length bytes e

no_end : (text : List ℕ) → after_front (13 ∷ 10 ∷ []) text ≡ None → HasNoData text 0
no_end text none bytes after reads =
    let whole : text ≡ (13 ∷ 10 ∷ []) ++ after = reads.whole ∙ ap (λ (t : List ℕ). t ++ (13 ∷ 10 ∷ after)) (no_bytes bytes reads.counts) in
    none_is_some after (sym none ∙ ap (after_front (13 ∷ 10 ∷ [])) whole ∙ after_front-again (13 ∷ 10 ∷ []) after)

pub part_of_end : (text rest : List ℕ) → after_front (13 ∷ 10 ∷ []) text ≡ None → after_front text (13 ∷ 10 ∷ []) ≡ Some rest → IsDataRead text 0 Partial
part_of_end text rest none e =
    (no_end text none, rest, [], record { counts = refl; whole = sym (after_front-takes text (13 ∷ 10 ∷ []) rest e) })

pub never_end : (text : List ℕ) → after_front (13 ∷ 10 ∷ []) text ≡ None → after_front text (13 ∷ 10 ∷ []) ≡ None → IsDataRead text 0 Invalid
never_end text none other more bytes after reads =
    let whole : text ++ more ≡ (13 ∷ 10 ∷ []) ++ after = reads.whole ∙ ap (λ (t : List ℕ). t ++ (13 ∷ 10 ∷ after)) (no_bytes bytes reads.counts) in
    elim (split_append text more (13 ∷ 10 ∷ []) after whole) [
      | inl (m, front, rest) ↦ none_is_some m (sym none ∙ ap (after_front (13 ∷ 10 ∷ [])) front ∙ after_front-again (13 ∷ 10 ∷ []) m)
      | inr (m, front, rest) ↦ none_is_some m (sym other ∙ ap (after_front text) front ∙ after_front-again text m)
    ]

-- the same after the bytes
data_front : (text : List ℕ) (len : ℕ) (more bytes after : List ℕ) → len ≤ length text → ReadsData (text ++ more) len bytes after
    → ReadsData (drop len text ++ more) 0 [] after × (bytes ≡ take len text)
data_front text len more bytes after inside reads =
    let cut : take len text ++ (drop len text ++ more) ≡ bytes ++ (13 ∷ 10 ∷ after) =
    sym (append_assoc (take len text) (drop len text) more) ∙ ap (λ (t : List ℕ). t ++ more) (take-append-drop len text) ∙ reads.whole in
    let same = append_same (take len text) _ bytes _ (omega (arith, length-take len text, reads.counts)) cut in
    (record { counts = refl; whole = same.1 }, sym same.0)

-- bytes that stand before a line end
joined : (text : List ℕ) (len : ℕ) (more after : List ℕ) → len ≤ length text → ReadsData (drop len text ++ more) 0 [] after
    → ReadsData (text ++ more) len (take len text) after
joined text len more after inside reads = record {
  counts = omega (arith, length-take len text);
  whole = sym (ap (λ (t : List ℕ). t ++ more) (take-append-drop len text)) ∙ append_assoc (take len text) (drop len text) more
      ∙ ap (λ (t : List ℕ). take len text ++ t) reads.whole;
}

none_empty : (bytes : List ℕ) (text after : List ℕ) → ReadsData text 0 bytes after → ReadsData text 0 [] after
none_empty bytes text after reads = record {
  counts = refl;
  whole = reads.whole ∙ ap (λ (t : List ℕ). t ++ (13 ∷ 10 ∷ after)) (no_bytes bytes reads.counts);
}

pub data_of_end : (text : List ℕ) (len : ℕ) (read : DataRead) → len ≤ length text → IsDataRead (drop len text) 0 read → IsDataRead text len read
data_of_end text len Whole inside (after, reads) =
    let P : List ℕ → Type 0 = λ t. ReadsData t len (take len text) after in
    let Q : List ℕ → Type 0 = λ t. ReadsData t 0 [] after in (
      after,
      subst P (append-nil text) (joined text len [] after inside
          (subst Q (sym (append-nil (drop len text))) (none_empty _ (drop len text) after reads))),
    )
data_of_end text len Partial inside (none, more, bytes, reads) = (
  λ other after there.
      let P : List ℕ → Type 0 = λ t. ReadsData t len other after in
      let Q : List ℕ → Type 0 = λ t. ReadsData t 0 [] after in
      none [] after (subst Q (append-nil (drop len text)) (data_front text len [] other after inside (subst P (sym (append-nil text)) there)).0),
  more,
  take len text,
  joined text len more [] inside (none_empty bytes (drop len text ++ more) [] reads),
)
data_of_end text len Invalid inside is = λ more bytes after reads. is more [] after (data_front text len more bytes after inside reads).0

-- some bytes of this number
pub filled : ℕ → List ℕ
filled n = replicate n 48

pub length-filled : (n : ℕ) → length (filled n) ≡ n
unfolding filled
length-filled n = length-replicate n 48

regroup : (a b : List ℕ) → a ++ (b ++ 13 ∷ 10 ∷ []) ≡ (a ++ b) ++ (13 ∷ 10 ∷ [])
regroup a b = simp append_assoc

pub short_data : (text : List ℕ) (len : ℕ) → length text < len → IsDataRead text len Partial
short_data text len short = (
  λ bytes after reads. omega (arith, ap length reads.whole, length-append bytes (13 ∷ 10 ∷ after), reads.counts),
  filled (len - length text) ++ 13 ∷ 10 ∷ [],
  text ++ filled (len - length text),
  record {
    counts = omega (arith, length-append text (filled (len - length text)), length-filled (len - length text));
    whole = regroup text (filled (len - length text));
  },
)
