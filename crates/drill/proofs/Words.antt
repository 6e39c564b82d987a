-- Words that are drawn one after the other, and the requests that are written for them.
use Rattle.std.proofs.Common.{◌≡◌, ◌<◌, ◌^◌, ◌++◌, ◌∷◌, [], ℕ, suc, List, sym, ap, subst, ◌∙◌, append_assoc, append-nil, All, refl}
use Rattle.std.proofs.lemmas.List.{flat_map_more}
use Rattle.std.proofs.lemmas.List.Elements.{All-nil, All-cons, All-append}
use Rattle.std.specs.List.{flat_map}
use Rattle.rand_core.specs.Stream.{Stream, next_u64}
use Rattle.drill.specs.Requests.{words_of, request_text}

abbrev pub Small : List ℕ → Type 0
Small = All (λ word. word < 2 ^ 64)

-- so many words are left of all; those before are below 2^64, and were written behind what there was first
pub record Drawn (all first out : List ℕ) (left : ℕ) (stream : Stream) : Type 0 where
  pub words : List ℕ
  pub small : Small words
  pub written : out ≡ first ++ flat_map request_text words
  pub rest : all ≡ words ++ words_of left stream

pub begun : (first : List ℕ) (n : ℕ) (stream : Stream) → Drawn (words_of n stream) first first n stream
begun first n stream = record { words = []; small = All-nil (λ word. word < 2 ^ 64); written = sym (append-nil first); rest = refl }

pub further : (all first out out' : List ℕ) (left word : ℕ) (stream stream' : Stream) → Drawn all first out (suc left) stream → (word, stream') ≡ next_u64 stream
    → word < 2 ^ 64 → out' ≡ out ++ request_text word → Drawn all first out' left stream'
further all first out out' left word stream stream' so next small done = record {
  words = so.words ++ word ∷ [];
  small = All-append (λ word. word < 2 ^ 64) so.words (word ∷ []) so.small (All-cons (λ word. word < 2 ^ 64) word [] small (All-nil (λ word. word < 2 ^ 64)));
  written = done ∙ ap (λ o. o ++ request_text word) so.written ∙ flat_map_more request_text first so.words word;
  rest = so.rest ∙ ap (λ (p : ℕ × Stream). so.words ++ (p.0 ∷ words_of left p.1)) (sym next) ∙ sym (append_assoc so.words (word ∷ []) (words_of left stream'));
}

pub ended : (all first out : List ℕ) (stream : Stream) → Drawn all first out 0 stream → (out ≡ first ++ flat_map request_text all) × Small all
ended all first out stream so =
    let same : all ≡ so.words = so.rest ∙ append-nil so.words in
    (so.written ∙ ap (λ words. first ++ flat_map request_text words) (sym same), subst Small (sym same) so.small)
