-- A run of bytes that pass a test, at the front of bytes.
use Rattle.std.proofs.Common.{◌≡◌, ◌+◌, ℕ, Bool, true, false, cond, List, [], ◌∷◌, ◌++◌, length, take, refl, arith, one-add}
use Rattle.std.proofs.lemmas.List.Elements.{All-nil, All-cons, All-head, All-tail}
use Rattle.std.specs.List.{prefix_len}
use Rattle.httparse.specs.Grammar.{AllPass}
use Rattle.httparse.specs.Pieces.{Stops}

pub prefix_len-again : (test : ℕ → Bool) (run rest : List ℕ) → AllPass test run → Stops test rest
    → prefix_len test (run ++ rest) ≡ length run
prefix_len-again test [] [] pass stop = absurd stop
prefix_len-again test [] (x ∷ rest) pass stop = rw stop refl
prefix_len-again test (x ∷ run) rest pass stop =
    let first : test x ≡ true = All-head (λ v. test v ≡ true) x run pass in
    let tail = prefix_len-again test run rest (All-tail (λ v. test v ≡ true) x run pass) stop in
    rw first (omega (arith, tail))

pub run_passes : (test : ℕ → Bool) (bytes : List ℕ) → AllPass test (take (prefix_len test bytes) bytes)
run_passes test [] = All-nil (λ v. test v ≡ true)
run_passes test (x ∷ bytes) = elim (test x) as (λ b. test x ≡ b → AllPass test (take (cond b (1 + prefix_len test bytes) 0) (x ∷ bytes))) [
  | true ↦ λ e. rw (one-add) (All-cons (λ v. test v ≡ true) x _ e (run_passes test bytes))
  | false ↦ λ e. All-nil (λ v. test v ≡ true)
] refl
