-- What stands at the front of bytes, and what an option holds.
use Rattle.std.proofs.Common.{◌≡◌, ℕ, List, ◌++◌, length, take, drop, Some, None, refl, sym, ap, ◌∙◌, take-append-drop}
use Rattle.std.proofs.lemmas.List.{take_at, drop_at}
use Rattle.std.proofs.lemmas.Option.{cond_some}
use Rattle.std.proofs.lemmas.Slice.Eq.{bytes_eq-Decides}
use Rattle.http_chunks.specs.Front.{after_front}

pub none_is_some : {A : Type 0} (x : A) → None ≡ Some x → ⊥
none_is_some x e = cc

pub after_front-again : (front rest : List ℕ) → after_front front (front ++ rest) ≡ Some rest
unfolding after_front
after_front-again front rest =
    rw (take_at front rest (length front) refl, drop_at front rest (length front) refl, (bytes_eq-Decides front front).1 refl) refl

pub after_front-takes : (front bytes rest : List ℕ) → after_front front bytes ≡ Some rest → bytes ≡ front ++ rest
unfolding after_front
after_front-takes front bytes rest e =
    let parts = cond_some _ _ _ e in
    sym (take-append-drop (length front) bytes)
    ∙ ap (λ (t : List ℕ). t ++ drop (length front) bytes) ((bytes_eq-Decides (take (length front) bytes) front).0 parts.0)
    ∙ ap (λ (t : List ℕ). front ++ t) parts.1
