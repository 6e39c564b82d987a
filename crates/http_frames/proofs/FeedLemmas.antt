-- A piece of the stream that comes while the content of a request is due.
use Rattle.std.proofs.Common.{◌≡◌, ℕ, ◌+◌, ◌-◌, ◌<◌, ◌≤◌, Bool, true, false, List, [], ◌++◌, length, drop, min, zero, suc, ◌∷◌, Some, refl, sym, ap, ◌∙◌, subst, arith}
use Rattle.http_chunks.specs.declared.content.Body.{Body}
use Rattle.http_frames.specs.declared.progress.Content.{Content}
use Rattle.http_frames.specs.HeadRules.{is_chunked}
use Rattle.http_chunks.specs.ContentSteps.{IsTaken}
use Rattle.http_frames.specs.Progress.{HoldsContent}
use Rattle.http_chunks.proofs.InChunksLemmas.{due_kept}
use Rattle.http_frames.proofs.ProgressLemmas.{chunks_of, kept_content, length_taken}
use Rattle.http_frames.proofs.TurnLemmas.{grown_content}
use Rattle.http_chunks.proofs.LinePlaceLemmas.{looked_within}

-- more of what is due of a content was taken
taken_content : (pending text : List ℕ) (at at' : ℕ) (content : Content) (body' : Body) (left due : ℕ) → HoldsContent pending (drop at text) content
    → content.body.left ≡ Some left → IsTaken text at at' content.body body' left due
    → HoldsContent pending (drop at' text) (record { head = content.head; said = content.said; body = body' })
taken_content pending text at at' content body' left due is so taken = by_kind (is_chunked content.head.fields) refl
  where
    by_kind : (b : Bool) → is_chunked content.head.fields ≡ b → HoldsContent pending (drop at' text) (record { head = content.head; said = content.said; body = body' })
    by_kind true e =
        kept_content pending (drop at text) (drop at' text) content body' is e
        (due_kept is.after text at at' content.body body' left due so taken (chunks_of pending (drop at text) content is e))
        (looked_within (drop at' text) body'.left body'.looked due taken.left_is)
    by_kind false e = length_taken pending text at at' content body' left due is e so taken

-- a piece comes where all bytes before it were read: what is due of it was taken, and the rest is kept
pub piece_taken : (pending old new rest piece : List ℕ) (at : ℕ) (content : Content) (body' : Body) (left due : ℕ) → old ≡ [] → new ≡ old ++ rest
    → rest ≡ drop at piece → content.body.left ≡ Some left → IsTaken piece 0 at content.body body' left due → HoldsContent pending old content
    → HoldsContent (pending ++ piece) new (record { head = content.head; said = content.said; body = body' })
piece_taken pending old new rest piece at content body' left due none same behind so taken is =
    let P : List ℕ → Type 0 = λ t. HoldsContent (pending ++ piece) (t ++ piece) content in
    let Q : List ℕ → Type 0 = λ t. HoldsContent (pending ++ piece) t (record { head = content.head; said = content.said; body = body' }) in
    subst Q (sym (same ∙ ap (λ (t : List ℕ). t ++ rest) none ∙ behind))
    (taken_content (pending ++ piece) piece 0 at content body' left due (subst P none (grown_content pending old piece content is)) so taken)

-- the place behind what was due is the end of that, or of the piece
pub taken_at : (left due at len : ℕ) → due + (at - 0) ≡ left → at ≤ len → (0 < due → at ≡ len) → min left len ≡ at
taken_at left zero at len counts within all = omega (arith, counts, within)
taken_at left (suc due) at len counts within all = omega (arith, counts, all (omega arith))

pub none_of : {A : Type 0} (xs : List A) → length xs ≡ 0 → xs ≡ []
none_of [] same = refl
none_of (x ∷ xs) same = absurd (omega (arith, same))
