-- Parts of a list of bytes.
use Rattle.std.proofs.Common.{◌≡◌, ◌≤◌, ◌+◌, ◌-◌, ℕ, List, ◌++◌, length, take, drop, ap, sym, subst, ◌∙◌}
use Rattle.std.proofs.Math.Seq.{take-length, take-append_seam, take-add}
use Rattle.std.proofs.lemmas.List.{length-drop, take-append-drop, length-take-le, drop-drop}

-- all that is left behind a place
pub rest_is_drop : (i : ℕ) (bytes : List ℕ) → take (length bytes - i) (drop i bytes) ≡ drop i bytes
rest_is_drop i bytes = rw (← length-drop i bytes) (take-length (drop i bytes))

-- the first n bytes of a buffer to whose front they were copied
pub copied_is_front : (n : ℕ) (bytes copied behind : List ℕ) → n ≤ length bytes → copied ≡ take n bytes → take n (copied ++ behind) ≡ take n bytes
copied_is_front n bytes copied behind within same =
    let is_n : length copied ≡ n = ap length same ∙ length-take-le n bytes within in
    subst (λ k. take k (copied ++ behind) ≡ copied) is_n (take-append_seam copied behind) ∙ same

-- what was left is the piece, as it stands in the buffer, and what is left then
pub left_is_piece : (at n : ℕ) (bytes copied behind : List ℕ) → n ≤ length (drop at bytes) → copied ≡ take n (drop at bytes) → drop at bytes ≡ take n (copied ++ behind) ++ drop (at + n) bytes
left_is_piece at n bytes copied behind within same =
    rw (copied_is_front n (drop at bytes) copied behind within same, ← drop-drop n at bytes) (sym (take-append-drop n (drop at bytes)))

-- what was taken is what was taken before, and the piece
pub taken_is_piece : (at n : ℕ) (bytes copied behind : List ℕ) → n ≤ length (drop at bytes) → copied ≡ take n (drop at bytes) → take (at + n) bytes ≡ take at bytes ++ take n (copied ++ behind)
taken_is_piece at n bytes copied behind within same =
    take-add at n bytes ∙ ap (λ z. take at bytes ++ z) (sym (copied_is_front n (drop at bytes) copied behind within same))

-- the same, where the bytes were lent by a call
pub lent_is_piece : (at n : ℕ) (bytes lent copied behind : List ℕ) → lent ≡ bytes → n ≤ length (take (length lent - at) (drop at lent)) → copied ≡ take n (take (length lent - at) (drop at lent)) → (drop at bytes ≡ take n (copied ++ behind) ++ drop (at + n) bytes) × (take (at + n) bytes ≡ take at bytes ++ take n (copied ++ behind))
lent_is_piece at n bytes lent copied behind is_lent within same =
    subst (λ b. (drop at b ≡ take n (copied ++ behind) ++ drop (at + n) b) × (take (at + n) b ≡ take at b ++ take n (copied ++ behind))) is_lent (
      left_is_piece at n lent copied behind (rw rest_is_drop at within) (rw rest_is_drop at same),
      taken_is_piece at n lent copied behind (rw rest_is_drop at within) (rw rest_is_drop at same),
    )
