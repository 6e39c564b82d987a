-- The blocks of a list of bytes, and how a search goes on from block to block.
use Rattle.std.proofs.Common.{◌≡◌, ℕ, zero, suc, ◌+◌, ◌-◌, ◌*◌, ◌/◌, ◌<◌, ◌≤◌, Bool, not, List, [], length, get_or, take, drop, refl, sym, ap, ◌∙◌, arith}
use Rattle.std.specs.Simd.{first_chunks}
use Rattle.std.specs.Simd.Lanes.{chunk}
use Rattle.std.specs.List.{prefix_len}
use Rattle.std.proofs.lemmas.Simd.{length-chunk, run_in_chunk_fails, run_in_chunk_stops}
use Rattle.std.proofs.lemmas.List.{drop-drop}
use Rattle.std.proofs.lemmas.Bool.{cases_lt}
use Rattle.std.proofs.Common.{inl, inr}
use Rattle.byte_lanes.specs.Places.{NonePasses, IsLeastPlace}

pub get_or-first_chunks : (n k i : ℕ) (xs : List ℕ) (d : List ℕ) → i < k → get_or (first_chunks n k xs) i d ≡ take n (drop (n * i) xs)
get_or-first_chunks n zero i xs d h = absurd (omega (arith, h))
get_or-first_chunks n (suc k) zero xs d h =
    let none : n * 0 ≡ 0 = omega arith in
    rw none refl
get_or-first_chunks n (suc k) (suc i) xs d h =
    let further : n + n * i ≡ n * suc i = omega arith in
    get_or-first_chunks n k i (drop n xs) d (omega (arith, h)) ∙ ap (take n) (drop-drop (n * i) n xs) ∙ ap (λ m. take n (drop m xs)) further

-- the i-th block of the bytes from `from` on, and that it stands within them
pub block_of : (bytes : List ℕ) (from i at : ℕ) (blocks : List (List ℕ)) → from ≤ length bytes → blocks ≡ first_chunks 32 ((length bytes - from) / 32) (drop from bytes) → i < (length bytes - from) / 32 → at ≡ from + 32 * i → (get_or blocks i [] ≡ chunk at 32 bytes) × (at + 32 ≤ length bytes)
block_of bytes from i at blocks low are within place =
    let there : at ≡ from + 32 * i = place in (
      ap (λ bs. get_or bs i []) are ∙ get_or-first_chunks 32 ((length bytes - from) / 32) i (drop from bytes) [] within ∙ ap (take 32) (drop-drop (32 * i) from bytes) ∙ ap (λ m. take 32 (drop m bytes)) (sym there),
      omega arith,
    )

pub length_of_block : (bytes block : List ℕ) (at : ℕ) → block ≡ chunk at 32 bytes → at + 32 ≤ length bytes → length block ≡ 32
length_of_block bytes block at is room = ap length is ∙ length-chunk at 32 bytes room

-- from `count` lanes before the first that passes, to the places of the bytes
pub none_so_far : (p : ℕ → Bool) (bytes block : List ℕ) (from at count : ℕ) → block ≡ chunk at 32 bytes → at + 32 ≤ length bytes → count ≡ prefix_len (λ x. not (p x)) block → NonePasses p bytes from at → NonePasses p bytes from (at + count)
none_so_far p bytes block from at count is room counted before k low high =
    let same : count ≡ prefix_len (λ x. not (p x)) (chunk at 32 bytes) = counted ∙ ap (prefix_len (λ x. not (p x))) is in
    elim (cases_lt k at) [ inl near ↦ before k low near | inr far ↦ run_in_chunk_fails p bytes at 32 count 0 room same k far high ]

pub found_in_block : (p : ℕ → Bool) (bytes block : List ℕ) (from at count : ℕ) → block ≡ chunk at 32 bytes → at + 32 ≤ length bytes → count ≡ prefix_len (λ x. not (p x)) block → from ≤ at → NonePasses p bytes from at → count < 32 → IsLeastPlace p bytes from (at + count)
found_in_block p bytes block from at count is room counted low before found =
    let same : count ≡ prefix_len (λ x. not (p x)) (chunk at 32 bytes) = counted ∙ ap (prefix_len (λ x. not (p x))) is in
    record {
      low = omega arith;
      within = omega arith;
      passes = run_in_chunk_stops p bytes at 32 count 0 room same found;
      before = none_so_far p bytes block from at count is room counted before;
    }

pub none_in_block : (p : ℕ → Bool) (bytes block : List ℕ) (from at count : ℕ) → block ≡ chunk at 32 bytes → at + 32 ≤ length bytes → count ≡ prefix_len (λ x. not (p x)) block → NonePasses p bytes from at → 32 ≤ count → NonePasses p bytes from (at + 32)
none_in_block p bytes block from at count is room counted before none k low high =
    none_so_far p bytes block from at count is room counted before k low (omega (arith, high, none))
