-- Where the segments of a path are cut.
use Rattle.std.proofs.Common.{◌≡◌, ◌+◌, ◌-◌, ◌==◌, not, ℕ, List, [], ◌∷◌, ◌++◌, length, take, drop, arith, refl, ap, ◌∙◌}
use Rattle.std.proofs.lemmas.List.{length-append, length-drop}
use Rattle.std.proofs.Math.Seq.{drop-append_seam, take-append_seam, take-length}
use Rattle.std.specs.List.{prefix_len}
use Rattle.api_routes.specs.Parameters.{Begins, IsPlain}
use Rattle.api_routes.specs.Path.{StartsSegment, slash}
use Rattle.api_routes.proofs.Segments.{differs}

pub prefix-plain : (segment rest : List ℕ) → IsPlain segment → StartsSegment rest → prefix_len (λ byte. not (byte == slash)) (segment ++ rest) ≡ length segment
prefix-plain [] [] plain ends = refl
prefix-plain [] (byte ∷ rest) plain ends = rw ends refl
prefix-plain (byte ∷ segment) rest plain ends =
    let later = prefix-plain segment rest plain.1 ends in
    rw (differs byte plain.0) (omega (arith, later))

-- the cut of a path at the end of its first segment
pub cuts-segment : (path segment rest text front back : List ℕ) (len : ℕ) → Begins path segment rest → text ≡ drop 1 path → len ≡ prefix_len (λ byte. not (byte == slash)) text → front ≡ take len text → back ≡ drop len text → (front ≡ segment) × (back ≡ rest)
cuts-segment path segment rest text front back len begins text_is len_is front_is back_is =
    let whole : text ≡ segment ++ rest = text_is ∙ ap (λ xs. drop 1 xs) begins.path_is in
    let size : len ≡ length segment = len_is ∙ ap (prefix_len (λ byte. not (byte == slash))) whole ∙ prefix-plain segment rest begins.plain begins.ends in
    let taken : take len text ≡ segment = rw (size, whole) (take-append_seam segment rest) in
    let left : drop len text ≡ rest = rw (size, whole) (drop-append_seam segment rest) in
    (front_is ∙ taken, back_is ∙ left)

pub begins-length : (path segment rest : List ℕ) → Begins path segment rest → length path ≡ 1 + length segment + length rest
begins-length path segment rest begins =
    let size : length path ≡ length (slash ∷ (segment ++ rest)) = ap length begins.path_is in
    let parts : length (segment ++ rest) ≡ length segment + length rest = length-append segment rest in
    omega (arith, size, parts)

-- the end of the target from a place on
pub target-rest : (target : List ℕ) (at place : ℕ) → at ≡ place → take (length target - at) (drop at target) ≡ drop place target
target-rest target at place same =
    let size : length (drop place target) ≡ length target - place = length-drop place target in
    rw (same, ← size) (take-length (drop place target))
