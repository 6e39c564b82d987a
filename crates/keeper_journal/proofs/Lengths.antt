-- How long bodies are, and what follows for their parts.
use Rattle.std.proofs.Common.{◌≡◌, ℕ, ◌+◌, ◌<◌, ◌≤◌, List, [], ◌∷◌, ◌++◌, length, ap, ◌∙◌, arith, length-append}
use Rattle.std.specs.List.{flat_map, AllByRecursion}
use Rattle.std.specs.Int.{w32, w64, to_le_bytes}
use Rattle.std.proofs.lemmas.List.Concat.{flat_map-cons}
use Rattle.keeper_core.specs.declared.changes.Change.{Change}
use Rattle.keeper_core.specs.declared.changes.Change.TheVariants.{Put, Remove}
use Rattle.keeper_core.specs.declared.changes.Changes.{Changes}
use Rattle.keeper_journal.specs.Body.{sized, spelled, body_of, body_len}

pub length-sized : (bytes : List ℕ) → length (sized bytes) ≡ length bytes + 4
length-sized bytes = omega (arith, length-append (to_le_bytes w32 (length bytes)) bytes)

pub length-put : (key value : List ℕ) (version until : ℕ) → length (spelled (Put key value version until)) ≡ length key + length value + 25
length-put key value version until =
    let a = length-append (to_le_bytes w64 until) (sized value) in
    let b = length-append (to_le_bytes w64 version) (to_le_bytes w64 until ++ sized value) in
    let d = length-append (sized key) (to_le_bytes w64 version ++ (to_le_bytes w64 until ++ sized value)) in
    omega (arith, a, b, d, length-sized key, length-sized value)

pub length-remove : (key : List ℕ) → length (spelled (Remove key)) ≡ length key + 5
length-remove key = omega (arith, length-sized key)

pub length-body_of : (changes : Changes) → length (body_of changes) ≡ body_len changes.list
length-body_of changes =
    let a = length-append (to_le_bytes w32 (length changes.list)) (flat_map spelled changes.list) in
    let b = length-append (to_le_bytes w64 changes.next) (to_le_bytes w32 (length changes.list) ++ flat_map spelled changes.list) in
    omega (arith, a, b)

length-spelled : (change : Change) → 1 ≤ length (spelled change)
length-spelled (Put key value version until) = omega (arith, length-put key value version until)
length-spelled (Remove key) = omega (arith, length-remove key)

length-more : (change : Change) (list : List Change) → length (flat_map spelled (change ∷ list)) ≡ length (spelled change) + length (flat_map spelled list)
length-more change list = ap length (flat_map-cons spelled change list) ∙ length-append (spelled change) (flat_map spelled list)

-- each change takes a byte and more
pub count-below : (list : List Change) → length list ≤ length (flat_map spelled list)
count-below [] = omega arith
count-below (change ∷ list) = omega (arith, length-more change list, length-spelled change, count-below list)

pub each_below : (n : ℕ) (list : List Change) → length (flat_map spelled list) < n → AllByRecursion (λ change. length (spelled change) < n) list
each_below n [] h = tt
each_below n (change ∷ list) h =
    let joined = length-more change list in
    (omega (arith, joined), each_below n list (omega (arith, joined)))
