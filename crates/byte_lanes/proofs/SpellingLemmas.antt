-- Bytes without a special one are spelled as they are; the spelling of the bytes so far grows by that of the next block.
use Rattle.std.proofs.Common.{◌≡◌, ℕ, ◌+◌, ◌*◌, ◌<◌, Bool, true, false, ◌||◌, cond, eqb, ltb, List, [], ◌∷◌, ◌++◌, length, get_or, map, take, drop, refl, sym, ap, ◌∙◌, arith, take-add, length-append, take-append-drop}
use Rattle.std.specs.Simd.{first_chunks}
use Rattle.std.specs.Simd.Lanes.{mask_l, chunk}
use Rattle.std.proofs.lemmas.Grind.{flat_map-append}
use Rattle.byte_lanes.specs.Bytes.{is_special}
use Rattle.byte_lanes.specs.Spelling.{spelled, spelled_byte}
use Rattle.byte_lanes.proofs.Blocks.{get_or-first_chunks}

or_no : (a b : Bool) → (a || b) ≡ false → (a ≡ false) × (b ≡ false)
or_no true b h = absurd (cc)
or_no false b h = (refl, h)

plain_byte : (x : ℕ) → is_special x ≡ false → length (spelled_byte x) ≡ 1
unfolding spelled_byte
plain_byte x h =
    let outer = or_no (ltb x 32 || eqb x 34) (eqb x 92) h in
    let inner = or_no (ltb x 32) (eqb x 34) outer.0 in
    let control : ltb x 32 ≡ false = inner.0 in
    let quote : eqb x 34 ≡ false = inner.1 in
    let backslash : eqb x 92 ≡ false = outer.1 in
    rw (quote, backslash, control) refl

lowest_clear : (b : Bool) (m : ℕ) → cond b 1 0 + 2 * m ≡ 0 → (b ≡ false) × (m ≡ 0)
lowest_clear true m h = absurd (omega (arith, h))
lowest_clear false m h = (refl, omega (arith, h))

pub none_special : (xs : List ℕ) → mask_l (map is_special xs) ≡ 0 → length (spelled xs) ≡ length xs
none_special [] h = refl
none_special (x ∷ xs) h =
    let clear = lowest_clear (is_special x) (mask_l (map is_special xs)) h in
    omega (arith, length-append (spelled_byte x) (spelled xs), plain_byte x clear.0, none_special xs clear.1)

pub length-spelled-append : (xs ys : List ℕ) → length (spelled (xs ++ ys)) ≡ length (spelled xs) + length (spelled ys)
length-spelled-append xs ys = ap length (flat_map-append spelled_byte xs ys) ∙ length-append (spelled xs) (spelled ys)

-- one more block
pub spelled_more : (bytes : List ℕ) (i k : ℕ) (blocks : List (List ℕ)) → blocks ≡ first_chunks 32 k bytes → i < k → length (spelled (take (32 * i) bytes)) + length (spelled (get_or blocks i [])) ≡ length (spelled (take (32 * (i + 1)) bytes))
spelled_more bytes i k blocks are within =
    let block : get_or blocks i [] ≡ chunk (32 * i) 32 bytes = ap (λ bs. get_or bs i []) are ∙ get_or-first_chunks 32 k i bytes [] within in
    let further : 32 * (i + 1) ≡ 32 * i + 32 = omega arith in
    rw (block, further, take-add (32 * i) 32 bytes) (sym (length-spelled-append (take (32 * i) bytes) (chunk (32 * i) 32 bytes)))

-- and the bytes after the last one
pub spelled_all : (bytes : List ℕ) (n : ℕ) → length (spelled (take n bytes)) + length (spelled (drop n bytes)) ≡ length (spelled bytes)
spelled_all bytes n = sym (length-spelled-append (take n bytes) (drop n bytes)) ∙ ap (λ bs. length (spelled bs)) (take-append-drop n bytes)
