-- A pair at its place.
use Rattle.std.proofs.Common.{◌≡◌, ℕ, suc, ◌+◌, ◌<◌, ◌≤◌, Bool, true, false, cond, ◌&&◌, nat_le, List, [], ◌∷◌, ◌++◌, length, take, drop, get_or, refl, sym, ap, ◌∙◌, arith, append_assoc, drop-cons}
use Rattle.std.proofs.lemmas.List.{take_more, length-append, length-drop, length-take-le}
use Rattle.std.specs.Ordering.{nat_cmp}
use Rattle.std.specs.declared.cmp.Ordering.{Ordering}
use Rattle.std.specs.declared.cmp.Ordering.TheVariants.{Less, Equal, Greater}
use Rattle.std.specs.Cmp.Lexicographic.{slice_cmp}
use Rattle.std.proofs.lemmas.List.Sums.{sum_by-take-drop, sum_by-append, sum_by-cons}
use Rattle.meta_api.specs.declared.command.Pair.{Pair}
use Rattle.meta_api.specs.declared.pairs.Place.{Place}
use Rattle.std.specs.Bool.{OnTrue}
use Rattle.std.proofs.lemmas.Bool.Decides.{nat_tests}
use Rattle.meta_api.specs.declared.command.NotesReply.TheVariants.{Noted, Full}
use Rattle.meta_api.specs.History.{put_reply}
use Rattle.meta_api.specs.Book.{placed, put, put_at, pair_len, bytes_of, old_len, is_small}

-- behind the first pairs, of which none is the place
pub put_here : (pair first : Pair) (pairs : List Pair) (at : ℕ) (order : Ordering) → at < length pairs → get_or pairs at first ≡ first → put pair pairs ≡ take at pairs ++ put pair (drop at pairs) → slice_cmp nat_cmp pair.name first.name ≡ order
    → put pair pairs ≡ take at pairs ++ placed order pair first (drop (suc at) pairs) (put pair (drop (suc at) pairs))
put_here pair first pairs at order lt is h o =
    let cells : drop at pairs ≡ first ∷ drop (suc at) pairs = drop-cons pairs at first lt ∙ ap (λ x. x ∷ drop (suc at) pairs) is in
    h ∙ ap (λ ps. take at pairs ++ put pair ps) cells ∙ ap (λ r. take at pairs ++ placed r pair first (drop (suc at) pairs) (put pair (drop (suc at) pairs))) o

pub put_less : (pair first : Pair) (pairs : List Pair) (at : ℕ) → at < length pairs → get_or pairs at first ≡ first → put pair pairs ≡ take at pairs ++ put pair (drop at pairs) → slice_cmp nat_cmp pair.name first.name ≡ Less
    → put pair pairs ≡ take at pairs ++ pair ∷ drop at pairs
put_less pair first pairs at lt is h o =
    put_here pair first pairs at Less lt is h o ∙ ap (λ ps. take at pairs ++ pair ∷ ps) (sym (drop-cons pairs at first lt ∙ ap (λ x. x ∷ drop (suc at) pairs) is))

pub put_equal : (pair first : Pair) (pairs : List Pair) (at : ℕ) → at < length pairs → get_or pairs at first ≡ first → put pair pairs ≡ take at pairs ++ put pair (drop at pairs) → slice_cmp nat_cmp pair.name first.name ≡ Equal
    → put pair pairs ≡ take at pairs ++ pair ∷ drop (at + 1) pairs
put_equal pair first pairs at lt is h o = put_here pair first pairs at Equal lt is h o ∙ ap (λ n. take at pairs ++ pair ∷ drop n pairs) (let e : suc at ≡ at + 1 = omega arith in e)

pub put_greater : (pair first : Pair) (pairs : List Pair) (at : ℕ) → at < length pairs → get_or pairs at first ≡ first → put pair pairs ≡ take at pairs ++ put pair (drop at pairs) → slice_cmp nat_cmp pair.name first.name ≡ Greater
    → put pair pairs ≡ take (at + 1) pairs ++ put pair (drop (at + 1) pairs)
put_greater pair first pairs at lt is h o =
    put_here pair first pairs at Greater lt is h o
    ∙ sym (append_assoc (take at pairs) (first ∷ []) (put pair (drop (suc at) pairs)))
    ∙ ap (λ ps. ps ++ put pair (drop (suc at) pairs)) (sym (take_more pairs at first lt ∙ ap (λ x. take at pairs ++ x ∷ []) is))
    ∙ ap (λ n. take (at + 1) pairs ++ put pair (drop n pairs)) (let e : suc at ≡ at + 1 = omega arith in e)

-- ---- sizes

put_at_bytes : (at next : ℕ) (pair : Pair) (pairs : List Pair) → bytes_of (take at pairs ++ pair ∷ drop next pairs) ≡ bytes_of (take at pairs) + (pair_len pair + bytes_of (drop next pairs))
put_at_bytes at next pair pairs = sum_by-append pair_len (take at pairs) (pair ∷ drop next pairs) ∙ ap (λ n. bytes_of (take at pairs) + n) (sum_by-cons pair_len pair (drop next pairs))

-- all bytes are those before, and the pair's in place of the ones that stood there
bytes_at : (taken : Bool) (at : ℕ) (pair : Pair) (pairs : List Pair) → OnTrue taken (at < length pairs)
    → bytes_of (take at pairs ++ pair ∷ drop (cond taken (at + 1) at) pairs) + cond taken (pair_len (get_or pairs at (record { name = []; value = [] }))) 0 ≡ bytes_of pairs + pair_len pair
bytes_at true at pair pairs within =
    let none : Pair = record { name = []; value = [] } in
    let cells : bytes_of (drop at pairs) ≡ pair_len (get_or pairs at none) + bytes_of (drop (at + 1) pairs) =
    ap bytes_of (drop-cons pairs at none within) ∙ sum_by-cons pair_len (get_or pairs at none) (drop (suc at) pairs) ∙ ap (λ n. pair_len (get_or pairs at none) + bytes_of (drop n pairs)) (let e : suc at ≡ at + 1 = omega arith in e) in
    omega (arith, put_at_bytes at (at + 1) pair pairs, cells, sum_by-take-drop pair_len pairs at)
bytes_at false at pair pairs within = omega (arith, put_at_bytes at at pair pairs, sum_by-take-drop pair_len pairs at)

pub bytes_put : (place : Place) (pair : Pair) (pairs : List Pair) → OnTrue place.taken (place.at < length pairs) → bytes_of (put_at place pair pairs) + old_len place pairs ≡ bytes_of pairs + pair_len pair
bytes_put place pair pairs within = bytes_at place.taken place.at pair pairs within

names_at : (taken : Bool) (at : ℕ) (pair : Pair) (pairs : List Pair) → at ≤ length pairs → OnTrue taken (at < length pairs) → length (take at pairs ++ pair ∷ drop (cond taken (at + 1) at) pairs) ≡ length pairs + cond taken 0 1
names_at true at pair pairs le within = omega (arith, length-append (take at pairs) (pair ∷ drop (at + 1) pairs), length-take-le at pairs le, length-drop (at + 1) pairs)
names_at false at pair pairs le within = omega (arith, length-append (take at pairs) (pair ∷ drop at pairs), length-take-le at pairs le, length-drop at pairs)

pub names_put : (place : Place) (pair : Pair) (pairs : List Pair) → place.at ≤ length pairs → OnTrue place.taken (place.at < length pairs) → length (put_at place pair pairs) ≡ length pairs + cond place.taken 0 1
names_put place pair pairs le within = names_at place.taken place.at pair pairs le within

-- what stands at a place is among all bytes
pub old_within : (place : Place) (pair : Pair) (pairs : List Pair) → OnTrue place.taken (place.at < length pairs) → old_len place pairs ≤ bytes_of pairs + pair_len pair
old_within place pair pairs within = omega (arith, bytes_put place pair pairs within)

-- ---- small books

both_true : (a b : Bool) → (a && b) ≡ true → (a ≡ true) × (b ≡ true)
both_true true b h = (refl, h)
both_true false b h = absurd (let bad : ⊥ = cc in bad)

le_of : (n m : ℕ) → nat_le n m ≡ true → n ≤ m
le_of n m h = grind (arith, nat_tests)

pub small_names : (names bytes : ℕ) → (nat_le names 1024 && nat_le bytes 1048576) ≡ true → names ≤ 1024
small_names names bytes h = le_of names 1024 (both_true (nat_le names 1024) (nat_le bytes 1048576) h).0

pub small_bytes : (names bytes : ℕ) → (nat_le names 1024 && nat_le bytes 1048576) ≡ true → bytes ≤ 1048576
small_bytes names bytes h = le_of bytes 1048576 (both_true (nat_le names 1024) (nat_le bytes 1048576) h).1

-- the reply by the book with the pair at its place
module _ (with_it there : List Pair) (names bytes : ℕ) (same : with_it ≡ there) (few : names ≡ length there) (size : bytes ≡ bytes_of there) where
  told : is_small with_it ≡ (nat_le names 1024 && nat_le bytes 1048576)
  told = ap is_small same ∙ ap (λ n. nat_le n 1024 && nat_le (bytes_of there) 1048576) (sym few) ∙ ap (λ b. nat_le names 1024 && nat_le b 1048576) (sym size)

  pub full_is : (nat_le names 1024 && nat_le bytes 1048576) ≡ false → Full names bytes ≡ put_reply with_it
  full_is large =
      ap (λ n. Full n bytes) (few ∙ ap length (sym same)) ∙ ap (λ b. Full (length with_it) b) (size ∙ ap bytes_of (sym same))
      ∙ ap (λ t. cond t Noted (Full (length with_it) (bytes_of with_it))) (sym (told ∙ large))

  pub noted_is : (nat_le names 1024 && nat_le bytes 1048576) ≡ true → Noted ≡ put_reply with_it
  noted_is small = ap (λ t. cond t Noted (Full (length with_it) (bytes_of with_it))) (sym (told ∙ small))
