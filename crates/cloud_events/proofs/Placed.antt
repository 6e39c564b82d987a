-- A member at its place.
use Rattle.std.proofs.Common.{◌≡◌, ℕ, suc, ◌+◌, ◌<◌, List, [], ◌∷◌, ◌++◌, length, take, drop, get_or, sym, ap, ◌∙◌, arith, append_assoc, drop-cons}
use Rattle.std.proofs.lemmas.List.{take_more}
use Rattle.std.specs.Ordering.{nat_cmp}
use Rattle.std.specs.declared.cmp.Ordering.{Ordering}
use Rattle.std.specs.declared.cmp.Ordering.TheVariants.{Less, Equal, Greater}
use Rattle.std.specs.Cmp.Lexicographic.{slice_cmp}
use Rattle.cloud_events.specs.declared.item.Item.{Item}
use Rattle.cloud_events.specs.Placing.{placed, put}

-- behind the first items, of which none is the place
pub put_here : (item first : Item) (items : List Item) (at : ℕ) (order : Ordering) → at < length items → get_or items at first ≡ first → put item items ≡ take at items ++ put item (drop at items) → slice_cmp nat_cmp item.name first.name ≡ order
    → put item items ≡ take at items ++ placed order item first (drop (suc at) items) (put item (drop (suc at) items))
put_here item first items at order lt is h o =
    let cells : drop at items ≡ first ∷ drop (suc at) items = drop-cons items at first lt ∙ ap (λ x. x ∷ drop (suc at) items) is in
    h ∙ ap (λ ps. take at items ++ put item ps) cells ∙ ap (λ r. take at items ++ placed r item first (drop (suc at) items) (put item (drop (suc at) items))) o

pub put_less : (item first : Item) (items : List Item) (at : ℕ) → at < length items → get_or items at first ≡ first → put item items ≡ take at items ++ put item (drop at items) → slice_cmp nat_cmp item.name first.name ≡ Less
    → put item items ≡ take at items ++ item ∷ drop at items
put_less item first items at lt is h o =
    put_here item first items at Less lt is h o ∙ ap (λ ps. take at items ++ item ∷ ps) (sym (drop-cons items at first lt ∙ ap (λ x. x ∷ drop (suc at) items) is))

pub put_equal : (item first : Item) (items : List Item) (at : ℕ) → at < length items → get_or items at first ≡ first → put item items ≡ take at items ++ put item (drop at items) → slice_cmp nat_cmp item.name first.name ≡ Equal
    → put item items ≡ take at items ++ item ∷ drop (at + 1) items
put_equal item first items at lt is h o = put_here item first items at Equal lt is h o ∙ ap (λ n. take at items ++ item ∷ drop n items) (let e : suc at ≡ at + 1 = omega arith in e)

pub put_greater : (item first : Item) (items : List Item) (at : ℕ) → at < length items → get_or items at first ≡ first → put item items ≡ take at items ++ put item (drop at items) → slice_cmp nat_cmp item.name first.name ≡ Greater
    → put item items ≡ take (at + 1) items ++ put item (drop (at + 1) items)
put_greater item first items at lt is h o =
    put_here item first items at Greater lt is h o
    ∙ sym (append_assoc (take at items) (first ∷ []) (put item (drop (suc at) items)))
    ∙ ap (λ ps. ps ++ put item (drop (suc at) items)) (sym (take_more items at first lt ∙ ap (λ x. take at items ++ x ∷ []) is))
    ∙ ap (λ n. take (at + 1) items ++ put item (drop n items)) (let e : suc at ≡ at + 1 = omega arith in e)
