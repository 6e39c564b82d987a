use Rattle.std.proofs.Common.{◌≡◌, ◌==◌, Bool, ◌||◌, List, [], ◌∷◌, map, refl, ap, ◌∙◌, sym, rules, tests}
use Rattle.std.specs.List.{list_any, slice_split}
use Rattle.std.proofs.lemmas.Iterator.Splits.{YieldsList-from_slice_split}
use Rattle.std.proofs.lemmas.Iterator.Search.{any_from_yields_List}
use Rattle.side_base.specs.Field.{trimmed}
use Rattle.side_base.specs.Field.{is_same_word, list_items, has_item}
use Rattle.side_base.proofs.field.has_item.Goals as goal

list_any-map : {A B : Type 0} (test : B → Bool) (f : A → B) (xs : List A) → list_any test (map f xs) ≡ list_any (λ x. test (f x)) xs
list_any-map test f [] = refl
list_any-map test f (x ∷ xs) = ap (λ b. test (f x) || b) (list_any-map test f xs)

pub returns : goal.returns
unfolding has_item list_items
returns c =
    let value = c.args.value.now in
    let word = c.args.word.now in
    let parts = YieldsList-from_slice_split _ _ value c.split.ensures.rest c.split.ensures.done c.split.ensures.closure (λ x b q k. search (rules, tests)) in
    any_from_yields_List (λ item. is_same_word (trimmed item) word) _ _ c.any.result c.any.ensures.ran parts (λ x b q k. search (rules, tests))
    ∙ sym (list_any-map (λ item. is_same_word item word) trimmed (slice_split (λ b. b == 44) value))
