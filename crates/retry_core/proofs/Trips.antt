-- Whether comparisons hold, over the places of a trip and over the comparisons that are there.
use Rattle.std.proofs.Common.{◌≡◌, Bool, true, false, ◌&&◌, ◌||◌, List, [], ◌∷◌, Option, Some, None, ap, refl}
use Rattle.std.specs.List.{list_all, list_any, filter_map}
use Rattle.std.specs.Option.{option_map_or}

pub list_all-filter_map : {A : Type 0} (p : A → Bool) (slots : List (Option A)) → list_all (λ slot. option_map_or p slot true) slots ≡ list_all p (filter_map (λ slot. slot) slots)
list_all-filter_map p [] = refl
list_all-filter_map p (None ∷ slots) = list_all-filter_map p slots
list_all-filter_map p (Some x ∷ slots) = ap (λ b. p x && b) (list_all-filter_map p slots)

pub list_any-filter_map : {A : Type 0} (p : A → Bool) (slots : List (Option A)) → list_any (λ slot. option_map_or p slot false) slots ≡ list_any p (filter_map (λ slot. slot) slots)
list_any-filter_map p [] = refl
list_any-filter_map p (None ∷ slots) = list_any-filter_map p slots
list_any-filter_map p (Some x ∷ slots) = ap (λ b. p x || b) (list_any-filter_map p slots)
