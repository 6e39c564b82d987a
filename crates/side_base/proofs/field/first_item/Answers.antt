use Rattle.std.proofs.Common.{◌≡◌, ◌==◌, ◌+◌, ◌-◌, ℕ, Bool, true, false, List, [], ◌∷◌, length, take, drop, refl, ap, sym, map, nat_lt, cond, Some, None, arith, position}
use Rattle.std.specs.List.{slice_split, position_or_len}
use Rattle.std.proofs.lemmas.Bool.{ltb-true, ltb-false}
use Rattle.std.proofs.lemmas.Option.{cond_some}
use Rattle.std.proofs.lemmas.List.Splits.{slice_split_none, slice_split_first}
use Rattle.std.proofs.lemmas.List.Sums.{fails_before_first}
use Rattle.std.proofs.lemmas.Grind.{common_steps}
use Rattle.side_base.specs.Field.{trimmed, list_items}
use Rattle.side_base.proofs.field.first_item.Goals as goal

split_found : (test : ℕ → Bool) (bytes : List ℕ) (at : ℕ) → position test bytes ≡ Some at → slice_split test bytes ≡ take at bytes ∷ slice_split test (drop (at + 1) bytes)
split_found test bytes at is =
    let parts = cond_some (nat_lt (position_or_len test bytes) (length bytes)) _ at is in
    rw (← parts.1) (slice_split_first test bytes 0 (ltb-true _ _ parts.0))

split_whole : (test : ℕ → Bool) (bytes : List ℕ) (found : Bool) → nat_lt (position_or_len test bytes) (length bytes) ≡ found → cond found (Some (position_or_len test bytes)) None ≡ None → slice_split test bytes ≡ bytes ∷ []
split_whole test bytes true is none = cc
split_whole test bytes false is none =
    let far = ltb-false _ _ is in
    slice_split_none test bytes (λ k d within. fails_before_first test bytes k d (omega arith))

pub returns-in-Some : goal.returns-in-Some
unfolding list_items
returns-in-Some c =
    let value = c.args.value.now in
    let at = c.in-Some.at in
    let split = ap (map trimmed) (split_found (λ byte. byte == 44) value at (sym c.in-Some.ensures)) in
    let rest : drop (at + 1) value ≡ take (length value - (at + 1)) (drop (at + 1) value) = grind (arith, common_steps) in
    rw (← rest, c.trimmed.ensures) split

pub returns-in-None : goal.returns-in-None
unfolding list_items
returns-in-None c = rw c.trimmed-in-None.ensures (ap (map trimmed) (split_whole (λ byte. byte == 44) c.args.value.now _ refl (sym c.in-None.ensures)))
