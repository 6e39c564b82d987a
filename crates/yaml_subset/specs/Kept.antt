-- Which open parts are kept where rows take one more.
use Rattle.std.specs.Prelude.{ℕ, suc, ◌&&◌, ◌==◌, nat_lt, if◌then◌else◌, List, [], ◌∷◌, length, Option, Some, None}
use Rattle.yaml_subset.specs.declared.open.Holder.{Holder}
use Rattle.yaml_subset.specs.Front.{Frame}
use Rattle.yaml_subset.specs.Refusal.{is_holder}

unfoldable pub kept_count : Holder → ℕ → List Frame → Option ℕ
kept_count holder column [] = None
kept_count holder column (f ∷ outer) =
    if is_holder f.holder holder && f.column == column then Some (suc (length outer))
    else if nat_lt f.column column then None
    else kept_count holder column outer
