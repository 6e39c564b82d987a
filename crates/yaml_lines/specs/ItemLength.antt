-- How long an item in brackets is.
use Rattle.std.specs.Prelude.{ℕ, suc, List, [], ◌∷◌}
use Rattle.yaml_lines.specs.declared.found.Found.{Found}
use Rattle.yaml_lines.specs.declared.found.Found.TheVariants.{Here as here, Past as past, Nowhere as nowhere, Later as later}
use Rattle.yaml_lines.specs.declared.flow.Within.{Within}
use Rattle.yaml_lines.specs.Flow.{item_found, within_after}

abbrev pub len_by : Found → ℕ → ℕ
len_by later others = suc others
len_by here others = 0
len_by past others = 0
len_by nowhere others = 0

-- up to the byte that ends it
unfoldable pub item_len : Within → List ℕ → ℕ
item_len within [] = 0
item_len within (byte ∷ bytes) = len_by (item_found within byte) (item_len (within_after within byte) bytes)
