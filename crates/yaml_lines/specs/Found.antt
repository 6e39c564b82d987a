-- A place that is looked for from the left.
use Rattle.std.specs.Prelude.{ℕ, suc, ◌+◌, Option, Some, None, option_map}
use Rattle.yaml_lines.specs.declared.found.Found.{Found}
use Rattle.yaml_lines.specs.declared.found.Found.TheVariants.{Here as here, Past as past, Nowhere as nowhere, Later as later}

-- the place in bytes of which the first says this, from the place in the others
abbrev pub place_by : Found → Option ℕ → Option ℕ
place_by here others = Some 0
place_by past others = Some 1
place_by nowhere others = None
place_by later others = option_map suc others

-- the place in bytes that begin with so many others
abbrev pub shifted : ℕ → Option ℕ → Option ℕ
shifted at None = None
shifted at (Some place) = Some (at + place)

-- the same from the byte at this place on
abbrev pub found_at : ℕ → Found → Option ℕ → Option ℕ
found_at at here others = Some at
found_at at past others = Some (at + 1)
found_at at nowhere others = None
found_at at later others = shifted (at + 1) others
