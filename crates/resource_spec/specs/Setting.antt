-- Settings of a component, by name.
use Rattle.std.specs.Prelude.{ℕ, List, bytes_eq, find, option_map, Option}
use Rattle.resource_spec.specs.declared.setting.Setting.{Setting}

-- the value of the first setting of this name
abbrev pub setting_named : List ℕ → List Setting → Option (List ℕ)
setting_named name settings = option_map (λ (setting : Setting). setting.value) (find (λ (setting : Setting). bytes_eq setting.name name) settings)
