-- What a reader of items in brackets holds.
use Rattle.std.specs.Prelude.{◌≡◌, ℕ, false, List, ◌∷◌, map, option_map}
use Rattle.yaml_lines.specs.declared.flow.Within.TheVariants.{Before as before}
use Rattle.yaml_lines.specs.declared.flow.Gathering.{Gathering}
use Rattle.yaml_lines.specs.declared.flow.Bracketed.{Bracketed}
use Rattle.yaml_lines.specs.Flow.{Gathered, gathered, gathered_none, pieces}
use Rattle.yaml_lines.specs.Shown.{item_shown}

abbrev pub gathering_shown : Gathering → Gathered
gathering_shown g = record { items = map item_shown g.items.items; out = g.out; bad = g.bad }

-- the items of a sequence in brackets have been gathered
pub record Brackets (b : Bracketed) (bytes : List ℕ) : Type 0 where
  pub items : gathering_shown b.gathering ≡ gathered gathered_none ((pieces (before false) bytes).first ∷ (pieces (before false) bytes).others)
  pub rest : option_map (λ r. r.now) b.rest ≡ (pieces (before false) bytes).rest
