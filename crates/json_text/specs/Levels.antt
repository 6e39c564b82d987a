-- How deep values that are kept stand.
use Rattle.std.specs.Prelude.{◌≡◌, ℕ, zero, suc, ◌-◌, nat_lt, max, if◌then◌else◌, Option, Some, None, MatchOption, List, [], ◌∷◌}
use Rattle.json_text.specs.declared.spot.Spot.{Spot}
use Rattle.json_text.specs.declared.spot.Entry.{Entry}
use Rattle.json_text.specs.declared.doc.Doc.{Doc}
use Rattle.json_text.specs.declared.doc.Node.{Node}
use Rattle.json_text.specs.Forest.{Forest, empty, grows}
use Rattle.json_text.specs.Shape.{is_holder}
use Rattle.json_text.specs.Doc.{StandsAt}

-- of the first list or map below a depth
abbrev pub levels_below : ℕ → List Entry → ℕ
levels_below depth [] = 0
levels_below depth (entry ∷ others) =
    if nat_lt depth entry.depth then max (if is_holder entry.spot.kind then entry.depth - depth else 0) (levels_below depth others) else 0

-- the one, or else the other
abbrev pub or_else : Option Spot → Option Spot → Option Spot
or_else None other = other
or_else (Some spot) other = Some spot

-- the first list or map, in the order of the text, that stands inside so many others
unfoldable pub first_holder : ℕ → Forest → Option Spot
first_holder depth empty = None
first_holder zero (grows spot children later) = if is_holder spot.kind then Some spot else first_holder zero later
first_holder (suc depth) (grows spot children later) = or_else (first_holder depth children) (first_holder (suc depth) later)

-- the node is that one's
abbrev pub IsFirstHolder : Doc → ℕ → Forest → Option Node → Type 0
IsFirstHolder doc depth values found =
    MatchOption found (first_holder depth values ≡ None) (λ n. (spot : Spot) (children later : Forest) → StandsAt doc n (grows spot children later) → first_holder depth values ≡ Some spot)
