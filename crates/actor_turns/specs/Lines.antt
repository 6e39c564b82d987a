-- The open tickets of each actor.
use Rattle.std.specs.Prelude.{ℕ, Bool, ◌==◌, List, [], ◌∷◌, Option, Some, None, filter, not, nat_lt}
use Rattle.std.specs.BTreeMap.{BTreeMap, get_by_text}
use Rattle.std.specs.Option.{option_map, unwrap_or}
use Rattle.std.specs.declared.string.String.{String}
use Rattle.std.specs.declared.alloc.Global.{Global}
use Rattle.std.specs.declared.vec.Vec.{Vec}

-- the tickets that stand under an actor's name, if something does
abbrev pub line_at : BTreeMap (String Global) (Vec ℕ Global) → List ℕ → Option (List ℕ)
line_at lines name = option_map (λ tickets. tickets.items) (get_by_text lines name)

abbrev pub tickets_at : BTreeMap (String Global) (Vec ℕ Global) → List ℕ → List ℕ
tickets_at lines name = unwrap_or (line_at lines name) []

-- a line has one ticket at least
abbrev pub line : List ℕ → Option (List ℕ)
line [] = None
line (ticket ∷ tickets) = Some (ticket ∷ tickets)

-- all tickets but this one
abbrev pub without : ℕ → List ℕ → List ℕ
without ticket tickets = filter (λ other. not (other == ticket)) tickets

-- the tickets that are less than this one
abbrev pub before : ℕ → List ℕ → List ℕ
before ticket tickets = filter (λ other. nat_lt other ticket) tickets
