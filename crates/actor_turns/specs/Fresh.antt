-- Turns that were asked nothing.
use Rattle.std.specs.Prelude.{◌≡◌, ℕ, List, Option, None}
use Rattle.std.specs.BTreeMap.{BTreeMap, btree_map_len, get}
use Rattle.std.specs.Ordering.{nat_cmp}
use Rattle.std.specs.declared.string.String.{String}
use Rattle.std.specs.declared.alloc.Global.{Global}
use Rattle.std.specs.declared.vec.Vec.{Vec}
use Rattle.actor_turns.specs.Lines.{line_at}

-- they have no tickets
pub record IsFresh (actors : BTreeMap ℕ (List ℕ)) (lines : BTreeMap (String Global) (Vec ℕ Global)) (given used : ℕ) : Type 0 where
  pub no_actor : used ≡ 0 → (ticket : ℕ) → get nat_cmp actors ticket ≡ None
  pub no_line : used ≡ 0 → (name : List ℕ) → line_at lines name ≡ None
  pub none : used ≡ 0 → btree_map_len actors ≡ 0
  pub no_ticket : used ≡ 0 → given ≡ 0
