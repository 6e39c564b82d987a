-- Which tickets are kept, by ticket and by actor.
use Rattle.std.specs.Prelude.{◌≡◌, ◌<◌, ◌==◌, ℕ, IsTrue, List, filter, length, nat_lt, Option, None}
use Rattle.std.specs.BTreeMap.{BTreeMap, btree_map_len, get}
use Rattle.std.specs.Ordering.{nat_cmp}
use Rattle.std.specs.declared.string.String.{String}
use Rattle.std.specs.declared.alloc.Global.{Global}
use Rattle.std.specs.declared.vec.Vec.{Vec}
use Rattle.actor_turns.specs.Course.{Open, actor_of, tickets_of}
use Rattle.actor_turns.specs.Lines.{line_at, line}

-- these tickets are kept
pub record HasKept (held : List Open) (actors : BTreeMap ℕ (List ℕ)) (lines : BTreeMap (String Global) (Vec ℕ Global)) : Type 0 where
  pub actors_are : (ticket : ℕ) → get nat_cmp actors ticket ≡ actor_of ticket held
  pub lines_are : (name : List ℕ) → line_at lines name ≡ line (tickets_of name held)
  pub count : btree_map_len actors ≡ length held

-- how often a ticket stands there
abbrev pub times : ℕ → List Open → ℕ
times ticket held = length (filter (λ (o : Open). o.ticket == ticket) held)

-- each ticket is open once at most, and none that is greater than the one that was given last
pub record AreNumbered (held : List Open) (given : ℕ) : Type 0 where
  pub once : (ticket : ℕ) → IsTrue (nat_lt (times ticket held) 2)
  pub up_to : (ticket : ℕ) → given < ticket → actor_of ticket held ≡ None
