-- What turns stand for.
use Rattle.std.specs.Prelude.{◌≡◌, ℕ, IsTrue, List, [], length, nat_le, refl}
use Rattle.actor_turns.specs.declared.turns.Turns.{Turns}
use Rattle.actor_turns.specs.Course.{Step, Open, open_in, given_in}
use Rattle.actor_turns.specs.Kept.{HasKept, AreNumbered}

-- these tickets are open
pub record HasOpen (held : List Open) (turns : Turns) : Type 0 where
  pub kept : HasKept held turns.actors turns.lines
  pub numbered : AreNumbered held turns.given
  pub few : IsTrue (nat_le (length held) 4096)

-- after this history
pub record Stands (first : Turns) (history : List Step) (turns : Turns) : Type 0 where
  pub held : HasOpen (open_in history) turns
  pub given : turns.given ≡ given_in history
  pub used : turns.used ≡ length history

-- turns that were asked nothing stand for the empty history
pub opens : (first : Turns) → first.used ≡ 0 → Stands first [] first
opens first unused = record {
  held = record {
    kept = record { actors_are = first.fresh.no_actor unused; lines_are = first.fresh.no_line unused; count = first.fresh.none unused };
    numbered = record { once = λ ticket. refl; up_to = λ ticket more. refl };
    few = refl;
  };
  given = first.fresh.no_ticket unused;
  used = unused;
}
