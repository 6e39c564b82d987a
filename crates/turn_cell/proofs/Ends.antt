-- The first state of a cell, and its last.
use Rattle.std.proofs.Common.{◌≡◌, ℕ, zero, suc, ◌<◌, List, [], ◌∷◌, Option, Some, refl, sym, ap, subst, inl, arith}
use Rattle.std.proofs.lemmas.List.Elements.{All-nil}
use mathlib.Core.Option.{some, some-injective, some-ne-none}
use lib.ListN.{get_elem?}
use Rattle.atomic_table.specs.Table.{opening, Final, Seen}
use Rattle.turn_cell.specs.declared.entry.Entry.{Entry}
use Rattle.turn_cell.specs.declared.object.Object.{Ghosts}
use Rattle.turn_cell.specs.declared.view.Stage.TheVariants.{Idle}
use Rattle.turn_cell.specs.declared.view.View.{View}
use Rattle.turn_cell.specs.Play.{IsAloneView, IsSoundView, opening_view}
use Rattle.turn_cell.specs.Rule.{laid, working, living, Sits, IsMet, Rule}
use Rattle.turn_cell.proofs.Histories.{legal_none}
use Rattle.turn_cell.proofs.Known.{sound, alone_seen, alone_home}

module _ {O C R : Type 0} (object : Ghosts O C R) (first : O) where
  abbrev Opened : View O C R
  Opened = opening_view first

  only_one : (j : ℕ) (u : View O C R) → get_elem? (Opened ∷ []) j ≡ some u → (j ≡ 0) × (Opened ≡ u)
  only_one zero u e = (refl, some-injective Opened u e)
  only_one (suc j) u e = absurd (some-ne-none u (sym e))

  opened_sits : Sits object first [] (λ _. 0) 0 0 0 Opened
  opened_sits = record {
    first_is = refl;
    number_is = refl;
    root_is = refl;
    plain = λ no. absurd (no refl);
    has_seen = ([], refl);
    has_kept = ([], refl);
    own = refl;
    own_seen = refl;
    count = λ n e. absurd (cc);
    rests = λ _. refl;
    knows = tt;
  }

  pub opens : object.stands first [] first → Rule object first (opening (laid 0 0) (Some first ∷ []) (opening_view first))
  opens stands = record {
    log = [];
    owner = λ _. 0;
    ticket = 0;
    serving = 0;
    words = refl;
    few = omega arith;
    room = omega arith;
    held = refl;
    legal = legal_none object first;
    long = refl;
    made = All-nil (λ (entry : Entry C R). entry.seat < 1);
    each = λ j u at lives. let t = only_one j u at in subst (λ (z : ℕ × View O C R). Sits object first [] (λ _. 0) 0 0 z.0 z.1) (λ i. (sym t.0 i, t.1 i)) opened_sits;
    root = Opened;
    root_at = refl;
    rooted = record { lives = refl; made = refl; out = refl; parts = refl; met = All-nil (IsMet (Opened ∷ []) [] Opened) };
    whole = record { j = 0; v = Opened; at = refl; lives = refl; has = inl refl };
    home = inl record { now = first; there = refl; stands = stands };
  }

  pub opened_sound : object.stands first [] first → IsSoundView object first (opening_view first)
  opened_sound stands = sound object first (opening (laid 0 0) (Some first ∷ []) Opened) (opens stands) 0 Opened refl refl refl

  -- a root that is alone closes its cell: the object in the slot stands for what it has seen
  pub closes : (id : ℕ) (v : View O C R) (words : List ℕ) (slots : List (Option O)) → v.stage ≡ Idle → v.kept ≡ [] → IsAloneView v → Final (Seen (Rule object first) id v) words slots
      → (now : O) × (get_elem? slots 0 ≡ some (Some now)) × object.stands first v.seen now
  closes id v words slots idle done alone f = let s = f.0 in let r : Rule object first s = f.1.0 in let at = f.1.1 in let lives : living v.stage ≡ 1 = ap living idle in let home = alone_home object first s r id v at lives alone (ap working idle) in (
    home.now,
    f.4 0 (Some home.now) (ap (λ (hs : List (mathlib.Core.Option.Option (Option O))). get_elem? hs 0) home.there),
    subst (λ (l : List (Entry C R)). object.stands first l home.now) (sym (alone_seen object first s r id v at lives alone done)) home.stands,
  )
