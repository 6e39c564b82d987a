-- Aims of different subscriptions.
use Rattle.std.proofs.Common.{◌≡◌, ◌≢◌, ℕ, suc, Bool, false, List, [], ◌∷◌, refl, sym, arith}
use Rattle.std.specs.Prelude.{◌==◌, ◌||◌}
use Rattle.std.specs.List.{All, AllPairs}
use Rattle.std.proofs.lemmas.Bool.{or_from, ne_eqb}
use Rattle.std.proofs.lemmas.List.Elements.{All-head, All-tail}
use Rattle.ledger_core.specs.declared.plan.Aim.{Aim}

-- one of the aims is of this subscription
abbrev pub has_sub : ℕ → List Aim → Bool
has_sub sub [] = false
has_sub sub (aim ∷ aims) = (aim.sub == sub) || has_sub sub aims

-- no subscription stands twice
abbrev pub AreOnce : List Aim → Type 0
AreOnce [] = Unit {0}
AreOnce (aim ∷ aims) = (has_sub aim.sub aims ≡ false) × AreOnce aims

has_not : (sub : ℕ) (aims : List Aim) → All (λ (a : Aim). sub ≢ a.sub) aims → has_sub sub aims ≡ false
has_not sub [] others = refl
has_not sub (aim ∷ aims) others = or_from _ _ (ne_eqb aim.sub sub (λ e. All-head (λ (a : Aim). sub ≢ a.sub) aim aims others (sym e))) (has_not sub aims (All-tail (λ (a : Aim). sub ≢ a.sub) aim aims others))

pub are_once : (aims : List Aim) → AllPairs (λ (a b : Aim). a.sub ≢ b.sub) aims → AreOnce aims
are_once [] pairs = tt
are_once (aim ∷ aims) pairs = (
  has_not aim.sub aims (λ k d lt. pairs 0 (suc k) d (omega arith) (omega arith)),
  are_once aims (λ i j d lt within. pairs (suc i) (suc j) d (omega arith) (omega arith)),
)
