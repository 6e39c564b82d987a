-- How high a balanced tree is, and what rotations and one more node make of it.
use Rattle.std.proofs.Common.{◌≡◌, inl, inr, ℕ, zero, suc, ◌+◌, ◌<◌, ◌≤◌, cond, ◌∷◌, refl, sym, ap, ◌∙◌, subst, arith, append_assoc, length-append}
use Rattle.std.proofs.Math.Nat.{pow-succ'}
use Rattle.std.proofs.lemmas.Bool.{cases_lt, lt-ltb, le-ltb}
use Rattle.keeper_core.specs.Shapes.{Shape, slots, height_of, IsBalanced, IsLow, left_lifted, right_lifted, left_outward, right_outward, IsLevel, IsRisen}
use Rattle.keeper_core.specs.Removal.{IsSunk}
use Rattle.keeper_core.specs.Shapes.Shape.{Bare, Fork}

-- a rotation keeps the nodes in order

pub left_lifted-slots : (before : Shape) (at : ℕ) (behind : Shape) → slots (left_lifted before at behind) ≡ slots (Fork before at behind)
left_lifted-slots Bare at behind = refl
left_lifted-slots (Fork before top middle) at behind = sym (append_assoc (slots before) (top ∷ slots middle) (at ∷ slots behind))

pub right_lifted-slots : (before : Shape) (at : ℕ) (behind : Shape) → slots (right_lifted before at behind) ≡ slots (Fork before at behind)
right_lifted-slots before at Bare = refl
right_lifted-slots before at (Fork middle top behind) = append_assoc (slots before) (at ∷ slots middle) (top ∷ slots behind)

-- which child is lifted

pub left_outward_lifts : (before : Shape) (slot : ℕ) (behind : Shape) → height_of before < height_of behind → left_outward (Fork before slot behind) ≡ right_lifted before slot behind
left_outward_lifts before slot behind less = ap (λ b. cond b (right_lifted before slot behind) (Fork before slot behind)) (lt-ltb (height_of before) (height_of behind) less)

pub left_outward_stays : (before : Shape) (slot : ℕ) (behind : Shape) → height_of behind ≤ height_of before → left_outward (Fork before slot behind) ≡ Fork before slot behind
left_outward_stays before slot behind most = ap (λ b. cond b (right_lifted before slot behind) (Fork before slot behind)) (le-ltb (height_of before) (height_of behind) most)

pub right_outward_lifts : (before : Shape) (slot : ℕ) (behind : Shape) → height_of behind < height_of before → right_outward (Fork before slot behind) ≡ left_lifted before slot behind
right_outward_lifts before slot behind less = ap (λ b. cond b (left_lifted before slot behind) (Fork before slot behind)) (lt-ltb (height_of behind) (height_of before) less)

pub right_outward_stays : (before : Shape) (slot : ℕ) (behind : Shape) → height_of before ≤ height_of behind → right_outward (Fork before slot behind) ≡ Fork before slot behind
right_outward_stays before slot behind most = ap (λ b. cond b (left_lifted before slot behind) (Fork before slot behind)) (le-ltb (height_of behind) (height_of before) most)

pub left_outward-slots : (shape : Shape) → slots (left_outward shape) ≡ slots shape
left_outward-slots Bare = refl
left_outward-slots (Fork before slot behind) = elim (cases_lt (height_of before) (height_of behind)) [
  | inl less ↦ ap slots (left_outward_lifts before slot behind less) ∙ right_lifted-slots before slot behind
  | inr most ↦ ap slots (left_outward_stays before slot behind most)
]

pub right_outward-slots : (shape : Shape) → slots (right_outward shape) ≡ slots shape
right_outward-slots Bare = refl
right_outward-slots (Fork before slot behind) = elim (cases_lt (height_of behind) (height_of before)) [
  | inl less ↦ ap slots (right_outward_lifts before slot behind less) ∙ left_lifted-slots before slot behind
  | inr most ↦ ap slots (right_outward_stays before slot behind most)
]

-- where the left side is two higher than the right one

left_once : (low : Shape) (slot : ℕ) (mid : Shape) (at : ℕ) (behind : Shape) → IsBalanced (Fork low slot mid) → IsBalanced behind → height_of (Fork low slot mid) ≡ height_of behind + 2 → height_of mid ≤ height_of low → IsLevel (Fork low slot mid) behind (Fork low slot (Fork mid at behind))
left_once low slot mid at behind b f high most = record {
  balanced = (omega (arith, high, most, b.0, b.1.0), (omega (arith, high, most, b.0, b.1.0), (b.1.1.0, (omega (arith, high, most, b.0, b.1.0), (omega (arith, high, most, b.0, b.1.0), (b.1.1.1, f))))));
  least = omega (arith, high, most, b.0, b.1.0);
  most = omega (arith, high, most, b.0, b.1.0);
}

left_twice : (low : Shape) (slot : ℕ) (mid : Shape) (at : ℕ) (behind : Shape) → IsBalanced (Fork low slot mid) → IsBalanced behind → height_of (Fork low slot mid) ≡ height_of behind + 2 → height_of low < height_of mid → IsLevel (Fork low slot mid) behind (left_lifted (right_lifted low slot mid) at behind)
left_twice low slot Bare at behind b f high less = absurd (omega (arith, less))
left_twice low slot (Fork one top two) at behind b f high less = record {
  balanced = (
    omega (arith, high, less, b.0, b.1.0, b.1.1.1.0, b.1.1.1.1.0),
    (
      omega (arith, high, less, b.0, b.1.0, b.1.1.1.0, b.1.1.1.1.0),
      (
        (omega (arith, high, less, b.0, b.1.0, b.1.1.1.0, b.1.1.1.1.0), (omega (arith, high, less, b.0, b.1.0, b.1.1.1.0, b.1.1.1.1.0), (b.1.1.0, b.1.1.1.1.1.0))),
        (omega (arith, high, less, b.0, b.1.0, b.1.1.1.0, b.1.1.1.1.0), (omega (arith, high, less, b.0, b.1.0, b.1.1.1.0, b.1.1.1.1.0), (b.1.1.1.1.1.1, f))),
      ),
    ),
  );
  least = omega (arith, high, less, b.0, b.1.0, b.1.1.1.0, b.1.1.1.1.0);
  most = omega (arith, high, less, b.0, b.1.0, b.1.1.1.0, b.1.1.1.1.0);
}

pub left_level : (before : Shape) (at : ℕ) (behind : Shape) → IsBalanced before → IsBalanced behind → height_of before ≡ height_of behind + 2 → IsLevel before behind (left_lifted (left_outward before) at behind)
left_level Bare at behind b f high = absurd (omega (arith, high))
left_level (Fork low slot mid) at behind b f high = elim (cases_lt (height_of low) (height_of mid)) [
  | inl less ↦ subst (λ shape. IsLevel (Fork low slot mid) behind (left_lifted shape at behind)) (sym (left_outward_lifts low slot mid less)) (left_twice low slot mid at behind b f high less)
  | inr most ↦ subst (λ shape. IsLevel (Fork low slot mid) behind (left_lifted shape at behind)) (sym (left_outward_stays low slot mid most)) (left_once low slot mid at behind b f high most)
]

-- where the right side is two higher than the left one

right_once : (before : Shape) (at : ℕ) (mid : Shape) (slot : ℕ) (high : Shape) → IsBalanced before → IsBalanced (Fork mid slot high) → height_of (Fork mid slot high) ≡ height_of before + 2 → height_of mid ≤ height_of high → IsLevel before (Fork mid slot high) (Fork (Fork before at mid) slot high)
right_once before at mid slot high b f tall most = record {
  balanced = (omega (arith, tall, most, f.0, f.1.0), (omega (arith, tall, most, f.0, f.1.0), ((omega (arith, tall, most, f.0, f.1.0), (omega (arith, tall, most, f.0, f.1.0), (b, f.1.1.0))), f.1.1.1)));
  least = omega (arith, tall, most, f.0, f.1.0);
  most = omega (arith, tall, most, f.0, f.1.0);
}

right_twice : (before : Shape) (at : ℕ) (mid : Shape) (slot : ℕ) (high : Shape) → IsBalanced before → IsBalanced (Fork mid slot high) → height_of (Fork mid slot high) ≡ height_of before + 2 → height_of high < height_of mid → IsLevel before (Fork mid slot high) (right_lifted before at (left_lifted mid slot high))
right_twice before at Bare slot high b f tall less = absurd (omega (arith, less))
right_twice before at (Fork one top two) slot high b f tall less = record {
  balanced = (
    omega (arith, tall, less, f.0, f.1.0, f.1.1.0.0, f.1.1.0.1.0),
    (
      omega (arith, tall, less, f.0, f.1.0, f.1.1.0.0, f.1.1.0.1.0),
      (
        (omega (arith, tall, less, f.0, f.1.0, f.1.1.0.0, f.1.1.0.1.0), (omega (arith, tall, less, f.0, f.1.0, f.1.1.0.0, f.1.1.0.1.0), (b, f.1.1.0.1.1.0))),
        (omega (arith, tall, less, f.0, f.1.0, f.1.1.0.0, f.1.1.0.1.0), (omega (arith, tall, less, f.0, f.1.0, f.1.1.0.0, f.1.1.0.1.0), (f.1.1.0.1.1.1, f.1.1.1))),
      ),
    ),
  );
  least = omega (arith, tall, less, f.0, f.1.0, f.1.1.0.0, f.1.1.0.1.0);
  most = omega (arith, tall, less, f.0, f.1.0, f.1.1.0.0, f.1.1.0.1.0);
}

pub right_level : (before : Shape) (at : ℕ) (behind : Shape) → IsBalanced before → IsBalanced behind → height_of behind ≡ height_of before + 2 → IsLevel before behind (right_lifted before at (right_outward behind))
right_level before at Bare b f tall = absurd (omega (arith, tall))
right_level before at (Fork mid slot high) b f tall = elim (cases_lt (height_of high) (height_of mid)) [
  | inl less ↦ subst (λ shape. IsLevel before (Fork mid slot high) (right_lifted before at shape)) (sym (right_outward_lifts mid slot high less)) (right_twice before at mid slot high b f tall less)
  | inr most ↦ subst (λ shape. IsLevel before (Fork mid slot high) (right_lifted before at shape)) (sym (right_outward_stays mid slot high most)) (right_once before at mid slot high b f tall most)
]

-- where they differ by one at most
pub is_level : (before : Shape) (at : ℕ) (behind : Shape) → IsBalanced before → IsBalanced behind → height_of before ≤ height_of behind + 1 → height_of behind ≤ height_of before + 1 → IsLevel before behind (Fork before at behind)
is_level before at behind b f most least = record { balanced = (most, (least, (b, f))); least = omega arith; most = omega arith }

-- a side with one node more

pub risen_left : (before grown : Shape) (at : ℕ) (behind result : Shape) → IsBalanced (Fork before at behind) → IsRisen before grown → (IsBalanced grown → IsBalanced behind → height_of grown ≤ height_of behind + 2 → height_of behind ≤ height_of grown + 2 → IsLevel grown behind result)
    → (height_of grown ≤ height_of behind + 1 → height_of behind ≤ height_of grown + 1 → result ≡ Fork grown at behind) → IsRisen (Fork before at behind) result
risen_left before grown at behind result b r level stays =
    let now : IsLevel grown behind result = level r.balanced b.1.1.1 (omega (arith, r.most, b.0)) (omega (arith, r.least, b.1.0)) in
    record {
      balanced = now.balanced;
      least = elim (cases_lt (height_of behind + 1) (height_of grown)) [
        | inl more ↦ omega (arith, more, now.least, r.most, b.0, b.1.0)
        | inr few ↦ omega (arith, ap height_of (stays few (omega (arith, r.least, b.1.0))), r.least)
      ];
      most = omega (arith, now.most, r.most);
    }

pub risen_right : (before : Shape) (at : ℕ) (behind grown result : Shape) → IsBalanced (Fork before at behind) → IsRisen behind grown → (IsBalanced before → IsBalanced grown → height_of before ≤ height_of grown + 2 → height_of grown ≤ height_of before + 2 → IsLevel before grown result)
    → (height_of before ≤ height_of grown + 1 → height_of grown ≤ height_of before + 1 → result ≡ Fork before at grown) → IsRisen (Fork before at behind) result
risen_right before at behind grown result b r level stays =
    let now : IsLevel before grown result = level b.1.1.0 r.balanced (omega (arith, r.least, b.0)) (omega (arith, r.most, b.1.0)) in
    record {
      balanced = now.balanced;
      least = elim (cases_lt (height_of before + 1) (height_of grown)) [
        | inl more ↦ omega (arith, more, now.least, r.most, b.0, b.1.0)
        | inr few ↦ omega (arith, ap height_of (stays (omega (arith, r.least, b.0)) few), r.least)
      ];
      most = omega (arith, now.most, r.most);
    }

-- a side with one node fewer; another node may stand between the sides then

pub sunk_left : (before sunk : Shape) (at : ℕ) (behind result : Shape) → IsBalanced (Fork before at behind) → IsSunk before sunk → (IsBalanced sunk → IsBalanced behind → height_of sunk ≤ height_of behind + 2 → height_of behind ≤ height_of sunk + 2 → IsLevel sunk behind result)
    → (height_of sunk ≤ height_of behind + 1 → height_of behind ≤ height_of sunk + 1 → result ≡ Fork sunk at behind) → IsSunk (Fork before at behind) result
sunk_left before sunk at behind result b s level stays =
    let now : IsLevel sunk behind result = level s.balanced b.1.1.1 (omega (arith, s.most, b.0)) (omega (arith, s.least, b.1.0)) in
    record {
      balanced = now.balanced;
      least = elim (cases_lt (height_of sunk + 1) (height_of behind)) [
        | inl more ↦ omega (arith, more, now.least, s.least, s.most, b.0, b.1.0)
        | inr few ↦ omega (arith, ap height_of (stays (omega (arith, s.most, b.0)) few), s.least)
      ];
      most = omega (arith, now.most, s.most);
    }

pub sunk_right : (before : Shape) (at : ℕ) (behind : Shape) (top : ℕ) (sunk result : Shape) → IsBalanced (Fork before at behind) → IsSunk behind sunk → (IsBalanced before → IsBalanced sunk → height_of before ≤ height_of sunk + 2 → height_of sunk ≤ height_of before + 2 → IsLevel before sunk result)
    → (height_of before ≤ height_of sunk + 1 → height_of sunk ≤ height_of before + 1 → result ≡ Fork before top sunk) → IsSunk (Fork before at behind) result
sunk_right before at behind top sunk result b s level stays =
    let now : IsLevel before sunk result = level b.1.1.0 s.balanced (omega (arith, s.least, b.0)) (omega (arith, s.most, b.1.0)) in
    record {
      balanced = now.balanced;
      least = elim (cases_lt (height_of sunk + 1) (height_of before)) [
        | inl more ↦ omega (arith, more, now.least, s.least, s.most, b.0, b.1.0)
        | inr few ↦ omega (arith, ap height_of (stays few (omega (arith, s.most, b.1.0))), s.least)
      ];
      most = omega (arith, now.most, s.most);
    }

-- a side that is all there is

pub alone_left : (before : Shape) (at : ℕ) (behind : Shape) → behind ≡ Bare → IsBalanced (Fork before at behind) → IsSunk (Fork before at behind) before
alone_left before at behind is b = record { balanced = b.1.1.0; least = omega (arith, ap height_of is); most = omega arith }

pub alone_right : (before : Shape) (at : ℕ) (behind : Shape) → before ≡ Bare → IsBalanced (Fork before at behind) → IsSunk (Fork before at behind) behind
alone_right before at behind is b = record { balanced = b.1.1.1; least = omega (arith, ap height_of is); most = omega arith }

-- no way down is long

pub is_low : (shape : Shape) → IsBalanced shape → IsLow shape
is_low Bare b zero h = omega arith
is_low Bare b (suc k) h = absurd (omega (arith, h))
is_low (Fork before slot behind) b zero h = omega arith
is_low (Fork before slot behind) b (suc k) h = omega (arith, pow-succ' 2 k, length-append (slots before) (slot ∷ slots behind), is_low before b.1.1.0 k (omega (arith, h, b.0, b.1.0)), is_low behind b.1.1.1 k (omega (arith, h, b.0, b.1.0)))
