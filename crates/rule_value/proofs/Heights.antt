-- The steps that a tree stands for keep within the height of the stack.
use Rattle.std.proofs.Common.{◌≡◌, ◌∙◌, ap, sym, ℕ, ◌+◌, ◌-◌, ◌*◌, ◌≤◌, List, [], ◌∷◌, ◌++◌, refl, subst, arith}
use Rattle.std.specs.Prelude.{Bool, true, false, ◌&&◌, nat_le}
use Rattle.rule_value.specs.declared.op.Op.{Op}
use Rattle.rule_value.specs.declared.op.Op.TheVariants as ops
use Rattle.rule_value.specs.Trees
use Rattle.rule_value.specs.Trees.{Level, Tree, levels}
use Rattle.rule_value.specs.Values.{names_of, path_names}
use Rattle.rule_value.specs.Codes.{code, taken, left, fits, has_utf8, are_utf8}

-- one step from a height to the next
pub record Steps (op : Op) (height next : ℕ) : Type 0 where
  pub enough : taken op ≤ height
  pub leads : next + taken op ≡ height + left op
  pub within : next ≤ 132

-- steps lead from one height to another
abbrev pub Climbs : ℕ → List Op → ℕ → Type 0
Climbs height [] end = height ≡ end
Climbs height (op ∷ later) end = (next : ℕ) × Steps op height next × Climbs next later end

climbs_on : (height : ℕ) (first next : List Op) (between end : ℕ) → Climbs height first between → Climbs between next end → Climbs height (first ++ next) end
climbs_on height [] next between end one two = subst (λ h. Climbs h next end) (sym one) two
climbs_on height (op ∷ first) next between end one two = (one.0, one.1, climbs_on one.0 first next between end one.2 two)

three : {a b c : Bool} → a ≡ true → b ≡ true → c ≡ true → (a && b && c) ≡ true
three one two last = rw one (rw two last)

is_le : (a b : ℕ) → a ≤ b → nat_le a b ≡ true
is_le a b h = grind arith

fits_so : (height : ℕ) (all : List Op) → Climbs height all 1 → fits height all ≡ true
fits_so height [] climbs = rw climbs refl
fits_so height (op ∷ later) climbs =
    let same : height - taken op + left op ≡ climbs.0 = omega (arith, climbs.1.leads, climbs.1.enough) in
    three (is_le (taken op) height climbs.1.enough) (is_le (height - taken op + left op) 132 (rw same climbs.1.within)) (rw same (fits_so climbs.0 later climbs.2))

-- how many values more than those of its brackets the steps of a level put there
abbrev pub above : Level → ℕ
above Trees.or = 4
above Trees.and = 3
above Trees.rel = 2
above Trees.list = 0
above Trees.items = 4
above Trees.unary = 1
above Trees.post = 1
above Trees.round = 0
above Trees.atom = 1
above Trees.path = 1

-- lists and their items leave the height as it is
abbrev pub ends_at : Level → ℕ → ℕ
ends_at Trees.list height = height
ends_at Trees.items height = height
ends_at level height = height + 1

-- below a list stand what is looked for, and whether it was found
abbrev pub low : Level → ℕ
low Trees.list = 2
low Trees.items = 2
low level = 0

abbrev pub Stays : (level : Level) → Tree level → Type 0
Stays level tree = (height : ℕ) → low level ≤ height → height + 4 * levels tree + above level ≤ 132 → Climbs height (code tree) (ends_at level height)

-- one step
once : (op : Op) (height next : ℕ) → taken op ≤ height → next + taken op ≡ height + left op → next ≤ 132 → Climbs height (op ∷ []) next
once op height next enough leads within = (next, record { enough = enough; leads = leads; within = within }, refl)

of_two : (first second : List Op) (op : Op) (height : ℕ) → taken op ≡ 2 → left op ≡ 1 → height + 1 ≤ 132 → Climbs height first (height + 1) → Climbs (height + 1) second (height + 1 + 1) → Climbs height (first ++ (second ++ op ∷ [])) (height + 1)
of_two first second op height takes leaves within one two = climbs_on height first (second ++ op ∷ []) (height + 1) (height + 1) one (climbs_on (height + 1) second (op ∷ []) (height + 1 + 1) (height + 1) two (once op (height + 1 + 1) (height + 1) (omega (arith, takes)) (omega (arith, takes, leaves)) within))

of_one : (first : List Op) (op : Op) (height : ℕ) → taken op ≡ 1 → left op ≡ 1 → height + 1 ≤ 132 → Climbs height first (height + 1) → Climbs height (first ++ op ∷ []) (height + 1)
of_one first op height takes leaves within one = climbs_on height first (op ∷ []) (height + 1) (height + 1) one (once op (height + 1) (height + 1) (omega (arith, takes)) (omega (arith, takes, leaves)) within)

new : (op : Op) (height : ℕ) → taken op ≡ 0 → left op ≡ 1 → height + 1 ≤ 132 → Climbs height (op ∷ []) (height + 1)
new op height takes leaves within = once op height (height + 1) (omega (arith, takes)) (omega (arith, takes, leaves)) within

pathless : (tree : Tree Trees.path) → levels tree ≡ 0
pathless (Trees.steps all) = refl

pub climbs : {level : Level} (tree : Tree level) → Stays level tree
climbs (Trees.or_of a) = λ h l w. climbs a h (omega arith) (omega (arith, w))
climbs (Trees.either a b) = λ h l w. of_two (code a) (code b) ops.Either h refl refl (omega (arith, w)) (climbs a h (omega arith) (omega (arith, w))) (climbs b (h + 1) (omega arith) (omega (arith, w)))
climbs (Trees.and_of a) = λ h l w. climbs a h (omega arith) (omega (arith, w))
climbs (Trees.both a b) = λ h l w. of_two (code a) (code b) ops.Both h refl refl (omega (arith, w)) (climbs a h (omega arith) (omega (arith, w))) (climbs b (h + 1) (omega arith) (omega (arith, w)))
climbs (Trees.rel_of a) = λ h l w. climbs a h (omega arith) (omega (arith, w))
climbs (Trees.test relation a b) = λ h l w. of_two (code a) (code b) (ops.Test relation) h refl refl (omega (arith, w)) (climbs a h (omega arith) (omega (arith, w))) (climbs b (h + 1) (omega arith) (omega (arith, w)))
climbs (Trees.choice a b) = λ h l w. climbs_on h (code a) (ops.Begin ∷ (code b ++ ops.Chosen ∷ [])) (h + 1) (h + 1) (climbs a h (omega arith) (omega (arith, w))) (
  h + 1 + 1,
  record { enough = omega arith; leads = omega arith; within = omega (arith, w) },
  climbs_on (h + 1 + 1) (code b) (ops.Chosen ∷ []) (h + 1 + 1) (h + 1) (climbs b (h + 1 + 1) (omega arith) (omega (arith, w))) (once ops.Chosen (h + 1 + 1) (h + 1) (omega arith) (omega arith) (omega (arith, w))),
)
climbs Trees.no_items = λ h l w. refl
climbs (Trees.some_items a) = λ h l w. climbs a h l (omega (arith, w))
climbs (Trees.first_item a) = λ h l w. climbs_on h (code a) (ops.Item ∷ []) (h + 1) h (climbs a h (omega arith) (omega (arith, w))) (once ops.Item (h + 1) h (omega (arith, l)) (omega arith) (omega (arith, w)))
climbs (Trees.next_item a b) = λ h l w. climbs_on h (code a) (code b ++ ops.Item ∷ []) h h (climbs a h l (omega (arith, w)))
    (climbs_on h (code b) (ops.Item ∷ []) (h + 1) h (climbs b h (omega arith) (omega (arith, w))) (once ops.Item (h + 1) h (omega (arith, l)) (omega arith) (omega (arith, w))))
climbs (Trees.unary_of a) = λ h l w. climbs a h (omega arith) (omega (arith, w))
climbs (Trees.negated a) = λ h l w. of_one (code a) ops.Not h refl refl (omega (arith, w)) (climbs a h (omega arith) (omega (arith, w)))
climbs (Trees.post_of a) = λ h l w. climbs a h (omega arith) (omega (arith, w))
climbs (Trees.called call a b) = λ h l w. of_two (code a) (code b) (ops.Called call) h refl refl (omega (arith, w)) (climbs a h (omega arith) (omega (arith, w))) (climbs b (h + 1) (omega arith) (omega (arith, w)))
climbs (Trees.rounded a) = λ h l w. climbs a h (omega arith) (omega (arith, w))
climbs (Trees.group a) = λ h l w. climbs a h (omega arith) (omega (arith, w))
climbs (Trees.text held) = λ h l w. new (ops.Text held) h refl refl (omega (arith, w))
climbs (Trees.number whole) = λ h l w. new (ops.Number whole) h refl refl (omega (arith, w))
climbs (Trees.flag on) = λ h l w. new (ops.Flag on) h refl refl (omega (arith, w))
climbs Trees.null = λ h l w. new ops.Null h refl refl (omega (arith, w))
climbs (Trees.member a) = λ h l w. climbs a h (omega arith) (omega (arith, w, pathless a))
climbs (Trees.has a) = λ h l w. new (ops.Has (path_names a)) h refl refl (omega (arith, w))
climbs (Trees.int a) = λ h l w. of_one (code a) ops.ToInt h refl refl (omega (arith, w)) (climbs a h (omega arith) (omega (arith, w)))
climbs (Trees.steps all) = λ h l w. new (ops.Member (names_of all)) h refl refl (omega (arith, w))

-- the steps of a rule
pub rule_fits : (tree : Tree Trees.or) (all : List Op) → levels tree ≤ 32 → all ≡ code tree → fits 0 all ≡ true
rule_fits tree all within is = ap (fits 0) is ∙ fits_so 0 (code tree) (climbs tree 0 (omega arith) (omega (arith, within)))

all_of : (a b c : Bool) → (a && b && c) ≡ true → (a ≡ true) × (b ≡ true) × (c ≡ true)
all_of true true c h = (refl, refl, h)
all_of true false c h = let bad : ⊥ = cc in absurd bad
all_of false true c h = let bad : ⊥ = cc in absurd bad
all_of false false c h = let bad : ⊥ = cc in absurd bad

le_from : (a b : ℕ) → nat_le a b ≡ true → a ≤ b
le_from a b h = grind arith

-- what fits has room for its first step
pub fits_next : (height : ℕ) (op : Op) (later : List Op) → fits height (op ∷ later) ≡ true → (taken op ≤ height) × (height - taken op + left op ≤ 132) × (fits (height - taken op + left op) later ≡ true)
fits_next height op later h =
    let parts = all_of (nat_le (taken op) height) (nat_le (height - taken op + left op) 132) (fits (height - taken op + left op) later) h in
    (le_from (taken op) height parts.0, le_from (height - taken op + left op) 132 parts.1, parts.2)

both_true : (a b : Bool) → (a && b) ≡ true → (a ≡ true) × (b ≡ true)
both_true true b h = (refl, h)
both_true false b h = let bad : ⊥ = cc in absurd bad

-- the first of steps whose texts are UTF-8, and those behind it
pub utf8_next : (op : Op) (later : List Op) → are_utf8 (op ∷ later) ≡ true → (has_utf8 op ≡ true) × (are_utf8 later ≡ true)
utf8_next op later h = both_true (has_utf8 op) (are_utf8 later) h
