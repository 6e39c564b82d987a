-- Facts of a value and of what it holds, at its node.
use Rattle.std.proofs.Common.{◌≡◌, ℕ, ◌+◌, ◌-◌, ◌<◌, ◌≤◌, Bool, true, false, List, length, refl, sym, ap, subst, ◌∙◌, arith, inl, inr}
use Rattle.std.proofs.lemmas.Bool.{cases_lt}
use Rattle.json_text.specs.declared.spot.Spot.{Spot}
use Rattle.json_text.specs.declared.spot.Entry.{Entry}
use Rattle.json_text.specs.declared.doc.Doc.{Doc}
use Rattle.json_text.specs.Forest.{Forest, empty, grows, count}
use Rattle.json_text.specs.Reading.{Holds}
use Rattle.json_text.specs.Shape.{is_holder, IsEmpty, AreInRow, levels, nesting, IsPlaced}
use Rattle.json_text.specs.Doc.{bytes_read, values_kept, StandAt, Shows}
use Rattle.json_text.proofs.Walks.{own_entry}
use Rattle.json_text.proofs.Visits.{children_stand, later_stand, stands_same}
use Rattle.json_text.proofs.Shapes.{text_in_row}
use Rattle.json_text.proofs.Depths.{low_text}
use Rattle.json_text.proofs.Placed.{shown}

-- a fact of all values at any depth, each with what it holds
abbrev pub EachValue : (Spot → Forest → Type 0) → Forest → Type 0
EachValue P empty = Unit {0}
EachValue P (grows spot children later) = P spot children × EachValue P children × EachValue P later

-- a node's value, and its fact
pub record ValueAt (P : Spot → Forest → Type 0) (doc : Doc) (n : ℕ) : Type 0 where
  pub spot : Spot
  pub children : Forest
  pub later : Forest
  pub stands : StandAt doc n (grows spot children later)
  pub fact : P spot children

pub value_in : (P : Spot → Forest → Type 0) (doc : Doc) (n : ℕ) (values : Forest) (m : ℕ) → EachValue P values → StandAt doc m values → m ≤ n → n < m + count values → ValueAt P doc n
value_in P doc n empty m facts h low high = absurd (omega (arith, low, high))
value_in P doc n (grows s c l) m facts h low high = elim (cases_lt m n) [
  | inr here ↦ (let is : m ≡ n = omega (arith, low, here) in record { spot = s; children = c; later = l; stands = subst (λ k. StandAt doc k (grows s c l)) is h; fact = facts.0 })
  | inl past ↦ elim (cases_lt n (m + (1 + count c))) [
    | inl inside ↦ value_in P doc n c (m + 1) facts.1 (children_stand doc m s c l h) (omega (arith, past)) (omega (arith, inside))
    | inr beyond ↦ value_in P doc n l (m + (1 + count c)) facts.2 (later_stand doc m s c l h) beyond (omega (arith, high))
  ]
]

-- the fact holds of the value that the node is seen to be
pub fact_at : (P : Spot → Forest → Type 0) (doc : Doc) (n : ℕ) (t : Spot) (b r : Forest) → ValueAt P doc n → StandAt doc n (grows t b r) → P t b
fact_at P doc n t b r at g =
    let some : Entry = record { spot = t; depth = 0; size = 0 } in
    let spots : at.spot ≡ t = sym (ap (λ e. e.spot) (own_entry doc n at.spot at.children at.later at.stands some)) ∙ ap (λ e. e.spot) (own_entry doc n t b r g some) in
    subst (λ x. P x b) spots (subst (λ x. P at.spot x) (stands_same doc n at.spot t at.children b at.later r at.stands g).0 at.fact)

-- ---- where the values of a text stand, and how deep they are nested

inner_low : (b : Bool) (c : Forest) → levels b (nesting c) ≤ 64 → (b ≡ false → IsEmpty c) → nesting c ≤ 64
unfolding nesting
inner_low true c low leaf = omega (arith, low)
inner_low false empty low leaf = omega arith
inner_low false (grows s c l) low leaf = absurd (leaf refl)

row_placed : (bytes : List ℕ) (names : Bool) (from to : ℕ) (values : Forest) → to ≤ length bytes → nesting values ≤ 64 → AreInRow names from to values → EachValue (IsPlaced bytes) values
unfolding nesting
row_placed bytes names from to empty le low h = tt
row_placed bytes names from to (grows s c l) le low h = (
  record { some = h.0.some; within = omega (arith, le, h.0.high); before = h.0.before; leaf = h.0.leaf; held = h.1; deep = omega (arith, low) },
  row_placed bytes _ (s.span.start + 1) (s.span.end - 1) c (omega (arith, le, h.0.high)) (inner_low (is_holder s.kind) c (omega (arith, low)) h.0.leaf) h.1,
  row_placed bytes names s.span.end to l le (omega (arith, low)) h.2,
)

pub placed : (doc : Doc) (bytes : List ℕ) (n : ℕ) → Shows doc bytes → n < length (values_kept doc) → ValueAt (IsPlaced bytes) doc n
placed doc bytes n shows inside =
    value_in (IsPlaced bytes) doc n shows.values 0 (row_placed bytes false 0 (length bytes) shows.values (omega arith) (low_text bytes shows.values shows.text shows.clean) (text_in_row bytes shows.values shows.text))
    (shows.from_root (record { number = 0 }) refl) (omega arith) (omega (arith, inside, shows.all))

-- what the document itself keeps
pub placed_in : (doc : Doc) (n : ℕ) → Holds (bytes_read doc) (values_kept doc) → n < length (values_kept doc) → ValueAt (IsPlaced (bytes_read doc)) doc n
placed_in doc n h inside = placed doc (bytes_read doc) n (shown doc h) inside
