-- Walking over what a value holds.
use Rattle.std.proofs.Common.{◌≡◌, ◌≢◌, inl, inr, ℕ, suc, ◌+◌, ◌<◌, ◌≤◌, List, [], ◌∷◌, ◌++◌, length, Option, Some, None, refl, sym, ap, subst, ◌∙◌, arith, append_assoc}
use Rattle.std.specs.Prelude.{IfSome, MatchOption}
use Rattle.std.proofs.lemmas.Bool.{cases_lt}
use Rattle.json_text.specs.declared.spot.Spot.{Spot}
use Rattle.json_text.specs.declared.spot.Entry.{Entry}
use Rattle.json_text.specs.declared.doc.Doc.{Doc}
use Rattle.json_text.specs.declared.doc.Node.{Node}
use Rattle.json_text.specs.Forest.{Forest, empty, grows, count}
use Rattle.json_text.specs.Reading.{entries}
use Rattle.json_text.specs.Doc.{IsAfter, StandAt, StandsAt, Shows, Shallower, ForFirst}
use Rattle.json_text.specs.Visits.{IsFirst, IsNext, Goes, AreNodesOf, Ascends, IsVisited, HasValue}
use Rattle.json_text.proofs.Walks.{first_entry, no_entries, grows_some, own_entry, behind, beyond, row_below}

-- ---- what stands behind a value

module _ (doc : Doc) (n : ℕ) (s : Spot) (c l : Forest) (h : StandAt doc n (grows s c l)) where
  pub children_stand : StandAt doc (n + 1) c
  children_stand = record { depth = suc h.depth; others = entries h.depth l ++ h.others; are = behind doc n s c l h; end = row_below h.depth (suc h.depth) l h.others (omega arith) h.end }

  pub later_stand : StandAt doc (n + (1 + count c)) l
  later_stand = record { depth = h.depth; others = h.others; are = beyond doc n s c l h; end = h.end }

-- ---- one row from the same entries

no_row : (d : ℕ) (s : Spot) (c l : Forest) (o p : List Entry) → o ≡ entries d (grows s c l) ++ p → Shallower d o → ⊥
no_row d s c l [] p e h = omega (arith, ap length (e ∙ ap (λ x. x ++ p) (first_entry d s c l)))
no_row d s c l (x ∷ o) p e h =
    let cells : x ∷ o ≡ record { spot = s; depth = d; size = 1 + count c } ∷ ((entries (suc d) c ++ entries d l) ++ p) = e ∙ ap (λ x. x ++ p) (first_entry d s c l) in
    let head : x ≡ record { spot = s; depth = d; size = 1 + count c } = cc in
    omega (arith, h, ap (λ k. k.depth) head)

row_same : (d : ℕ) (f g : Forest) (o p : List Entry) → entries d f ++ o ≡ entries d g ++ p → Shallower d o → Shallower d p → (f ≡ g) × (o ≡ p)
row_same d empty empty o p e ho hp = (refl, sym (ap (λ x. x ++ o) (no_entries d)) ∙ e ∙ ap (λ x. x ++ p) (no_entries d))
row_same d empty (grows t b r) o p e ho hp = absurd (no_row d t b r o p (sym (ap (λ x. x ++ o) (no_entries d)) ∙ e) ho)
row_same d (grows s c l) empty o p e ho hp = absurd (no_row d s c l p o (sym (ap (λ x. x ++ p) (no_entries d)) ∙ sym e) hp)
row_same d (grows s c l) (grows t b r) o p e ho hp =
    let x : Entry = record { spot = s; depth = d; size = 1 + count c } in
    let y : Entry = record { spot = t; depth = d; size = 1 + count b } in
    let cells : x ∷ ((entries (suc d) c ++ entries d l) ++ o) ≡ y ∷ ((entries (suc d) b ++ entries d r) ++ p) =
    sym (ap (λ x. x ++ o) (first_entry d s c l)) ∙ e ∙ ap (λ x. x ++ p) (first_entry d t b r) in
    let head : x ≡ y = cc in
    let spots : s ≡ t = ap (λ z. z.spot) head in
    let tails : (entries (suc d) c ++ entries d l) ++ o ≡ (entries (suc d) b ++ entries d r) ++ p = cc in
    let inner = row_same (suc d) c b (entries d l ++ o) (entries d r ++ p) (sym (append_assoc (entries (suc d) c) (entries d l) o) ∙ tails ∙ append_assoc (entries (suc d) b) (entries d r) p) (row_below d (suc d) l o (omega arith) ho) (row_below d (suc d) r p (omega arith) hp) in
    let outer = row_same d l r o p inner.1 ho hp in
    (ap (λ x. grows x c l) spots ∙ ap (λ x. grows t x l) inner.0 ∙ ap (grows t b) outer.0, outer.1)

pub stands_same : (doc : Doc) (n : ℕ) (s t : Spot) (c b l r : Forest) → StandAt doc n (grows s c l) → StandAt doc n (grows t b r) → (c ≡ b) × (l ≡ r)
stands_same doc n s t c b l r h g =
    let some : Entry = record { spot = s; depth = 0; size = 0 } in
    let depth : g.depth ≡ h.depth = sym (ap (λ x. x.depth) (own_entry doc n t b r g some)) ∙ ap (λ x. x.depth) (own_entry doc n s c l h some) in
    let rows : entries h.depth (grows s c l) ++ h.others ≡ entries h.depth (grows t b r) ++ g.others = sym h.are ∙ g.are ∙ ap (λ d. entries d (grows t b r) ++ g.others) depth in
    let same : grows s c l ≡ grows t b r = (row_same h.depth (grows s c l) (grows t b r) h.others g.others rows h.end (subst (λ d. Shallower d g.others) depth g.end)).0 in
    let inner : c ≡ b = cc in
    let outer : l ≡ r = cc in
    (inner, outer)

-- ---- each node stands somewhere

found_in : (doc : Doc) (n : ℕ) (values : Forest) (m : ℕ) → StandAt doc m values → m ≤ n → n < m + count values → HasValue doc (record { number = n })
found_in doc n empty m h low high = absurd (omega (arith, low, high))
found_in doc n (grows s c l) m h low high = elim (cases_lt m n) [
  | inr here ↦ (let is : m ≡ n = omega (arith, low, here) in (s, c, l, subst (λ k. StandAt doc k (grows s c l)) is h))
  | inl past ↦ elim (cases_lt n (m + (1 + count c))) [
    | inl inside ↦ found_in doc n c (m + 1) (children_stand doc m s c l h) (omega (arith, past)) (omega (arith, inside))
    | inr beyond ↦ found_in doc n l (m + (1 + count c)) (later_stand doc m s c l h) beyond (omega (arith, high))
  ]
]

-- ---- the walk

abbrev nodes_of : Forest → ℕ → List Node
nodes_of empty n = []
nodes_of (grows s c l) n = record { number = n } ∷ nodes_of l (n + (1 + count c))

are_nodes : (doc : Doc) (values : Forest) (n : ℕ) → StandAt doc n values → AreNodesOf doc values (nodes_of values n)
are_nodes doc empty n h = tt
are_nodes doc (grows s c l) n h = (h, are_nodes doc l (n + (1 + count c)) (later_stand doc n s c l h))

-- what the rest of a row answers, `first` and `next` answer
first_is : (doc : Doc) (node : Node) (s : Spot) (c l : Forest) (found : Option Node) → StandsAt doc node (grows s c l) → MatchOption found (c ≡ empty) (λ m. StandsAt doc m c × (c ≢ empty)) → IsFirst doc node found
first_is doc node s c l found h m empty g = tt
first_is doc node s c l found h m (grows t b r) g = subst (λ f. MatchOption found (f ≡ empty) (λ k. StandsAt doc k f × (f ≢ empty))) (stands_same doc node.number s t c b l r h g).0 m

next_is : (doc : Doc) (node : Node) (s : Spot) (c l : Forest) (found : Option Node) → StandsAt doc node (grows s c l) → IfSome found (IsAfter node) → MatchOption found (l ≡ empty) (λ m. StandsAt doc m l × (l ≢ empty)) → IsNext doc node found
next_is doc node s c l found h after m = (after, follows)
  where
    follows : (values : Forest) → StandsAt doc node values → ForFirst values (λ spot children later. MatchOption found (later ≡ empty) (λ k. StandsAt doc k later × (later ≢ empty)))
    follows empty g = tt
    follows (grows t b r) g = subst (λ f. MatchOption found (f ≡ empty) (λ k. StandsAt doc k f × (f ≢ empty))) (stands_same doc node.number s t c b l r h g).1 m

goes_are : (doc : Doc) (nodes : List Node) (found : Option Node) (values : Forest) → MatchOption found (values ≡ empty) (λ m. StandsAt doc m values × (values ≢ empty)) → Goes doc found nodes → AreNodesOf doc values nodes
goes_are doc [] None values at g = subst (λ v. AreNodesOf doc v []) (sym at) tt
goes_are doc [] (Some m) values at g = absurd g
goes_are doc (node ∷ nodes) None values at g = absurd g
goes_are doc (node ∷ nodes) (Some m) empty at g = absurd (at.1 refl)
goes_are doc (node ∷ nodes) (Some m) (grows s c l) at g = (subst (λ k. StandsAt doc k (grows s c l)) (sym g.0) at.0, goes_are doc nodes g.1 l (g.2.1 (grows s c l) at.0) g.3)

ascend : (values : Forest) (n : ℕ) → Ascends (nodes_of values n)
ascend empty n = tt
ascend (grows s c empty) n = tt
ascend (grows s c (grows t b r)) n = (omega arith, ascend (grows t b r) (n + (1 + count c)))

-- a walk goes up
step_up : (here node other : Node) (next : Option Node) (doc : Doc) (nodes : List Node) → node ≡ here → IfSome next (IsAfter here) → Goes doc next (other ∷ nodes) → node.number < other.number
step_up here node other None doc nodes is after g = absurd g
step_up here node other (Some m) doc nodes is after g = omega (arith, after, ap (λ k. k.number) is, ap (λ k. k.number) g.0)

goes_up : (doc : Doc) (nodes : List Node) (found : Option Node) → Goes doc found nodes → Ascends nodes
goes_up doc [] found g = tt
goes_up doc (node ∷ nodes) None g = absurd g
goes_up doc (node ∷ []) (Some here) g = tt
goes_up doc (node ∷ other ∷ nodes) (Some here) g = (step_up here node other g.1 doc nodes g.0 g.2.0 g.3, goes_up doc (other ∷ nodes) g.1 g.3)

abbrev first_of : List Node → Option Node
first_of [] = None
first_of (node ∷ nodes) = Some node

first_above : (node : Node) (nodes : List Node) → Ascends (node ∷ nodes) → IfSome (first_of nodes) (IsAfter node) × Ascends nodes
first_above node [] h = (tt, tt)
first_above node (other ∷ nodes) h = (h.0, h.1)

-- each list of the nodes of a row that goes up is visited
are_visited : (doc : Doc) (values : Forest) (nodes : List Node) → AreNodesOf doc values nodes → Ascends nodes → MatchOption (first_of nodes) (values ≡ empty) (λ m. StandsAt doc m values × (values ≢ empty)) × Goes doc (first_of nodes) nodes
are_visited doc empty [] h up = (refl, tt)
are_visited doc empty (node ∷ nodes) h up = absurd h
are_visited doc (grows s c l) [] h up = absurd h
are_visited doc (grows s c l) (node ∷ nodes) h up =
    let above = first_above node nodes up in
    let behind = are_visited doc l nodes h.1 above.1 in
    ((h.0, grows_some s c l), (refl, first_of nodes, next_is doc node s c l (first_of nodes) h.0 above.0 behind.0, behind.1))

pub is_visited : (doc : Doc) (node : Node) (s : Spot) (c l : Forest) → StandsAt doc node (grows s c l) → IsVisited doc node c
is_visited doc node s c l h = record {
  items = nodes_of c (node.number + 1);
  are = are_nodes doc c (node.number + 1) (children_stand doc node.number s c l h);
  once = ascend c (node.number + 1);
  walk = λ nodes. (λ v. (goes_are doc nodes v.0 c (v.1 (grows s c l) h) v.2, goes_up doc nodes v.0 v.2), λ a. (let found = are_visited doc c nodes a.0 a.1 in (first_of nodes, first_is doc node s c l (first_of nodes) h found.0, found.1)));
}

pub has_value : (doc : Doc) (bytes : List ℕ) (node : Node) (shows : Shows doc bytes) → node.number < count shows.values → HasValue doc node
has_value doc bytes node shows h = found_in doc node.number shows.values 0 (shows.from_root (record { number = 0 }) refl) (omega arith) (omega (arith, h))
