-- A tree in one list, whose last node moves to the place of one that was taken out.
use Rattle.std.proofs.Common.{◌≡◌, ◌≢◌, ◌⊎◌, inl, inr, ℕ, suc, ◌-◌, ◌<◌, ◌≤◌, ◌==◌, min, max, cond, List, [], ◌∷◌, ◌++◌, length, map, get_or, set, swap_remove, Option, Some, refl, sym, ap, ◌∙◌, subst, arith}
use Rattle.std.specs.Prelude.{slice_get, option_map}
use Rattle.std.proofs.lemmas.Bool.{cases_lt}
use Rattle.std.proofs.lemmas.Bool.Decides.{eqb_tells}
use Rattle.std.proofs.lemmas.List.{map-append, length-take-le, length-set, get_or-take, get_or-set_same, get_or-set_other}
use Rattle.std.proofs.lemmas.Option.{slice_get_past, slice_get_cases, slice_get-get_or}
use Rattle.keeper_core.specs.Tree.{last_moment}
use Rattle.keeper_core.specs.Shapes.{Shape, none, slots, height_of, times, left_in, right_in, parent_in, until_in, least_in, height_in, left_at, right_at, parent_at, until_at, least_at, height_at, least_below, HasParent, Holds, Proper, IsBalanced}
use Rattle.keeper_core.specs.Shapes.Shape.{Bare, Fork}
use Rattle.keeper_core.specs.Removal.{moved, moved_in, with_moved, Refilled, Relinked}
use Rattle.keeper_core.specs.Fields.{Rewritten, with_parent}
use Rattle.keeper_core.specs.declared.links.Link.{Link}
use Rattle.keeper_core.proofs.Retimed.{Near, near, up, higher}
use Rattle.keeper_core.proofs.Shapes.{times-cons, one_here, one_other, in_top, in_before, in_behind, among, slots_below, unmoved, moved as field_is}

-- where a node stands

pub moved_last : (last slot place : ℕ) → place ≡ last → moved last slot place ≡ slot
moved_last last slot place is = elim (eqb_tells place last) [ inl e ↦ ap (λ b. cond b slot place) e.0 | inr e ↦ absurd (e.1 is) ]

pub moved_other : (last slot place : ℕ) → place ≢ last → moved last slot place ≡ place
moved_other last slot place ne = elim (eqb_tells place last) [ inl e ↦ absurd (ne e.1) | inr e ↦ ap (λ b. cond b slot place) e.0 ]

-- where the last one went itself, no node moves
pub moved_none : (last slot place : ℕ) → slot ≡ last → moved last slot place ≡ place
moved_none last slot place is = elim (eqb_tells place last) [ inl e ↦ moved_last last slot place e.1 ∙ is ∙ sym e.1 | inr e ↦ moved_other last slot place e.1 ]

-- the shape stays

pub moved_in-height : (last slot : ℕ) (shape : Shape) → height_of (moved_in last slot shape) ≡ height_of shape
moved_in-height last slot Bare = refl
moved_in-height last slot (Fork before at behind) = λ i. suc (max (moved_in-height last slot before i) (moved_in-height last slot behind i))

pub moved_in-slots : (last slot : ℕ) (shape : Shape) → slots (moved_in last slot shape) ≡ map (moved last slot) (slots shape)
moved_in-slots last slot Bare = refl
moved_in-slots last slot (Fork before at behind) =
    (λ i. moved_in-slots last slot before i ++ moved last slot at ∷ moved_in-slots last slot behind i)
    ∙ sym (map-append (moved last slot) (slots before) (at ∷ slots behind))

pub moved_in-balanced : (last slot : ℕ) (shape : Shape) → IsBalanced shape → IsBalanced (moved_in last slot shape)
moved_in-balanced last slot Bare b = tt
moved_in-balanced last slot (Fork before at behind) b = (
  omega (arith, b.0, moved_in-height last slot before, moved_in-height last slot behind),
  (
    omega (arith, b.1.0, moved_in-height last slot before, moved_in-height last slot behind),
    (moved_in-balanced last slot before b.1.1.0, moved_in-balanced last slot behind b.1.1.1),
  ),
)

-- how often a place stands among those that moved, where none was at `slot`

times_slot : (last slot : ℕ) (list : List ℕ) → times slot list ≡ 0 → times slot (map (moved last slot) list) ≡ times last list
times_slot last slot [] gone = refl
times_slot last slot (x ∷ xs) gone =
    let rest : times slot (map (moved last slot) xs) ≡ times last xs = times_slot last slot xs (omega (arith, times-cons slot x xs, gone)) in
    elim (eqb_tells x last) [
      | inl e ↦ omega (arith, rest, times-cons slot (moved last slot x) (map (moved last slot) xs), one_here slot (moved last slot x) (sym (moved_last last slot x e.1)), times-cons last x xs, one_here last x (sym e.1))
      | inr e ↦
          let same : moved last slot x ≡ x = moved_other last slot x e.1 in
          let other : cond {A = ℕ} (slot == moved last slot x) 1 0 ≡ cond (slot == x) 1 0 = ap (λ n. cond {A = ℕ} (slot == n) 1 0) same in
          omega (arith, rest, times-cons slot (moved last slot x) (map (moved last slot) xs), other, times-cons slot x xs, gone, times-cons last x xs, one_other last x (λ is. e.1 (sym is)))
    ]

times_other : (last slot : ℕ) (list : List ℕ) (place : ℕ) → place ≢ slot → place ≢ last → times place (map (moved last slot) list) ≡ times place list
times_other last slot [] place ne nl = refl
times_other last slot (x ∷ xs) place ne nl =
    let rest : times place (map (moved last slot) xs) ≡ times place xs = times_other last slot xs place ne nl in
    elim (eqb_tells x last) [
      | inl e ↦ omega (arith, rest, times-cons place (moved last slot x) (map (moved last slot) xs), one_other place (moved last slot x) (λ is. ne (is ∙ moved_last last slot x e.1)), times-cons place x xs, one_other place x (λ is. nl (is ∙ e.1)))
      | inr e ↦
          let same : cond {A = ℕ} (place == moved last slot x) 1 0 ≡ cond (place == x) 1 0 = ap (λ n. cond {A = ℕ} (place == n) 1 0) (moved_other last slot x e.1) in
          omega (arith, rest, times-cons place (moved last slot x) (map (moved last slot) xs), same, times-cons place x xs)
    ]

times_gone : (last slot : ℕ) (list : List ℕ) → slot ≢ last → times last (map (moved last slot) list) ≡ 0
times_gone last slot [] ne = refl
times_gone last slot (x ∷ xs) ne =
    let rest : times last (map (moved last slot) xs) ≡ 0 = times_gone last slot xs ne in
    elim (eqb_tells x last) [
      | inl e ↦ omega (arith, rest, times-cons last (moved last slot x) (map (moved last slot) xs), one_other last (moved last slot x) (λ is. ne (sym (is ∙ moved_last last slot x e.1))))
      | inr e ↦ omega (arith, rest, times-cons last (moved last slot x) (map (moved last slot) xs), one_other last (moved last slot x) (λ is. e.1 (sym (is ∙ moved_other last slot x e.1))))
    ]

length_moved : (last slot : ℕ) (list : List ℕ) → length (map (moved last slot) list) ≡ length list
length_moved last slot [] = refl
length_moved last slot (x ∷ xs) = ap suc (length_moved last slot xs)

-- all places but `slot` stand in a list once, and so do all but the last where those that moved do
pub moved_proper : (last slot : ℕ) (list : List ℕ) → times slot list ≡ 0 → ((place : ℕ) → times place list ≤ 1) → length list ≤ last → Proper last (map (moved last slot) list)
moved_proper last slot list gone once few = record {
  distinct = λ place. elim (eqb_tells place slot) [
    | inl e ↦ omega (arith, ap (λ n. times n (map (moved last slot) list)) e.1, times_slot last slot list gone, once last)
    | inr e ↦ elim (eqb_tells place last) [
      | inl f ↦ omega (arith, ap (λ n. times n (map (moved last slot) list)) f.1, times_gone last slot list (λ is. e.1 (f.1 ∙ sym is)))
      | inr f ↦ omega (arith, times_other last slot list place e.1 f.1, once place)
    ]
  ];
  few = omega (arith, length_moved last slot list, few);
}

pub moved_all : (last slot : ℕ) (list : List ℕ) → times slot list ≡ 0 → ((place : ℕ) → place < suc last → place ≢ slot → 0 < times place list) → (place : ℕ) → place < last → 0 < times place (map (moved last slot) list)
moved_all last slot list gone all place h = elim (eqb_tells place slot) [
  | inl e ↦ omega (arith, ap (λ n. times n (map (moved last slot) list)) e.1, times_slot last slot list gone, all last (omega arith) (λ is. absurd (omega (arith, is, e.1, h))))
  | inr e ↦ omega (arith, times_other last slot list place e.1 (λ is. absurd (omega (arith, is, h))), all place (omega (arith, h)) e.1)
]

-- a node says in its new place what it said, and names others by where they stand now
pub record Moves (old new : List Link) (last slot place : ℕ) : Type 0 where
  pub within : moved last slot place < length new
  pub left : left_at new (moved last slot place) ≡ moved last slot (left_at old place)
  pub right : right_at new (moved last slot place) ≡ moved last slot (right_at old place)
  pub parent : parent_at new (moved last slot place) ≡ moved last slot (parent_at old place)
  pub until : until_at new (moved last slot place) ≡ until_at old place
  pub least : least_at new (moved last slot place) ≡ least_at old place
  pub height : height_at new (moved last slot place) ≡ height_at old place

least_moved : (old new : List Link) (last slot : ℕ) (shape : Shape) → ((place : ℕ) → 0 < times place (slots shape) → Moves old new last slot place) → least_below new (moved_in last slot shape) ≡ least_below old shape
least_moved old new last slot Bare f = refl
least_moved old new last slot (Fork before at behind) f =
    let a = least_moved old new last slot before (λ place h. f place (in_before place before at behind h)) in
    let b = least_moved old new last slot behind (λ place h. f place (in_behind place before at behind h)) in
    let t = (f at (in_top before at behind)).until in
    λ i. min (last_moment (t i)) (min (a i) (b i))

parent_moved : (old new : List Link) (last slot : ℕ) (shape : Shape) (parent : ℕ) → ((place : ℕ) → 0 < times place (slots shape) → Moves old new last slot place) → HasParent old shape parent → HasParent new (moved_in last slot shape) (moved last slot parent)
parent_moved old new last slot Bare parent f h = tt
parent_moved old new last slot (Fork before at behind) parent f h = (f at (in_top before at behind)).parent ∙ ap (moved last slot) h

-- so the tree stands as before
pub tree_moved : (old new : List Link) (last slot : ℕ) (shape : Shape) (at : ℕ) → none ≢ last → ((place : ℕ) → 0 < times place (slots shape) → Moves old new last slot place) → Holds old shape at → Holds new (moved_in last slot shape) (moved last slot at)
tree_moved old new last slot Bare at ne f h = ap (moved last slot) h ∙ moved_other last slot none ne
tree_moved old new last slot (Fork before top behind) at ne f h =
    let here = f top (in_top before top behind) in
    let below : (place : ℕ) → 0 < times place (slots before) → Moves old new last slot place = λ place w. f place (in_before place before top behind w) in
    let above : (place : ℕ) → 0 < times place (slots behind) → Moves old new last slot place = λ place w. f place (in_behind place before top behind w) in
    let mark = h.1.1.1.1 in (
      ap (moved last slot) h.0,
      (
        here.within,
        (
          subst (Holds new (moved_in last slot before)) (sym here.left) (tree_moved old new last slot before (left_at old top) ne below h.1.1.0),
          (
            subst (Holds new (moved_in last slot behind)) (sym here.right) (tree_moved old new last slot behind (right_at old top) ne above h.1.1.1.0),
            record {
              least = here.least ∙ mark.least ∙ sym (least_moved old new last slot (Fork before top behind) f);
              height = here.height ∙ mark.height ∙ sym (moved_in-height last slot (Fork before top behind));
              before_parent = parent_moved old new last slot before top below mark.before_parent;
              behind_parent = parent_moved old new last slot behind top above mark.behind_parent;
            },
          ),
        ),
      ),
    )

-- the root of a tree without a parent
pub top_moved : (old new : List Link) (last slot : ℕ) (shape : Shape) (at : ℕ) → none ≢ last → length new ≤ none → ((place : ℕ) → 0 < times place (slots shape) → Moves old new last slot place) → Holds old shape at → parent_at old at ≡ none → parent_at new (moved last slot at) ≡ none
top_moved old new last slot Bare at ne few f h t = ap (parent_at new) (ap (moved last slot) h ∙ moved_other last slot none ne) ∙ ap parent_in (slice_get_past new none few)
top_moved old new last slot (Fork before top behind) at ne few f h t =
    ap (λ n. parent_at new (moved last slot n)) h.0 ∙ (f top (in_top before top behind)).parent ∙ ap (moved last slot) (ap (parent_at old) (sym h.0) ∙ t) ∙ moved_other last slot none ne

-- the children of a node are nodes of its tree
record Kids (links : List Link) (shape : Shape) (slot : ℕ) : Type 0 where
  pub left : (left_at links slot ≡ none) ⊎ (0 < times (left_at links slot) (slots shape))
  pub right : (right_at links slot ≡ none) ⊎ (0 < times (right_at links slot) (slots shape))

root_among : (links : List Link) (part : Shape) (at : ℕ) → Holds links part at → (at ≡ none) ⊎ (0 < times at (slots part))
root_among links Bare at h = inl h
root_among links (Fork before top behind) at h = inr (subst (λ n. 0 < times n (slots (Fork before top behind))) (sym h.0) (in_top before top behind))

wider : (links : List Link) (part shape : Shape) (slot : ℕ) → ((place : ℕ) → 0 < times place (slots part) → 0 < times place (slots shape)) → Kids links part slot → Kids links shape slot
wider links part shape slot f kids = record {
  left = elim kids.left [ inl e ↦ inl e | inr m ↦ inr (f (left_at links slot) m) ];
  right = elim kids.right [ inl e ↦ inl e | inr m ↦ inr (f (right_at links slot) m) ];
}

kids_of : (links : List Link) (shape : Shape) (at slot : ℕ) → Holds links shape at → 0 < times slot (slots shape) → Kids links shape slot
kids_of links Bare at slot h m = absurd (omega (arith, m))
kids_of links (Fork before top behind) at slot h m = elim (among slot before top behind m) [
  | inl w ↦ wider links before (Fork before top behind) slot (λ place n. in_before place before top behind n) (kids_of links before (left_at links top) slot h.1.1.0 w)
  | inr rest ↦ elim rest [
    | inl e ↦ subst (Kids links (Fork before top behind)) (sym e) (record {
      left = elim (root_among links before (left_at links top) h.1.1.0) [ inl n ↦ inl n | inr n ↦ inr (in_before (left_at links top) before top behind n) ];
      right = elim (root_among links behind (right_at links top) h.1.1.1.0) [ inl n ↦ inl n | inr n ↦ inr (in_behind (right_at links top) before top behind n) ];
    })
    | inr w ↦ wider links behind (Fork before top behind) slot (λ place n. in_behind place before top behind n) (kids_of links behind (right_at links top) slot h.1.1.1.0 w)
  ]
]

-- what a list is whose last takes the place of one that goes
pub swapped : {X : Type 0} (list : List X) (slot : ℕ) (gone : X) → slot < length list → Refilled list (swap_remove list slot gone) slot
swapped list slot gone l =
    let last = length list - 1 in
    let x = get_or list last gone in
    let len : length (swap_remove list slot gone) ≡ last = length-take-le last (set list slot x) (omega (arith, length-set list slot x)) in
    record {
      here = λ h. slice_get-get_or (swap_remove list slot gone) slot gone h
          ∙ ap Some (get_or-take last (set list slot x) slot gone (omega (arith, h, len)) ∙ get_or-set_same list slot x gone l)
          ∙ sym (slice_get-get_or list last gone (omega (arith, l)))
          ∙ ap (slice_get list) (sym len);
      others = λ place h ne. slice_get-get_or (swap_remove list slot gone) place gone h
          ∙ ap Some (get_or-take last (set list slot x) place gone (omega (arith, h, len)) ∙ get_or-set_other list slot place x gone ne)
          ∙ sym (slice_get-get_or list place gone (omega (arith, h, len)));
      len = omega (arith, len, l);
    }

-- a node in its new place

pub stands_at : {X : Type 0} (old new : List X) (slot place : ℕ) → slot < suc (length new) → Refilled old new slot → place < length old → place ≢ slot → (slice_get new (moved (length new) slot place) ≡ slice_get old place) × (moved (length new) slot place < length new)
stands_at old new slot place l r within ne = elim (eqb_tells place (length new)) [
  | inl e ↦
      let below : slot < length new = omega (arith, l, e.1, ne, eq_or (length new) slot (λ is. ne (e.1 ∙ is))) in
      let is = moved_last (length new) slot place e.1 in
      (ap (slice_get new) is ∙ r.here below ∙ ap (slice_get old) (sym e.1), subst (λ n. n < length new) (sym is) below)
  | inr e ↦
      let below : place < length new = omega (arith, within, r.len, eq_or place (length new) e.1) in
      let is = moved_other (length new) slot place e.1 in
      (ap (slice_get new) is ∙ r.others place below ne, subst (λ n. n < length new) (sym is) below)
]
  where
    eq_or : (m n : ℕ) → m ≢ n → (m < n) ⊎ (n < m)
    eq_or m n ne = elim (cases_lt m n) [ inl h ↦ inl h | inr h ↦ inr (omega (arith, h, ne)) ]

-- where the last node went itself, all stay where they were
pub all_stay : (old new : List Link) (slot : ℕ) (shape : Shape) (root : ℕ) → slot ≡ length new → Refilled old new slot → Holds old shape root → times slot (slots shape) ≡ 0 → (place : ℕ) → 0 < times place (slots shape) → Moves old new (length new) slot place
all_stay old new slot shape root is r h gone place m =
    let there = stands_at old new slot place (omega (arith, is)) r (slots_below old shape root place h m) (λ e. omega (arith, gone, subst (λ n. 0 < times n (slots shape)) e m)) in
    let get = there.0 in
    let stay : (n : ℕ) → n ≡ moved (length new) slot n = λ n. sym (moved_none (length new) slot n is) in
    record {
      within = there.1;
      left = ap left_in get ∙ stay (left_at old place);
      right = ap right_in get ∙ stay (right_at old place);
      parent = ap parent_in get ∙ stay (parent_at old place);
      until = ap until_in get;
      least = ap least_in get;
      height = ap height_in get;
    }

-- a node that names its children anew
renamed : {X : Type 0} (field : Option Link → X) (change : X → X) (last slot : ℕ) → ((link : Link) → field (Some (with_moved last slot link)) ≡ change (field (Some link))) → (old new : List Link) (at : ℕ) → Rewritten (with_moved last slot) old new at → at < length old → field (slice_get new at) ≡ change (field (slice_get old at))
renamed field change last slot f old new at r l = ap field r.here ∙ elim (slice_get_cases old at).1 [
  | inl w ↦ ap (λ link. field (option_map (with_moved last slot) link)) w.2 ∙ f w.0 ∙ ap (λ link. change (field link)) (sym w.2)
  | inr w ↦ absurd (omega (arith, w.0, l))
]

-- what the neighbours of the last node say once they are told
module _ (old filled named told new : List Link) (slot : ℕ) (shape : Shape) (root : ℕ)
    (fits : length old ≤ none)
    (below : slot < length filled)
    (refill : Refilled old filled slot)
    (h : Holds old shape root)
    (all : (place : ℕ) → place < length old → place ≢ slot → 0 < times place (slots shape))
    (gone : times slot (slots shape) ≡ 0)
    (top : parent_at old root ≡ none)
    (names : Rewritten (with_moved (length filled) slot) filled named (parent_at filled slot))
    (tells_left : Rewritten (with_parent slot) named told (left_at filled slot))
    (tells_right : Rewritten (with_parent slot) told new (right_at filled slot)) where
  abbrev last : ℕ
  last = length filled

  abbrev to : ℕ → ℕ
  to = moved last slot

  here : slice_get filled slot ≡ slice_get old last
  here = refill.here below

  last_in : 0 < times last (slots shape)
  last_in = all last (omega (arith, refill.len)) (λ is. absurd (omega (arith, is, below)))

  last_some : last ≢ none
  last_some is = absurd (omega (arith, is, refill.len, fits))

  not_slot : (place : ℕ) → 0 < times place (slots shape) → place ≢ slot
  not_slot place m e = omega (arith, gone, subst (λ n. 0 < times n (slots shape)) e m)

  there : (place : ℕ) → 0 < times place (slots shape) → (slice_get filled (to place) ≡ slice_get old place) × (to place < last)
  there place m = stands_at old filled slot place (omega (arith, below)) refill (slots_below old shape root place h m) (not_slot place m)

  around : (place : ℕ) → 0 < times place (slots shape) → Near old place
  around place m = near old shape root place fits h m

  -- a node whose child is the last one is its parent
  is_parent : (place child : ℕ) → 0 < times place (slots shape) → (left_at old place ≡ child) ⊎ (right_at old place ≡ child) → (child ≡ none) ⊎ (parent_at old child ≡ place) → child ≡ last → to place ≡ parent_at filled slot
  is_parent place child m side tells is = elim tells [
    | inl e ↦ absurd (last_some (sym is ∙ e))
    | inr e ↦
        let up_is : parent_at filled slot ≡ place = ap parent_in here ∙ ap (parent_at old) (sym is) ∙ e in
        let lower = higher old child place (around place m) side in
        moved_other last slot place (λ q. absurd (omega (arith, lower, ap (height_at old) (is ∙ sym q)))) ∙ sym up_is
  ]

  left_is : (place : ℕ) → 0 < times place (slots shape) → left_at new (to place) ≡ to (left_at old place)
  left_is place m =
      let get = (there place m).0 in
      unmoved left_in (with_parent slot) (λ link. refl) told new (right_at filled slot) tells_right (to place)
      ∙ unmoved left_in (with_parent slot) (λ link. refl) named told (left_at filled slot) tells_left (to place)
      ∙ elim (eqb_tells (to place) (parent_at filled slot)) [
        | inl e ↦
            ap (left_at named) e.1
            ∙ renamed left_in to last slot (λ link. refl) filled named (parent_at filled slot) names (subst (λ n. n < last) e.1 (there place m).1)
            ∙ ap (λ n. to (left_at filled n)) (sym e.1) ∙ ap (λ link. to (left_in link)) get
        | inr e ↦
            ap left_in (names.others (to place) e.1) ∙ ap left_in get
            ∙ sym (moved_other last slot (left_at old place) (λ is. e.1 (is_parent place (left_at old place) m (inl refl) (around place m).left is)))
      ]

  right_is : (place : ℕ) → 0 < times place (slots shape) → right_at new (to place) ≡ to (right_at old place)
  right_is place m =
      let get = (there place m).0 in
      unmoved right_in (with_parent slot) (λ link. refl) told new (right_at filled slot) tells_right (to place)
      ∙ unmoved right_in (with_parent slot) (λ link. refl) named told (left_at filled slot) tells_left (to place)
      ∙ elim (eqb_tells (to place) (parent_at filled slot)) [
        | inl e ↦
            ap (right_at named) e.1
            ∙ renamed right_in to last slot (λ link. refl) filled named (parent_at filled slot) names (subst (λ n. n < last) e.1 (there place m).1)
            ∙ ap (λ n. to (right_at filled n)) (sym e.1) ∙ ap (λ link. to (right_in link)) get
        | inr e ↦
            ap right_in (names.others (to place) e.1) ∙ ap right_in get
            ∙ sym (moved_other last slot (right_at old place) (λ is. e.1 (is_parent place (right_at old place) m (inr refl) (around place m).right is)))
      ]

  -- a node whose parent isn't the last one is no child of it
  no_child : (place child : ℕ) → 0 < times place (slots shape) → parent_at old place ≢ last → (child ≡ none) ⊎ (0 < times child (slots shape)) → (child ≡ none) ⊎ (parent_at old child ≡ last) → to place ≢ child
  no_child place child m other among tells is = elim tells [
    | inl e ↦ absurd (omega (arith, is ∙ e, (there place m).1, refill.len, fits))
    | inr e ↦ elim (eqb_tells place last) [
      | inl q ↦ elim among [
        | inl n ↦ absurd (omega (arith, is ∙ n, (there place m).1, refill.len, fits))
        | inr n ↦ not_slot child n (sym is ∙ moved_last last slot place q.1)
      ]
      | inr q ↦ other (ap (parent_at old) (sym (moved_other last slot place q.1) ∙ is) ∙ e)
    ]
  ]

  told_parent : (place : ℕ) → to place < last → to place ≡ left_at filled slot → parent_at told (to place) ≡ slot
  told_parent place l e = ap (parent_at told) e ∙ field_is parent_in (with_parent slot) slot (λ link. refl) named told (left_at filled slot) tells_left (omega (arith, names.len, subst (λ n. n < last) e l))

  new_parent : (place : ℕ) → to place < last → to place ≡ right_at filled slot → parent_at new (to place) ≡ slot
  new_parent place l e = ap (parent_at new) e ∙ field_is parent_in (with_parent slot) slot (λ link. refl) told new (right_at filled slot) tells_right (omega (arith, names.len, tells_left.len, subst (λ n. n < last) e l))

  parent_is : (place : ℕ) → 0 < times place (slots shape) → parent_at new (to place) ≡ to (parent_at old place)
  parent_is place m =
      let l = (there place m).1 in
      elim (eqb_tells (parent_at old place) last) [
        | inl e ↦ elim (up old shape root place h m) [
          | inl q ↦ absurd (last_some (sym e.1 ∙ ap (parent_at old) q ∙ top))
          | inr q ↦
              let lower = higher old place (parent_at old place) (around (parent_at old place) q.among) q.side in
              let same : to place ≡ place = moved_other last slot place (λ is. absurd (omega (arith, lower, ap (height_at old) (e.1 ∙ sym is)))) in
              let told_is : parent_at new (to place) ≡ slot = elim q.side [
                | inl side ↦
                    let child : to place ≡ left_at filled slot = same ∙ sym side ∙ ap (left_at old) e.1 ∙ ap left_in (sym here) in
                    elim (eqb_tells (to place) (right_at filled slot)) [
                      | inl w ↦ new_parent place l w.1
                      | inr w ↦ ap parent_in (tells_right.others (to place) w.1) ∙ told_parent place l child
                    ]
                | inr side ↦ new_parent place l (same ∙ sym side ∙ ap (right_at old) e.1 ∙ ap right_in (sym here))
              ] in
              told_is ∙ sym (moved_last last slot (parent_at old place) e.1)
        ]
        | inr e ↦
            let kids = kids_of old shape root last h last_in in
            let last_near = around last last_in in
            let not_left : to place ≢ left_at filled slot = λ is. no_child place (left_at old last) m e.1 kids.left last_near.left (is ∙ ap left_in here) in
            let not_right : to place ≢ right_at filled slot = λ is. no_child place (right_at old last) m e.1 kids.right last_near.right (is ∙ ap right_in here) in
            ap parent_in (tells_right.others (to place) not_right) ∙ ap parent_in (tells_left.others (to place) not_left)
            ∙ unmoved parent_in (with_moved last slot) (λ link. refl) filled named (parent_at filled slot) names (to place)
            ∙ ap parent_in (there place m).0
            ∙ sym (moved_other last slot (parent_at old place) e.1)
      ]

  told_field : {X : Type 0} (field : Option Link → X) → ((link : Link) → field (Some (with_moved last slot link)) ≡ field (Some link)) → ((link : Link) → field (Some (with_parent slot link)) ≡ field (Some link)) → (place : ℕ) → 0 < times place (slots shape) → field (slice_get new (to place)) ≡ field (slice_get old place)
  told_field field f g place m =
      unmoved field (with_parent slot) g told new (right_at filled slot) tells_right (to place)
      ∙ unmoved field (with_parent slot) g named told (left_at filled slot) tells_left (to place)
      ∙ unmoved field (with_moved last slot) f filled named (parent_at filled slot) names (to place)
      ∙ ap field (there place m).0

  len : length new ≡ length filled
  len = tells_right.len ∙ tells_left.len ∙ names.len

  pub all_told : (place : ℕ) → 0 < times place (slots shape) → Moves old new (length filled) slot place
  all_told place m = record {
    within = omega (arith, len, (there place m).1);
    left = left_is place m;
    right = right_is place m;
    parent = parent_is place m;
    until = told_field until_in (λ link. refl) (λ link. refl) place m;
    least = told_field least_in (λ link. refl) (λ link. refl) place m;
    height = told_field height_in (λ link. refl) (λ link. refl) place m;
  }

-- the tree stands again
pub relinked : (old new : List Link) (shape : Shape) (last slot root result : ℕ) → length old ≤ none → length new ≡ last → length old ≡ suc last → ((place : ℕ) → 0 < times place (slots shape) → Moves old new last slot place) → Holds old shape root → parent_at old root ≡ none → result ≡ moved last slot root → Relinked old new shape slot result
relinked old new shape last slot root result fits same len f h top is =
    let other : none ≢ last = λ e. absurd (omega (arith, e, len, fits)) in
    let at_last : (holds : Holds new (moved_in last slot shape) result) × ((parent_at new result ≡ none) × ((place : ℕ) → 0 < times place (slots shape) → until_at new (moved last slot place) ≡ until_at old place)) = (
      subst (Holds new (moved_in last slot shape)) (sym is) (tree_moved old new last slot shape root other f h),
      (
        ap (parent_at new) is ∙ top_moved old new last slot shape root other (omega (arith, same, len, fits)) f h top,
        λ place m. (f place m).until,
      ),
    ) in
    record {
      holds = subst (λ n. Holds new (moved_in n slot shape) result) (sym same) at_last.0;
      top = at_last.1.0;
      untils = λ place m. subst (λ n. until_at new (moved n slot place) ≡ until_at old place) (sym same) (at_last.1.1 place m);
      len = len ∙ ap suc (sym same);
    }
