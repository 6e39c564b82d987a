-- What a search in a tree of one list goes by: what a node tells of the tree below it, and how the entries stand around it.
use Rattle.std.proofs.Common.{◌≡◌, ℕ, get_or, ◌+◌, ◌<◌, ◌≤◌, true, cond, List, ◌∷◌, ◌++◌, length, Option, Some, None, refl, sym, ap, ◌∙◌, subst, arith}
use Rattle.std.specs.Prelude.{slice_get, ◌==◌}
use Rattle.std.specs.declared.alloc.Global.{Global}
use Rattle.std.specs.declared.vec.Vec.{Vec}
use Rattle.std.specs.declared.cmp.Ordering.{Ordering}
use Rattle.std.specs.declared.cmp.Ordering.TheVariants.{Less, Equal, Greater}
use Rattle.std.specs.FinMap.{is_sorted}
use Rattle.std.proofs.lemmas.List.{map-append}
use Rattle.std.proofs.lemmas.Option.{slice_get_read, slice_get_within}
use Rattle.keeper_core.specs.Rows.{Entry, byte_order}
use Rattle.keeper_core.specs.Shapes.{Shape, none, slots, times, Proper, left_in, right_in, until_in, least_in, left_at, right_at, until_at, least_at, height_at, least_below, Holds, IsTree, Finds, key_in, key_at, entry_at, entries_at}
use Rattle.keeper_core.specs.Shapes.Shape.{Bare, Fork}
use Rattle.keeper_core.specs.Tree.{least_of}
use Rattle.keeper_core.specs.declared.links.Link.{Link}
use Rattle.keeper_core.proofs.Found.{found_left, found_right}
use Rattle.keeper_core.proofs.Least.{marked}
use Rattle.keeper_core.proofs.Shapes.{root_height, times_fork, one_here, proper_before, proper_behind}
use Rattle.keeper_core.proofs.Sorted.{Key, antisymmetric}

-- no tree but the empty one stands below a place past the end
pub bare : (links : List Link) (shape : Shape) (at : ℕ) → length links ≤ at → Holds links shape at → shape ≡ Bare
bare links Bare at past holds = refl
bare links (Fork before slot behind) at past holds = absurd (omega (arith, holds.0, holds.1.0))

-- a tree by the node at its root
pub record Parted (links : List Link) (shape : Shape) (at : ℕ) (link : Link) : Type 0 where
  pub before : Shape
  pub behind : Shape
  pub is : shape ≡ Fork before at behind
  pub before_holds : Holds links before link.left
  pub behind_holds : Holds links behind link.right
  pub least : link.least ≡ least_below links shape
  pub until : link.until ≡ until_at links at

read_parted : (links : List Link) (shape : Shape) (at : ℕ) (link : Link) → length links ≤ none → slice_get links at ≡ Some link → Holds links shape at → Parted links shape at link
read_parted links Bare at link fits is holds = absurd (omega (arith, holds, slice_get_within links at link is))
read_parted links (Fork before slot behind) at link fits is holds =
    record {
      before = before;
      behind = behind;
      is = ap (λ place. Fork before place behind) (sym holds.0);
      before_holds = subst (Holds links before) (ap (left_at links) (sym holds.0) ∙ ap left_in is) holds.1.1.0;
      behind_holds = subst (Holds links behind) (ap (right_at links) (sym holds.0) ∙ ap right_in is) holds.1.1.1.0;
      least = ap least_in (sym is) ∙ ap (least_at links) holds.0 ∙ holds.1.1.1.1.least;
      until = ap until_in (sym is);
    }

pub parted : (links : List Link) (shape : Shape) (at : ℕ) (link : Link) → length links ≤ none → at < length links → link ≡ get_or links at link → Holds links shape at → Parted links shape at link
parted links shape at link fits within read holds = read_parted links shape at link fits (slice_get_read links (length links) at link refl within read) holds

-- below a node's children stand lower trees
pub record Sides (links : List Link) (at before behind : ℕ) : Type 0 where
  pub left : IsTree links before
  pub right : IsTree links behind
  pub left_lower : height_at links before < height_at links at
  pub right_lower : height_at links behind < height_at links at

sides_of : (links : List Link) (shape : Shape) (at : ℕ) → length links ≤ none → at < length links → Holds links shape at → Proper (length links) (slots shape) → Sides links at (left_at links at) (right_at links at)
sides_of links Bare at fits within h proper = absurd (omega (arith, h))
sides_of links (Fork before slot behind) at fits within h proper =
    let sides : Sides links slot (left_at links slot) (right_at links slot) = record {
      left = record { shape = before; holds = h.1.1.0; proper = proper_before _ _ before slot behind refl proper };
      right = record { shape = behind; holds = h.1.1.1.0; proper = proper_behind _ _ before slot behind refl proper };
      left_lower = omega (arith, h.1.1.1.1.height, root_height links before (left_at links slot) fits h.1.1.0);
      right_lower = omega (arith, h.1.1.1.1.height, root_height links behind (right_at links slot) fits h.1.1.1.0);
    } in
    subst (λ place. Sides links place (left_at links place) (right_at links place)) (sym h.0) sides

pub sides : (links : List Link) (at : ℕ) → length links ≤ none → at < length links → IsTree links at → Sides links at (left_at links at) (right_at links at)
sides links at fits within tree = sides_of links tree.shape at fits within tree.holds tree.proper

pub trees : (links : List Link) (at : ℕ) (link : Link) → length links ≤ none → at < length links → link ≡ get_or links at link → IsTree links at → Sides links at link.left link.right
trees links at link fits within read tree = subst (λ there. Sides links at (left_in there) (right_in there)) (slice_get_read links (length links) at link refl within read) (sides links at fits within tree)

-- the keys and ends of a tree, in order
abbrev pub listed : List (Vec ℕ Global) → List Link → Shape → List Entry
listed keys links shape = entries_at keys links (slots shape)

listed_fork : (keys : List (Vec ℕ Global)) (links : List Link) (before : Shape) (slot : ℕ) (behind : Shape) → listed keys links (Fork before slot behind) ≡ listed keys links before ++ entry_at keys links slot ∷ listed keys links behind
listed_fork keys links before slot behind = map-append (entry_at keys links) (slots before) (slot ∷ slots behind)

pub around_node : (keys : List (Vec ℕ Global)) (links : List Link) (shape : Shape) (at : ℕ) (link : Link) (parts : Parted links shape at link) → listed keys links shape ≡ listed keys links parts.before ++ entry_at keys links at ∷ listed keys links parts.behind
around_node keys links shape at link parts = ap (listed keys links) parts.is ∙ listed_fork keys links parts.before at parts.behind

pub least_listed : (keys : List (Vec ℕ Global)) (links : List Link) (shape : Shape) → least_below links shape ≡ least_of (listed keys links shape)
least_listed keys links Bare = refl
least_listed keys links (Fork before slot behind) =
    let whole = ap least_of (listed_fork keys links before slot behind) ∙ marked (listed keys links before) (entry_at keys links slot) (listed keys links behind) in
    omega (arith, whole, least_listed keys links before, least_listed keys links behind)

-- how a key compares with the one at a place
pub compared : (keys : List (Vec ℕ Global)) (at : ℕ) (there : Vec ℕ Global) (bytes key : Key) (order : Ordering) → at < length keys → there ≡ get_or keys at there → bytes ≡ there.items → order ≡ byte_order key bytes → byte_order key (key_at keys at) ≡ order
compared keys at there bytes key order within read value ordered =
    ap (λ other. byte_order key other) (ap key_in (slice_get_read keys (length keys) at there refl within read) ∙ sym value) ∙ sym ordered

-- the place of a key

pub finds_none : (keys : List (Vec ℕ Global)) (links : List Link) (shape : Shape) (key : Key) → shape ≡ Bare → Finds keys links (slots shape) key None
finds_none keys links shape key is = subst (λ tree. Finds keys links (slots tree) key None) (sym is) (record { here = λ slot e. absurd (cc); nowhere = λ e. refl })

times_whole : (links : List Link) (shape : Shape) (at : ℕ) (link : Link) (parts : Parted links shape at link) (place : ℕ) → times place (slots shape) ≡ times place (slots parts.before) + (cond (place == at) 1 0 + times place (slots parts.behind))
times_whole links shape at link parts place = ap (λ tree. times place (slots tree)) parts.is ∙ times_fork place parts.before at parts.behind

pub finds_before : (keys : List (Vec ℕ Global)) (links : List Link) (shape : Shape) (at : ℕ) (link : Link) (parts : Parted links shape at link) (key : Key) (found : Option ℕ) → is_sorted byte_order (listed keys links shape) ≡ true → byte_order key (key_at keys at) ≡ Less → Finds keys links (slots parts.before) key found → Finds keys links (slots shape) key found
finds_before keys links shape at link parts key found sorted less finds = record {
  here = λ slot e. (omega (arith, (finds.here slot e).0, times_whole links shape at link parts slot), (finds.here slot e).1);
  nowhere = λ e. found_left _ _ _ _ key (around_node keys links shape at link parts) sorted less ∙ finds.nowhere e;
}

pub finds_behind : (keys : List (Vec ℕ Global)) (links : List Link) (shape : Shape) (at : ℕ) (link : Link) (parts : Parted links shape at link) (key : Key) (found : Option ℕ) → is_sorted byte_order (listed keys links shape) ≡ true → byte_order key (key_at keys at) ≡ Greater → Finds keys links (slots parts.behind) key found → Finds keys links (slots shape) key found
finds_behind keys links shape at link parts key found sorted greater finds = record {
  here = λ slot e. (omega (arith, (finds.here slot e).0, times_whole links shape at link parts slot), (finds.here slot e).1);
  nowhere = λ e. found_right _ _ _ _ key (around_node keys links shape at link parts) sorted greater ∙ finds.nowhere e;
}

pub finds_here : (keys : List (Vec ℕ Global)) (links : List Link) (shape : Shape) (at : ℕ) (link : Link) (parts : Parted links shape at link) (key : Key) → byte_order key (key_at keys at) ≡ Equal → Finds keys links (slots shape) key (Some at)
finds_here keys links shape at link parts key equal =
    let some : 0 < times at (slots shape) = omega (arith, times_whole links shape at link parts at, one_here at at refl) in
    let same = sym (antisymmetric key (key_at keys at) equal) in
    record {
      here = λ slot e. let is : at ≡ slot = cc in subst (λ place. (0 < times place (slots shape)) × (key_at keys place ≡ key)) is (some, same);
      nowhere = λ e. absurd (cc);
    }
