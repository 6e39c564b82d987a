-- Places in the order of their keys, without one of them.
use Rattle.std.proofs.Common.{◌≡◌, ◌≢◌, inl, inr, ℕ, zero, suc, ◌+◌, ◌<◌, ◌≤◌, ◌==◌, true, false, cond, not, List, [], ◌∷◌, ◌++◌, length, refl, sym, ap, ◌∙◌, subst, arith}
use Rattle.std.specs.Prelude.{is_some}
use Rattle.std.specs.Ordering.{is_lt, is_eq}
use Rattle.std.specs.FinMap.{is_sorted}
use Rattle.std.specs.FinMap.Entries.{below_all}
use Rattle.std.specs.declared.alloc.Global.{Global}
use Rattle.std.specs.declared.vec.Vec.{Vec}
use Rattle.std.specs.declared.cmp.Ordering.{Ordering}
use Rattle.std.specs.declared.cmp.Ordering.TheVariants.{Less, Equal, Greater}
use Rattle.std.proofs.lemmas.Bool.{and_parts, false≢true}
use Rattle.std.proofs.lemmas.Bool.Decides.{eqb_tells}
use Rattle.std.proofs.lemmas.Cmp.{tied_itself}
use Rattle.std.proofs.lemmas.List.Elements.{filter-append}
use Rattle.keeper_core.specs.Rows.{byte_order}
use Rattle.keeper_core.specs.Tree.{without}
use Rattle.keeper_core.specs.Shapes.{Shape, slots, times, key_at, entry_at, entries_at, Proper}
use Rattle.keeper_core.specs.Shapes.Shape.{Fork}
use Rattle.keeper_core.specs.Removal.{without_slot}
use Rattle.keeper_core.specs.declared.links.Link.{Link}
use Rattle.keeper_core.proofs.Found.{find_under}
use Rattle.keeper_core.proofs.Shapes.{times-cons, one_here, one_other, later, among}
use Rattle.keeper_core.proofs.Sorted.{Key, Compares, total, turned, below_each, tied_each}
use Rattle.keeper_core.proofs.Table.{without-absent}
use Rattle.keeper_core.proofs.WithSlot.{around_slot}

dropped : (slot place : ℕ) (list : List ℕ) → slot ≡ place → without_slot slot (place ∷ list) ≡ without_slot slot list
dropped slot place list is = elim (eqb_tells slot place) [
  | inl e ↦ ap (λ b. cond (not b) (place ∷ without_slot slot list) (without_slot slot list)) e.0
  | inr e ↦ absurd (e.1 is)
]

left : (slot place : ℕ) (list : List ℕ) → slot ≢ place → without_slot slot (place ∷ list) ≡ place ∷ without_slot slot list
left slot place list other = elim (eqb_tells slot place) [
  | inl e ↦ absurd (other e.1)
  | inr e ↦ ap (λ b. cond (not b) (place ∷ without_slot slot list) (without_slot slot list)) e.0
]

-- it has the place no more, and the others as often
pub times-without_self : (slot : ℕ) (list : List ℕ) → times slot (without_slot slot list) ≡ 0
times-without_self slot [] = refl
times-without_self slot (place ∷ list) = elim (eqb_tells slot place) [
  | inl e ↦ ap (times slot) (dropped slot place list e.1) ∙ times-without_self slot list
  | inr e ↦ ap (times slot) (left slot place list e.1) ∙ omega (arith, times-cons slot place (without_slot slot list), one_other slot place e.1, times-without_self slot list)
]

pub times-without_other : (slot : ℕ) (list : List ℕ) (other : ℕ) → other ≢ slot → times other (without_slot slot list) ≡ times other list
times-without_other slot [] other ne = refl
times-without_other slot (place ∷ list) other ne = elim (eqb_tells slot place) [
  | inl e ↦ ap (times other) (dropped slot place list e.1) ∙ omega (arith, times-without_other slot list other ne, times-cons other place list, one_other other place (λ is. ne (is ∙ sym e.1)))
  | inr e ↦ ap (times other) (left slot place list e.1) ∙ omega (arith, times-cons other place (without_slot slot list), times-without_other slot list other ne, times-cons other place list)
]

pub length-without_slot : (slot : ℕ) (list : List ℕ) → length (without_slot slot list) + times slot list ≡ length list
length-without_slot slot [] = refl
length-without_slot slot (place ∷ list) = elim (eqb_tells slot place) [
  | inl e ↦ omega (arith, ap length (dropped slot place list e.1), length-without_slot slot list, times-cons slot place list, one_here slot place e.1)
  | inr e ↦ omega (arith, ap length (left slot place list e.1), length-without_slot slot list, times-cons slot place list, one_other slot place e.1)
]

-- a list that has all places below a number is as long as that
pub all_long : (most : ℕ) (list : List ℕ) → ((slot : ℕ) → slot < most → 0 < times slot list) → most ≤ length list
all_long zero list all = omega arith
all_long (suc last) list all =
    let rest : last ≤ length (without_slot last list) = all_long last (without_slot last list) (λ slot h. omega (arith, times-without_other last list slot (λ is. absurd (omega (arith, is, h))), all slot (omega (arith, h)))) in
    omega (arith, rest, length-without_slot last list, all last (omega arith))

pub without_slot-proper : (slot : ℕ) (list : List ℕ) (most : ℕ) → Proper most list → Proper most (without_slot slot list)
without_slot-proper slot list most proper = record {
  distinct = λ other. elim (eqb_tells other slot) [
    | inl e ↦ omega (arith, subst (λ place. times place (without_slot slot list) ≡ 0) (sym e.1) (times-without_self slot list))
    | inr e ↦ omega (arith, times-without_other slot list other e.1, proper.distinct other)
  ];
  few = omega (arith, length-without_slot slot list, proper.few);
}

-- where it is not among them, they are as they were
pub without_slot-absent : (slot : ℕ) (list : List ℕ) → times slot list ≡ 0 → without_slot slot list ≡ list
without_slot-absent slot [] none_of = refl
without_slot-absent slot (place ∷ list) none_of = elim (eqb_tells slot place) [
  | inl e ↦ absurd (omega (arith, none_of, times-cons slot place list, one_here slot place e.1))
  | inr e ↦ left slot place list e.1 ∙ ap (λ rest. place ∷ rest) (without_slot-absent slot list (omega (arith, none_of, times-cons slot place list)))
]

-- the part of a tree that has it
pub without_slot_before : (slot : ℕ) (before : Shape) (at : ℕ) (behind : Shape) → slot ≢ at → times slot (slots behind) ≡ 0 → without_slot slot (slots (Fork before at behind)) ≡ without_slot slot (slots before) ++ at ∷ slots behind
without_slot_before slot before at behind ne none_of =
    filter-append (λ other. not (slot == other)) (slots before) (at ∷ slots behind)
    ∙ ap (λ list. without_slot slot (slots before) ++ list) (left slot at (slots behind) ne ∙ ap (λ list. at ∷ list) (without_slot-absent slot (slots behind) none_of))

pub without_slot_behind : (slot : ℕ) (before : Shape) (at : ℕ) (behind : Shape) → slot ≢ at → times slot (slots before) ≡ 0 → without_slot slot (slots (Fork before at behind)) ≡ slots before ++ at ∷ without_slot slot (slots behind)
without_slot_behind slot before at behind ne none_of =
    filter-append (λ other. not (slot == other)) (slots before) (at ∷ slots behind)
    ∙ (λ i. without_slot-absent slot (slots before) none_of i ++ left slot at (slots behind) ne i)

pub without_top : (before : Shape) (at : ℕ) (behind : Shape) → times at (slots before) ≡ 0 → times at (slots behind) ≡ 0 → without_slot at (slots (Fork before at behind)) ≡ slots before ++ slots behind
without_top before at behind none_before none_behind =
    filter-append (λ other. not (at == other)) (slots before) (at ∷ slots behind)
    ∙ (λ i. without_slot-absent at (slots before) none_before i ++ (dropped at at (slots behind) refl ∙ without_slot-absent at (slots behind) none_behind) i)

-- what one of these places compares as
compares_one : (o : Ordering) (keys : List (Vec ℕ Global)) (links : List Link) (k : Key) (list : List ℕ) (slot : ℕ) → Compares o k (entries_at keys links list) → 0 < times slot list → byte_order k (key_at keys slot) ≡ o
compares_one o keys links k [] slot a m = absurd (omega arith)
compares_one o keys links k (place ∷ list) slot a m = elim (eqb_tells slot place) [
  | inl e ↦ subst (λ n. byte_order k (key_at keys n) ≡ o) (sym e.1) a.0
  | inr e ↦ compares_one o keys links k list slot a.1 (later slot place list e.1 m)
]

-- on which side of a node a place is, by its key

pub stands_before : (keys : List (Vec ℕ Global)) (links : List Link) (slot : ℕ) (before : Shape) (at : ℕ) (behind : Shape) → is_sorted byte_order (entries_at keys links (slots (Fork before at behind))) ≡ true → slot ≢ at → is_lt (byte_order (key_at keys slot) (key_at keys at)) ≡ true → 0 < times slot (slots (Fork before at behind)) → 0 < times slot (slots before)
stands_before keys links slot before at behind sorted ne less m = elim (among slot before at behind m) [
  | inl in_before ↦ in_before
  | inr rest ↦ elim rest [
    | inl e ↦ absurd (ne e)
    | inr in_behind ↦
        let above : byte_order (key_at keys slot) (key_at keys at) ≡ Greater = turned (key_at keys at) (key_at keys slot) Less (compares_one Less keys links (key_at keys at) (slots behind) slot (around_slot keys links (slots before) at (slots behind) sorted).behind in_behind) in
        absurd (false≢true (sym (ap is_lt above) ∙ less))
  ]
]

pub stands_behind : (keys : List (Vec ℕ Global)) (links : List Link) (slot : ℕ) (before : Shape) (at : ℕ) (behind : Shape) → is_sorted byte_order (entries_at keys links (slots (Fork before at behind))) ≡ true → slot ≢ at → is_lt (byte_order (key_at keys slot) (key_at keys at)) ≡ false → 0 < times slot (slots (Fork before at behind)) → 0 < times slot (slots behind)
stands_behind keys links slot before at behind sorted ne above m = elim (among slot before at behind m) [
  | inl in_before ↦
      let less : byte_order (key_at keys slot) (key_at keys at) ≡ Less = turned (key_at keys at) (key_at keys slot) Greater (compares_one Greater keys links (key_at keys at) (slots before) slot (around_slot keys links (slots before) at (slots behind) sorted).before in_before) in
      absurd (false≢true (sym above ∙ ap is_lt less))
  | inr rest ↦ elim rest [
    | inl e ↦ absurd (ne e)
    | inr in_behind ↦ in_behind
  ]
]

-- the entries of places without one are those without its key
pub entries-without_slot : (keys : List (Vec ℕ Global)) (links : List Link) (slot : ℕ) (list : List ℕ) → is_sorted byte_order (entries_at keys links list) ≡ true → 0 < times slot list → times slot list ≤ 1 → entries_at keys links (without_slot slot list) ≡ without (key_at keys slot) (entries_at keys links list)
entries-without_slot keys links slot [] sorted m once = absurd (omega arith)
entries-without_slot keys links slot (x ∷ xs) sorted m once =
    let key = key_at keys slot in
    let es = entries_at keys links xs in
    let parts : (below_all byte_order (key_at keys x) es ≡ true) × (is_sorted byte_order es ≡ true) = and_parts _ _ sorted in
    let under : Compares Less (key_at keys x) es = below_each (key_at keys x) es parts.0 in
    elim (eqb_tells slot x) [
      | inl e ↦
          let tied : byte_order key (key_at keys x) ≡ Equal = ap (λ n. byte_order key (key_at keys n)) (sym e.1) ∙ tied_itself total key in
          let gone : times slot xs ≡ 0 = omega (arith, times-cons slot x xs, one_here slot x e.1) in
          ap (entries_at keys links) (dropped slot x xs e.1 ∙ without_slot-absent slot xs gone)
          ∙ sym (without-absent key es (ap is_some (find_under key es (tied_each Less key (key_at keys x) es tied under))))
          ∙ sym (ap (λ o. cond (not (is_eq o)) (entry_at keys links x ∷ without key es) (without key es)) tied)
      | inr e ↦
          let in_rest = later slot x xs e.1 m in
          let above : byte_order key (key_at keys x) ≡ Greater = turned (key_at keys x) key Less (compares_one Less keys links (key_at keys x) xs slot under in_rest) in
          ap (entries_at keys links) (left slot x xs e.1)
          ∙ ap (λ rest. entry_at keys links x ∷ rest) (entries-without_slot keys links slot xs parts.1 in_rest (omega (arith, times-cons slot x xs)))
          ∙ sym (ap (λ o. cond (not (is_eq o)) (entry_at keys links x ∷ without key es) (without key es)) above)
    ]
