-- Places in the order of their keys, with one more.
use Rattle.std.proofs.Common.{◌≡◌, ℕ, suc, ◌+◌, ◌==◌, true, false, cond, List, [], ◌∷◌, ◌++◌, length, refl, sym, ap, ◌∙◌, subst, arith}
use Rattle.std.specs.Ordering.{is_lt}
use Rattle.std.specs.FinMap.{is_sorted}
use Rattle.std.specs.declared.alloc.Global.{Global}
use Rattle.std.specs.declared.vec.Vec.{Vec}
use Rattle.std.specs.declared.cmp.Ordering.{Ordering}
use Rattle.std.specs.declared.cmp.Ordering.TheVariants.{Less, Equal, Greater}
use Rattle.std.proofs.lemmas.List.{map-append}
use Rattle.std.proofs.lemmas.Bool.{false≢true}
use Rattle.keeper_core.specs.Rows.{Entry, byte_order}
use Rattle.keeper_core.specs.Shapes.{times, key_at, entry_at, entries_at, with_slot, Proper}
use Rattle.keeper_core.specs.declared.links.Link.{Link}
use Rattle.keeper_core.proofs.Shapes.{times-cons}
use Rattle.keeper_core.proofs.Sorted.{Key, Compares, Around, around, above_each, tied_each}

-- it has the new place once more, and the others as often
pub times-with_slot : (keys : List (Vec ℕ Global)) (slot : ℕ) (list : List ℕ) (other : ℕ) → times other (with_slot keys slot list) ≡ cond {A = ℕ} (other == slot) 1 0 + times other list
times-with_slot keys slot [] other = times-cons other slot []
times-with_slot keys slot (place ∷ list) other =
    elim (is_lt (byte_order (key_at keys slot) (key_at keys place))) as (λ b. times other (cond b (slot ∷ place ∷ list) (place ∷ with_slot keys slot list)) ≡ cond {A = ℕ} (other == slot) 1 0 + times other (place ∷ list)) [
      | true ↦ times-cons other slot (place ∷ list)
      | false ↦ omega (arith, times-cons other place (with_slot keys slot list), times-with_slot keys slot list other, times-cons other place list)
    ]

length-with_slot : (keys : List (Vec ℕ Global)) (slot : ℕ) (list : List ℕ) → length (with_slot keys slot list) ≡ suc (length list)
length-with_slot keys slot [] = refl
length-with_slot keys slot (place ∷ list) =
    elim (is_lt (byte_order (key_at keys slot) (key_at keys place))) as (λ b. length (cond b (slot ∷ place ∷ list) (place ∷ with_slot keys slot list)) ≡ suc (length (place ∷ list))) [
      | true ↦ refl
      | false ↦ omega (arith, length-with_slot keys slot list)
    ]

pub with_slot-proper : (keys : List (Vec ℕ Global)) (slot : ℕ) (list : List ℕ) (most : ℕ) → Proper most (slot ∷ list) → Proper most (with_slot keys slot list)
with_slot-proper keys slot list most proper = record {
  distinct = λ other. omega (arith, times-with_slot keys slot list other, times-cons other slot list, proper.distinct other);
  few = omega (arith, length-with_slot keys slot list, proper.few);
}

-- below a place, it stands before that
pub with_slot_before : (keys : List (Vec ℕ Global)) (slot : ℕ) (before : List ℕ) (at : ℕ) (behind : List ℕ) → is_lt (byte_order (key_at keys slot) (key_at keys at)) ≡ true → with_slot keys slot (before ++ at ∷ behind) ≡ with_slot keys slot before ++ at ∷ behind
with_slot_before keys slot [] at behind less = ap (λ b. cond b (slot ∷ at ∷ behind) (at ∷ with_slot keys slot behind)) less
with_slot_before keys slot (place ∷ before) at behind less =
    elim (is_lt (byte_order (key_at keys slot) (key_at keys place))) as (λ b. cond b (slot ∷ place ∷ (before ++ at ∷ behind)) (place ∷ with_slot keys slot (before ++ at ∷ behind)) ≡ cond b (slot ∷ place ∷ before) (place ∷ with_slot keys slot before) ++ at ∷ behind) [
      | true ↦ refl
      | false ↦ ap (λ list. place ∷ list) (with_slot_before keys slot before at behind less)
    ]

-- above places, it stands behind them
with_slot_past : (keys : List (Vec ℕ Global)) (links : List Link) (slot : ℕ) (before behind : List ℕ) → Compares Greater (key_at keys slot) (entries_at keys links before) → with_slot keys slot (before ++ behind) ≡ before ++ with_slot keys slot behind
with_slot_past keys links slot [] behind above = refl
with_slot_past keys links slot (place ∷ before) behind above =
    ap (λ o. cond (is_lt o) (slot ∷ place ∷ (before ++ behind)) (place ∷ with_slot keys slot (before ++ behind))) above.0
    ∙ ap (λ list. place ∷ list) (with_slot_past keys links slot before behind above.1)

-- the places around one are in order
pub around_slot : (keys : List (Vec ℕ Global)) (links : List Link) (before : List ℕ) (at : ℕ) (behind : List ℕ) → is_sorted byte_order (entries_at keys links (before ++ at ∷ behind)) ≡ true → Around (entries_at keys links before) (entry_at keys links at) (entries_at keys links behind)
around_slot keys links before at behind sorted = around (entries_at keys links before) (entry_at keys links at) (entries_at keys links behind) (subst (λ entries. is_sorted byte_order entries ≡ true) (map-append (entry_at keys links) before (at ∷ behind)) sorted)

not_less : (o : Ordering) (k x : Key) (entries : List Entry) → byte_order k x ≡ o → is_lt o ≡ false → Compares Greater x entries → Compares Greater k entries
not_less Less k x entries is e above = absurd (false≢true (sym e))
not_less Equal k x entries is e above = tied_each Greater k x entries is above
not_less Greater k x entries is e above = above_each k x entries is above

-- not below a place, it stands behind that
pub with_slot_behind : (keys : List (Vec ℕ Global)) (links : List Link) (slot : ℕ) (before : List ℕ) (at : ℕ) (behind : List ℕ) → is_sorted byte_order (entries_at keys links (before ++ at ∷ behind)) ≡ true → is_lt (byte_order (key_at keys slot) (key_at keys at)) ≡ false → with_slot keys slot (before ++ at ∷ behind) ≡ before ++ at ∷ with_slot keys slot behind
with_slot_behind keys links slot before at behind sorted above =
    with_slot_past keys links slot before (at ∷ behind) (not_less _ (key_at keys slot) (key_at keys at) (entries_at keys links before) refl above (around_slot keys links before at behind sorted).before)
    ∙ ap (λ b. before ++ cond b (slot ∷ at ∷ behind) (at ∷ with_slot keys slot behind)) above
