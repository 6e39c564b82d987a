-- Disks by their paths.
use Rattle.std.proofs.Common.{true, false, ◌≡◌, ◌≢◌, ℕ, zero, suc, Bool, List, [], ◌∷◌, ◌++◌, set, Option, Some, None, Result, Ok, Err, OnOk, refl, ap, sym, subst, ◌∙◌, arith}
use Rattle.std.specs.Prelude.{if◌then◌else◌, slice_index_or, option_map, bytes_eq}
use Rattle.std.proofs.lemmas.Bool.{false_from_ne_true}
use Rattle.std.proofs.lemmas.Slice.Eq.{bytes_eq-Decides}
use Rattle.side_world.specs.Outside.{Disks, ChangesAt}
use Rattle.disk_memory.specs.MemoryDisk.{bytes_of}
use Rattle.side_memory.specs.MemoryOutside.{part_at, held_at, IsPlaceOf, SameElsewhere}
use Rattle.side_memory.specs.declared.disk_places.DiskPlace.{DiskPlace}

-- what a disk in its place holds
abbrev pub held_in : DiskPlace → Option (List ℕ)
held_in place = option_map bytes_of place.disk

-- which calls of a disk in its place are to fail
abbrev pub failing_in : DiskPlace → List ℕ
failing_in place = place.failing

behind : (place : DiskPlace) (places : List DiskPlace) (path : List ℕ) (i : ℕ) → IsPlaceOf (place ∷ places) path (Some (suc i)) → IsPlaceOf places path (Some i)
behind place places path i here = (omega (arith, here.0), here.1, λ k d below. here.2 (suc k) d (omega (arith, below)))

module _ {X : Type 0} (part : DiskPlace → X) (none : X) where
  -- only this part of the disk at this path has changed
  abbrev SameBut : List ℕ → List DiskPlace → List DiskPlace → Type 0
  SameBut path before after = (other : List ℕ) → other ≢ path → part_at part none after other ≡ part_at part none before other

  at_path : (place : DiskPlace) (places : List DiskPlace) (path : List ℕ) → place.path ≡ path → part_at part none (place ∷ places) path ≡ part place
  at_path place places path is =
      ap (λ (b : Bool). if b then part place else part_at part none places path) ((bytes_eq-Decides place.path path).1 is)

  at_other : (place : DiskPlace) (places : List DiskPlace) (path : List ℕ) → place.path ≢ path → part_at part none (place ∷ places) path ≡ part_at part none places path
  at_other place places path other =
      ap (λ (b : Bool). if b then part place else part_at part none places path) (false_from_ne_true (bytes_eq place.path path) (λ e. other ((bytes_eq-Decides place.path path).0 e)))

  -- the front place doesn't count
  same_behind : (place : DiskPlace) (before after : List DiskPlace) (path : List ℕ) → part_at part none after path ≡ part_at part none before path → part_at part none (place ∷ after) path ≡ part_at part none (place ∷ before) path
  same_behind place before after path same = ap (λ (rest : X). if bytes_eq place.path path then part place else rest) same

  -- the part of the disk at a path, by its place
  pub found : (places : List DiskPlace) (path : List ℕ) (i : ℕ) (d : DiskPlace) → IsPlaceOf places path (Some i) → part_at part none places path ≡ part (slice_index_or places i d)
  found [] path i d here = absurd (omega (arith, here.0))
  found (place ∷ places) path zero d here = at_path place places path (here.1 d)
  found (place ∷ places) path (suc i) d here =
      at_other place places path (here.2 0 d (omega arith)) ∙ found places path i d (behind place places path i here)

  -- a place is changed, and its path stays
  pub changed : (places : List DiskPlace) (path : List ℕ) (i : ℕ) (new : DiskPlace) → IsPlaceOf places path (Some i) → new.path ≡ path → (part_at part none (set places i new) path ≡ part new) × SameBut path places (set places i new)
  changed [] path i new here same = absurd (omega (arith, here.0))
  changed (place ∷ places) path zero new here same = (
    at_path new places path same,
    λ other apart.
        at_other new places other (λ e. apart (sym e ∙ same)) ∙ sym (at_other place places other (λ e. apart (sym e ∙ here.1 place))),
  )
  changed (place ∷ places) path (suc i) new here same =
      let rest = changed places path i new (behind place places path i here) same in
      (at_other place (set places i new) path (here.2 0 place (omega arith)) ∙ rest.0, λ other apart. same_behind place places (set places i new) other (rest.1 other apart))

  -- a path that has no place
  pub absent : (places : List DiskPlace) (path : List ℕ) → IsPlaceOf places path None → part_at part none places path ≡ none
  absent [] path nowhere = refl
  absent (place ∷ places) path nowhere =
      at_other place places path (nowhere 0 place (omega arith)) ∙ absent places path (λ k d below. nowhere (suc k) d (omega (arith, below)))

  -- it gets one
  pub added : (places : List DiskPlace) (path : List ℕ) (new : DiskPlace) → IsPlaceOf places path None → new.path ≡ path → (part_at part none (places ++ new ∷ []) path ≡ part new) × SameBut path places (places ++ new ∷ [])
  added [] path new nowhere same = (at_path new [] path same, λ other apart. at_other new [] other (λ e. apart (sym e ∙ same)))
  added (place ∷ places) path new nowhere same =
      let rest = added places path new (λ k d below. nowhere (suc k) d (omega (arith, below))) same in
      (at_other place (places ++ new ∷ []) path (nowhere 0 place (omega arith)) ∙ rest.0, λ other apart. same_behind place places (places ++ new ∷ []) other (rest.1 other apart))

  -- the same, where the list was lent to find the place, and then the place was lent
  pub lent_changed : (items lent : List DiskPlace) (path : List ℕ) (i : ℕ) (now new : DiskPlace) → lent ≡ items → IsPlaceOf lent path (Some i) → now ≡ slice_index_or items i now → new.path ≡ now.path → (part_at part none (set items i new) path ≡ part new) × SameBut path items (set items i new) × (part_at part none items path ≡ part now)
  lent_changed items lent path i now new is here at same =
      let there = subst (λ (z : List DiskPlace). IsPlaceOf z path (Some i)) is here in
      let both = changed items path i new there (same ∙ (ap (λ (p : DiskPlace). p.path) at ∙ there.1 now)) in
      (both.0, both.1, found items path i now there ∙ ap part (sym at))

  pub lent_added : (items lent after : List DiskPlace) (path : List ℕ) (new : DiskPlace) → lent ≡ items → IsPlaceOf lent path None → new.path ≡ path → after ≡ items ++ new ∷ [] → (part_at part none after path ≡ part new) × SameBut path items after × (part_at part none items path ≡ none)
  lent_added items lent after path new is nowhere same more =
      let there = subst (λ (z : List DiskPlace). IsPlaceOf z path None) is nowhere in
      let both = added items path new there same in (
        subst (λ (z : List DiskPlace). part_at part none z path ≡ part new) (sym more) both.0,
        subst (λ (z : List DiskPlace). SameBut path items z) (sym more) both.1,
        absent items path there,
      )

-- a change at one path, where the disks are told
pub changes_at : (told : Bool) (before after : List DiskPlace) (path : List ℕ) (change : Option (List ℕ) → Option (List ℕ) → Type 0) → change (held_at before path) (held_at after path) → SameElsewhere path before after → ChangesAt path (if told then Some (held_at before) else None) (if told then Some (held_at after) else None) change
changes_at false before after path change here others = λ disks is. absurd (cc)
changes_at true before after path change here others = λ disks is.
    let same = after_is disks is in
    (held_at before, refl, subst (λ (f : Disks). change (held_at before path) (f path)) same here, λ other apart. subst (λ (f : Disks). f other ≡ held_at before other) same (others other apart)) where
      after_is : (disks : Disks) → Some (held_at after) ≡ Some disks → held_at after ≡ disks
      after_is disks is = cc

-- the same, where the call that changes it succeeded
pub changes_at_ok : {E X : Type 0} (result : Result X E) (told : Bool) (before after : List DiskPlace) (path bytes : List ℕ) → OnOk result (held_at after path ≡ Some bytes) → OnOk result (SameElsewhere path before after) → OnOk result (ChangesAt path (if told then Some (held_at before) else None) (if told then Some (held_at after) else None) (λ _ held. held ≡ Some bytes))
changes_at_ok (Ok x) told before after path bytes here others = changes_at told before after path (λ _ held. held ≡ Some bytes) here others
changes_at_ok (Err e) told before after path bytes here others = here
