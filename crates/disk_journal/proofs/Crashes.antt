-- What a crash leaves at each moment of some calls on a disk.
use Rattle.std.proofs.Common.{◌≡◌, inl, inr, ⊎_elim, ℕ, List, Option, Some, None, refl, sym, ◌∙◌, subst, arith}
use Rattle.side_world.specs.Disk.{Torn, Becomes, ComesOf, NoNew, LeavesOnly, GoesOn}
use Rattle.side_world.specs.declared.disk.Disk.{Ghosts}
use Rattle.disk_journal.specs.Moments.{Reads, Leaves, Shows, AtEachMoment}

-- what is told now was told before
pub told_before : {X : Type 0} (before now : Option X) (x : X) → (before ≡ None → now ≡ None) → now ≡ Some x → (y : X) × (before ≡ Some y)
told_before None now x untold is = absurd (cc (untold refl, is))
told_before (Some y) now x untold is = (y, refl)

module _ {D : Type 0} (disking : Ghosts D) where
  -- since this moment there is no other
  abbrev pub IsNow : D → Type 0
  IsNow disk = (c : List ℕ) → disking.left_since disk (disking.moment disk) c → disking.leaves disk c

  abbrev pub OnlyNow : Type 0
  OnlyNow = (disk : D) → IsNow disk

  -- before the first call
  pub started : (old : D) (P : List ℕ → Type 0) → IsNow old → Leaves disking old P → AtEachMoment disking old old P
  started old P only_now left = record {
    later = omega arith;
    told = λ bytes is. (bytes, is);
    since = λ bytes c is had. left bytes c is (only_now c had);
    before = λ bytes is t c le had. inl had;
  }

  -- one call more
  pub goes_on : (old mid new : D) (P : List ℕ → Type 0) → AtEachMoment disking old mid P
      → ((bytes : List ℕ) → disking.contents mid ≡ Some bytes → (now : List ℕ) × (disking.contents new ≡ Some now))
      → GoesOn (disking.moment mid) (disking.moment new) (disking.left_since mid) (disking.left_since new) (disking.leaves new)
      → Leaves disking new P → AtEachMoment disking old new P
  goes_on old mid new P so_far told time left = record {
    later = omega (arith, so_far.later, time.later);
    told = λ bytes is. told (so_far.told bytes is).0 (so_far.told bytes is).1;
    since = λ bytes c is had.
        let mid_told = so_far.told bytes is in
        let new_told = told mid_told.0 mid_told.1 in
        ⊎_elim (so_far.since bytes c is) (left new_told.0 c new_told.1) (time.nothing_else (disking.moment old) c so_far.later had);
    before = λ bytes is t c le had.
        let mid_told = so_far.told bytes is in
        let new_told = told mid_told.0 mid_told.1 in
        ⊎_elim (so_far.before bytes is t c le) (λ now. inr (left new_told.0 c new_told.1 now)) (time.nothing_else t c (omega (arith, le, so_far.later)) had);
  }

  -- calls after calls
  pub joined : (old mid new : D) (P : List ℕ → Type 0) → AtEachMoment disking old mid P → AtEachMoment disking mid new P → AtEachMoment disking old new P
  joined old mid new P first second = record {
    later = omega (arith, first.later, second.later);
    told = λ bytes is. second.told (first.told bytes is).0 (first.told bytes is).1;
    since = λ bytes c is had.
        let mid_told = first.told bytes is in
        ⊎_elim (first.since bytes c is) (λ now. now) (second.before mid_told.0 mid_told.1 (disking.moment old) c first.later had);
    before = λ bytes is t c le had.
        let mid_told = first.told bytes is in
        ⊎_elim (first.before bytes is t c le) (λ now. inr now) (second.before mid_told.0 mid_told.1 t c (omega (arith, le, first.later)) had);
  }

  pub weaker : (old new : D) (P Q : List ℕ → Type 0) → ((c : List ℕ) → P c → Q c) → AtEachMoment disking old new P → AtEachMoment disking old new Q
  weaker old new P Q leads all = record {
    later = all.later;
    told = all.told;
    since = λ bytes c is had. leads c (all.since bytes c is had);
    before = λ bytes is t c le had. ⊎_elim (λ was. inl was) (λ now. inr (leads c now)) (all.before bytes is t c le had);
  }

  pub shows_weaker : (disk : D) (P Q : List ℕ → Type 0) → ((c : List ℕ) → P c → Q c) → Shows disking disk P → Shows disking disk Q
  shows_weaker disk P Q leads shows = record { read = λ bytes is. leads bytes (shows.read bytes is); left = λ bytes c is left. leads c (shows.left bytes c is left) }

  -- a sync, whether it succeeds or not
  pub sync_leaves : (old new : D) (P : List ℕ → Type 0) → disking.contents new ≡ disking.contents old → NoNew (disking.leaves old) (disking.leaves new) → Leaves disking old P → Leaves disking new P
  sync_leaves old new P same no_new left bytes c is now = left bytes c (sym same ∙ is) (no_new c now)

  pub sync_reads : (old new : D) (P : List ℕ → Type 0) → disking.contents new ≡ disking.contents old → Reads disking old P → Reads disking new P
  sync_reads old new P same read bytes is = read bytes (sym same ∙ is)

  -- after one that succeeds a crash leaves what a read gives
  pub synced : (old new : D) (P : List ℕ → Type 0) → disking.contents new ≡ disking.contents old → LeavesOnly (disking.contents old) (disking.leaves new) → Reads disking old P → Shows disking new P
  synced old new P same only read = record {
    read = λ bytes is. read bytes (sym same ∙ is);
    left = λ bytes c is now. subst P (sym (only c bytes now (sym same ∙ is))) (read bytes (sym same ∙ is));
  }

  -- a write, whether it succeeds or not
  pub write_leaves : (old new : D) (P Q : List ℕ → Type 0) (at n : ℕ) → (disking.contents old ≡ None → disking.contents new ≡ None) → ComesOf (Torn at n) (disking.leaves old) (disking.leaves new)
      → ((d c : List ℕ) → P d → Torn at n d c → Q c) → Leaves disking old P → Leaves disking new Q
  write_leaves old new P Q at n untold comes leads left bytes c is now =
      let was = told_before (disking.contents old) (disking.contents new) bytes untold is in
      let from = comes c now in
      leads from.0 c (left was.0 from.0 was.1 from.1) from.2

  pub write_reads : (old new : D) (P Q : List ℕ → Type 0) (change : List ℕ → List ℕ → Type 0) → (disking.contents old ≡ None → disking.contents new ≡ None) → Becomes (disking.contents old) (disking.contents new) change
      → ((d c : List ℕ) → P d → change d c → Q c) → Reads disking old P → Reads disking new Q
  write_reads old new P Q change untold becomes leads read bytes is =
      let was = told_before (disking.contents old) (disking.contents new) bytes untold is in
      let made = becomes was.0 was.1 in
      let same : made.0 ≡ bytes = cc (sym made.1 ∙ is) in
      subst Q same (leads was.0 made.0 (read was.0 was.1) made.2)
