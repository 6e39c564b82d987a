-- How a repair and an append make one call.
use Rattle.std.proofs.Common.{◌≡◌, inl, inr, ◌≤◌, ℕ, false, List, Option, Some, None, sym, subst, arith}
use Rattle.side_world.specs.Faults.{Rose}
use Rattle.side_world.specs.declared.disk.Disk.{Ghosts}
use Rattle.disk_journal.specs.Image.{IsImage, IsWithOrWithout}
use Rattle.disk_journal.specs.Journal.{Holds, disk_of, torn_of}
use Rattle.disk_journal.specs.Moments.{AtEachMoment}
use Rattle.disk_journal.specs.declared.journal.Journal.{Journal}
use Rattle.disk_journal.proofs.Crashes.{OnlyNow, started, joined, weaker}
use Rattle.disk_journal.proofs.Runs.{with_any, with_added}
use Rattle.keeper_journal.specs.Storing.{IsWithDoubt, IsWithOneAtMost}

pub rose_since : (a b d : ℕ) → a ≤ b → Rose b d → Rose a d
rose_since a b d le (inl lt) = inl (omega arith)
rose_since a b d le (inr top) = inr top

module _ {D : Type 0} (disking : Ghosts D) where
  pub not_repaired : (old new : Journal D disking) (bodies : List (List ℕ)) (doubt : Option (List ℕ)) → (torn_of old ≡ false → ⊥) → ((d : List ℕ) → Holds disking old bodies (Some d) → Holds disking new bodies (Some d))
      → Holds disking old bodies doubt → Holds disking new bodies doubt
  not_repaired old new bodies None torn undone holds = absurd (torn holds.torn)
  not_repaired old new bodies (Some d) torn undone holds = undone d holds

  pub is_repaired : (old new : Journal D disking) (bodies : List (List ℕ)) (doubt : Option (List ℕ)) → (torn_of old ≡ false → new ≡ old) → ((d : List ℕ) → Holds disking old bodies (Some d) → Holds disking new bodies None)
      → Holds disking old bodies doubt → Holds disking new bodies None
  is_repaired old new bodies None whole repaired holds = subst (λ (j : Journal D disking). Holds disking j bodies None) (sym (whole holds.torn)) holds
  is_repaired old new bodies (Some d) whole repaired holds = repaired d holds

  pub while_mending : OnlyNow disking → (old new : Journal D disking) (bodies : List (List ℕ)) (doubt : Option (List ℕ)) → (torn_of old ≡ false → new ≡ old)
      → ((d : List ℕ) → Holds disking old bodies (Some d) → AtEachMoment disking (disk_of old) (disk_of new) (IsWithOrWithout bodies d))
      → Holds disking old bodies doubt → AtEachMoment disking (disk_of old) (disk_of new) (IsWithDoubt bodies doubt)
  while_mending only old new bodies None whole moments holds =
      subst (λ (j : Journal D disking). AtEachMoment disking (disk_of old) (disk_of j) (IsWithDoubt bodies None)) (sym (whole holds.torn))
      (started disking (disk_of old) (IsWithDoubt bodies None) (only (disk_of old)) (λ bytes c told left. inl (holds.file.left bytes c told left)))
  while_mending only old new bodies (Some d) whole moments holds = moments d holds

  pub while_mended : (old new : Journal D disking) (bodies : List (List ℕ)) (doubt : Option (List ℕ)) (body : List ℕ) → AtEachMoment disking (disk_of old) (disk_of new) (IsWithDoubt bodies doubt)
      → AtEachMoment disking (disk_of old) (disk_of new) (IsWithOneAtMost bodies doubt body)
  while_mended old new bodies doubt body moments = weaker disking (disk_of old) (disk_of new) (IsWithDoubt bodies doubt) (IsWithOneAtMost bodies doubt body) (λ c. with_any (IsImage c) bodies doubt body) moments

  pub while_appending : (old mid new : Journal D disking) (bodies : List (List ℕ)) (doubt : Option (List ℕ)) (body : List ℕ) → AtEachMoment disking (disk_of old) (disk_of mid) (IsWithOneAtMost bodies doubt body)
      → AtEachMoment disking (disk_of mid) (disk_of new) (IsWithOrWithout bodies body) → AtEachMoment disking (disk_of old) (disk_of new) (IsWithOneAtMost bodies doubt body)
  while_appending old mid new bodies doubt body first second =
      joined disking (disk_of old) (disk_of mid) (disk_of new) (IsWithOneAtMost bodies doubt body) first
      (weaker disking (disk_of mid) (disk_of new) (IsWithOrWithout bodies body) (IsWithOneAtMost bodies doubt body) (λ c. with_added (IsImage c) bodies doubt body) second)
