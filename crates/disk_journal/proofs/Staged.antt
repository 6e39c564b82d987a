-- The calls of an append, one by one.
use Rattle.std.proofs.Common.{◌≡◌, ◌≤◌, ℕ, ◌+◌, ◌^◌, ◌<◌, List, [], ◌∷◌, ◌++◌, length, Some, None, sym, ◌∙◌, subst, arith}
use Rattle.std.specs.Int.{w64, to_le_bytes}
use Rattle.side_world.specs.Disk.{overwritten, Torn, Becomes, ComesOf, NoNew, LeavesOnly, GoesOn}
use Rattle.side_world.specs.declared.disk.Disk.{Ghosts}
use Rattle.disk_journal.specs.Image.{end_of, IsImage, IsFile}
use Rattle.disk_journal.specs.Moments.{Leaves, Shows, AtEachMoment}
use Rattle.disk_journal.specs.Staging.{IsBegun, HasBegun}
use Rattle.disk_journal.proofs.Crashes.{IsNow, started, goes_on, write_leaves, write_reads, sync_leaves, synced}
use Rattle.disk_journal.proofs.Writes.{image_begins, begun_is_image, torn_behind, written_behind, recorded}

-- an image keeps its bodies under a write behind its gate
image_kept : (bodies : List (List ℕ)) (at n : ℕ) → end_of bodies + 1 ≤ at → (d c : List ℕ) → IsImage d bodies → Torn at n d c → IsImage c bodies
image_kept bodies at n behind d c image torn =
    begun_is_image c bodies [] (torn_behind d c bodies [] at n (image_begins d bodies image) (omega (arith, behind)) torn)

module _ {D : Type 0} (disking : Ghosts D) where
  module _ (first old new : D) (bodies : List (List ℕ)) (begun : List ℕ) (at n : ℕ) (so_far : HasBegun disking first old bodies begun) (place : at ≡ end_of bodies + 1 + length begun)
      (untold : disking.contents old ≡ None → disking.contents new ≡ None)
      (crash : ComesOf (Torn at n) (disking.leaves old) (disking.leaves new))
      (time : GoesOn (disking.moment old) (disking.moment new) (disking.left_since old) (disking.left_since new) (disking.leaves new)) where
    left : Leaves disking new (λ bytes. IsImage bytes bodies)
    left = write_leaves disking old new (λ bytes. IsImage bytes bodies) (λ bytes. IsImage bytes bodies) at n untold crash (image_kept bodies at n (omega (arith, place))) so_far.left

    moments : (change : List ℕ → List ℕ → Type 0) → Becomes (disking.contents old) (disking.contents new) change → AtEachMoment disking first new (λ bytes. IsImage bytes bodies)
    moments change becomes = goes_on disking first old new (λ bytes. IsImage bytes bodies) so_far.moments (λ bytes is. ((becomes bytes is).0, (becomes bytes is).1)) time left

    -- a write that fails
    pub begun_still : Becomes (disking.contents old) (disking.contents new) (Torn at n) → HasBegun disking first new bodies begun
    begun_still becomes = record {
      read =
          write_reads disking old new (λ bytes. IsBegun bytes bodies begun) (λ bytes. IsBegun bytes bodies begun) (Torn at n) untold becomes
          (λ d c was torn. torn_behind d c bodies begun at n was (omega (arith, place)) torn) so_far.read;
      left = left;
      moments = moments (Torn at n) becomes;
    }

    -- a write that succeeds
    pub begun_on : (piece : List ℕ) → Becomes (disking.contents old) (disking.contents new) (λ before after. after ≡ overwritten at piece before) → HasBegun disking first new bodies (begun ++ piece)
    begun_on piece becomes = record {
      read =
          write_reads disking old new (λ bytes. IsBegun bytes bodies begun) (λ bytes. IsBegun bytes bodies (begun ++ piece)) (λ before after. after ≡ overwritten at piece before) untold becomes
          (λ d c was written. written_behind d c bodies begun piece at was place written) so_far.read;
      left = left;
      moments = moments (λ before after. after ≡ overwritten at piece before) becomes;
    }

  pub begins : (disk : D) (bodies : List (List ℕ)) → IsNow disking disk → Shows disking disk (IsFile bodies None) → HasBegun disking disk disk bodies []
  begins disk bodies only_now shows = record {
    read = λ bytes is. image_begins bytes bodies (shows.read bytes is);
    left = shows.left;
    moments = started disking disk (λ bytes. IsImage bytes bodies) only_now shows.left;
  }

  pub whole_so_far : (first new : D) (bodies : List (List ℕ)) (begun : List ℕ) → HasBegun disking first new bodies begun → Shows disking new (IsFile bodies None)
  whole_so_far first new bodies begun so_far = record { read = λ bytes is. begun_is_image bytes bodies begun (so_far.read bytes is); left = so_far.left }

  -- a sync, whether it succeeds or not
  pub sync_on : (first old new : D) (bodies : List (List ℕ)) (begun : List ℕ) → HasBegun disking first old bodies begun → disking.contents new ≡ disking.contents old → NoNew (disking.leaves old) (disking.leaves new)
      → GoesOn (disking.moment old) (disking.moment new) (disking.left_since old) (disking.left_since new) (disking.leaves new) → HasBegun disking first new bodies begun
  sync_on first old new bodies begun so_far same no_new time =
      let left = sync_leaves disking old new (λ bytes. IsImage bytes bodies) same no_new so_far.left in
      record {
        read = λ bytes is. so_far.read bytes (sym same ∙ is);
        left = left;
        moments = goes_on disking first old new (λ bytes. IsImage bytes bodies) so_far.moments (λ bytes is. (bytes, same ∙ is)) time left;
      }

  pub all_staged : (first old new : D) (bodies : List (List ℕ)) (len body : List ℕ) → len ≡ to_le_bytes w64 (length body) → length body < 2 ^ 64 → HasBegun disking first old bodies ((len ++ body) ++ 0 ∷ [])
      → disking.contents new ≡ disking.contents old → LeavesOnly (disking.contents old) (disking.leaves new) → Shows disking new (IsFile bodies (Some body))
  all_staged first old new bodies len body is_len short so_far same only =
      synced disking old new (IsFile bodies (Some body)) same only
      (λ bytes is.
      let begun = subst (λ l. IsBegun bytes bodies ((l ++ body) ++ 0 ∷ [])) is_len (so_far.read bytes is) in
      let whole = recorded bytes bodies body short begun in
      (whole.0, whole.2))
