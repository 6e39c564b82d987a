-- The gate of a whole record is written.
use Rattle.std.proofs.Common.{◌≡◌, ℕ, List, [], ◌∷◌, Some, None, sym, ◌∙◌}
use Rattle.side_world.specs.Disk.{overwritten, Torn, Becomes, ComesOf, NoNew, GoesOn}
use Rattle.side_world.specs.declared.disk.Disk.{Ghosts}
use Rattle.disk_journal.specs.Image.{end_of, IsRecorded, IsFile}
use Rattle.disk_journal.specs.Moments.{Leaves, Shows, AtEachMoment}
use Rattle.disk_journal.specs.Staging.{IsInDoubt}
use Rattle.disk_journal.proofs.Crashes.{IsNow, started, goes_on, write_leaves, write_reads, sync_leaves}
use Rattle.disk_journal.proofs.Writes.{torn_gate, written_gate}

doubt_kept : (bodies : List (List ℕ)) (body : List ℕ) (at : ℕ) → at ≡ end_of bodies → (d c : List ℕ) → IsFile bodies (Some body) d → Torn at 1 d c → IsFile bodies (Some body) c
doubt_kept bodies body at place d c was torn = torn_gate d bodies was.0 body was.1 at place c torn

module _ {D : Type 0} (disking : Ghosts D) (old new : D) (bodies : List (List ℕ)) (body : List ℕ) where
  module _ (at : ℕ) (place : at ≡ end_of bodies) (only_now : IsNow disking old) (shows : Shows disking old (IsFile bodies (Some body)))
      (untold : disking.contents old ≡ None → disking.contents new ≡ None)
      (crash : ComesOf (Torn at 1) (disking.leaves old) (disking.leaves new))
      (time : GoesOn (disking.moment old) (disking.moment new) (disking.left_since old) (disking.left_since new) (disking.leaves new)) where
    left : Leaves disking new (IsFile bodies (Some body))
    left = write_leaves disking old new (IsFile bodies (Some body)) (IsFile bodies (Some body)) at 1 untold crash (doubt_kept bodies body at place) shows.left

    moments : (change : List ℕ → List ℕ → Type 0) → Becomes (disking.contents old) (disking.contents new) change → AtEachMoment disking old new (IsFile bodies (Some body))
    moments change becomes =
        goes_on disking old old new (IsFile bodies (Some body)) (started disking old (IsFile bodies (Some body)) only_now shows.left)
        (λ bytes is. ((becomes bytes is).0, (becomes bytes is).1)) time left

    -- a write that fails
    pub gate_torn : Becomes (disking.contents old) (disking.contents new) (Torn at 1) → IsInDoubt disking old new bodies body
    gate_torn becomes = record {
      shows = record {
        read = write_reads disking old new (IsFile bodies (Some body)) (IsFile bodies (Some body)) (Torn at 1) untold becomes (doubt_kept bodies body at place) shows.read;
        left = left;
      };
      moments = moments (Torn at 1) becomes;
    }

    -- one that succeeds
    pub gate_reads : (gate : ℕ) → Becomes (disking.contents old) (disking.contents new) (λ before after. after ≡ overwritten at (gate ∷ []) before) → (bytes : List ℕ) → disking.contents new ≡ Some bytes → IsRecorded bytes bodies gate body
    gate_reads gate becomes =
        write_reads disking old new (IsFile bodies (Some body)) (λ bytes. IsRecorded bytes bodies gate body) (λ before after. after ≡ overwritten at (gate ∷ []) before) untold becomes
        (λ d c was written. written_gate d bodies was.0 body was.1 at place c gate written) shows.read

    pub gate_written : (gate : ℕ) → Becomes (disking.contents old) (disking.contents new) (λ before after. after ≡ overwritten at (gate ∷ []) before) → IsInDoubt disking old new bodies body
    gate_written gate becomes = record {
      shows = record { read = λ bytes is. (gate, gate_reads gate becomes bytes is); left = left };
      moments = moments (λ before after. after ≡ overwritten at (gate ∷ []) before) becomes;
    }

  -- a sync, whether it succeeds or not
  pub doubt_synced : (first : D) → IsInDoubt disking first old bodies body → disking.contents new ≡ disking.contents old → NoNew (disking.leaves old) (disking.leaves new)
      → GoesOn (disking.moment old) (disking.moment new) (disking.left_since old) (disking.left_since new) (disking.leaves new) → IsInDoubt disking first new bodies body
  doubt_synced first so_far same no_new time =
      let left = sync_leaves disking old new (IsFile bodies (Some body)) same no_new so_far.shows.left in
      record {
        shows = record { read = λ bytes is. so_far.shows.read bytes (sym same ∙ is); left = left };
        moments = goes_on disking first old new (IsFile bodies (Some body)) so_far.moments (λ bytes is. (bytes, same ∙ is)) time left;
      }
