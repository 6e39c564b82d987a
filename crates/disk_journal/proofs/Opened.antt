-- What the calls that open a journal leave.
use Rattle.std.proofs.Common.{◌≡◌, ℕ, ◌^◌, ◌<◌, List, [], ◌++◌, length, None, sym, ◌∙◌, ap, subst, arith}
use Rattle.std.proofs.lemmas.List.{append-nil}
use Rattle.std.proofs.lemmas.List.Elements.{All-nil}
use Rattle.side_world.specs.Disk.{LeavesOnly}
use Rattle.side_world.specs.declared.disk.Disk.{Ghosts}
use Rattle.disk_journal.specs.Image.{header, IsImage, IsFile}
use Rattle.disk_journal.specs.Moments.{Reads, Shows, ChangesNothing}
use Rattle.disk_journal.specs.Opening.{opening_disk, gate_of, HasGiven, HasGivenAll}
use Rattle.disk_journal.specs.declared.opening.Opening.{Opening}
use Rattle.disk_journal.proofs.Images.{end_of-nil}

module _ {D : Type 0} (disking : Ghosts D) where
  -- calls that change nothing, and then such calls
  pub nothing_then : (old mid new : D) → ChangesNothing disking old mid → ChangesNothing disking mid new → ChangesNothing disking old new
  nothing_then old mid new one two = record {
    contents = two.contents ∙ one.contents;
    size = two.size ∙ one.size;
    leaves = λ c left. one.leaves c (two.leaves c left);
    later = omega (arith, one.later, two.later);
    before = λ t c since left. one.before t c since (two.before t c (omega (arith, since, one.later)) left);
  }

  -- before the first body
  pub given_nothing : (first mid : D) (opening : Opening D disking) → ChangesNothing disking first mid → LeavesOnly (disking.contents first) (disking.leaves mid) → ChangesNothing disking mid (opening_disk opening)
      → gate_of opening ≡ 16 → Reads disking mid (λ bytes. (left : List ℕ) × (bytes ≡ header ++ left)) → HasGiven disking first opening []
  given_nothing first mid opening one synced two gate begins = record {
    lengths = All-nil (λ b. length b < 2 ^ 64);
    gate = gate ∙ sym end_of-nil;
    begins = λ bytes told.
        let has = begins bytes (one.contents ∙ told) in
        (has.0, has.1 ∙ ap (λ z. z ++ has.0) (sym (append-nil header)));
    changed = nothing_then first mid (opening_disk opening) one two;
    synced = λ c bytes leaves told. synced c bytes (two.leaves c leaves) told;
  }

  -- all that a crash may leave is what a read gives
  pub all_shown : (first : D) (opening : Opening D disking) (bodies : List (List ℕ)) → HasGivenAll disking first opening bodies → Shows disking (opening_disk opening) (IsFile bodies None)
  all_shown first opening bodies all =
      let same = all.given.changed.contents in
      record {
        read = λ bytes told. all.image bytes (sym same ∙ told);
        left = λ bytes c told leaves. subst (λ z. IsImage z bodies) (sym (all.given.synced c bytes leaves (sym same ∙ told))) (all.image bytes (sym same ∙ told));
      }
