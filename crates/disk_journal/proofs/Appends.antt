-- An append, and a repair.
use Rattle.std.proofs.Common.{ℕ, List, [], ◌∷◌, ◌++◌, Some, None, inl, refl, arith}
use Rattle.side_world.specs.declared.disk.Disk.{Ghosts}
use Rattle.disk_journal.specs.Image.{IsImage, IsRecorded, IsFile, IsWithOrWithout}
use Rattle.disk_journal.specs.Moments.{Shows, AtEachMoment}
use Rattle.disk_journal.specs.Staging.{HasBegun, IsInDoubt}
use Rattle.disk_journal.proofs.Crashes.{IsNow, started, joined, weaker, shows_weaker}
use Rattle.disk_journal.proofs.Images.{without, with_one, with_or_without}

module _ {D : Type 0} (disking : Ghosts D) (bodies : List (List ℕ)) (body : List ℕ) where
  pub refused_moments : (disk : D) → IsNow disking disk → Shows disking disk (IsFile bodies None) → AtEachMoment disking disk disk (IsWithOrWithout bodies body)
  refused_moments disk only_now shows = started disking disk (IsWithOrWithout bodies body) only_now (λ bytes c is left. inl (shows.left bytes c is left))

  pub stage_moments : (old new : D) (begun : List ℕ) → HasBegun disking old new bodies begun → AtEachMoment disking old new (IsWithOrWithout bodies body)
  stage_moments old new begun so_far = weaker disking old new (λ bytes. IsImage bytes bodies) (IsWithOrWithout bodies body) (λ c image. inl image) so_far.moments

  pub gate_moments : (old new : D) → IsInDoubt disking old new bodies body → AtEachMoment disking old new (IsWithOrWithout bodies body)
  gate_moments old new doubt = weaker disking old new (IsFile bodies (Some body)) (IsWithOrWithout bodies body) (λ c is. with_or_without c bodies is.0 body is.1) doubt.moments

  pub append_moments : (old mid new : D) (begun : List ℕ) → HasBegun disking old mid bodies begun → IsInDoubt disking mid new bodies body → AtEachMoment disking old new (IsWithOrWithout bodies body)
  append_moments old mid new begun so_far doubt =
      joined disking old mid new (IsWithOrWithout bodies body) (stage_moments old mid begun so_far) (gate_moments mid new doubt)

  pub shows_one_more : (disk : D) → Shows disking disk (λ bytes. IsRecorded bytes bodies 1 body) → Shows disking disk (IsFile (bodies ++ body ∷ []) None)
  shows_one_more disk shows = shows_weaker disking disk (λ bytes. IsRecorded bytes bodies 1 body) (IsFile (bodies ++ body ∷ []) None) (λ c is. with_one c bodies 1 body is refl) shows

  pub shows_no_more : (disk : D) → Shows disking disk (λ bytes. IsRecorded bytes bodies 0 body) → Shows disking disk (IsFile bodies None)
  shows_no_more disk shows = shows_weaker disking disk (λ bytes. IsRecorded bytes bodies 0 body) (IsFile bodies None) (λ c is. without c bodies 0 body is (omega arith)) shows
