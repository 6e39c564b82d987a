-- An empty file is written.
use Rattle.std.proofs.Common.{◌≡◌, ℕ, ◌^◌, ◌<◌, List, [], ◌∷◌, ◌++◌, length, sym, ◌∙◌, ap, arith}
use Rattle.std.proofs.lemmas.List.{append-nil}
use Rattle.std.proofs.lemmas.List.Elements.{All-nil}
use Rattle.side_world.specs.Disk.{overwritten}
use Rattle.disk_journal.specs.Image.{header, IsImage}

pub formatted : (old new : List ℕ) → length old ≡ 0 → new ≡ overwritten 0 (header ++ 0 ∷ []) old → new ≡ header ++ 0 ∷ []
unfolding header
formatted [] new none written = written
formatted (x ∷ old) new none written = absurd (omega (arith, none))

-- it is a file of no bodies
pub empty_image : (bytes : List ℕ) → bytes ≡ header ++ 0 ∷ [] → IsImage bytes []
empty_image bytes is = record {
  gate = 0;
  behind = [];
  shut = omega arith;
  lengths = All-nil (λ b. length b < 2 ^ 64);
  bytes_are = is ∙ ap (λ z. z ++ 0 ∷ []) (sym (append-nil header));
}
