-- Keepers whose keys are fed behind the same secret bytes.
use Rattle.std.proofs.Common.{◌≡◌, ℕ, List, [], ◌∷◌, ◌++◌, sym, subst}
use Rattle.std.proofs.lemmas.List.Elements.{All-nil, All-cons, All-append}
use Rattle.side_world.specs.declared.disk.Disk.{Ghosts}
use Rattle.keeper_core.specs.Table.{fed}
use Rattle.keeper_journal.specs.AnyKeeper.{any_hasher}
use Rattle.keeper_journal.specs.declared.any_keeper.AnyKeeper.{AnyKeeper}
use Rattle.sidecar_keepers.specs.Made.{HashBehind}

-- one more of them
pub behind_more : {D : Type 0} (disking : Ghosts D) (secret : List ℕ) (old new : List (AnyKeeper D disking)) (keeper : AnyKeeper D disking) → new ≡ old ++ keeper ∷ [] → any_hasher keeper ≡ fed secret → HashBehind secret old → HashBehind secret new
behind_more disking secret old new keeper is hashes behind =
    let P = λ (k : AnyKeeper _ disking). any_hasher k ≡ fed secret in
    subst (HashBehind secret) (sym is) (All-append P old (keeper ∷ []) behind (All-cons P keeper [] hashes (All-nil P)))
