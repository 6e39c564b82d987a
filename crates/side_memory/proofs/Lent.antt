-- An option that was lent.
use Rattle.std.proofs.Common.{◌≡◌, Option, Some, None, Bor, refl}
use Rattle.std.specs.Prelude.{option_map, option_copied}

pub lent_option : {X Y : Type 0} (f : X → Y) (lent : Option (Bor X)) → option_map (λ (b : Bor X). f b.now) lent ≡ option_map f (option_copied lent)
lent_option f None = refl
lent_option f (Some b) = refl
