-- How many bytes of a kind come first.
use Rattle.std.proofs.Common.{ℕ, ◌≤◌, Bool, List, length, arith, take}
use Rattle.std.specs.List.{take_while, prefix_len}
use Rattle.std.proofs.lemmas.List.{length-take}

pub take_le : {X : Type 0} (n : ℕ) (xs : List X) → length (take n xs) ≤ length xs
take_le n xs = omega (arith, length-take n xs)

pub take_while_le : {X : Type 0} (p : X → Bool) (xs : List X) → length (take_while p xs) ≤ length xs
take_while_le p xs = take_le (prefix_len p xs) xs
