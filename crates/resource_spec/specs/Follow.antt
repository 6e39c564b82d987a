-- One test after the other, up to the first that refuses.
use Rattle.std.specs.Prelude.{Result, Ok, Err}

abbrev pub follow : {A B E : Type 0} → Result A E → (A → Result B E) → Result B E
follow (Ok x) further = further x
follow (Err e) further = Err e
