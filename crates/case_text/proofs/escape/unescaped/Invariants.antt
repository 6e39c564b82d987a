-- What was said, with what is left to say, is what the whole text says.
use Rattle.std.proofs.Common.{◌≡◌, List, ℕ, ◌++◌, drop, option_map}
use Rattle.case_text.specs.Reading.{undone}
use Rattle.case_text.specs.declared.escape.Place.TheVariants as Place
use Rattle.case_text.proofs.escape.unescaped.Given as goal

abbrev pub invariant-loop-byte : goal.invariant-loop-byte
invariant-loop-byte l = undone Place.Outside l.text ≡ option_map (λ (more : List ℕ). l.said ++ more) (undone l.place (drop l.byte-index l.text))
