-- Texts that are read byte by byte.
use Rattle.std.specs.Prelude.{ℕ, List}
use Rattle.rule_value.specs.declared.operand.Source.{Source}
use Rattle.rule_value.specs.declared.operand.Source.TheVariants.{Own, Told}

-- the bytes that are still to come
abbrev pub bytes_of : Source → List ℕ
bytes_of (Own text) = text.now
bytes_of (Told text) = text
