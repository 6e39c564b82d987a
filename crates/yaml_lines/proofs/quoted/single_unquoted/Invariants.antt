use Rattle.std.proofs.Common.{◌≡◌, ◌++◌, false, drop}
use Rattle.yaml_lines.specs.Quoted.{single_text}
use Rattle.yaml_lines.proofs.quoted.single_unquoted.Given as goal

abbrev pub invariant-loop-byte : goal.invariant-loop-byte
invariant-loop-byte l = l.text.items ++ single_text l.paired (drop l.byte-index l.bytes) ≡ single_text false l.bytes
