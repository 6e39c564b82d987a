use Rattle.std.proofs.Common.{◌≡◌, drop}
use Rattle.yaml_lines.specs.declared.quoted.Escape.TheVariants.{Between as between}
use Rattle.yaml_lines.specs.Quoted.{double_text, prefixed, FitsEscape}
use Rattle.yaml_lines.proofs.quoted.double_unquoted.Given as goal

abbrev pub invariant-loop-byte : goal.invariant-loop-byte
invariant-loop-byte l = record {
  fits : FitsEscape l.escape;
  same : prefixed l.text.items (double_text l.escape (drop l.byte-index l.bytes)) ≡ double_text between l.bytes;
}
