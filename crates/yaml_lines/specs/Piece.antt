-- A few bytes of a text.
use Rattle.std.specs.Prelude.{ℕ, List, take}
use Rattle.yaml_lines.specs.declared.piece.Piece.{Piece}
use Rattle.yaml_lines.specs.declared.quoted.Stepped.{Stepped}
use Rattle.yaml_lines.specs.Quoted.{Step}

abbrev pub piece_bytes : Piece → List ℕ
piece_bytes piece = take piece.len piece.bytes

abbrev pub step_shown : Stepped → Step
step_shown s = record { after = s.after; bytes = piece_bytes s.piece }
