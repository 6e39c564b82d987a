-- How many bytes fields take.
use Rattle.std.proofs.Common.{◌*◌, ◌<◌, ◌≤◌, List, [], ◌∷◌, length, lit<, arith, length-append}
use Rattle.std.proofs.lemmas.List.Elements.{All-head, All-tail}
use Rattle.std.specs.List.{All, flat_map}
use Rattle.httparse.specs.Grammar.{Field, IsField, LineEnd, crlf, lf, print_end, print_field}

-- each field takes three bytes at least
end_some : (end : LineEnd) → 0 < length (print_end end)
end_some crlf = lit< tt
end_some lf = lit< tt

field_len : (f : Field) → IsField f → 3 ≤ length (print_field f)
field_len f is = simp length-append (omega (arith, is.name.0, end_some f.end))

pub lines_len : (fields : List Field) → All IsField fields → 3 * length fields ≤ length (flat_map print_field fields)
lines_len [] each = omega arith
lines_len (f ∷ fields) each =
    omega (arith, length-append (print_field f) (flat_map print_field fields), field_len f (All-head IsField f fields each), lines_len fields (All-tail IsField f fields each))
