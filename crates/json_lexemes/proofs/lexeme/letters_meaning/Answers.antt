use Rattle.std.proofs.Common.{◌<◌, length, sym, ap, arith}
use Rattle.json_lexemes.specs.Lexeme.{literal}
use Rattle.json_lexemes.proofs.Escapes.{letters_to_come}
use Rattle.json_lexemes.proofs.lexeme.letters_meaning.Goals as goal

pub returns-then-read-letters_of : goal.returns-then-read-letters_of
returns-then-read-letters_of c =
    let inside : c.args.read < length (literal c.args.kind) = omega (arith, c.if-read-letters_of.true, ap length c.letters_of.ensures) in
    sym (letters_to_come c.args.kind c.args.read (literal c.args.kind) inside)
