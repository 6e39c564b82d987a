use Rattle.std.proofs.Common.{sym, ◌∙◌, arith}
use Rattle.json_text.proofs.Tokens.{read_name, read_nothing, read_name_broken}
use Rattle.json_text.proofs.Steps.{ends_low}
use Rattle.json_lexemes.specs.declared.lexeme.Lexeme.TheVariants.{Plain as plain}
use Rattle.std.proofs.Common.{◌+◌, false}
use Rattle.json_text.proofs.reader.Reader.name.Goals as goal

pub returns-then-not-begins_name-clause-err : goal.returns-then-not-begins_name-clause-err
returns-then-not-begins_name-clause-err c =
    let self = c.args.self.now in
    let f = c.requires.faces in
    read_nothing self.bytes.now self.at c.args.here self.nodes.items self.opened.items c.args.level f.faces.reader.reads f.faces.between f.no_close f.no_turn c.requires.takes (sym c.begins_name.ensures ∙ c.if-not-begins_name.true)

pub returns-in-Err-clause-err : goal.returns-in-Err-clause-err
returns-in-Err-clause-err c =
    let self = c.args.self.now in
    let f = c.requires.faces in
    read_name_broken self.bytes.now self.at c.args.here self.nodes.items self.opened.items c.args.level f.faces.reader.reads f.faces.between c.in-Err.place f.no_close f.no_turn c.requires.takes (sym c.begins_name.ensures ∙ c.if-not-begins_name.false) c.in-Err.ensures.broken

pub returns-clause-moved : goal.returns-clause-moved
returns-clause-moved c =
    let self = c.args.self.now in
    omega (arith, ends_low self.bytes.now (self.at + 1) c.in-Ok.word.end (plain false) c.in-Ok.word.kind c.in-Ok.ensures.ended)

pub returns-clause-reader : goal.returns-clause-reader
returns-clause-reader c =
    let self = c.args.self.now in
    let f = c.requires.faces in
    record {
      reads = read_name self.bytes.now self.at c.args.here self.nodes.items self.opened.items c.args.level f.faces.reader.reads f.faces.between c.in-Ok.word.end c.in-Ok.word.kind f.no_close f.no_turn c.requires.takes (sym c.begins_name.ensures ∙ c.if-not-begins_name.false) c.in-Ok.ensures.ended;
      known = f.faces.reader.known;
    }
