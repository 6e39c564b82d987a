use Rattle.std.proofs.Common.{◌≡◌, ◌+◌, ◌++◌, ◌∷◌, [], length, sym, ap, subst, ◌∙◌, arith}
use Rattle.json_text.specs.Progress.{spot}
use Rattle.json_text.specs.Reading.{Reads}
use Rattle.json_text.specs.declared.part.Part.TheVariants.{Rest as rest}
use Rattle.json_text.proofs.Tokens.{read_word, read_no_word, read_broken}
use Rattle.json_text.proofs.Steps.{ends_low}
use Rattle.json_text.proofs.reader.Reader.word.Goals as goal

pub returns-in-None-clause-err : goal.returns-in-None-clause-err
returns-in-None-clause-err c =
    let self = c.args.self.now in
    let f = c.requires.faces in
    read_no_word self.bytes.now self.at c.args.here self.nodes.items self.opened.items c.args.level f.faces.reader.reads f.faces.between c.args.name f.no_close f.no_turn c.requires.takes c.requires.no_bracket (sym c.in-None.ensures)

pub returns-in-Err-clause-err : goal.returns-in-Err-clause-err
returns-in-Err-clause-err c =
    let self = c.args.self.now in
    let f = c.requires.faces in
    read_broken self.bytes.now self.at c.args.here self.nodes.items self.opened.items c.args.level f.faces.reader.reads f.faces.between c.args.name c.in-Some.first c.in-Err.place f.no_close f.no_turn c.requires.takes c.requires.no_bracket (sym c.in-Some.ensures) c.in-Err.ensures.broken

pub returns-clause-moved : goal.returns-clause-moved
returns-clause-moved c =
    let self = c.args.self.now in
    omega (arith, ends_low self.bytes.now (self.at + 1) c.in-Ok.word.end c.in-Some.first c.in-Ok.word.kind c.in-Ok.ensures.ended)

pub returns-clause-reader : goal.returns-clause-reader
returns-clause-reader c =
    let self = c.args.self.now in
    let f = c.requires.faces in
    let word = c.in-Ok.word in
    let nodes = self.nodes.items in
    let counted : c.len.result ≡ length self.opened.items = omega (arith, c.len.ensures) in
    let pushed : c.keep.new.nodes.items ≡ nodes ++ record { spot = spot word.kind self.at word.end c.args.name; depth = length self.opened.items; size = 1 } ∷ [] =
    c.in-Ok-keep.ensures ∙ ap (λ s. nodes ++ record { spot = s; depth = c.len.result; size = 1 } ∷ []) c.spot_of.ensures
    ∙ ap (λ d. nodes ++ record { spot = spot word.kind self.at word.end c.args.name; depth = d; size = 1 } ∷ []) counted in
    record {
      reads = subst (λ n. Reads self.bytes.now word.end rest n self.opened.items) (sym pushed)
          (read_word self.bytes.now self.at c.args.here nodes self.opened.items c.args.level f.faces.reader.reads f.faces.between c.args.name c.in-Some.first word.end word.kind f.no_close f.no_turn c.requires.takes c.requires.no_bracket (sym c.in-Some.ensures) c.in-Ok.ensures.ended);
      known = f.faces.reader.known;
    }
