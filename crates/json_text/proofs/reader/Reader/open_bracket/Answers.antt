use Rattle.std.proofs.Common.{◌≡◌, ◌≤◌, ◌<◌, ◌+◌, ◌++◌, ◌∷◌, [], length, sym, ap, subst, ◌∙◌, arith}
use Rattle.json_text.specs.declared.part.Part.TheVariants.{Start as start}
use Rattle.json_text.specs.Grammar.{bracket_kind}
use Rattle.json_text.specs.Progress.{spot}
use Rattle.json_text.specs.Reading.{Reads}
use Rattle.json_text.proofs.Tokens.{read_open, read_deep}
use Rattle.json_text.proofs.reader.Reader.open_bracket.Goals as goal

pub returns-then-depth-ge-MAX_DEPTH-clause-err : goal.returns-then-depth-ge-MAX_DEPTH-clause-err
returns-then-depth-ge-MAX_DEPTH-clause-err c =
    let self = c.args.self.now in
    let f = c.requires.faces in
    let full : 64 ≤ length self.opened.items = omega (arith, c.len-depth.ensures, c.if-depth-ge-MAX_DEPTH.true) in
    read_deep self.bytes.now self.at c.args.here self.nodes.items self.opened.items c.args.level f.faces.reader.reads f.faces.between c.args.name c.args.bracket f.no_close f.no_turn c.requires.takes c.requires.bracket full

pub returns-clause-reader : goal.returns-clause-reader
returns-clause-reader c =
    let self = c.args.self.now in
    let f = c.requires.faces in
    let nodes = self.nodes.items in
    let opened = self.opened.items in
    let room : length opened < 64 = omega (arith, c.len-depth.ensures, c.if-depth-ge-MAX_DEPTH.false) in
    let at = self.at in
    let counted : c.len-depth.result ≡ length opened = omega (arith, c.len-depth.ensures) in
    let placed : c.len-node.result ≡ length nodes = omega (arith, c.len-node.ensures) in
    let pushed : c.keep.new.nodes.items ≡ nodes ++ record { spot = spot (bracket_kind c.args.bracket) at at c.args.name; depth = length opened; size = 0 } ∷ [] =
    c.in-Ok.ensures ∙ ap (λ s. nodes ++ record { spot = s; depth = c.len-depth.result; size = 0 } ∷ []) (c.spot_of.ensures ∙ ap (λ k. spot k at at c.args.name) c.kind_of.ensures)
    ∙ ap (λ d. nodes ++ record { spot = spot (bracket_kind c.args.bracket) at at c.args.name; depth = d; size = 0 } ∷ []) counted in
    let opened_now : c.push.new.self.items ≡ opened ++ record { bracket = c.args.bracket; node = length nodes } ∷ [] =
    c.in-Ok-push.ensures.items ∙ ap (λ n. opened ++ record { bracket = c.args.bracket; node = n } ∷ []) placed in
    record {
      reads = subst (λ n. Reads self.bytes.now (at + 1) start n c.push.new.self.items) (sym pushed) (subst (λ o. Reads self.bytes.now (at + 1) start (nodes ++ record { spot = spot (bracket_kind c.args.bracket) at at c.args.name; depth = length opened; size = 0 } ∷ []) o) (sym opened_now)
          (read_open self.bytes.now at c.args.here nodes opened c.args.level f.faces.reader.reads f.faces.between c.args.name c.args.bracket f.no_close f.no_turn c.requires.takes c.requires.bracket room));
      known = f.faces.reader.known;
    }
