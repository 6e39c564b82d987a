use Rattle.std.proofs.Common.{sym, ◌∙◌}
use Rattle.json_text.proofs.Tokens.{read_turn}
use Rattle.json_text.proofs.reader.Reader.take.Goals as goal

pub returns-in-Some-clause-reader : goal.returns-in-Some-clause-reader
returns-in-Some-clause-reader c =
    let self = c.args.self.now in
    record {
      reads = read_turn self.bytes.now self.at c.args.here self.nodes.items self.opened.items c.level-level.result c.requires.reader.reads (record { inside = c.requires.inside; level_is = c.level-level.ensures; not_blank = c.requires.past }) c.in-Some.there (sym c.is_closed_by.ensures ∙ c.if-is_closed_by.false) (sym c.in-Some.ensures);
      known = c.requires.reader.known;
    }
