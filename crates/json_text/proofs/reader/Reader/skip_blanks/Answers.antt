use Rattle.std.proofs.Common.{sym, ◌∙◌, arith}
use Rattle.json_text.proofs.Tokens.{read_blank}
use Rattle.json_text.proofs.reader.Reader.skip_blanks.Goals as goal

pub loop-self-preserved : goal.loop-self-preserved
loop-self-preserved c =
    let self = c.loop-self.self in
    let h = c.loop-self.invariant in
    record {
      same = h.same;
      reader = record {
        reads = read_blank self.bytes.now self.at c.args.here self.nodes.items self.opened.items h.reader.reads c.loop-self-test.true (sym c.is_blank_byte.ensures ∙ c.if-is_blank_byte.true);
        known = h.reader.known;
      };
      low = omega (arith, h.low);
    }
