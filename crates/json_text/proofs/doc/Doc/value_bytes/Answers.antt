use Rattle.json_text.specs.Doc.{bytes_read}
use Rattle.json_text.proofs.Placed.{bytes_between}
use Rattle.json_text.proofs.doc.Doc.value_bytes.Goals as goal

pub returns : goal.returns
returns c values h = bytes_between (bytes_read c.args.self.now) c.span-start.result.0 c.span-start.result.1 values (c.span-start.ensures.start values h) (c.span-start.ensures.end values h)
