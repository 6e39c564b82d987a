use Rattle.std.proofs.Math.Logic.{∥∥₁_map}
use Rattle.json_text.proofs.Placed.{shown}
use Rattle.json_text.proofs.doc.Doc.root.Goals as goal

pub returns-clause-read : goal.returns-clause-read
returns-clause-read c = ∥∥₁_map c.args.self.now.read (shown c.args.self.now)
