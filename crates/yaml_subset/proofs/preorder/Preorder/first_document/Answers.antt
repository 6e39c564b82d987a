use Rattle.std.proofs.Common.{arith}
use Rattle.yaml_subset.proofs.Walks.{no_documents, all_documents}
use Rattle.yaml_subset.proofs.preorder.Preorder.first_document.Goals as goal

pub returns-in-None-clause-first : goal.returns-in-None-clause-first
returns-in-None-clause-first c documents are = no_documents c.args.self.now documents are (omega (arith, c.in-None.ensures.none))

pub returns-in-Some-clause-first : goal.returns-in-Some-clause-first
returns-in-Some-clause-first c documents are = all_documents c.args.self.now documents are c.in-Some.ensures.some.inside
