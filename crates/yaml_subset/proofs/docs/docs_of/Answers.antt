use Rattle.std.proofs.Common.{sym, ap, subst, ◌∙◌}
use Rattle.yaml_subset.specs.Trees.{tree_entries}
use Rattle.yaml_subset.specs.Built.{built}
use Rattle.yaml_subset.specs.Lawful.{AreOfFile}
use Rattle.yaml_subset.proofs.Numbers.{built_all}
use Rattle.yaml_subset.proofs.docs.docs_of.Goals as goal

pub invariant_of-result : goal.invariant_of-result
invariant_of-result c =
    let same = ap (built 0) c.requires.1 ∙ built_all c.requires.0 in
    record { are = c.requires.1 ∙ ap (tree_entries 0) (sym same); of_file = subst AreOfFile (sym same) c.requires.2 }

pub returns : goal.returns
returns c documents are = ap (built 0) are ∙ built_all documents
