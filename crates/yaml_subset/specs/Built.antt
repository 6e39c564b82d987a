-- Trees built from parts that are kept in order, each before those in it.
use Rattle.std.specs.Prelude.{ℕ, suc, ◌==◌, nat_lt, if◌then◌else◌, List, [], ◌∷◌}
use Rattle.yaml_subset.specs.declared.preorder.Preorder.{Preorder}
use Rattle.yaml_subset.specs.Tree.{Entry}
use Rattle.yaml_subset.specs.Trees.{Told, Trees, none, tree}
use Rattle.yaml_subset.specs.Preorder.{parts_kept, AreDocuments}
use Rattle.yaml_subset.specs.Lawful.{AreOfFile}

abbrev pub entry_told : Entry → Told
entry_told e = record { line = e.line; name = e.name; kind = e.kind; text = e.text }

-- the row of parts this deep that they begin with
unfoldable pub built : ℕ → List Entry → Trees
built depth [] = none
built depth (e ∷ others) =
    if e.depth == depth then tree (entry_told e) (built (suc depth) others) (built depth others)
    else if nat_lt e.depth depth then none
    else built depth others

-- the documents
abbrev pub documents_of : Preorder → Trees
documents_of kept = built 0 (parts_kept kept)

-- the parts that are kept are those of the documents, which are as those of a file
pub record IsWhole (kept : Preorder) : Type 0 where
  pub are : AreDocuments kept (documents_of kept)
  pub of_file : AreOfFile (documents_of kept)
