-- Nodes that show what lines say.
use Rattle.std.specs.Prelude.{◌≡◌, List, map}
use Rattle.yaml_lines.specs.LineParts.{Line}
use Rattle.yaml_subset.specs.declared.error.YamlErr.{YamlErr}
use Rattle.yaml_subset.specs.declared.error.YamlErr.TheVariants.{Tab, Indent, LeftOut, Repeated, Scalar, NotUtf8, NoMemory}
use Rattle.yaml_subset.specs.declared.node.Node.{Node}
use Rattle.yaml_subset.specs.Tree.{Forest, entries}
use Rattle.yaml_subset.specs.Reading.{Says, IsRefused}
use Rattle.yaml_subset.specs.Held.{node_shown}

pub record Holds (nodes : List Node) (lines : List Line) : Type 0 where
  pub documents : Forest
  pub says : Says lines documents
  pub shown : map node_shown nodes ≡ entries 0 documents

-- a refusal of the lines, or want of memory
abbrev pub IsLinesCause : List Line → YamlErr → Type 0
IsLinesCause lines NoMemory = Unit {0}
IsLinesCause lines (Tab line) = IsRefused lines (Tab line)
IsLinesCause lines (Indent line) = IsRefused lines (Indent line)
IsLinesCause lines (LeftOut line what) = IsRefused lines (LeftOut line what)
IsLinesCause lines (Repeated line) = IsRefused lines (Repeated line)
IsLinesCause lines (Scalar line) = IsRefused lines (Scalar line)
IsLinesCause lines (NotUtf8 at) = IsRefused lines (NotUtf8 at)
