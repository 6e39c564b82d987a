-- How a refusal is told: its name, and the line or the place where it stands.
use Rattle.std.specs.Prelude.{ℕ, List, ◌++◌, codes, decimal}
use Rattle.yaml_subset.specs.declared.error.YamlErr.{YamlErr}
use Rattle.yaml_subset.specs.declared.error.YamlErr.TheVariants.{Tab, Indent, LeftOut, Repeated, Scalar, NotUtf8, NoMemory}

abbrev pub refusal_text : YamlErr → List ℕ
refusal_text (Tab line) = codes "Tab line " ++ decimal line
refusal_text (Indent line) = codes "Indent line " ++ decimal line
refusal_text (LeftOut line what) = codes "LeftOut line " ++ decimal line
refusal_text (Repeated line) = codes "Repeated line " ++ decimal line
refusal_text (Scalar line) = codes "Scalar line " ++ decimal line
refusal_text (NotUtf8 at) = codes "NotUtf8 at " ++ decimal at
refusal_text NoMemory = codes "NoMemory"
