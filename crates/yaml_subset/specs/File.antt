-- What a file says.
use Rattle.std.specs.Prelude.{◌≡◌, ℕ, true, if◌then◌else◌, List, [], ◌∷◌, take, drop, bytes_eq, IsUtf8, Result, MatchResult, ◌⊎◌}
use Rattle.std.specs.Str.Lines.{lines}
use Rattle.side_base.specs.Text.{IsNotUtf8At}
use Rattle.yaml_lines.specs.LineParts.{Line}
use Rattle.yaml_subset.specs.declared.error.YamlErr.{YamlErr}
use Rattle.yaml_subset.specs.declared.error.YamlErr.TheVariants.{Tab, Indent, LeftOut, Repeated, Scalar, NotUtf8, NoMemory}
use Rattle.yaml_subset.specs.Tree.{Forest}
use Rattle.yaml_subset.specs.Contents.{contents}
use Rattle.yaml_subset.specs.Reading.{Says, IsRefused}
use Rattle.yaml_subset.specs.Trees.{Trees, plain}

-- without the byte order mark
unfoldable pub without_order_mark : List ℕ → List ℕ
without_order_mark bytes = if bytes_eq (take 3 bytes) (239 ∷ 187 ∷ 191 ∷ []) then drop 3 bytes else bytes

-- the lines that have content, counted from 1
abbrev pub file_lines : List ℕ → List Line
file_lines bytes = contents 1 true 0 0 (lines (without_order_mark bytes))

-- the file says these documents
pub record IsFile (bytes : List ℕ) (documents : Trees) : Type 0 where
  pub utf8 : IsUtf8 bytes
  pub layout : Forest
  pub says : Says (file_lines bytes) layout
  pub are : documents ≡ plain layout

-- the lines are refused so, in a file in UTF-8
abbrev pub IsRefusedIn : List ℕ → YamlErr → Type 0
IsRefusedIn bytes error = IsUtf8 bytes × IsRefused (file_lines bytes) error

-- the file is refused so
abbrev pub IsRefusal : List ℕ → YamlErr → Type 0
IsRefusal bytes (Tab line) = IsRefusedIn bytes (Tab line)
IsRefusal bytes (Indent line) = IsRefusedIn bytes (Indent line)
IsRefusal bytes (LeftOut line what) = IsRefusedIn bytes (LeftOut line what)
IsRefusal bytes (Repeated line) = IsRefusedIn bytes (Repeated line)
IsRefusal bytes (Scalar line) = IsRefusedIn bytes (Scalar line)
IsRefusal bytes (NotUtf8 at) = IsNotUtf8At bytes at
IsRefusal bytes NoMemory = ⊥

-- want of memory has no other cause
abbrev pub IsRefusalOrMemory : List ℕ → YamlErr → Type 0
IsRefusalOrMemory bytes error = unless_memory error
  where
    unless_memory : YamlErr → Type 0
    unless_memory NoMemory = Unit {0}
    unless_memory other = IsRefusal bytes error

abbrev pub IsErrUnlessNoMemory : {T : Type 0} → Result T YamlErr → YamlErr → Type 0
IsErrUnlessNoMemory result error = MatchResult result (λ _. ⊥) (λ e. (e ≡ error) ⊎ (e ≡ NoMemory))

abbrev pub IsOkUnlessNoMemory : {T : Type 0} → Result T YamlErr → Type 0
IsOkUnlessNoMemory result = MatchResult result (λ _. Unit {0}) (λ e. e ≡ NoMemory)
