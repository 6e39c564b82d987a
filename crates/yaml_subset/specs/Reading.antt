-- What a list of lines says, and where it is refused.
use Rattle.std.specs.Prelude.{◌≡◌, List, ◌∷◌, ◌++◌, Err}
use Rattle.yaml_lines.specs.LineParts.{Line}
use Rattle.yaml_subset.specs.declared.error.YamlErr.{YamlErr}
use Rattle.yaml_subset.specs.declared.open.Holder.TheVariants as holders
use Rattle.yaml_subset.specs.Tree.{Forest}
use Rattle.yaml_subset.specs.Layout.{marks, Fits}
use Rattle.yaml_subset.specs.Front.{Front, IsFront}
use Rattle.yaml_subset.specs.Line.{marks_of, AreClean}
use Rattle.yaml_subset.specs.Refusal.{after_line}

-- the lines say these documents
pub record Says (lines : List Line) (documents : Forest) : Type 0 where
  pub clean : AreClean lines
  pub marks_are : marks_of lines ≡ marks holders.File 0 documents
  pub fits : Fits 0 holders.File 0 documents

-- the lines are refused at the first one that can't go on from those before it
pub record IsRefused (lines : List Line) (error : YamlErr) : Type 0 where
  pub before : List Line
  pub line : Line
  pub after : List Line
  pub front : Front
  pub lines_are : lines ≡ before ++ (line ∷ after)
  pub clean : AreClean before
  pub is_front : IsFront (marks_of before) front
  pub why : after_line line front ≡ Err error
