-- The lines that a source has still to give.
use Rattle.std.specs.Prelude.{ℕ, ◌+◌, List, [], drop, slice_index_or}
use Rattle.std.specs.Borrow.{Bor}
use Rattle.yaml_lines.specs.LineParts.{Line}
use Rattle.yaml_lines.specs.Texts.{texts}
use Rattle.yaml_subset.specs.declared.left.Source.{Source}
use Rattle.yaml_subset.specs.Contents.{contents}

abbrev pub contents_left : Source → List Line
contents_left source = contents (source.at + 1) source.starts source.least 0 (texts (drop source.at source.lines.now))

abbrev pub no_line : Bor (List ℕ)
no_line = record { ref_ptr = (0, 0); now = [] }

-- the next line
abbrev pub line_here : Source → List ℕ
line_here source = (slice_index_or source.lines.now source.at no_line).now
