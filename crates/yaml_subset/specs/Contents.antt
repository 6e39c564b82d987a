-- The lines of a file that have content.
use Rattle.std.specs.Prelude.{ℕ, zero, suc, ◌+◌, Bool, true, false, if◌then◌else◌, List, [], ◌∷◌}
use Rattle.yaml_lines.specs.Blank.{is_mark, is_passed_over}
use Rattle.yaml_lines.specs.LineParts.{Line}
use Rattle.yaml_lines.specs.LineText.{cut_line, line_with, lines_below, holder_column}

-- Of raw lines that count from this number: marks begin documents, blank lines and comments are passed over, and so are the
-- lines of a literal block, since they are what the line above them says. `starts` says that a document is to begin, `least`
-- is the column of the part that a value would stand in, and so many lines are passed over first.
unfoldable pub contents : ℕ → Bool → ℕ → ℕ → List (List ℕ) → List Line
contents number starts least skip [] = []
contents number starts least (suc skip) (raw ∷ lines) = contents (number + 1) starts least skip lines
contents number starts least zero (raw ∷ lines) =
    if is_mark raw then contents (number + 1) true 0 0 lines
    else if is_passed_over raw then contents (number + 1) starts least 0 lines
    else line_with number starts raw (cut_line least raw lines) ∷ contents (number + 1) false (holder_column least (cut_line least raw lines).parts) (lines_below lines (cut_line least raw lines).block) lines
