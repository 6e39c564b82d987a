use Rattle.json_text.proofs.Shapes.{text_in_row}
use Rattle.json_text.proofs.laws.values_stand_in_rows.Goals as goal

pub returns : goal.returns
returns c = text_in_row
