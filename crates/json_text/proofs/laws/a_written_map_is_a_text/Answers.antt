use Rattle.json_text.proofs.Composing.{map_text, map_clean, map_shown}
use Rattle.json_text.proofs.laws.a_written_map_is_a_text.Goals as goal

pub returns : goal.returns
returns c = record { text = map_text; shown = map_shown; clean = map_clean }
