use Rattle.json_text.proofs.WrittenTexts.{reads_back}
use Rattle.json_text.proofs.laws.a_written_text_reads_back.Goals as goal

pub returns : goal.returns
returns c = λ text utf8. reads_back text utf8
