use Rattle.sidecar_words.proofs.Parsing.{spelled_plain}
use Rattle.sidecar_words.proofs.laws.words_are_plain.Goals as goal

pub returns : goal.returns
returns c words given means = spelled_plain means.0 words means.1
