use Rattle.sidecar_words.proofs.OneMeaning.{one_meaning, one_spelling}
use Rattle.sidecar_words.proofs.laws.words_mean_one_thing.Goals as goal

pub returns : goal.returns
returns c = record { pairs = λ words pairs others. one_spelling pairs others words; meaning = one_meaning }
