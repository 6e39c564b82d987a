use Rattle.json_lexemes.proofs.Productions.{words, texts}
use Rattle.json_lexemes.proofs.laws.words_are_those_of_the_productions.Goals as goal

pub returns-clause-words : goal.returns-clause-words
returns-clause-words c = λ kind i j s t. words kind i j s t

pub returns-clause-texts : goal.returns-clause-texts
returns-clause-texts c = λ chars h. texts chars h
