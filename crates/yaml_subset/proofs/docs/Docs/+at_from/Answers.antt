use Rattle.std.proofs.Common.{◌≡◌, ◌∙◌, ap, ℕ, suc, List, [], ◌∷◌, refl, length, Bor}
use Rattle.yaml_lines.specs.Texts.{texts}
use Rattle.yaml_subset.proofs.docs.Docs.+at_from.Goals as goal

texts_length : (lines : List (Bor (List ℕ))) → length (texts lines) ≡ length lines
texts_length [] = refl
texts_length (line ∷ lines) = ap suc (texts_length lines)

pub returns-in-None : goal.returns-in-None
returns-in-None t c = c.at_end.ensures c.args.passed (texts c.args.path.now) (texts_length c.args.path.now ∙ c.in-None.ensures.cases)
