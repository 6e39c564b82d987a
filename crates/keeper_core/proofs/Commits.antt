-- How commits compose. Crates above may cite this.
use Rattle.std.proofs.Common.{◌≡◌, List, [], ◌∷◌, ◌++◌, Option, refl, sym, ap, ◌∙◌, append_assoc}
use Rattle.keeper_core.specs.declared.changes.Changes.{Changes}
use Rattle.keeper_core.specs.declared.keeper.Keeper.{Ghosts}
use Rattle.keeper_core.specs.Commits.{made_by, acknowledged, HasMade}

pub acknowledged-append : (a b : List (Option Changes)) → acknowledged (a ++ b) ≡ acknowledged a ++ acknowledged b
acknowledged-append [] b = refl
acknowledged-append (answer ∷ a) b = ap (λ (z : List Changes). made_by answer ++ z) (acknowledged-append a b) ∙ sym (append_assoc (made_by answer) (acknowledged a) (acknowledged b))

module _ {K : Type 0} (keeping : Ghosts K) where
  -- the law by which commits go on where others have led
  abbrev pub GoesOn : Type 0
  GoesOn = (first mid last : K) (before behind : List (Option Changes)) → keeping.leads first before mid → keeping.leads mid behind last → keeping.leads first (before ++ behind) last

  pub none_made : (keeper : K) → keeping.leads keeper [] keeper → HasMade keeping keeper keeper []
  none_made keeper at_rest = record { answers = []; leads = at_rest; made = refl }

  pub made_on : GoesOn → (first mid last : K) (before behind : List Changes) → HasMade keeping first mid before → HasMade keeping mid last behind → HasMade keeping first last (before ++ behind)
  made_on goes_on first mid last before behind led goes = record {
    answers = led.answers ++ goes.answers;
    leads = goes_on first mid last led.answers goes.answers led.leads goes.leads;
    made = acknowledged-append led.answers goes.answers ∙ ap (λ (z : List Changes). z ++ acknowledged goes.answers) led.made ∙ ap (λ (z : List Changes). before ++ z) goes.made;
  }
