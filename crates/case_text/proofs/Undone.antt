-- Steps of undoing escapes.
use Rattle.std.proofs.Common.{◌≡◌, ◌∙◌, ℕ, List, [], ◌∷◌, ◌++◌, Option, Some, None, option_map, option_to_list, refl, sym, ap, append_assoc}
use Rattle.std.proofs.lemmas.List.{append-nil}
use Rattle.case_text.specs.declared.escape.Place.{Place}
use Rattle.case_text.specs.declared.escape.Place.TheVariants.{Outside, Backslash, Digits, Digit}
use Rattle.case_text.specs.declared.escape.Said.{Said}
use Rattle.case_text.specs.Reading.{step, with_more, at_end, undone}

behind : (said piece : List ℕ) (more : Option (List ℕ)) → option_map (λ (m : List ℕ). said ++ m) (option_map (λ (m : List ℕ). piece ++ m) more) ≡ option_map (λ (m : List ℕ). (said ++ piece) ++ m) more
behind said piece None = refl
behind said piece (Some m) = ap (λ (all : List ℕ). Some all) (sym (append_assoc said piece m))

-- the byte says this, and what more is said comes behind it
pub step_on : (whole : Option (List ℕ)) (said rest text : List ℕ) (place : Place) (byte : ℕ) (next : Said) → rest ≡ byte ∷ text → step place byte ≡ Some next → whole ≡ option_map (λ (m : List ℕ). said ++ m) (undone place rest) → whole ≡ option_map (λ (m : List ℕ). (said ++ option_to_list next.byte) ++ m) (undone next.place text)
unfolding undone with_more at_end
step_on whole said rest text place byte next cut steps is =
    is
    ∙ ap (λ (r : List ℕ). option_map (λ (m : List ℕ). said ++ m) (undone place r)) cut
    ∙ ap (λ (s : Option Said). option_map (λ (m : List ℕ). said ++ m) (with_more s (λ (p : Place). undone p text))) steps
    ∙ behind said (option_to_list next.byte) (undone next.place text)

-- the byte may not stand here
pub no_step : (whole : Option (List ℕ)) (said rest text : List ℕ) (place : Place) (byte : ℕ) → rest ≡ byte ∷ text → step place byte ≡ None → whole ≡ option_map (λ (m : List ℕ). said ++ m) (undone place rest) → whole ≡ None
unfolding undone with_more at_end
no_step whole said rest text place byte cut steps is =
    is
    ∙ ap (λ (r : List ℕ). option_map (λ (m : List ℕ). said ++ m) (undone place r)) cut
    ∙ ap (λ (s : Option Said). option_map (λ (m : List ℕ). said ++ m) (with_more s (λ (p : Place). undone p text))) steps

-- the text ends outside of an escape
pub at_the_end : (whole : Option (List ℕ)) (said rest : List ℕ) → rest ≡ [] → whole ≡ option_map (λ (m : List ℕ). said ++ m) (undone Outside rest) → whole ≡ Some said
unfolding undone with_more at_end
at_the_end whole said rest ends is = is ∙ ap (λ (r : List ℕ). option_map (λ (m : List ℕ). said ++ m) (undone Outside r)) ends ∙ ap (λ (all : List ℕ). Some all) (append-nil said)

-- the text ends inside of one
pub unended : (whole : Option (List ℕ)) (said rest : List ℕ) (place : Place) → (place ≡ Outside → ⊥) → rest ≡ [] → whole ≡ option_map (λ (m : List ℕ). said ++ m) (undone place rest) → whole ≡ None
unfolding undone with_more at_end
unended whole said rest Outside inside ends is = absurd (inside refl)
unended whole said rest Backslash inside ends is = is ∙ ap (λ (r : List ℕ). option_map (λ (m : List ℕ). said ++ m) (undone Backslash r)) ends
unended whole said rest Digits inside ends is = is ∙ ap (λ (r : List ℕ). option_map (λ (m : List ℕ). said ++ m) (undone Digits r)) ends
unended whole said rest (Digit high) inside ends is = is ∙ ap (λ (r : List ℕ). option_map (λ (m : List ℕ). said ++ m) (undone (Digit high) r)) ends
