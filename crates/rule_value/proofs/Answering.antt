-- From the last value to the answer.
use Rattle.std.proofs.Common.{◌≡◌, ◌∙◌, ap, sym, subst, List, [], ◌∷◌}
use Rattle.json_text.specs.declared.doc.Doc.{Doc}
use Rattle.rule_value.specs.declared.value.Value.{Value as Held}
use Rattle.rule_value.specs.declared.op.Op.{Op}
use Rattle.rule_value.specs.declared.truth.Truth.{Truth}
use Rattle.rule_value.specs.Values.{Event, Value, truth}
use Rattle.rule_value.specs.Codes.{after_steps, after_step, top_of, verdict}
use Rattle.rule_value.specs.Standing.{Is, Are, IsReadable, AreReadable}

pub top_is : (doc : Doc) (stack rest : List Held) (value : Held) (meant : List Value) → stack ≡ value ∷ rest → Are doc stack meant → Is doc value (top_of meant)
top_is doc stack rest value meant same are = first meant (subst (λ own. Are doc own meant) same are)
  where
    first : (meant : List Value) → Are doc (value ∷ rest) meant → Is doc value (top_of meant)
    first [] none_there = absurd none_there
    first (one ∷ others) both = both.0

-- the steps that are left have come to their end
pub at_end : (event : Event) (all left : List Op) (meant : List Value) (answer : Truth) → left ≡ [] → after_steps event left meant ≡ after_steps event all [] → answer ≡ truth (top_of meant) → answer ≡ verdict event all
at_end event all left meant answer none_left same is = is ∙ ap (λ values. truth (top_of values)) (ap (λ own. after_steps event own meant) (sym none_left) ∙ same)

-- one step more
pub step_on : (event : Event) (all left later : List Op) (op : Op) (meant : List Value) → left ≡ op ∷ later → after_steps event left meant ≡ after_steps event all [] → after_steps event later (after_step event op meant) ≡ after_steps event all []
step_on event all left later op meant is same = ap (λ own. after_steps event own meant) (sym is) ∙ same

-- what can be read stays so
module _ (doc : Doc) where
  push_readable : {rest new : List Held} {answer : Held} → new ≡ answer ∷ rest → IsReadable doc answer → AreReadable doc rest → AreReadable doc new
  push_readable {rest} {new} {answer} made can others = subst (AreReadable doc) (sym made) (can, others)

  pub one_readable : {old rest new : List Held} {a answer : Held} → old ≡ a ∷ rest → new ≡ answer ∷ rest → AreReadable doc old → IsReadable doc answer → AreReadable doc new
  one_readable {a = a} was made readable can = push_readable made can (subst (AreReadable doc) was readable).1

  pub two_readable : {old rest new : List Held} {a b answer : Held} → old ≡ b ∷ a ∷ rest → new ≡ answer ∷ rest → AreReadable doc old → IsReadable doc answer → AreReadable doc new
  two_readable was made readable can = push_readable made can (subst (AreReadable doc) was readable).1.1

  pub item_readable : {old one two rest middle new : List Held} {last found wanted answer : Held} → old ≡ last ∷ one → one ≡ found ∷ two → two ≡ wanted ∷ rest → middle ≡ wanted ∷ rest → new ≡ answer ∷ middle → AreReadable doc old → IsReadable doc answer → AreReadable doc new
  item_readable was next below under made readable can =
      let first = (subst (AreReadable doc) was readable).1 in
      let second = (subst (AreReadable doc) next first).1 in
      push_readable made can (subst (AreReadable doc) (sym under) (subst (AreReadable doc) below second))
