-- The steps that a tree stands for compute its value.
use Rattle.std.proofs.Common.{◌≡◌, ◌∙◌, ap, List, [], ◌∷◌, ◌++◌, refl, Option, Some, None}
use Rattle.std.specs.Prelude.{Bool, true, false}
use Rattle.rule_value.specs.declared.op.Op.{Op}
use Rattle.rule_value.specs.declared.op.Op.TheVariants as ops
use Rattle.rule_value.specs.Trees
use Rattle.rule_value.specs.Trees.{Level, Tree}
use Rattle.rule_value.specs.Values
use Rattle.rule_value.specs.Values.{Value, Event, value, is_item, flag_in, flag_or_error, either, equal}
use Rattle.rule_value.specs.Codes.{code, after_step, after_steps, verdict, top_of}

flag_stays : (found : Option Bool) → flag_in (flag_or_error found) ≡ found
flag_stays None = refl
flag_stays (Some on) = refl

either_false : (found : Option Bool) → either (Some false) found ≡ found
either_false None = refl
either_false (Some true) = refl
either_false (Some false) = refl

-- one part after another
pub steps_append : (event : Event) (first next : List Op) (values : List Value) → after_steps event (first ++ next) values ≡ after_steps event next (after_steps event first values)
steps_append event [] next values = refl
steps_append event (op ∷ first) next values = steps_append event first next (after_step event op values)

-- what a tree's steps leave
abbrev Leaves : Event → {level : Level} → Tree level → List Value → List Value → Type 0
Leaves event tree values after = after_steps event (code tree) values ≡ after

-- the first part's values, and then the second's
then_next : (event : Event) (first next : List Op) (values between after : List Value) → after_steps event first values ≡ between → after_steps event next between ≡ after → after_steps event (first ++ next) values ≡ after
then_next event first next values between after one two = steps_append event first next values ∙ ap (after_steps event next) one ∙ two

-- the values below an item: what is looked for, and whether it was found
abbrev looking : Value → Option Bool → List Value → List Value
looking wanted found values = flag_or_error found ∷ wanted ∷ values

item_step : (event : Event) (wanted : Value) (found : Option Bool) (last : Value) (values : List Value) → after_step event ops.Item (last ∷ looking wanted found values) ≡ looking wanted (either found (equal wanted last)) values
item_step event wanted found last values = ap (λ f. flag_or_error (either f (equal wanted last)) ∷ wanted ∷ values) (flag_stays found)

-- what the steps of a tree at a level are to do
abbrev IsComputed : Event → (level : Level) → Tree level → Type 0
IsComputed event Trees.list tree = (wanted : Value) (values : List Value) → after_steps event (code tree) (looking wanted (Some false) values) ≡ looking wanted (is_item event wanted tree) values
IsComputed event Trees.items tree = (wanted : Value) (values : List Value) → after_steps event (code tree) (looking wanted (Some false) values) ≡ looking wanted (is_item event wanted tree) values
IsComputed event level tree = (values : List Value) → after_steps event (code tree) values ≡ value event tree ∷ values

-- two operands and what is made of them
of_two : (event : Event) (first second : List Op) (op : Op) (values : List Value) (x y : Value) → after_steps event first values ≡ x ∷ values → after_steps event second (x ∷ values) ≡ y ∷ x ∷ values → after_steps event (first ++ (second ++ op ∷ [])) values ≡ after_step event op (y ∷ x ∷ values)
of_two event first second op values x y one two = then_next event first (second ++ op ∷ []) values (x ∷ values) (after_step event op (y ∷ x ∷ values)) one (then_next event second (op ∷ []) (x ∷ values) (y ∷ x ∷ values) (after_step event op (y ∷ x ∷ values)) two refl)

of_one : (event : Event) (first : List Op) (op : Op) (values : List Value) (x : Value) → after_steps event first values ≡ x ∷ values → after_steps event (first ++ op ∷ []) values ≡ after_step event op (x ∷ values)
of_one event first op values x one = then_next event first (op ∷ []) values (x ∷ values) (after_step event op (x ∷ values)) one refl

of_list : (event : Event) (first second : List Op) (values : List Value) (x : Value) (found : Option Bool) → after_steps event first values ≡ x ∷ values → after_steps event second (looking x (Some false) values) ≡ looking x found values → after_steps event (first ++ ops.Begin ∷ (second ++ ops.Chosen ∷ [])) values ≡ flag_or_error found ∷ values
of_list event first second values x found one two = then_next event first (ops.Begin ∷ (second ++ ops.Chosen ∷ [])) values (x ∷ values) (flag_or_error found ∷ values) one (then_next event second (ops.Chosen ∷ []) (looking x (Some false) values) (looking x found values) (flag_or_error found ∷ values) two refl)

of_item : (event : Event) (item : List Op) (wanted : Value) (found : Option Bool) (last : Value) (values : List Value) → after_steps event item (looking wanted found values) ≡ last ∷ looking wanted found values → after_steps event (item ++ ops.Item ∷ []) (looking wanted found values) ≡ looking wanted (either found (equal wanted last)) values
of_item event item wanted found last values one = of_one event item ops.Item (looking wanted found values) last one ∙ item_step event wanted found last values

pub computes : (event : Event) {level : Level} (tree : Tree level) → IsComputed event level tree
computes event (Trees.or_of a) = computes event a
computes event (Trees.either a b) = λ values. of_two event (code a) (code b) ops.Either values (value event a) (value event b) (computes event a values) (computes event b (value event a ∷ values))
computes event (Trees.and_of a) = computes event a
computes event (Trees.both a b) = λ values. of_two event (code a) (code b) ops.Both values (value event a) (value event b) (computes event a values) (computes event b (value event a ∷ values))
computes event (Trees.rel_of a) = computes event a
computes event (Trees.test relation a b) = λ values. of_two event (code a) (code b) (ops.Test relation) values (value event a) (value event b) (computes event a values) (computes event b (value event a ∷ values))
computes event (Trees.choice a b) = λ values. of_list event (code a) (code b) values (value event a) (is_item event (value event a) b) (computes event a values) (computes event b (value event a) values)
computes event Trees.no_items = λ wanted values. refl
computes event (Trees.some_items a) = computes event a
computes event (Trees.first_item a) = λ wanted values. of_item event (code a) wanted (Some false) (value event a) values (computes event a (looking wanted (Some false) values)) ∙ ap (λ found. looking wanted found values) (either_false (equal wanted (value event a)))
computes event (Trees.next_item a b) = λ wanted values. then_next event (code a) (code b ++ ops.Item ∷ []) (looking wanted (Some false) values) (looking wanted (is_item event wanted a) values) (looking wanted (either (is_item event wanted a) (equal wanted (value event b))) values) (computes event a wanted values) (of_item event (code b) wanted (is_item event wanted a) (value event b) values (computes event b (looking wanted (is_item event wanted a) values)))
computes event (Trees.unary_of a) = computes event a
computes event (Trees.negated a) = λ values. of_one event (code a) ops.Not values (value event a) (computes event a values)
computes event (Trees.post_of a) = computes event a
computes event (Trees.called call a b) = λ values. of_two event (code a) (code b) (ops.Called call) values (value event a) (value event b) (computes event a values) (computes event b (value event a ∷ values))
computes event (Trees.rounded a) = computes event a
computes event (Trees.group a) = computes event a
computes event (Trees.text held) = λ values. refl
computes event (Trees.number whole) = λ values. refl
computes event (Trees.flag on) = λ values. refl
computes event Trees.null = λ values. refl
computes event (Trees.member a) = computes event a
computes event (Trees.has a) = λ values. refl
computes event (Trees.int a) = λ values. of_one event (code a) ops.ToInt values (value event a) (computes event a values)
computes event (Trees.steps all) = λ values. refl

-- what the steps of a rule answer is what its value says
pub answers : (event : Event) (tree : Tree Trees.or) (all : List Op) → all ≡ code tree → verdict event all ≡ Values.truth (value event tree)
answers event tree all is = ap (verdict event) is ∙ ap (λ values. Values.truth (top_of values)) (computes event tree [])
