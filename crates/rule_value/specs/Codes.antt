-- A rule in the order in which it is computed.
use Rattle.std.specs.Prelude.{◌≡◌, ℕ, ◌+◌, ◌-◌, Bool, true, false, ◌&&◌, ◌==◌, nat_le, List, [], ◌∷◌, ◌++◌, is_some}
use Rattle.std.specs.Str.{is_utf8}
use Rattle.rule_value.specs.declared.op.Op.{Op}
use Rattle.rule_value.specs.declared.op.Op.TheVariants as ops
use Rattle.rule_value.specs.Trees
use Rattle.rule_value.specs.Trees.{Level, Tree, Step}
use Rattle.rule_value.specs.Values
use Rattle.rule_value.specs.declared.truth.Truth.{Truth}
use Rattle.rule_value.specs.Values.{Value, Event, names_of, path_names, value_at, member_at, flag_in, flag_or_error}

-- the steps that compute a tree: they put its value on top of those that stand there
abbrev pub code : {level : Level} → Tree level → List Op
code (Trees.or_of a) = code a
code (Trees.either a b) = code a ++ (code b ++ ops.Either ∷ [])
code (Trees.and_of a) = code a
code (Trees.both a b) = code a ++ (code b ++ ops.Both ∷ [])
code (Trees.rel_of a) = code a
code (Trees.test relation a b) = code a ++ (code b ++ ops.Test relation ∷ [])
code (Trees.choice a b) = code a ++ ops.Begin ∷ (code b ++ ops.Chosen ∷ [])
code Trees.no_items = []
code (Trees.some_items a) = code a
code (Trees.first_item a) = code a ++ ops.Item ∷ []
code (Trees.next_item a b) = code a ++ (code b ++ ops.Item ∷ [])
code (Trees.unary_of a) = code a
code (Trees.negated a) = code a ++ ops.Not ∷ []
code (Trees.post_of a) = code a
code (Trees.called call a b) = code a ++ (code b ++ ops.Called call ∷ [])
code (Trees.rounded a) = code a
code (Trees.group a) = code a
code (Trees.text held) = ops.Text held ∷ []
code (Trees.number whole) = ops.Number whole ∷ []
code (Trees.flag on) = ops.Flag on ∷ []
code Trees.null = ops.Null ∷ []
code (Trees.member a) = code a
code (Trees.has a) = ops.Has (path_names a) ∷ []
code (Trees.int a) = code a ++ ops.ToInt ∷ []
code (Trees.steps all) = ops.Member (names_of all) ∷ []

-- what each step does to the values that stand there, the last one first
abbrev pub on_one : (Value → Value) → List Value → List Value
on_one f [] = []
on_one f (a ∷ values) = f a ∷ values

abbrev pub on_two : (Value → Value → Value) → List Value → List Value
on_two f [] = []
on_two f (b ∷ []) = []
on_two f (b ∷ a ∷ values) = f a b ∷ values

-- one more item of the list in which `wanted` is looked for
abbrev pub on_item : List Value → List Value
on_item [] = []
on_item (a ∷ []) = []
on_item (a ∷ found ∷ []) = []
on_item (a ∷ found ∷ wanted ∷ values) = flag_or_error (Values.either (flag_in found) (Values.equal wanted a)) ∷ wanted ∷ values

abbrev pub after_step : Event → Op → List Value → List Value
after_step event (ops.Text held) values = Values.text held ∷ values
after_step event (ops.Number whole) values = Values.number whole ∷ values
after_step event (ops.Flag on) values = Values.flag on ∷ values
after_step event ops.Null values = Values.null ∷ values
after_step event (ops.Member names) values = value_at event names ∷ values
after_step event (ops.Has names) values = Values.flag (is_some (member_at event names)) ∷ values
after_step event ops.ToInt values = on_one Values.as_number values
after_step event (ops.Called call) values = on_two (λ a b. flag_or_error (Values.called call a b)) values
after_step event ops.Not values = on_one (λ a. flag_or_error (Values.negated (flag_in a))) values
after_step event ops.Both values = on_two (λ a b. flag_or_error (Values.both (flag_in a) (flag_in b))) values
after_step event ops.Either values = on_two (λ a b. flag_or_error (Values.either (flag_in a) (flag_in b))) values
after_step event (ops.Test relation) values = on_two (λ a b. flag_or_error (Values.compared relation a b)) values
after_step event ops.Begin values = Values.flag false ∷ values
after_step event ops.Item values = on_item values
after_step event ops.Chosen values = on_two (λ a b. b) values

abbrev pub after_steps : Event → List Op → List Value → List Value
after_steps event [] values = values
after_steps event (op ∷ later) values = after_steps event later (after_step event op values)

-- the value on top
abbrev pub top_of : List Value → Value
top_of [] = Values.error
top_of (value ∷ values) = value

-- what steps answer
abbrev pub verdict : Event → List Op → Truth
verdict event steps = Values.truth (top_of (after_steps event steps []))

-- how many values a step takes, and how many it leaves in their place
abbrev pub taken : Op → ℕ
taken (ops.Text held) = 0
taken (ops.Number whole) = 0
taken (ops.Flag on) = 0
taken ops.Null = 0
taken (ops.Member names) = 0
taken (ops.Has names) = 0
taken ops.ToInt = 1
taken (ops.Called call) = 2
taken ops.Not = 1
taken ops.Both = 2
taken ops.Either = 2
taken (ops.Test relation) = 2
taken ops.Begin = 0
taken ops.Item = 3
taken ops.Chosen = 2

abbrev pub left : Op → ℕ
left ops.Item = 2
left op = 1

-- beginning with so many values, no step takes more than there are, none leaves more than 132, and one is left in the end
abbrev pub fits : ℕ → List Op → Bool
fits height [] = height == 1
fits height (op ∷ later) = nat_le (taken op) height && nat_le (height - taken op + left op) 132 && fits (height - taken op + left op) later

-- the text of a step, if it has one, is UTF-8
abbrev pub has_utf8 : Op → Bool
has_utf8 (ops.Text held) = is_utf8 held
has_utf8 op = true

-- those of all steps are
abbrev pub are_utf8 : List Op → Bool
are_utf8 [] = true
are_utf8 (op ∷ later) = has_utf8 op && are_utf8 later

-- these steps compute the rule
abbrev pub IsExpr : List Op → Tree Trees.or → Type 0
IsExpr steps tree = steps ≡ code tree
