-- Values that stand one on the other.
use Rattle.std.specs.Prelude.{List, take, reverse}
use Rattle.rule_value.specs.declared.value.Value.{Value}
use Rattle.rule_value.specs.declared.stack.Stack.{Stack}

-- the last one first
abbrev pub stacked : Stack → List Value
stacked stack = reverse (take stack.height stack.values)
