-- Refusals of rules by their places.
use Rattle.std.specs.Prelude.{ℕ, ◌-◌}
use Rattle.rule_expr.specs.declared.error.RuleErr.{RuleErr}
use Rattle.rule_expr.specs.declared.error.RuleErr.TheVariants as errors
use Rattle.rule_expr.specs.declared.stop.Stop.{Stop}
use Rattle.rule_expr.specs.declared.stop.Stop.TheVariants as stops

-- of a rule of so many bytes
abbrev pub error_at : ℕ → Stop → RuleErr
error_at all (stops.Bad left) = errors.Bad (all - left)
error_at all (stops.LeftOut left) = errors.LeftOut (all - left)
error_at all (stops.Deep left) = errors.Deep (all - left)
error_at all stops.NoMemory = errors.NoMemory
