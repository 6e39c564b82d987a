-- How a refusal of a breaker is told.
use Rattle.std.specs.Prelude.{ℕ, List, ◌++◌, codes, decimal}
use Rattle.policy_run.specs.declared.outcome.Refusal.{Refusal}
use Rattle.policy_run.specs.declared.outcome.Refusal.TheVariants.{Opened, TooMany}

abbrev pub refusal_text : Refusal → List ℕ
refusal_text (Opened until) = codes "breaker open until " ++ decimal until
refusal_text (TooMany out) = codes "breaker half-open with " ++ decimal out
