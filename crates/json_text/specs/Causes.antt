-- Errors that yield to want of memory.
use Rattle.std.specs.Prelude.{◌≡◌, ◌⊎◌, Result, MatchResult}
use Rattle.json_text.specs.declared.error.JsonErr.{JsonErr}
use Rattle.json_text.specs.declared.error.JsonErr.TheVariants.{NoMemory}

-- the result is that error, or want of memory
abbrev pub IsErrUnlessNoMemory : {T : Type 0} → Result T JsonErr → JsonErr → Type 0
IsErrUnlessNoMemory result error = MatchResult result (λ _. ⊥) (λ e. (e ≡ error) ⊎ (e ≡ NoMemory))
