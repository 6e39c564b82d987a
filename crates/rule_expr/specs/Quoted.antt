-- What reading a text in quotes comes to.
use Rattle.std.specs.Prelude.{◌≡◌, ◌≤◌, ◌==◌, ⊤, ℕ, Bool, true, false, if◌then◌else◌, List, length, Result, Ok, Err}
use Rattle.std.specs.declared.alloc.AllocError.{AllocError}
use Rattle.rule_expr.specs.declared.quotes.Quoted.{Quoted}
use Rattle.rule_expr.specs.declared.quotes.Quoted.TheVariants.{Whole, Broken}
use Rattle.rule_expr.specs.declared.quotes.Turn.{Turn}
use Rattle.rule_expr.specs.declared.quotes.Turn.TheVariants as turns
use Rattle.rule_expr.specs.Parts.{quoted, quoted_from, is_escaped}

-- what a byte is
abbrev pub turn : ℕ → Bool → ℕ → Turn
turn quote true byte = if is_escaped byte then turns.Held else turns.Wrong
turn quote false byte = if byte == quote then turns.Closed else (if byte == 92 then turns.Backslash else turns.Held)

-- unless memory runs out
abbrev pub Is : List ℕ → Result (List ℕ × List ℕ) (List ℕ) → Result Quoted AllocError → Type 0
Is text wanted (Ok (Whole held rest)) = (wanted ≡ Ok (held, rest.now)) × (length rest.now ≤ length text)
Is text wanted (Ok (Broken place)) = wanted ≡ Err place.now
Is text wanted (Err error) = ⊤

abbrev pub IsQuoted : List ℕ → Result Quoted AllocError → Type 0
IsQuoted text result = Is text (quoted text) result

abbrev pub IsQuotedFrom : ℕ → List ℕ → Result Quoted AllocError → Type 0
IsQuotedFrom quote text result = Is text (quoted_from quote false text) result
