-- Texts in quotes, byte by byte.
use Rattle.std.proofs.Common.{◌≡◌, ◌∙◌, ap, sym, refl, ℕ, Bool, true, false, cond, ◌==◌, List, [], ◌∷◌, ◌++◌, Result, Ok, Err, append_assoc, length, arith}
use Rattle.std.specs.declared.alloc.AllocError.{AllocError}
use Rattle.rule_expr.specs.declared.quotes.Quoted.{Quoted}
use Rattle.rule_expr.specs.declared.quotes.Quoted.TheVariants.{Whole, Broken}
use Rattle.rule_expr.specs.declared.quotes.Turn.{Turn}
use Rattle.rule_expr.specs.declared.quotes.Turn.TheVariants as turns
use Rattle.rule_expr.specs.Parts.{quoted, quoted_from, led_by, is_escaped}
use Rattle.rule_expr.specs.Quoted.{turn, IsQuoted, IsQuotedFrom}

pub quoted_is : (quote : ℕ) (bytes : List ℕ) → quoted (quote ∷ bytes) ≡ quoted_from quote false bytes
unfolding quoted
quoted_is quote bytes = refl

pub quoted_none : quoted [] ≡ Err []
unfolding quoted
quoted_none = refl

-- what was held before, and what is read behind it
abbrev pub led : List ℕ → Result (List ℕ × List ℕ) (List ℕ) → Result (List ℕ × List ℕ) (List ℕ)
led front (Ok text) = Ok (front ++ text.0, text.1)
led front (Err place) = Err place

pub led_none : (read : Result (List ℕ × List ℕ) (List ℕ)) → led [] read ≡ read
led_none (Ok text) = refl
led_none (Err place) = refl

pub led_more : (front : List ℕ) (byte : ℕ) (read : Result (List ℕ × List ℕ) (List ℕ)) → led (front ++ byte ∷ []) read ≡ led front (led_by byte read)
led_more front byte (Ok text) = ap (λ held. Ok (held, text.1)) (append_assoc front (byte ∷ []) text.0)
led_more front byte (Err place) = refl

-- what comes of a byte by what it is
abbrev pub comes : ℕ → ℕ → List ℕ → Turn → Result (List ℕ × List ℕ) (List ℕ)
comes quote byte bytes turns.Held = led_by byte (quoted_from quote false bytes)
comes quote byte bytes turns.Backslash = quoted_from quote true bytes
comes quote byte bytes turns.Closed = Ok ([], bytes)
comes quote byte bytes turns.Wrong = Err (byte ∷ bytes)

of_escaped : (quote byte : ℕ) (bytes : List ℕ) (is : Bool) → cond is (comes quote byte bytes turns.Held) (comes quote byte bytes turns.Wrong) ≡ comes quote byte bytes (cond is turns.Held turns.Wrong)
of_escaped quote byte bytes true = refl
of_escaped quote byte bytes false = refl

of_plain : (quote byte : ℕ) (bytes : List ℕ) (ends escapes : Bool) → cond ends (comes quote byte bytes turns.Closed) (cond escapes (comes quote byte bytes turns.Backslash) (comes quote byte bytes turns.Held)) ≡ comes quote byte bytes (cond ends turns.Closed (cond escapes turns.Backslash turns.Held))
of_plain quote byte bytes true escapes = refl
of_plain quote byte bytes false true = refl
of_plain quote byte bytes false false = refl

turned : (quote : ℕ) (escaped : Bool) (byte : ℕ) (bytes : List ℕ) → quoted_from quote escaped (byte ∷ bytes) ≡ comes quote byte bytes (turn quote escaped byte)
turned quote true byte bytes = of_escaped quote byte bytes (is_escaped byte)
turned quote false byte bytes = of_plain quote byte bytes (byte == quote) (byte == 92)

pub as_turned : (quote : ℕ) (escaped : Bool) (byte : ℕ) (bytes : List ℕ) (is : Turn) → is ≡ turn quote escaped byte → quoted_from quote escaped (byte ∷ bytes) ≡ comes quote byte bytes is
as_turned quote escaped byte bytes is same = turned quote escaped byte bytes ∙ ap (comes quote byte bytes) (sym same)

pub whole_quoted : (quote : ℕ) (rest text : List ℕ) (result : Result Quoted AllocError) → text ≡ quote ∷ rest → IsQuotedFrom quote rest result → IsQuoted text result
whole_quoted quote rest text (Ok (Whole held after)) is read = (ap quoted is ∙ quoted_is quote rest ∙ read.0, omega (arith, read.1, ap length is))
whole_quoted quote rest text (Ok (Broken place)) is read = ap quoted is ∙ quoted_is quote rest ∙ read
whole_quoted quote rest text (Err error) is read = tt

pub none_quoted : (text : List ℕ) → text ≡ [] → quoted text ≡ Err text
none_quoted text is = ap quoted is ∙ quoted_none ∙ ap Err (sym is)
