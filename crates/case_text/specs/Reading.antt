-- How a reader goes over a text with escapes, a byte at a time from the left.
use Rattle.std.specs.Prelude.{ℕ, ◌+◌, ◌*◌, ◌%◌, ◌==◌, if◌then◌else◌, List, [], ◌∷◌, ◌++◌, Option, Some, None, option_map, option_to_list}
use Rattle.case_text.specs.Escape.{digit_of}
use Rattle.case_text.specs.declared.escape.Place.{Place}
use Rattle.case_text.specs.declared.escape.Place.TheVariants.{Outside, Backslash, Digits, Digit}
use Rattle.case_text.specs.declared.escape.Said.{Said}

abbrev pub says : ℕ → Option Said
says byte = Some (record { byte = Some byte; place = Outside })

abbrev pub goes_on : Place → Option Said
goes_on place = Some (record { byte = None; place = place })

-- behind a backslash: `n`, `r`, `t`, a backslash, a line end, which says nothing, and `x`
abbrev pub behind_backslash : ℕ → Option Said
behind_backslash byte =
    if byte == 110 then says 10
    else if byte == 114 then says 13
    else if byte == 116 then says 9
    else if byte == 92 then says 92
    else if byte == 10 then goes_on Outside
    else if byte == 120 then goes_on Digits
    else None

abbrev pub first_digit : Option ℕ → Option Said
first_digit None = None
first_digit (Some digit) = goes_on (Digit digit)

abbrev pub second_digit : ℕ → Option ℕ → Option Said
second_digit high None = None
second_digit high (Some low) = says (16 * (high % 16) + low)

-- what a byte says at a place
abbrev pub step : Place → ℕ → Option Said
step Outside byte = if byte == 92 then goes_on Backslash else says byte
step Backslash byte = behind_backslash byte
step Digits byte = first_digit (digit_of byte)
step (Digit high) byte = second_digit high (digit_of byte)

-- what was said, and what more is said behind it
unfoldable pub with_more : Option Said → (Place → Option (List ℕ)) → Option (List ℕ)
with_more None more = None
with_more (Some said) more = option_map (λ bytes. option_to_list said.byte ++ bytes) (more said.place)

unfoldable pub at_end : Place → Option (List ℕ)
at_end Outside = Some []
at_end Backslash = None
at_end Digits = None
at_end (Digit high) = None

-- what a text says from a place on; nothing where a byte may not stand, or an escape isn't whole
unfoldable pub undone : Place → List ℕ → Option (List ℕ)
undone place [] = at_end place
undone place (byte ∷ text) = with_more (step place byte) (λ next. undone next text)
