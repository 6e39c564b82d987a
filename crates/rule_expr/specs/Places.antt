-- Which part of a rule may stand where, as a table. What comes next and the brackets that are open are all that it knows of what
-- stands before. It says where a text leaves the grammar; that it takes each rule to its end is a law.
use Rattle.std.specs.Prelude.{ℕ, Bool, true, false, nat_lt, if◌then◌else◌, List, [], ◌∷◌, length, Option, Some, None, Result, Ok, Err}
use Rattle.rule_value.specs.declared.part.Part.{Part}
use Rattle.rule_value.specs.declared.part.Part.TheVariants as parts
use Rattle.rule_value.specs.declared.part.Word.{Word}
use Rattle.rule_value.specs.declared.part.Word.TheVariants as words
use Rattle.rule_expr.specs.declared.stop.Stop.{Stop}
use Rattle.rule_expr.specs.declared.stop.Stop.TheVariants as stops
use Rattle.rule_expr.specs.Parts.{part_at, behind, after_blanks, quoted, is_left_out}

-- what an operand is, as far as it has come
pub data Tail : Type 0 where
  -- a path, which may go on
  path_end : Tail
  -- any other
  value_end : Tail
  -- the list behind `in`
  list_end : Tail

-- what a path is: an operand, behind which an operator may follow or not, or what `has` asks for
pub data Home : Type 0 where
  alone : Bool → Home
  asked : Home

-- what comes next
pub data Place : Type 0 where
  -- an operand, behind which an operator may follow or not
  operand : Bool → Place
  -- what may follow one, behind which an operator may follow or not
  after : Bool → Tail → Place
  -- what may follow a path in `has`
  after_asked : Place
  -- behind the dot of a path: a name or a call
  dot_path : Home → Place
  -- behind any other dot: a call
  dot_value : Bool → Place
  -- a text in the brackets of a path, and the bracket behind it
  bracketed : Home → Place
  square : Home → Place
  -- the bracket of a call or of `int`
  open_round : Bool → Place
  -- the bracket of `has`, and `event` in it
  open_has : Bool → Place
  event : Place
  -- the bracket of a list
  open_list : Place

-- an open bracket: a round one, behind which an operator may follow or not, or that of a list
pub data Bracket : Type 0 where
  in_round : Bool → Bracket
  in_list : Bracket

-- what comes next, and the brackets that are open, the last one first
pub record State : Type 0 where
  pub at : Place
  pub brackets : List Bracket

-- what the table has for a part
pub data Move : Type 0 where
  -- it goes on so with the text behind the part
  onward : State → List ℕ → Move
  -- the rule ends here
  ended : Move
  -- no rule goes on so
  stop : Stop → Move

abbrev pub state : Place → List Bracket → State
state place brackets = record { at = place; brackets = brackets }

abbrev pub to : Place → List Bracket → List ℕ → Move
to place brackets text = onward (state place brackets) text

-- Why nothing goes on with a part, where so many bytes are left: `named` is whether a name may stand there, so that
-- this one is left out.
abbrev pub why_not : Bool → Part → ℕ → Stop
why_not true (parts.Named word) left = stops.LeftOut left
why_not false (parts.Named word) left = stops.Bad left
why_not named (parts.Stray byte) left = if is_left_out byte then stops.LeftOut left else stops.Bad left
why_not named part left = stops.Bad left

-- the table has nothing for the part
abbrev pub none : Bool → Part → List ℕ → Move
none named part text = stop (why_not named part (length text))

-- one more bracket, of which at most 32 are open
abbrev pub opened : Bracket → Place → List Bracket → List ℕ → Move
opened bracket place brackets text = if nat_lt (length brackets) 32 then to place (bracket ∷ brackets) (behind text) else stop (stops.Deep (length text))

-- a text in quotes
abbrev pub whole : Place → List Bracket → Result (List ℕ × List ℕ) (List ℕ) → Move
whole place brackets (Ok found) = to place brackets (after_blanks found.1)
whole place brackets (Err rest) = stop (stops.Bad (length rest))

-- what follows a path that goes on
abbrev pub after_path : Home → Place
after_path (alone more) = after more path_end
after_path asked = after_asked

-- an operand that begins with a name
abbrev pub word_row : Bool → Word → List Bracket → List ℕ → Move
word_row more words.Event brackets text = to (after more path_end) brackets (behind text)
word_row more words.True brackets text = to (after more value_end) brackets (behind text)
word_row more words.False brackets text = to (after more value_end) brackets (behind text)
word_row more words.Null brackets text = to (after more value_end) brackets (behind text)
word_row more words.Has brackets text = to (open_has more) brackets (behind text)
word_row more words.Int brackets text = to (open_round more) brackets (behind text)
word_row more word brackets text = stop (stops.LeftOut (length text))

abbrev pub operand_row : Bool → Part → List Bracket → List ℕ → Move
operand_row more parts.Bang brackets text = to (operand more) brackets (behind text)
operand_row more parts.Open brackets text = opened (in_round more) (operand true) brackets text
operand_row more parts.Quote brackets text = whole (after more value_end) brackets (quoted text)
operand_row more (parts.Number number) brackets text = to (after more value_end) brackets (behind text)
operand_row more (parts.Named word) brackets text = word_row more word brackets text
operand_row more part brackets text = none true part text

-- an operand goes on: a path by a dot and by a bracket, any other by a dot
abbrev pub tail_next : Bool → Tail → Part → Option Place
tail_next more path_end parts.Dot = Some (dot_path (alone more))
tail_next more path_end parts.OpenList = Some (bracketed (alone more))
tail_next more value_end parts.Dot = Some (dot_value more)
tail_next more tail part = None

-- an operator, where one may follow
abbrev pub test_next : Bool → Part → Option Place
test_next true (parts.Test relation) = Some (operand false)
test_next true (parts.Named words.In) = Some open_list
test_next more part = None

abbrev pub both_next : Part → Option Place
both_next parts.Both = Some (operand true)
both_next part = None

abbrev pub either_next : Part → Option Place
either_next parts.Either = Some (operand true)
either_next part = None

-- the end of what stands in the last bracket, or of the rule
abbrev pub end_row : List Bracket → Part → List ℕ → Move
end_row (in_round more ∷ brackets) parts.Close text = to (after more value_end) brackets (behind text)
end_row (in_list ∷ brackets) parts.Comma text = to (operand true) (in_list ∷ brackets) (behind text)
end_row (in_list ∷ brackets) parts.CloseList text = to (after false list_end) brackets (behind text)
end_row [] parts.End text = ended
end_row brackets part text = none false part text

abbrev pub or_else : Option Place → List Bracket → List ℕ → Move → Move
or_else (Some place) brackets text other = to place brackets (behind text)
or_else None brackets text other = other

abbrev pub join_row : Part → List Bracket → List ℕ → Move
join_row part brackets text = or_else (both_next part) brackets text (or_else (either_next part) brackets text (end_row brackets part text))

abbrev pub test_row : Bool → Part → List Bracket → List ℕ → Move
test_row more part brackets text = or_else (test_next more part) brackets text (join_row part brackets text)

-- an operand goes on, or an operator follows it, or a joint, or what it stands in ends
abbrev pub after_row : Bool → Tail → Part → List Bracket → List ℕ → Move
after_row more tail part brackets text = or_else (tail_next more tail part) brackets text (test_row more part brackets text)

-- what follows a path in `has`
abbrev pub asked_next : Part → Option Place
asked_next parts.Dot = Some (dot_path asked)
asked_next parts.OpenList = Some (bracketed asked)
asked_next part = None

abbrev pub is_open : Part → Bool
is_open parts.Open = true
is_open part = false

-- A name behind the dot of a path, and whether `(` follows it: where none does it is a member's. In `has`, which takes no call, the
-- name of one is a member's too.
abbrev pub name_row : Home → Word → Bool → List Bracket → List ℕ → Move
name_row (alone more) (words.Call which) true brackets text = to (open_round more) brackets (behind text)
name_row asked (words.Call which) true brackets text = to after_asked brackets (behind text)
name_row home word true brackets text = stop (stops.LeftOut (length text))
name_row home word false brackets text = to (after_path home) brackets (behind text)

abbrev pub dot_row : Home → Part → List Bracket → List ℕ → Move
dot_row home (parts.Named word) brackets text = name_row home word (is_open (part_at (behind text))) brackets text
dot_row home part brackets text = none false part text

abbrev pub call_row : Bool → Part → List Bracket → List ℕ → Move
call_row more (parts.Named (words.Call which)) brackets text = to (open_round more) brackets (behind text)
call_row more part brackets text = none true part text

abbrev pub quote_row : Home → Part → List Bracket → List ℕ → Move
quote_row home parts.Quote brackets text = whole (square home) brackets (quoted text)
quote_row home part brackets text = none false part text

abbrev pub square_row : Home → Part → List Bracket → List ℕ → Move
square_row home parts.CloseList brackets text = to (after_path home) brackets (behind text)
square_row home part brackets text = none false part text

abbrev pub round_row : Bool → Place → Part → List Bracket → List ℕ → Move
round_row more inside parts.Open brackets text = opened (in_round more) inside brackets text
round_row more inside part brackets text = none false part text

abbrev pub event_row : Part → List Bracket → List ℕ → Move
event_row (parts.Named words.Event) brackets text = to after_asked brackets (behind text)
event_row part brackets text = none true part text

abbrev pub is_close : Part → Bool
is_close parts.CloseList = true
is_close part = false

-- what follows the bracket of a list, and whether that is the bracket at its end: a list without items is passed whole
abbrev pub items_row : Bool → List Bracket → List ℕ → Move
items_row true brackets text = to (after false list_end) brackets (behind (behind text))
items_row false brackets text = to (operand true) (in_list ∷ brackets) (behind text)

abbrev pub list_row : Part → List Bracket → List ℕ → Move
list_row parts.OpenList brackets text = if nat_lt (length brackets) 32 then items_row (is_close (part_at (behind text))) brackets text else stop (stops.Deep (length text))
list_row part brackets text = none false part text

-- the table
abbrev pub row : Place → Part → List Bracket → List ℕ → Move
row (operand more) part brackets text = operand_row more part brackets text
row (after more tail) part brackets text = after_row more tail part brackets text
row after_asked part brackets text = or_else (asked_next part) brackets text (end_row brackets part text)
row (dot_path home) part brackets text = dot_row home part brackets text
row (dot_value more) part brackets text = call_row more part brackets text
row (bracketed home) part brackets text = quote_row home part brackets text
row (square home) part brackets text = square_row home part brackets text
row (open_round more) part brackets text = round_row more (operand true) part brackets text
row (open_has more) part brackets text = round_row more event part brackets text
row event part brackets text = event_row part brackets text
row open_list part brackets text = list_row part brackets text

-- what it has for what stands at the beginning of a text
unfoldable pub step : State → List ℕ → Move
step now text = row now.at (part_at text) now.brackets text
