-- From the steps of a production to where the whole leads, or where it stops.
use Rattle.std.proofs.Common.{◌≡◌, ◌∙◌, ap, sym, subst, ℕ, cond, ◌+◌, ◌≤◌, List, [], ◌∷◌, length, refl, arith, Bool, true, false, nat_lt, None, Result, Ok, Err, OnOk, IfErr}
use Rattle.std.proofs.lemmas.Bool.{true≢false, lt-ltb, le-ltb}
use Rattle.std.specs.Result.{IsErrAnd}
use Rattle.rule_value.specs.declared.part.Part.{Part}
use Rattle.rule_value.specs.declared.part.Part.TheVariants as parts
use Rattle.rule_value.specs.declared.part.Word.TheVariants as words
use Rattle.rule_value.specs.declared.part.Relation.{Relation}
use Rattle.rule_expr.specs.declared.stop.Stop.{Stop}
use Rattle.rule_expr.specs.declared.stop.Stop.TheVariants as stops
use Rattle.rule_expr.specs.Parts.{part_at, behind, after_blanks, quoted}
use Rattle.rule_value.specs.Trees.{Token, mark, quote}
use Rattle.rule_expr.specs.Rules.{Leads, Stands}
use Rattle.rule_expr.specs.Rules
use Rattle.rule_expr.specs.Reading.{Passes}
use Rattle.rule_expr.specs.Places.{State, Place, Tail, Bracket, Move, value_end, list_end, operand, after, open_round, open_list, in_round, in_list, stop, state, to, why_not, row, step, or_else, tail_next, test_next, both_next, either_next, end_row, join_row, test_row, after_row, is_open, is_close, round_row, items_row, list_row}
use Rattle.rule_expr.specs.Walks.{Goes, Comes, stays, moves}
use Rattle.rule_expr.specs.Walking.{Walks, Halts, HaltsOperand, HaltsItems, WalksAtom, WalksOperand, WalksRound, HaltsRound, Went, WentItems, NoRound, NoSquare, Lacks, IsRelationOver, IsAndOver, IsOrOver, IsItemsOver, is_close_round, is_comma}

-- one step of the table
pub step_is : (place : Place) (brackets : List Bracket) (text : List ℕ) → step (state place brackets) text ≡ row place (part_at text) brackets text
unfolding step
step_is place brackets text = refl

pub one_move : (from next : Place) (brackets others : List Bracket) (text rest : List ℕ) → row from (part_at text) brackets text ≡ to next others rest → Goes (state from brackets) text (state next others) rest
one_move from next brackets others text rest is = moves (step_is from brackets text ∙ is) stays

pub then_goes : {now next later : State} {text more rest : List ℕ} → Goes now text next more → Goes next more later rest → Goes now text later rest
then_goes stays second = second
then_goes (moves is first) second = moves is (then_goes first second)

pub then_comes : {now next : State} {text more : List ℕ} {last : Move} → Goes now text next more → Comes next more last → Comes now text last
then_comes first second = record { later = second.later; rest = second.rest; goes = then_goes first second.goes; ends = second.ends }

pub comes_here : (place : Place) (brackets : List Bracket) (text : List ℕ) (last : Move) → row place (part_at text) brackets text ≡ last → Comes (state place brackets) text last
comes_here place brackets text last is = record { later = state place brackets; rest = text; goes = stays; ends = step_is place brackets text ∙ is }

-- the same with any brackets
pub walk_one : {from next : Place} {text rest : List ℕ} → ((brackets : List Bracket) → row from (part_at text) brackets text ≡ to next brackets rest) → (room : ℕ) → Walks room from text next rest
walk_one {from} {next} {text} {rest} is room = record { goes = λ brackets fits. one_move from next brackets brackets text rest (is brackets) }

pub walk_on : {room : ℕ} {from next later : Place} {text more rest : List ℕ} → Walks room from text next more → Walks room next more later rest → Walks room from text later rest
walk_on first second = record { goes = λ brackets fits. then_goes (first.goes brackets fits) (second.goes brackets fits) }

pub walk_halts : {room : ℕ} {from next : Place} {text more : List ℕ} {why : Stop} → Walks room from text next more → Halts room next more why → Halts room from text why
walk_halts first second = record { comes = λ real brackets fits. then_comes (first.goes brackets fits) (second.comes real brackets fits) }

pub halts_here : {from : Place} {text : List ℕ} {why : Stop} → ((brackets : List Bracket) → row from (part_at text) brackets text ≡ stop why) → (room : ℕ) → Halts room from text why
halts_here {from} {text} {why} is room = record { comes = λ real brackets fits. comes_here from brackets text (stop why) (is brackets) }

-- memory ran out
pub no_memory : {room : ℕ} {from : Place} {text : List ℕ} {why : Stop} → why ≡ stops.NoMemory → Halts room from text why
no_memory is = record { comes = λ real. absurd (real is) }

pub operand_memory : {room : ℕ} {text : List ℕ} {why : Stop} → why ≡ stops.NoMemory → HaltsOperand room text why
operand_memory is = record { halts = λ more. no_memory is }

pub items_memory : {room : ℕ} {text : List ℕ} {why : Stop} → why ≡ stops.NoMemory → HaltsItems room text why
items_memory is = record { comes = λ real. absurd (real is) }

-- what stands at the beginning of a text
abbrev pub Unled : List ℕ → List Token → List ℕ → Type 0
Unled text [] rest = text ≡ rest
Unled text (token ∷ tokens) rest = (next : List ℕ) × Stands text token next × Leads next tokens rest

pub unled : {text rest : List ℕ} {tokens : List Token} → Leads text tokens rest → Unled text tokens rest
unled Rules.here = refl
unled (Rules.on {next = next} stands leads) = (next, stands, leads)

pub lead_part : {text rest : List ℕ} (part : Part) → Leads text (mark part ∷ []) rest → part_at text ≡ part
lead_part part leads = let first = unled leads in first.1.0

pub lead_rest : {text rest : List ℕ} (part : Part) → Leads text (mark part ∷ []) rest → rest ≡ behind text
lead_rest part leads = let first = unled leads in sym (unled first.2) ∙ first.1.1

pub lead_quoted : {text rest : List ℕ} (held : List ℕ) → Leads text (quote held ∷ []) rest → (others : List ℕ) × (quoted text ≡ Ok (held, others)) × (rest ≡ after_blanks others)
lead_quoted held leads = let first = unled leads in (first.1.1, first.1.2, sym (unled first.2) ∙ first.1.3)

pub lead_quote : {text rest : List ℕ} (held : List ℕ) → Leads text (quote held ∷ []) rest → part_at text ≡ parts.Quote
lead_quote held leads = let first = unled leads in first.1.0

-- a row that depends on the part alone
pub at_part : (place : Place) (part : Part) (brackets : List Bracket) (text rest : List ℕ) → part_at text ≡ part → rest ≡ behind text → (next : Place) (others : List Bracket) → row place part brackets text ≡ to next others (behind text) → row place (part_at text) brackets text ≡ to next others rest
at_part place part brackets text rest is moved next others known = ap (λ own. row place own brackets text) is ∙ known ∙ ap (λ own. to next others own) (sym moved)

-- room for one more bracket
pub has_room : (brackets : List Bracket) (room : ℕ) → length brackets + room ≡ 32 → 1 ≤ room → nat_lt (length brackets) 32 ≡ true
has_room brackets room fits some = lt-ltb (length brackets) 32 (omega (arith, fits, some))

pub no_room : (brackets : List Bracket) (room : ℕ) → length brackets + room ≡ 32 → room ≡ 0 → nat_lt (length brackets) 32 ≡ false
no_room brackets room fits none_left = le-ltb (length brackets) 32 (omega (arith, fits, none_left))

-- behind an operand

past_tail : (more : Bool) (tail : Tail) (part : Part) (brackets : List Bracket) (text : List ℕ) → tail_next more tail part ≡ None → after_row more tail part brackets text ≡ test_row more part brackets text
past_tail more tail part brackets text no_tail = ap (λ own. or_else own brackets text (test_row more part brackets text)) no_tail

past_test : (more : Bool) (part : Part) (brackets : List Bracket) (text : List ℕ) → test_next more part ≡ None → test_row more part brackets text ≡ join_row part brackets text
past_test more part brackets text no_test = ap (λ own. or_else own brackets text (join_row part brackets text)) no_test

past_join : (part : Part) (brackets : List Bracket) (text : List ℕ) → both_next part ≡ None → either_next part ≡ None → join_row part brackets text ≡ end_row brackets part text
past_join part brackets text no_both no_either =
    ap (λ own. or_else own brackets text (or_else (either_next part) brackets text (end_row brackets part text))) no_both
    ∙ ap (λ own. or_else own brackets text (end_row brackets part text)) no_either

-- an operand over
relation_row : (more : Bool) (tail : Tail) (part : Part) (brackets : List Bracket) (text : List ℕ) → IsRelationOver more tail part → after_row more tail part brackets text ≡ join_row part brackets text
relation_row more tail part brackets text over = past_tail more tail part brackets text over.0 ∙ past_test more part brackets text over.1

-- a whole rule or the inside of brackets over
pub or_row : (more : Bool) (tail : Tail) (part : Part) (brackets : List Bracket) (text : List ℕ) → IsOrOver more tail part → after_row more tail part brackets text ≡ end_row brackets part text
or_row more tail part brackets text over = relation_row more tail part brackets text over.0.0 ∙ past_join part brackets text over.0.1 over.1

pub not_both : (part : Part) → (part ≡ parts.Both → ⊥) → both_next part ≡ None
not_both parts.Both other = absurd (other refl)
not_both part other = refl

pub not_either : (part : Part) → (part ≡ parts.Either → ⊥) → either_next part ≡ None
not_either parts.Either other = absurd (other refl)
not_either part other = refl

pub not_comma : (part : Part) → (part ≡ parts.Comma → ⊥) → is_comma part ≡ false
not_comma parts.Comma other = absurd (other refl)
not_comma part other = refl

-- `||`
pub or_first : {room : ℕ} {text rest : List ℕ} → Went IsAndOver room text rest → (part_at rest ≡ parts.Either → ⊥) → Went IsOrOver room text rest
or_first {rest = rest} first other = record { more = first.more; tail = first.tail; walks = first.walks; over_is = (first.over_is, not_either (part_at rest) other) }

or_walk : {room : ℕ} {text end next : List ℕ} → Went IsAndOver room text end → part_at end ≡ parts.Either → next ≡ behind end → Walks room (operand true) text (operand true) next
or_walk {room} {text} {end} {next} first is moved = walk_on first.walks (walk_one (λ brackets.
    relation_row first.more first.tail (part_at end) brackets end first.over_is.0 ∙ ap (λ own. join_row own brackets end) is ∙ ap (λ own. to (operand true) brackets own) (sym moved)) room)

pub or_again : {room : ℕ} {text end next rest : List ℕ} → Went IsAndOver room text end → part_at end ≡ parts.Either → next ≡ behind end → Went IsAndOver room next rest → Went IsAndOver room text rest
or_again first is moved second = record { more = second.more; tail = second.tail; walks = walk_on (or_walk first is moved) second.walks; over_is = second.over_is }

pub or_halts : {room : ℕ} {text end next : List ℕ} {why : Stop} → Went IsAndOver room text end → part_at end ≡ parts.Either → next ≡ behind end → Halts room (operand true) next why → Halts room (operand true) text why
or_halts first is moved second = walk_halts (or_walk first is moved) second

-- `&&`
pub and_first : {room : ℕ} {text rest : List ℕ} → Went IsRelationOver room text rest → (part_at rest ≡ parts.Both → ⊥) → Went IsAndOver room text rest
and_first {rest = rest} first other = record { more = first.more; tail = first.tail; walks = first.walks; over_is = (first.over_is, not_both (part_at rest) other) }

and_walk : {room : ℕ} {text end next : List ℕ} → Went IsRelationOver room text end → part_at end ≡ parts.Both → next ≡ behind end → Walks room (operand true) text (operand true) next
and_walk {room} {text} {end} {next} first is moved = walk_on first.walks (walk_one (λ brackets.
    relation_row first.more first.tail (part_at end) brackets end first.over_is ∙ ap (λ own. join_row own brackets end) is ∙ ap (λ own. to (operand true) brackets own) (sym moved)) room)

pub and_again : {room : ℕ} {text end next rest : List ℕ} → Went IsRelationOver room text end → part_at end ≡ parts.Both → next ≡ behind end → Went IsRelationOver room next rest → Went IsRelationOver room text rest
and_again first is moved second = record { more = second.more; tail = second.tail; walks = walk_on (and_walk first is moved) second.walks; over_is = second.over_is }

pub and_halts : {room : ℕ} {text end next : List ℕ} {why : Stop} → Went IsRelationOver room text end → part_at end ≡ parts.Both → next ≡ behind end → Halts room (operand true) next why → Halts room (operand true) text why
and_halts first is moved second = walk_halts (and_walk first is moved) second

-- a relation
pub rel_alone : {room : ℕ} {text rest : List ℕ} → WalksOperand room text rest → test_next true (part_at rest) ≡ None → Went IsRelationOver room text rest
rel_alone first none_there = record { more = true; tail = first.tail; walks = first.walks true; over_is = (first.over true, none_there) }

rel_walk : {room : ℕ} {text end next : List ℕ} (later : Place) → WalksOperand room text end → ((brackets : List Bracket) → test_row true (part_at end) brackets end ≡ to later brackets (behind end)) → next ≡ behind end → Walks room (operand true) text later next
rel_walk {room} {text} {end} {next} later first is moved = walk_on (first.walks true) (walk_one (λ brackets.
    past_tail true first.tail (part_at end) brackets end (first.over true) ∙ is brackets ∙ ap (λ own. to later brackets own) (sym moved)) room)

test_walk : (relation : Relation) {room : ℕ} {text end next : List ℕ} → WalksOperand room text end → part_at end ≡ parts.Test relation → next ≡ behind end → Walks room (operand true) text (operand false) next
test_walk relation {end = end} first is moved = rel_walk (operand false) first (λ brackets. ap (λ own. test_row true own brackets end) is) moved

pub rel_tested : (relation : Relation) {room : ℕ} {text end next rest : List ℕ} → WalksOperand room text end → part_at end ≡ parts.Test relation → next ≡ behind end → WalksOperand room next rest → Went IsRelationOver room text rest
rel_tested relation first is moved second = record { more = false; tail = second.tail; walks = walk_on (test_walk relation first is moved) (second.walks false); over_is = (second.over false, refl) }

pub test_halts : (relation : Relation) {room : ℕ} {text end next : List ℕ} {why : Stop} → WalksOperand room text end → part_at end ≡ parts.Test relation → next ≡ behind end → HaltsOperand room next why → Halts room (operand true) text why
test_halts relation first is moved second = walk_halts (test_walk relation first is moved) (second.halts false)

in_walk : {room : ℕ} {text end next : List ℕ} → WalksOperand room text end → part_at end ≡ parts.Named words.In → next ≡ behind end → Walks room (operand true) text open_list next
in_walk {end = end} first is moved = rel_walk open_list first (λ brackets. ap (λ own. test_row true own brackets end) is) moved

pub rel_listed : {room : ℕ} {text end next rest : List ℕ} → WalksOperand room text end → part_at end ≡ parts.Named words.In → next ≡ behind end → Walks room open_list next (after false list_end) rest → Went IsRelationOver room text rest
rel_listed first is moved second = record { more = false; tail = list_end; walks = walk_on (in_walk first is moved) second; over_is = (refl, refl) }

pub in_halts : {room : ℕ} {text end next : List ℕ} {why : Stop} → WalksOperand room text end → part_at end ≡ parts.Named words.In → next ≡ behind end → Halts room open_list next why → Halts room (operand true) text why
in_halts first is moved second = walk_halts (in_walk first is moved) second

-- a list
pub items_first : {room : ℕ} {text rest : List ℕ} → Went IsOrOver room text rest → WentItems IsOrOver room text rest
items_first first = record { more = first.more; tail = first.tail; goes = λ outer fits. first.walks.goes (in_list ∷ outer) fits; over_is = first.over_is }

items_walk : {room : ℕ} {text end next : List ℕ} (first : WentItems IsOrOver room text end) → part_at end ≡ parts.Comma → next ≡ behind end → (outer : List Bracket) → length (in_list ∷ outer) + room ≡ 32 → Goes (state (operand true) (in_list ∷ outer)) text (state (operand true) (in_list ∷ outer)) next
items_walk {room} {text} {end} {next} first is moved outer fits = then_goes (first.goes outer fits) (one_move (after first.more first.tail) (operand true) (in_list ∷ outer) (in_list ∷ outer) end next
    (or_row first.more first.tail (part_at end) (in_list ∷ outer) end first.over_is ∙ ap (λ own. end_row (in_list ∷ outer) own end) is ∙ ap (λ own. to (operand true) (in_list ∷ outer) own) (sym moved)))

pub items_again : {room : ℕ} {text end next rest : List ℕ} → WentItems IsOrOver room text end → part_at end ≡ parts.Comma → next ≡ behind end → Went IsOrOver room next rest → WentItems IsOrOver room text rest
items_again first is moved second = record { more = second.more; tail = second.tail; goes = λ outer fits. then_goes (items_walk first is moved outer fits) (second.walks.goes (in_list ∷ outer) fits); over_is = second.over_is }

pub items_last : {room : ℕ} {text rest : List ℕ} → WentItems IsOrOver room text rest → (part_at rest ≡ parts.Comma → ⊥) → WentItems IsItemsOver room text rest
items_last {rest = rest} first other = record { more = first.more; tail = first.tail; goes = first.goes; over_is = (first.over_is, not_comma (part_at rest) other) }

pub item_halts : {room : ℕ} {text : List ℕ} {why : Stop} → Halts room (operand true) text why → HaltsItems room text why
item_halts first = record { comes = λ real outer fits. first.comes real (in_list ∷ outer) fits }

pub items_halts : {room : ℕ} {text end next : List ℕ} {why : Stop} → WentItems IsOrOver room text end → part_at end ≡ parts.Comma → next ≡ behind end → Halts room (operand true) next why → HaltsItems room text why
items_halts first is moved second = record { comes = λ real outer fits. then_comes (items_walk first is moved outer fits) (second.comes real (in_list ∷ outer) fits) }

not_close : (part : Part) → (part ≡ parts.CloseList → ⊥) → is_close part ≡ false
not_close parts.CloseList other = absurd (other refl)
not_close part other = refl

list_begins : (room : ℕ) (text next : List ℕ) → part_at text ≡ parts.OpenList → next ≡ behind text → 1 ≤ room → (brackets : List Bracket) → length brackets + room ≡ 32 → list_row (part_at text) brackets text ≡ items_row (is_close (part_at next)) brackets text
list_begins room text next is moved some brackets fits =
    ap (λ own. list_row own brackets text) is
    ∙ ap (λ own. cond own (items_row (is_close (part_at (behind text))) brackets text) (stop (stops.Deep (length text)))) (has_room brackets room fits some)
    ∙ ap (λ own. items_row (is_close (part_at own)) brackets text) (sym moved)

pub list_empty : {room : ℕ} {text next rest : List ℕ} → Leads text (mark parts.OpenList ∷ []) next → 1 ≤ room → Leads next (mark parts.CloseList ∷ []) rest → Walks room open_list text (after false list_end) rest
list_empty {room} {text} {next} {rest} first some last = record {
  goes = λ brackets fits. one_move open_list (after false list_end) brackets brackets text rest (
      list_begins room text next (lead_part parts.OpenList first) (lead_rest parts.OpenList first) some brackets fits
      ∙ ap (λ own. items_row (is_close own) brackets text) (lead_part parts.CloseList last)
      ∙ ap (λ own. to (after false list_end) brackets (behind own)) (sym (lead_rest parts.OpenList first))
      ∙ ap (λ own. to (after false list_end) brackets own) (sym (lead_rest parts.CloseList last)));
}

pub list_goes : {room : ℕ} {text next : List ℕ} → Leads text (mark parts.OpenList ∷ []) next → 1 ≤ room → (part_at next ≡ parts.CloseList → ⊥) → (brackets : List Bracket) → length brackets + room ≡ 32 → Goes (state open_list brackets) text (state (operand true) (in_list ∷ brackets)) next
list_goes {room} {text} {next} first some other brackets fits = one_move open_list (operand true) brackets (in_list ∷ brackets) text next (
    list_begins room text next (lead_part parts.OpenList first) (lead_rest parts.OpenList first) some brackets fits
    ∙ ap (λ own. items_row own brackets text) (not_close (part_at next) other)
    ∙ ap (λ own. to (operand true) (in_list ∷ brackets) own) (sym (lead_rest parts.OpenList first)))

pub one_less : (brackets : List Bracket) (bracket : Bracket) (room inner : ℕ) → length brackets + room ≡ 32 → inner + 1 ≡ room → length (bracket ∷ brackets) + inner ≡ 32
one_less brackets bracket room inner fits less = omega (arith, fits, less)

pub list_some : {room inner : ℕ} {text next end rest : List ℕ} → Leads text (mark parts.OpenList ∷ []) next → 1 ≤ room → (part_at next ≡ parts.CloseList → ⊥) → inner + 1 ≡ room → WentItems IsItemsOver inner next end → Leads end (mark parts.CloseList ∷ []) rest → Walks room open_list text (after false list_end) rest
list_some {room} {inner} {text} {next} {end} {rest} first some other less items last = record {
  goes = λ brackets fits.
      then_goes (list_goes first some other brackets fits) (then_goes (items.goes brackets (one_less brackets in_list room inner fits less))
      (one_move (after items.more items.tail) (after false list_end) (in_list ∷ brackets) brackets end rest
      (or_row items.more items.tail (part_at end) (in_list ∷ brackets) end items.over_is.0 ∙ ap (λ own. end_row (in_list ∷ brackets) own end) (lead_part parts.CloseList last) ∙ ap (λ own. to (after false list_end) brackets own) (sym (lead_rest parts.CloseList last)))));
}

pub list_unopened : {room : ℕ} {text : List ℕ} {why : Stop} → NoSquare room text why → Halts room open_list text why
list_unopened {room} {text} {why} lack = record { comes = λ real brackets fits. comes_here open_list brackets text (stop why) (lack.row brackets fits) }

pub list_halts : {room inner : ℕ} {text next : List ℕ} {why : Stop} → Leads text (mark parts.OpenList ∷ []) next → 1 ≤ room → (part_at next ≡ parts.CloseList → ⊥) → inner + 1 ≡ room → HaltsItems inner next why → Halts room open_list text why
list_halts {room} {inner} first some other less items = record {
  comes = λ real brackets fits.
      then_comes (list_goes first some other brackets fits) (items.comes real brackets (one_less brackets in_list room inner fits less));
}

-- neither a comma nor the bracket
unclosed_list : (brackets : List Bracket) (part : Part) (text : List ℕ) → is_comma part ≡ false → is_close part ≡ false → end_row (in_list ∷ brackets) part text ≡ stop (why_not false part (length text))
unclosed_list brackets parts.Comma text no_comma no_close = absurd (true≢false no_comma)
unclosed_list brackets parts.CloseList text no_comma no_close = absurd (true≢false no_close)
unclosed_list brackets part text no_comma no_close = refl

pub list_unclosed : {room inner : ℕ} {text next end : List ℕ} {why : Stop} → Leads text (mark parts.OpenList ∷ []) next → 1 ≤ room → (part_at next ≡ parts.CloseList → ⊥) → inner + 1 ≡ room → WentItems IsItemsOver inner next end → Lacks is_close false end why → Halts room open_list text why
list_unclosed {room} {inner} {text} {next} {end} {why} first some other less items lack = record {
  comes = λ real brackets fits.
      then_comes (list_goes first some other brackets fits) (then_comes (items.goes brackets (one_less brackets in_list room inner fits less))
      (comes_here (after items.more items.tail) (in_list ∷ brackets) end (stop why)
      (or_row items.more items.tail (part_at end) (in_list ∷ brackets) end items.over_is.0 ∙ unclosed_list brackets (part_at end) end items.over_is.1 lack.other ∙ ap stop (sym lack.why_is))));
}

pub closed_after_all : {room : ℕ} {text next : List ℕ} {why : Stop} → part_at next ≡ parts.CloseList → Lacks is_close false next why → Halts room open_list text why
closed_after_all is lack = absurd (true≢false (sym (ap is_close is) ∙ lack.other))

-- brackets round what stands in them
abbrev pub round_at : Place → Bool → Place → Type 0
round_at from more inside = (part : Part) (brackets : List Bracket) (text : List ℕ) → row from part brackets text ≡ round_row more inside part brackets text

pub round_goes : {room : ℕ} {text next : List ℕ} (more : Bool) (inside : Place) → Leads text (mark parts.Open ∷ []) next → 1 ≤ room → (brackets : List Bracket) → length brackets + room ≡ 32 → round_row more inside (part_at text) brackets text ≡ to inside (in_round more ∷ brackets) next
round_goes {room} {text} {next} more inside first some brackets fits =
    ap (λ own. round_row more inside own brackets text) (lead_part parts.Open first)
    ∙ ap (λ own. cond own (to inside (in_round more ∷ brackets) (behind text)) (stop (stops.Deep (length text)))) (has_room brackets room fits some)
    ∙ ap (λ own. to inside (in_round more ∷ brackets) own) (sym (lead_rest parts.Open first))

pub round_opens : {room : ℕ} {text next : List ℕ} (more : Bool) → Leads text (mark parts.Open ∷ []) next → 1 ≤ room → (brackets : List Bracket) → length brackets + room ≡ 32 → Goes (state (open_round more) brackets) text (state (operand true) (in_round more ∷ brackets)) next
round_opens {text = text} {next = next} more first some brackets fits = one_move (open_round more) (operand true) brackets (in_round more ∷ brackets) text next (round_goes more (operand true) first some brackets fits)

pub round_walk : {room inner : ℕ} {text next end rest : List ℕ} → Leads text (mark parts.Open ∷ []) next → 1 ≤ room → inner + 1 ≡ room → Went IsOrOver inner next end → Leads end (mark parts.Close ∷ []) rest → WalksRound room text rest
round_walk {room} {inner} {text} {next} {end} {rest} first some less inside last = record {
  walks = λ more. record {
    goes = λ brackets fits.
        then_goes (round_opens more first some brackets fits) (then_goes (inside.walks.goes (in_round more ∷ brackets) (one_less brackets (in_round more) room inner fits less))
        (one_move (after inside.more inside.tail) (after more value_end) (in_round more ∷ brackets) brackets end rest
        (or_row inside.more inside.tail (part_at end) (in_round more ∷ brackets) end inside.over_is ∙ ap (λ own. end_row (in_round more ∷ brackets) own end) (lead_part parts.Close last) ∙ ap (λ own. to (after more value_end) brackets own) (sym (lead_rest parts.Close last)))));
  };
}

pub round_unopened : {room : ℕ} {text : List ℕ} {why : Stop} → NoRound room text why → HaltsRound room text why
round_unopened {room} {text} {why} lack = record { halts = λ more. record { comes = λ real brackets fits. comes_here (open_round more) brackets text (stop why) (lack.row more (operand true) brackets fits) } }

pub round_halts : {room inner : ℕ} {text next : List ℕ} {why : Stop} → Leads text (mark parts.Open ∷ []) next → 1 ≤ room → inner + 1 ≡ room → Halts inner (operand true) next why → HaltsRound room text why
round_halts {room} {inner} first some less inside = record {
  halts = λ more. record {
    comes = λ real brackets fits.
        then_comes (round_opens more first some brackets fits) (inside.comes real (in_round more ∷ brackets) (one_less brackets (in_round more) room inner fits less));
  };
}

unclosed_round : (more : Bool) (brackets : List Bracket) (part : Part) (text : List ℕ) → is_close_round part ≡ false → end_row (in_round more ∷ brackets) part text ≡ stop (why_not false part (length text))
unclosed_round more brackets parts.Close text other = absurd (true≢false other)
unclosed_round more brackets part text other = refl

pub round_unclosed : {room inner : ℕ} {text next end : List ℕ} {why : Stop} → Leads text (mark parts.Open ∷ []) next → 1 ≤ room → inner + 1 ≡ room → Went IsOrOver inner next end → Lacks is_close_round false end why → HaltsRound room text why
round_unclosed {room} {inner} {text} {next} {end} {why} first some less inside lack = record {
  halts = λ more. record {
    comes = λ real brackets fits.
        then_comes (round_opens more first some brackets fits) (then_comes (inside.walks.goes (in_round more ∷ brackets) (one_less brackets (in_round more) room inner fits less))
        (comes_here (after inside.more inside.tail) (in_round more ∷ brackets) end (stop why)
        (or_row inside.more inside.tail (part_at end) (in_round more ∷ brackets) end inside.over_is ∙ unclosed_round more brackets (part_at end) end lack.other ∙ ap stop (sym lack.why_is))));
  };
}

-- a bracket that isn't there, or for which there is no room
pub no_round : {room : ℕ} {text : List ℕ} {why : Stop} → is_open (part_at text) ≡ false → why ≡ why_not false (part_at text) (length text) → NoRound room text why
no_round {room} {text} {why} other is = record { row = λ more inside brackets fits. no_open more inside brackets (part_at text) text other ∙ ap stop (sym is) }
  where
    no_open : (more : Bool) (inside : Place) (brackets : List Bracket) (part : Part) (own : List ℕ) → is_open part ≡ false → round_row more inside part brackets own ≡ stop (why_not false part (length own))
    no_open more inside brackets parts.Open own bad = absurd (true≢false bad)
    no_open more inside brackets part own bad = refl

pub deep_round : {room : ℕ} {text : List ℕ} {why : Stop} → part_at text ≡ parts.Open → room ≡ 0 → why ≡ stops.Deep (length text) → NoRound room text why
deep_round {room} {text} {why} is none_left deep = record {
  row = λ more inside brackets fits.
      ap (λ own. round_row more inside own brackets text) is
      ∙ ap (λ own. cond own (to inside (in_round more ∷ brackets) (behind text)) (stop (stops.Deep (length text)))) (no_room brackets room fits none_left)
      ∙ ap stop (sym deep);
}

abbrev pub is_open_list : Part → Bool
is_open_list parts.OpenList = true
is_open_list part = false

pub no_square : {room : ℕ} {text : List ℕ} {why : Stop} → is_open_list (part_at text) ≡ false → why ≡ why_not false (part_at text) (length text) → NoSquare room text why
no_square {room} {text} {why} other is = record { row = λ brackets fits. no_open brackets (part_at text) text other ∙ ap stop (sym is) }
  where
    no_open : (brackets : List Bracket) (part : Part) (own : List ℕ) → is_open_list part ≡ false → list_row part brackets own ≡ stop (why_not false part (length own))
    no_open brackets parts.OpenList own bad = absurd (true≢false bad)
    no_open brackets part own bad = refl

pub deep_square : {room : ℕ} {text : List ℕ} {why : Stop} → part_at text ≡ parts.OpenList → room ≡ 0 → why ≡ stops.Deep (length text) → NoSquare room text why
deep_square {room} {text} {why} is none_left deep = record {
  row = λ brackets fits.
      ap (λ own. list_row own brackets text) is
      ∙ ap (λ own. cond own (items_row (is_close (part_at (behind text))) brackets text) (stop (stops.Deep (length text)))) (no_room brackets room fits none_left)
      ∙ ap stop (sym deep);
}

-- results that go on
pub at_exit : {T : Type 0} (P : Stop → Type 0) (result : Result T Stop) (why : Stop) → IsErrAnd result (λ own. own ≡ why) → P why → IfErr result P
at_exit P (Ok x) why bad holds = absurd bad
at_exit P (Err own) why same holds = subst P (sym same) holds

pub put_went : {T : Type 0} {over : Bool → Tail → Part → Type 0} {room : ℕ} {text rest last : List ℕ} (result : Result T Stop) → last ≡ rest → Went over room text rest → OnOk result (Went over room text last)
put_went {over = over} {room} {text} (Ok x) same went = subst (λ own. Went over room text own) (sym same) went
put_went (Err why) same went = tt

pub put_atom : {T : Type 0} {room : ℕ} {text rest last : List ℕ} (result : Result T Stop) → last ≡ rest → WalksAtom room text rest → OnOk result (WalksAtom room text last)
put_atom {room = room} {text} (Ok x) same atom = subst (λ own. WalksAtom room text own) (sym same) atom
put_atom (Err why) same atom = tt

pub round_ok : {T : Type 0} {room inner : ℕ} {text next end : List ℕ} (result : Result T Stop) (rest : List ℕ) → Leads text (mark parts.Open ∷ []) next → 1 ≤ room → inner + 1 ≡ room → Went IsOrOver inner next end → OnOk result (Passes (mark parts.Close ∷ []) end rest) → OnOk result (WalksRound room text rest)
round_ok (Ok x) rest first some less inside last = round_walk first some less inside last.leads
round_ok (Err why) rest first some less inside last = tt

pub round_err : {T : Type 0} {room inner : ℕ} {text next end : List ℕ} (result : Result T Stop) → Leads text (mark parts.Open ∷ []) next → 1 ≤ room → inner + 1 ≡ room → Went IsOrOver inner next end → IfErr result (Lacks is_close_round false end) → IfErr result (HaltsRound room text)
round_err (Ok x) first some less inside last = tt
round_err (Err why) first some less inside last = round_unclosed first some less inside last

pub empty_ok : {T : Type 0} {room : ℕ} {text next : List ℕ} (result : Result T Stop) (rest : List ℕ) → Leads text (mark parts.OpenList ∷ []) next → 1 ≤ room → OnOk result (Passes (mark parts.CloseList ∷ []) next rest) → OnOk result (Walks room open_list text (after false list_end) rest)
empty_ok (Ok x) rest first some last = list_empty first some last.leads
empty_ok (Err why) rest first some last = tt

pub list_ok : {T : Type 0} {room inner : ℕ} {text next end : List ℕ} (result : Result T Stop) (rest : List ℕ) → Leads text (mark parts.OpenList ∷ []) next → 1 ≤ room → (part_at next ≡ parts.CloseList → ⊥) → inner + 1 ≡ room → WentItems IsItemsOver inner next end → OnOk result (Passes (mark parts.CloseList ∷ []) end rest) → OnOk result (Walks room open_list text (after false list_end) rest)
list_ok (Ok x) rest first some other less items last = list_some first some other less items last.leads
list_ok (Err why) rest first some other less items last = tt

pub list_err : {T : Type 0} {room inner : ℕ} {text next end : List ℕ} (result : Result T Stop) → Leads text (mark parts.OpenList ∷ []) next → 1 ≤ room → (part_at next ≡ parts.CloseList → ⊥) → inner + 1 ≡ room → WentItems IsItemsOver inner next end → IfErr result (Lacks is_close false end) → IfErr result (Halts room open_list text)
list_err (Ok x) first some other less items last = tt
list_err (Err why) first some other less items last = list_unclosed first some other less items last

-- what a part is not
pub no_test : (part : Part) → ((relation : Relation) → part ≡ parts.Test relation → ⊥) → (part ≡ parts.Named words.In → ⊥) → test_next true part ≡ None
no_test (parts.Test relation) other lone = absurd (other relation refl)
no_test (parts.Named words.In) other lone = absurd (lone refl)
no_test part other lone = refl
