-- Where operands and what they are made of lead, or where they stop.
use Rattle.std.proofs.Common.{◌≡◌, ◌≢◌, ◌∙◌, ap, sym, subst, ℕ, ◌+◌, ◌-◌, ◌≤◌, List, [], ◌∷◌, length, refl, arith, Bool, true, false, not, ◌&&◌, None, Result, Ok, Err, IfOk, OnOk, IfErr}
use Rattle.std.proofs.lemmas.Bool.{true≢false}
use Rattle.rule_value.specs.declared.part.Part.{Part}
use Rattle.rule_value.specs.declared.part.Part.TheVariants as parts
use Rattle.rule_value.specs.declared.part.Word.{Word}
use Rattle.rule_value.specs.declared.part.Word.TheVariants as words
use Rattle.rule_value.specs.declared.part.Call.{Call}
use Rattle.rule_value.specs.declared.part.Whole.{Whole}
use Rattle.rule_expr.specs.declared.stop.Stop.{Stop}
use Rattle.rule_expr.specs.declared.stop.Stop.TheVariants as stops
use Rattle.rule_expr.specs.declared.error.RuleErr.{RuleErr}
use Rattle.rule_expr.specs.declared.error.RuleErr.TheVariants as errors
use Rattle.rule_expr.specs.Parts.{part_at, behind, after_blanks, quoted}
use Rattle.rule_value.specs.Trees.{mark, quote}
use Rattle.rule_expr.specs.Rules.{Leads}
use Rattle.rule_expr.specs.Places.{State, Place, Home, Bracket, path_end, value_end, alone, operand, after, after_asked, dot_path, dot_value, bracketed, square, open_round, open_has, event, in_round, stop, state, to, why_not, row, step, whole, after_path, tail_next, end_row, after_row, is_open, is_close, name_row, dot_row, call_row, quote_row, square_row, round_row, event_row, operand_row, word_row}
use Rattle.rule_expr.specs.Walks.{Goes, Comes, IsRefused, stays, moves, start}
use Rattle.rule_expr.specs.Refusals.{error_at}
use Rattle.rule_expr.specs.Walking.{Walks, Halts, HaltsOperand, WalksBangs, WalksSteps, HaltsSteps, WalksHome, HaltsHome, Breaks, WalksAtom, WalksOperand, WalksRound, HaltsRound, Went, NoRound, Lacks, IsOrOver, tail_of, is_call, is_named_call, is_end, is_close_round, is_event, is_called, path_next, begins_call, goes_on, home_of, is_bang}
use Rattle.rule_expr.proofs.Walking.{step_is, one_move, then_goes, then_comes, comes_here, walk_one, walk_on, walk_halts, halts_here, no_memory, lead_part, lead_rest, lead_quoted, lead_quote, one_less, or_row, round_goes}

-- `!`
pub no_bangs : {room : ℕ} (text : List ℕ) → WalksBangs room text text
no_bangs text = record { walks = λ more. record { goes = λ brackets fits. stays } }

pub bang_more : {room : ℕ} {text between rest : List ℕ} → WalksBangs room text between → part_at between ≡ parts.Bang → rest ≡ behind between → WalksBangs room text rest
bang_more {room} {text} {between} {rest} first is moved = record {
  walks = λ more. walk_on (first.walks more) (walk_one (λ brackets.
      ap (λ own. operand_row more own brackets between) is ∙ ap (λ own. to (operand more) brackets own) (sym moved)) room);
}

pub bangs_before : {room : ℕ} {text next rest : List ℕ} → WalksBangs room text next → WalksOperand room next rest → WalksOperand room text rest
bangs_before first second = record { tail = second.tail; walks = λ more. walk_on (first.walks more) (second.walks more); over = second.over }

pub bangs_halts : {room : ℕ} {text next : List ℕ} {why : Stop} → WalksBangs room text next → HaltsOperand room next why → HaltsOperand room text why
bangs_halts first second = record { halts = λ more. walk_halts (first.walks more) (second.halts more) }

-- what a path that doesn't go on is followed by
no_tail : (more is_path : Bool) (part : Part) (calls : Bool) → (part ≡ parts.Dot → ⊥) → (is_path ≡ true → path_next part calls ≡ false) → tail_next more (tail_of is_path) part ≡ None
no_tail more true parts.Dot calls other over = absurd (other refl)
no_tail more true parts.OpenList calls other over = absurd (true≢false (over refl))
no_tail more true part calls other over = refl
no_tail more false parts.Dot calls other over = absurd (other refl)
no_tail more false part calls other over = refl

pub post_over : {room : ℕ} {text rest : List ℕ} → WalksAtom room text rest → (part_at rest ≡ parts.Dot → ⊥) → WalksOperand room text rest
post_over {rest = rest} first other = record {
  tail = tail_of first.is_path;
  walks = first.walks;
  over = λ more. no_tail more first.is_path (part_at rest) (begins_call false (behind rest)) other first.over;
}

not_false : (flag : Bool) → not flag ≡ false → flag ≡ true
not_false true is = refl
not_false false is = absurd (true≢false is)

not_true : (flag : Bool) → not flag ≡ true → flag ≡ false
not_true true is = absurd (true≢false (sym is))
not_true false is = refl

pub both_parts : (one other : Bool) → (one && other) ≡ true → (one ≡ true) × (other ≡ true)
both_parts true other is = (refl, is)
both_parts false other is = absurd (true≢false (sym is))

-- behind the dot of a path that doesn't go on there is a call
called_there : (end : List ℕ) → goes_on false end ≡ false → part_at end ≡ parts.Dot → is_called (behind end) ≡ true
called_there end over is = not_false (is_called (behind end)) (sym (ap (λ own. path_next own (is_called (behind end))) is) ∙ over)

dot_call : (more is_path : Bool) (end named next : List ℕ) (which : Call) → (is_path ≡ true → goes_on false end ≡ false) → part_at end ≡ parts.Dot → named ≡ behind end → part_at named ≡ parts.Named (words.Call which) → next ≡ behind named → (room : ℕ) → Walks room (after more (tail_of is_path)) end (open_round more) next
dot_call more true end named next which over is moved named_is further room =
    let called = both_parts (is_named_call (part_at (behind end))) (is_open (part_at (behind (behind end)))) (called_there end (over refl) is) in
    let opens : is_open (part_at (behind named)) ≡ true = ap (λ own. is_open (part_at (behind own))) moved ∙ called.1 in
    walk_on
    (walk_one (λ brackets. ap (λ own. after_row more path_end own brackets end) is ∙ ap (λ own. to (dot_path (alone more)) brackets own) (sym moved)) room)
    (walk_one (λ brackets. ap (λ own. dot_row (alone more) own brackets named) named_is ∙ ap (λ own. name_row (alone more) (words.Call which) own brackets named) opens ∙ ap (λ own. to (open_round more) brackets own) (sym further)) room)
dot_call more false end named next which over is moved named_is further room = walk_on
    (walk_one (λ brackets. ap (λ own. after_row more value_end own brackets end) is ∙ ap (λ own. to (dot_value more) brackets own) (sym moved)) room)
    (walk_one (λ brackets. ap (λ own. call_row more own brackets named) named_is ∙ ap (λ own. to (open_round more) brackets own) (sym further)) room)

pub post_again : (which : Call) {room : ℕ} {text end named next rest : List ℕ} → WalksAtom room text end → part_at end ≡ parts.Dot → named ≡ behind end → part_at named ≡ parts.Named (words.Call which) → next ≡ behind named → WalksRound room next rest → WalksAtom room text rest
post_again which {room} {text} {end} {named} {next} {rest} first is moved named_is further second = record {
  is_path = false;
  walks = λ more. walk_on (first.walks more) (walk_on (dot_call more first.is_path end named next which first.over is moved named_is further room) (second.walks more));
  over = λ bad. absurd (true≢false (sym bad));
}

pub post_halts : (which : Call) {room : ℕ} {text end named next : List ℕ} {why : Stop} → WalksAtom room text end → part_at end ≡ parts.Dot → named ≡ behind end → part_at named ≡ parts.Named (words.Call which) → next ≡ behind named → HaltsRound room next why → HaltsOperand room text why
post_halts which {room} {text} {end} {named} {next} first is moved named_is further second = record {
  halts = λ more. walk_halts (first.walks more) (walk_halts (dot_call more first.is_path end named next which first.over is moved named_is further room) (second.halts more));
}

-- no call stands there
uncalled : (more : Bool) (part : Part) (brackets : List Bracket) (text : List ℕ) → is_named_call part ≡ false → call_row more part brackets text ≡ stop (why_not true part (length text))
uncalled more (parts.Named (words.Call which)) brackets text other = absurd (true≢false other)
uncalled more part brackets text other = refl

pub post_uncalled : {room : ℕ} {text end named : List ℕ} {why : Stop} → WalksAtom room text end → part_at end ≡ parts.Dot → named ≡ behind end → is_named_call (part_at named) ≡ false → why ≡ why_not true (part_at named) (length named) → HaltsOperand room text why
post_uncalled {room} {text} {end} {named} {why} first is moved other why_is = record { halts = λ more. walk_halts (first.walks more) (at_dot more first.is_path first.over) }
  where
    at_dot : (more is_path : Bool) → (is_path ≡ true → goes_on false end ≡ false) → Halts room (after more (tail_of is_path)) end why
    at_dot more true over =
        let called = both_parts (is_named_call (part_at (behind end))) (is_open (part_at (behind (behind end)))) (called_there end (over refl) is) in
        absurd (true≢false (sym called.0 ∙ ap (λ own. is_named_call (part_at own)) (sym moved) ∙ other))
    at_dot more false over = walk_halts
        (walk_one (λ brackets. ap (λ own. after_row more value_end own brackets end) is ∙ ap (λ own. to (dot_value more) brackets own) (sym moved)) room)
        (halts_here (λ brackets. uncalled more (part_at named) brackets named other ∙ ap stop (sym why_is)) room)

-- an atom that is no path
plain : {room : ℕ} {text rest : List ℕ} → ((more : Bool) → Walks room (operand more) text (after more value_end) rest) → WalksAtom room text rest
plain walks = record { is_path = false; walks = walks; over = λ bad. absurd (true≢false (sym bad)) }

-- a group begins as the brackets of a call do
same_open : (more : Bool) (brackets : List Bracket) (text : List ℕ) → part_at text ≡ parts.Open → step (state (operand more) brackets) text ≡ step (state (open_round more) brackets) text
same_open more brackets text is = step_is (operand more) brackets text ∙ ap (λ own. operand_row more own brackets text) is
    ∙ sym (ap (λ own. round_row more (operand true) own brackets text) is) ∙ sym (step_is (open_round more) brackets text)

abbrev pub is_open_round : Place → Bool
is_open_round (open_round more) = true
is_open_round place = false

same_goes : {now other later : State} {text rest : List ℕ} → step now text ≡ step other text → is_open_round other.at ≡ true → is_open_round later.at ≡ false → Goes other text later rest → Goes now text later rest
same_goes same begins ends stays = absurd (true≢false (sym begins ∙ ends))
same_goes same begins ends (moves is more) = moves (same ∙ is) more

same_comes : {now other later : State} {text rest : List ℕ} (last : Stop) → step now text ≡ step other text → Goes other text later rest → step later rest ≡ stop last → Comes now text (stop last)
same_comes {now} {text = text} last same stays ends = record { later = now; rest = text; goes = stays; ends = same ∙ ends }
same_comes {later = later} {rest = rest} last same (moves is more) ends = record { later = later; rest = rest; goes = moves (same ∙ is) more; ends = ends }

pub group_walk : {room : ℕ} {text rest : List ℕ} → part_at text ≡ parts.Open → WalksRound room text rest → WalksAtom room text rest
group_walk {text = text} is first = plain (λ more. record { goes = λ brackets fits. same_goes (same_open more brackets text is) refl refl ((first.walks more).goes brackets fits) })

pub group_halts : {room : ℕ} {text : List ℕ} {why : Stop} → part_at text ≡ parts.Open → HaltsRound room text why → HaltsOperand room text why
group_halts {text = text} {why = why} is first = record {
  halts = λ more. record {
    comes = λ real brackets fits.
        (let comes = (first.halts more).comes real brackets fits in same_comes why (same_open more brackets text is) comes.goes comes.ends);
  };
}

-- a text
whole_goes : (next : Place) (brackets : List Bracket) (text held others rest : List ℕ) → quoted text ≡ Ok (held, others) → rest ≡ after_blanks others → whole next brackets (quoted text) ≡ to next brackets rest
whole_goes next brackets text held others rest read moved = ap (λ own. whole next brackets own) read ∙ ap (λ own. to next brackets own) (sym moved)

broken_stops : (next : Place) (brackets : List Bracket) (text : List ℕ) (why : Stop) (lack : Breaks text why) → why ≢ stops.NoMemory → whole next brackets (quoted text) ≡ stop why
broken_stops next brackets text why lack real = ap (λ own. whole next brackets own) (lack.broken real) ∙ ap stop (sym (lack.why_is real))

pub text_walk : {room : ℕ} {text rest : List ℕ} (held : List ℕ) → Leads text (quote held ∷ []) rest → WalksAtom room text rest
text_walk {room} {text} {rest} held leads = let read = lead_quoted held leads in plain (λ more. walk_one (λ brackets.
    ap (λ own. operand_row more own brackets text) (lead_quote held leads) ∙ whole_goes (after more value_end) brackets text held read.0 rest read.1 read.2) room)

pub text_halts : {room : ℕ} {text : List ℕ} {why : Stop} → part_at text ≡ parts.Quote → Breaks text why → HaltsOperand room text why
text_halts {room} {text} {why} is lack = record {
  halts = λ more. record {
    comes = λ real brackets fits. comes_here (operand more) brackets text (stop why)
        (ap (λ own. operand_row more own brackets text) is ∙ broken_stops (after more value_end) brackets text why lack real);
  };
}

part_walk : {room : ℕ} {text rest : List ℕ} (part : Part) → ((more : Bool) (brackets : List Bracket) → operand_row more part brackets text ≡ to (after more value_end) brackets (behind text)) → part_at text ≡ part → rest ≡ behind text → WalksAtom room text rest
part_walk {room} {text} {rest} part known is moved = plain (λ more. walk_one (λ brackets.
    ap (λ own. operand_row more own brackets text) is ∙ known more brackets ∙ ap (λ own. to (after more value_end) brackets own) (sym moved)) room)

pub number_walk : (number : Whole) {room : ℕ} {text rest : List ℕ} → part_at text ≡ parts.Number number → rest ≡ behind text → WalksAtom room text rest
number_walk number is moved = part_walk (parts.Number number) (λ more brackets. refl) is moved

pub true_walk : {room : ℕ} {text rest : List ℕ} → part_at text ≡ parts.Named words.True → rest ≡ behind text → WalksAtom room text rest
true_walk is moved = part_walk (parts.Named words.True) (λ more brackets. refl) is moved

pub false_walk : {room : ℕ} {text rest : List ℕ} → part_at text ≡ parts.Named words.False → rest ≡ behind text → WalksAtom room text rest
false_walk is moved = part_walk (parts.Named words.False) (λ more brackets. refl) is moved

pub null_walk : {room : ℕ} {text rest : List ℕ} → part_at text ≡ parts.Named words.Null → rest ≡ behind text → WalksAtom room text rest
null_walk is moved = part_walk (parts.Named words.Null) (λ more brackets. refl) is moved

-- a name that begins no atom
pub word_refused : (word : Word) {room : ℕ} {text : List ℕ} {why : Stop} → ((more : Bool) (brackets : List Bracket) → word_row more word brackets text ≡ stop (stops.LeftOut (length text))) → part_at text ≡ parts.Named word → why ≡ why_not true (part_at text) (length text) → HaltsOperand room text why
word_refused word {room} {text} {why} known is why_is = record {
  halts = λ more. halts_here (λ brackets.
      ap (λ own. operand_row more own brackets text) is ∙ known more brackets ∙ ap (λ own. stop (why_not true own (length text))) (sym is) ∙ ap stop (sym why_is)) room;
}

pub in_refused : {room : ℕ} {text : List ℕ} {why : Stop} → part_at text ≡ parts.Named words.In → why ≡ why_not true (part_at text) (length text) → HaltsOperand room text why
in_refused is why_is = word_refused words.In (λ more brackets. refl) is why_is

pub call_refused : (which : Call) {room : ℕ} {text : List ℕ} {why : Stop} → part_at text ≡ parts.Named (words.Call which) → why ≡ why_not true (part_at text) (length text) → HaltsOperand room text why
call_refused which is why_is = word_refused (words.Call which) (λ more brackets. refl) is why_is

pub other_refused : {room : ℕ} {text : List ℕ} {why : Stop} → part_at text ≡ parts.Named words.Other → why ≡ why_not true (part_at text) (length text) → HaltsOperand room text why
other_refused is why_is = word_refused words.Other (λ more brackets. refl) is why_is

-- a part that begins none
abbrev pub begins : Part → Bool
begins parts.Bang = true
begins parts.Open = true
begins parts.Quote = true
begins (parts.Number number) = true
begins (parts.Named word) = true
begins part = false

unbegun : (more : Bool) (part : Part) (brackets : List Bracket) (text : List ℕ) → begins part ≡ false → operand_row more part brackets text ≡ stop (why_not true part (length text))
unbegun more parts.Bang brackets text other = absurd (true≢false other)
unbegun more parts.Open brackets text other = absurd (true≢false other)
unbegun more parts.Quote brackets text other = absurd (true≢false other)
unbegun more (parts.Number number) brackets text other = absurd (true≢false other)
unbegun more (parts.Named word) brackets text other = absurd (true≢false other)
unbegun more part brackets text other = refl

pub atom_refused : {room : ℕ} {text : List ℕ} {why : Stop} → begins (part_at text) ≡ false → why ≡ why_not true (part_at text) (length text) → HaltsOperand room text why
atom_refused {room} {text} {why} other why_is = record { halts = λ more. halts_here (λ brackets. unbegun more (part_at text) brackets text other ∙ ap stop (sym why_is)) room }

-- `int`, and a path
word_walk : (word : Word) (next : Bool → Place) {text more_text : List ℕ} → ((more : Bool) (brackets : List Bracket) → word_row more word brackets text ≡ to (next more) brackets (behind text)) → part_at text ≡ parts.Named word → more_text ≡ behind text → (room : ℕ) (more : Bool) → Walks room (operand more) text (next more) more_text
word_walk word next {text} {more_text} known is moved room more = walk_one (λ brackets.
    ap (λ own. operand_row more own brackets text) is ∙ known more brackets ∙ ap (λ own. to (next more) brackets own) (sym moved)) room

int_begins : {text next : List ℕ} → part_at text ≡ parts.Named words.Int → next ≡ behind text → (room : ℕ) (more : Bool) → Walks room (operand more) text (open_round more) next
int_begins is moved room more = word_walk words.Int (λ own. open_round own) (λ own brackets. refl) is moved room more

pub int_walk : {room : ℕ} {text next rest : List ℕ} → part_at text ≡ parts.Named words.Int → next ≡ behind text → WalksRound room next rest → WalksAtom room text rest
int_walk {room} is moved second = plain (λ more. walk_on (int_begins is moved room more) (second.walks more))

pub int_halts : {room : ℕ} {text next : List ℕ} {why : Stop} → part_at text ≡ parts.Named words.Int → next ≡ behind text → HaltsRound room next why → HaltsOperand room text why
int_halts {room} is moved second = record { halts = λ more. walk_halts (int_begins is moved room more) (second.halts more) }

pub member_begins : {text next : List ℕ} → part_at text ≡ parts.Named words.Event → next ≡ behind text → (room : ℕ) (more : Bool) → Walks room (operand more) text (after more path_end) next
member_begins is moved room more = word_walk words.Event (λ own. after own path_end) (λ own brackets. refl) is moved room more

pub member_walk : {room : ℕ} {text next rest : List ℕ} → part_at text ≡ parts.Named words.Event → next ≡ behind text → WalksSteps false next rest → goes_on false rest ≡ false → WalksAtom room text rest
member_walk {room} is moved second over = record { is_path = true; walks = λ more. walk_on (member_begins is moved room more) (second.walks room more); over = λ yes. over }

pub member_halts : {room : ℕ} {text next : List ℕ} {why : Stop} → part_at text ≡ parts.Named words.Event → next ≡ behind text → HaltsSteps false next why → HaltsOperand room text why
member_halts {room} is moved second = record { halts = λ more. walk_halts (member_begins is moved room more) (second.halts room more) }

-- `has`
has_begins : {text next : List ℕ} → part_at text ≡ parts.Named words.Has → next ≡ behind text → (room : ℕ) (more : Bool) → Walks room (operand more) text (open_has more) next
has_begins is moved room more = word_walk words.Has (λ own. open_has own) (λ own brackets. refl) is moved room more

has_opens : {room : ℕ} {text next inside : List ℕ} → part_at text ≡ parts.Named words.Has → next ≡ behind text → Leads next (mark parts.Open ∷ []) inside → 1 ≤ room → (more : Bool) (brackets : List Bracket) → length brackets + room ≡ 32 → Goes (state (operand more) brackets) text (state event (in_round more ∷ brackets)) inside
has_opens {room} {text} {next} {inside} is moved first some more brackets fits = then_goes ((has_begins is moved room more).goes brackets fits)
    (one_move (open_has more) event brackets (in_round more ∷ brackets) next inside (round_goes more event first some brackets fits))

has_event : {inside next : List ℕ} (brackets : List Bracket) → Leads inside (mark (parts.Named words.Event) ∷ []) next → Goes (state event brackets) inside (state after_asked brackets) next
has_event {inside} {next} brackets first = one_move event after_asked brackets brackets inside next
    (ap (λ own. event_row own brackets inside) (lead_part (parts.Named words.Event) first) ∙ ap (λ own. to after_asked brackets own) (sym (lead_rest (parts.Named words.Event) first)))

room_inside : (more : Bool) (brackets : List Bracket) (room : ℕ) → length brackets + room ≡ 32 → 1 ≤ room → length (in_round more ∷ brackets) + (room - 1) ≡ 32
room_inside more brackets room fits some = one_less brackets (in_round more) room (room - 1) fits (omega (arith, some))

has_path : {room : ℕ} {text next inside begun end : List ℕ} → part_at text ≡ parts.Named words.Has → next ≡ behind text → Leads next (mark parts.Open ∷ []) inside → 1 ≤ room → Leads inside (mark (parts.Named words.Event) ∷ []) begun → WalksSteps true begun end → (more : Bool) (brackets : List Bracket) → length brackets + room ≡ 32 → Goes (state (operand more) brackets) text (state after_asked (in_round more ∷ brackets)) end
has_path {room} is moved first some event_first steps more brackets fits = then_goes (has_opens is moved first some more brackets fits) (then_goes (has_event (in_round more ∷ brackets) event_first)
    ((steps.walks (room - 1) more).goes (in_round more ∷ brackets) (room_inside more brackets room fits some)))

pub has_walk : {room : ℕ} {text next inside begun end rest : List ℕ} → part_at text ≡ parts.Named words.Has → next ≡ behind text → Leads next (mark parts.Open ∷ []) inside → 1 ≤ room → Leads inside (mark (parts.Named words.Event) ∷ []) begun → WalksSteps true begun end → Leads end (mark parts.Close ∷ []) rest → WalksAtom room text rest
has_walk {end = end} {rest = rest} is moved first some event_first steps last = plain (λ more. record {
  goes = λ brackets fits. then_goes (has_path is moved first some event_first steps more brackets fits)
      (one_move after_asked (after more value_end) (in_round more ∷ brackets) brackets end rest
      (ap (λ own. row after_asked own (in_round more ∷ brackets) end) (lead_part parts.Close last) ∙ ap (λ own. to (after more value_end) brackets own) (sym (lead_rest parts.Close last))));
})

pub has_unopened : {room : ℕ} {text next : List ℕ} {why : Stop} → part_at text ≡ parts.Named words.Has → next ≡ behind text → NoRound room next why → HaltsOperand room text why
has_unopened {room} {text} {next} {why} is moved lack = record {
  halts = λ more. walk_halts (has_begins is moved room more)
      (record { comes = λ real brackets fits. comes_here (open_has more) brackets next (stop why) (lack.row more event brackets fits) });
}

no_event : (part : Part) (brackets : List Bracket) (text : List ℕ) → is_event part ≡ false → event_row part brackets text ≡ stop (why_not true part (length text))
no_event (parts.Named words.Event) brackets text other = absurd (true≢false other)
no_event part brackets text other = refl

pub has_eventless : {room : ℕ} {text next inside : List ℕ} {why : Stop} → part_at text ≡ parts.Named words.Has → next ≡ behind text → Leads next (mark parts.Open ∷ []) inside → 1 ≤ room → Lacks is_event true inside why → HaltsOperand room text why
has_eventless {inside = inside} {why = why} is moved first some lack = record {
  halts = λ more. record {
    comes = λ real brackets fits.
        then_comes (has_opens is moved first some more brackets fits) (comes_here event (in_round more ∷ brackets) inside (stop why) (no_event (part_at inside) (in_round more ∷ brackets) inside lack.other ∙ ap stop (sym lack.why_is)));
  };
}

pub has_halts : {room : ℕ} {text next inside begun : List ℕ} {why : Stop} → part_at text ≡ parts.Named words.Has → next ≡ behind text → Leads next (mark parts.Open ∷ []) inside → 1 ≤ room → Leads inside (mark (parts.Named words.Event) ∷ []) begun → HaltsSteps true begun why → HaltsOperand room text why
has_halts {room} is moved first some event_first steps = record {
  halts = λ more. record {
    comes = λ real brackets fits.
        then_comes (has_opens is moved first some more brackets fits) (then_comes (has_event (in_round more ∷ brackets) event_first)
        ((steps.halts (room - 1) more).comes real (in_round more ∷ brackets) (room_inside more brackets room fits some)));
  };
}

unclosed_has : (more : Bool) (brackets : List Bracket) (part : Part) (text : List ℕ) → path_next part false ≡ false → is_close_round part ≡ false → row after_asked part (in_round more ∷ brackets) text ≡ stop (why_not false part (length text))
unclosed_has more brackets parts.Dot text over other = absurd (true≢false over)
unclosed_has more brackets parts.OpenList text over other = absurd (true≢false over)
unclosed_has more brackets parts.Close text over other = absurd (true≢false other)
unclosed_has more brackets part text over other = refl

pub has_unclosed : {room : ℕ} {text next inside begun end : List ℕ} {why : Stop} → part_at text ≡ parts.Named words.Has → next ≡ behind text → Leads next (mark parts.Open ∷ []) inside → 1 ≤ room → Leads inside (mark (parts.Named words.Event) ∷ []) begun → WalksSteps true begun end → goes_on true end ≡ false → Lacks is_close_round false end why → HaltsOperand room text why
has_unclosed {end = end} {why = why} is moved first some event_first steps over lack = record {
  halts = λ more. record {
    comes = λ real brackets fits.
        then_comes (has_path is moved first some event_first steps more brackets fits)
        (comes_here after_asked (in_round more ∷ brackets) end (stop why) (unclosed_has more brackets (part_at end) end over lack.other ∙ ap stop (sym lack.why_is)));
  };
}

-- steps of a path
pub steps_none : (in_has : Bool) (text : List ℕ) → WalksSteps in_has text text
steps_none in_has text = record { walks = λ room more. record { goes = λ brackets fits. stays } }

pub steps_again : {in_has : Bool} {text between rest : List ℕ} → WalksSteps in_has text between → WalksSteps in_has between rest → WalksSteps in_has text rest
steps_again first second = record { walks = λ room more. walk_on (first.walks room more) (second.walks room more) }

pub steps_halts : {in_has : Bool} {text between : List ℕ} {why : Stop} → WalksSteps in_has text between → HaltsSteps in_has between why → HaltsSteps in_has text why
steps_halts first second = record { halts = λ room more. walk_halts (first.walks room more) (second.halts room more) }

pub steps_memory : {in_has : Bool} {text : List ℕ} {why : Stop} → why ≡ stops.NoMemory → HaltsSteps in_has text why
steps_memory is = record { halts = λ room more. no_memory is }

home_dot : (in_has more : Bool) (brackets : List Bracket) (text : List ℕ) → row (after_path (home_of in_has more)) parts.Dot brackets text ≡ to (dot_path (home_of in_has more)) brackets (behind text)
home_dot true more brackets text = refl
home_dot false more brackets text = refl

home_square : (in_has more : Bool) (brackets : List Bracket) (text : List ℕ) → row (after_path (home_of in_has more)) parts.OpenList brackets text ≡ to (bracketed (home_of in_has more)) brackets (behind text)
home_square true more brackets text = refl
home_square false more brackets text = refl

pub dot_begins : (in_has : Bool) {text next : List ℕ} → part_at text ≡ parts.Dot → next ≡ behind text → (room : ℕ) (more : Bool) → Walks room (after_path (home_of in_has more)) text (dot_path (home_of in_has more)) next
dot_begins in_has {text} {next} is moved room more = walk_one (λ brackets.
    ap (λ own. row (after_path (home_of in_has more)) own brackets text) is ∙ home_dot in_has more brackets text ∙ ap (λ own. to (dot_path (home_of in_has more)) brackets own) (sym moved)) room

square_begins : (in_has : Bool) {text next : List ℕ} → part_at text ≡ parts.OpenList → next ≡ behind text → (room : ℕ) (more : Bool) → Walks room (after_path (home_of in_has more)) text (bracketed (home_of in_has more)) next
square_begins in_has {text} {next} is moved room more = walk_one (λ brackets.
    ap (λ own. row (after_path (home_of in_has more)) own brackets text) is ∙ home_square in_has more brackets text ∙ ap (λ own. to (bracketed (home_of in_has more)) brackets own) (sym moved)) room

-- behind the dot of a path that goes on there is no call
no_call_there : (in_has : Bool) (text next : List ℕ) → goes_on in_has text ≡ true → part_at text ≡ parts.Dot → next ≡ behind text → begins_call in_has next ≡ false
no_call_there in_has text next on_it is moved = ap (λ own. begins_call in_has own) moved ∙ not_true (begins_call in_has (behind text)) (sym (ap (λ own. path_next own (begins_call in_has (behind text))) is) ∙ on_it)

pub dotted_walk : (in_has : Bool) {text next rest : List ℕ} → goes_on in_has text ≡ true → part_at text ≡ parts.Dot → next ≡ behind text → (begins_call in_has next ≡ false → WalksHome dot_path in_has next rest) → WalksSteps in_has text rest
dotted_walk in_has {text} {next} on_it is moved second = let named = second (no_call_there in_has text next on_it is moved) in record { walks = λ room more. walk_on (dot_begins in_has is moved room more) (named.walks room more) }

pub dotted_halts : (in_has : Bool) {text next : List ℕ} {why : Stop} → goes_on in_has text ≡ true → part_at text ≡ parts.Dot → next ≡ behind text → (begins_call in_has next ≡ false → HaltsHome dot_path in_has next why) → HaltsSteps in_has text why
dotted_halts in_has {text} {next} on_it is moved second = let named = second (no_call_there in_has text next on_it is moved) in record { halts = λ room more. walk_halts (dot_begins in_has is moved room more) (named.halts room more) }

pub bracketed_walk : (in_has : Bool) {text next rest : List ℕ} → part_at text ≡ parts.OpenList → next ≡ behind text → WalksHome bracketed in_has next rest → WalksSteps in_has text rest
bracketed_walk in_has is moved second = record { walks = λ room more. walk_on (square_begins in_has is moved room more) (second.walks room more) }

pub bracketed_halts : (in_has : Bool) {text next : List ℕ} {why : Stop} → part_at text ≡ parts.OpenList → next ≡ behind text → HaltsHome bracketed in_has next why → HaltsSteps in_has text why
bracketed_halts in_has is moved second = record { halts = λ room more. walk_halts (square_begins in_has is moved room more) (second.halts room more) }

no_step : (part : Part) (calls : Bool) → (part ≡ parts.Dot → ⊥) → (part ≡ parts.OpenList → ⊥) → path_next part calls ≡ false
no_step parts.Dot calls no_dot no_square = absurd (no_dot refl)
no_step parts.OpenList calls no_dot no_square = absurd (no_square refl)
no_step part calls no_dot no_square = refl

pub stepless : (in_has : Bool) {text : List ℕ} {why : Stop} → goes_on in_has text ≡ true → (part_at text ≡ parts.Dot → ⊥) → (part_at text ≡ parts.OpenList → ⊥) → HaltsSteps in_has text why
stepless in_has {text} on_it no_dot no_square = absurd (true≢false (sym on_it ∙ no_step (part_at text) (begins_call in_has (behind text)) no_dot no_square))

-- a name behind a dot
name_on : (in_has more : Bool) (word : Word) (opens : Bool) (brackets : List Bracket) (text : List ℕ) → (not in_has && (is_call word && opens)) ≡ false → (not (is_call word) && opens) ≡ false → name_row (home_of in_has more) word opens brackets text ≡ to (after_path (home_of in_has more)) brackets (behind text)
name_on true more word false brackets text no_call listed = refl
name_on false more word false brackets text no_call listed = refl
name_on true more (words.Call which) true brackets text no_call listed = refl
name_on false more (words.Call which) true brackets text no_call listed = absurd (true≢false no_call)
name_on in_has more word true brackets text no_call listed = absurd (true≢false listed)

pub name_walk : (in_has : Bool) (word : Word) {text rest : List ℕ} → part_at text ≡ parts.Named word → (not (is_call word) && is_open (part_at (behind text))) ≡ false → begins_call in_has text ≡ false → rest ≡ behind text → WalksHome dot_path in_has text rest
name_walk in_has word {text} {rest} is listed no_call moved = record {
  walks = λ room more. walk_one (λ brackets.
      ap (λ own. dot_row (home_of in_has more) own brackets text) is
      ∙ name_on in_has more word (is_open (part_at (behind text))) brackets text (ap (λ own. not in_has && (is_named_call own && is_open (part_at (behind text)))) (sym is) ∙ no_call) listed
      ∙ ap (λ own. to (after_path (home_of in_has more)) brackets own) (sym moved)) room;
}

name_off : (in_has more : Bool) (word : Word) (opens : Bool) (brackets : List Bracket) (text : List ℕ) → (not (is_call word) && opens) ≡ true → name_row (home_of in_has more) word opens brackets text ≡ stop (stops.LeftOut (length text))
name_off in_has more (words.Call which) opens brackets text unlisted = absurd (true≢false (sym unlisted))
name_off in_has more word false brackets text unlisted = absurd (true≢false (sym unlisted))
name_off true more word true brackets text unlisted = refl
name_off false more word true brackets text unlisted = refl

pub name_left_out : (in_has : Bool) (word : Word) {text : List ℕ} {why : Stop} → part_at text ≡ parts.Named word → (not (is_call word) && is_open (part_at (behind text))) ≡ true → why ≡ why_not true (part_at text) (length text) → HaltsHome dot_path in_has text why
name_left_out in_has word {text} {why} is unlisted why_is = record {
  halts = λ room more. halts_here (λ brackets.
      ap (λ own. dot_row (home_of in_has more) own brackets text) is
      ∙ name_off in_has more word (is_open (part_at (behind text))) brackets text unlisted
      ∙ ap (λ own. stop (why_not true own (length text))) (sym is) ∙ ap stop (sym why_is)) room;
}

abbrev pub is_named : Part → Bool
is_named (parts.Named word) = true
is_named part = false

no_name : (home : Home) (part : Part) (brackets : List Bracket) (text : List ℕ) → is_named part ≡ false → dot_row home part brackets text ≡ stop (why_not false part (length text))
no_name home (parts.Named word) brackets text other = absurd (true≢false other)
no_name home part brackets text other = refl

pub nameless : (in_has : Bool) {text : List ℕ} {why : Stop} → is_named (part_at text) ≡ false → why ≡ why_not false (part_at text) (length text) → HaltsHome dot_path in_has text why
nameless in_has {text} {why} other why_is = record { halts = λ room more. halts_here (λ brackets. no_name (home_of in_has more) (part_at text) brackets text other ∙ ap stop (sym why_is)) room }

-- a text in the brackets of a path
quote_passes : (home : Home) {text next : List ℕ} (held : List ℕ) → Leads text (quote held ∷ []) next → (room : ℕ) → Walks room (bracketed home) text (square home) next
quote_passes home {text} {next} held leads room = let read = lead_quoted held leads in walk_one (λ brackets.
    ap (λ own. quote_row home own brackets text) (lead_quote held leads) ∙ whole_goes (square home) brackets text held read.0 next read.1 read.2) room

pub held_walk : (in_has : Bool) {text next rest : List ℕ} (held : List ℕ) → Leads text (quote held ∷ []) next → Leads next (mark parts.CloseList ∷ []) rest → WalksHome bracketed in_has text rest
held_walk in_has {text} {next} {rest} held first last = record {
  walks = λ room more. walk_on (quote_passes (home_of in_has more) held first room) (walk_one (λ brackets.
      ap (λ own. square_row (home_of in_has more) own brackets next) (lead_part parts.CloseList last) ∙ ap (λ own. to (after_path (home_of in_has more)) brackets own) (sym (lead_rest parts.CloseList last))) room);
}

pub held_halts : (in_has : Bool) {text : List ℕ} {why : Stop} → part_at text ≡ parts.Quote → Breaks text why → HaltsHome bracketed in_has text why
held_halts in_has {text} {why} is lack = record {
  halts = λ room more. record {
    comes = λ real brackets fits. comes_here (bracketed (home_of in_has more)) brackets text (stop why)
        (ap (λ own. quote_row (home_of in_has more) own brackets text) is ∙ broken_stops (square (home_of in_has more)) brackets text why lack real);
  };
}

no_bracket : (home : Home) (part : Part) (brackets : List Bracket) (text : List ℕ) → is_close part ≡ false → square_row home part brackets text ≡ stop (why_not false part (length text))
no_bracket home parts.CloseList brackets text other = absurd (true≢false other)
no_bracket home part brackets text other = refl

pub held_unclosed : (in_has : Bool) {text next : List ℕ} {why : Stop} (held : List ℕ) → Leads text (quote held ∷ []) next → Lacks is_close false next why → HaltsHome bracketed in_has text why
held_unclosed in_has {text} {next} {why} held first lack = record {
  halts = λ room more. walk_halts (quote_passes (home_of in_has more) held first room)
      (halts_here (λ brackets. no_bracket (home_of in_has more) (part_at next) brackets next lack.other ∙ ap stop (sym lack.why_is)) room);
}

no_quote : (home : Home) (part : Part) (brackets : List Bracket) (text : List ℕ) → (part ≡ parts.Quote → ⊥) → quote_row home part brackets text ≡ stop (why_not false part (length text))
no_quote home parts.Quote brackets text other = absurd (other refl)
no_quote home part brackets text other = refl

pub quoteless : (in_has : Bool) {text : List ℕ} {why : Stop} → (part_at text ≡ parts.Quote → ⊥) → why ≡ why_not false (part_at text) (length text) → HaltsHome bracketed in_has text why
quoteless in_has {text} {why} other why_is = record { halts = λ room more. halts_here (λ brackets. no_quote (home_of in_has more) (part_at text) brackets text other ∙ ap stop (sym why_is)) room }

-- the whole
memory_stays : (all : ℕ) (stopped : Stop) (why : RuleErr) → why ≡ error_at all stopped → why ≢ errors.NoMemory → stopped ≢ stops.NoMemory
memory_stays all stopped why is real none_left = real (is ∙ ap (λ own. error_at all own) none_left)

pub refused_inside : (text begun : List ℕ) (stopped : Stop) (why : RuleErr) → begun ≡ after_blanks text → Halts 32 (operand true) begun stopped → why ≡ error_at (length text) stopped → why ≢ errors.NoMemory → IsRefused text why
refused_inside text begun stopped why begins halts is real = record {
  stopped = stopped;
  comes = subst (λ own. Comes start own (stop stopped)) begins (halts.comes (memory_stays (length text) stopped why is real) [] refl);
  at = is;
}

unended : (part : Part) (text : List ℕ) → is_end part ≡ false → end_row [] part text ≡ stop (why_not false part (length text))
unended parts.End text other = absurd (true≢false other)
unended part text other = refl

pub refused_behind : (text begun rest : List ℕ) (stopped : Stop) (why : RuleErr) → begun ≡ after_blanks text → Went IsOrOver 32 begun rest → Lacks is_end false rest stopped → why ≡ error_at (length text) stopped → IsRefused text why
refused_behind text begun rest stopped why begins went lack is = record {
  stopped = stopped;
  comes = subst (λ own. Comes start own (stop stopped)) begins (then_comes (went.walks.goes [] refl)
      (comes_here (after went.more went.tail) [] rest (stop stopped) (or_row went.more went.tail (part_at rest) [] rest went.over_is ∙ unended (part_at rest) rest lack.other ∙ ap stop (sym lack.why_is))));
  at = is;
}

pub group_ok : {T : Type 0} (result : Result T Stop) (room : ℕ) (text rest : List ℕ) → part_at text ≡ parts.Open → OnOk result (WalksRound room text rest) → OnOk result (WalksAtom room text rest)
group_ok (Ok x) room text rest is first = group_walk is first
group_ok (Err why) room text rest is first = tt

pub group_err : {T : Type 0} (result : Result T Stop) (room : ℕ) (text : List ℕ) → part_at text ≡ parts.Open → IfErr result (HaltsRound room text) → IfErr result (HaltsOperand room text)
group_err (Ok x) room text is first = tt
group_err (Err why) room text is first = group_halts is first

pub dotted_ok : {T : Type 0} (result : Result T Stop) (text next rest : List ℕ) → part_at text ≡ parts.Dot → next ≡ behind text → IfOk result (λ name. (in_has : Bool) → begins_call in_has next ≡ false → WalksHome dot_path in_has next rest) → IfOk result (λ name. (in_has : Bool) → goes_on in_has text ≡ true → WalksSteps in_has text rest)
dotted_ok (Ok x) text next rest is moved second = λ in_has on_it. dotted_walk in_has on_it is moved (second in_has)
dotted_ok (Err why) text next rest is moved second = tt

pub dotted_err : {T : Type 0} (result : Result T Stop) (text next : List ℕ) → part_at text ≡ parts.Dot → next ≡ behind text → IfErr result (λ why. (in_has : Bool) → begins_call in_has next ≡ false → HaltsHome dot_path in_has next why) → IfErr result (λ why. (in_has : Bool) → goes_on in_has text ≡ true → HaltsSteps in_has text why)
dotted_err (Ok x) text next is moved second = tt
dotted_err (Err why) text next is moved second = λ in_has on_it. dotted_halts in_has on_it is moved (second in_has)

pub bracketed_ok : {T : Type 0} (result : Result T Stop) (text next rest : List ℕ) → part_at text ≡ parts.OpenList → next ≡ behind text → IfOk result (λ held. (in_has : Bool) → WalksHome bracketed in_has next rest) → IfOk result (λ name. (in_has : Bool) → goes_on in_has text ≡ true → WalksSteps in_has text rest)
bracketed_ok (Ok x) text next rest is moved second = λ in_has on_it. bracketed_walk in_has is moved (second in_has)
bracketed_ok (Err why) text next rest is moved second = tt

pub bracketed_err : {T : Type 0} (result : Result T Stop) (text next : List ℕ) → part_at text ≡ parts.OpenList → next ≡ behind text → IfErr result (λ why. (in_has : Bool) → HaltsHome bracketed in_has next why) → IfErr result (λ why. (in_has : Bool) → goes_on in_has text ≡ true → HaltsSteps in_has text why)
bracketed_err (Ok x) text next is moved second = tt
bracketed_err (Err why) text next is moved second = λ in_has on_it. bracketed_halts in_has is moved (second in_has)

-- what a part is not
pub not_named : (part : Part) → ((word : Word) → part ≡ parts.Named word → ⊥) → is_named part ≡ false
not_named (parts.Named word) other = absurd (other word refl)
not_named part other = refl

pub not_called : (part : Part) → ((word : Word) → part ≡ parts.Named word → ⊥) → is_named_call part ≡ false
not_called (parts.Named word) other = absurd (other word refl)
not_called part other = refl

pub not_call : (word : Word) → ((which : Call) → word ≡ words.Call which → ⊥) → is_call word ≡ false
not_call (words.Call which) other = absurd (other which refl)
not_call word other = refl

pub not_begun : (part : Part) → is_bang part ≡ false → (part ≡ parts.Open → ⊥) → (part ≡ parts.Quote → ⊥) → ((number : Whole) → part ≡ parts.Number number → ⊥) → ((word : Word) → part ≡ parts.Named word → ⊥) → begins part ≡ false
not_begun parts.Bang no_bang no_open no_quote no_number no_named = absurd (true≢false no_bang)
not_begun parts.Open no_bang no_open no_quote no_number no_named = absurd (no_open refl)
not_begun parts.Quote no_bang no_open no_quote no_number no_named = absurd (no_quote refl)
not_begun (parts.Number number) no_bang no_open no_quote no_number no_named = absurd (no_number number refl)
not_begun (parts.Named word) no_bang no_open no_quote no_number no_named = absurd (no_named word refl)
not_begun part no_bang no_open no_quote no_number no_named = refl
