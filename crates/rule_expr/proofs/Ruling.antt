-- The table takes each rule to its end, and each text to one end alone.
use Rattle.std.proofs.Common.{◌≡◌, ◌∙◌, ap, sym, subst, ℕ, ◌+◌, ◌-◌, ◌≤◌, List, [], ◌∷◌, ◌++◌, length, refl, arith, Bool, true, false}
use Rattle.std.proofs.lemmas.Bool.{true≢false}
use Rattle.rule_value.specs.declared.part.Part.{Part}
use Rattle.rule_value.specs.declared.part.Part.TheVariants as parts
use Rattle.rule_value.specs.declared.part.Word.{Word}
use Rattle.rule_value.specs.declared.part.Word.TheVariants as words
use Rattle.rule_value.specs.declared.part.Call.{Call}
use Rattle.rule_value.specs.declared.part.Relation.{Relation}
use Rattle.rule_expr.specs.declared.stop.Stop.{Stop}
use Rattle.rule_expr.specs.declared.error.RuleErr.{RuleErr}
use Rattle.rule_expr.specs.Parts.{part_at, behind, after_blanks}
use Rattle.rule_value.specs.Trees
use Rattle.rule_value.specs.Trees.{Level, Tree, Step, Token, mark, quote, spelled, levels, step_tokens, steps_tokens}
use Rattle.rule_expr.specs.Rules
use Rattle.rule_expr.specs.Rules.{Leads, Stands, IsRule}
use Rattle.rule_expr.specs.Refusals.{error_at}
use Rattle.rule_expr.specs.Places.{State, Place, Tail, Bracket, Move, path_end, value_end, list_end, operand, after, open_round, open_list, in_round, in_list, onward, ended, stop, state, to, row, step, after_path, is_open, is_close, name_row, dot_row, after_row, alone}
use Rattle.rule_expr.specs.Walks.{Goes, Comes, IsRefused, stays, moves, start}
use Rattle.rule_expr.specs.Walking.{Walks, WalksSteps, WalksAtom, WalksRound, tail_of, home_of}
use Rattle.rule_expr.proofs.Walking.{step_is, one_move, then_goes, then_comes, comes_here, walk_one, walk_on, unled, one_less, list_goes, list_empty, round_opens, lead_part, lead_rest}
use Rattle.rule_expr.proofs.WalkingOperands.{group_walk, text_walk, number_walk, true_walk, false_walk, null_walk, int_walk, member_begins, has_walk, steps_none, steps_again, dot_begins, bracketed_walk, held_walk}

-- one end

abbrev is_last : Move → Bool
is_last (onward now text) = false
is_last move = true

abbrev state_of : State → Move → State
state_of other (onward now text) = now
state_of other move = other

abbrev text_of : List ℕ → Move → List ℕ
text_of other (onward now text) = text
text_of other move = other

not_last : (now next : State) (text rest : List ℕ) → step now text ≡ onward next rest → is_last (step now text) ≡ true → ⊥
not_last now next text rest is last = true≢false (sym last ∙ ap is_last is)

one_end : {now one other : State} {text rest others : List ℕ} → Goes now text one rest → is_last (step one rest) ≡ true → Goes now text other others → is_last (step other others) ≡ true → step one rest ≡ step other others
one_end stays first stays second = refl
one_end stays first (moves is more) second = absurd (not_last _ _ _ _ is first)
one_end (moves is more) first stays second = absurd (not_last _ _ _ _ is second)
one_end {other = other} {others = others} (moves {next = next} {more = text} is more) first (moves {next = again} {more = texts} same rest) second =
    let move = sym is ∙ same in
    let states : again ≡ next = sym (ap (state_of next) move) in
    let both : texts ≡ text = sym (ap (text_of text) move) in
    one_end more first (subst (λ own. Goes own text other others) states (subst (λ own. Goes again own other others) both rest)) second

pub one_move_ends : {now : State} {text : List ℕ} (one other : Move) → is_last one ≡ true → is_last other ≡ true → Comes now text one → Comes now text other → one ≡ other
one_move_ends one other first second here there = sym here.ends ∙ one_end here.goes (ap is_last here.ends ∙ first) there.goes (ap is_last there.ends ∙ second) ∙ there.ends

abbrev stopped_of : Stop → Move → Stop
stopped_of other (stop why) = why
stopped_of other move = other

pub refused_once : (text : List ℕ) (one other : RuleErr) → IsRefused text one → IsRefused text other → one ≡ other
refused_once text one other first second =
    let same = one_move_ends (stop first.stopped) (stop second.stopped) refl refl first.comes second.comes in
    first.at ∙ ap (λ own. error_at (length text) own) (ap (stopped_of first.stopped) same) ∙ sym second.at

-- where trees lead

record Led (room : ℕ) (text rest : List ℕ) : Type 0 where
  more : Bool
  tail : Tail
  walks : Walks room (operand true) text (after more tail) rest

record LedItems (room : ℕ) (text rest : List ℕ) : Type 0 where
  more : Bool
  tail : Tail
  goes : (outer : List Bracket) → length (in_list ∷ outer) + room ≡ 32 → Goes (state (operand true) (in_list ∷ outer)) text (state (after more tail) (in_list ∷ outer)) rest

record LedOperand (room : ℕ) (text rest : List ℕ) : Type 0 where
  is_path : Bool
  walks : (more : Bool) → Walks room (operand more) text (after more (tail_of is_path)) rest

-- no bracket of a call follows
abbrev Unopened : List ℕ → Type 0
Unopened rest = is_open (part_at rest) ≡ false

abbrev IsLed : (level : Level) → Tree level → Type 0
IsLed Trees.list tree = (room : ℕ) (text rest : List ℕ) → levels tree ≤ room → Leads text (spelled tree) rest → Walks room open_list text (after false list_end) rest
IsLed Trees.items tree = (room : ℕ) (text rest : List ℕ) → levels tree ≤ room → Leads text (spelled tree) rest → Unopened rest → LedItems room text rest
IsLed Trees.unary tree = (room : ℕ) (text rest : List ℕ) → levels tree ≤ room → Leads text (spelled tree) rest → Unopened rest → LedOperand room text rest
IsLed Trees.post tree = (room : ℕ) (text rest : List ℕ) → levels tree ≤ room → Leads text (spelled tree) rest → Unopened rest → LedOperand room text rest
IsLed Trees.atom tree = (room : ℕ) (text rest : List ℕ) → levels tree ≤ room → Leads text (spelled tree) rest → Unopened rest → LedOperand room text rest
IsLed Trees.round tree = (room : ℕ) (text rest : List ℕ) → levels tree ≤ room → Leads text (spelled tree) rest → WalksRound room text rest
IsLed Trees.path tree = Unit {0}
IsLed level tree = (room : ℕ) (text rest : List ℕ) → levels tree ≤ room → Leads text (spelled tree) rest → Unopened rest → Led room text rest

-- parts, and others behind them
cut : (first later : List Token) (text rest : List ℕ) → Leads text (first ++ later) rest → (between : List ℕ) × Leads text first between × Leads between later rest
cut [] later text rest leads = (text, Rules.here, leads)
cut (token ∷ first) later text rest leads = let one = unled leads in let two = cut first later one.0 rest one.2 in (two.0, Rules.on one.1 two.1, two.2)

-- joints and ends behind any operand
either_row : (more : Bool) (tail : Tail) (brackets : List Bracket) (text : List ℕ) → after_row more tail parts.Either brackets text ≡ to (operand true) brackets (behind text)
either_row true path_end brackets text = refl
either_row true value_end brackets text = refl
either_row true list_end brackets text = refl
either_row false path_end brackets text = refl
either_row false value_end brackets text = refl
either_row false list_end brackets text = refl

both_row : (more : Bool) (tail : Tail) (brackets : List Bracket) (text : List ℕ) → after_row more tail parts.Both brackets text ≡ to (operand true) brackets (behind text)
both_row true path_end brackets text = refl
both_row true value_end brackets text = refl
both_row true list_end brackets text = refl
both_row false path_end brackets text = refl
both_row false value_end brackets text = refl
both_row false list_end brackets text = refl

comma_row : (more : Bool) (tail : Tail) (brackets : List Bracket) (text : List ℕ) → after_row more tail parts.Comma (in_list ∷ brackets) text ≡ to (operand true) (in_list ∷ brackets) (behind text)
comma_row true path_end brackets text = refl
comma_row true value_end brackets text = refl
comma_row true list_end brackets text = refl
comma_row false path_end brackets text = refl
comma_row false value_end brackets text = refl
comma_row false list_end brackets text = refl

close_row : (more : Bool) (tail : Tail) (again : Bool) (brackets : List Bracket) (text : List ℕ) → after_row more tail parts.Close (in_round again ∷ brackets) text ≡ to (after again value_end) brackets (behind text)
close_row true path_end again brackets text = refl
close_row true value_end again brackets text = refl
close_row true list_end again brackets text = refl
close_row false path_end again brackets text = refl
close_row false value_end again brackets text = refl
close_row false list_end again brackets text = refl

close_list_row : (more : Bool) (tail : Tail) (brackets : List Bracket) (text : List ℕ) → after_row more tail parts.CloseList (in_list ∷ brackets) text ≡ to (after false list_end) brackets (behind text)
close_list_row true path_end brackets text = refl
close_list_row true value_end brackets text = refl
close_list_row true list_end brackets text = refl
close_list_row false path_end brackets text = refl
close_list_row false value_end brackets text = refl
close_list_row false list_end brackets text = refl

end_of_rule : (more : Bool) (tail : Tail) (text : List ℕ) → after_row more tail parts.End [] text ≡ ended
end_of_rule true path_end text = refl
end_of_rule true value_end text = refl
end_of_rule true list_end text = refl
end_of_rule false path_end text = refl
end_of_rule false value_end text = refl
end_of_rule false list_end text = refl

test_of : (is_path : Bool) (relation : Relation) (brackets : List Bracket) (text : List ℕ) → after_row true (tail_of is_path) (parts.Test relation) brackets text ≡ to (operand false) brackets (behind text)
test_of true relation brackets text = refl
test_of false relation brackets text = refl

in_of : (is_path : Bool) (brackets : List Bracket) (text : List ℕ) → after_row true (tail_of is_path) (parts.Named words.In) brackets text ≡ to open_list brackets (behind text)
in_of true brackets text = refl
in_of false brackets text = refl

-- one move on a part behind an operand
move_on : {room : ℕ} {from next : Place} {text rest : List ℕ} (part : Part) → ((brackets : List Bracket) → row from part brackets text ≡ to next brackets (behind text)) → part_at text ≡ part → rest ≡ behind text → Walks room from text next rest
move_on {room} {from} {next} {text} {rest} part known is moved = walk_one (λ brackets. ap (λ own. row from own brackets text) is ∙ known brackets ∙ ap (λ own. to next brackets own) (sym moved)) room

led_either : {room : ℕ} {text end next rest : List ℕ} → Led room text end → part_at end ≡ parts.Either → next ≡ behind end → Led room next rest → Led room text rest
led_either {end = end} first is moved second = record { more = second.more; tail = second.tail; walks = walk_on first.walks (walk_on (move_on parts.Either (λ brackets. either_row first.more first.tail brackets end) is moved) second.walks) }

led_both : {room : ℕ} {text end next rest : List ℕ} → Led room text end → part_at end ≡ parts.Both → next ≡ behind end → Led room next rest → Led room text rest
led_both {end = end} first is moved second = record { more = second.more; tail = second.tail; walks = walk_on first.walks (walk_on (move_on parts.Both (λ brackets. both_row first.more first.tail brackets end) is moved) second.walks) }

led_alone : {room : ℕ} {text rest : List ℕ} → LedOperand room text rest → Led room text rest
led_alone first = record { more = true; tail = tail_of first.is_path; walks = first.walks true }

led_test : (relation : Relation) {room : ℕ} {text end next rest : List ℕ} → LedOperand room text end → part_at end ≡ parts.Test relation → next ≡ behind end → LedOperand room next rest → Led room text rest
led_test relation {end = end} first is moved second = record { more = false; tail = tail_of second.is_path; walks = walk_on (first.walks true) (walk_on (move_on (parts.Test relation) (λ brackets. test_of first.is_path relation brackets end) is moved) (second.walks false)) }

led_choice : {room : ℕ} {text end next rest : List ℕ} → LedOperand room text end → part_at end ≡ parts.Named words.In → next ≡ behind end → Walks room open_list next (after false list_end) rest → Led room text rest
led_choice {end = end} first is moved second = record { more = false; tail = list_end; walks = walk_on (first.walks true) (walk_on (move_on (parts.Named words.In) (λ brackets. in_of first.is_path brackets end) is moved) second) }

led_item : {room : ℕ} {text rest : List ℕ} → Led room text rest → LedItems room text rest
led_item first = record { more = first.more; tail = first.tail; goes = λ outer fits. first.walks.goes (in_list ∷ outer) fits }

led_items : {room : ℕ} {text end next rest : List ℕ} → LedItems room text end → part_at end ≡ parts.Comma → next ≡ behind end → Led room next rest → LedItems room text rest
led_items {end = end} {next = next} first is moved second = record {
  more = second.more;
  tail = second.tail;
  goes = λ outer fits. then_goes (first.goes outer fits) (then_goes
      (one_move (after first.more first.tail) (operand true) (in_list ∷ outer) (in_list ∷ outer) end next (ap (λ own. after_row first.more first.tail own (in_list ∷ outer) end) is ∙ comma_row first.more first.tail outer end ∙ ap (λ own. to (operand true) (in_list ∷ outer) own) (sym moved)))
      (second.walks.goes (in_list ∷ outer) fits));
}

-- what begins with an operand does not begin with the bracket that ends a list
abbrev is_operand : Place → Bool
is_operand (operand more) = true
is_operand place = false

no_close : (part : Part) (brackets : List Bracket) (text : List ℕ) (move : Move) → row (operand true) part brackets text ≡ move → is_last move ≡ false → is_close part ≡ false
no_close parts.CloseList brackets text move is on_it = absurd (true≢false (ap is_last is ∙ on_it))
no_close part brackets text move is on_it = refl

begins_item : (now later : State) (brackets : List Bracket) (text rest : List ℕ) → now ≡ state (operand true) brackets → is_operand later.at ≡ false → Goes now text later rest → is_close (part_at text) ≡ false
begins_item now later brackets text rest begins ends stays = absurd (true≢false (sym (ap (λ own. is_operand own.at) begins) ∙ ends))
begins_item now later brackets text rest begins ends (moves {next = next} {more = more} is last) =
    no_close (part_at text) brackets text (onward next more) (sym (step_is (operand true) brackets text) ∙ ap (λ own. step own text) (sym begins) ∙ is) refl

led_list : {room inner : ℕ} {text next end rest : List ℕ} → Leads text (mark parts.OpenList ∷ []) next → 1 ≤ room → inner + 1 ≡ room → LedItems inner next end → Leads end (mark parts.CloseList ∷ []) rest → Walks room open_list text (after false list_end) rest
led_list {room} {inner} {text} {next} {end} {rest} first some less items last = record {
  goes = λ brackets fits.
      (let inside = items.goes brackets (one_less brackets in_list room inner fits less) in
      let other : is_close (part_at next) ≡ false = begins_item (state (operand true) (in_list ∷ brackets)) (state (after items.more items.tail) (in_list ∷ brackets)) (in_list ∷ brackets) next end refl refl inside in
      then_goes (list_goes first some (λ bad. true≢false (sym (ap is_close bad) ∙ other)) brackets fits) (then_goes inside
      (one_move (after items.more items.tail) (after false list_end) (in_list ∷ brackets) brackets end rest
      (ap (λ own. after_row items.more items.tail own (in_list ∷ brackets) end) (lead_part parts.CloseList last) ∙ close_list_row items.more items.tail brackets end ∙ ap (λ own. to (after false list_end) brackets own) (sym (lead_rest parts.CloseList last))))));
}

led_round : {room inner : ℕ} {text next end rest : List ℕ} → Leads text (mark parts.Open ∷ []) next → 1 ≤ room → inner + 1 ≡ room → Led inner next end → Leads end (mark parts.Close ∷ []) rest → WalksRound room text rest
led_round {room} {inner} {text} {next} {end} {rest} first some less inside last = record {
  walks = λ more. record {
    goes = λ brackets fits.
        then_goes (round_opens more first some brackets fits) (then_goes (inside.walks.goes (in_round more ∷ brackets) (one_less brackets (in_round more) room inner fits less))
        (one_move (after inside.more inside.tail) (after more value_end) (in_round more ∷ brackets) brackets end rest
        (ap (λ own. after_row inside.more inside.tail own (in_round more ∷ brackets) end) (lead_part parts.Close last) ∙ close_row inside.more inside.tail more brackets end ∙ ap (λ own. to (after more value_end) brackets own) (sym (lead_rest parts.Close last)))));
  };
}

led_bang : {room : ℕ} {text next rest : List ℕ} → part_at text ≡ parts.Bang → next ≡ behind text → LedOperand room next rest → LedOperand room text rest
led_bang is moved second = record { is_path = second.is_path; walks = λ more. walk_on (move_on parts.Bang (λ brackets. refl) is moved) (second.walks more) }

led_of : {room : ℕ} {text rest : List ℕ} → WalksAtom room text rest → LedOperand room text rest
led_of first = record { is_path = first.is_path; walks = first.walks }

-- a call
to_call : (more is_path : Bool) (which : Call) {end named next : List ℕ} → part_at end ≡ parts.Dot → named ≡ behind end → part_at named ≡ parts.Named (words.Call which) → next ≡ behind named → is_open (part_at next) ≡ true → (room : ℕ) → Walks room (after more (tail_of is_path)) end (open_round more) next
to_call more true which {end} {named} {next} is moved named_is further opens room = walk_on
    (move_on parts.Dot (λ brackets. refl) is moved)
    (walk_one (λ brackets. ap (λ own. dot_row (alone more) own brackets named) named_is
    ∙ ap (λ own. name_row (alone more) (words.Call which) (is_open (part_at own)) brackets named) (sym further) ∙ ap (λ own. name_row (alone more) (words.Call which) own brackets named) opens
    ∙ ap (λ own. to (open_round more) brackets own) (sym further)) room)
to_call more false which {end} {named} {next} is moved named_is further opens room = walk_on
    (move_on parts.Dot (λ brackets. refl) is moved)
    (move_on (parts.Named (words.Call which)) (λ brackets. refl) named_is further)

led_called : (which : Call) {room : ℕ} {text end named next rest : List ℕ} → LedOperand room text end → part_at end ≡ parts.Dot → named ≡ behind end → part_at named ≡ parts.Named (words.Call which) → next ≡ behind named → is_open (part_at next) ≡ true → WalksRound room next rest → LedOperand room text rest
led_called which {room} first is moved named_is further opens second = record { is_path = false; walks = λ more. walk_on (first.walks more) (walk_on (to_call more first.is_path which is moved named_is further opens room) (second.walks more)) }

round_begins : (tree : Tree Trees.round) (text rest : List ℕ) → Leads text (spelled tree) rest → is_open (part_at text) ≡ true
round_begins (Trees.rounded a) text rest leads = let first = unled leads in ap is_open first.1.0

-- the steps of a path
plain_name : (in_has more : Bool) (word : Word) (brackets : List Bracket) (text : List ℕ) → name_row (home_of in_has more) word false brackets text ≡ to (after_path (home_of in_has more)) brackets (behind text)
plain_name true more word brackets text = refl
plain_name false more word brackets text = refl

behind_steps : (all : List Step) (text rest : List ℕ) → Leads text (steps_tokens all) rest → Unopened rest → Unopened text
behind_steps [] text rest leads unopened = subst Unopened (sym (unled leads)) unopened
behind_steps (Trees.dotted letters ∷ later) text rest leads unopened = let first = unled leads in ap is_open first.1.0
behind_steps (Trees.quoted held ∷ later) text rest leads unopened = let first = unled leads in ap is_open first.1.0

step_led : (in_has : Bool) (own : Step) (text rest : List ℕ) → Leads text (step_tokens own) rest → Unopened rest → WalksSteps in_has text rest
step_led in_has (Trees.dotted letters) text rest leads unopened =
    let first = unled leads in
    let second = unled first.2 in
    let last = unled second.2 in
    let moved = sym last ∙ second.1.2 in
    record {
      walks = λ room more. walk_on (dot_begins in_has first.1.0 first.1.1 room more) (walk_one (λ brackets.
          ap (λ part. dot_row (home_of in_has more) part brackets first.0) second.1.0.1
          ∙ ap (λ flag. name_row (home_of in_has more) second.1.0.0 flag brackets first.0) (ap (λ own. is_open (part_at own)) (sym moved) ∙ unopened)
          ∙ plain_name in_has more second.1.0.0 brackets first.0
          ∙ ap (λ own. to (after_path (home_of in_has more)) brackets own) (sym moved)) room);
    }
step_led in_has (Trees.quoted held) text rest leads unopened =
    let first = unled leads in
    let second = unled first.2 in
    let third = unled second.2 in
    bracketed_walk in_has first.1.0 first.1.1 (held_walk in_has held (Rules.on second.1 Rules.here) (Rules.on third.1 third.2))

steps_led : (in_has : Bool) (all : List Step) (text rest : List ℕ) → Leads text (steps_tokens all) rest → Unopened rest → WalksSteps in_has text rest
steps_led in_has [] text rest leads unopened = subst (λ own. WalksSteps in_has text own) (unled leads) (steps_none in_has text)
steps_led in_has (own ∷ later) text rest leads unopened =
    let two = cut (step_tokens own) (steps_tokens later) text rest leads in
    steps_again (step_led in_has own text two.0 two.1 (behind_steps later two.0 rest two.2 unopened)) (steps_led in_has later two.0 rest two.2 unopened)

-- each tree is led through
led : {level : Level} (tree : Tree level) → IsLed level tree
led (Trees.or_of a) = led a
led (Trees.either a b) = λ room text rest within leads unopened. (
    let two = cut (spelled a) (mark parts.Either ∷ spelled b) text rest leads in
    let joint = unled two.2 in
    led_either (led a room text two.0 (omega (arith, within)) two.1 (ap is_open joint.1.0)) joint.1.0 joint.1.1 (led b room joint.0 rest (omega (arith, within)) joint.2 unopened))
led (Trees.and_of a) = led a
led (Trees.both a b) = λ room text rest within leads unopened. (
    let two = cut (spelled a) (mark parts.Both ∷ spelled b) text rest leads in
    let joint = unled two.2 in
    led_both (led a room text two.0 (omega (arith, within)) two.1 (ap is_open joint.1.0)) joint.1.0 joint.1.1 (led b room joint.0 rest (omega (arith, within)) joint.2 unopened))
led (Trees.rel_of a) = λ room text rest within leads unopened. led_alone (led a room text rest within leads unopened)
led (Trees.test relation a b) = λ room text rest within leads unopened. (
    let two = cut (spelled a) (mark (parts.Test relation) ∷ spelled b) text rest leads in
    let joint = unled two.2 in
    led_test relation (led a room text two.0 (omega (arith, within)) two.1 (ap is_open joint.1.0)) joint.1.0 joint.1.1 (led b room joint.0 rest (omega (arith, within)) joint.2 unopened))
led (Trees.choice a b) = λ room text rest within leads unopened. (
    let two = cut (spelled a) (Trees.word words.In ∷ spelled b) text rest leads in
    let joint = unled two.2 in
    led_choice (led a room text two.0 (omega (arith, within)) two.1 (ap is_open joint.1.0)) joint.1.0 joint.1.1 (led b room joint.0 rest (omega (arith, within)) joint.2))
led Trees.no_items = λ room text rest within leads. (let first = unled leads in list_empty (Rules.on first.1 Rules.here) within first.2)
led (Trees.some_items a) = λ room text rest within leads. (
    let first = unled leads in
    let two = cut (spelled a) (mark parts.CloseList ∷ []) first.0 rest first.2 in
    led_list {inner = room - 1} (Rules.on first.1 Rules.here) (omega (arith, within)) (omega (arith, within)) (led a (room - 1) first.0 two.0 (omega (arith, within)) two.1 (ap is_open (lead_part parts.CloseList two.2))) two.2)
led (Trees.first_item a) = λ room text rest within leads unopened. led_item (led a room text rest within leads unopened)
led (Trees.next_item a b) = λ room text rest within leads unopened. (
    let two = cut (spelled a) (mark parts.Comma ∷ spelled b) text rest leads in
    let joint = unled two.2 in
    led_items (led a room text two.0 (omega (arith, within)) two.1 (ap is_open joint.1.0)) joint.1.0 joint.1.1 (led b room joint.0 rest (omega (arith, within)) joint.2 unopened))
led (Trees.unary_of a) = led a
led (Trees.negated a) = λ room text rest within leads unopened. (let first = unled leads in led_bang first.1.0 first.1.1 (led a room first.0 rest within first.2 unopened))
led (Trees.post_of a) = led a
led (Trees.called call a b) = λ room text rest within leads unopened. (
    let two = cut (spelled a) (mark parts.Dot ∷ Trees.word (words.Call call) ∷ spelled b) text rest leads in
    let dotted = unled two.2 in
    let named = unled dotted.2 in
    led_called call (led a room text two.0 (omega (arith, within)) two.1 (ap is_open dotted.1.0)) dotted.1.0 dotted.1.1 named.1.0 named.1.1 (round_begins b named.0 rest named.2) (led b room named.0 rest (omega (arith, within)) named.2))
led (Trees.rounded a) = λ room text rest within leads. (
    let first = unled leads in
    let two = cut (spelled a) (mark parts.Close ∷ []) first.0 rest first.2 in
    led_round {inner = room - 1} (Rules.on first.1 Rules.here) (omega (arith, within)) (omega (arith, within)) (led a (room - 1) first.0 two.0 (omega (arith, within)) two.1 (ap is_open (lead_part parts.Close two.2))) two.2)
led (Trees.group a) = λ room text rest within leads unopened. led_of (group_walk (opens a text rest leads) (led a room text rest within leads))
  where
    opens : (tree : Tree Trees.round) (text rest : List ℕ) → Leads text (spelled tree) rest → part_at text ≡ parts.Open
    opens (Trees.rounded b) text rest leads = let first = unled leads in first.1.0
led (Trees.text held) = λ room text rest within leads unopened. led_of (text_walk held leads)
led (Trees.number whole) = λ room text rest within leads unopened. led_of (number_walk whole (lead_part (parts.Number whole) leads) (lead_rest (parts.Number whole) leads))
led (Trees.flag true) = λ room text rest within leads unopened. led_of (true_walk (lead_part (parts.Named words.True) leads) (lead_rest (parts.Named words.True) leads))
led (Trees.flag false) = λ room text rest within leads unopened. led_of (false_walk (lead_part (parts.Named words.False) leads) (lead_rest (parts.Named words.False) leads))
led Trees.null = λ room text rest within leads unopened. led_of (null_walk (lead_part (parts.Named words.Null) leads) (lead_rest (parts.Named words.Null) leads))
led (Trees.member (Trees.steps all)) = λ room text rest within leads unopened. (
    let first = unled leads in
    let steps = steps_led false all first.0 rest first.2 unopened in
    record { is_path = true; walks = λ more. walk_on (member_begins first.1.0 first.1.1 room more) (steps.walks room more) })
led (Trees.has (Trees.steps all)) = λ room text rest within leads unopened. (
    let first = unled leads in
    let opened = unled first.2 in
    let asked = unled opened.2 in
    let two = cut (steps_tokens all) (mark parts.Close ∷ []) asked.0 rest asked.2 in
    led_of (has_walk first.1.0 first.1.1 (Rules.on opened.1 Rules.here) within (Rules.on asked.1 Rules.here) (steps_led true all asked.0 two.0 two.1 (ap is_open (lead_part parts.Close two.2))) two.2))
led (Trees.int a) = λ room text rest within leads unopened. (let first = unled leads in led_of (int_walk first.1.0 first.1.1 (led a room first.0 rest within first.2)))
led (Trees.steps all) = tt

pub rule_ends : (text : List ℕ) (tree : Tree Trees.or) → IsRule text tree → Comes start (after_blanks text) ended
rule_ends text tree rule =
    let all = led tree 32 (after_blanks text) rule.rest rule.within rule.leads (ap is_open rule.ends) in
    then_comes (all.walks.goes [] refl) (comes_here (after all.more all.tail) [] rule.rest ended (ap (λ own. after_row all.more all.tail own [] rule.rest) rule.ends ∙ end_of_rule all.more all.tail rule.rest))

pub no_rule_refused : (text : List ℕ) (tree : Tree Trees.or) (why : RuleErr) → IsRule text tree → IsRefused text why → ⊥
no_rule_refused text tree why rule refused =
    let same = one_move_ends ended (stop refused.stopped) refl refl (rule_ends text tree rule) refused.comes in
    true≢false (ap is_ended same)
  where
    is_ended : Move → Bool
    is_ended ended = true
    is_ended move = false
