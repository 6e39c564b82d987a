-- The trees that the table builds: each text that it takes to its end is a rule.
use Rattle.std.proofs.Common.{◌≡◌, ◌∙◌, ap, sym, subst, ℕ, ◌+◌, ◌-◌, ◌<◌, ◌≤◌, cond, List, [], ◌∷◌, ◌++◌, length, refl, arith, append_assoc, Bool, true, false, nat_lt, Result, Ok, Err}
use Rattle.std.proofs.lemmas.Bool.Decides.{nat_tests}
use Rattle.std.proofs.lemmas.List.{append-nil}
use Rattle.rule_value.specs.declared.part.Part.{Part}
use Rattle.rule_value.specs.declared.part.Part.TheVariants as parts
use Rattle.rule_value.specs.declared.part.Word.{Word}
use Rattle.rule_value.specs.declared.part.Word.TheVariants as words
use Rattle.rule_value.specs.declared.part.Call.{Call}
use Rattle.rule_value.specs.declared.part.Relation.{Relation}
use Rattle.rule_expr.specs.declared.stop.Stop.TheVariants as Stops
use Rattle.rule_expr.specs.Parts.{part_at, name_at, behind, after_blanks, quoted}
use Rattle.rule_value.specs.Trees
use Rattle.rule_value.specs.Trees.{Level, Tree, Step, Token, mark, word, quote, spelled, levels, step_tokens, steps_tokens}
use Rattle.rule_expr.specs.Rules
use Rattle.rule_expr.specs.Rules.{Leads, Stands, IsRule}
use Rattle.rule_expr.specs.Places
use Rattle.rule_expr.specs.Places.{State, Place, Tail, Bracket, Move, state, step, row, opened, whole, word_row, operand_row, after_row, test_row, join_row, end_row, name_row, dot_row, call_row, quote_row, square_row, round_row, event_row, items_row, list_row, or_else, asked_next, is_open, is_close}
use Rattle.rule_expr.specs.Walks.{Goes, Comes, stays, moves, start}
use Rattle.rule_expr.proofs.Producing.{leads_on}

-- ---- trees

-- a tree of a level, which stands between two places of a text
pub record Piece (level : Level) (room : ℕ) (a b : List ℕ) : Type 0 where
  pub tree : Tree level
  pub leads : Leads a (spelled tree) b
  pub within : levels tree ≤ room

-- two with a part between them
pub joined : {a b c d : List ℕ} (token : Token) (first later : List Token) → Leads a first b → Stands b token c → Leads c later d → Leads a (first ++ token ∷ later) d
joined {a} {b} {c} {d} token first later one stands two = leads_on a b d first (token ∷ later) one (Rules.on stands two)

pub closed_by : {a b c : List ℕ} (token : Token) (first : List Token) → Leads a first b → Stands b token c → Leads a (first ++ token ∷ []) c
closed_by token first one stands = joined token first [] one stands Rules.here

either_piece : {room : ℕ} {a b c d : List ℕ} → Piece Trees.or room a b → Stands b (mark parts.Either) c → Piece Trees.and room c d → Piece Trees.or room a d
either_piece p s q = record { tree = Trees.either p.tree q.tree; leads = joined (mark parts.Either) (spelled p.tree) (spelled q.tree) p.leads s q.leads; within = omega (arith, p.within, q.within) }

both_piece : {room : ℕ} {a b c d : List ℕ} → Piece Trees.and room a b → Stands b (mark parts.Both) c → Piece Trees.rel room c d → Piece Trees.and room a d
both_piece p s q = record { tree = Trees.both p.tree q.tree; leads = joined (mark parts.Both) (spelled p.tree) (spelled q.tree) p.leads s q.leads; within = omega (arith, p.within, q.within) }

test_piece : {room : ℕ} {a b c d : List ℕ} (relation : Relation) → Piece Trees.unary room a b → Stands b (mark (parts.Test relation)) c → Piece Trees.unary room c d → Piece Trees.rel room a d
test_piece relation p s q = record { tree = Trees.test relation p.tree q.tree; leads = joined (mark (parts.Test relation)) (spelled p.tree) (spelled q.tree) p.leads s q.leads; within = omega (arith, p.within, q.within) }

choice_piece : {room : ℕ} {a b c d : List ℕ} → Piece Trees.unary room a b → Stands b (word words.In) c → Piece Trees.list room c d → Piece Trees.rel room a d
choice_piece p s q = record { tree = Trees.choice p.tree q.tree; leads = joined (word words.In) (spelled p.tree) (spelled q.tree) p.leads s q.leads; within = omega (arith, p.within, q.within) }

item_piece : {room : ℕ} {a b c d : List ℕ} → Piece Trees.items room a b → Stands b (mark parts.Comma) c → Piece Trees.or room c d → Piece Trees.items room a d
item_piece p s q = record { tree = Trees.next_item p.tree q.tree; leads = joined (mark parts.Comma) (spelled p.tree) (spelled q.tree) p.leads s q.leads; within = omega (arith, p.within, q.within) }

post_piece : {room : ℕ} {a b : List ℕ} → Piece Trees.atom room a b → Piece Trees.post room a b
post_piece p = record { tree = Trees.post_of p.tree; leads = p.leads; within = p.within }

unary_piece : {room : ℕ} {a b : List ℕ} → Piece Trees.post room a b → Piece Trees.unary room a b
unary_piece p = record { tree = Trees.unary_of p.tree; leads = p.leads; within = p.within }

-- an operand of one part
one_piece : {room : ℕ} {a b : List ℕ} {token : Token} (tree : Tree Trees.atom) → spelled tree ≡ token ∷ [] → levels tree ≡ 0 → Stands a token b → Piece Trees.post room a b
one_piece {room} {a} {b} tree is low s = post_piece (record { tree = tree; leads = subst (λ tokens. Leads a tokens b) (sym is) (Rules.on s Rules.here); within = omega (arith, low) })

-- ---- paths

pub record Path (a b : List ℕ) : Type 0 where
  pub all : List Step
  pub leads : Leads a (word words.Event ∷ steps_tokens all) b

pub steps_end : (all : List Step) (last : Step) → steps_tokens (all ++ last ∷ []) ≡ steps_tokens all ++ step_tokens last
steps_end [] last = append-nil (step_tokens last)
steps_end (first ∷ all) last = ap (λ tokens. step_tokens first ++ tokens) (steps_end all last) ∙ sym (append_assoc (step_tokens first) (steps_tokens all) (step_tokens last))

path_begins : {a b : List ℕ} → Stands a (word words.Event) b → Path a b
path_begins s = record { all = []; leads = Rules.on s Rules.here }

path_goes : {a b c : List ℕ} (last : Step) → Path a b → Leads b (step_tokens last) c → Path a c
path_goes {a} {b} {c} last p leads = record {
  all = p.all ++ last ∷ [];
  leads = subst (λ tokens. Leads a (word words.Event ∷ tokens) c) (sym (steps_end p.all last)) (leads_on a b c (word words.Event ∷ steps_tokens p.all) (step_tokens last) p.leads leads);
}

path_piece : {room : ℕ} {a b : List ℕ} → Path a b → Piece Trees.post room a b
path_piece p = post_piece (record { tree = Trees.member (Trees.steps p.all); leads = p.leads; within = omega arith })

-- ---- what stands before an operand

pub data Ors (room : ℕ) : List ℕ → List ℕ → Type 0 where
  no_or : {a : List ℕ} → Ors room a a
  or_then : {a b c : List ℕ} → Piece Trees.or room a b → Stands b (mark parts.Either) c → Ors room a c

pub data Ands (room : ℕ) : List ℕ → List ℕ → Type 0 where
  no_and : {a : List ℕ} → Ands room a a
  and_then : {a b c : List ℕ} → Piece Trees.and room a b → Stands b (mark parts.Both) c → Ands room a c

pub data Tests (room : ℕ) : Bool → List ℕ → List ℕ → Type 0 where
  no_test : {a : List ℕ} → Tests room true a a
  test_then : {a b c : List ℕ} (relation : Relation) → Piece Trees.unary room a b → Stands b (mark (parts.Test relation)) c → Tests room false a c

pub data Bangs : List ℕ → List ℕ → Type 0 where
  no_bang : {a : List ℕ} → Bangs a a
  bang_then : {a b c : List ℕ} → Bangs a b → Stands b (mark parts.Bang) c → Bangs a c

pub record Before (room : ℕ) (more : Bool) (a e : List ℕ) : Type 0 where
  pub b : List ℕ
  pub c : List ℕ
  pub d : List ℕ
  pub ors : Ors room a b
  pub ands : Ands room b c
  pub tests : Tests room more c d
  pub bangs : Bangs d e

nothing : {room : ℕ} (a : List ℕ) → Before room true a a
nothing a = record { b = a; c = a; d = a; ors = no_or; ands = no_and; tests = no_test; bangs = no_bang }

close_or : {room : ℕ} {a b c : List ℕ} → Ors room a b → Piece Trees.and room b c → Piece Trees.or room a c
close_or no_or p = record { tree = Trees.or_of p.tree; leads = p.leads; within = p.within }
close_or (or_then q s) p = either_piece q s p

close_and : {room : ℕ} {a b c : List ℕ} → Ands room a b → Piece Trees.rel room b c → Piece Trees.and room a c
close_and no_and p = record { tree = Trees.and_of p.tree; leads = p.leads; within = p.within }
close_and (and_then q s) p = both_piece q s p

close_test : {room : ℕ} {more : Bool} {a b c : List ℕ} → Tests room more a b → Piece Trees.unary room b c → Piece Trees.rel room a c
close_test no_test p = record { tree = Trees.rel_of p.tree; leads = p.leads; within = p.within }
close_test (test_then relation q s) p = test_piece relation q s p

close_bangs : {room : ℕ} {a b c : List ℕ} → Bangs a b → Piece Trees.unary room b c → Piece Trees.unary room a c
close_bangs no_bang p = p
close_bangs (bang_then bangs s) p = close_bangs bangs (record { tree = Trees.negated p.tree; leads = Rules.on s p.leads; within = p.within })

-- ---- what stands before an operator, a joint or an end

pub data After (room : ℕ) : Bool → Tail → List ℕ → List ℕ → Type 0 where
  at_path : {more : Bool} {a b c : List ℕ} → Before room more a b → Path b c → After room more Places.path_end a c
  at_value : {more : Bool} {a b c : List ℕ} → Before room more a b → Piece Trees.post room b c → After room more Places.value_end a c
  at_list : {a b c d : List ℕ} → Ors room a b → Ands room b c → Piece Trees.rel room c d → After room false Places.list_end a d

-- joints, and a relation behind them
pub record Related (room : ℕ) (a d : List ℕ) : Type 0 where
  pub b : List ℕ
  pub c : List ℕ
  pub ors : Ors room a b
  pub ands : Ands room b c
  pub rel_is : Piece Trees.rel room c d

pub related : {room : ℕ} {more : Bool} {tail : Tail} {a b : List ℕ} → After room more tail a b → Related room a b
related (at_path before p) = record { b = before.b; c = before.c; ors = before.ors; ands = before.ands; rel_is = close_test before.tests (close_bangs before.bangs (unary_piece (path_piece p))) }
related (at_value before p) = record { b = before.b; c = before.c; ors = before.ors; ands = before.ands; rel_is = close_test before.tests (close_bangs before.bangs (unary_piece p)) }
related (at_list {b = b} {c = c} ors ands p) = record { b = b; c = c; ors = ors; ands = ands; rel_is = p }

pub and_of : {room : ℕ} {a d : List ℕ} (r : Related room a d) → Piece Trees.and room r.b d
and_of r = close_and r.ands r.rel_is

pub or_of : {room : ℕ} {a d : List ℕ} → Related room a d → Piece Trees.or room a d
or_of r = close_or r.ors (and_of r)

-- joints, and an operand behind them, which an operator may follow
record Operated (room : ℕ) (a d : List ℕ) : Type 0 where
  b : List ℕ
  c : List ℕ
  ors : Ors room a b
  ands : Ands room b c
  unary_is : Piece Trees.unary room c d

untested : {room : ℕ} {more : Bool} {a b c : List ℕ} → more ≡ true → Tests room more a b → Piece Trees.unary room b c → Piece Trees.unary room a c
untested is no_test p = p
untested is (test_then relation q s) p = let bad : ⊥ = cc in absurd bad

operated : {room : ℕ} {more : Bool} {tail : Tail} {a b : List ℕ} → more ≡ true → After room more tail a b → Operated room a b
operated is (at_path before p) = record { b = before.b; c = before.c; ors = before.ors; ands = before.ands; unary_is = untested is before.tests (close_bangs before.bangs (unary_piece (path_piece p))) }
operated is (at_value before p) = record { b = before.b; c = before.c; ors = before.ors; ands = before.ands; unary_is = untested is before.tests (close_bangs before.bangs (unary_piece p)) }
operated is (at_list ors ands p) = let bad : ⊥ = cc in absurd bad

-- ---- brackets

-- what a round bracket is
pub data Head (room : ℕ) : List ℕ → List ℕ → Type 0 where
  a_group : {a : List ℕ} → Head room a a
  an_int : {a b : List ℕ} → Stands a (word words.Int) b → Head room a b
  a_call : {a b c d : List ℕ} (call : Call) → Piece Trees.post room a b → Stands b (mark parts.Dot) c → Stands c (word (words.Call call)) d → Head room a d

round_piece : {room inner : ℕ} {a b c d : List ℕ} → inner + 1 ≡ room → Stands a (mark parts.Open) b → Piece Trees.or inner b c → Stands c (mark parts.Close) d → Piece Trees.round room a d
round_piece fits opens p closes = record { tree = Trees.rounded p.tree; leads = Rules.on opens (closed_by (mark parts.Close) (spelled p.tree) p.leads closes); within = omega (arith, fits, p.within) }

close_head : {room : ℕ} {a b c : List ℕ} → Head room a b → Piece Trees.round room b c → Piece Trees.post room a c
close_head a_group p = post_piece (record { tree = Trees.group p.tree; leads = p.leads; within = p.within })
close_head (an_int s) p = post_piece (record { tree = Trees.int p.tree; leads = Rules.on s p.leads; within = p.within })
close_head (a_call {a = a} {b = b} call q dot s) p = record {
  tree = Trees.called call q.tree p.tree;
  leads = leads_on a b _ (spelled q.tree) (mark parts.Dot ∷ word (words.Call call) ∷ spelled p.tree) q.leads (Rules.on dot (Rules.on s p.leads));
  within = omega (arith, q.within, p.within);
}

pub data Items (room : ℕ) : List ℕ → List ℕ → Type 0 where
  no_item : {a : List ℕ} → Items room a a
  item_then : {a b c : List ℕ} → Piece Trees.items room a b → Stands b (mark parts.Comma) c → Items room a c

close_item : {room : ℕ} {a b c : List ℕ} → Items room a b → Piece Trees.or room b c → Piece Trees.items room a c
close_item no_item p = record { tree = Trees.first_item p.tree; leads = p.leads; within = p.within }
close_item (item_then q s) p = item_piece q s p

-- the brackets that are open, and what stands before each
pub data Frames (begin : List ℕ) : List Bracket → List ℕ → Type 0 where
  outside : Frames begin [] begin
  in_a_round : {more : Bool} {brackets : List Bracket} {room : ℕ} {a b c d : List ℕ} → Frames begin brackets a → length brackets + room ≡ 32 → Before room more a b → Head room b c → Stands c (mark parts.Open) d → Frames begin (Places.in_round more ∷ brackets) d
  in_a_list : {brackets : List Bracket} {room inner : ℕ} {a b c d e f g : List ℕ} → Frames begin brackets a → length brackets + room ≡ 32 → inner + 1 ≡ room → Ors room a b → Ands room b c → Piece Trees.unary room c d → Stands d (word words.In) e → Stands e (mark parts.OpenList) f
      → Items inner f g → Frames begin (Places.in_list ∷ brackets) g

-- `has` and its bracket
pub record Asking (begin : List ℕ) (more : Bool) (brackets : List Bracket) (d : List ℕ) : Type 0 where
  pub room : ℕ
  pub a : List ℕ
  pub b : List ℕ
  pub c : List ℕ
  pub fits : length brackets + room ≡ 32
  pub some : 1 ≤ room
  pub frames : Frames begin brackets a
  pub before : Before room more a b
  pub asks : Stands b (word words.Has) c
  pub opens : Stands c (mark parts.Open) d

-- ---- what has been read

pub data Current (begin : List ℕ) : State → List ℕ → Type 0 where
  an_operand : {more : Bool} {brackets : List Bracket} {room : ℕ} {a b : List ℕ} → length brackets + room ≡ 32 → Frames begin brackets a → Before room more a b → Current begin (state (Places.operand more) brackets) b
  an_after : {more : Bool} {tail : Tail} {brackets : List Bracket} {room : ℕ} {a b : List ℕ} → length brackets + room ≡ 32 → Frames begin brackets a → After room more tail a b → Current begin (state (Places.after more tail) brackets) b
  a_dot : {more : Bool} {brackets : List Bracket} {room : ℕ} {a b c d : List ℕ} → length brackets + room ≡ 32 → Frames begin brackets a → Before room more a b → Path b c → Stands c (mark parts.Dot) d → Current begin (state (Places.dot_path (Places.alone more)) brackets) d
  a_dot_behind : {more : Bool} {brackets : List Bracket} {room : ℕ} {a b c d : List ℕ} → length brackets + room ≡ 32 → Frames begin brackets a → Before room more a b → Piece Trees.post room b c → Stands c (mark parts.Dot) d → Current begin (state (Places.dot_value more) brackets) d
  a_bracket : {more : Bool} {brackets : List Bracket} {room : ℕ} {a b c d : List ℕ} → length brackets + room ≡ 32 → Frames begin brackets a → Before room more a b → Path b c → Stands c (mark parts.OpenList) d → Current begin (state (Places.bracketed (Places.alone more)) brackets) d
  a_square : {more : Bool} {brackets : List Bracket} {room : ℕ} {a b c d e : List ℕ} {held : List ℕ} → length brackets + room ≡ 32 → Frames begin brackets a → Before room more a b → Path b c → Stands c (mark parts.OpenList) d → Stands d (quote held) e
      → Current begin (state (Places.square (Places.alone more)) brackets) e
  a_round : {more : Bool} {brackets : List Bracket} {room : ℕ} {a b c : List ℕ} → length brackets + room ≡ 32 → Frames begin brackets a → Before room more a b → Head room b c → Current begin (state (Places.open_round more) brackets) c
  a_has : {more : Bool} {brackets : List Bracket} {room : ℕ} {a b c : List ℕ} → length brackets + room ≡ 32 → Frames begin brackets a → Before room more a b → Stands b (word words.Has) c → Current begin (state (Places.open_has more) brackets) c
  a_choice : {brackets : List Bracket} {room : ℕ} {a b c d e : List ℕ} → length brackets + room ≡ 32 → Frames begin brackets a → Ors room a b → Ands room b c → Piece Trees.unary room c d → Stands d (word words.In) e → Current begin (state Places.open_list brackets) e
  an_event : {more : Bool} {brackets : List Bracket} {a : List ℕ} → Asking begin more brackets a → Current begin (state Places.event (Places.in_round more ∷ brackets)) a
  asked_path : {more : Bool} {brackets : List Bracket} {a b : List ℕ} → Asking begin more brackets a → Path a b → Current begin (state Places.after_asked (Places.in_round more ∷ brackets)) b
  asked_dot : {more : Bool} {brackets : List Bracket} {a b c : List ℕ} → Asking begin more brackets a → Path a b → Stands b (mark parts.Dot) c → Current begin (state (Places.dot_path Places.asked) (Places.in_round more ∷ brackets)) c
  asked_bracket : {more : Bool} {brackets : List Bracket} {a b c : List ℕ} → Asking begin more brackets a → Path a b → Stands b (mark parts.OpenList) c → Current begin (state (Places.bracketed Places.asked) (Places.in_round more ∷ brackets)) c
  asked_square : {more : Bool} {brackets : List Bracket} {a b c d : List ℕ} {held : List ℕ} → Asking begin more brackets a → Path a b → Stands b (mark parts.OpenList) c → Stands c (quote held) d → Current begin (state (Places.square Places.asked) (Places.in_round more ∷ brackets)) d

-- a whole rule
record Built (begin : List ℕ) : Type 0 where
  rest : List ℕ
  piece : Piece Trees.or 32 begin rest
  ends : part_at rest ≡ parts.End

-- what comes of a move
abbrev Comes_of : List ℕ → Move → Type 0
Comes_of begin (Places.onward next text) = Current begin next text
Comes_of begin Places.ended = Built begin
Comes_of begin (Places.stop why) = Unit {0}

-- ---- a round bracket

room_left : (brackets : List Bracket) (room : ℕ) → length brackets + room ≡ 32 → nat_lt (length brackets) 32 ≡ true → 1 ≤ room
room_left brackets room fits is = let below : length brackets < 32 = grind (arith, nat_tests) in omega (arith, fits, below)

round_by : (begin : List ℕ) {more : Bool} {brackets : List Bracket} {room : ℕ} {a b c : List ℕ} (is : Bool) → nat_lt (length brackets) 32 ≡ is → length brackets + room ≡ 32 → Frames begin brackets a → Before room more a b → Head room b c → part_at c ≡ parts.Open
    → Comes_of begin (cond is (Places.onward (state (Places.operand true) (Places.in_round more ∷ brackets)) (behind c)) (Places.stop (Stops.Deep (length c))))
round_by begin {brackets = brackets} {room = room} {c = c} true is fits frames before head opens =
    let left = room_left brackets room fits is in
    an_operand {room = room - 1} (omega (arith, fits, left)) (in_a_round frames fits before head (opens, refl)) (nothing (behind c))
round_by begin false is fits frames before head opens = tt

asking_by : (begin : List ℕ) {more : Bool} {brackets : List Bracket} {room : ℕ} {a b c : List ℕ} (is : Bool) → nat_lt (length brackets) 32 ≡ is → length brackets + room ≡ 32 → Frames begin brackets a → Before room more a b → Stands b (word words.Has) c → part_at c ≡ parts.Open
    → Comes_of begin (cond is (Places.onward (state Places.event (Places.in_round more ∷ brackets)) (behind c)) (Places.stop (Stops.Deep (length c))))
asking_by begin {brackets = brackets} {room = room} {a = a} {b = b} {c = c} true is fits frames before asks opens =
    an_event (record { room = room; a = a; b = b; c = c; fits = fits; some = room_left brackets room fits is; frames = frames; before = before; asks = asks; opens = (opens, refl) })
asking_by begin false is fits frames before asks opens = tt

-- ---- an operand

quote_by : (begin : List ℕ) {more : Bool} {brackets : List Bracket} {room : ℕ} {a b : List ℕ} (r : Result (List ℕ × List ℕ) (List ℕ)) → quoted b ≡ r → length brackets + room ≡ 32 → Frames begin brackets a → Before room more a b → part_at b ≡ parts.Quote
    → Comes_of begin (whole (Places.after more Places.value_end) brackets r)
quote_by begin (Ok found) is fits frames before p = an_after fits frames (at_value before (one_piece {token = quote found.0} (Trees.text found.0) refl refl (p, found.1, is, refl)))
quote_by begin (Err rest) is fits frames before p = tt

word_by : (begin : List ℕ) {more : Bool} {brackets : List Bracket} {room : ℕ} {a b : List ℕ} (means : Word) → part_at b ≡ parts.Named means → length brackets + room ≡ 32 → Frames begin brackets a → Before room more a b → Comes_of begin (word_row more means brackets b)
word_by begin words.Event p fits frames before = an_after fits frames (at_path before (path_begins (p, refl)))
word_by begin words.True p fits frames before = an_after fits frames (at_value before (one_piece {token = word words.True} (Trees.flag true) refl refl (p, refl)))
word_by begin words.False p fits frames before = an_after fits frames (at_value before (one_piece {token = word words.False} (Trees.flag false) refl refl (p, refl)))
word_by begin words.Null p fits frames before = an_after fits frames (at_value before (one_piece {token = word words.Null} Trees.null refl refl (p, refl)))
word_by begin words.Has p fits frames before = a_has fits frames before (p, refl)
word_by begin words.Int p fits frames before = a_round fits frames before (an_int (p, refl))
word_by begin means p fits frames before = tt

operand_by : (begin : List ℕ) {more : Bool} {brackets : List Bracket} {room : ℕ} {a b : List ℕ} (part : Part) → part_at b ≡ part → length brackets + room ≡ 32 → Frames begin brackets a → Before room more a b → Comes_of begin (operand_row more part brackets b)
operand_by begin parts.Bang p fits frames before = an_operand fits frames (record { b = before.b; c = before.c; d = before.d; ors = before.ors; ands = before.ands; tests = before.tests; bangs = bang_then before.bangs (p, refl) })
operand_by begin {brackets = brackets} parts.Open p fits frames before = round_by begin (nat_lt (length brackets) 32) refl fits frames before a_group p
operand_by begin {b = b} parts.Quote p fits frames before = quote_by begin (quoted b) refl fits frames before p
operand_by begin (parts.Number number) p fits frames before = an_after fits frames (at_value before (one_piece {token = mark (parts.Number number)} (Trees.number number) refl refl (p, refl)))
operand_by begin (parts.Named means) p fits frames before = word_by begin means p fits frames before
operand_by begin part p fits frames before = tt

-- ---- behind an operand

-- the room within a bracket
inner_room : (bracket : Bracket) (brackets : List Bracket) (inner room : ℕ) → length (bracket ∷ brackets) + inner ≡ 32 → length brackets + room ≡ 32 → inner + 1 ≡ room
inner_room bracket brackets inner room h k = omega (arith, h, k)

items_in : {one other : ℕ} {a b : List ℕ} → one ≡ other → Items one a b → Items other a b
items_in {a = a} {b = b} same items = subst (λ n. Items n a b) same items

list_piece : {room inner : ℕ} {a b c d : List ℕ} → inner + 1 ≡ room → Stands a (mark parts.OpenList) b → Piece Trees.items inner b c → Stands c (mark parts.CloseList) d → Piece Trees.list room a d
list_piece fits opens p closes = record { tree = Trees.some_items p.tree; leads = Rules.on opens (closed_by (mark parts.CloseList) (spelled p.tree) p.leads closes); within = omega (arith, fits, p.within) }

end_by : (begin : List ℕ) {brackets : List Bracket} {room : ℕ} {a b : List ℕ} (part : Part) → part_at b ≡ part → length brackets + room ≡ 32 → Frames begin brackets a → Piece Trees.or room a b → Comes_of begin (end_row brackets part b)
end_by begin {b = b} parts.End p fits outside whole_is = record { rest = b; piece = record { tree = whole_is.tree; leads = whole_is.leads; within = omega (arith, fits, whole_is.within) }; ends = p }
end_by begin part p fits outside whole_is = tt
end_by begin {room = inner} parts.Close p fits (in_a_round {more = more} {brackets = brackets} {room = room} frames outer before head opens) whole_is =
    an_after outer frames (at_value before (close_head head (round_piece (inner_room (Places.in_round more) brackets inner room fits outer) opens whole_is (p, refl))))
end_by begin part p fits (in_a_round frames outer before head opens) whole_is = tt
end_by begin {room = inner} {b = b} parts.Comma p fits (in_a_list {brackets = brackets} {room = room} {inner = own} frames outer one ors ands unary_is chosen opens items) whole_is =
    let same : own ≡ inner = omega (arith, one, inner_room Places.in_list brackets inner room fits outer) in
    let all = close_item (items_in same items) whole_is in
    an_operand fits (in_a_list frames outer (inner_room Places.in_list brackets inner room fits outer) ors ands unary_is chosen opens (item_then all (p, refl))) (nothing (behind b))
end_by begin {room = inner} parts.CloseList p fits (in_a_list {brackets = brackets} {room = room} {inner = own} frames outer one ors ands unary_is chosen opens items) whole_is =
    let same : own ≡ inner = omega (arith, one, inner_room Places.in_list brackets inner room fits outer) in
    let all = close_item (items_in same items) whole_is in
    an_after outer frames (at_list ors ands (choice_piece unary_is chosen (list_piece (inner_room Places.in_list brackets inner room fits outer) opens all (p, refl))))
end_by begin part p fits (in_a_list frames outer one ors ands unary_is chosen opens items) whole_is = tt

join_by : (begin : List ℕ) {brackets : List Bracket} {room : ℕ} {a b : List ℕ} (part : Part) → part_at b ≡ part → length brackets + room ≡ 32 → Frames begin brackets a → Related room a b → Comes_of begin (join_row part brackets b)
join_by begin {b = b} parts.Both p fits frames r = an_operand fits frames (record { b = r.b; c = behind b; d = behind b; ors = r.ors; ands = and_then (and_of r) (p, refl); tests = no_test; bangs = no_bang })
join_by begin {b = b} parts.Either p fits frames r = an_operand fits frames (record { b = behind b; c = behind b; d = behind b; ors = or_then (or_of r) (p, refl); ands = no_and; tests = no_test; bangs = no_bang })
join_by begin part p fits frames r = end_by begin part p fits frames (or_of r)

test_by : (begin : List ℕ) {tail : Tail} {brackets : List Bracket} {room : ℕ} {a b : List ℕ} (more : Bool) (part : Part) → part_at b ≡ part → length brackets + room ≡ 32 → Frames begin brackets a → After room more tail a b → Comes_of begin (test_row more part brackets b)
test_by begin {b = b} true (parts.Test relation) p fits frames all =
    let o = operated refl all in
    an_operand fits frames (record { b = o.b; c = o.c; d = behind b; ors = o.ors; ands = o.ands; tests = test_then relation o.unary_is (p, refl); bangs = no_bang })
test_by begin true (parts.Named words.In) p fits frames all = let o = operated refl all in a_choice fits frames o.ors o.ands o.unary_is (p, refl)
test_by begin true (parts.Named means) p fits frames all = join_by begin (parts.Named means) p fits frames (related all)
test_by begin true part p fits frames all = join_by begin part p fits frames (related all)
test_by begin false part p fits frames all = join_by begin part p fits frames (related all)

after_by : (begin : List ℕ) {tail : Tail} {brackets : List Bracket} {room : ℕ} {a b : List ℕ} (more : Bool) (part : Part) → part_at b ≡ part → length brackets + room ≡ 32 → Frames begin brackets a → After room more tail a b → Comes_of begin (after_row more tail part brackets b)
after_by begin more parts.Dot p fits frames (at_path before path_is) = a_dot fits frames before path_is (p, refl)
after_by begin more parts.OpenList p fits frames (at_path before path_is) = a_bracket fits frames before path_is (p, refl)
after_by begin more part p fits frames (at_path before path_is) = test_by begin more part p fits frames (at_path before path_is)
after_by begin more parts.Dot p fits frames (at_value before q) = a_dot_behind fits frames before q (p, refl)
after_by begin more part p fits frames (at_value before q) = test_by begin more part p fits frames (at_value before q)
after_by begin more part p fits frames (at_list ors ands q) = test_by begin false part p fits frames (at_list ors ands q)

-- ---- paths and calls

dotted : {a b c : List ℕ} (means : Word) → Path a b → Stands b (mark parts.Dot) c → part_at c ≡ parts.Named means → Path a (behind c)
dotted {c = c} means p dot n = path_goes (Trees.dotted (name_at c)) p (Rules.on dot (Rules.on ((means, n), refl, refl) Rules.here))

squared : {a b c d : List ℕ} {held : List ℕ} → Path a b → Stands b (mark parts.OpenList) c → Stands c (quote held) d → part_at d ≡ parts.CloseList → Path a (behind d)
squared {held = held} p opens q closes = path_goes (Trees.quoted held) p (Rules.on opens (Rules.on q (Rules.on (closes, refl) Rules.here)))

name_by : (begin : List ℕ) {more : Bool} {brackets : List Bracket} {room : ℕ} {a b c d : List ℕ} (means : Word) (called : Bool) → part_at d ≡ parts.Named means → length brackets + room ≡ 32 → Frames begin brackets a → Before room more a b → Path b c → Stands c (mark parts.Dot) d
    → Comes_of begin (name_row (Places.alone more) means called brackets d)
name_by begin (words.Call call) true p fits frames before path_is dot = a_round fits frames before (a_call call (path_piece path_is) dot (p, refl))
name_by begin means true p fits frames before path_is dot = tt
name_by begin means false p fits frames before path_is dot = an_after fits frames (at_path before (dotted means path_is dot p))

asked_name_by : (begin : List ℕ) {more : Bool} {brackets : List Bracket} {a b c : List ℕ} (means : Word) (called : Bool) → part_at c ≡ parts.Named means → Asking begin more brackets a → Path a b → Stands b (mark parts.Dot) c
    → Comes_of begin (name_row Places.asked means called (Places.in_round more ∷ brackets) c)
asked_name_by begin (words.Call call) true p asking path_is dot = asked_path asking (dotted (words.Call call) path_is dot p)
asked_name_by begin means true p asking path_is dot = tt
asked_name_by begin means false p asking path_is dot = asked_path asking (dotted means path_is dot p)

dot_by : (begin : List ℕ) {more : Bool} {brackets : List Bracket} {room : ℕ} {a b c d : List ℕ} (part : Part) → part_at d ≡ part → length brackets + room ≡ 32 → Frames begin brackets a → Before room more a b → Path b c → Stands c (mark parts.Dot) d
    → Comes_of begin (dot_row (Places.alone more) part brackets d)
dot_by begin {d = d} (parts.Named means) p fits frames before path_is dot = name_by begin means (is_open (part_at (behind d))) p fits frames before path_is dot
dot_by begin part p fits frames before path_is dot = tt

asked_dot_by : (begin : List ℕ) {more : Bool} {brackets : List Bracket} {a b c : List ℕ} (part : Part) → part_at c ≡ part → Asking begin more brackets a → Path a b → Stands b (mark parts.Dot) c → Comes_of begin (dot_row Places.asked part (Places.in_round more ∷ brackets) c)
asked_dot_by begin {c = c} (parts.Named means) p asking path_is dot = asked_name_by begin means (is_open (part_at (behind c))) p asking path_is dot
asked_dot_by begin part p asking path_is dot = tt

call_by : (begin : List ℕ) {more : Bool} {brackets : List Bracket} {room : ℕ} {a b c d : List ℕ} (part : Part) → part_at d ≡ part → length brackets + room ≡ 32 → Frames begin brackets a → Before room more a b → Piece Trees.post room b c → Stands c (mark parts.Dot) d → Comes_of begin (call_row more part brackets d)
call_by begin (parts.Named (words.Call call)) p fits frames before q dot = a_round fits frames before (a_call call q dot (p, refl))
call_by begin part p fits frames before q dot = tt

held_by : (begin : List ℕ) {more : Bool} {brackets : List Bracket} {room : ℕ} {a b c d : List ℕ} (r : Result (List ℕ × List ℕ) (List ℕ)) → quoted d ≡ r → part_at d ≡ parts.Quote → length brackets + room ≡ 32 → Frames begin brackets a → Before room more a b → Path b c → Stands c (mark parts.OpenList) d
    → Comes_of begin (whole (Places.square (Places.alone more)) brackets r)
held_by begin (Ok found) is p fits frames before path_is opens = a_square fits frames before path_is opens (p, found.1, is, refl)
held_by begin (Err rest) is p fits frames before path_is opens = tt

asked_held_by : (begin : List ℕ) {more : Bool} {brackets : List Bracket} {a b c : List ℕ} (r : Result (List ℕ × List ℕ) (List ℕ)) → quoted c ≡ r → part_at c ≡ parts.Quote → Asking begin more brackets a → Path a b → Stands b (mark parts.OpenList) c
    → Comes_of begin (whole (Places.square Places.asked) (Places.in_round more ∷ brackets) r)
asked_held_by begin (Ok found) is p asking path_is opens = asked_square asking path_is opens (p, found.1, is, refl)
asked_held_by begin (Err rest) is p asking path_is opens = tt

bracket_by : (begin : List ℕ) {more : Bool} {brackets : List Bracket} {room : ℕ} {a b c d : List ℕ} (part : Part) → part_at d ≡ part → length brackets + room ≡ 32 → Frames begin brackets a → Before room more a b → Path b c → Stands c (mark parts.OpenList) d
    → Comes_of begin (quote_row (Places.alone more) part brackets d)
bracket_by begin {d = d} parts.Quote p fits frames before path_is opens = held_by begin (quoted d) refl p fits frames before path_is opens
bracket_by begin part p fits frames before path_is opens = tt

asked_bracket_by : (begin : List ℕ) {more : Bool} {brackets : List Bracket} {a b c : List ℕ} (part : Part) → part_at c ≡ part → Asking begin more brackets a → Path a b → Stands b (mark parts.OpenList) c → Comes_of begin (quote_row Places.asked part (Places.in_round more ∷ brackets) c)
asked_bracket_by begin {c = c} parts.Quote p asking path_is opens = asked_held_by begin (quoted c) refl p asking path_is opens
asked_bracket_by begin part p asking path_is opens = tt

square_by : (begin : List ℕ) {more : Bool} {brackets : List Bracket} {room : ℕ} {a b c d e : List ℕ} {held : List ℕ} (part : Part) → part_at e ≡ part → length brackets + room ≡ 32 → Frames begin brackets a → Before room more a b → Path b c → Stands c (mark parts.OpenList) d → Stands d (quote held) e
    → Comes_of begin (square_row (Places.alone more) part brackets e)
square_by begin parts.CloseList p fits frames before path_is opens q = an_after fits frames (at_path before (squared path_is opens q p))
square_by begin part p fits frames before path_is opens q = tt

asked_square_by : (begin : List ℕ) {more : Bool} {brackets : List Bracket} {a b c d : List ℕ} {held : List ℕ} (part : Part) → part_at d ≡ part → Asking begin more brackets a → Path a b → Stands b (mark parts.OpenList) c → Stands c (quote held) d
    → Comes_of begin (square_row Places.asked part (Places.in_round more ∷ brackets) d)
asked_square_by begin parts.CloseList p asking path_is opens q = asked_path asking (squared path_is opens q p)
asked_square_by begin part p asking path_is opens q = tt

open_by : (begin : List ℕ) {more : Bool} {brackets : List Bracket} {room : ℕ} {a b c : List ℕ} (part : Part) → part_at c ≡ part → length brackets + room ≡ 32 → Frames begin brackets a → Before room more a b → Head room b c → Comes_of begin (round_row more (Places.operand true) part brackets c)
open_by begin {brackets = brackets} parts.Open p fits frames before head = round_by begin (nat_lt (length brackets) 32) refl fits frames before head p
open_by begin part p fits frames before head = tt

-- ---- `has`

has_by : (begin : List ℕ) {more : Bool} {brackets : List Bracket} {room : ℕ} {a b c : List ℕ} (part : Part) → part_at c ≡ part → length brackets + room ≡ 32 → Frames begin brackets a → Before room more a b → Stands b (word words.Has) c → Comes_of begin (round_row more Places.event part brackets c)
has_by begin {brackets = brackets} parts.Open p fits frames before asks = asking_by begin (nat_lt (length brackets) 32) refl fits frames before asks p
has_by begin part p fits frames before asks = tt

event_by : (begin : List ℕ) {more : Bool} {brackets : List Bracket} {a : List ℕ} (part : Part) → part_at a ≡ part → Asking begin more brackets a → Comes_of begin (event_row part (Places.in_round more ∷ brackets) a)
event_by begin (parts.Named words.Event) p asking = asked_path asking (path_begins (p, refl))
event_by begin part p asking = tt

has_piece : {room : ℕ} {a b c d e : List ℕ} → 1 ≤ room → Stands a (word words.Has) b → Stands b (mark parts.Open) c → Path c d → Stands d (mark parts.Close) e → Piece Trees.post room a e
has_piece some asks opens p closes = post_piece (record { tree = Trees.has (Trees.steps p.all); leads = Rules.on asks (Rules.on opens (closed_by (mark parts.Close) (word words.Event ∷ steps_tokens p.all) p.leads closes)); within = some })

asked_by : (begin : List ℕ) {more : Bool} {brackets : List Bracket} {a b : List ℕ} (part : Part) → part_at b ≡ part → Asking begin more brackets a → Path a b → Comes_of begin (or_else (asked_next part) (Places.in_round more ∷ brackets) b (end_row (Places.in_round more ∷ brackets) part b))
asked_by begin parts.Dot p asking path_is = asked_dot asking path_is (p, refl)
asked_by begin parts.OpenList p asking path_is = asked_bracket asking path_is (p, refl)
asked_by begin parts.Close p asking path_is = an_after asking.fits asking.frames (at_value asking.before (has_piece asking.some asking.asks asking.opens path_is (p, refl)))
asked_by begin part p asking path_is = tt

-- ---- a list

close_is : (part : Part) → is_close part ≡ true → part ≡ parts.CloseList
close_is parts.CloseList h = refl
close_is part h = let bad : ⊥ = cc in absurd bad

empty_piece : {room : ℕ} {a b c : List ℕ} → 1 ≤ room → Stands a (mark parts.OpenList) b → Stands b (mark parts.CloseList) c → Piece Trees.list room a c
empty_piece some opens closes = record { tree = Trees.no_items; leads = Rules.on opens (Rules.on closes Rules.here); within = some }

items_by : (begin : List ℕ) {brackets : List Bracket} {room : ℕ} {a b c d e : List ℕ} (is : Bool) → is_close (part_at (behind e)) ≡ is → part_at e ≡ parts.OpenList → 1 ≤ room → length brackets + room ≡ 32 → Frames begin brackets a → Ors room a b → Ands room b c → Piece Trees.unary room c d → Stands d (word words.In) e
    → Comes_of begin (items_row is brackets e)
items_by begin {e = e} true is p some fits frames ors ands unary_is chosen =
    an_after fits frames (at_list ors ands (choice_piece unary_is chosen (empty_piece some (p, refl) (close_is (part_at (behind e)) is, refl))))
items_by begin {room = room} {e = e} false is p some fits frames ors ands unary_is chosen =
    an_operand {room = room - 1} (omega (arith, fits, some)) (in_a_list {inner = room - 1} frames fits (omega (arith, some)) ors ands unary_is chosen (p, refl) no_item) (nothing (behind e))

list_by : (begin : List ℕ) {brackets : List Bracket} {room : ℕ} {a b c d e : List ℕ} (is : Bool) → nat_lt (length brackets) 32 ≡ is → part_at e ≡ parts.OpenList → length brackets + room ≡ 32 → Frames begin brackets a → Ors room a b → Ands room b c → Piece Trees.unary room c d → Stands d (word words.In) e
    → Comes_of begin (cond is (items_row (is_close (part_at (behind e))) brackets e) (Places.stop (Stops.Deep (length e))))
list_by begin {brackets = brackets} {room = room} {e = e} true is p fits frames ors ands unary_is chosen = items_by begin (is_close (part_at (behind e))) refl p (room_left brackets room fits is) fits frames ors ands unary_is chosen
list_by begin false is p fits frames ors ands unary_is chosen = tt

choice_by : (begin : List ℕ) {brackets : List Bracket} {room : ℕ} {a b c d e : List ℕ} (part : Part) → part_at e ≡ part → length brackets + room ≡ 32 → Frames begin brackets a → Ors room a b → Ands room b c → Piece Trees.unary room c d → Stands d (word words.In) e → Comes_of begin (list_row part brackets e)
choice_by begin {brackets = brackets} parts.OpenList p fits frames ors ands unary_is chosen = list_by begin (nat_lt (length brackets) 32) refl p fits frames ors ands unary_is chosen
choice_by begin part p fits frames ors ands unary_is chosen = tt

-- ---- all moves

moved : (begin : List ℕ) (now : State) (text : List ℕ) → Current begin now text → Comes_of begin (step now text)
unfolding step
moved begin now text (an_operand fits frames before) = operand_by begin (part_at text) refl fits frames before
moved begin now text (an_after {more = more} fits frames all) = after_by begin more (part_at text) refl fits frames all
moved begin now text (a_dot fits frames before path_is dot) = dot_by begin (part_at text) refl fits frames before path_is dot
moved begin now text (a_dot_behind fits frames before q dot) = call_by begin (part_at text) refl fits frames before q dot
moved begin now text (a_bracket fits frames before path_is opens) = bracket_by begin (part_at text) refl fits frames before path_is opens
moved begin now text (a_square fits frames before path_is opens q) = square_by begin (part_at text) refl fits frames before path_is opens q
moved begin now text (a_round fits frames before head) = open_by begin (part_at text) refl fits frames before head
moved begin now text (a_has fits frames before asks) = has_by begin (part_at text) refl fits frames before asks
moved begin now text (a_choice fits frames ors ands unary_is chosen) = choice_by begin (part_at text) refl fits frames ors ands unary_is chosen
moved begin now text (an_event asking) = event_by begin (part_at text) refl asking
moved begin now text (asked_path asking path_is) = asked_by begin (part_at text) refl asking path_is
moved begin now text (asked_dot asking path_is dot) = asked_dot_by begin (part_at text) refl asking path_is dot
moved begin now text (asked_bracket asking path_is opens) = asked_bracket_by begin (part_at text) refl asking path_is opens
moved begin now text (asked_square asking path_is opens q) = asked_square_by begin (part_at text) refl asking path_is opens q

pub all_moved : (begin : List ℕ) (now later : State) (text rest : List ℕ) → Current begin now text → Goes now text later rest → Current begin later rest
all_moved begin now later text rest current stays = current
all_moved begin now later text rest current (moves {next = next} {more = more} is goes) = all_moved begin next later more rest (subst (Comes_of begin) is (moved begin now text current)) goes

-- before the first part
pub at_start : (begin : List ℕ) → Current begin start begin
at_start begin = an_operand {room = 32} refl outside (nothing begin)

pub ended_is_rule : (text : List ℕ) → Comes start (after_blanks text) Places.ended → (tree : Tree Trees.or) × IsRule text tree
ended_is_rule text comes =
    let begin = after_blanks text in
    let last = all_moved begin start comes.later begin comes.rest (at_start begin) comes.goes in
    let built : Built begin = subst (Comes_of begin) comes.ends (moved begin comes.later comes.rest last) in
    (built.piece.tree, record { rest = built.rest; leads = built.piece.leads; ends = built.ends; within = built.piece.within })
