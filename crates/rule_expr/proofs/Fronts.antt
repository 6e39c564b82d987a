-- The parts before a refusal are the first ones of a tree.
use Rattle.std.proofs.Common.{◌≡◌, ◌∙◌, ap, sym, ℕ, Bool, List, [], ◌∷◌, ◌++◌, refl, append_assoc}
use Rattle.std.proofs.lemmas.List.{append-nil}
use Rattle.rule_value.specs.declared.part.Part.TheVariants as parts
use Rattle.rule_value.specs.declared.part.Word.TheVariants as words
use Rattle.rule_value.specs.declared.part.Call.TheVariants as calls
use Rattle.rule_expr.specs.declared.error.RuleErr.{RuleErr}
use Rattle.rule_expr.specs.Parts.{after_blanks}
use Rattle.rule_value.specs.Trees
use Rattle.rule_value.specs.Trees.{Level, Tree, Step, Token, mark, name, word, quote, spelled, step_tokens, steps_tokens}
use Rattle.rule_expr.specs.Rules
use Rattle.rule_expr.specs.Rules.{Leads, Stands, IsFront}
use Rattle.rule_expr.specs.Places.{State, Bracket}
use Rattle.rule_expr.specs.Walks.{IsRefused, start}
use Rattle.rule_expr.proofs.Producing.{leads_on}
use Rattle.rule_expr.proofs.Building.{Piece, Path, Ors, no_or, or_then, Ands, no_and, and_then, Tests, no_test, test_then, Bangs, no_bang, bang_then, Before, Head, a_group, an_int, a_call, Items, no_item, item_then, Frames, outside, in_a_round, in_a_list, Asking, Current, an_operand, an_after, a_dot, a_dot_behind, a_bracket, a_square, a_round, a_has, a_choice, an_event, asked_path, asked_dot, asked_bracket, asked_square, all_moved, at_start, closed_by, joined, or_of, related, steps_end}

-- ---- trees that have begun

-- a tree of a level, of which the first parts stand between two places of a text
record Begun (level : Level) (a b : List ℕ) : Type 0 where
  tree : Tree level
  read : List Token
  later : List Token
  leads : Leads a read b
  same : spelled tree ≡ read ++ later

whole_begun : {level : Level} {room : ℕ} {a b : List ℕ} → Piece level room a b → Begun level a b
whole_begun p = record { tree = p.tree; read = spelled p.tree; later = []; leads = p.leads; same = sym (append-nil (spelled p.tree)) }

behind_same : (first : List Token) (token : Token) (all read later : List Token) → all ≡ read ++ later → first ++ token ∷ all ≡ (first ++ token ∷ read) ++ later
behind_same first token all read later e = ap (λ x. first ++ token ∷ x) e ∙ sym (append_assoc first (token ∷ read) later)

closed_same : (token : Token) (all read later : List Token) → all ≡ read ++ later → all ++ token ∷ [] ≡ read ++ (later ++ token ∷ [])
closed_same token all read later e = ap (λ x. x ++ token ∷ []) e ∙ append_assoc read later (token ∷ [])

begun_or : {room : ℕ} {a b c : List ℕ} → Ors room a b → Begun Trees.and b c → Begun Trees.or a c
begun_or no_or q = record { tree = Trees.or_of q.tree; read = q.read; later = q.later; leads = q.leads; same = q.same }
begun_or (or_then p s) q = record {
  tree = Trees.either p.tree q.tree;
  read = spelled p.tree ++ mark parts.Either ∷ q.read;
  later = q.later;
  leads = joined (mark parts.Either) (spelled p.tree) q.read p.leads s q.leads;
  same = behind_same (spelled p.tree) (mark parts.Either) (spelled q.tree) q.read q.later q.same;
}

begun_and : {room : ℕ} {a b c : List ℕ} → Ands room a b → Begun Trees.rel b c → Begun Trees.and a c
begun_and no_and q = record { tree = Trees.and_of q.tree; read = q.read; later = q.later; leads = q.leads; same = q.same }
begun_and (and_then p s) q = record {
  tree = Trees.both p.tree q.tree;
  read = spelled p.tree ++ mark parts.Both ∷ q.read;
  later = q.later;
  leads = joined (mark parts.Both) (spelled p.tree) q.read p.leads s q.leads;
  same = behind_same (spelled p.tree) (mark parts.Both) (spelled q.tree) q.read q.later q.same;
}

begun_test : {room : ℕ} {more : Bool} {a b c : List ℕ} → Tests room more a b → Begun Trees.unary b c → Begun Trees.rel a c
begun_test no_test q = record { tree = Trees.rel_of q.tree; read = q.read; later = q.later; leads = q.leads; same = q.same }
begun_test (test_then relation p s) q = record {
  tree = Trees.test relation p.tree q.tree;
  read = spelled p.tree ++ mark (parts.Test relation) ∷ q.read;
  later = q.later;
  leads = joined (mark (parts.Test relation)) (spelled p.tree) q.read p.leads s q.leads;
  same = behind_same (spelled p.tree) (mark (parts.Test relation)) (spelled q.tree) q.read q.later q.same;
}

begun_bangs : {a b c : List ℕ} → Bangs a b → Begun Trees.unary b c → Begun Trees.unary a c
begun_bangs no_bang q = q
begun_bangs (bang_then bangs s) q = begun_bangs bangs (record {
  tree = Trees.negated q.tree;
  read = mark parts.Bang ∷ q.read;
  later = q.later;
  leads = Rules.on s q.leads;
  same = ap (λ x. mark parts.Bang ∷ x) q.same;
})

begun_before : {room : ℕ} {more : Bool} {a e f : List ℕ} → Before room more a e → Begun Trees.post e f → Begun Trees.or a f
begun_before before q =
    begun_or before.ors (begun_and before.ands (begun_test before.tests (begun_bangs before.bangs (record { tree = Trees.unary_of q.tree; read = q.read; later = q.later; leads = q.leads; same = q.same }))))

-- ---- brackets

begun_round : {a b c : List ℕ} → Stands a (mark parts.Open) b → Begun Trees.or b c → Begun Trees.round a c
begun_round opens q = record {
  tree = Trees.rounded q.tree;
  read = mark parts.Open ∷ q.read;
  later = q.later ++ mark parts.Close ∷ [];
  leads = Rules.on opens q.leads;
  same = ap (λ x. mark parts.Open ∷ x) (closed_same (mark parts.Close) (spelled q.tree) q.read q.later q.same);
}

begun_head : {room : ℕ} {a b c : List ℕ} → Head room a b → Begun Trees.round b c → Begun Trees.post a c
begun_head a_group q = record { tree = Trees.post_of (Trees.group q.tree); read = q.read; later = q.later; leads = q.leads; same = q.same }
begun_head (an_int s) q = record { tree = Trees.post_of (Trees.int q.tree); read = word words.Int ∷ q.read; later = q.later; leads = Rules.on s q.leads; same = ap (λ x. word words.Int ∷ x) q.same }
begun_head (a_call call p dot s) q = record {
  tree = Trees.called call p.tree q.tree;
  read = spelled p.tree ++ mark parts.Dot ∷ word (words.Call call) ∷ q.read;
  later = q.later;
  leads = joined (mark parts.Dot) (spelled p.tree) (word (words.Call call) ∷ q.read) p.leads dot (Rules.on s q.leads);
  same = behind_same (spelled p.tree) (mark parts.Dot) (word (words.Call call) ∷ spelled q.tree) (word (words.Call call) ∷ q.read) q.later (ap (λ x. word (words.Call call) ∷ x) q.same);
}

begun_items : {room : ℕ} {a b c : List ℕ} → Items room a b → Begun Trees.or b c → Begun Trees.items a c
begun_items no_item q = record { tree = Trees.first_item q.tree; read = q.read; later = q.later; leads = q.leads; same = q.same }
begun_items (item_then p s) q = record {
  tree = Trees.next_item p.tree q.tree;
  read = spelled p.tree ++ mark parts.Comma ∷ q.read;
  later = q.later;
  leads = joined (mark parts.Comma) (spelled p.tree) q.read p.leads s q.leads;
  same = behind_same (spelled p.tree) (mark parts.Comma) (spelled q.tree) q.read q.later q.same;
}

begun_list : {a b c : List ℕ} → Stands a (mark parts.OpenList) b → Begun Trees.items b c → Begun Trees.list a c
begun_list opens q = record {
  tree = Trees.some_items q.tree;
  read = mark parts.OpenList ∷ q.read;
  later = q.later ++ mark parts.CloseList ∷ [];
  leads = Rules.on opens q.leads;
  same = ap (λ x. mark parts.OpenList ∷ x) (closed_same (mark parts.CloseList) (spelled q.tree) q.read q.later q.same);
}

begun_choice : {room : ℕ} {a b c d : List ℕ} → Piece Trees.unary room a b → Stands b (word words.In) c → Begun Trees.list c d → Begun Trees.rel a d
begun_choice p s q = record {
  tree = Trees.choice p.tree q.tree;
  read = spelled p.tree ++ word words.In ∷ q.read;
  later = q.later;
  leads = joined (word words.In) (spelled p.tree) q.read p.leads s q.leads;
  same = behind_same (spelled p.tree) (word words.In) (spelled q.tree) q.read q.later q.same;
}

begun_frames : {begin : List ℕ} {brackets : List Bracket} {a b : List ℕ} → Frames begin brackets a → Begun Trees.or a b → Begun Trees.or begin b
begun_frames outside q = q
begun_frames (in_a_round frames outer before head opens) q = begun_frames frames (begun_before before (begun_head head (begun_round opens q)))
begun_frames (in_a_list frames outer one ors ands unary_is chosen opens items) q =
    begun_frames frames (begun_or ors (begun_and ands (begun_choice unary_is chosen (begun_list opens (begun_items items q)))))

-- ---- what may come next

-- nothing of it yet
unread : {level : Level} (tree : Tree level) (a : List ℕ) → Begun level a a
unread tree a = record { tree = tree; read = []; later = spelled tree; leads = Rules.here; same = refl }

-- a value, a rule and a round bracket of it
null_post : Tree Trees.post
null_post = Trees.post_of Trees.null

null_round : Tree Trees.round
null_round = Trees.rounded (Trees.or_of (Trees.and_of (Trees.rel_of (Trees.unary_of null_post))))

-- a path that has begun
record BegunPath (a b : List ℕ) : Type 0 where
  all : List Step
  read : List Token
  later : List Token
  leads : Leads a read b
  same : word words.Event ∷ steps_tokens all ≡ read ++ later

whole_path : {a b : List ℕ} → Path a b → BegunPath a b
whole_path p = record { all = p.all; read = word words.Event ∷ steps_tokens p.all; later = []; leads = p.leads; same = sym (append-nil (word words.Event ∷ steps_tokens p.all)) }

no_path : (a : List ℕ) → BegunPath a a
no_path a = record { all = []; read = []; later = word words.Event ∷ []; leads = Rules.here; same = refl }

-- one more step, of which some parts stand there
step_begun : {a b c : List ℕ} (last : Step) (read later : List Token) → step_tokens last ≡ read ++ later → Path a b → Leads b read c → BegunPath a c
step_begun {a} {b} {c} last read later e p leads =
    let front = word words.Event ∷ steps_tokens p.all in
    record {
      all = p.all ++ last ∷ [];
      read = front ++ read;
      later = later;
      leads = leads_on a b c front read p.leads leads;
      same = ap (λ x. word words.Event ∷ x) (steps_end p.all last ∙ ap (λ x. steps_tokens p.all ++ x) e) ∙ sym (append_assoc front read later);
    }

dot_begun : {a b c : List ℕ} → Path a b → Stands b (mark parts.Dot) c → BegunPath a c
dot_begun p dot = step_begun (Trees.dotted []) (mark parts.Dot ∷ []) (name [] ∷ []) refl p (Rules.on dot Rules.here)

bracket_begun : {a b c : List ℕ} → Path a b → Stands b (mark parts.OpenList) c → BegunPath a c
bracket_begun p opens = step_begun (Trees.quoted []) (mark parts.OpenList ∷ []) (quote [] ∷ mark parts.CloseList ∷ []) refl p (Rules.on opens Rules.here)

square_begun : {a b c d : List ℕ} {held : List ℕ} → Path a b → Stands b (mark parts.OpenList) c → Stands c (quote held) d → BegunPath a d
square_begun {held = held} p opens q = step_begun (Trees.quoted held) (mark parts.OpenList ∷ quote held ∷ []) (mark parts.CloseList ∷ []) refl p (Rules.on opens (Rules.on q Rules.here))

member_begun : {a b : List ℕ} → BegunPath a b → Begun Trees.post a b
member_begun p = record { tree = Trees.post_of (Trees.member (Trees.steps p.all)); read = p.read; later = p.later; leads = p.leads; same = p.same }

has_begun : {a b c d : List ℕ} → Stands a (word words.Has) b → Stands b (mark parts.Open) c → BegunPath c d → Begun Trees.post a d
has_begun asks opens p = record {
  tree = Trees.post_of (Trees.has (Trees.steps p.all));
  read = word words.Has ∷ mark parts.Open ∷ p.read;
  later = p.later ++ mark parts.Close ∷ [];
  leads = Rules.on asks (Rules.on opens p.leads);
  same = ap (λ x. word words.Has ∷ mark parts.Open ∷ x) (closed_same (mark parts.Close) (word words.Event ∷ steps_tokens p.all) p.read p.later p.same);
}

-- `has` alone
asks_begun : {a b : List ℕ} → Stands a (word words.Has) b → Begun Trees.post a b
asks_begun asks = record { tree = Trees.post_of (Trees.has (Trees.steps [])); read = word words.Has ∷ []; later = mark parts.Open ∷ word words.Event ∷ mark parts.Close ∷ []; leads = Rules.on asks Rules.here; same = refl }

-- a value and the dot of a call
call_begun : {room : ℕ} {a b c : List ℕ} → Piece Trees.post room a b → Stands b (mark parts.Dot) c → Begun Trees.post a c
call_begun p dot =
    let call = word (words.Call calls.Contains) in
    record {
      tree = Trees.called calls.Contains p.tree null_round;
      read = spelled p.tree ++ mark parts.Dot ∷ [];
      later = call ∷ spelled null_round;
      leads = closed_by (mark parts.Dot) (spelled p.tree) p.leads dot;
      same = sym (append_assoc (spelled p.tree) (mark parts.Dot ∷ []) (call ∷ spelled null_round));
    }

asking_begun : {begin : List ℕ} {more : Bool} {brackets : List Bracket} {a b : List ℕ} → Asking begin more brackets a → BegunPath a b → Begun Trees.or begin b
asking_begun asking p = begun_frames asking.frames (begun_before asking.before (has_begun asking.asks asking.opens p))

begun : {begin : List ℕ} {now : State} {text : List ℕ} → Current begin now text → Begun Trees.or begin text
begun (an_operand {b = b} fits frames before) = begun_frames frames (begun_before before (unread null_post b))
begun (an_after fits frames all) = begun_frames frames (whole_begun (or_of (related all)))
begun (a_dot fits frames before path_is dot) = begun_frames frames (begun_before before (member_begun (dot_begun path_is dot)))
begun (a_dot_behind fits frames before q dot) = begun_frames frames (begun_before before (call_begun q dot))
begun (a_bracket fits frames before path_is opens) = begun_frames frames (begun_before before (member_begun (bracket_begun path_is opens)))
begun (a_square fits frames before path_is opens q) = begun_frames frames (begun_before before (member_begun (square_begun path_is opens q)))
begun (a_round {c = c} fits frames before head) = begun_frames frames (begun_before before (begun_head head (unread null_round c)))
begun (a_has fits frames before asks) = begun_frames frames (begun_before before (asks_begun asks))
begun (a_choice {e = e} fits frames ors ands unary_is chosen) = begun_frames frames (begun_or ors (begun_and ands (begun_choice unary_is chosen (unread Trees.no_items e))))
begun (an_event {a = a} asking) = asking_begun asking (no_path a)
begun (asked_path asking path_is) = asking_begun asking (whole_path path_is)
begun (asked_dot asking path_is dot) = asking_begun asking (dot_begun path_is dot)
begun (asked_bracket asking path_is opens) = asking_begun asking (bracket_begun path_is opens)
begun (asked_square asking path_is opens q) = asking_begun asking (square_begun path_is opens q)

pub front_is : (text : List ℕ) (why : RuleErr) (refused : IsRefused text why) → IsFront text refused.comes.rest
front_is text why refused =
    let first = after_blanks text in
    let b = begun (all_moved first start refused.comes.later first refused.comes.rest (at_start first) refused.comes.goes) in
    record { tree = b.tree; read = b.read; later = b.later; leads = b.leads; same = b.same }
