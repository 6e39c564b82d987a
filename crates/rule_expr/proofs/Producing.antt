-- From the parts of a production to the whole.
use Rattle.std.proofs.Common.{◌≡◌, ◌∙◌, ap, sym, subst, ℕ, zero, suc, ◌+◌, ◌≤◌, max, List, [], ◌∷◌, ◌++◌, replicate, length, refl, arith, append_assoc, Bool, true, false, Ok, ◌≢◌}
use Rattle.std.proofs.lemmas.List.{append-nil, replicate-append-replicate}
use Rattle.rule_value.specs.declared.op.Op.{Op}
use Rattle.rule_value.specs.declared.op.Op.TheVariants as ops
use Rattle.rule_value.specs.declared.part.Part.{Part}
use Rattle.rule_value.specs.declared.part.Part.TheVariants as parts
use Rattle.rule_value.specs.declared.part.Word.{Word}
use Rattle.rule_value.specs.declared.part.Word.TheVariants as words
use Rattle.rule_value.specs.declared.part.Call.{Call}
use Rattle.rule_value.specs.declared.part.Relation.{Relation}
use Rattle.rule_value.specs.declared.part.Whole.{Whole}
use Rattle.std.proofs.lemmas.Bool.{true≢false}
use Rattle.rule_expr.specs.Parts.{seen, part_at, name_at, behind, after_blanks, quoted}
use Rattle.rule_value.specs.Trees
use Rattle.rule_value.specs.Trees.{Level, Tree, Step, Token, mark, quote, spelled, levels, step_tokens, steps_tokens, flag_word}
use Rattle.rule_value.specs.Values.{names_of}
use Rattle.rule_value.specs.Codes.{code, fits, IsExpr}
use Rattle.rule_expr.specs.Rules.{Leads, IsRule, here, on}
use Rattle.rule_expr.specs.Reading.{Reads, Passes, ReadsStep, ReadsSteps}
use Rattle.rule_value.proofs.Heights.{rule_fits}

pub leads_on : (text between rest : List ℕ) (first later : List Token) → Leads text first between → Leads between later rest → Leads text (first ++ later) rest
leads_on text between rest first later here two = two
leads_on text between rest first later (on {next = next} {tokens = tokens} stands leads) two = on stands (leads_on next between rest tokens later leads two)

-- where a part stands there is some text
abbrev pub is_end : Part → Bool
is_end parts.End = true
is_end part = false

end_of_none : (text : List ℕ) → text ≡ [] → is_end (part_at text) ≡ true
unfolding seen
end_of_none text is = ap (λ own. is_end (part_at own)) is

pub not_end : (text : List ℕ) (part : Part) → part_at text ≡ part → is_end part ≡ false → text ≢ []
not_end text part is other none_there = let bad : ⊥ = true≢false (sym (end_of_none text none_there) ∙ ap is_end is ∙ other) in absurd bad

-- one part
pub one_part : (part : Part) (text rest : List ℕ) → part_at text ≡ part → rest ≡ behind text → Leads text (mark part ∷ []) rest
one_part part text rest is next = on (is, next) here

pub passed : (part : Part) (text rest : List ℕ) → part_at text ≡ part → rest ≡ behind text → length rest ≤ length text → Passes (mark part ∷ []) text rest
passed part text rest is next shorter = record { leads = one_part part text rest is next; shorter = shorter }

-- what is behind steps, and steps behind those
four : (before one two last : List Op) → ((before ++ one) ++ two) ++ last ≡ before ++ (one ++ (two ++ last))
four before one two last = append_assoc (before ++ one) two last ∙ append_assoc before one (two ++ last)

-- a tree alone
pub lifted : {outer inner : Level} (wrap : Tree inner → Tree outer) → ((a : Tree inner) → spelled (wrap a) ≡ spelled a) → ((a : Tree inner) → levels (wrap a) ≡ levels a) → ((a : Tree inner) → code (wrap a) ≡ code a) → {room : ℕ} {text rest : List ℕ} {before after : List Op} → Reads inner room text rest before after → Reads outer room text rest before after
lifted wrap spells stays codes {room} {text} {rest} {before} {after} read = record {
  tree = wrap read.tree;
  leads = subst (λ tokens. Leads text tokens rest) (sym (spells read.tree)) read.leads;
  within = subst (λ n. n ≤ room) (sym (stays read.tree)) read.within;
  steps = read.steps ∙ ap (λ steps. before ++ steps) (sym (codes read.tree));
  shorter = read.shorter;
}

-- a tree within other parts, and steps behind its own
pub wrapped : {outer inner : Level} (wrap : Tree inner → Tree outer) (front back : List Token) (more : ℕ) (last : List Op) → ((a : Tree inner) → spelled (wrap a) ≡ front ++ (spelled a ++ back)) → ((a : Tree inner) → levels (wrap a) ≡ levels a + more) → ((a : Tree inner) → code (wrap a) ≡ code a ++ last) → {room inner_room : ℕ} {text next end rest : List ℕ} {before after all : List Op} → Passes front text next → Reads inner inner_room next end before after → Passes back end rest → inner_room + more ≤ room → all ≡ after ++ last → Reads outer room text rest before all
wrapped wrap front back more last spells stays codes {room} {inner_room} {text} {next} {end} {rest} {before} {after} {all} first read later within steps = record {
  tree = wrap read.tree;
  leads = subst (λ tokens. Leads text tokens rest) (sym (spells read.tree)) (leads_on text next rest front (spelled read.tree ++ back) first.leads (leads_on next end rest (spelled read.tree) back read.leads later.leads));
  within = omega (arith, within, read.within, stays read.tree);
  steps = steps ∙ ap (λ own. own ++ last) read.steps ∙ append_assoc before (code read.tree) last ∙ ap (λ own. before ++ own) (sym (codes read.tree));
  shorter = omega (arith, first.shorter, read.shorter, later.shorter);
}

pub nothing : (text : List ℕ) → Passes [] text text
nothing text = record { leads = here; shorter = omega arith }

-- two trees with parts between them, and what is made of both
pub of_two : {outer one other : Level} (wrap : Tree one → Tree other → Tree outer) (marks : List Token) (op : Op) → ((a : Tree one) (b : Tree other) → spelled (wrap a b) ≡ spelled a ++ (marks ++ spelled b)) → ((a : Tree one) (b : Tree other) → levels (wrap a b) ≡ max (levels a) (levels b)) → ((a : Tree one) (b : Tree other) → code (wrap a b) ≡ code a ++ (code b ++ op ∷ [])) → {room : ℕ} {text end next rest : List ℕ} {before middle after all : List Op} → Reads one room text end before middle → Passes marks end next → Reads other room next rest middle after → all ≡ after ++ op ∷ [] → Reads outer room text rest before all
of_two wrap marks op spells stays codes {room} {text} {end} {next} {rest} {before} {middle} {after} {all} first marked second steps = record {
  tree = wrap first.tree second.tree;
  leads = subst (λ tokens. Leads text tokens rest) (sym (spells first.tree second.tree)) (leads_on text end rest (spelled first.tree) (marks ++ spelled second.tree) first.leads (leads_on end next rest marks (spelled second.tree) marked.leads second.leads));
  within = omega (arith, first.within, second.within, stays first.tree second.tree);
  steps = steps ∙ ap (λ own. own ++ op ∷ []) (second.steps ∙ ap (λ own. own ++ code second.tree) first.steps) ∙ four before (code first.tree) (code second.tree) (op ∷ []) ∙ ap (λ own. before ++ own) (sym (codes first.tree second.tree));
  shorter = omega (arith, first.shorter, marked.shorter, second.shorter);
}

-- an atom of one part and one step
pub one_step : (tree : Tree Trees.atom) (token : Token) (op : Op) → spelled tree ≡ token ∷ [] → levels tree ≡ 0 → code tree ≡ op ∷ [] → {room : ℕ} {text rest : List ℕ} {before all : List Op} → Passes (token ∷ []) text rest → all ≡ before ++ op ∷ [] → Reads Trees.atom room text rest before all
one_step tree token op spells flat codes {room} {text} {rest} {before} {all} pass steps = record {
  tree = tree;
  leads = subst (λ tokens. Leads text tokens rest) (sym spells) pass.leads;
  within = omega (arith, flat);
  steps = steps ∙ ap (λ own. before ++ own) (sym codes);
  shorter = pass.shorter;
}

-- the productions

pub or_one : {room : ℕ} {text rest : List ℕ} {before after : List Op} → Reads Trees.and room text rest before after → Reads Trees.or room text rest before after
or_one read = lifted Trees.or_of (λ a. refl) (λ a. refl) (λ a. refl) read

pub and_one : {room : ℕ} {text rest : List ℕ} {before after : List Op} → Reads Trees.rel room text rest before after → Reads Trees.and room text rest before after
and_one read = lifted Trees.and_of (λ a. refl) (λ a. refl) (λ a. refl) read

pub rel_one : {room : ℕ} {text rest : List ℕ} {before after : List Op} → Reads Trees.unary room text rest before after → Reads Trees.rel room text rest before after
rel_one read = lifted Trees.rel_of (λ a. refl) (λ a. refl) (λ a. refl) read

pub post_one : {room : ℕ} {text rest : List ℕ} {before after : List Op} → Reads Trees.atom room text rest before after → Reads Trees.post room text rest before after
post_one read = lifted Trees.post_of (λ a. refl) (λ a. refl) (λ a. refl) read

pub group_one : {room : ℕ} {text rest : List ℕ} {before after : List Op} → Reads Trees.round room text rest before after → Reads Trees.atom room text rest before after
group_one read = lifted Trees.group (λ a. refl) (λ a. refl) (λ a. refl) read

pub or_more : {room : ℕ} {text end next rest : List ℕ} {before middle after all : List Op} → Reads Trees.or room text end before middle → part_at end ≡ parts.Either → next ≡ behind end → length next ≤ length end → Reads Trees.and room next rest middle after → all ≡ after ++ ops.Either ∷ [] → Reads Trees.or room text rest before all
or_more {end = end} {next = next} first is moved shorter second steps = of_two Trees.either (mark parts.Either ∷ []) ops.Either (λ a b. refl) (λ a b. refl) (λ a b. refl) first (passed parts.Either end next is moved shorter) second steps

pub and_more : {room : ℕ} {text end next rest : List ℕ} {before middle after all : List Op} → Reads Trees.and room text end before middle → part_at end ≡ parts.Both → next ≡ behind end → length next ≤ length end → Reads Trees.rel room next rest middle after → all ≡ after ++ ops.Both ∷ [] → Reads Trees.and room text rest before all
and_more {end = end} {next = next} first is moved shorter second steps = of_two Trees.both (mark parts.Both ∷ []) ops.Both (λ a b. refl) (λ a b. refl) (λ a b. refl) first (passed parts.Both end next is moved shorter) second steps

pub item_one : {room : ℕ} {text rest : List ℕ} {before after all : List Op} → Reads Trees.or room text rest before after → all ≡ after ++ ops.Item ∷ [] → Reads Trees.items room text rest before all
item_one {text = text} {rest = rest} read steps = wrapped Trees.first_item [] [] 0 (ops.Item ∷ []) (λ a. sym (append-nil (spelled a))) (λ a. omega arith) (λ a. refl) (nothing text) read (nothing rest) (omega arith) steps

pub item_more : {room : ℕ} {text end next rest : List ℕ} {before middle after all : List Op} → Reads Trees.items room text end before middle → part_at end ≡ parts.Comma → next ≡ behind end → length next ≤ length end → Reads Trees.or room next rest middle after → all ≡ after ++ ops.Item ∷ [] → Reads Trees.items room text rest before all
item_more {end = end} {next = next} first is moved shorter second steps = of_two Trees.next_item (mark parts.Comma ∷ []) ops.Item (λ a b. refl) (λ a b. refl) (λ a b. refl) first (passed parts.Comma end next is moved shorter) second steps

pub rel_test : (relation : Relation) {room : ℕ} {text end next rest : List ℕ} {before middle after all : List Op} → Reads Trees.unary room text end before middle → part_at end ≡ parts.Test relation → next ≡ behind end → length next ≤ length end → Reads Trees.unary room next rest middle after → all ≡ after ++ ops.Test relation ∷ [] → Reads Trees.rel room text rest before all
rel_test relation {end = end} {next = next} first is moved shorter second steps = of_two (Trees.test relation) (mark (parts.Test relation) ∷ []) (ops.Test relation) (λ a b. refl) (λ a b. refl) (λ a b. refl) first (passed (parts.Test relation) end next is moved shorter) second steps

pub rel_list : {room : ℕ} {text end next rest : List ℕ} {before middle begun after all : List Op} → Reads Trees.unary room text end before middle → part_at end ≡ parts.Named words.In → next ≡ behind end → length next ≤ length end → begun ≡ middle ++ ops.Begin ∷ [] → Reads Trees.list room next rest begun after → all ≡ after ++ ops.Chosen ∷ [] → Reads Trees.rel room text rest before all
rel_list {room} {text} {end} {next} {rest} {before} {middle} {begun} {after} {all} first is moved shorter began second steps = record {
  tree = Trees.choice first.tree second.tree;
  leads = leads_on text end rest (spelled first.tree) (Trees.word words.In ∷ spelled second.tree) first.leads (on (is, moved) second.leads);
  within = omega (arith, first.within, second.within);
  steps = steps ∙ ap (λ own. own ++ ops.Chosen ∷ []) (second.steps ∙ ap (λ own. own ++ code second.tree) (began ∙ ap (λ own. own ++ ops.Begin ∷ []) first.steps)) ∙ five before (code first.tree) (code second.tree);
  shorter = omega (arith, first.shorter, shorter, second.shorter);
}
  where
    five : (before one two : List Op) → (((before ++ one) ++ ops.Begin ∷ []) ++ two) ++ ops.Chosen ∷ [] ≡ before ++ (one ++ ops.Begin ∷ (two ++ ops.Chosen ∷ []))
    five before one two = append_assoc ((before ++ one) ++ ops.Begin ∷ []) two (ops.Chosen ∷ []) ∙ append_assoc (before ++ one) (ops.Begin ∷ []) (two ++ ops.Chosen ∷ []) ∙ append_assoc before one (ops.Begin ∷ (two ++ ops.Chosen ∷ []))

pub round_one : {room inner_room : ℕ} {text next end rest : List ℕ} {before after all : List Op} → Passes (mark parts.Open ∷ []) text next → Reads Trees.or inner_room next end before after → Passes (mark parts.Close ∷ []) end rest → inner_room + 1 ≤ room → all ≡ after → Reads Trees.round room text rest before all
round_one {after = after} first read later within same = wrapped Trees.rounded (mark parts.Open ∷ []) (mark parts.Close ∷ []) 1 [] (λ a. refl) (λ a. omega arith) (λ a. sym (append-nil (code a))) first read later within (same ∙ sym (append-nil after))

pub list_some : {room inner_room : ℕ} {text next end rest : List ℕ} {before after all : List Op} → Passes (mark parts.OpenList ∷ []) text next → Reads Trees.items inner_room next end before after → Passes (mark parts.CloseList ∷ []) end rest → inner_room + 1 ≤ room → all ≡ after → Reads Trees.list room text rest before all
list_some {after = after} first read later within same = wrapped Trees.some_items (mark parts.OpenList ∷ []) (mark parts.CloseList ∷ []) 1 [] (λ a. refl) (λ a. omega arith) (λ a. sym (append-nil (code a))) first read later within (same ∙ sym (append-nil after))

pub list_none : {room : ℕ} {text next rest : List ℕ} {before all : List Op} → Passes (mark parts.OpenList ∷ []) text next → Passes (mark parts.CloseList ∷ []) next rest → 1 ≤ room → all ≡ before → Reads Trees.list room text rest before all
list_none {text = text} {next = next} {rest = rest} {before = before} first later within same = record {
  tree = Trees.no_items;
  leads = leads_on text next rest (mark parts.OpenList ∷ []) (mark parts.CloseList ∷ []) first.leads later.leads;
  within = within;
  steps = same ∙ sym (append-nil before);
  shorter = omega (arith, first.shorter, later.shorter);
}

pub post_more : (call : Call) {room : ℕ} {text end named next rest : List ℕ} {before middle after all : List Op} → Reads Trees.post room text end before middle → part_at end ≡ parts.Dot → named ≡ behind end → length named ≤ length end → part_at named ≡ parts.Named (words.Call call) → next ≡ behind named → length next ≤ length named → Reads Trees.round room next rest middle after → all ≡ after ++ ops.Called call ∷ [] → Reads Trees.post room text rest before all
post_more call first dot moved shorter is further less second steps = of_two (Trees.called call) (mark parts.Dot ∷ Trees.word (words.Call call) ∷ []) (ops.Called call) (λ a b. refl) (λ a b. refl) (λ a b. refl) first (record { leads = on (dot, moved) (on (is, further) here); shorter = omega (arith, shorter, less) }) second steps

pub int_one : {room : ℕ} {text next rest : List ℕ} {before after all : List Op} → part_at text ≡ parts.Named words.Int → next ≡ behind text → length next ≤ length text → Reads Trees.round room next rest before after → all ≡ after ++ ops.ToInt ∷ [] → Reads Trees.atom room text rest before all
int_one {text = text} {next = next} {rest = rest} is moved shorter read steps = wrapped Trees.int (Trees.word words.Int ∷ []) [] 0 (ops.ToInt ∷ []) (λ a. ap (λ own. Trees.word words.Int ∷ own) (sym (append-nil (spelled a)))) (λ a. omega arith) (λ a. refl) (passed (parts.Named words.Int) text next is moved shorter) read (nothing rest) (omega arith) steps

pub number_one : (whole : Whole) {room : ℕ} {text rest : List ℕ} {before all : List Op} → Passes (mark (parts.Number whole) ∷ []) text rest → all ≡ before ++ ops.Number whole ∷ [] → Reads Trees.atom room text rest before all
number_one whole pass steps = one_step (Trees.number whole) (mark (parts.Number whole)) (ops.Number whole) refl refl refl pass steps

pub text_one : (held : List ℕ) {room : ℕ} {text rest : List ℕ} {before all : List Op} → Passes (quote held ∷ []) text rest → all ≡ before ++ ops.Text held ∷ [] → Reads Trees.atom room text rest before all
text_one held pass steps = one_step (Trees.text held) (quote held) (ops.Text held) refl refl refl pass steps

pub member_one : {room : ℕ} {text next rest : List ℕ} {names : List (List ℕ)} {before all : List Op} → part_at text ≡ parts.Named words.Event → next ≡ behind text → length next ≤ length text → ReadsSteps next rest names → all ≡ before ++ ops.Member names ∷ [] → Reads Trees.atom room text rest before all
member_one {before = before} is moved shorter read steps = record {
  tree = Trees.member (Trees.steps read.steps);
  leads = on (is, moved) read.leads;
  within = omega arith;
  steps = steps ∙ ap (λ names. before ++ ops.Member names ∷ []) read.names_are;
  shorter = omega (arith, shorter, read.shorter);
}

pub has_one : {room : ℕ} {text opened asked next end rest : List ℕ} {names : List (List ℕ)} {before all : List Op} → part_at text ≡ parts.Named words.Has → opened ≡ behind text → length opened ≤ length text → Passes (mark parts.Open ∷ []) opened asked → Passes (Trees.word words.Event ∷ []) asked next → ReadsSteps next end names → Passes (mark parts.Close ∷ []) end rest → 1 ≤ room → all ≡ before ++ ops.Has names ∷ [] → Reads Trees.atom room text rest before all
has_one {text = text} {opened = opened} {asked = asked} {next = next} {end = end} {rest = rest} {before = before} is moved shorter open_one event read close_one within steps = record {
  tree = Trees.has (Trees.steps read.steps);
  leads = on (is, moved) (leads_on opened asked rest (mark parts.Open ∷ []) (Trees.word words.Event ∷ (steps_tokens read.steps ++ mark parts.Close ∷ [])) open_one.leads
      (leads_on asked next rest (Trees.word words.Event ∷ []) (steps_tokens read.steps ++ mark parts.Close ∷ []) event.leads
      (leads_on next end rest (steps_tokens read.steps) (mark parts.Close ∷ []) read.leads close_one.leads)));
  within = within;
  steps = steps ∙ ap (λ names. before ++ ops.Has names ∷ []) read.names_are;
  shorter = omega (arith, shorter, open_one.shorter, event.shorter, read.shorter, close_one.shorter);
}

-- steps of a path
pub no_steps : (text : List ℕ) → ReadsSteps text text []
no_steps text = record { steps = []; leads = here; names_are = refl; shorter = omega arith }

names_on : (first later : List Step) → names_of (first ++ later) ≡ names_of first ++ names_of later
names_on [] later = refl
names_on (Trees.dotted letters ∷ first) later = ap (λ names. letters ∷ names) (names_on first later)
names_on (Trees.quoted held ∷ first) later = ap (λ names. held ∷ names) (names_on first later)

tokens_on : (first later : List Step) → steps_tokens (first ++ later) ≡ steps_tokens first ++ steps_tokens later
tokens_on [] later = refl
tokens_on (step ∷ first) later = ap (λ tokens. step_tokens step ++ tokens) (tokens_on first later) ∙ sym (append_assoc (step_tokens step) (steps_tokens first) (steps_tokens later))

pub more_steps : {text between rest letters : List ℕ} {names all : List (List ℕ)} → ReadsSteps text between names → ReadsStep between rest letters → all ≡ names ++ letters ∷ [] → ReadsSteps text rest all
more_steps {text} {between} {rest} {letters} {names} {all} first last is = record {
  steps = first.steps ++ last.step ∷ [];
  leads = subst (λ tokens. Leads text tokens rest) (sym (tokens_on first.steps (last.step ∷ []) ∙ ap (λ tokens. steps_tokens first.steps ++ tokens) (append-nil (step_tokens last.step)))) (leads_on text between rest (steps_tokens first.steps) (step_tokens last.step) first.leads last.leads);
  names_are = is ∙ ap (λ own. own ++ letters ∷ []) first.names_are ∙ ap (λ own. names_of first.steps ++ own) (sym last.name_is) ∙ sym (names_on first.steps (last.step ∷ []));
  shorter = omega (arith, first.shorter, last.shorter);
}

pub dotted_step : {text next rest letters : List ℕ} → part_at text ≡ parts.Dot → next ≡ behind text → length next ≤ length text → Passes (Trees.name letters ∷ []) next rest → ReadsStep text rest letters
dotted_step {letters = letters} is moved shorter pass = record { step = Trees.dotted letters; leads = on (is, moved) pass.leads; name_is = refl; shorter = omega (arith, shorter, pass.shorter) }

pub quoted_step : {text next rest held : List ℕ} → part_at text ≡ parts.OpenList → next ≡ behind text → length next ≤ length text → Passes (quote held ∷ mark parts.CloseList ∷ []) next rest → ReadsStep text rest held
quoted_step {held = held} is moved shorter pass = record { step = Trees.quoted held; leads = on (is, moved) pass.leads; name_is = refl; shorter = omega (arith, shorter, pass.shorter) }

-- `!` so many times before a tree
abbrev pub negations : ℕ → Tree Trees.unary → Tree Trees.unary
negations zero tree = tree
negations (suc n) tree = Trees.negated (negations n tree)

again : {A : Type 0} (n : ℕ) (a : A) → replicate n a ++ a ∷ [] ≡ replicate (suc n) a
again n a = let more : n + 1 ≡ suc n = omega arith in replicate-append-replicate n 1 a ∙ ap (λ k. replicate k a) more

negations_spelled : (n : ℕ) (tree : Tree Trees.unary) → spelled (negations n tree) ≡ replicate n (mark parts.Bang) ++ spelled tree
negations_spelled zero tree = refl
negations_spelled (suc n) tree = ap (λ tokens. mark parts.Bang ∷ tokens) (negations_spelled n tree)

negations_levels : (n : ℕ) (tree : Tree Trees.unary) → levels (negations n tree) ≡ levels tree
negations_levels zero tree = refl
negations_levels (suc n) tree = negations_levels n tree

negations_code : (n : ℕ) (tree : Tree Trees.unary) → code (negations n tree) ≡ code tree ++ replicate n ops.Not
negations_code zero tree = sym (append-nil (code tree))
negations_code (suc n) tree = ap (λ own. own ++ ops.Not ∷ []) (negations_code n tree) ∙ append_assoc (code tree) (replicate n ops.Not) (ops.Not ∷ []) ∙ ap (λ own. code tree ++ own) (again n ops.Not)

again_more : {A : Type 0} (n : ℕ) (a : A) → replicate n a ++ a ∷ [] ≡ replicate (n + 1) a
again_more n a = replicate-append-replicate n 1 a

pub bangs_more : (n : ℕ) {text between rest : List ℕ} → Passes (replicate n (mark parts.Bang)) text between → part_at between ≡ parts.Bang → rest ≡ behind between → length rest ≤ length between → Passes (replicate (n + 1) (mark parts.Bang)) text rest
bangs_more n {text} {between} {rest} first is moved shorter = record {
  leads = subst (λ tokens. Leads text tokens rest) (again_more n (mark parts.Bang)) (leads_on text between rest (replicate n (mark parts.Bang)) (mark parts.Bang ∷ []) first.leads (one_part parts.Bang between rest is moved));
  shorter = omega (arith, first.shorter, shorter);
}

pub unary_some : (n : ℕ) {room : ℕ} {text next rest : List ℕ} {before after all : List Op} → Passes (replicate n (mark parts.Bang)) text next → Reads Trees.post room next rest before after → all ≡ after ++ replicate n ops.Not → Reads Trees.unary room text rest before all
unary_some n {room} {text} {next} {rest} {before} {after} {all} first read steps = record {
  tree = negations n (Trees.unary_of read.tree);
  leads = subst (λ tokens. Leads text tokens rest) (sym (negations_spelled n (Trees.unary_of read.tree))) (leads_on text next rest (replicate n (mark parts.Bang)) (spelled read.tree) first.leads read.leads);
  within = subst (λ k. k ≤ room) (sym (negations_levels n (Trees.unary_of read.tree))) read.within;
  steps = steps ∙ ap (λ own. own ++ replicate n ops.Not) read.steps ∙ append_assoc before (code read.tree) (replicate n ops.Not) ∙ ap (λ own. before ++ own) (sym (negations_code n (Trees.unary_of read.tree)));
  shorter = omega (arith, first.shorter, read.shorter);
}

pub nots_more : (n : ℕ) (before between after : List Op) → between ≡ before ++ replicate n ops.Not → after ≡ between ++ ops.Not ∷ [] → after ≡ before ++ replicate (n + 1) ops.Not
nots_more n before between after first last = last ∙ ap (λ own. own ++ ops.Not ∷ []) first ∙ append_assoc before (replicate n ops.Not) (ops.Not ∷ []) ∙ ap (λ own. before ++ own) (again_more n ops.Not)

-- an atom that is a part, which is passed
pub part_one : (tree : Tree Trees.atom) (part : Part) (op : Op) → spelled tree ≡ mark part ∷ [] → levels tree ≡ 0 → code tree ≡ op ∷ [] → {room : ℕ} {text rest : List ℕ} {before all : List Op} → part_at text ≡ part → rest ≡ behind text → length rest ≤ length text → all ≡ before ++ op ∷ [] → Reads Trees.atom room text rest before all
part_one tree part op spells flat codes {text = text} {rest = rest} is moved shorter steps = one_step tree (mark part) op spells flat codes (passed part text rest is moved shorter) steps

pub true_one : {room : ℕ} {text rest : List ℕ} {before all : List Op} → part_at text ≡ parts.Named words.True → rest ≡ behind text → length rest ≤ length text → all ≡ before ++ ops.Flag true ∷ [] → Reads Trees.atom room text rest before all
true_one is moved shorter steps = part_one (Trees.flag true) (parts.Named words.True) (ops.Flag true) refl refl refl is moved shorter steps

pub false_one : {room : ℕ} {text rest : List ℕ} {before all : List Op} → part_at text ≡ parts.Named words.False → rest ≡ behind text → length rest ≤ length text → all ≡ before ++ ops.Flag false ∷ [] → Reads Trees.atom room text rest before all
false_one is moved shorter steps = part_one (Trees.flag false) (parts.Named words.False) (ops.Flag false) refl refl refl is moved shorter steps

pub null_one : {room : ℕ} {text rest : List ℕ} {before all : List Op} → part_at text ≡ parts.Named words.Null → rest ≡ behind text → length rest ≤ length text → all ≡ before ++ ops.Null ∷ [] → Reads Trees.atom room text rest before all
null_one is moved shorter steps = part_one Trees.null (parts.Named words.Null) ops.Null refl refl refl is moved shorter steps

pub whole_one : (whole : Whole) {room : ℕ} {text rest : List ℕ} {before all : List Op} → part_at text ≡ parts.Number whole → rest ≡ behind text → length rest ≤ length text → all ≡ before ++ ops.Number whole ∷ [] → Reads Trees.atom room text rest before all
whole_one whole is moved shorter steps = part_one (Trees.number whole) (parts.Number whole) (ops.Number whole) refl refl refl is moved shorter steps

-- texts and names
pub quote_passed : (held text others rest : List ℕ) → part_at text ≡ parts.Quote → quoted text ≡ Ok (held, others) → length others ≤ length text → rest ≡ after_blanks others → length rest ≤ length others → Passes (quote held ∷ []) text rest
quote_passed held text others rest is read within moved shorter = record { leads = on (is, others, read, moved) here; shorter = omega (arith, within, shorter) }

pub name_passed : (word : Word) (text rest letters : List ℕ) → part_at text ≡ parts.Named word → letters ≡ name_at text → rest ≡ behind text → length rest ≤ length text → Passes (Trees.name letters ∷ []) text rest
name_passed word text rest letters is named moved shorter = record { leads = on ((word, is), sym named, moved) here; shorter = shorter }

pub passes_on : (first later : Token) (text between rest : List ℕ) → Passes (first ∷ []) text between → Passes (later ∷ []) between rest → Passes (first ∷ later ∷ []) text rest
passes_on first later text between rest one two = record { leads = leads_on text between rest (first ∷ []) (later ∷ []) one.leads two.leads; shorter = omega (arith, one.shorter, two.shorter) }

-- the whole
pub ruled : (text begun rest : List ℕ) (before after all : List Op) → begun ≡ after_blanks text → before ≡ [] → Reads Trees.or 32 begun rest before after → part_at rest ≡ parts.End → all ≡ after → (tree : Tree Trees.or) × IsRule text tree × IsExpr all tree
ruled text begun rest before after all begins empty read ends same = (
  read.tree,
  record {
    rest = rest;
    leads = subst (λ own. Leads own (spelled read.tree) rest) begins read.leads;
    ends = ends;
    within = read.within;
  },
  same ∙ read.steps ∙ ap (λ own. own ++ code read.tree) empty,
)

pub ruled_fits : (begun rest : List ℕ) (before after all : List Op) → before ≡ [] → Reads Trees.or 32 begun rest before after → all ≡ after → fits 0 all ≡ true
ruled_fits begun rest before after all empty read same = rule_fits read.tree all read.within (same ∙ read.steps ∙ ap (λ own. own ++ code read.tree) empty)
