-- What a ticket that comes or goes does to what is kept, and to a history.
use Rattle.std.proofs.Common.{◌≡◌, ◌<◌, ◌≤◌, ◌+◌, ◌==◌, ◌⊎◌, inl, inr, ℕ, suc, Bool, true, false, cond, not, List, [], ◌∷◌, ◌++◌, if◌then◌else◌, bytes_eq, filter, length, nat_lt, nat_le, IsTrue, Option, Some, None, arith, refl, sym, ap, subst, ◌∙◌, fold, append-nil}
use Rattle.std.proofs.lemmas.Bool.{cases_Bool, cond-true, cond-false}
use Rattle.std.proofs.lemmas.Bool.Decides.{nat_tests}
use Rattle.std.proofs.lemmas.List.{length-append}
use Rattle.std.proofs.lemmas.List.Sums.{fold-append}
use Rattle.std.specs.BTreeMap.{BTreeMap, UpdatesBy, btree_map_len, get, is_at}
use Rattle.std.specs.Cmp.Lexicographic.{bytes_decides}
use Rattle.std.specs.Option.{unwrap_or}
use Rattle.std.specs.Ordering.{nat_cmp, is_eq}
use Rattle.std.specs.declared.string.String.{String}
use Rattle.std.specs.declared.alloc.Global.{Global}
use Rattle.std.specs.declared.vec.Vec.{Vec}
use Rattle.turn_cell.specs.declared.entry.Entry.{Entry}
use Rattle.actor_turns.specs.declared.command.TurnsCmd.{TurnsCmd}
use Rattle.actor_turns.specs.declared.command.TurnsCmd.TheVariants.{Join, Look, Leave}
use Rattle.actor_turns.specs.declared.command.TurnsReply.{TurnsReply}
use Rattle.actor_turns.specs.declared.command.TurnsReply.TheVariants.{Joined, Left}
use Rattle.actor_turns.specs.declared.turns.Turns.{Turns}
use Rattle.actor_turns.specs.Course.{Step, Open, IsStep, Answers, LeaveAnswers, actor_of, tickets_of, open_after, given_after, open_in, given_in}
use Rattle.actor_turns.specs.Lines.{line_at, tickets_at, line, without}
use Rattle.actor_turns.specs.Kept.{HasKept, AreNumbered, times}
use Rattle.actor_turns.specs.Turns.{HasOpen, Stands}
use Rattle.actor_turns.specs.Turned.{Answered}
use Rattle.actor_turns.proofs.Lists.{actor_more, tickets_more, times_more, never, none_from_never, actor_less, tickets_less, in_one_line, fewer, times_less, some_times, all_but}

abbrev Actors : Type 0
Actors = BTreeMap ℕ (List ℕ)

abbrev Table : Type 0
Table = BTreeMap (String Global) (Vec ℕ Global)

-- ---- actors by their tickets

pub same_number : (ticket query : ℕ) → (ticket == query) ≡ true → ticket ≡ query
same_number ticket query is_so = grind (arith, nat_tests)

is_same : (ticket query : ℕ) → is_eq (nat_cmp ticket query) ≡ (ticket == query)
is_same ticket query = grind (arith, nat_tests)

pub at_ticket : (old new : Actors) (ticket : ℕ) (put : Option (List ℕ)) → UpdatesBy nat_cmp (nat_cmp ticket) old new put → (query : ℕ) → get nat_cmp new query ≡ cond (ticket == query) put (get nat_cmp old query)
at_ticket old new ticket put updates query = updates.0 query ∙ ap (λ b. cond b put (get nat_cmp old query)) (is_same ticket query)

-- ---- a ticket comes

tickets_are : (tickets : List ℕ) (found : Option (List ℕ)) → found ≡ line tickets → unwrap_or found [] ≡ tickets
tickets_are [] found is = ap (λ o. unwrap_or o []) is
tickets_are (first ∷ tickets) found is = ap (λ o. unwrap_or o []) is

module _ (held : List Open) (actors : Actors) (lines : Table) (kept : HasKept held actors lines) (ticket : ℕ) (actor : List ℕ) (free : actor_of ticket held ≡ None) where
  where_same : (name : List ℕ) → bytes_eq actor name ≡ true → tickets_at lines actor ≡ tickets_of name held
  where_same name is_so = tickets_are (tickets_of actor held) (line_at lines actor) (kept.lines_are actor) ∙ ap (λ a. tickets_of a held) ((bytes_decides actor name).0 is_so)

  by_name : (name : List ℕ) → cond (bytes_eq actor name) (line (tickets_at lines actor ++ ticket ∷ [])) (line_at lines name) ≡ line (tickets_of name held ++ cond (bytes_eq actor name) (ticket ∷ []) [])
  by_name name = elim (cases_Bool (bytes_eq actor name)) [
    | inl is_so ↦ rw (is_so) (ap (λ tickets. line (tickets ++ ticket ∷ [])) (where_same name is_so))
    | inr differs ↦ rw (differs) (kept.lines_are name ∙ ap line (sym (append-nil (tickets_of name held))))
  ]

  pub admitted : (actors' : Actors) (lines' : Table) → UpdatesBy nat_cmp (nat_cmp ticket) actors actors' (Some actor) → btree_map_len actors' ≡ btree_map_len actors + 1
      → ((name : List ℕ) → line_at lines' name ≡ cond (bytes_eq actor name) (line (tickets_at lines actor ++ ticket ∷ [])) (line_at lines name))
      → HasKept (held ++ record { ticket = ticket; actor = actor } ∷ []) actors' lines'
  admitted actors' lines' puts more enters = record {
    actors_are = λ query. at_ticket actors actors' ticket (Some actor) puts query ∙ ap (λ o. cond (ticket == query) (Some actor) o) (kept.actors_are query) ∙ sym (actor_more held ticket actor query free);
    lines_are = λ name. enters name ∙ by_name name ∙ ap line (sym (tickets_more held ticket actor name));
    count = more ∙ ap (λ n. n + 1) kept.count ∙ sym (length-append held (record { ticket = ticket; actor = actor } ∷ []));
  }

  back : (query : ℕ) → cond (ticket == query) None (cond (ticket == query) (Some actor) (get nat_cmp actors query)) ≡ actor_of query held
  back query = elim (cases_Bool (ticket == query)) [
    | inl is_so ↦ rw (is_so) (sym free ∙ ap (λ t. actor_of t held) (same_number ticket query is_so))
    | inr differs ↦ rw (differs) (kept.actors_are query)
  ]

  -- it comes, and goes for want of memory
  pub undone : (actors' actors'' : Actors) (lines' : Table) → UpdatesBy nat_cmp (nat_cmp ticket) actors actors' (Some actor) → btree_map_len actors' ≡ btree_map_len actors + 1
      → UpdatesBy nat_cmp (nat_cmp ticket) actors' actors'' None → btree_map_len actors'' + 1 ≡ btree_map_len actors' → ((name : List ℕ) → line_at lines' name ≡ line_at lines name) → HasKept held actors'' lines'
  undone actors' actors'' lines' puts more takes less same = record {
    actors_are = λ query. at_ticket actors' actors'' ticket None takes query ∙ ap (λ o. cond (ticket == query) None o) (at_ticket actors actors' ticket (Some actor) puts query) ∙ back query;
    lines_are = λ name. same name ∙ kept.lines_are name;
    count = let full = kept.count in omega (arith, less, more, full);
  }

number_more : (b : Bool) (n : ℕ) → n ≡ 0 → n + cond b 1 0 < 2
number_more true n zero_times = omega (arith, zero_times)
number_more false n zero_times = omega (arith, zero_times)

is_under : (n m : ℕ) → n < m → IsTrue (nat_lt n m)
is_under n m less = grind (arith, nat_tests)

under_is : (n m : ℕ) → IsTrue (nat_lt n m) → n < m
under_is n m is_so = grind (arith, nat_tests)

is_within : (n m : ℕ) → n ≤ m → IsTrue (nat_le n m)
is_within n m less = grind (arith, nat_tests)

pub within_is : (n m : ℕ) → IsTrue (nat_le n m) → n ≤ m
within_is n m is_so = grind (arith, nat_tests)

other_number : (ticket query : ℕ) → ticket < query → (ticket == query) ≡ false
other_number ticket query less = grind (arith, nat_tests)

-- a ticket that is greater than all that were given
pub numbered_more : (held : List Open) (given : ℕ) (actor : List ℕ) → AreNumbered held given → AreNumbered (held ++ record { ticket = given + 1; actor = actor } ∷ []) (given + 1)
numbered_more held given actor numbered = record {
  once = λ query. is_under _ 2 (subst (λ n. n < 2) (sym (times_more held (given + 1) actor query)) (elim (cases_Bool (given + 1 == query)) [
    | inl is_so ↦ number_more (given + 1 == query) (times query held) (never held query (numbered.up_to query (let same = same_number (given + 1) query is_so in omega (arith, same))))
    | inr differs ↦ rw (differs) (let old = under_is _ 2 (numbered.once query) in omega (arith, old))
  ]));
  up_to = λ query later.
      actor_more held (given + 1) actor query (numbered.up_to (given + 1) (omega arith))
      ∙ rw (other_number (given + 1) query later) (numbered.up_to query (omega (arith, later)));
}

-- ---- a ticket goes

gone : (b : Bool) (found : Option (List ℕ)) → found ≡ None → cond b None found ≡ None
gone true found none = refl
gone false found none = none

pub numbered_less : (held : List Open) (given ticket : ℕ) → AreNumbered held given → AreNumbered (all_but ticket held) given
numbered_less held given ticket numbered = record {
  once = λ query. is_under _ 2 (let old = under_is _ 2 (numbered.once query) in let less = times_less held ticket query in omega (arith, old, less));
  up_to = λ query later. actor_less held ticket query ∙ gone (ticket == query) (actor_of query held) (numbered.up_to query later);
}

module _ (held : List Open) (actors : Actors) (lines : Table) (kept : HasKept held actors lines) (ticket : ℕ) (actor : List ℕ) (is : actor_of ticket held ≡ Some actor) (once : IsTrue (nat_lt (times ticket held) 2)) where
  out_of_line : (name : List ℕ) → cond (bytes_eq actor name) (line (without ticket (tickets_at lines name))) (line_at lines name) ≡ line (without ticket (tickets_of name held))
  out_of_line name = elim (cases_Bool (bytes_eq actor name)) [
    | inl is_so ↦ rw (is_so) (ap (λ tickets. line (without ticket tickets)) (tickets_are (tickets_of name held) (line_at lines name) (kept.lines_are name)))
    | inr differs ↦ rw (differs) (kept.lines_are name ∙ ap line (sym (in_one_line held ticket actor name (under_is _ 2 once) is differs)))
  ]

  pub taken_out : (actors' : Actors) (lines' : Table) → UpdatesBy nat_cmp (nat_cmp ticket) actors actors' None → btree_map_len actors' + 1 ≡ btree_map_len actors
      → ((name : List ℕ) → line_at lines' name ≡ cond (bytes_eq actor name) (line (without ticket (tickets_at lines name))) (line_at lines name)) → HasKept (all_but ticket held) actors' lines'
  taken_out actors' lines' takes less leaves = record {
    actors_are = λ query. at_ticket actors actors' ticket None takes query ∙ ap (λ o. cond (ticket == query) None o) (kept.actors_are query) ∙ sym (actor_less held ticket query);
    lines_are = λ name. leaves name ∙ out_of_line name ∙ ap line (sym (tickets_less held ticket name));
    count =
        let full = kept.count in
        let all = fewer held ticket in
        let one = some_times held ticket actor is in
        let most = under_is _ 2 once in
        omega (arith, less, full, all, one, most);
  }

pub less_held : (held : List Open) (ticket most : ℕ) → length held ≤ most → length (all_but ticket held) ≤ most
less_held held ticket most few = let all = fewer held ticket in omega (arith, all, few)

-- ---- what a command does

pub has_joined : (turns turns' : Turns) (actor : List ℕ) (waiting : ℕ) → waiting ≡ btree_map_len turns.actors → waiting < 4096 → turns'.given ≡ turns.given + 1 → turns'.used ≡ turns.used
    → ((held : List Open) → HasKept held turns.actors turns.lines → actor_of (turns.given + 1) held ≡ None → HasKept (held ++ record { ticket = turns.given + 1; actor = actor } ∷ []) turns'.actors turns'.lines)
    → Answered turns (Join actor) (Joined (turns.given + 1)) turns'
has_joined turns turns' actor waiting counted few given used admits = record {
  answers = λ held has. (let full = has.kept.count in omega (arith, full, counted, few), refl);
  held = λ held has. record {
    kept = admits held has.kept (has.numbered.up_to (turns.given + 1) (omega arith));
    numbered = subst (AreNumbered (held ++ record { ticket = turns.given + 1; actor = actor } ∷ [])) (sym given) (numbered_more held turns.given actor has.numbered);
    few = is_within _ 4096 (let full = has.kept.count in let one = length-append held (record { ticket = turns.given + 1; actor = actor } ∷ []) in omega (arith, full, counted, few, one));
  };
  given = given;
  used = used;
}

pub has_left : (turns turns' : Turns) (ticket : ℕ) (actor : List ℕ) → get nat_cmp turns.actors ticket ≡ Some actor → UpdatesBy nat_cmp (nat_cmp ticket) turns.actors turns'.actors None → btree_map_len turns'.actors + 1 ≡ btree_map_len turns.actors
    → ((name : List ℕ) → line_at turns'.lines name ≡ cond (bytes_eq actor name) (line (without ticket (tickets_at turns.lines name))) (line_at turns.lines name)) → turns'.given ≡ turns.given → turns'.used ≡ turns.used
    → Answered turns (Leave ticket) Left turns'
has_left turns turns' ticket actor found takes less leaves given used = record {
  answers = λ held has. subst (λ o. LeaveAnswers o Left) (sym found ∙ has.kept.actors_are ticket) refl;
  held = λ held has. record {
    kept = taken_out held turns.actors turns.lines has.kept ticket actor (sym (has.kept.actors_are ticket) ∙ found) (has.numbered.once ticket) turns'.actors turns'.lines takes less leaves;
    numbered = subst (AreNumbered (all_but ticket held)) (sym given) (numbered_less held turns.given ticket has.numbered);
    few = is_within _ 4096 (less_held held ticket 4096 (within_is _ 4096 has.few));
  };
  given = given;
  used = used;
}
