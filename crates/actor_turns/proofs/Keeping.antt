-- The maps of tickets as functions, and what a change of one does.
use Rattle.std.proofs.Common.{◌≡◌, ◌<◌, ◌≤◌, ◌+◌, ◌==◌, ◌⊎◌, inl, inr, ℕ, suc, Bool, true, false, cond, not, List, [], ◌∷◌, ◌++◌, if◌then◌else◌, bytes_eq, filter, length, map, nat_lt, nat_le, IsTrue, Option, Some, None, Result, Ok, Err, OnErr, arith, refl, sym, ap, subst, ◌∙◌}
use Rattle.std.proofs.lemmas.Bool.{cases_Bool, cond-true, cond-false}
use Rattle.std.proofs.lemmas.Bool.Decides.{nat_tests}
use Rattle.std.proofs.lemmas.Map.Text.{btree_map_updates_text}
use Rattle.std.proofs.lemmas.List.{length-append}
use Rattle.std.specs.BTreeMap.{BTreeMap, UpdatesBy, btree_map_len, get, get_by_text, is_at}
use Rattle.std.specs.Cmp.Lexicographic.{slice_cmp, bytes_decides}
use Rattle.std.specs.Option.{option_map, unwrap_or}
use Rattle.std.specs.Ordering.{nat_cmp, is_eq}
use Rattle.std.specs.String.{string_cmp, string_bytes}
use Rattle.std.specs.declared.string.String.{String}
use Rattle.std.specs.declared.alloc.Global.{Global}
use Rattle.std.specs.declared.vec.Vec.{Vec}
use Rattle.actor_turns.specs.Course.{Open, actor_of, tickets_of}
use Rattle.actor_turns.specs.Lines.{line_at, tickets_at, line, without}
use Rattle.actor_turns.specs.Kept.{HasKept, AreNumbered, times}
use Rattle.actor_turns.proofs.Lists.{actor_more, tickets_more, times_more, never, actor_less, tickets_less, in_one_line, fewer, times_less, some_times, all_but}

abbrev Table : Type 0
Table = BTreeMap (String Global) (Vec ℕ Global)

-- ---- lines by the names of actors

inside : (b : Bool) (one other : Option (Vec ℕ Global)) → option_map (λ tickets. tickets.items) (cond b one other) ≡ cond b (option_map (λ tickets. tickets.items) one) (option_map (λ tickets. tickets.items) other)
inside true one other = refl
inside false one other = refl

pub at_name : (old new : Table) (actor : List ℕ) (put : Option (Vec ℕ Global)) → UpdatesBy string_cmp (λ k. slice_cmp nat_cmp actor (string_bytes k)) old new put → (name : List ℕ)
    → line_at new name ≡ cond (bytes_eq actor name) (option_map (λ tickets. tickets.items) put) (line_at old name)
at_name old new actor put updates name = ap (option_map (λ tickets. tickets.items)) (btree_map_updates_text actor old new put updates name) ∙ inside (bytes_eq actor name) put (get_by_text old name)

pub behind : (tickets : List ℕ) (ticket : ℕ) → line (tickets ++ ticket ∷ []) ≡ Some (tickets ++ ticket ∷ [])
behind [] ticket = refl
behind (first ∷ tickets) ticket = refl

-- a line that has the tickets as before and one more
pub one_behind : (old new : Table) (actor : List ℕ) (before after : Vec ℕ Global) (ticket : ℕ) → UpdatesBy string_cmp (λ k. slice_cmp nat_cmp actor (string_bytes k)) old new (Some after)
    → get_by_text old actor ≡ Some before → after.items ≡ before.items ++ ticket ∷ [] → (name : List ℕ)
    → line_at new name ≡ cond (bytes_eq actor name) (line (tickets_at old actor ++ ticket ∷ [])) (line_at old name)
one_behind old new actor before after ticket updates is items name =
    at_name old new actor (Some after) updates name
    ∙ ap (λ l. cond (bytes_eq actor name) l (line_at old name)) (ap Some items ∙ sym (behind before.items ticket) ∙ ap (λ o. line (unwrap_or (option_map (λ tickets. tickets.items) o) [] ++ ticket ∷ [])) (sym is))

-- a first line
pub first_line : (old new : Table) (actor : List ℕ) (after : Vec ℕ Global) (ticket : ℕ) → UpdatesBy string_cmp (λ k. slice_cmp nat_cmp actor (string_bytes k)) old new (Some after)
    → get_by_text old actor ≡ None → after.items ≡ ticket ∷ [] → (name : List ℕ)
    → line_at new name ≡ cond (bytes_eq actor name) (line (tickets_at old actor ++ ticket ∷ [])) (line_at old name)
first_line old new actor after ticket updates is items name =
    at_name old new actor (Some after) updates name
    ∙ ap (λ l. cond (bytes_eq actor name) l (line_at old name)) (ap Some items ∙ ap (λ o. line (unwrap_or (option_map (λ tickets. tickets.items) o) [] ++ ticket ∷ [])) (sym is))

-- a line that is as before
pub as_before : (old new : Table) (actor : List ℕ) (before after : Vec ℕ Global) → UpdatesBy string_cmp (λ k. slice_cmp nat_cmp actor (string_bytes k)) old new (Some after)
    → get_by_text old actor ≡ Some before → after.items ≡ before.items → (name : List ℕ) → line_at new name ≡ line_at old name
as_before old new actor before after updates is items name =
    at_name old new actor (Some after) updates name
    ∙ elim (cases_Bool (bytes_eq actor name)) [
      | inl is_so ↦ rw (is_so) (ap Some items ∙ ap (option_map (λ tickets. tickets.items)) (sym is) ∙ ap (line_at old) ((bytes_decides actor name).0 is_so))
      | inr differs ↦ rw (differs) refl
    ]

pub on_err : {X E : Type 0} (result : Result X E) (fact : Type 0) → fact → OnErr result fact
on_err (Ok x) fact holds = tt
on_err (Err e) fact holds = holds

pub kept_line : (tickets : List ℕ) → (tickets ≡ [] → ⊥) → line tickets ≡ Some tickets
kept_line [] some = absurd (some refl)
kept_line (first ∷ tickets) some = refl

-- a ticket is out of a line, in which others are left
pub one_out : (old new : Table) (actor : List ℕ) (before after : Vec ℕ Global) (ticket : ℕ) → UpdatesBy string_cmp (λ k. slice_cmp nat_cmp actor (string_bytes k)) old new (Some after)
    → get_by_text old actor ≡ Some before → after.items ≡ without ticket before.items → (after.items ≡ [] → ⊥) → (name : List ℕ)
    → line_at new name ≡ cond (bytes_eq actor name) (line (without ticket (tickets_at old name))) (line_at old name)
one_out old new actor before after ticket updates is items some name =
    at_name old new actor (Some after) updates name
    ∙ elim (cases_Bool (bytes_eq actor name)) [
      | inl is_so ↦
          let same = (bytes_decides actor name).0 is_so in
          rw (is_so) (sym (kept_line after.items some) ∙ ap line items ∙ ap (λ o. line (without ticket (unwrap_or (option_map (λ tickets. tickets.items) o) []))) (sym is) ∙ ap (λ a. line (without ticket (tickets_at old a))) same)
      | inr differs ↦ rw (differs) refl
    ]

-- a ticket was the last of its line, and the line is taken out
pub last_out : (old between new : Table) (actor : List ℕ) (before after : Vec ℕ Global) (ticket : ℕ) → UpdatesBy string_cmp (λ k. slice_cmp nat_cmp actor (string_bytes k)) old between (Some after)
    → UpdatesBy string_cmp (λ k. slice_cmp nat_cmp actor (string_bytes k)) between new None
    → get_by_text old actor ≡ Some before → after.items ≡ without ticket before.items → after.items ≡ [] → (name : List ℕ)
    → line_at new name ≡ cond (bytes_eq actor name) (line (without ticket (tickets_at old name))) (line_at old name)
last_out old between new actor before after ticket updates removes is items none name =
    at_name between new actor None removes name
    ∙ elim (cases_Bool (bytes_eq actor name)) [
      | inl is_so ↦
          let same = (bytes_decides actor name).0 is_so in
          rw (is_so) (ap line (sym none ∙ items) ∙ ap (λ o. line (without ticket (unwrap_or (option_map (λ tickets. tickets.items) o) []))) (sym is) ∙ ap (λ a. line (without ticket (tickets_at old a))) same)
      | inr differs ↦ rw (differs) (at_name old between actor (Some after) updates name ∙ rw (differs) refl)
    ]

pub is_empty_from : (b : Bool) (n : ℕ) → b ≡ (n == 0) → b ≡ true → n ≡ 0
is_empty_from b n tests is_so = grind (arith, nat_tests)
