-- Open tickets in a list: one more, one less.
use Rattle.std.proofs.Common.{◌≡◌, ◌<◌, ◌≤◌, ◌+◌, ◌==◌, ◌⊎◌, inl, inr, ℕ, suc, Bool, true, false, cond, not, List, [], ◌∷◌, ◌++◌, if◌then◌else◌, bytes_eq, filter, length, map, nat_lt, Option, Some, None, arith, refl, sym, ap, subst, ◌∙◌}
use Rattle.std.proofs.lemmas.Bool.{cases_Bool, cond-true, cond-false}
use Rattle.std.proofs.lemmas.Bool.Decides.{nat_tests}
use Rattle.actor_turns.specs.Course.{Open, actor_of, tickets_of}
use Rattle.actor_turns.specs.Lines.{line, without, before}
use Rattle.actor_turns.specs.Kept.{times}

apart : {X : Type 0} (x : X) → Some x ≡ None → ⊥
apart x e = let bad : ⊥ = cc in bad

pub other_true : (one ticket query : ℕ) → (one == ticket) ≡ false → (one == query) ≡ true → (ticket == query) ≡ false
other_true one ticket query differs is_so = grind (arith, nat_tests)

pub same_true : (one ticket query : ℕ) → (one == ticket) ≡ true → (one == query) ≡ (ticket == query)
same_true one ticket query is_so = grind (arith, nat_tests)

-- ---- one more

pub actor_more : (held : List Open) (ticket : ℕ) (actor : List ℕ) (query : ℕ) → actor_of ticket held ≡ None
    → actor_of query (held ++ record { ticket = ticket; actor = actor } ∷ []) ≡ cond (ticket == query) (Some actor) (actor_of query held)
actor_more [] ticket actor query none = refl
actor_more (first ∷ held) ticket actor query none = elim (cases_Bool (first.ticket == ticket)) [
  | inl is_so ↦ absurd (apart first.actor (sym (cond-true _ (Some first.actor) (actor_of ticket held) is_so) ∙ none))
  | inr differs ↦
      let rest = actor_more held ticket actor query (sym (cond-false _ (Some first.actor) (actor_of ticket held) differs) ∙ none) in
      elim (cases_Bool (first.ticket == query)) [
        | inl here ↦ rw (here) (rw (other_true first.ticket ticket query differs here) refl)
        | inr there ↦ rw (there) rest
      ]
]

pub tickets_more : (held : List Open) (ticket : ℕ) (actor name : List ℕ) → tickets_of name (held ++ record { ticket = ticket; actor = actor } ∷ []) ≡ tickets_of name held ++ cond (bytes_eq actor name) (ticket ∷ []) []
tickets_more [] ticket actor name = elim (cases_Bool (bytes_eq actor name)) [
  | inl is_so ↦ rw (is_so) refl
  | inr differs ↦ rw (differs) refl
]
tickets_more (first ∷ held) ticket actor name = elim (cases_Bool (bytes_eq first.actor name)) [
  | inl is_so ↦ rw (is_so) (ap (λ tickets. first.ticket ∷ tickets) (tickets_more held ticket actor name))
  | inr differs ↦ rw (differs) (tickets_more held ticket actor name)
]

pub times_more : (held : List Open) (ticket : ℕ) (actor : List ℕ) (query : ℕ) → times query (held ++ record { ticket = ticket; actor = actor } ∷ []) ≡ times query held + cond (ticket == query) 1 0
times_more [] ticket actor query = elim (cases_Bool (ticket == query)) [
  | inl is_so ↦ rw (is_so) refl
  | inr differs ↦ rw (differs) refl
]
times_more (first ∷ held) ticket actor query = elim (cases_Bool (first.ticket == query)) [
  | inl is_so ↦ rw (is_so) (let rest = times_more held ticket actor query in omega (arith, rest))
  | inr differs ↦ rw (differs) (times_more held ticket actor query)
]

pub never : (held : List Open) (ticket : ℕ) → actor_of ticket held ≡ None → times ticket held ≡ 0
never [] ticket none = refl
never (first ∷ held) ticket none = elim (cases_Bool (first.ticket == ticket)) [
  | inl is_so ↦ absurd (apart first.actor (sym (cond-true _ (Some first.actor) (actor_of ticket held) is_so) ∙ none))
  | inr differs ↦ rw (differs) (never held ticket (sym (cond-false _ (Some first.actor) (actor_of ticket held) differs) ∙ none))
]

pub none_from_never : (held : List Open) (ticket : ℕ) → times ticket held ≡ 0 → actor_of ticket held ≡ None
none_from_never [] ticket zero_times = refl
none_from_never (first ∷ held) ticket zero_times = elim (cases_Bool (first.ticket == ticket)) [
  | inl is_so ↦ let some : suc (times ticket held) ≡ 0 = subst (λ b. length (cond b (first ∷ filter (λ (o : Open). o.ticket == ticket) held) (filter (λ (o : Open). o.ticket == ticket) held)) ≡ 0) is_so zero_times in absurd (omega (arith, some))
  | inr differs ↦
      let rest : times ticket held ≡ 0 = subst (λ b. length (cond b (first ∷ filter (λ (o : Open). o.ticket == ticket) held) (filter (λ (o : Open). o.ticket == ticket) held)) ≡ 0) differs zero_times in
      rw (differs) (none_from_never held ticket rest)
]

-- ---- one less

abbrev pub all_but : ℕ → List Open → List Open
all_but ticket held = filter (λ (o : Open). not (o.ticket == ticket)) held

twice : (b : Bool) (actor : List ℕ) (rest : Option (List ℕ)) → cond b None rest ≡ cond b None (cond b (Some actor) rest)
twice true actor rest = refl
twice false actor rest = refl

pub actor_less : (held : List Open) (ticket query : ℕ) → actor_of query (all_but ticket held) ≡ cond (ticket == query) None (actor_of query held)
actor_less [] ticket query = elim (cases_Bool (ticket == query)) [
  | inl is_so ↦ rw (is_so) refl
  | inr differs ↦ rw (differs) refl
]
actor_less (first ∷ held) ticket query = elim (cases_Bool (first.ticket == ticket)) [
  | inl is_so ↦ rw (is_so) (rw (same_true first.ticket ticket query is_so) (actor_less held ticket query ∙ twice (ticket == query) first.actor (actor_of query held)))
  | inr differs ↦
      elim (cases_Bool (first.ticket == query)) [
        | inl here ↦ rw (differs) (rw (here) (rw (other_true first.ticket ticket query differs here) refl))
        | inr there ↦ rw (differs) (rw (there) (actor_less held ticket query))
      ]
]

pub tickets_less : (held : List Open) (ticket : ℕ) (name : List ℕ) → tickets_of name (all_but ticket held) ≡ without ticket (tickets_of name held)
tickets_less [] ticket name = refl
tickets_less (first ∷ held) ticket name = elim (cases_Bool (first.ticket == ticket)) [
  | inl is_so ↦
      elim (cases_Bool (bytes_eq first.actor name)) [
        | inl mine ↦ rw (is_so) (rw (mine) (rw (is_so) (tickets_less held ticket name)))
        | inr other ↦ rw (is_so) (rw (other) (tickets_less held ticket name))
      ]
  | inr differs ↦
      elim (cases_Bool (bytes_eq first.actor name)) [
        | inl mine ↦ rw (differs) (rw (mine) (rw (differs) (ap (λ tickets. first.ticket ∷ tickets) (tickets_less held ticket name))))
        | inr other ↦ rw (differs) (rw (other) (tickets_less held ticket name))
      ]
]

-- a ticket that is not there is in differs line
pub not_in_line : (held : List Open) (ticket : ℕ) (name : List ℕ) → times ticket held ≡ 0 → without ticket (tickets_of name held) ≡ tickets_of name held
not_in_line [] ticket name zero_times = refl
not_in_line (first ∷ held) ticket name zero_times = elim (cases_Bool (first.ticket == ticket)) [
  | inl is_so ↦ let some : suc (times ticket held) ≡ 0 = subst (λ b. length (cond b (first ∷ filter (λ (o : Open). o.ticket == ticket) held) (filter (λ (o : Open). o.ticket == ticket) held)) ≡ 0) is_so zero_times in absurd (omega (arith, some))
  | inr differs ↦
      let rest : times ticket held ≡ 0 = subst (λ b. length (cond b (first ∷ filter (λ (o : Open). o.ticket == ticket) held) (filter (λ (o : Open). o.ticket == ticket) held)) ≡ 0) differs zero_times in
      elim (cases_Bool (bytes_eq first.actor name)) [
        | inl mine ↦ rw (mine) (rw (differs) (ap (λ tickets. first.ticket ∷ tickets) (not_in_line held ticket name rest)))
        | inr other ↦ rw (other) (not_in_line held ticket name rest)
      ]
]

some_same : {x y : List ℕ} → Some x ≡ Some y → x ≡ y
some_same e = cc

-- a ticket that is there once is in the line of its actor alone
pub in_one_line : (held : List Open) (ticket : ℕ) (actor name : List ℕ) → times ticket held < 2 → actor_of ticket held ≡ Some actor → bytes_eq actor name ≡ false → without ticket (tickets_of name held) ≡ tickets_of name held
in_one_line [] ticket actor name once is other = refl
in_one_line (first ∷ held) ticket actor name once is other = elim (cases_Bool (first.ticket == ticket)) [
  | inl is_so ↦
      let more : suc (times ticket held) < 2 = subst (λ b. length (cond b (first ∷ filter (λ (o : Open). o.ticket == ticket) held) (filter (λ (o : Open). o.ticket == ticket) held)) < 2) is_so once in
      let same : first.actor ≡ actor = some_same (sym (cond-true _ (Some first.actor) (actor_of ticket held) is_so) ∙ is) in
      rw (ap (λ a. bytes_eq a name) same ∙ other) (not_in_line held ticket name (omega (arith, more)))
  | inr differs ↦
      let rest : times ticket held < 2 = subst (λ b. length (cond b (first ∷ filter (λ (o : Open). o.ticket == ticket) held) (filter (λ (o : Open). o.ticket == ticket) held)) < 2) differs once in
      let there : actor_of ticket held ≡ Some actor = sym (cond-false _ (Some first.actor) (actor_of ticket held) differs) ∙ is in
      elim (cases_Bool (bytes_eq first.actor name)) [
        | inl mine ↦ rw (mine) (rw (differs) (ap (λ tickets. first.ticket ∷ tickets) (in_one_line held ticket actor name rest there other)))
        | inr off ↦ rw (off) (in_one_line held ticket actor name rest there other)
      ]
]

pub fewer : (held : List Open) (ticket : ℕ) → length (all_but ticket held) + times ticket held ≡ length held
fewer [] ticket = refl
fewer (first ∷ held) ticket = elim (cases_Bool (first.ticket == ticket)) [
  | inl is_so ↦ rw (is_so) (let rest = fewer held ticket in omega (arith, rest))
  | inr differs ↦ rw (differs) (let rest = fewer held ticket in omega (arith, rest))
]

pub times_less : (held : List Open) (ticket query : ℕ) → times query (all_but ticket held) ≤ times query held
times_less [] ticket query = omega arith
times_less (first ∷ held) ticket query = elim (cases_Bool (first.ticket == ticket)) [
  | inl is_so ↦
      elim (cases_Bool (first.ticket == query)) [
        | inl here ↦ rw (is_so) (rw (here) (let rest = times_less held ticket query in omega (arith, rest)))
        | inr there ↦ rw (is_so) (rw (there) (times_less held ticket query))
      ]
  | inr differs ↦
      elim (cases_Bool (first.ticket == query)) [
        | inl here ↦ rw (differs) (rw (here) (let rest = times_less held ticket query in omega (arith, rest)))
        | inr there ↦ rw (differs) (rw (there) (times_less held ticket query))
      ]
]

pub some_times : (held : List Open) (ticket : ℕ) (actor : List ℕ) → actor_of ticket held ≡ Some actor → 1 ≤ times ticket held
some_times [] ticket actor is = absurd (let bad : ⊥ = cc in bad)
some_times (first ∷ held) ticket actor is = elim (cases_Bool (first.ticket == ticket)) [
  | inl is_so ↦ rw (is_so) (omega arith)
  | inr differs ↦ rw (differs) (some_times held ticket actor (sym (cond-false _ (Some first.actor) (actor_of ticket held) differs) ∙ is))
]
