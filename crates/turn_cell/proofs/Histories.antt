-- The entries of one seat, and legal histories, as a history grows.
use Rattle.std.proofs.Common.{◌≡◌, ◌≢◌, ◌⊎◌, ℕ, ◌<◌, ◌≤◌, eqb, cond, List, [], ◌∷◌, ◌++◌, All, refl, sym, ap, ◌∙◌, subst, inl, inr, ⊎_elim, arith, append_assoc, append-nil, eq-eqb, ne_eqb}
use Rattle.std.proofs.lemmas.List.Elements.{filter-append, All-nil, All-cons, All-head, All-tail}
use mathlib.Core.List.{IsPrefix, append_cancel_left, cons≢nil}
use Rattle.turn_cell.specs.declared.entry.Entry.{Entry}
use Rattle.turn_cell.specs.declared.object.Object.{Ghosts}
use Rattle.turn_cell.specs.History.{entries_of, IsLegal}

module _ {C R : Type 0} where
  pub entries_append : (k : ℕ) (a b : List (Entry C R)) → entries_of k (a ++ b) ≡ entries_of k a ++ entries_of k b
  entries_append k a b = filter-append (λ (e : Entry C R). eqb e.seat k) a b

  pub one_own : (k : ℕ) (e : Entry C R) → e.seat ≡ k → entries_of k (e ∷ []) ≡ e ∷ []
  one_own k e is = ap (λ b. cond b (e ∷ []) []) (eq-eqb e.seat k is)

  pub one_other : (k : ℕ) (e : Entry C R) → e.seat ≢ k → entries_of k (e ∷ []) ≡ []
  one_other k e is = ap (λ b. cond b (e ∷ []) []) (ne_eqb e.seat k is)

  pub more_own : (k : ℕ) (h : List (Entry C R)) (e : Entry C R) → e.seat ≡ k → entries_of k (h ++ e ∷ []) ≡ entries_of k h ++ e ∷ []
  more_own k h e is = entries_append k h (e ∷ []) ∙ ap (λ (z : List (Entry C R)). entries_of k h ++ z) (one_own k e is)

  pub more_other : (k : ℕ) (h : List (Entry C R)) (e : Entry C R) → e.seat ≢ k → entries_of k (h ++ e ∷ []) ≡ entries_of k h
  more_other k h e is = entries_append k h (e ∷ []) ∙ ap (λ (z : List (Entry C R)). entries_of k h ++ z) (one_other k e is) ∙ append-nil (entries_of k h)

  no_front : (a b : List (Entry C R)) → a ++ b ≡ [] → a ≡ []
  no_front [] b e = refl
  no_front (x ∷ a) b e = absurd (cons≢nil e)

  -- a seat with no entry in a history has none in what begins it
  pub none_before : (k : ℕ) (a l : List (Entry C R)) → IsPrefix a l → entries_of k l ≡ [] → entries_of k a ≡ []
  none_before k a l h e = no_front (entries_of k a) (entries_of k h.0) (sym (entries_append k a h.0) ∙ ap (entries_of k) h.1 ∙ e)

  -- nothing was added for a seat whose entries stayed
  pub none_added : (k : ℕ) (a t x : List (Entry C R)) → entries_of k a ≡ x → entries_of k (a ++ t) ≡ x → entries_of k t ≡ []
  none_added k a t x p q = append_cancel_left (entries_of k a) (entries_of k t) [] (sym (entries_append k a t) ∙ q ∙ sym p ∙ sym (append-nil (entries_of k a)))

  -- a seat's entries are the same in what lies between two histories with the same
  pub between : (k : ℕ) (a b l x : List (Entry C R)) → IsPrefix a b → IsPrefix b l → entries_of k a ≡ x → entries_of k l ≡ x → entries_of k b ≡ x
  between k a b l x h m p q = let all = none_added k a (h.0 ++ m.0) x p (ap (entries_of k) (sym (append_assoc a h.0 m.0) ∙ ap (λ (z : List (Entry C R)). z ++ m.0) h.1 ∙ m.1) ∙ q) in
      let none = no_front (entries_of k h.0) (entries_of k m.0) (sym (entries_append k h.0 m.0) ∙ all) in
      ap (entries_of k) (sym h.1) ∙ entries_append k a h.0 ∙ ap (λ (z : List (Entry C R)). entries_of k a ++ z) none ∙ append-nil (entries_of k a) ∙ p

  pub foreign : (k : ℕ) (t : List (Entry C R)) → entries_of k t ≡ [] → All (λ entry. entry.seat ≢ k) t
  foreign k [] e = All-nil (λ (entry : Entry C R). entry.seat ≢ k)
  foreign k (x ∷ t) e = All-cons (λ (entry : Entry C R). entry.seat ≢ k) x t apart (foreign k t (ap (λ b. cond b (x ∷ entries_of k t) (entries_of k t)) (sym (ne_eqb x.seat k apart)) ∙ e))
    where
      apart : x.seat ≢ k
      apart is = cons≢nil (ap (λ b. cond b (x ∷ entries_of k t) (entries_of k t)) (sym (eq-eqb x.seat k is)) ∙ e)

  -- a seat that was not made yet has no entry
  pub absent : (n k : ℕ) (l : List (Entry C R)) → n ≤ k → All (λ entry. entry.seat < n) l → entries_of k l ≡ []
  absent n k [] le all = refl
  absent n k (x ∷ l) le all = let small : x.seat < n = All-head (λ (entry : Entry C R). entry.seat < n) x l all in ap (λ b. cond b (x ∷ entries_of k l) (entries_of k l)) (ne_eqb x.seat k (λ is. omega arith)) ∙ absent n k l le (All-tail (λ (entry : Entry C R). entry.seat < n) x l all)

  -- an entry of a history with one more at its end is that one, or stands before it
  snoc_split : (h before after : List (Entry C R)) (e f : Entry C R) → h ++ e ∷ [] ≡ before ++ f ∷ after → ((before ≡ h) × (f ≡ e)) ⊎ ((rest : List (Entry C R)) × (h ≡ before ++ f ∷ rest))
  snoc_split [] [] after e f p = inl (refl, cc)
  snoc_split [] (b ∷ bs) [] e f p = absurd (no_end bs f (cc))
    where
      no_end : (bs : List (Entry C R)) (f : Entry C R) → [] ≡ bs ++ f ∷ [] → ⊥
      no_end [] f e = cc
      no_end (b ∷ bs) f e = cc
  snoc_split [] (b ∷ bs) (a ∷ after) e f p = absurd (no_end bs f (cc))
    where
      no_end : (bs : List (Entry C R)) (f : Entry C R) → [] ≡ bs ++ f ∷ a ∷ after → ⊥
      no_end [] f e = cc
      no_end (b ∷ bs) f e = cc
  snoc_split (x ∷ h) [] after e f p = inr (h, cc)
  snoc_split (x ∷ h) (b ∷ bs) after e f p = ⊎_elim (λ t. inl (cc, t.1)) (λ t. inr (t.0, cc)) (snoc_split h bs after e f (cc))

module _ {O C R : Type 0} (object : Ghosts O C R) (first : O) where
  pub legal_none : IsLegal object first []
  legal_none = record { each = λ before after entry e. absurd (nothing before after entry e) }
    where
      nothing : (before after : List (Entry C R)) (entry : Entry C R) → [] ≡ before ++ entry ∷ after → ⊥
      nothing [] after entry e = cc
      nothing (b ∷ bs) after entry e = cc

  pub legal_more : (h : List (Entry C R)) (e : Entry C R) → IsLegal object first h → object.takes first e.cmd → object.steps first h e → IsLegal object first (h ++ e ∷ [])
  legal_more h e legal takes steps = record {
    each = λ before after f p. ⊎_elim (λ (t : (before ≡ h) × (f ≡ e)). subst (λ (z : List (Entry C R) × Entry C R). object.takes first z.1.cmd × object.steps first z.0 z.1) (λ i. (sym t.0 i, sym t.1 i)) (takes, steps))
        (λ (t : (rest : List (Entry C R)) × (h ≡ before ++ f ∷ rest)). legal.each before t.0 f t.1) (snoc_split h before after e f p);
  }

  pub legal_before : (a l : List (Entry C R)) → IsPrefix a l → IsLegal object first l → IsLegal object first a
  legal_before a l h legal = record { each = λ before after f p. legal.each before (after ++ h.0) f (sym h.1 ∙ ap (λ (z : List (Entry C R)). z ++ h.0) p ∙ append_assoc before (f ∷ after) h.0) }
