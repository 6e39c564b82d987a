-- The last member of a name.
use Rattle.std.proofs.Common.{◌≡◌, inl, inr, ℕ, Bool, true, false, cond, List, Option, Some, None, refl, sym, ap, subst, ◌∙◌}
use Rattle.std.specs.Prelude.{MatchOption}
use Rattle.std.proofs.lemmas.Slice.Eq.{bytes_eq-Decides}
use Rattle.json_text.specs.declared.spot.Span.{Span}
use Rattle.json_text.specs.declared.spot.Spot.{Spot}
use Rattle.json_text.specs.declared.doc.Doc.{Doc}
use Rattle.json_text.specs.declared.doc.Node.{Node}
use Rattle.json_text.specs.Forest.{Forest, empty, grows}
use Rattle.json_text.specs.Unescape.{unescaped, content, HasName}
use Rattle.json_text.specs.Doc.{bytes_read, NoneNamed, IsTailOf, IsLastNamed, IsUnlessNull, IsLastThere}
use Rattle.state_api.specs.Values.{Value, AreAt, is_null, values_in, has_name, last_named, or_else, unless_null}

pub none_some : {A : Type 0} (x : A) (B : Type 0) → None ≡ Some x → B
none_some x B h = let bad : ⊥ = cc in absurd bad

pub false_true : (B : Type 0) → false ≡ true → B
false_true B h = let bad : ⊥ = cc in absurd bad

pub not_true : (b : Bool) → (b ≡ true → ⊥) → b ≡ false
not_true true h = absurd (h refl)
not_true false h = refl

pub named : (bytes : List ℕ) (o : Option Span) (name : List ℕ) → MatchOption o ⊥ (λ span. unescaped (content bytes span) ≡ name) → has_name bytes o name ≡ true
named bytes None name h = absurd h
named bytes (Some span) name h = (bytes_eq-Decides (unescaped (content bytes span)) name).1 h

pub unnamed : (bytes : List ℕ) (o : Option Span) (name : List ℕ) → ¬ MatchOption o ⊥ (λ span. unescaped (content bytes span) ≡ name) → has_name bytes o name ≡ false
unnamed bytes None name h = refl
unnamed bytes (Some span) name h = not_true _ (λ e. h ((bytes_eq-Decides (unescaped (content bytes span)) name).0 e))

pub none_last : (bytes name : List ℕ) (values : Forest) → NoneNamed bytes name values → last_named bytes name (values_in values) ≡ None
none_last bytes name empty h = refl
none_last bytes name (grows s c l) h =
    ap (λ r. or_else r (cond (has_name bytes s.name name) (Some (record { spot = s; children = c })) None)) (none_last bytes name l h.1)
    ∙ ap (λ b. cond b (Some (record { spot = s; children = c })) None) (unnamed bytes s.name name h.0)

here_last : (bytes name : List ℕ) (s : Spot) (c l : Forest) → HasName bytes s name → NoneNamed bytes name l → last_named bytes name (values_in (grows s c l)) ≡ Some (record { spot = s; children = c })
here_last bytes name s c l h none =
    ap (λ r. or_else r (cond (has_name bytes s.name name) (Some (record { spot = s; children = c })) None)) (none_last bytes name l none)
    ∙ ap (λ b. cond b (Some (record { spot = s; children = c })) None) (named bytes s.name name h)

pub tail_last : (bytes name : List ℕ) (s : Spot) (c l values : Forest) → IsTailOf (grows s c l) values → HasName bytes s name → NoneNamed bytes name l → last_named bytes name (values_in values) ≡ Some (record { spot = s; children = c })
tail_last bytes name s c l empty part h none = absurd (let bad : ⊥ = cc in bad)
tail_last bytes name s c l (grows t d r) (inl e) h none = subst (λ v. last_named bytes name (values_in v) ≡ Some (record { spot = s; children = c })) e (here_last bytes name s c l h none)
tail_last bytes name s c l (grows t d r) (inr further) h none =
    ap (λ x. or_else x (cond (has_name bytes t.name name) (Some (record { spot = t; children = d })) None)) (tail_last bytes name s c l r further h none)

pub last_is : (doc : Doc) (name : List ℕ) (values : Forest) (found : Option Node) → IsLastNamed doc name values found → AreAt doc found (last_named (bytes_read doc) name (values_in values))
last_is doc name values None h = subst (AreAt doc None) (sym (none_last (bytes_read doc) name values h)) tt
last_is doc name values (Some node) h =
    subst (AreAt doc (Some node)) (sym (tail_last (bytes_read doc) name h.spot h.children h.later values h.of_them h.named h.last)) (h.later, h.here)

-- unless it is null
unless_is : (doc : Doc) (found there : Option Node) (value : Option Value) → AreAt doc found value → IsUnlessNull doc found there → AreAt doc there (unless_null value)
unless_is doc None there None at is = subst (λ r. AreAt doc r None) (sym is) tt
unless_is doc None there (Some value) at is = absurd at
unless_is doc (Some node) there None at is = absurd at
unless_is doc (Some node) there (Some value) at is = subst (λ r. AreAt doc r (unless_null (Some value))) (sym (is (grows value.spot value.children at.0) at.1)) (by (is_null value.spot.kind))
  where
    by : (null : Bool) → AreAt doc (cond null None (Some node)) (cond null None (Some value))
    by true = tt
    by false = at

pub there_is : (doc : Doc) (name : List ℕ) (values : Forest) (there : Option Node) → IsLastThere doc name values there → AreAt doc there (unless_null (last_named (bytes_read doc) name (values_in values)))
there_is doc name values there is = unless_is doc is.0 there _ (last_is doc name values is.0 is.1) is.2
