-- The last member of a name.
use Rattle.std.proofs.Common.{◌≡◌, inl, inr, ℕ, Bool, true, false, cond, List, Option, Some, None, refl, sym, ap, subst, ◌∙◌}
use Rattle.std.specs.Prelude.{MatchOption}
use Rattle.std.proofs.lemmas.Slice.Eq.{bytes_eq-Decides}
use Rattle.json_text.specs.declared.spot.Span.{Span}
use Rattle.json_text.specs.declared.spot.Spot.{Spot}
use Rattle.json_text.specs.declared.doc.Doc.{Doc}
use Rattle.json_text.specs.declared.doc.Node.{Node}
use Rattle.json_text.specs.Forest.{Forest, empty, grows}
use Rattle.json_text.specs.Unescape.{unescaped, content, HasName}
use Rattle.json_text.specs.Doc.{bytes_read, NoneNamed, IsTailOf, IsLastNamed}
use Rattle.bind_api.specs.Values.{AreAt, values_in, has_name, last_named, or_else}

not_true : (b : Bool) → (b ≡ true → ⊥) → b ≡ false
not_true true h = absurd (h refl)
not_true false h = refl

named : (bytes : List ℕ) (o : Option Span) (name : List ℕ) → MatchOption o ⊥ (λ span. unescaped (content bytes span) ≡ name) → has_name bytes o name ≡ true
named bytes None name h = absurd h
named bytes (Some span) name h = (bytes_eq-Decides (unescaped (content bytes span)) name).1 h

unnamed : (bytes : List ℕ) (o : Option Span) (name : List ℕ) → ¬ MatchOption o ⊥ (λ span. unescaped (content bytes span) ≡ name) → has_name bytes o name ≡ false
unnamed bytes None name h = refl
unnamed bytes (Some span) name h = not_true _ (λ e. h ((bytes_eq-Decides (unescaped (content bytes span)) name).0 e))

none_last : (bytes name : List ℕ) (values : Forest) → NoneNamed bytes name values → last_named bytes name (values_in values) ≡ None
none_last bytes name empty h = refl
none_last bytes name (grows s c l) h =
    ap (λ r. or_else r (cond (has_name bytes s.name name) (Some (record { spot = s; children = c })) None)) (none_last bytes name l h.1)
    ∙ ap (λ b. cond b (Some (record { spot = s; children = c })) None) (unnamed bytes s.name name h.0)

here_last : (bytes name : List ℕ) (s : Spot) (c l : Forest) → HasName bytes s name → NoneNamed bytes name l → last_named bytes name (values_in (grows s c l)) ≡ Some (record { spot = s; children = c })
here_last bytes name s c l h none =
    ap (λ r. or_else r (cond (has_name bytes s.name name) (Some (record { spot = s; children = c })) None)) (none_last bytes name l none)
    ∙ ap (λ b. cond b (Some (record { spot = s; children = c })) None) (named bytes s.name name h)

tail_last : (bytes name : List ℕ) (s : Spot) (c l values : Forest) → IsTailOf (grows s c l) values → HasName bytes s name → NoneNamed bytes name l → last_named bytes name (values_in values) ≡ Some (record { spot = s; children = c })
tail_last bytes name s c l empty part h none = absurd (let bad : ⊥ = cc in bad)
tail_last bytes name s c l (grows t d r) (inl e) h none = subst (λ v. last_named bytes name (values_in v) ≡ Some (record { spot = s; children = c })) e (here_last bytes name s c l h none)
tail_last bytes name s c l (grows t d r) (inr further) h none =
    ap (λ x. or_else x (cond (has_name bytes t.name name) (Some (record { spot = t; children = d })) None)) (tail_last bytes name s c l r further h none)

pub last_is : (doc : Doc) (name : List ℕ) (values : Forest) (found : Option Node) → IsLastNamed doc name values found → AreAt doc found (last_named (bytes_read doc) name (values_in values))
last_is doc name values None h = subst (AreAt doc None) (sym (none_last (bytes_read doc) name values h)) tt
last_is doc name values (Some node) h =
    subst (AreAt doc (Some node)) (sym (tail_last (bytes_read doc) name h.spot h.children h.later values h.of_them h.named h.last)) (h.later, h.here)
