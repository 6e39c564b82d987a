-- The values of nodes, and the last member of a name.
use Rattle.std.proofs.Common.{◌≡◌, ◌∙◌, ap, sym, subst, ℕ, Bool, true, false, cond, List, Option, Some, None}
use Rattle.std.specs.Prelude.{IfSome}
use Rattle.json_text.specs.declared.doc.Doc.{Doc}
use Rattle.json_text.specs.declared.doc.Node.{Node}
use Rattle.json_text.specs.declared.spot.Spot.{Spot}
use Rattle.json_text.specs.Forest.{Forest, grows}
use Rattle.json_text.specs.Doc.{bytes_read, IsNode, IsLastNamed, IsLastThere, IsUnlessNull, OfNode}
use Rattle.rule_value.specs.Values.{last_named, held}
use Rattle.rule_value.specs.Standing.{IsAt, IsFound}
use Rattle.rule_value.proofs.Membership.{found_last}
use Rattle.json_text.proofs.Walks.{stands_inside}
use Rattle.topic_spec.specs.Listed.{is_null, kind_of, there}

-- ---- values of nodes

pub at_node : (doc : Doc) (n : Node) (fact : Spot → Forest → Forest → Type 0) → OfNode doc n fact → (values : Forest) (at : IsAt doc n values) → fact at.spot at.children at.later
at_node doc n fact h values at = h (grows at.spot at.children at.later) at.stands

pub found_some : (doc : Doc) (found : Option Node) (n : Node) (P : Option Forest → Type 0) → found ≡ Some n → ((values : Forest) → IsAt doc n values → P (Some values)) → (values : Option Forest) → IsFound doc found values → P values
found_some doc found n P e f None h = absurd (subst (λ x. IsFound doc x None) e h)
found_some doc found n P e f (Some values) h = f values (subst (λ x. IsFound doc x (Some values)) e h)

pub found_none : (doc : Doc) (found : Option Node) (P : Option Forest → Type 0) → found ≡ None → P None → (values : Option Forest) → IsFound doc found values → P values
found_none doc found P e f None h = f
found_none doc found P e f (Some values) h = absurd (subst (λ x. IsFound doc x (Some values)) e h)

-- ---- the last member of a name, unless it is null

inside_last : (doc : Doc) (wanted : List ℕ) (values : Forest) (found : Option Node) → IsLastNamed doc wanted values found → IfSome found (IsNode doc)
inside_last doc wanted values None last = tt
inside_last doc wanted values (Some node) last = stands_inside doc node.number last.spot last.children last.later last.here

unless_is : (doc : Doc) (found result : Option Node) (value : Option Forest) → IsFound doc found value → IsUnlessNull doc found result → IsFound doc result (there value)
unless_is doc None result None at is = subst (λ r. IsFound doc r None) (sym is) tt
unless_is doc None result (Some values) at is = absurd at
unless_is doc (Some node) result None at is = absurd at
unless_is doc (Some node) result (Some values) at is =
    let null : is_null at.spot.kind ≡ is_null (kind_of values) = ap (λ v. is_null (kind_of v)) (sym at.are) in
    subst (λ r. IsFound doc r (there (Some values))) (sym (is (grows at.spot at.children at.later) at.stands ∙ ap (λ b. cond b None (Some node)) null)) (by (is_null (kind_of values)))
  where
    by : (null : Bool) → IsFound doc (cond null None (Some node)) (cond null None (Some values))
    by true = tt
    by false = at

pub there_is : (doc : Doc) (n : Node) (wanted : List ℕ) (result : Option Node) → OfNode doc n (λ spot children later. IsLastThere doc wanted children result) → (values : Forest) → IsAt doc n values → IsFound doc result (there (last_named (bytes_read doc) wanted (held values)))
there_is doc n wanted result is values at =
    let last = at_node doc n _ is values at in
    subst (λ own. IsFound doc result (there (last_named (bytes_read doc) wanted (held own)))) (sym at.are)
    (unless_is doc last.0 result _ (found_last doc wanted at.children last.0 (inside_last doc wanted at.children last.0 last.1) last.1) last.2)
