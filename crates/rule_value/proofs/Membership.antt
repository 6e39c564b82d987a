-- The members that names lead to.
use Rattle.std.proofs.Common.{◌≡◌, inl, inr, ◌∙◌, ap, sym, subst, ℕ, List, ◌∷◌, refl, Option, Some, None}
use Rattle.std.specs.Prelude.{MatchOption, IfSome, true, false, ◌&&◌, is_some}
use Rattle.std.specs.Str.{bytes_eq}
use Rattle.std.proofs.lemmas.Slice.Eq.{bytes_eq-Decides}
use Rattle.std.proofs.lemmas.Bool.{false_from_ne_true}
use Rattle.json_text.specs.declared.doc.Doc.{Doc}
use Rattle.json_text.specs.declared.doc.Node.{Node}
use Rattle.json_text.specs.declared.spot.Spot.{Spot}
use Rattle.json_text.specs.declared.spot.Span.{Span}
use Rattle.json_text.specs.Forest.{Forest, empty, grows}
use Rattle.json_text.specs.Doc.{bytes_read, IsNode, StandsAt, NoneNamed, IsTailOf, IsLastNamed, OfNode}
use Rattle.json_text.specs.Unescape.{HasName, name_in}
use Rattle.rule_value.specs.Values.{Event, last_named, found_at, value_as, value_found}
use Rattle.rule_value.specs.declared.value.Value.{Value as Held}
use Rattle.rule_value.specs.Standing.{Is, IsAt, IsFound}

named_in : (bytes wanted : List ℕ) (name : Option Span) → MatchOption name ⊥ (λ span. name_in bytes (Some span) ≡ wanted) → (is_some name && bytes_eq (name_in bytes name) wanted) ≡ true
named_in bytes wanted None has = absurd has
named_in bytes wanted (Some span) has = (bytes_eq-Decides (name_in bytes (Some span)) wanted).1 has

unnamed_in : (bytes wanted : List ℕ) (name : Option Span) → ¬ MatchOption name ⊥ (λ span. name_in bytes (Some span) ≡ wanted) → (is_some name && bytes_eq (name_in bytes name) wanted) ≡ false
unnamed_in bytes wanted None has = refl
unnamed_in bytes wanted (Some span) has = false_from_ne_true (bytes_eq (name_in bytes (Some span)) wanted) (λ is. has ((bytes_eq-Decides (name_in bytes (Some span)) wanted).0 is))

pub none_named : (bytes wanted : List ℕ) (values : Forest) → NoneNamed bytes wanted values → last_named bytes wanted values ≡ None
unfolding last_named
none_named bytes wanted empty nothing = refl
none_named bytes wanted (grows spot children later) nothing = rw (none_named bytes wanted later nothing.1) (rw (unnamed_in bytes wanted spot.name nothing.0) refl)

pub last_one : (bytes wanted : List ℕ) (values : Forest) (spot : Spot) (children later : Forest) → IsTailOf (grows spot children later) values → HasName bytes spot wanted → NoneNamed bytes wanted later → last_named bytes wanted values ≡ Some (grows spot children later)
unfolding last_named
last_one bytes wanted empty spot children later tail named nothing = let bad : ⊥ = cc in absurd bad
last_one bytes wanted (grows first inside rest) spot children later (inl same) named nothing = subst (λ values. last_named bytes wanted values ≡ Some (grows spot children later)) same (rw (none_named bytes wanted later nothing) (rw (named_in bytes wanted spot.name named) refl))
last_one bytes wanted (grows first inside rest) spot children later (inr further) named nothing = rw (last_one bytes wanted rest spot children later further named nothing) refl

pub found_last : (doc : Doc) (wanted : List ℕ) (values : Forest) (found : Option Node) → IfSome found (IsNode doc) → IsLastNamed doc wanted values found → IsFound doc found (last_named (bytes_read doc) wanted values)
found_last doc wanted values None inside last = subst (IsFound doc None) (sym (none_named (bytes_read doc) wanted values last)) tt
found_last doc wanted values (Some node) inside last = subst (IsFound doc (Some node)) (sym (last_one (bytes_read doc) wanted values last.spot last.children last.later last.of_them last.named last.last)) (record { inside = inside; spot = last.spot; children = last.children; later = last.later; are = refl; stands = last.here })

-- one name further
pub found_next : (doc : Doc) (event : Event) (node : Node) (values : Forest) (wanted : List ℕ) (names : List (List ℕ)) (found : Option Node) → event.bytes ≡ bytes_read doc → IsAt doc node values → IfSome found (IsNode doc) → OfNode doc node (λ spot children later. IsLastNamed doc wanted children found) → (next : Option Forest) × IsFound doc found next × (found_at event.bytes (Some values) (wanted ∷ names) ≡ found_at event.bytes next names)
found_next doc event node values wanted names found same at inside last =
    let finds : IsFound doc found (last_named (bytes_read doc) wanted at.children) = found_last doc wanted at.children found inside (last (grows at.spot at.children at.later) at.stands) in
    (last_named (bytes_read doc) wanted at.children, finds, ap (λ own. found_at event.bytes (Some own) (wanted ∷ names)) at.are ∙ ap (λ bytes. found_at event.bytes (last_named bytes wanted at.children) names) same)

module _ (doc : Doc) (event : Event) (node : Node) (values : Forest) (wanted : List ℕ) (names : List (List ℕ)) (found : Option Node) (goal : Option Forest) (same : event.bytes ≡ bytes_read doc) (at : IsAt doc node values) (inside : IfSome found (IsNode doc)) (last : OfNode doc node (λ spot children later. IsLastNamed doc wanted children found)) (all : found_at event.bytes (Some values) (wanted ∷ names) ≡ goal) where
  next : (next : Option Forest) × IsFound doc found next × (found_at event.bytes (Some values) (wanted ∷ names) ≡ found_at event.bytes next names)
  next = found_next doc event node values wanted names found same at inside last

  pub found_some : (member : Node) → found ≡ Some member → (later : Forest) × IsAt doc member later × (found_at event.bytes (Some later) names ≡ goal)
  found_some member is = pick next.0 (subst (λ own. IsFound doc own next.0) is next.1) next.2
    where
      pick : (further : Option Forest) → IsFound doc (Some member) further → found_at event.bytes (Some values) (wanted ∷ names) ≡ found_at event.bytes further names → (later : Forest) × IsAt doc member later × (found_at event.bytes (Some later) names ≡ goal)
      pick None stands leads = absurd stands
      pick (Some later) stands leads = (later, stands, sym leads ∙ all)

  pub found_none : found ≡ None → IsFound doc None goal
  found_none is = pick next.0 (subst (λ own. IsFound doc own next.0) is next.1) next.2
    where
      pick : (further : Option Forest) → IsFound doc None further → found_at event.bytes (Some values) (wanted ∷ names) ≡ found_at event.bytes further names → IsFound doc None goal
      pick None stands leads = subst (IsFound doc None) (sym leads ∙ all) tt
      pick (Some later) stands leads = absurd stands

-- the value of a member that was found
pub found_value : (doc : Doc) (node : Node) (result : Held) (values : Option Forest) → IsFound doc (Some node) values → ((spot : Spot) (children later : Forest) → StandsAt doc node (grows spot children later) → Is doc result (value_as (bytes_read doc) spot spot.kind)) → Is doc result (value_found (bytes_read doc) values)
found_value doc node result None stands each = absurd stands
found_value doc node result (Some values) at each = subst (λ own. Is doc result (value_found (bytes_read doc) (Some own))) (sym at.are) (each at.spot at.children at.later at.stands)
