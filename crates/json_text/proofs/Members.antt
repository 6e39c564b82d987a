-- Searching the members of a map for the last of a name.
use Rattle.std.proofs.Common.{◌≡◌, ◌≢◌, inl, inr, ℕ, suc, ◌-◌, Bool, true, false, cond, List, Option, Some, None, refl, sym, subst, arith}
use Rattle.std.specs.Prelude.{MatchOption, IfSome, IsTrue, ◌↔◌}
use Rattle.json_text.specs.declared.spot.Spot.{Spot}
use Rattle.json_text.specs.declared.doc.Doc.{Doc}
use Rattle.json_text.specs.declared.doc.Node.{Node}
use Rattle.json_text.specs.Forest.{Forest, empty, grows}
use Rattle.json_text.specs.Unescape.{HasName}
use Rattle.json_text.specs.Doc.{bytes_read, IsAfter, StandsAt, ForFirst, OfNode, NoneNamed, IsTailOf, IsLastMember, IsLastNamed}
use Rattle.json_text.proofs.Tables.{false_true}

abbrev pub or_else : Option Node → Option Node → Option Node
or_else None found = found
or_else (Some node) found = Some node

-- the search has come to `here`, and has found `found` before it
pub record Going (doc : Doc) (name : List ℕ) (values : Forest) (here found : Option Node) : Type 0 where
  pub tail : Forest
  pub at : MatchOption here (tail ≡ empty) (λ m. StandsAt doc m tail × (tail ≢ empty))
  pub part : IsTailOf tail values
  pub onward : (r : Option Node) → IsLastNamed doc name tail r → IsLastNamed doc name values (or_else r found)

tail_self : (values : Forest) → IsTailOf values values
tail_self empty = refl
tail_self (grows s c l) = inl refl

tail_of_tail : (x tail values : Forest) → IsTailOf x tail → IsTailOf tail values → IsTailOf x values
tail_of_tail x tail empty h e = subst (λ t. IsTailOf x t) e h
tail_of_tail x tail (grows s c l) h (inl e) = subst (λ t. IsTailOf x t) e h
tail_of_tail x tail (grows s c l) h (inr further) = inr (tail_of_tail x tail l h further)

pub going_start : (doc : Doc) (name : List ℕ) (values : Forest) (here : Option Node) → MatchOption here (values ≡ empty) (λ m. StandsAt doc m values × (values ≢ empty)) → Going doc name values here None
going_start doc name values here at = record { tail = values; at = at; part = tail_self values; onward = same }
  where
    same : (r : Option Node) → IsLastNamed doc name values r → IsLastNamed doc name values (or_else r None)
    same None h = h
    same (Some node) h = h

later_member : (doc : Doc) (name : List ℕ) (s : Spot) (c l : Forest) (k : Node) → IsLastMember doc name l k → IsLastMember doc name (grows s c l) k
later_member doc name s c l k h = record { spot = h.spot; children = h.children; later = h.later; here = h.here; of_them = inr h.of_them; named = h.named; last = h.last }

onward_past : (doc : Doc) (name : List ℕ) (values : Forest) (m : Node) (found : Option Node) (s : Spot) (c l : Forest) (b : Bool) → StandsAt doc m (grows s c l) → ((r : Option Node) → IsLastNamed doc name (grows s c l) r → IsLastNamed doc name values (or_else r found)) → IsTrue b ↔ HasName (bytes_read doc) s name → (r : Option Node) → IsLastNamed doc name l r → IsLastNamed doc name values (or_else r (cond b (Some m) found))
onward_past doc name values m found s c l b stands onward named (Some k) h = onward (Some k) (later_member doc name s c l k h)
onward_past doc name values m found s c l true stands onward named None h = onward (Some m) (record { spot = s; children = c; later = l; here = stands; of_them = inl refl; named = named.0 refl; last = h })
onward_past doc name values m found s c l false stands onward named None h = onward None ((λ n. false_true ⊥ (named.1 n)), h)

pub going_past : (doc : Doc) (name : List ℕ) (values : Forest) (m : Node) (next found : Option Node) (b : Bool) (tail : Forest) → StandsAt doc m tail → tail ≢ empty → IsTailOf tail values → ((r : Option Node) → IsLastNamed doc name tail r → IsLastNamed doc name values (or_else r found)) → ForFirst tail (λ spot children later. IsTrue b ↔ HasName (bytes_read doc) spot name) → ForFirst tail (λ spot children later. MatchOption next (later ≡ empty) (λ k. StandsAt doc k later × (later ≢ empty))) → Going doc name values next (cond b (Some m) found)
going_past doc name values m next found b empty stands some part onward named follows = absurd (some refl)
going_past doc name values m next found b (grows s c l) stands some part onward named follows = record {
  tail = l;
  at = follows;
  part = tail_of_tail l (grows s c l) values (inr (tail_self l)) part;
  onward = onward_past doc name values m found s c l b stands onward named;
}

-- one more member
pub going_on : (doc : Doc) (name : List ℕ) (values : Forest) (m : Node) (next found : Option Node) (b : Bool) → Going doc name values (Some m) found → OfNode doc m (λ spot children later. IsTrue b ↔ HasName (bytes_read doc) spot name) → OfNode doc m (λ spot children later. MatchOption next (later ≡ empty) (λ k. StandsAt doc k later × (later ≢ empty))) → Going doc name values next (cond b (Some m) found)
going_on doc name values m next found b h named follows = going_past doc name values m next found b h.tail h.at.0 h.at.1 h.part h.onward (named h.tail h.at.0) (follows h.tail h.at.0)

-- and none
pub going_end : (doc : Doc) (name : List ℕ) (values : Forest) (found : Option Node) → Going doc name values None found → IsLastNamed doc name values found
going_end doc name values found h = h.onward None (subst (NoneNamed (bytes_read doc) name) (sym h.at) tt)

abbrev pub nodes_left : ℕ → Option Node → ℕ
nodes_left n None = 0
nodes_left n (Some node) = suc (n - node.number)

-- the one after a later one is later
pub after_on : (first later : Node) (next : Option Node) → IsAfter first later → IfSome next (IsAfter later) → IfSome next (IsAfter first)
after_on first later None h g = tt
after_on first later (Some node) h g = omega (arith, h, g)

pub chosen_is : (P : Node → Type 0) (b : Bool) (here found r : Option Node) → r ≡ cond b here found → IfSome here P → IfSome found P → IfSome r P
chosen_is P true here found r e h f = subst (λ x. IfSome x P) (sym e) h
chosen_is P false here found r e h f = subst (λ x. IfSome x P) (sym e) f
