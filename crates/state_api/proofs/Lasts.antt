-- Whether of each name the last member is a text, by the list of the last members.
use Rattle.std.proofs.Common.{◌≡◌, inl, inr, ℕ, zero, suc, ◌<◌, Bool, true, false, cond, ◌&&◌, ◌||◌, not, List, [], ◌∷◌, length, get_or, Option, Some, None, refl, sym, ap, subst, ◌∙◌, arith}
use Rattle.std.specs.Prelude.{MatchOption, is_none}
use Rattle.std.specs.Str.{bytes_eq}
use Rattle.std.specs.Ordering.{nat_cmp, is_eq}
use Rattle.std.specs.declared.cmp.Ordering.TheVariants.{Less}
use Rattle.std.specs.Cmp.Lexicographic.{slice_cmp}
use Rattle.std.specs.List.{AllByRecursion}
use Rattle.std.specs.List.Sorted.{IsStrictlySortedBy}
use Rattle.std.proofs.lemmas.Map.Text.{is_eq-slice_cmp}
use Rattle.std.proofs.lemmas.Slice.Eq.{bytes_eq-Decides}
use Rattle.json_text.specs.declared.spot.Span.{Span}
use Rattle.json_text.specs.declared.spot.Spot.{Spot}
use Rattle.json_text.specs.declared.doc.Doc.{Doc}
use Rattle.json_text.specs.declared.doc.Node.{Node}
use Rattle.json_text.specs.declared.last.Member.{Member}
use Rattle.json_text.specs.Forest.{Forest, empty, grows, count}
use Rattle.json_text.specs.Unescape.{unescaped, content, HasName}
use Rattle.json_text.specs.Doc.{bytes_read, NoneNamed, IsTailOf, IsLastMember, IsLastNamed, IsNode, StandsAt, OfNode, Shows}
use Rattle.std.proofs.Math.Logic.{∥∥₁_elim}
use Rattle.std.proofs.Math.Bridge.{le_prop}
use Rattle.json_text.specs.Visits.{HasValue}
use Rattle.json_text.specs.LastMembers.{named as member_named, names_of, AreLastMembers}
use Rattle.state_api.specs.Values.{Value, AreTextsAt, AreNodes, values_in, has_name, last_named, or_else, is_text, is_last, are_texts}
use Rattle.state_api.proofs.Members.{not_true, false_true, none_some, tail_last, none_last}

-- ---- tails

tail_self : (values : Forest) → IsTailOf values values
tail_self empty = refl
tail_self (grows s c l) = inl refl

tail_later : (s : Spot) (c l values : Forest) → IsTailOf (grows s c l) values → IsTailOf l values
tail_later s c l empty h = absurd (let bad : ⊥ = cc in bad)
tail_later s c l (grows t d r) (inl e) = let same : l ≡ r = cc in inr (subst (λ x. IsTailOf l x) same (tail_self l))
tail_later s c l (grows t d r) (inr further) = inr (tail_later s c l r further)

not_none : (bytes name : List ℕ) (s : Spot) (c l values : Forest) → IsTailOf (grows s c l) values → HasName bytes s name → NoneNamed bytes name values → ⊥
not_none bytes name s c l empty part h none = let bad : ⊥ = cc in bad
not_none bytes name s c l (grows t d r) (inl e) h none = none.0 (subst (λ x. HasName bytes x name) (let same : s ≡ t = cc in same) h)
not_none bytes name s c l (grows t d r) (inr further) h none = not_none bytes name s c l r further h none.1

unless : (b : Bool) (o : Option Value) (v : Value) → or_else o (cond b (Some v) None) ≡ None → (o ≡ None) × (b ≡ false)
unless b (Some x) v e = none_some x _ (sym e)
unless true None v e = none_some v _ (sym e)
unless false None v e = (refl, refl)

has_name_true : (bytes : List ℕ) (o : Option Span) (name : List ℕ) → MatchOption o ⊥ (λ span. unescaped (content bytes span) ≡ name) → has_name bytes o name ≡ true
has_name_true bytes None name h = absurd h
has_name_true bytes (Some span) name h = (bytes_eq-Decides (unescaped (content bytes span)) name).1 h

none_named : (bytes name : List ℕ) (values : Forest) → last_named bytes name (values_in values) ≡ None → NoneNamed bytes name values
none_named bytes name empty e = tt
none_named bytes name (grows s c l) e =
    let p = unless (has_name bytes s.name name) (last_named bytes name (values_in l)) (record { spot = s; children = c }) e in
    ((λ h. false_true ⊥ (sym p.1 ∙ has_name_true bytes s.name name h)), none_named bytes name l p.0)

-- ---- the list

abbrev FoundAt : List Member → Node → Type 0
FoundAt members node = (k : ℕ) × (k < length members) × ((some : Member) → (get_or members k some).node ≡ node)

found_by : (m : Member) (members : List Member) (node : Node) (rest : Option Node) (b : Bool) → cond b (Some m.node) rest ≡ Some node → (rest ≡ Some node → FoundAt members node) → FoundAt (m ∷ members) node
found_by m members node rest true e later = (zero, omega arith, λ some. let same : m.node ≡ node = cc in same)
found_by m members node rest false e later = let p = later e in (suc p.0, omega (arith, p.1), p.2)

found_at : (name : List ℕ) (members : List Member) (node : Node) → member_named name members ≡ Some node → FoundAt members node
unfolding member_named
found_at name [] node e = none_some node _ e
found_at name (m ∷ members) node e = found_by m members node (member_named name members) (bytes_eq name m.name) e (λ rest. found_at name members node rest)

above : (name : List ℕ) (members : List Member) (k : ℕ) (some : Member) → k < length members → AllByRecursion (λ y. slice_cmp nat_cmp name y ≡ Less) (names_of members) → bytes_eq (get_or members k some).name name ≡ false
above name [] k some lt h = absurd (omega (arith, lt))
above name (m ∷ members) zero some lt h =
    let other : bytes_eq name m.name ≡ false = sym (is_eq-slice_cmp name m.name) ∙ ap is_eq h.0 in
    not_true _ (λ e. false_true ⊥ (sym other ∙ (bytes_eq-Decides name m.name).1 (sym ((bytes_eq-Decides m.name name).0 e))))
above name (m ∷ members) (suc k) some lt h = above name members k some (omega (arith, lt)) h.1

own_node : (members : List Member) (k : ℕ) (some : Member) → k < length members → IsStrictlySortedBy (slice_cmp nat_cmp) (names_of members) → member_named (get_or members k some).name members ≡ Some (get_or members k some).node
unfolding member_named IsStrictlySortedBy
own_node [] k some lt rise = absurd (omega (arith, lt))
own_node (m ∷ members) zero some lt rise = ap (λ b. cond b (Some m.node) (member_named m.name members)) ((bytes_eq-Decides m.name m.name).1 refl)
own_node (m ∷ members) (suc k) some lt rise =
    ap (λ b. cond b (Some m.node) (member_named (get_or members k some).name members)) (above m.name members k some (omega (arith, lt)) rise.0)
    ∙ own_node members k some (omega (arith, lt)) rise.1

-- ---- all are texts

or_true : (a b : Bool) → b ≡ true → (a || b) ≡ true
or_true true b e = refl
or_true false b e = e

both : (a b : Bool) → a ≡ true → b ≡ true → (a && b) ≡ true
both a b e f = ap (λ x. x && b) e ∙ f

module _ (doc : Doc) (children : Forest) (members : List Member) (are : AreLastMembers doc children members) where
  text_by : (s : Spot) (c l : Forest) (name : List ℕ) (found : Option Node) → AreTextsAt doc members true → IsTailOf (grows s c l) children → HasName (bytes_read doc) s name → NoneNamed (bytes_read doc) name l
      → member_named name members ≡ found → IsLastNamed doc name children found → is_text s.kind ≡ true
  text_by s c l name None all part named none e h = absurd (not_none (bytes_read doc) name s c l children part named h)
  text_by s c l name (Some node) all part named none e h =
      let v : Value = record { spot = s; children = c } in
      let u : Value = record { spot = h.spot; children = h.children } in
      let same : Some v ≡ Some u = sym (tail_last (bytes_read doc) name s c l children part named none) ∙ tail_last (bytes_read doc) name h.spot h.children h.later children h.of_them h.named h.last in
      let values : v ≡ u = cc in
      let p = found_at name members node e in
      let some : Member = record { name = []; node = node } in
      ap (λ (x : Value). is_text x.spot.kind) values ∙ all p.0 p.1 some u (h.later, subst (λ n. StandsAt doc n (grows h.spot h.children h.later)) (sym (p.2 some)) h.here)

  head_by : (s : Spot) (c l : Forest) (span : Span) (found : Option Value) → AreTextsAt doc members true → IsTailOf (grows s c l) children → s.name ≡ Some span
      → last_named (bytes_read doc) (unescaped (content (bytes_read doc) span)) (values_in l) ≡ found → (not (is_none found) || is_text s.kind) ≡ true
  head_by s c l span (Some v) all part e f = refl
  head_by s c l span None all part e f =
      let name = unescaped (content (bytes_read doc) span) in
      text_by s c l name (member_named name members) all part (subst (λ o. MatchOption o ⊥ (λ x. unescaped (content (bytes_read doc) x) ≡ name)) (sym e) refl) (none_named (bytes_read doc) name l f) refl (are.last name)

  head_text : (s : Spot) (c l : Forest) (o : Option Span) → AreTextsAt doc members true → IsTailOf (grows s c l) children → s.name ≡ o → (not (is_last (bytes_read doc) o (values_in l)) || is_text s.kind) ≡ true
  head_text s c l None all part e = refl
  head_text s c l (Some span) all part e = head_by s c l span _ all part e refl

  texts_from : (tail : Forest) → IsTailOf tail children → AreTextsAt doc members true → are_texts (bytes_read doc) (values_in tail) ≡ true
  texts_from empty part all = refl
  texts_from (grows s c l) part all = both _ _ (head_text s c l s.name all part refl) (texts_from l (tail_later s c l children part) all)

  -- ---- some are not

  last_true : (o : Option Span) (name : List ℕ) (later : List Value) → MatchOption o ⊥ (λ span. unescaped (content (bytes_read doc) span) ≡ name) → last_named (bytes_read doc) name later ≡ None → is_last (bytes_read doc) o later ≡ true
  last_true None name later h none = absurd h
  last_true (Some span) name later h none = ap is_none (ap (λ n. last_named (bytes_read doc) n later) h ∙ none)

  and_false : (a b : Bool) → b ≡ false → (a && b) ≡ false
  and_false true b e = e
  and_false false b e = refl

  tail_false : (name : List ℕ) (s : Spot) (c l values : Forest) → IsTailOf (grows s c l) values → HasName (bytes_read doc) s name → NoneNamed (bytes_read doc) name l → is_text s.kind ≡ false → are_texts (bytes_read doc) (values_in values) ≡ false
  tail_false name s c l empty part named none kind = absurd (let bad : ⊥ = cc in bad)
  tail_false name s c l (grows t d r) (inl e) named none kind =
      subst (λ v. are_texts (bytes_read doc) (values_in v) ≡ false) e
      (ap (λ b. (not b || is_text s.kind) && are_texts (bytes_read doc) (values_in l)) (last_true s.name name (values_in l) named (none_last (bytes_read doc) name l none)) ∙ ap (λ k. k && are_texts (bytes_read doc) (values_in l)) kind)
  tail_false name s c l (grows t d r) (inr further) named none kind = and_false _ _ (tail_false name s c l r further named none kind)

  any_false : AreTextsAt doc members false → are_texts (bytes_read doc) (values_in children) ≡ false
  any_false h =
      let some : Member = record { name = []; node = record { number = 0 } } in
      let m : Member = get_or members h.0 some in
      let last : IsLastMember doc m.name children m.node = subst (IsLastNamed doc m.name children) (own_node members h.0 some h.1 are.rise) (are.last m.name) in
      tail_false m.name last.spot last.children last.later children last.of_them last.named last.last (h.2 some (record { spot = last.spot; children = last.children }) (last.later, last.here))

  pub told_texts : (b : Bool) → AreTextsAt doc members b → are_texts (bytes_read doc) (values_in children) ≡ b
  told_texts true h = texts_from children (tail_self children) h
  told_texts false h = any_false h

-- all are nodes of the document
pub nodes_of : (doc : Doc) (n : Node) (members : List Member) → ((doc : Doc) (bytes : List ℕ) (node : Node) (shows : Shows doc bytes) → node.number < count shows.values → HasValue doc node) → ∥ Shows doc (bytes_read doc) ∥₁ → IsNode doc n
    → OfNode doc n (λ spot children later. AreLastMembers doc children members) → AreNodes doc members
nodes_of doc n members stands read node h k some lt =
    ∥∥₁_elim read le_prop (λ shows. let v = stands doc (bytes_read doc) n shows (subst (λ z. n.number < z) shows.all node) in (h (grows v.0 v.1 v.2) v.3).nodes k some lt)
