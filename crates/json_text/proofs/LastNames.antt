-- The last member of each name, by a map from names.
use Rattle.std.proofs.Common.{◌≡◌, ◌≢◌, ℕ, zero, suc, ◌<◌, Bool, true, false, cond, List, [], ◌∷◌, ◌++◌, append-nil, length, get_or, map, Option, Some, None, refl, sym, ap, subst, ◌∙◌, arith, String}
use Rattle.std.specs.Prelude.{◌↔◌, MatchOption, IfSome, Result, Ok, Err, IfOk}
use Rattle.std.specs.declared.alloc.Global.{Global}
use Rattle.std.specs.BTreeMap.{BTreeMap, get_by_text, is_at}
use Rattle.std.specs.Map.{lookup}
use Rattle.std.specs.Str.{bytes_eq}
use Rattle.std.specs.Ordering.{nat_cmp, is_eq}
use Rattle.std.specs.declared.cmp.Ordering.TheVariants.{Less}
use Rattle.std.specs.Cmp.Lexicographic.{slice_cmp}
use Rattle.std.specs.List.{AllByRecursion}
use Rattle.std.specs.List.Sorted.{IsStrictlySortedBy}
use Rattle.std.specs.String.{string_bytes, string_cmp}
use Rattle.std.proofs.lemmas.Map.Text.{is_eq-slice_cmp}
use Rattle.std.proofs.lemmas.Slice.Eq.{bytes_eq-Decides}
use Rattle.json_text.specs.declared.spot.Span.{Span}
use Rattle.json_text.specs.declared.spot.Spot.{Spot}
use Rattle.json_text.specs.declared.doc.Doc.{Doc}
use Rattle.json_text.specs.declared.doc.Node.{Node}
use Rattle.json_text.specs.declared.last.Member.{Member}
use Rattle.json_text.specs.Forest.{Forest, empty, grows}
use Rattle.json_text.specs.Unescape.{unescaped, content, name_in, name_shown, HasName}
use Rattle.json_text.specs.Doc.{bytes_read, IsNode, StandsAt, OfNode, ForFirst, IsTailOf, IsLastNamed}
use Rattle.json_text.specs.LastMembers.{named, names_of, members_of, AreLastMembers, Noted}
use Rattle.json_text.proofs.Tables.{false_true, none_some}
use Rattle.json_text.proofs.Walks.{stands_inside}
use Rattle.json_text.proofs.Members.{Going, going_past, or_else}

-- ---- one member

nameless : (bytes : List ℕ) (spot : Spot) (name : List ℕ) → spot.name ≡ None → HasName bytes spot name → ⊥
nameless bytes spot name is h = subst (λ (o : Option Span). MatchOption o ⊥ (λ span. unescaped (content bytes span) ≡ name)) is h

pub noted_none : (bytes : List ℕ) (spot : Spot) (name : List ℕ) (node : Node) (before : Option Node) → spot.name ≡ None → Noted bytes spot name node before before
noted_none bytes spot name node before is = (false, (λ t. false_true _ t, λ h. absurd (nameless bytes spot name is h)), refl)

name_is : (bytes : List ℕ) (o : Option Span) (span : Span) (name : List ℕ) → o ≡ Some span → (name_in bytes o ≡ name) ↔ MatchOption o ⊥ (λ s. unescaped (content bytes s) ≡ name)
name_is bytes None span name e = none_some span _ e
name_is bytes (Some s) span name e = (λ h. h, λ h. h)

pub noted_some : (bytes : List ℕ) (spot : Spot) (span : Span) (name key : List ℕ) (node : Node) (before after : Option Node) → spot.name ≡ Some span → key ≡ name_shown bytes spot → after ≡ cond (bytes_eq key name) (Some node) before → Noted bytes spot name node before after
noted_some bytes spot span name key node before after is shown put =
    let tells = bytes_eq-Decides key name in
    let same = name_is bytes spot.name span name is in
    (bytes_eq key name, (λ t. same.0 (sym shown ∙ tells.0 t), λ h. tells.1 (shown ∙ same.1 h)), put)

-- ---- the search for each name

noted_past : (doc : Doc) (name : List ℕ) (values : Forest) (m : Node) (next before after : Option Node) (tail : Forest) → StandsAt doc m tail → tail ≢ empty → IsTailOf tail values → ((r : Option Node) → IsLastNamed doc name tail r → IsLastNamed doc name values (or_else r before)) → ForFirst tail (λ spot children later. Noted (bytes_read doc) spot name m before after) → ForFirst tail (λ spot children later. MatchOption next (later ≡ empty) (λ k. StandsAt doc k later × (later ≢ empty))) → Going doc name values next after
noted_past doc name values m next before after empty stands some part onward noted follows = absurd (some refl)
noted_past doc name values m next before after (grows s c l) stands some part onward noted follows =
    subst (Going doc name values next) (sym noted.2) (going_past doc name values m next before noted.0 (grows s c l) stands some part onward noted.1 follows)

-- one more member
pub going_noted : (doc : Doc) (name : List ℕ) (values : Forest) (m : Node) (next before after : Option Node) → Going doc name values (Some m) before → OfNode doc m (λ spot children later. Noted (bytes_read doc) spot name m before after) → OfNode doc m (λ spot children later. MatchOption next (later ≡ empty) (λ k. StandsAt doc k later × (later ≢ empty))) → Going doc name values next after
going_noted doc name values m next before after h noted follows = noted_past doc name values m next before after h.tail h.at.0 h.at.1 h.part h.onward (noted h.tail h.at.0) (follows h.tail h.at.0)

pub nothing_in : (map : BTreeMap (String Global) Node) (name : List ℕ) → map.entries ≡ [] → get_by_text map name ≡ None
nothing_in map name e = ap (lookup (is_at (λ k. slice_cmp nat_cmp name (string_bytes k)))) e

-- ---- the list

pub entries_gone : (members all : List Member) (entries : List (String Global × Node)) → (0 < length entries → false ≡ true) → members ++ members_of entries ≡ all → members ≡ all
entries_gone members all [] none e = sym (append-nil members) ∙ e
entries_gone members all (x ∷ entries) none e = false_true _ (none (omega arith))

named_is : (name : List ℕ) (entries : List (String Global × Node)) → named name (members_of entries) ≡ lookup (is_at (λ k. slice_cmp nat_cmp name (string_bytes k))) entries
unfolding named
named_is name [] = refl
named_is name (e ∷ entries) = ap (λ b. cond b (Some e.1) (named name (members_of entries))) (sym (is_eq-slice_cmp name (string_bytes e.0))) ∙ ap (cond _ (Some e.1)) (named_is name entries)

all_above : (e : String Global) (entries : List (String Global × Node)) → AllByRecursion (λ y. string_cmp e y ≡ Less) (map (λ (x : String Global × Node). x.0) entries) → AllByRecursion (λ y. slice_cmp nat_cmp (string_bytes e) y ≡ Less) (names_of (members_of entries))
all_above e [] h = h
all_above e (x ∷ entries) h = (h.0, all_above e entries h.1)

names_rise : (entries : List (String Global × Node)) → IsStrictlySortedBy string_cmp (map (λ (e : String Global × Node). e.0) entries) → IsStrictlySortedBy (slice_cmp nat_cmp) (names_of (members_of entries))
unfolding IsStrictlySortedBy
names_rise [] h = h
names_rise (e ∷ entries) h = (all_above e.0 entries h.0, names_rise entries h.1)

-- ---- the nodes

none_named : (name : List ℕ) (members : List Member) → AllByRecursion (λ y. slice_cmp nat_cmp name y ≡ Less) (names_of members) → named name members ≡ None
unfolding named
none_named name [] h = refl
none_named name (m ∷ members) h =
    let other : bytes_eq name m.name ≡ false = sym (is_eq-slice_cmp name m.name) ∙ ap is_eq h.0 in
    ap (λ b. cond b (Some m.node) (named name members)) other ∙ none_named name members h.1

nodes_are : (P : Node → Type 0) (members : List Member) → IsStrictlySortedBy (slice_cmp nat_cmp) (names_of members) → ((name : List ℕ) → IfSome (named name members) P) → (k : ℕ) (some : Member) → k < length members → P (get_or members k some).node
unfolding named IsStrictlySortedBy
nodes_are P [] rise f k some lt = absurd (omega (arith, lt))
nodes_are P (m ∷ members) rise f zero some lt = subst (λ b. IfSome (cond b (Some m.node) (named m.name members)) P) ((bytes_eq-Decides m.name m.name).1 refl) (f m.name)
nodes_are P (m ∷ members) rise f (suc k) some lt = nodes_are P members rise.1 (λ name. later name (bytes_eq name m.name) refl) k some (omega (arith, lt))
  where
    later : (name : List ℕ) (b : Bool) → bytes_eq name m.name ≡ b → IfSome (named name members) P
    later name false is = subst (λ b. IfSome (cond b (Some m.node) (named name members)) P) is (f name)
    later name true is =
        let same : name ≡ m.name = (bytes_eq-Decides name m.name).0 is in
        subst (λ o. IfSome o P) (sym (ap (λ n. named n members) same ∙ none_named m.name members rise.0)) tt

last_is_node : (doc : Doc) (name : List ℕ) (children : Forest) (found : Option Node) → IsLastNamed doc name children found → IfSome found (IsNode doc)
last_is_node doc name children None h = tt
last_is_node doc name children (Some node) h = stands_inside doc node.number h.spot h.children h.later h.here

pub last_members : (doc : Doc) (children : Forest) (members : List Member) (entries : List (String Global × Node)) → members ≡ members_of entries → ((name : List ℕ) → IsLastNamed doc name children (lookup (is_at (λ k. slice_cmp nat_cmp name (string_bytes k))) entries)) → IsStrictlySortedBy string_cmp (map (λ (e : String Global × Node). e.0) entries) → AreLastMembers doc children members
last_members doc children members entries is last rise = subst (AreLastMembers doc children) (sym is) (record {
  last = λ name. subst (IsLastNamed doc name children) (sym (named_is name entries)) (last name);
  rise = names_rise entries rise;
  nodes = nodes_are (IsNode doc) (members_of entries) (names_rise entries rise) (λ name. last_is_node doc name children (named name (members_of entries)) (subst (IsLastNamed doc name children) (sym (named_is name entries)) (last name)));
})

pub if_ok : {T E : Type 0} (r : Result T E) (P Q : T → Type 0) → IfOk r P → ((x : T) → P x → Q x) → IfOk r Q
if_ok (Ok x) P Q h f = f x h
if_ok (Err e) P Q h f = h

pub for_both : (values : Forest) (P Q R : Spot → Forest → Forest → Type 0) → ForFirst values P → ForFirst values Q → ((s : Spot) (children later : Forest) → P s children later → Q s children later → R s children later) → ForFirst values R
for_both empty P Q R p q f = tt
for_both (grows s children later) P Q R p q f = f s children later p q
