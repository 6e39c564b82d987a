-- From the last members of a map to items.
use Rattle.std.proofs.Common.{◌≡◌, inl, inr, ℕ, zero, suc, ◌<◌, Bool, true, false, cond, List, [], ◌∷◌, ◌++◌, length, Option, Some, None, refl, sym, ap, subst, ◌∙◌, append_assoc, append-nil, arith}
use Rattle.std.specs.Prelude.{option_map, slice_index_or}
use Rattle.std.specs.Str.{bytes_eq}
use Rattle.std.specs.Ordering.{nat_cmp, is_eq}
use Rattle.std.specs.declared.cmp.Ordering.TheVariants.{Less}
use Rattle.std.specs.Cmp.Lexicographic.{slice_cmp}
use Rattle.std.specs.List.{AllByRecursion}
use Rattle.std.specs.List.Sorted.{IsStrictlySortedBy}
use Rattle.std.proofs.lemmas.Map.Text.{is_eq-slice_cmp}
use Rattle.std.proofs.lemmas.Slice.Eq.{bytes_eq-Decides}
use Rattle.std.proofs.Math.Logic.{∥∥₁_elim}
use Rattle.std.proofs.Math.Bridge.{le_prop}
use Rattle.json_text.specs.declared.spot.Spot.{Spot}
use Rattle.json_text.specs.declared.doc.Doc.{Doc}
use Rattle.json_text.specs.declared.doc.Node.{Node}
use Rattle.json_text.specs.declared.last.Member.{Member}
use Rattle.json_text.specs.Forest.{Forest, grows, count}
use Rattle.json_text.specs.Doc.{bytes_read, IsNode, OfNode, Shows}
use Rattle.json_text.specs.Visits.{HasValue}
use Rattle.json_text.specs.LastMembers.{named, names_of, AreLastMembers}
use Rattle.cloud_events.specs.declared.item.Item.{Item}
use Rattle.cloud_events.specs.declared.item.Value.{Value}
use Rattle.cloud_events.specs.Items.{AreSaid, Rise, item_at, item_in}
use Rattle.cloud_events.specs.Members.{AreAt, IsAt, last_of, unless_null}
use Rattle.cloud_events.specs.Gather.{Adds, AllNodes, AreItems, end, skips, keeps, IsItemOf, IsNullMember}
use Rattle.cloud_events.proofs.Lasts.{last_is, not_true}

-- ---- nodes

pub nodes_first : (doc : Doc) (members : List Member) (m : Member) (rest : List Member) → members ≡ m ∷ rest → AllNodes doc members → IsNode doc m.node × AllNodes doc rest
nodes_first doc members m rest e h = subst (AllNodes doc) e h

all_nodes : (doc : Doc) (members : List Member) → ((k : ℕ) (some : Member) → k < length members → IsNode doc (slice_index_or members k some).node) → AllNodes doc members
all_nodes doc [] h = tt
all_nodes doc (m ∷ members) h = (h zero m (omega arith), all_nodes doc members (λ k some lt. h (suc k) some (omega (arith, lt))))

pub nodes_of : (doc : Doc) (n : Node) (members : List Member) → ((doc : Doc) (bytes : List ℕ) (node : Node) (shows : Shows doc bytes) → node.number < count shows.values → HasValue doc node) → ∥ Shows doc (bytes_read doc) ∥₁ → IsNode doc n
    → OfNode doc n (λ spot children later. AreLastMembers doc children members) → AllNodes doc members
nodes_of doc n members stands read node h =
    all_nodes doc members (λ k some lt. ∥∥₁_elim read le_prop (λ shows. let v = stands doc (bytes_read doc) n shows (subst (λ z. n.number < z) shows.all node) in (h (grows v.0 v.1 v.2) v.3).nodes k some lt))

-- ---- one more

pub item_same : (name : List ℕ) (a b i j : ℕ) (v w : Value) → a ≡ i → b ≡ j → v ≡ w → ◌≡◌ {A = Item} (record { name = name; start = a; end = b; value = v }) (record { name = name; start = i; end = j; value = w })
item_same name a b i j v w p q r = λ k. record { name = name; start = p k; end = q k; value = r k }

pub more_items : (doc : Doc) (all members rest : List Member) (m : Member) (old new : List Item) → members ≡ m ∷ rest → Adds doc m old new → ((more : List Item) → AreItems doc members more → AreItems doc all (old ++ more))
    → (more : List Item) → AreItems doc rest more → AreItems doc all (new ++ more)
more_items doc all members rest m old new e (inl h) going more st =
    subst (λ (xs : List Item). AreItems doc all (xs ++ more)) (sym h.1) (going more (subst (λ (ms : List Member). AreItems doc ms more) (sym e) (skips h.0 st)))
more_items doc all members rest m old new e (inr h) going more st =
    subst (λ (xs : List Item). AreItems doc all xs) (sym (ap (λ (xs : List Item). xs ++ more) h.2 ∙ append_assoc old (h.0 ∷ []) more))
    (going (h.0 ∷ more) (subst (λ (ms : List Member). AreItems doc ms (h.0 ∷ more)) (sym e) (keeps h.1 st)))

pub all_given : (doc : Doc) (all members : List Member) (items : List Item) → members ≡ [] → ((more : List Item) → AreItems doc members more → AreItems doc all (items ++ more)) → AreItems doc all items
all_given doc all members items e going = subst (λ (xs : List Item). AreItems doc all xs) (append-nil items) (going [] (subst (λ (ms : List Member). AreItems doc ms []) (sym e) end))

-- ---- names

abbrev Below : List ℕ → List Item → Type 0
Below name [] = Unit {0}
Below name (item ∷ items) = (slice_cmp nat_cmp name item.name ≡ Less) × Below name items

below : (doc : Doc) (name : List ℕ) (members : List Member) (items : List Item) → AreItems doc members items → AllByRecursion (λ y. slice_cmp nat_cmp name y ≡ Less) (names_of members) → Below name items
below doc name [] [] end h = tt
below doc name [] (item ∷ items) x h = elim x [ ]
below doc name (m ∷ members) items (skips null st) h = below doc name members items st h.1
below doc name (m ∷ members) (item ∷ items) (keeps of st) h = (ap (λ n. slice_cmp nat_cmp name n) of.0 ∙ h.0, below doc name members items st h.1)

rise_on : (item : Item) (items : List Item) → Below item.name items → Rise items → Rise (item ∷ items)
rise_on item [] b h = tt
rise_on item (next ∷ items) b h = (b.0, h)

rise : (doc : Doc) (members : List Member) (items : List Item) → AreItems doc members items → IsStrictlySortedBy (slice_cmp nat_cmp) (names_of members) → Rise items
unfolding IsStrictlySortedBy
rise doc [] [] end h = tt
rise doc [] (item ∷ items) x h = elim x [ ]
rise doc (m ∷ members) items (skips null st) h = rise doc members items st h.1
rise doc (m ∷ members) (item ∷ items) (keeps of st) h = rise_on item items (subst (λ n. Below n items) (sym of.0) (below doc m.name members items st h.0)) (rise doc members items st h.1)

other_name : (name next : List ℕ) → slice_cmp nat_cmp name next ≡ Less → bytes_eq next name ≡ false
other_name name next h =
    let other : bytes_eq name next ≡ false = sym (is_eq-slice_cmp name next) ∙ ap is_eq h in
    not_true _ (λ e. let yes : bytes_eq name next ≡ true = (bytes_eq-Decides name next).1 (sym ((bytes_eq-Decides next name).0 e)) in let bad : ⊥ = cc in bad)

none_below : (name : List ℕ) (items : List Item) → Below name items → item_in name items ≡ None
unfolding item_in
none_below name [] h = refl
none_below name (item ∷ items) h = ap (λ b. cond b (Some item) (item_in name items)) (other_name name item.name h.0) ∙ none_below name items h.1

-- ---- the member of a name

none_at : (doc : Doc) (name : List ℕ) (node : Option Node) (spot : Option Spot) → None ≡ node → AreAt doc node spot → None ≡ option_map (item_at (bytes_read doc) name) (unless_null spot)
none_at doc name None None e h = refl
none_at doc name None (Some s) e h = absurd h
none_at doc name (Some n) spot e h = let bad : ⊥ = cc in absurd bad

null_at : (doc : Doc) (name : List ℕ) (m : Member) (node : Option Node) (spot : Option Spot) → Some m.node ≡ node → IsNullMember doc m → AreAt doc node spot → None ≡ option_map (item_at (bytes_read doc) name) (unless_null spot)
null_at doc name m None spot e null h = let bad : ⊥ = cc in absurd bad
null_at doc name m (Some n) None e null h = absurd h
null_at doc name m (Some n) (Some s) e null h =
    let same : n ≡ m.node = cc in
    ap (λ b. option_map (item_at (bytes_read doc) name) (cond b None (Some s))) (sym (null s (subst (λ x. IsAt doc x s) same h)))

item_is : (doc : Doc) (name : List ℕ) (m : Member) (item : Item) (node : Option Node) (spot : Option Spot) → Some m.node ≡ node → name ≡ m.name → IsItemOf doc m item → AreAt doc node spot → Some item ≡ option_map (item_at (bytes_read doc) name) (unless_null spot)
item_is doc name m item None spot e f of h = let bad : ⊥ = cc in absurd bad
item_is doc name m item (Some n) None e f of h = absurd h
item_is doc name m item (Some n) (Some s) e f of h =
    let same : n ≡ m.node = cc in
    let is = of.1 s (subst (λ x. IsAt doc x s) same h) in
    ap Some (is.1 ∙ ap (λ x. item_at (bytes_read doc) x s) (sym f)) ∙ ap (λ b. option_map (item_at (bytes_read doc) name) (cond b None (Some s))) (sym is.0)

same_name : (b : Bool) (name other : List ℕ) → bytes_eq name other ≡ b → bytes_eq other name ≡ b
same_name true name other e = (bytes_eq-Decides other name).1 (sym ((bytes_eq-Decides name other).0 e))
same_name false name other e = not_true _ (λ f. let yes : bytes_eq name other ≡ true = (bytes_eq-Decides name other).1 (sym ((bytes_eq-Decides other name).0 f)) in let bad : ⊥ = cc in bad)

skipped : (b : Bool) (doc : Doc) (m : Member) (members : List Member) (items : List Item) → IsNullMember doc m → AreItems doc members items → AllByRecursion (λ y. slice_cmp nat_cmp m.name y ≡ Less) (names_of members)
    → (name : List ℕ) (node : Option Node) (spot : Option Spot) → bytes_eq name m.name ≡ b → cond b (Some m.node) (named name members) ≡ node → AreAt doc node spot
    → (named name members ≡ node → item_in name items ≡ option_map (item_at (bytes_read doc) name) (unless_null spot))
    → item_in name items ≡ option_map (item_at (bytes_read doc) name) (unless_null spot)
skipped true doc m members items null st above name node spot e f h later =
    none_below name items (subst (λ n. Below n items) (sym ((bytes_eq-Decides name m.name).0 e)) (below doc m.name members items st above)) ∙ null_at doc name m node spot f null h
skipped false doc m members items null st above name node spot e f h later = later f

kept : (b : Bool) (doc : Doc) (m : Member) (members : List Member) (item : Item) (items : List Item) → IsItemOf doc m item
    → (name : List ℕ) (node : Option Node) (spot : Option Spot) → bytes_eq name m.name ≡ b → cond b (Some m.node) (named name members) ≡ node → AreAt doc node spot
    → (named name members ≡ node → item_in name items ≡ option_map (item_at (bytes_read doc) name) (unless_null spot))
    → cond b (Some item) (item_in name items) ≡ option_map (item_at (bytes_read doc) name) (unless_null spot)
kept true doc m members item items of name node spot e f h later = item_is doc name m item node spot f ((bytes_eq-Decides name m.name).0 e) of h
kept false doc m members item items of name node spot e f h later = later f

items_are : (doc : Doc) (members : List Member) (items : List Item) → AreItems doc members items → IsStrictlySortedBy (slice_cmp nat_cmp) (names_of members) → (name : List ℕ) (node : Option Node) (spot : Option Spot)
    → named name members ≡ node → AreAt doc node spot → item_in name items ≡ option_map (item_at (bytes_read doc) name) (unless_null spot)
unfolding item_in named IsStrictlySortedBy
items_are doc [] [] end rises name node spot e h = none_at doc name node spot e h
items_are doc [] (item ∷ items) x rises name node spot e h = elim x [ ]
items_are doc (m ∷ members) items (skips null st) rises name node spot e h =
    skipped (bytes_eq name m.name) doc m members items null st rises.0 name node spot refl e h (λ f. items_are doc members items st rises.1 name node spot f h)
items_are doc (m ∷ members) (item ∷ items) (keeps of st) rises name node spot e h =
    ap (λ b. cond b (Some item) (item_in name items)) (ap (λ n. bytes_eq n name) of.0 ∙ same_name _ name m.name refl)
    ∙ kept (bytes_eq name m.name) doc m members item items of name node spot refl e h (λ f. items_are doc members items st rises.1 name node spot f h)

pub are_said : (doc : Doc) (children : Forest) (members : List Member) (items : List Item) → AreLastMembers doc children members → AreItems doc members items → AreSaid (bytes_read doc) children items
are_said doc children members items last st = record {
  rise = rise doc members items st last.rise;
  are = λ name. items_are doc members items st last.rise name (named name members) (last_of (bytes_read doc) name children) refl (last_is doc name children (named name members) (last.last name));
}
