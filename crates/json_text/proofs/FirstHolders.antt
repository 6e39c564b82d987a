-- The first list or map that stands inside so many others.
use Rattle.std.proofs.Common.{◌≡◌, ℕ, zero, suc, ◌+◌, ◌<◌, ◌≤◌, Bool, true, false, ◌&&◌, cond, eqb, List, [], ◌∷◌, ◌++◌, length, drop, get_or, drop-cons, eq-eqb, Option, Some, None, refl, sym, ap, subst, ◌∙◌, arith, append_assoc}
use Rattle.std.proofs.lemmas.Bool.{ne_eqb}
use Rattle.std.proofs.lemmas.List.{drop_all}
use Rattle.std.proofs.Math.Logic.{∥∥₁_elim}
use Rattle.std.proofs.Math.Nat.{ℕ_set}
use Rattle.json_text.specs.declared.spot.Spot.{Spot}
use Rattle.json_text.specs.declared.spot.Entry.{Entry}
use Rattle.json_text.specs.declared.doc.Doc.{Doc}
use Rattle.json_text.specs.declared.doc.Node.{Node}
use Rattle.json_text.specs.Forest.{Forest, empty, grows, count}
use Rattle.json_text.specs.Reading.{entries, Holds}
use Rattle.json_text.specs.Doc.{bytes_read, values_kept, IsRoot, StandAt, Shallower, OfNode}
use Rattle.json_text.specs.Shape.{is_holder}
use Rattle.json_text.specs.Levels.{or_else, first_holder, IsFirstHolder}
use Rattle.json_text.proofs.Walks.{first_entry, no_entries, own_entry, stands_inside}

-- of the first entry that passes, its value
abbrev pub first_in : ℕ → List Entry → Option Spot
first_in depth [] = None
first_in depth (e ∷ es) = cond (eqb e.depth depth && is_holder e.spot.kind) (Some e.spot) (first_in depth es)

first_cell : (depth d : ℕ) (s : Spot) (c l : Forest) (others : List Entry) → first_in depth (entries d (grows s c l) ++ others) ≡ cond (eqb d depth && is_holder s.kind) (Some s) (first_in depth (entries (suc d) c ++ (entries d l ++ others)))
first_cell depth d s c l others = ap (first_in depth) (ap (λ x. x ++ others) (first_entry d s c l) ∙ ap (λ x. record { spot = s; depth = d; size = 1 + count c } ∷ x) (append_assoc (entries (suc d) c) (entries d l) others))

-- none among values that all stand deeper
none_deeper : (depth d : ℕ) (values : Forest) (others : List Entry) → depth < d → first_in depth (entries d values ++ others) ≡ first_in depth others
none_deeper depth d empty others lt = ap (λ x. first_in depth (x ++ others)) (no_entries d)
none_deeper depth d (grows s c l) others lt =
    let no : eqb d depth ≡ false = ne_eqb d depth (λ e. omega (arith, lt, e)) in
    first_cell depth d s c l others ∙ ap (λ b. cond (b && is_holder s.kind) (Some s) (first_in depth (entries (suc d) c ++ (entries d l ++ others)))) no
    ∙ none_deeper depth (suc d) c (entries d l ++ others) (omega (arith, lt)) ∙ none_deeper depth d l others lt

or_assoc : (a b c : Option Spot) → or_else a (or_else b c) ≡ or_else (or_else a b) c
or_assoc None b c = refl
or_assoc (Some s) b c = refl

cond_or : (b : Bool) (s : Spot) (x y : Option Spot) → cond b (Some s) (or_else x y) ≡ or_else (cond b (Some s) x) y
cond_or true s x y = refl
cond_or false s x y = refl

first_is : (n d : ℕ) (values : Forest) (others : List Entry) → first_in (d + n) (entries d values ++ others) ≡ or_else (first_holder n values) (first_in (d + n) others)
unfolding first_holder
first_is n d empty others = ap (λ x. first_in (d + n) (x ++ others)) (no_entries d)
first_is zero d (grows s c l) others =
    let yes : eqb d (d + zero) ≡ true = eq-eqb d (d + zero) (omega arith) in
    first_cell (d + zero) d s c l others
    ∙ ap (λ b. cond (b && is_holder s.kind) (Some s) (first_in (d + zero) (entries (suc d) c ++ (entries d l ++ others)))) yes
    ∙ ap (cond (is_holder s.kind) (Some s)) (none_deeper (d + zero) (suc d) c (entries d l ++ others) (omega arith) ∙ first_is zero d l others)
    ∙ cond_or (is_holder s.kind) s (first_holder zero l) (first_in (d + zero) others)
first_is (suc n) d (grows s c l) others =
    let no : eqb d (d + suc n) ≡ false = ne_eqb d (d + suc n) (λ e. omega (arith, e)) in
    let there : suc d + n ≡ d + suc n = omega arith in
    first_cell (d + suc n) d s c l others
    ∙ ap (λ b. cond (b && is_holder s.kind) (Some s) (first_in (d + suc n) (entries (suc d) c ++ (entries d l ++ others)))) no
    ∙ subst (λ k. first_in k (entries (suc d) c ++ (entries d l ++ others)) ≡ or_else (first_holder n c) (first_in k (entries d l ++ others))) there (first_is n (suc d) c (entries d l ++ others))
    ∙ ap (or_else (first_holder n c)) (first_is (suc n) d l others)
    ∙ or_assoc (first_holder n c) (first_holder (suc n) l) (first_in (d + suc n) others)

or_none : (a : Option Spot) → or_else a None ≡ a
or_none None = refl
or_none (Some s) = refl

-- ---- the whole document

outermost : (bytes : List ℕ) (nodes : List Entry) (e : Entry) → Holds bytes nodes → 0 < length nodes → (get_or nodes 0 e).depth ≡ 0
outermost bytes nodes e h some = by h.values h.nodes_are
  where
    by : (values : Forest) → nodes ≡ entries 0 values → (get_or nodes 0 e).depth ≡ 0
    by empty is = absurd (omega (arith, some, ap length (is ∙ no_entries 0)))
    by (grows s c l) is = ap (λ x. (get_or x 0 e).depth) (is ∙ first_entry 0 s c l)

root_depth : (doc : Doc) (s : Spot) (c l : Forest) (h : StandAt doc 0 (grows s c l)) → h.depth ≡ 0
root_depth doc s c l h =
    let e : Entry = record { spot = s; depth = 0; size = 0 } in
    ∥∥₁_elim doc.read (ℕ_set _ _) (λ holds. sym (ap (λ x. x.depth) (own_entry doc 0 s c l h e)) ∙ outermost (bytes_read doc) (values_kept doc) e holds (stands_inside doc 0 s c l h))

nothing_shallower : (others : List Entry) → Shallower 0 others → others ≡ []
nothing_shallower [] h = refl
nothing_shallower (o ∷ others) h = absurd (omega (arith, h))

pub first_of_all : (doc : Doc) (depth : ℕ) (s : Spot) (c l : Forest) → StandAt doc 0 (grows s c l) → first_in depth (values_kept doc) ≡ first_holder depth (grows s c l)
first_of_all doc depth s c l h =
    let zero_deep = root_depth doc s c l h in
    let none = nothing_shallower h.others (subst (λ d. Shallower d h.others) zero_deep h.end) in
    let whole : values_kept doc ≡ entries 0 (grows s c l) ++ [] = h.are ∙ ap (λ d. entries d (grows s c l) ++ h.others) zero_deep ∙ ap (λ x. entries 0 (grows s c l) ++ x) none in
    let same : 0 + depth ≡ depth = omega arith in
    ap (first_in depth) whole ∙ subst (λ k. first_in k (entries 0 (grows s c l) ++ []) ≡ or_else (first_holder depth (grows s c l)) (first_in k [])) same (first_is depth 0 (grows s c l) []) ∙ or_none (first_holder depth (grows s c l))

pub found_first : (doc : Doc) (depth n : ℕ) (e : Entry) (root : Node) → first_in depth (values_kept doc) ≡ Some e.spot → e ≡ get_or (values_kept doc) n e → IsRoot root → OfNode doc root (λ spot children later. IsFirstHolder doc depth (grows spot children later) (Some (record { number = n })))
found_first doc depth n e root found own is empty h = tt
found_first doc depth n e root found own is (grows s c l) h = λ spot children later stands.
    sym (first_of_all doc depth s c l (subst (λ k. StandAt doc k (grows s c l)) is h)) ∙ found ∙ ap (λ x. Some x.spot) (own ∙ own_entry doc n spot children later stands e)

pub found_none : (doc : Doc) (depth : ℕ) (root : Node) → first_in depth (values_kept doc) ≡ None → IsRoot root → OfNode doc root (λ spot children later. IsFirstHolder doc depth (grows spot children later) None)
found_none doc depth root found is empty h = tt
found_none doc depth root found is (grows s c l) h = sym (first_of_all doc depth s c l (subst (λ k. StandAt doc k (grows s c l)) is h)) ∙ found

get_any : (xs : List Entry) (n : ℕ) (d e : Entry) → n < length xs → get_or xs n d ≡ get_or xs n e
get_any [] n d e lt = absurd (omega (arith, lt))
get_any (x ∷ xs) zero d e lt = refl
get_any (x ∷ xs) (suc n) d e lt = get_any xs n d e (omega (arith, lt))

-- the entry at which a search ends
pub found_at : (doc : Doc) (items : List Entry) (depth n : ℕ) (d : Entry) (root : Node) → items ≡ values_kept doc → n < length items → first_in depth (drop n items) ≡ first_in depth items → (get_or items n d).depth ≡ depth → is_holder (get_or items n d).spot.kind ≡ true → IsRoot root → OfNode doc root (λ spot children later. IsFirstHolder doc depth (grows spot children later) (Some (record { number = n })))
found_at doc items depth n d root same lt before deep holder is =
    let e = get_or items n d in
    let yes : eqb e.depth depth ≡ true = eq-eqb e.depth depth deep in
    let here : first_in depth (drop n items) ≡ Some e.spot = ap (first_in depth) (drop-cons items n d lt) ∙ ap (λ b. cond (b && is_holder e.spot.kind) (Some e.spot) (first_in depth (drop (suc n) items))) yes ∙ ap (λ b. cond b (Some e.spot) (first_in depth (drop (suc n) items))) holder in
    found_first doc depth n e root (ap (first_in depth) (sym same) ∙ sym before ∙ here) (get_any items n d e lt ∙ ap (λ x. get_or x n e) same) is

-- and one that ends without any
pub found_nowhere : (doc : Doc) (items : List Entry) (depth n : ℕ) (root : Node) → items ≡ values_kept doc → length items ≤ n → first_in depth (drop n items) ≡ first_in depth items → IsRoot root → OfNode doc root (λ spot children later. IsFirstHolder doc depth (grows spot children later) None)
found_nowhere doc items depth n root same past before is =
    found_none doc depth root (ap (first_in depth) (sym same) ∙ sym before ∙ ap (first_in depth) (drop_all n items past)) is
