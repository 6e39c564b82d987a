-- From a value to the values that it holds, and to the next one.
use Rattle.std.proofs.Common.{◌≡◌, ◌≢◌, ◌⊎◌, inl, inr, ℕ, zero, suc, ◌+◌, ◌<◌, ◌≤◌, List, [], ◌∷◌, ◌++◌, length, drop, get_or, refl, sym, ap, ◌∙◌, arith, append_assoc, length-append, length-drop}
use Rattle.std.proofs.lemmas.List.{drop-drop}
use Rattle.json_text.specs.declared.spot.Spot.{Spot}
use Rattle.json_text.specs.declared.spot.Entry.{Entry}
use Rattle.json_text.specs.declared.doc.Doc.{Doc}
use Rattle.json_text.specs.Forest.{Forest, empty, grows, count}
use Rattle.json_text.specs.Reading.{entries}
use Rattle.json_text.specs.Doc.{values_kept, IsDepthAt, Shallower, StandAt, ForFirst}
use Rattle.json_text.proofs.Kept.{length-entries}

head_at : (xs : List Entry) (n : ℕ) (x : Entry) (ys : List Entry) → drop n xs ≡ x ∷ ys → (e : Entry) → get_or xs n e ≡ x
head_at [] zero x ys h e = absurd (omega (arith, ap length h))
head_at [] (suc n) x ys h e = absurd (omega (arith, ap length h))
head_at (y ∷ xs) zero x ys h e = cc
head_at (y ∷ xs) (suc n) x ys h e = head_at xs n x ys h e

pub inside_at : (xs : List Entry) (n : ℕ) (x : Entry) (ys : List Entry) → drop n xs ≡ x ∷ ys → n < length xs
inside_at [] zero x ys h = absurd (omega (arith, ap length h))
inside_at [] (suc n) x ys h = absurd (omega (arith, ap length h))
inside_at (y ∷ xs) zero x ys h = omega arith
inside_at (y ∷ xs) (suc n) x ys h = omega (arith, inside_at xs n x ys h)

past_at : (xs : List Entry) (n : ℕ) → drop n xs ≡ [] → length xs ≤ n
past_at [] n h = omega arith
past_at (y ∷ xs) zero h = absurd (omega (arith, ap length h))
past_at (y ∷ xs) (suc n) h = omega (arith, past_at xs n h)

drop_on : (xs ys zs : List Entry) (n m : ℕ) → drop n xs ≡ ys ++ zs → m ≡ n + length ys → drop m xs ≡ zs
drop_on xs ys zs n m h e = ap (λ k. drop k xs) e ∙ sym (drop-drop (length ys) n xs) ∙ ap (drop (length ys)) h ∙ drop_front ys zs
  where
    drop_front : (ys zs : List Entry) → drop (length ys) (ys ++ zs) ≡ zs
    drop_front [] zs = refl
    drop_front (y ∷ ys) zs = drop_front ys zs

pub first_entry : (depth : ℕ) (s : Spot) (c l : Forest) → entries depth (grows s c l) ≡ record { spot = s; depth = depth; size = 1 + count c } ∷ (entries (suc depth) c ++ entries depth l)
unfolding entries
first_entry depth s c l = refl

pub no_entries : (depth : ℕ) → entries depth empty ≡ []
unfolding entries
no_entries depth = refl

pub grows_some : (s : Spot) (c l : Forest) → grows s c l ≢ empty
grows_some s c l e = let bad : ⊥ = cc in bad

module _ (doc : Doc) (n : ℕ) (s : Spot) (c l : Forest) (h : StandAt doc n (grows s c l)) where
  whole : drop n (values_kept doc) ≡ record { spot = s; depth = h.depth; size = 1 + count c } ∷ ((entries (suc h.depth) c ++ entries h.depth l) ++ h.others)
  whole = h.are ∙ ap (λ x. x ++ h.others) (first_entry h.depth s c l)

  pub own_entry : (e : Entry) → get_or (values_kept doc) n e ≡ record { spot = s; depth = h.depth; size = 1 + count c }
  own_entry e = head_at (values_kept doc) n (record { spot = s; depth = h.depth; size = 1 + count c }) ((entries (suc h.depth) c ++ entries h.depth l) ++ h.others) whole e

  -- the values that it holds, and all that come after
  pub behind : drop (n + 1) (values_kept doc) ≡ entries (suc h.depth) c ++ (entries h.depth l ++ h.others)
  behind = drop_on (values_kept doc) (record { spot = s; depth = h.depth; size = 1 + count c } ∷ []) ((entries (suc h.depth) c ++ entries h.depth l) ++ h.others) n (n + 1) whole (omega arith) ∙ append_assoc (entries (suc h.depth) c) (entries h.depth l) h.others

  -- the values after it
  pub beyond : drop (n + (1 + count c)) (values_kept doc) ≡ entries h.depth l ++ h.others
  beyond = drop_on (values_kept doc) (entries (suc h.depth) c) (entries h.depth l ++ h.others) (n + 1) (n + (1 + count c)) behind (omega (arith, length-entries (suc h.depth) c))

-- what stands behind a row is no deeper than it
row_depth : (doc : Doc) (m depth d : ℕ) (l : Forest) (others : List Entry) → drop m (values_kept doc) ≡ entries depth l ++ others → Shallower depth others → IsDepthAt doc m d → d ≤ depth
row_depth doc m depth d empty [] e shallow is = absurd (omega (arith, is.inside, past_at (values_kept doc) m (e ∙ ap (λ x. x ++ []) (no_entries depth))))
row_depth doc m depth d empty (o ∷ others) e shallow is =
    let at : d ≡ o.depth = is.is o ∙ ap (λ x. x.depth) (head_at (values_kept doc) m o others (e ∙ ap (λ x. x ++ o ∷ others) (no_entries depth)) o) in
    omega (arith, at, shallow)
row_depth doc m depth d (grows s c l) others e shallow is =
    let entry : Entry = record { spot = s; depth = depth; size = 1 + count c } in
    let at : d ≡ depth = is.is entry ∙ ap (λ x. x.depth) (head_at (values_kept doc) m entry ((entries (suc depth) c ++ entries depth l) ++ others) (e ∙ ap (λ x. x ++ others) (first_entry depth s c l)) entry) in
    omega (arith, at)

pub row_below : (depth deeper : ℕ) (l : Forest) (others : List Entry) → depth < deeper → Shallower depth others → Shallower deeper (entries depth l ++ others)
unfolding entries
row_below depth deeper empty [] lt shallow = tt
row_below depth deeper empty (o ∷ others) lt shallow = omega (arith, lt, shallow)
row_below depth deeper (grows s c l) others lt shallow = lt

-- a row that has a value has one of its own depth
row_has : (doc : Doc) (m depth d : ℕ) (l : Forest) (others : List Entry) → l ≢ empty → drop m (values_kept doc) ≡ entries depth l ++ others → IsDepthAt doc m d → d ≡ depth
row_has doc m depth d empty others some e is = absurd (some refl)
row_has doc m depth d (grows s c l) others some e is =
    let entry : Entry = record { spot = s; depth = depth; size = 1 + count c } in
    is.is entry ∙ ap (λ x. x.depth) (head_at (values_kept doc) m entry ((entries (suc depth) c ++ entries depth l) ++ others) (e ∙ ap (λ x. x ++ others) (first_entry depth s c l)) entry)

row_inside : (doc : Doc) (m depth : ℕ) (l : Forest) (others : List Entry) → l ≢ empty → drop m (values_kept doc) ≡ entries depth l ++ others → m < length (values_kept doc)
row_inside doc m depth empty others some e = absurd (some refl)
row_inside doc m depth (grows s c l) others some e =
    inside_at (values_kept doc) m (record { spot = s; depth = depth; size = 1 + count c }) ((entries (suc depth) c ++ entries depth l) ++ others) (e ∙ ap (λ x. x ++ others) (first_entry depth s c l))

is_empty_or : (l : Forest) → (l ≡ empty) ⊎ (l ≢ empty)
is_empty_or empty = inl refl
is_empty_or (grows s c l) = inr (grows_some s c l)

pub own_depth : (doc : Doc) (n : ℕ) (e : Entry) (s : Spot) (c l : Forest) (h : StandAt doc n (grows s c l)) → e ≡ get_or (values_kept doc) n e → e.depth ≡ h.depth
own_depth doc n e s c l h is = ap (λ x. x.depth) (is ∙ own_entry doc n s c l h e)

pub own_spot : (doc : Doc) (n : ℕ) (e : Entry) (values : Forest) → e ≡ get_or (values_kept doc) n e → StandAt doc n values → ForFirst values (λ spot children later. e.spot ≡ spot)
own_spot doc n e empty is h = tt
own_spot doc n e (grows s c l) is h = ap (λ x. x.spot) (is ∙ own_entry doc n s c l h e)

pub first_some : (doc : Doc) (n d : ℕ) (e : Entry) (values : Forest) → e ≡ get_or (values_kept doc) n e → IsDepthAt doc (n + 1) d → e.depth < d → StandAt doc n values → ForFirst values (λ spot children later. StandAt doc (n + 1) children × (children ≢ empty))
first_some doc n d e empty is at lt h = tt
first_some doc n d e (grows s empty l) is at lt h =
    absurd (omega (arith, lt, own_depth doc n e s empty l h is, row_depth doc (n + 1) h.depth d l h.others (behind doc n s empty l h ∙ ap (λ x. x ++ (entries h.depth l ++ h.others)) (no_entries (suc h.depth))) h.end at))
first_some doc n d e (grows s (grows t b r) l) is at lt h =
    (record { depth = suc h.depth; others = entries h.depth l ++ h.others; are = behind doc n s (grows t b r) l h; end = row_below h.depth (suc h.depth) l h.others (omega arith) h.end }, grows_some t b r)

pub first_none : (doc : Doc) (n d : ℕ) (e : Entry) (values : Forest) → e ≡ get_or (values_kept doc) n e → IsDepthAt doc (n + 1) d → d ≤ e.depth → StandAt doc n values → ForFirst values (λ spot children later. children ≡ empty)
first_none doc n d e empty is at le h = tt
first_none doc n d e (grows s c l) is at le h = elim (is_empty_or c) [
  | inl none ↦ none
  | inr some ↦ absurd (omega (arith, le, own_depth doc n e s c l h is, row_has doc (n + 1) (suc h.depth) d c (entries h.depth l ++ h.others) some (behind doc n s c l h) at))
]

pub first_past : (doc : Doc) (n : ℕ) (values : Forest) → length (values_kept doc) ≤ n + 1 → StandAt doc n values → ForFirst values (λ spot children later. children ≡ empty)
first_past doc n empty past h = tt
first_past doc n (grows s c l) past h = elim (is_empty_or c) [
  | inl none ↦ none
  | inr some ↦ absurd (omega (arith, past, row_inside doc (n + 1) (suc h.depth) c (entries h.depth l ++ h.others) some (behind doc n s c l h)))
]

own_size : (doc : Doc) (n : ℕ) (e : Entry) (s : Spot) (c l : Forest) (h : StandAt doc n (grows s c l)) → e ≡ get_or (values_kept doc) n e → e.size ≡ 1 + count c
own_size doc n e s c l h is = ap (λ x. x.size) (is ∙ own_entry doc n s c l h e)

size_some : (doc : Doc) (n : ℕ) (e : Entry) (s : Spot) (c l : Forest) (h : StandAt doc n (grows s c l)) → e ≡ get_or (values_kept doc) n e → 1 ≤ e.size
size_some doc n e s c l h is = omega (arith, own_size doc n e s c l h is)

-- where the next value would be
next_place : (doc : Doc) (n m : ℕ) (e : Entry) (s : Spot) (c l : Forest) (h : StandAt doc n (grows s c l)) → e ≡ get_or (values_kept doc) n e → m ≡ n + e.size → drop m (values_kept doc) ≡ entries h.depth l ++ h.others
next_place doc n m e s c l h is at = ap (λ k. drop k (values_kept doc)) (at ∙ ap (λ k. n + k) (own_size doc n e s c l h is)) ∙ beyond doc n s c l h

-- the sum is exact: it doesn't reach past the values
pub size_fits : (doc : Doc) (n : ℕ) (e : Entry) (values : Forest) → e ≡ get_or (values_kept doc) n e → StandAt doc n values → ForFirst values (λ spot children later. n + e.size ≤ length (values_kept doc))
size_fits doc n e empty is h = tt
size_fits doc n e (grows s c l) is h = fits (values_kept doc) n (entries (suc h.depth) c) (entries h.depth l ++ h.others) (behind doc n s c l h) (omega (arith, own_size doc n e s c l h is, length-entries (suc h.depth) c)) inside
  where
    inside : n < length (values_kept doc)
    inside = inside_at (values_kept doc) n (record { spot = s; depth = h.depth; size = 1 + count c }) ((entries (suc h.depth) c ++ entries h.depth l) ++ h.others) (whole doc n s c l h)

    fits : (xs : List Entry) (n : ℕ) (ys zs : List Entry) → drop (n + 1) xs ≡ ys ++ zs → e.size ≡ 1 + length ys → n < length xs → n + e.size ≤ length xs
    fits xs n ys zs d size low = omega (arith, size, low, ap length d, length-drop (n + 1) xs, length-append ys zs)

pub next_some : (doc : Doc) (n m d : ℕ) (e : Entry) (values : Forest) → e ≡ get_or (values_kept doc) n e → (n + e.size ≤ length (values_kept doc) → 1 ≤ e.size → m ≡ n + e.size) → IsDepthAt doc m d → d ≡ e.depth → StandAt doc n values → ForFirst values (λ spot children later. StandAt doc m later × (later ≢ empty))
next_some doc n m d e empty is place at eq h = tt
next_some doc n m d e (grows s c empty) is place at eq h = absurd (after_row h.others (next_place doc n m e s c empty h is (place (size_fits doc n e (grows s c empty) is h) (size_some doc n e s c empty h is))) h.end)
  where
    after_row : (others : List Entry) → drop m (values_kept doc) ≡ entries h.depth empty ++ others → Shallower h.depth others → ⊥
    after_row [] there shallow = omega (arith, at.inside, past_at (values_kept doc) m (there ∙ ap (λ x. x ++ []) (no_entries h.depth)))
    after_row (o ∷ others) there shallow =
        let here : d ≡ o.depth = at.is o ∙ ap (λ x. x.depth) (head_at (values_kept doc) m o others (there ∙ ap (λ x. x ++ o ∷ others) (no_entries h.depth)) o) in
        omega (arith, here, shallow, eq, own_depth doc n e s c empty h is)
next_some doc n m d e (grows s c (grows t b r)) is place at eq h =
    (record { depth = h.depth; others = h.others; are = next_place doc n m e s c (grows t b r) h is (place (size_fits doc n e (grows s c (grows t b r)) is h) (size_some doc n e s c (grows t b r) h is)); end = h.end }, grows_some t b r)

pub next_none : (doc : Doc) (n m d : ℕ) (e : Entry) (values : Forest) → e ≡ get_or (values_kept doc) n e → (n + e.size ≤ length (values_kept doc) → 1 ≤ e.size → m ≡ n + e.size) → IsDepthAt doc m d → (d ≡ e.depth → ⊥) → StandAt doc n values → ForFirst values (λ spot children later. later ≡ empty)
next_none doc n m d e empty is place at ne h = tt
next_none doc n m d e (grows s c l) is place at ne h = elim (is_empty_or l) [
  | inl none ↦ none
  | inr some ↦ absurd (ne (row_has doc m h.depth d l h.others some (next_place doc n m e s c l h is (place (size_fits doc n e (grows s c l) is h) (size_some doc n e s c l h is))) at ∙ sym (own_depth doc n e s c l h is)))
]

pub next_past : (doc : Doc) (n m : ℕ) (e : Entry) (values : Forest) → e ≡ get_or (values_kept doc) n e → (n + e.size ≤ length (values_kept doc) → 1 ≤ e.size → m ≡ n + e.size) → length (values_kept doc) ≤ m → StandAt doc n values → ForFirst values (λ spot children later. later ≡ empty)
next_past doc n m e empty is place past h = tt
next_past doc n m e (grows s c l) is place past h = elim (is_empty_or l) [
  | inl none ↦ none
  | inr some ↦ absurd (omega (arith, past, row_inside doc m h.depth l h.others some (next_place doc n m e s c l h is (place (size_fits doc n e (grows s c l) is h) (size_some doc n e s c l h is)))))
]

pub for_first : (values : Forest) (P Q : Spot → Forest → Forest → Type 0) → ForFirst values P → ((s : Spot) (children later : Forest) → P s children later → Q s children later) → ForFirst values Q
for_first empty P Q h f = tt
for_first (grows s children later) P Q h f = f s children later h

-- a value stands among those that are kept
pub stands_inside : (doc : Doc) (n : ℕ) (s : Spot) (c l : Forest) → StandAt doc n (grows s c l) → n < length (values_kept doc)
stands_inside doc n s c l h = inside_at (values_kept doc) n (record { spot = s; depth = h.depth; size = 1 + count c }) ((entries (suc h.depth) c ++ entries h.depth l) ++ h.others) (whole doc n s c l h)
