-- Texts in one piece.
use Rattle.std.proofs.Common.{◌≡◌, ◌⊎◌, inl, inr, ℕ, zero, suc, ◌+◌, ◌-◌, ◌<◌, ◌≤◌, Bool, true, false, cond, eqb, List, [], ◌∷◌, ◌++◌, length, take, drop, get_or, Option, Some, None, refl, sym, ap, subst, ◌∙◌, arith, length-append, length-drop}
use Rattle.std.specs.List.{slice_get}
use Rattle.std.proofs.lemmas.List.{drop-append-le, take-append-le}
use Rattle.json_lexemes.specs.declared.kind.Kind.{Kind}
use Rattle.json_lexemes.specs.declared.kind.Kind.TheVariants as kinds
use Rattle.json_text.specs.declared.spot.Spot.{Spot}
use Rattle.json_text.specs.declared.spot.Entry.{Entry}
use Rattle.json_text.specs.declared.told.Place.{Place}
use Rattle.json_text.specs.declared.told.Told.{Told}
use Rattle.json_text.specs.Unescape.{unescaped, unescaped_from, content, text_shown, text_in}
use Rattle.json_text.specs.Told.{inside_of, inside_in, piece, piece_at, told_at, AreWholeUpTo, StandUpTo, TextsStand, TextsAreWhole, AddsText, IsPlaceOf}

-- a fact of all numbers below one, and of that one
pub one_more : (P : ℕ → Type 0) (i : ℕ) → ((k : ℕ) → k < i → P k) → P i → (k : ℕ) → k < i + 1 → P k
one_more P i before here k lt = elim (below_or k i lt) [
  | inl less ↦ before k less
  | inr same ↦ subst P (sym same) here
]
  where
    below_or : (k i : ℕ) → k < i + 1 → (k < i) ⊎ (k ≡ i)
    below_or zero zero lt = inr refl
    below_or zero (suc i) lt = inl (omega arith)
    below_or (suc k) zero lt = absurd (omega (arith, lt))
    below_or (suc k) (suc i) lt = elim (below_or k i (omega (arith, lt))) [
      | inl less ↦ inl (omega (arith, less))
      | inr same ↦ inr (ap suc same)
    ]

-- what spells a text spells it
pub spells_text : (bytes : List ℕ) (spot : Spot) → unescaped (inside_of bytes spot) ≡ text_shown bytes spot
unfolding unescaped_from
spells_text bytes spot = by_kind spot.kind
  where
    by_kind : (kind : Kind) → unescaped (inside_in bytes spot kind) ≡ text_in bytes spot kind
    by_kind kinds.Null = refl
    by_kind (kinds.Flag on) = refl
    by_kind kinds.Number = refl
    by_kind kinds.Text = refl
    by_kind kinds.List = refl
    by_kind kinds.Map = refl

-- one value more
pub stand_next : (bytes : List ℕ) (nodes : List Entry) (i : ℕ) (own : Entry) (inside : List ℕ) → own ≡ get_or nodes i own → i < length nodes → inside ≡ inside_of bytes own.spot → unescaped inside ≡ inside → StandUpTo i bytes nodes → StandUpTo (i + 1) bytes nodes
stand_next bytes nodes i own inside is lt spelled stands before k entry below = one_more (λ n. inside_of bytes (get_or nodes n entry).spot ≡ text_shown bytes (get_or nodes n entry).spot) i (λ n less. before n entry less) here k below
  where
    same : own ≡ get_or nodes i entry
    same = is ∙ within nodes i own entry lt
      where
        within : (xs : List Entry) (n : ℕ) (a b : Entry) → n < length xs → get_or xs n a ≡ get_or xs n b
        within [] n a b lt = absurd (omega (arith, lt))
        within (x ∷ xs) zero a b lt = refl
        within (x ∷ xs) (suc n) a b lt = within xs n a b (omega (arith, lt))

    here : inside_of bytes (get_or nodes i entry).spot ≡ text_shown bytes (get_or nodes i entry).spot
    here = subst (λ (e : Entry). inside_of bytes e.spot ≡ text_shown bytes e.spot) same (sym spelled ∙ sym stands ∙ ap unescaped spelled ∙ spells_text bytes own.spot)

-- ---- places

-- each place stands within the texts
abbrev pub AreWithin : List Place → List ℕ → Type 0
AreWithin places texts = (k : ℕ) (place : Place) → slice_get places k ≡ Some place → place.after ≤ length texts + 1

-- of the first values each text is told
pub record Telling (count : ℕ) (bytes : List ℕ) (nodes : List Entry) (told : Told) : Type 0 where
  pub places : length told.places.items ≡ count
  pub within : AreWithin told.places.items told.texts
  pub whole : AreWholeUpTo count bytes nodes told

-- more texts change no part of those before
part_stays : (texts more : List ℕ) (start after : ℕ) → after ≤ length texts + 1 → take (after - 1 - start) (drop start (texts ++ more)) ≡ take (after - 1 - start) (drop start texts)
part_stays texts more start after le = elim (start_or start (length texts)) [
  | inl low ↦ ap (take (after - 1 - start)) (drop-append-le start texts more low) ∙ take-append-le (after - 1 - start) (drop start texts) more (omega (arith, le, length-drop start texts, low))
  | inr high ↦ (let none : after - 1 - start ≡ 0 = omega (arith, le, high) in rw none refl)
]
  where
    start_or : (a b : ℕ) → (a ≤ b) ⊎ (b < a)
    start_or zero b = inl (omega arith)
    start_or (suc a) zero = inr (omega arith)
    start_or (suc a) (suc b) = elim (start_or a b) [
      | inl low ↦ inl (omega (arith, low))
      | inr high ↦ inr (omega (arith, high))
    ]

piece_stays : (texts more inside : List ℕ) (place : Place) → place.after ≤ length texts + 1 → piece (texts ++ more) place inside ≡ piece texts place inside
piece_stays texts more inside place le = ap (cond (eqb place.after 0) inside) (part_stays texts more place.start place.after le)

piece_at_stays : (texts more inside : List ℕ) (found : Option Place) → ((place : Place) → found ≡ Some place → place.after ≤ length texts + 1) → piece_at (texts ++ more) found inside ≡ piece_at texts found inside
piece_at_stays texts more inside None within = refl
piece_at_stays texts more inside (Some place) within = piece_stays texts more inside place (within place refl)

-- the places before the last one, and the last one
get_front : (places : List Place) (place : Place) (k : ℕ) → k < length places → slice_get (places ++ place ∷ []) k ≡ slice_get places k
get_front [] place k lt = absurd (omega (arith, lt))
get_front (p ∷ places) place zero lt = refl
get_front (p ∷ places) place (suc k) lt = get_front places place k (omega (arith, lt))

get_last : (places : List Place) (place : Place) (k : ℕ) → k ≡ length places → slice_get (places ++ place ∷ []) k ≡ Some place
get_last [] place zero is = refl
get_last [] place (suc k) is = absurd (omega (arith, is))
get_last (p ∷ places) place zero is = absurd (omega (arith, is))
get_last (p ∷ places) place (suc k) is = get_last places place k (omega (arith, is))

get_past : (places : List Place) (k : ℕ) → length places ≤ k → slice_get places k ≡ None
get_past [] k le = refl
get_past (p ∷ places) zero le = absurd (omega (arith, le))
get_past (p ∷ places) (suc k) le = get_past places k (omega (arith, le))

pub none_told : (bytes : List ℕ) (nodes : List Entry) (told : Told) → told.places.items ≡ [] → told.texts ≡ [] → Telling 0 bytes nodes told
none_told bytes nodes told none empty = record {
  places = ap length none;
  within = λ k place found. (let bad : None ≡ Some place = sym (ap (λ ps. slice_get ps k) none) ∙ found in let no : ⊥ = cc in absurd no);
  whole = λ k entry lt. absurd (omega (arith, lt));
}

-- all stand as they are written
pub all_stand : (bytes : List ℕ) (nodes : List Entry) (told : Told) → told.places.items ≡ [] → TextsStand bytes nodes → TextsAreWhole bytes nodes told
all_stand bytes nodes told none stand k entry lt = ap (λ ps. piece_at told.texts (slice_get ps k) (inside_of bytes (get_or nodes k entry).spot)) none ∙ stand k entry lt

-- one text more
module _ (bytes : List ℕ) (nodes : List Entry) (i : ℕ) (old new : Told) (own : Entry) (inside : List ℕ) (is : own ≡ get_or nodes i own) (lt : i < length nodes) (spelled : inside ≡ inside_of bytes own.spot) (adds : AddsText old new inside) (before : Telling i bytes nodes old) where
  in_own : (entry : Entry) → own ≡ get_or nodes i entry
  in_own entry = is ∙ within nodes i own entry lt
    where
      within : (xs : List Entry) (n : ℕ) (a b : Entry) → n < length xs → get_or xs n a ≡ get_or xs n b
      within [] n a b lt = absurd (omega (arith, lt))
      within (x ∷ xs) zero a b lt = refl
      within (x ∷ xs) (suc n) a b lt = within xs n a b (omega (arith, lt))

  front : (k : ℕ) → k < i → slice_get new.places.items k ≡ slice_get old.places.items k
  front k less = ap (λ ps. slice_get ps k) adds.places ∙ get_front old.places.items adds.place k (omega (arith, less, before.places))

  last : slice_get new.places.items i ≡ Some adds.place
  last = ap (λ ps. slice_get ps i) adds.places ∙ get_last old.places.items adds.place i (sym before.places)

  longer : length old.texts ≤ length new.texts
  longer = omega (arith, ap length adds.of.grown, length-append old.texts adds.of.more)

  told_stays : (k : ℕ) (spelling : List ℕ) → k < i → told_at new k spelling ≡ told_at old k spelling
  told_stays k spelling less =
      ap (λ found. piece_at new.texts found spelling) (front k less) ∙ ap (λ texts. piece_at texts (slice_get old.places.items k) spelling) adds.of.grown
      ∙ piece_at_stays old.texts adds.of.more spelling (slice_get old.places.items k) (λ place found. before.within k place found)

  told_last : (entry : Entry) → told_at new i (inside_of bytes (get_or nodes i entry).spot) ≡ text_shown bytes (get_or nodes i entry).spot
  told_last entry = subst (λ (e : Entry). told_at new i (inside_of bytes e.spot) ≡ text_shown bytes e.spot) (in_own entry)
      (ap (told_at new i) (sym spelled) ∙ ap (λ found. piece_at new.texts found inside) last ∙ adds.of.is ∙ ap unescaped spelled ∙ spells_text bytes own.spot)

  within_next : (k : ℕ) (place : Place) → slice_get new.places.items k ≡ Some place → place.after ≤ length new.texts + 1
  within_next k place found = elim (place_or k i) [
    | inl less ↦ omega (arith, longer, before.within k place (sym (front k less) ∙ found))
    | inr (inl same) ↦ (let here : adds.place ≡ place = some_is (sym last ∙ ap (λ n. slice_get new.places.items n) (sym same) ∙ found) in omega (arith, adds.of.within, ap (λ (p : Place). p.after) here))
    | inr (inr more) ↦ (let bad : None ≡ Some place = sym (get_past new.places.items k (omega (arith, more, before.places, ap length adds.places, length-append old.places.items (adds.place ∷ [])))) ∙ found in let no : ⊥ = cc in absurd no)
  ]
    where
      some_is : {A : Type 0} {a b : A} → Some a ≡ Some b → a ≡ b
      some_is h = cc

      place_or : (a b : ℕ) → (a < b) ⊎ ((a ≡ b) ⊎ (b < a))
      place_or zero zero = inr (inl refl)
      place_or zero (suc b) = inl (omega arith)
      place_or (suc a) zero = inr (inr (omega arith))
      place_or (suc a) (suc b) = elim (place_or a b) [
        | inl low ↦ inl (omega (arith, low))
        | inr (inl same) ↦ inr (inl (ap suc same))
        | inr (inr high) ↦ inr (inr (omega (arith, high)))
      ]

  pub telling_next : Telling (i + 1) bytes nodes new
  telling_next = record {
    places = ap length adds.places ∙ length-append old.places.items (adds.place ∷ []) ∙ ap (λ n. n + 1) before.places;
    within = within_next;
    whole = λ k entry below. one_more (λ n. told_at new n (inside_of bytes (get_or nodes n entry).spot) ≡ text_shown bytes (get_or nodes n entry).spot) i (λ n less. told_stays n _ less ∙ before.whole n entry less) (told_last entry) k below;
  }
