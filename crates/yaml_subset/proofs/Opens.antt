-- The parts that are open, as a list from the outermost.
use Rattle.std.proofs.Common.{◌≡◌, ℕ, suc, ◌+◌, ◌<◌, ◌≤◌, Bool, true, false, ◌&&◌, ◌||◌, ◌==◌, List, [], ◌∷◌, ◌++◌, length, refl, sym, ap, ◌∙◌, arith, Some, None}
use Rattle.std.specs.Prelude.{nat_lt, if◌then◌else◌}
use Rattle.std.specs.List.{list_any}
use Rattle.std.proofs.lemmas.List.{length-append}
use Rattle.std.proofs.lemmas.Bool.{false_from_ne_true}
use Rattle.std.proofs.lemmas.Bool.Decides.{Decides-ltb}
use Rattle.yaml_subset.specs.declared.open.Holder.{Holder}
use Rattle.yaml_subset.specs.declared.open.Holder.TheVariants as holders
use Rattle.yaml_subset.specs.declared.open.Open.{Open}
use Rattle.yaml_subset.specs.declared.open.Tip.{Tip}
use Rattle.yaml_subset.specs.declared.open.Tip.TheVariants as tips
use Rattle.yaml_subset.specs.Tree.{What, absent, leaf, rows}
use Rattle.yaml_subset.specs.Front.{Frame}
use Rattle.yaml_subset.specs.Refusal.{is_holder, is_absent, is_plain, may_begin, has_column}
use Rattle.yaml_subset.specs.Held.{opened, openings, tip_of}
use Rattle.yaml_subset.specs.Kept.{kept_count}

cons_head : {T : Type 0} (x y : T) (xs ys : List T) → x ∷ xs ≡ y ∷ ys → (x ≡ y) × (xs ≡ ys)
cons_head x y xs ys e = (cc, cc)

nil_snoc : {T : Type 0} (xs : List T) (x : T) → [] ≡ xs ++ (x ∷ []) → ⊥
nil_snoc [] x e = cc
nil_snoc (y ∷ xs) x e = cc

pub snoc_last : {T : Type 0} (xs ys : List T) (x y : T) → xs ++ (x ∷ []) ≡ ys ++ (y ∷ []) → (xs ≡ ys) × (x ≡ y)
snoc_last [] [] x y e = (refl, (cons_head x y [] [] e).0)
snoc_last [] (b ∷ ys) x y e = absurd (nil_snoc ys y (cons_head x b [] (ys ++ (y ∷ [])) e).1)
snoc_last (a ∷ xs) [] x y e = absurd (nil_snoc xs x (sym (cons_head a y (xs ++ (x ∷ [])) [] e).1))
snoc_last (a ∷ xs) (b ∷ ys) x y e =
    let h = cons_head a b (xs ++ (x ∷ [])) (ys ++ (y ∷ [])) e in
    let p = snoc_last xs ys x y h.1 in
    (ap (λ z. z ∷ xs) h.0 ∙ ap (λ z. b ∷ z) p.0, p.1)

not_nil : {T : Type 0} (xs : List T) (x : T) → length (xs ++ (x ∷ [])) ≡ 0 → ⊥
not_nil [] x e = absurd (omega (arith, e))
not_nil (y ∷ xs) x e = absurd (omega (arith, e))

pub openings_length : (frames : List Frame) → length (openings frames) ≡ length frames
unfolding openings
openings_length [] = refl
openings_length (f ∷ outer) = let e = openings_length outer in let l : length (openings outer ++ (opened f ∷ [])) ≡ length (openings outer) + 1 = length-append (openings outer) (opened f ∷ []) in omega (arith, e, l)

any_append : {T : Type 0} (p : T → Bool) (xs ys : List T) → list_any p (xs ++ ys) ≡ (list_any p xs || list_any p ys)
any_append p [] ys = refl
any_append p (x ∷ xs) ys = by_test (p x) (any_append p xs ys)
  where
    by_test : (b : Bool) → list_any p (xs ++ ys) ≡ (list_any p xs || list_any p ys) → (b || list_any p (xs ++ ys)) ≡ ((b || list_any p xs) || list_any p ys)
    by_test true e = refl
    by_test false e = e

or_swap : (a b : Bool) → (a || (b || false)) ≡ (b || a)
or_swap true true = refl
or_swap true false = refl
or_swap false true = refl
or_swap false false = refl

pub any_opening : (column : ℕ) (frames : List Frame) → list_any (λ (part : Open). part.column == column) (openings frames) ≡ has_column column frames
unfolding openings
any_opening column [] = refl
any_opening column (f ∷ outer) =
    any_append (λ (part : Open). part.column == column) (openings outer) (opened f ∷ [])
    ∙ ap (λ b. b || list_any (λ (part : Open). part.column == column) (opened f ∷ [])) (any_opening column outer)
    ∙ or_swap (has_column column outer) (f.column == column)

-- the last opening is that of the innermost rows
pub record Innermost (last : Open) (outer_openings : List Open) (frames : List Frame) : Type 0 where
  pub f : Frame
  pub outer : List Frame
  pub are : frames ≡ f ∷ outer
  pub last_is : last ≡ opened f
  pub outer_are : outer_openings ≡ openings outer

pub innermost : (last : Open) (rest : List Open) (frames : List Frame) → rest ++ (last ∷ []) ≡ openings frames → Innermost last rest frames
unfolding openings
innermost last rest [] e = absurd (not_nil rest last (ap length e))
innermost last rest (f ∷ outer) e = let p = snoc_last rest (openings outer) last (opened f) e in record { f = f; outer = outer; are = refl; last_is = p.1; outer_are = p.0 }

pub no_frames : (opens : List Open) (frames : List Frame) → length opens ≡ 0 → opens ≡ openings frames → frames ≡ []
unfolding openings
no_frames opens [] z e = refl
no_frames opens (f ∷ outer) z e = absurd (not_nil (openings outer) (opened f) (sym (ap length e) ∙ z))

-- looking for rows, from the innermost
pub record KeptFrom (holder : Holder) (column : ℕ) (left : List Open) (frames : List Frame) : Type 0 where
  pub rest : List Frame
  pub are : left ≡ openings rest
  pub same : kept_count holder column frames ≡ kept_count holder column rest

pub kept_all : (holder : Holder) (column : ℕ) (opens : List Open) (frames : List Frame) → opens ≡ openings frames → KeptFrom holder column opens frames
kept_all holder column opens frames e = record { rest = frames; are = e; same = refl }

pub kept_on : (holder : Holder) (column : ℕ) (left outer : List Open) (last : Open) (frames : List Frame) → left ≡ outer ++ (last ∷ []) → (is_holder last.holder holder && last.column == column) ≡ false → nat_lt last.column column ≡ false → KeptFrom holder column left frames → KeptFrom holder column outer frames
unfolding kept_count
kept_on holder column left outer last frames e m l k =
    let i = innermost last outer k.rest (sym e ∙ k.are) in
    record {
      rest = i.outer;
      are = i.outer_are;
      same = k.same ∙ ap (kept_count holder column) i.are ∙ rw (ap (λ (o : Open). is_holder o.holder holder && o.column == column) (sym i.last_is) ∙ m, ap (λ (o : Open). nat_lt o.column column) (sym i.last_is) ∙ l);
    }

pub kept_here : (holder : Holder) (column : ℕ) (left outer : List Open) (last : Open) (frames : List Frame) → left ≡ outer ++ (last ∷ []) → (is_holder last.holder holder && last.column == column) ≡ true → KeptFrom holder column left frames → Some (length left) ≡ kept_count holder column frames
unfolding kept_count
kept_here holder column left outer last frames e m k =
    let i = innermost last outer k.rest (sym e ∙ k.are) in
    let size : length left ≡ suc (length i.outer) = ap length k.are ∙ openings_length k.rest ∙ ap length i.are in
    sym (k.same ∙ ap (kept_count holder column) i.are ∙ rw (ap (λ (o : Open). is_holder o.holder holder && o.column == column) (sym i.last_is) ∙ m) (ap (λ n. Some n) (sym size)))

pub kept_none : (holder : Holder) (column : ℕ) (left outer : List Open) (last : Open) (frames : List Frame) → left ≡ outer ++ (last ∷ []) → (is_holder last.holder holder && last.column == column) ≡ false → nat_lt last.column column ≡ true → KeptFrom holder column left frames → None ≡ kept_count holder column frames
unfolding kept_count
kept_none holder column left outer last frames e m l k =
    let i = innermost last outer k.rest (sym e ∙ k.are) in
    sym (k.same ∙ ap (kept_count holder column) i.are ∙ rw (ap (λ (o : Open). is_holder o.holder holder && o.column == column) (sym i.last_is) ∙ m, ap (λ (o : Open). nat_lt o.column column) (sym i.last_is) ∙ l))

pub kept_end : (holder : Holder) (column : ℕ) (left : List Open) (frames : List Frame) → length left ≡ 0 → KeptFrom holder column left frames → None ≡ kept_count holder column frames
unfolding kept_count
kept_end holder column left frames z k = sym (k.same ∙ ap (kept_count holder column) (no_frames left k.rest z k.are))

pub tip_waits : (what : What) (t : Tip) → t ≡ tip_of what → (t ≡ tips.Absent → is_absent what ≡ true) × ((t ≡ tips.Absent → ⊥) → is_absent what ≡ false)
tip_waits absent t e = (λ h. refl, λ h. absurd (h e))
tip_waits (leaf line column value) t e = by_plain value.plain e
  where
    by_plain : (b : Bool) → t ≡ (if b then tips.Plain else tips.Other) → (t ≡ tips.Absent → false ≡ true) × ((t ≡ tips.Absent → ⊥) → false ≡ false)
    by_plain true e = (λ h. cc, λ h. refl)
    by_plain false e = (λ h. cc, λ h. refl)
tip_waits (rows h c) t e = (λ h. cc, λ h. refl)

pub tip_plain : (what : What) (t : Tip) → t ≡ tip_of what → (t ≡ tips.Plain → is_plain what ≡ true) × ((t ≡ tips.Plain → ⊥) → is_plain what ≡ false)
tip_plain absent t e = (λ h. cc, λ h. refl)
tip_plain (leaf line column value) t e = by_plain value.plain e
  where
    by_plain : (b : Bool) → t ≡ (if b then tips.Plain else tips.Other) → (t ≡ tips.Plain → b ≡ true) × ((t ≡ tips.Plain → ⊥) → b ≡ false)
    by_plain true e = (λ h. refl, λ h. absurd (h e))
    by_plain false e = (λ h. cc, λ h. refl)
tip_plain (rows h c) t e = (λ h. cc, λ h. refl)

pub file_begins : (h : Holder) (c : ℕ) → is_holder h holders.File ≡ may_begin [] h c
file_begins holders.File c = refl
file_begins holders.Mapping c = refl
file_begins holders.Sequence c = refl

pub below_is : (a b : ℕ) → a < b → nat_lt a b ≡ true
below_is a b l = (Decides-ltb a b).1 l

pub not_below : (a b : ℕ) → b ≤ a → nat_lt a b ≡ false
not_below a b l = false_from_ne_true (nat_lt a b) (λ t. let d : a < b = (Decides-ltb a b).0 t in absurd (omega (arith, l, d)))
