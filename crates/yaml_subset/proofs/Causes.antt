-- Why a line is refused.
use Rattle.std.proofs.Common.{◌≡◌, ℕ, Bool, true, false, ◌&&◌, List, refl, None, Result, Err}
use Rattle.yaml_subset.specs.declared.error.YamlErr.{YamlErr}
use Rattle.yaml_subset.specs.declared.error.YamlErr.TheVariants.{Tab, Indent, LeftOut, Repeated, Scalar, NotUtf8, NoMemory}
use Rattle.yaml_subset.specs.declared.open.Holder.{Holder}
use Rattle.yaml_subset.specs.declared.open.Holder.TheVariants as holders
use Rattle.yaml_subset.specs.Tree.{What, absent, leaf, rows, empty}
use Rattle.yaml_subset.specs.Front.{Front}
use Rattle.yaml_subset.specs.Refusal.{is_holder, is_absent, turned, turned_or, may_begin, may_have, is_deep, has_column, misplaced_in, misplaced, with_lead, with_value, at_line}
use Rattle.yaml_subset.specs.Held.{IsCause}

pub both_true : (a b : Bool) → (a && b) ≡ true → (a ≡ true) × (b ≡ true)
both_true true b e = (refl, e)
both_true false b e = cc

pub absent_is : (tip : What) → is_absent tip ≡ true → tip ≡ absent
absent_is absent e = refl
absent_is (leaf at place v) e = cc
absent_is (rows h c) e = cc

pub new_not_repeated : (h : Holder) → false ≡ (is_holder h holders.Mapping && false)
new_not_repeated holders.File = refl
new_not_repeated holders.Mapping = refl
new_not_repeated holders.Sequence = refl

pub cause_of : (e : YamlErr) (r : Result Front YamlErr) → r ≡ Err e → IsCause e r
cause_of (Tab line) r h = h
cause_of (Indent line) r h = h
cause_of (LeftOut line what) r h = h
cause_of (Repeated line) r h = h
cause_of (Scalar line) r h = h
cause_of (NotUtf8 at) r h = h
cause_of NoMemory r h = tt

pub lead_full : (h : Holder) (c line first : ℕ) (name : List ℕ) (front : Front) → (is_absent front.tip && may_begin front.frames h c) ≡ true → is_deep front.frames ≡ true → at_line line first (with_lead h c line name front) ≡ Err (LeftOut line first)
unfolding with_lead
lead_full h c line first name front b d = rw (b, d)

pub lead_none : (h : Holder) (c line first : ℕ) (name : List ℕ) (front : Front) → (is_absent front.tip && may_begin front.frames h c) ≡ false → turned h c line name front.frames front.tip empty ≡ None → at_line line first (with_lead h c line name front) ≡ Err (misplaced line 0 (misplaced_in (has_column c front.frames)))
unfolding with_lead
lead_none h c line first name front b t = rw (b, t) (by_column (has_column c front.frames))
  where
    by_column : (has : Bool) → at_line line first (turned_or None has) ≡ Err (misplaced line 0 (misplaced_in has))
    by_column true = refl
    by_column false = refl

pub value_none : (counts : Bool) (c line first : ℕ) (what : What) (front : Front) → (is_absent front.tip && may_have front.frames c) ≡ false → at_line line first (with_value counts c what front) ≡ Err (misplaced line 0 (misplaced_in (has_column c front.frames)))
unfolding with_value
value_none counts c line first what front b = rw b (by_column (has_column c front.frames))
  where
    by_column : (has : Bool) → at_line line first (Err (misplaced_in has)) ≡ Err (misplaced line 0 (misplaced_in has))
    by_column true = refl
    by_column false = refl

pub value_full : (counts : Bool) (c line first : ℕ) (what : What) (front : Front) → (is_absent front.tip && may_have front.frames c) ≡ true → (counts && is_deep front.frames) ≡ true → at_line line first (with_value counts c what front) ≡ Err (LeftOut line first)
unfolding with_value
value_full counts c line first what front b d = rw (b, d)
