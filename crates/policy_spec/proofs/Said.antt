-- What is read of a text.
use Rattle.std.proofs.Common.{◌≡◌, ap, refl, ℕ, List, [], ◌∷◌, Option, Some, None, Result, Ok, Err}
use Rattle.std.specs.Prelude.{IsUtf8, if◌then◌else◌}
use Rattle.std.specs.Str.{is_utf8}
use Rattle.std.proofs.lemmas.Bool.{false_from_ne_true}
use Rattle.std.proofs.lemmas.Str.{IsUtf8-from_is_utf8, is_utf8-from_IsUtf8}
use Rattle.resource_spec.specs.declared.field_err.FieldErr.TheVariants.{Wrong}
use Rattle.resource_spec.specs.Field.{with_name, field_at}
use Rattle.policy_spec.specs.Policy.{member_field}

-- nothing is read where no value is
pub none_read : {T : Type 0} (o : Option T) → ((x : T) → o ≡ Some x → ⊥) → None ≡ o
none_read None h = refl
none_read (Some x) h = absurd (h x refl)

pub err_is_not : {T E : Type 0} (r : Result T E) (x : T) (e : E) → r ≡ Err e → r ≡ Ok x → ⊥
err_is_not r x e a b = cc

pub field_one : (field name : List ℕ) → field_at field (name ∷ []) 1 ≡ with_name field name
field_one [] name = refl
field_one (byte ∷ others) name = refl

pub member_good : (field name : List ℕ) → IsUtf8 name → member_field field name ≡ Ok (with_name field name)
member_good field name u = ap (λ b. if b then Ok (with_name field name) else Err (Wrong field)) (is_utf8-from_IsUtf8 name u)

pub member_bad : (field name : List ℕ) → ¬ IsUtf8 name → member_field field name ≡ Err (Wrong field)
member_bad field name u = ap (λ b. if b then Ok (with_name field name) else Err (Wrong field)) (false_from_ne_true (is_utf8 name) (λ e. u (IsUtf8-from_is_utf8 name e)))
