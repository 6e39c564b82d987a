-- Scopes, item by item.
use Rattle.std.proofs.Common.{ℕ, Bool, List}
use Rattle.std.specs.Prelude.{◌||◌, if◌then◌else◌, codes, Result, Ok, Err}
use Rattle.yaml_subset.specs.Trees.{Trees}
use Rattle.resource_spec.specs.declared.field_err.FieldErr.{FieldErr}
use Rattle.resource_spec.specs.declared.field_err.FieldErr.TheVariants.{Wrong}
use Rattle.resource_spec.specs.Document.{are_scalars, has_item}

-- what is left of the items, after one that has the text or none
abbrev pub names_with : Bool → List ℕ → Trees → Result Bool FieldErr
names_with found app items = if are_scalars items then Ok (found || has_item app items) else Err (Wrong (codes "scopes"))
