-- The text that a part is.
use Rattle.std.proofs.Common.{◌≡◌, ◌∙◌, ap, sym, ℕ, List, Some, None}
use Rattle.std.specs.Prelude.{IsUtf8, if◌then◌else◌}
use Rattle.std.specs.Str.{is_utf8}
use Rattle.std.proofs.lemmas.Bool.{false_from_ne_true}
use Rattle.std.proofs.lemmas.Str.{IsUtf8-from_is_utf8, is_utf8-from_IsUtf8}
use Rattle.yaml_subset.specs.PartKind.{PartKind}
use Rattle.yaml_subset.specs.PartKind.TheVariants as kinds
use Rattle.yaml_subset.specs.Trees.{Told}
use Rattle.resource_spec.specs.Field.{text_of}

scalar_text : (line : ℕ) (name : List ℕ) (kind : PartKind) (text : List ℕ) → kind ≡ kinds.Scalar → text_of (record { line = line; name = name; kind = kind; text = text }) ≡ (if is_utf8 text then Some text else None)
scalar_text line name kind text k = ap (λ (k : PartKind). text_of (record { line = line; name = name; kind = k; text = text })) k

pub text_good : (t : Told) (s : List ℕ) → t.kind ≡ kinds.Scalar → s ≡ t.text → IsUtf8 t.text → Some s ≡ text_of t
text_good t s k e u = ap Some e ∙ ap (λ b. if b then Some t.text else None) (sym (is_utf8-from_IsUtf8 t.text u)) ∙ sym (scalar_text t.line t.name t.kind t.text k)

pub text_bad : (t : Told) → t.kind ≡ kinds.Scalar → ¬ IsUtf8 t.text → None ≡ text_of t
text_bad t k u = ap (λ b. if b then Some t.text else None) (sym (false_from_ne_true (is_utf8 t.text) (λ e. u (IsUtf8-from_is_utf8 t.text e)))) ∙ sym (scalar_text t.line t.name t.kind t.text k)
