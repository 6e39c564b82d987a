-- The byte order mark.
use Rattle.std.proofs.Common.{◌≡◌, ℕ, ◌≤◌, false, List, [], ◌∷◌, ◌++◌, length, take, drop, refl, sym, ap, subst, ◌∙◌, arith}
use Rattle.std.specs.Prelude.{IsUtf8, bytes_eq, if◌then◌else◌, encode_utf8}
use lib.Utf8.{encode}
use Rattle.std.proofs.lemmas.List.{take-append-drop}
use Rattle.std.proofs.lemmas.Bool.{false_from_ne_true}
use Rattle.std.proofs.lemmas.Slice.Eq.{bytes_eq-Decides}
use Rattle.std.proofs.lemmas.Str.{IsUtf8-drop, IsCharBoundary-from_take}
use Rattle.yaml_lines.proofs.Branches.{if_of}
use Rattle.yaml_subset.specs.File.{without_order_mark}

pub marked : (text rest : List ℕ) → text ≡ encode_utf8 65279 ++ rest → rest ≡ without_order_mark text
unfolding without_order_mark encode
marked text rest e = sym (ap (λ t. if bytes_eq (take 3 t) (239 ∷ 187 ∷ 191 ∷ []) then drop 3 t else t) e)

pub not_marked : (text : List ℕ) → ((rest : List ℕ) → text ≡ encode_utf8 65279 ++ rest → ⊥) → text ≡ without_order_mark text
unfolding without_order_mark encode
not_marked text n =
    let f : bytes_eq (take 3 text) (239 ∷ 187 ∷ 191 ∷ []) ≡ false = false_from_ne_true (bytes_eq (take 3 text) (239 ∷ 187 ∷ 191 ∷ [])) (λ t.
    n (drop 3 text) (sym (take-append-drop 3 text) ∙ ap (λ l. l ++ drop 3 text) ((bytes_eq-Decides (take 3 text) (239 ∷ 187 ∷ 191 ∷ [])).0 t))) in
    rw f

-- a text in UTF-8 is one without the mark too
mark_utf8 : IsUtf8 (239 ∷ 187 ∷ 191 ∷ [])
unfolding encode
mark_utf8 = (65279 ∷ [], (refl, refl))

three_long : (l : List ℕ) → take 3 l ≡ 239 ∷ 187 ∷ 191 ∷ [] → 3 ≤ length l
three_long [] e = absurd (omega (arith, ap length e))
three_long (a ∷ []) e = absurd (omega (arith, ap length e))
three_long (a ∷ b ∷ []) e = absurd (omega (arith, ap length e))
three_long (a ∷ b ∷ c ∷ l) e = omega arith

pub unmarked_utf8 : (bs : List ℕ) → IsUtf8 bs → IsUtf8 (without_order_mark bs)
unfolding without_order_mark
unmarked_utf8 bs u = if_of (λ (x : List ℕ). IsUtf8 x) (bytes_eq (take 3 bs) (239 ∷ 187 ∷ 191 ∷ [])) (drop 3 bs) bs (λ e. behind ((bytes_eq-Decides (take 3 bs) (239 ∷ 187 ∷ 191 ∷ [])).0 e)) (λ e. u)
  where
    behind : take 3 bs ≡ 239 ∷ 187 ∷ 191 ∷ [] → IsUtf8 (drop 3 bs)
    behind e = IsUtf8-drop bs 3 u (IsCharBoundary-from_take bs 3 u (three_long bs e) (subst IsUtf8 (sym e) mark_utf8))
