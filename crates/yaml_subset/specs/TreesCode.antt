-- Trees as lists, which tell them apart.
use Rattle.std.specs.Prelude.{◌≡◌, ℕ, zero, suc, List, [], ◌∷◌, Option, Some, None, refl}
use Rattle.std.proofs.Common.{◌∙◌}
use Rattle.std.specs.Coded.{Coded, code_by, coded×, coded_ℕ, coded_list, coded_option}
use Rattle.yaml_lines.specs.declared.kind.PartKind.{PartKind}
use Rattle.yaml_lines.specs.declared.kind.PartKind.TheVariants as kinds
use Rattle.yaml_subset.specs.Trees.{Told, Trees, none, tree}

abbrev pub kind_number : PartKind → ℕ
kind_number kinds.Scalar = 0
kind_number kinds.Sequence = 1
kind_number kinds.Mapping = 2
kind_number kinds.Empty = 3

abbrev pub number_kind : ℕ → PartKind
number_kind zero = kinds.Scalar
number_kind (suc zero) = kinds.Sequence
number_kind (suc (suc zero)) = kinds.Mapping
number_kind (suc (suc (suc n))) = kinds.Empty

abbrev pub kind_back : (k : PartKind) → number_kind (kind_number k) ≡ k
kind_back kinds.Scalar = refl
kind_back kinds.Sequence = refl
kind_back kinds.Mapping = refl
kind_back kinds.Empty = refl

abbrev pub kind_code : Coded PartKind
kind_code = code_by ℕ coded_ℕ kind_number number_kind kind_back

abbrev pub told_code : Coded Told
told_code =
    code_by ((ℕ × List ℕ) × (PartKind × List ℕ)) (coded× (coded× coded_ℕ (coded_list coded_ℕ)) (coded× kind_code (coded_list coded_ℕ)))
    (λ t. ((t.line, t.name), (t.kind, t.text)))
    (λ p. record { line = p.0.0; name = p.0.1; kind = p.1.0; text = p.1.1 })
    (λ _. refl)

-- a tree as a list of what its parts say, each behind those in it and those after it
abbrev pub listed : Trees → List (Option Told) → List (Option Told)
listed none others = None ∷ others
listed (tree t inner later) others = listed inner (listed later (Some t ∷ others))

abbrev pub unlisted : List (Option Told) → List Trees → Trees
unlisted [] [] = none
unlisted [] (row ∷ rows) = row
unlisted (None ∷ others) rows = unlisted others (none ∷ rows)
unlisted (Some t ∷ others) [] = none
unlisted (Some t ∷ others) (later ∷ []) = none
unlisted (Some t ∷ others) (later ∷ inner ∷ rows) = unlisted others (tree t inner later ∷ rows)

abbrev pub listed_back : (row : Trees) (others : List (Option Told)) (rows : List Trees) → unlisted (listed row others) rows ≡ unlisted others (row ∷ rows)
listed_back none others rows = refl
listed_back (tree t inner later) others rows = listed_back inner (listed later (Some t ∷ others)) rows ∙ listed_back later (Some t ∷ others) (inner ∷ rows)

abbrev pub trees_code : Coded Trees
trees_code = code_by (List (Option Told)) (coded_list (coded_option told_code)) (λ row. listed row []) (λ parts. unlisted parts []) (λ row. listed_back row [] [])
