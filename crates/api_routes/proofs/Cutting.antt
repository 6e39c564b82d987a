-- The parameters of a path, cut along its parts.
use Rattle.std.proofs.Common.{◌≡◌, ◌⊎◌, inl, inr, ◌+◌, ◌-◌, ◌<◌, ◌≤◌, ℕ, zero, suc, List, [], ◌∷◌, length, drop, arith, refl, sym, ap, ◌∙◌, subst}
use Rattle.std.proofs.lemmas.List.{length-drop}
use Rattle.api_routes.specs.Parameters.{Cuts, HasNth}
use Rattle.api_routes.specs.Path.{Parameter}
use Rattle.api_routes.specs.declared.table.Part.{Part as Shape}
use Rattle.api_routes.specs.declared.table.Part.TheVariants as sort
use Rattle.api_routes.proofs.Cuts.{begins-length}

-- how many parameters a path of these parts has
abbrev pub count : List Shape → ℕ
count [] = 0
count (sort.Literal ∷ parts) = count parts
count (sort.Segment ∷ parts) = 1 + count parts
count (sort.Tail ∷ parts) = 1

pub counts : (at : ℕ) (parts : List Shape) (path : List ℕ) (parameters : List Parameter) → Cuts at parts path parameters → length parameters ≡ count parts
counts at [] path parameters is = ap length is
counts at (sort.Literal ∷ parts) path parameters (segment, rest, begins, is) = counts (at + 1 + length segment) parts rest parameters is
counts at (sort.Segment ∷ parts) path parameters (segment, rest, others, begins, same, is) =
    omega (arith, ap length same, counts (at + 1 + length segment) parts rest others is)
counts at (sort.Tail ∷ parts) path parameters (text, whole, same) = ap length same

pub one-of : (parameters : List Parameter) → length parameters ≡ 1 → (first : Parameter) × (parameters ≡ first ∷ [])
one-of [] size = absurd (omega (arith, size))
one-of (first ∷ []) size = (first, refl)
one-of (first ∷ other ∷ parameters) size = absurd (omega (arith, size))

pub two-of : (parameters : List Parameter) → length parameters ≡ 2 → (first last : Parameter) × (parameters ≡ first ∷ last ∷ [])
two-of [] size = absurd (omega (arith, size))
two-of (first ∷ []) size = absurd (omega (arith, size))
two-of (first ∷ last ∷ []) size = (first, last, refl)
two-of (first ∷ last ∷ other ∷ parameters) size = absurd (omega (arith, size))

pub three-of : (parameters : List Parameter) → length parameters ≡ 3 → (first next last : Parameter) × (parameters ≡ first ∷ next ∷ last ∷ [])
three-of [] size = absurd (omega (arith, size))
three-of (first ∷ []) size = absurd (omega (arith, size))
three-of (first ∷ next ∷ []) size = absurd (omega (arith, size))
three-of (first ∷ next ∷ last ∷ []) size = (first, next, last, refl)
three-of (first ∷ next ∷ last ∷ other ∷ parameters) size = absurd (omega (arith, size))

drop-none : (nth : ℕ) (parameters others : List Parameter) (parameter : Parameter) → parameters ≡ [] → drop nth parameters ≡ parameter ∷ others → ⊥
drop-none nth parameters others parameter none is = omega (arith, ap length none, ap length is, length-drop nth parameters)

-- the first is the one, or it comes before it
drop-next : (nth : ℕ) (parameters later others : List Parameter) (first parameter : Parameter) → parameters ≡ first ∷ later → drop nth parameters ≡ parameter ∷ others
    → ((nth ≡ 0) × (first ≡ parameter)) ⊎ ((0 < nth) × (drop (nth - 1) later ≡ parameter ∷ others))
drop-next zero parameters later others first parameter same is =
    let both : first ∷ later ≡ parameter ∷ others = sym same ∙ is in
    let one : first ≡ parameter = cc in inl (refl, one)
drop-next (suc nth) parameters later others first parameter same is =
    let found : drop nth later ≡ parameter ∷ others = subst (λ (ps : List Parameter). drop (suc nth) ps ≡ parameter ∷ others) same is in
    let place : nth ≡ suc nth - 1 = omega arith in
    inr (omega arith, subst (λ (n : ℕ). drop n later ≡ parameter ∷ others) place found)

-- a parameter ends within its path
pub cuts-within : (at : ℕ) (parts : List Shape) (path : List ℕ) (nth : ℕ) (parameters others : List Parameter) (parameter : Parameter) → Cuts at parts path parameters → drop nth parameters ≡ parameter ∷ others → parameter.at + length parameter.bytes ≤ at + length path
cuts-within at [] path nth parameters others parameter cuts is = absurd (drop-none nth parameters others parameter cuts is)
cuts-within at (sort.Literal ∷ parts) path nth parameters others parameter (segment, rest, begins, cuts) is =
    omega (arith, begins-length path segment rest begins, cuts-within (at + 1 + length segment) parts rest nth parameters others parameter cuts is)
cuts-within at (sort.Segment ∷ parts) path nth parameters others parameter (segment, rest, later, begins, same, cuts) is =
    elim (drop-next nth parameters later others (record { at = at + 1; bytes = segment }) parameter same is) [
      | inl h ↦ omega (arith, begins-length path segment rest begins, ap (λ (p : Parameter). p.at) h.1, ap (λ (p : Parameter). length p.bytes) h.1)
      | inr h ↦ omega (arith, begins-length path segment rest begins, cuts-within (at + 1 + length segment) parts rest (nth - 1) later others parameter cuts h.1)
    ]
cuts-within at (sort.Tail ∷ parts) path nth parameters others parameter (text, whole, same) is =
    elim (drop-next nth parameters [] others (record { at = at + 1; bytes = text }) parameter same is) [
      | inl h ↦ omega (arith, ap length whole, ap (λ (p : Parameter). p.at) h.1, ap (λ (p : Parameter). length p.bytes) h.1)
      | inr h ↦ absurd (drop-none (nth - 1) [] others parameter refl h.1)
    ]

-- where no part is left there is none
pub none-left : (at : ℕ) (parts : List Shape) (path : List ℕ) (nth : ℕ) → HasNth at parts path nth → length parts ≡ 0 → ⊥
none-left at [] path nth has none = drop-none nth has.parameters has.others has.parameter has.cuts has.is
none-left at (part ∷ parts) path nth has none = omega (arith, none)
