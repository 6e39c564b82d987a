-- The names of a set's methods, joined one after the other.
use Rattle.std.proofs.Common.{◌≡◌, ◌+◌, ◌<◌, ℕ, Bool, true, false, cond, length, take, get_or, List, [], ◌∷◌, ◌++◌, map, codes, refl, sym, ap, ◌∙◌, append_assoc, append-nil, add-one}
use Rattle.std.proofs.Math.Seq.{take-suc}
use Rattle.std.specs.List.{filter, flat_map}
use Rattle.side_base.specs.declared.method.Method.{Method}
use Rattle.api_routes.specs.declared.methods.Methods.{Methods}
use Rattle.api_routes.specs.Methods.{has, method_name, joined}

-- the names of those of the methods that are in the set
abbrev pub names : Methods → List Method → List (List ℕ)
names methods all = map method_name (filter (has methods) all)

-- what stands before a further name
abbrev pub separator_after : List (List ℕ) → List ℕ
separator_after [] = []
separator_after (name ∷ names) = codes ", "

-- one more name
joined-more : (front : List (List ℕ)) (name : List ℕ) → joined (front ++ name ∷ []) ≡ joined front ++ (separator_after front ++ name)
joined-more [] name = append-nil name
joined-more (first ∷ front) name = ap (λ (t : List ℕ). first ++ t) (more front) ∙ sym (append_assoc first (flat_map (λ next. codes ", " ++ next) front) (codes ", " ++ name))
  where
    more : (front : List (List ℕ)) → flat_map (λ next. codes ", " ++ next) (front ++ name ∷ []) ≡ flat_map (λ next. codes ", " ++ next) front ++ (codes ", " ++ name)
    more [] = append-nil (codes ", " ++ name)
    more (next ∷ front) =
        ap (λ (t : List ℕ). (codes ", " ++ next) ++ t) (more front) ∙ sym (append_assoc (codes ", " ++ next) (flat_map (λ next. codes ", " ++ next) front) (codes ", " ++ name))

names-more : (methods : Methods) (all : List Method) (last : Method) → names methods (all ++ last ∷ []) ≡ names methods all ++ cond (has methods last) (method_name last ∷ []) []
names-more methods [] last = one (has methods last)
  where
    one : (b : Bool) → map method_name (cond b (last ∷ []) []) ≡ cond b (method_name last ∷ []) []
    one true = refl
    one false = refl
names-more methods (first ∷ all) last = by (has methods first) (names-more methods all last)
  where
    by : (b : Bool) → names methods (all ++ last ∷ []) ≡ names methods all ++ cond (has methods last) (method_name last ∷ []) []
        → map method_name (cond b (first ∷ filter (has methods) (all ++ last ∷ [])) (filter (has methods) (all ++ last ∷ [])))
        ≡ map method_name (cond b (first ∷ filter (has methods) all) (filter (has methods) all)) ++ cond (has methods last) (method_name last ∷ []) []
    by true rest = ap (λ (t : List (List ℕ)). method_name first ∷ t) rest
    by false rest = rest

-- what was written for the first methods of the list, and what stands before a further name
pub record Named (methods : Methods) (front : List Method) (old out separator : List ℕ) : Type 0 where
  pub out_is : out ≡ old ++ joined (names methods front)
  pub separator_is : separator ≡ separator_after (names methods front)

separator-more : (front : List (List ℕ)) (name : List ℕ) → codes ", " ≡ separator_after (front ++ name ∷ [])
separator-more [] name = refl
separator-more (first ∷ front) name = refl

-- a method of the set is named
pub named-more : (methods : Methods) (all : List Method) (i : ℕ) (other : Method) (old out separator : List ℕ) → i < length all → Named methods (take i all) old out separator
    → has methods (get_or all i other) ≡ true → Named methods (take (i + 1) all) old ((out ++ separator) ++ method_name (get_or all i other)) (codes ", ")
named-more methods all i other old out separator within is there =
    let name = method_name (get_or all i other) in
    let front = names methods (take i all) in
    let cut : take (i + 1) all ≡ take i all ++ get_or all i other ∷ [] = rw add-one (take-suc all i other within) in
    let next : names methods (take (i + 1) all) ≡ front ++ name ∷ [] =
    ap (names methods) cut ∙ names-more methods (take i all) (get_or all i other)
    ∙ ap (λ (b : Bool). front ++ cond b (name ∷ []) []) there in
    record {
      out_is = ap (λ (t : List ℕ). (t ++ separator) ++ name) is.out_is ∙ ap (λ (t : List ℕ). ((old ++ joined front) ++ t) ++ name) is.separator_is
          ∙ regroup old (joined front) (separator_after front) name ∙ ap (λ (t : List ℕ). old ++ t) (sym (joined-more front name) ∙ ap joined (sym next));
      separator_is = separator-more front name ∙ ap separator_after (sym next);
    }
  where
    regroup : (a b c d : List ℕ) → ((a ++ b) ++ c) ++ d ≡ a ++ (b ++ (c ++ d))
    regroup a b c d = simp append_assoc

-- any other is not
pub named-skip : (methods : Methods) (all : List Method) (i : ℕ) (other : Method) (old out separator : List ℕ) → i < length all → Named methods (take i all) old out separator
    → has methods (get_or all i other) ≡ false → Named methods (take (i + 1) all) old out separator
named-skip methods all i other old out separator within is there =
    let front = names methods (take i all) in
    let cut : take (i + 1) all ≡ take i all ++ get_or all i other ∷ [] = rw add-one (take-suc all i other within) in
    let next : names methods (take (i + 1) all) ≡ front =
    ap (names methods) cut ∙ names-more methods (take i all) (get_or all i other)
    ∙ ap (λ (b : Bool). front ++ cond b (method_name (get_or all i other) ∷ []) []) there ∙ append-nil front in
    record { out_is = is.out_is ∙ ap (λ (t : List (List ℕ)). old ++ joined t) (sym next); separator_is = is.separator_is ∙ ap separator_after (sym next) }
