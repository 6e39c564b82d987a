-- Bytes that a list does not hold.
use Rattle.std.proofs.Common.{◌≡◌, ℕ, Bool, true, false, ◌||◌, ◌==◌, List, [], ◌∷◌, ◌++◌, refl, sym, ap, ◌∙◌}
use Rattle.std.specs.List.{All, list_any}
use Rattle.std.proofs.lemmas.Bool.{false≢true, or_parts, eq-eqb, eqb-true}
use Rattle.std.proofs.lemmas.List.Elements.{All-nil, All-cons, All-head, All-tail, All-append}

abbrev pub No : ℕ → List ℕ → Type 0
No x bytes = All (λ (b : ℕ). b ≡ x → ⊥) bytes

-- bytes that pass a test that x does not
pub no_of : (x : ℕ) (test : ℕ → Bool) → test x ≡ false → (bytes : List ℕ) → All (λ b. test b ≡ true) bytes → No x bytes
no_of x test stop [] all = All-nil (λ (b : ℕ). b ≡ x → ⊥)
no_of x test stop (b ∷ bytes) all =
    let here : test b ≡ true = All-head (λ v. test v ≡ true) b bytes all in
    All-cons (λ (v : ℕ). v ≡ x → ⊥) b bytes (λ e. false≢true (sym stop ∙ ap test (sym e) ∙ here))
    (no_of x test stop bytes (All-tail (λ v. test v ≡ true) b bytes all))

pub no_append : (x : ℕ) (a b : List ℕ) → No x a → No x b → No x (a ++ b)
no_append x a b l r = All-append (λ (v : ℕ). v ≡ x → ⊥) a b l r

pub no_cons : (x b : ℕ) (bytes : List ℕ) → (b ≡ x → ⊥) → No x bytes → No x (b ∷ bytes)
no_cons x b bytes here rest = All-cons (λ (v : ℕ). v ≡ x → ⊥) b bytes here rest

pub no_nil : (x : ℕ) → No x []
no_nil x = All-nil (λ (v : ℕ). v ≡ x → ⊥)

pub no_none : (x : ℕ) (body l m : List ℕ) → No x body → body ≡ l ++ x ∷ m → ⊥
no_none x [] [] m none e = cc
no_none x [] (y ∷ l) m none e = cc
no_none x (b ∷ body) [] m none e = All-head (λ (v : ℕ). v ≡ x → ⊥) b body none (cc)
no_none x (b ∷ body) (y ∷ l) m none e = no_none x body l m (All-tail (λ (v : ℕ). v ≡ x → ⊥) b body none) (cc)

-- what a search finds
pub no_found : (x : ℕ) (bytes : List ℕ) → list_any (λ b. b == x) bytes ≡ false → No x bytes
no_found x [] e = All-nil (λ (v : ℕ). v ≡ x → ⊥)
no_found x (b ∷ bytes) e =
    let parts = or_parts (b == x) (list_any (λ c. c == x) bytes) e in
    All-cons (λ (v : ℕ). v ≡ x → ⊥) b bytes (λ same. false≢true (sym parts.0 ∙ eq-eqb b x same)) (no_found x bytes parts.1)

pub found_not : (x : ℕ) (bytes : List ℕ) → No x bytes → list_any (λ b. b == x) bytes ≡ true → ⊥
found_not x [] none e = false≢true e
found_not x (b ∷ bytes) none e = elim (b == x) as (λ v. (b == x) ≡ v → (v || list_any (λ c. c == x) bytes) ≡ true → ⊥) [
  | true ↦ λ same _. All-head (λ (v : ℕ). v ≡ x → ⊥) b bytes none (eqb-true b x same)
  | false ↦ λ _ rest. found_not x bytes (All-tail (λ (v : ℕ). v ≡ x → ⊥) b bytes none) rest
] refl e
