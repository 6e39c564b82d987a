-- What a parse holds after words that spell pairs, and how the option that waits last is used.
use Rattle.std.proofs.Common.{◌≡◌, ◌≢◌, ◌∙◌, ◌<◌, ℕ, suc, zero, Bool, true, false, true≢false, refl, sym, ap, subst, arith, List, [], ◌∷◌, ◌++◌, map, length, Option, Some, None, IfSome, Contains, bytes_eq, codes, ◌||◌, append-nil, get_or}
use Rattle.std.proofs.lemmas.Slice.Eq.{bytes_eq-Decides}
use Rattle.std.proofs.lemmas.List.{map-append}
use Rattle.std.proofs.lemmas.List.Quantifiers.{all_pairs_push}
use Rattle.clap.proofs.WalkLemmas.{list_any-map}
use Rattle.clap.specs.Kinds.{Kinds, or_else}
use Rattle.clap.specs.Walk.{Held, Row, Text, at_row, has_row, more_values, reading_by, settled_rows, used}
use Rattle.clap.specs.Faults.{settle_fault, use_fault}
use Rattle.clap.specs.declared.builder.value_parser.Reading.{Reading}
use Rattle.clap.specs.declared.parser.matches.ValueSource.TheVariants.{CommandLine}
use Rattle.sidecar_words.specs.Spelling.{Pair, IsOnce, stands}
use Rattle.sidecar_words.proofs.Rules.{option_rule, flag_rule, rules, id_option}

-- ---- refusals

pub none_before : (first next : Kinds) → or_else first next ≡ [] → first ≡ []
none_before [] next none = refl
none_before (k ∷ ks) next none = none

pub none_behind : (first next : Kinds) → or_else first next ≡ [] → next ≡ []
none_behind [] next none = none
none_behind (k ∷ ks) next none = absurd (true≢false (ap (λ (xs : Kinds). is_cons xs) none))
  where
    is_cons : Kinds → Bool
    is_cons [] = false
    is_cons (x ∷ xs) = true

abbrev pub is_refusal : Kinds → Bool
is_refusal [] = false
is_refusal (k ∷ ks) = true

pub refused : {A : Type 0} (kinds : Kinds) → kinds ≡ [] → is_refusal kinds ≡ true → A
refused kinds none some = absurd (true≢false (sym some ∙ ap is_refusal none))

-- ---- rows

abbrev pub value_in : Option Text → Text
value_in None = codes "true"
value_in (Some value) = value

abbrev pub reading_in : Option Text → Reading
reading_in None = reading_by (flag_rule [])
reading_in (Some value) = reading_by (option_rule [])

abbrev pub row : Pair → Row
row pair = record { id = pair.0; values = value_in pair.1 ∷ []; count = None; source = Some CommandLine; reading = reading_in pair.1 }

pub row_stands : (pairs : List Pair) (name : Text) → has_row name (map row pairs) ≡ stands pairs name
row_stands pairs name = sym (list_any-map (λ (r : Row). bytes_eq r.id name) row pairs)

pub at_fresh : (id : Text) (change : Row → List Row) (missing : List Row) (rows : List Row) → has_row id rows ≡ false → at_row id change missing rows ≡ rows ++ missing
at_fresh id change missing [] none = refl
at_fresh id change missing (r ∷ rows) none = go (bytes_eq r.id id) refl none (at_fresh id change missing rows)
  where
    go : (b : Bool) → bytes_eq r.id id ≡ b → (b || has_row id rows) ≡ false → (has_row id rows ≡ false → at_row id change missing rows ≡ rows ++ missing)
        → at_row id change missing (r ∷ rows) ≡ r ∷ rows ++ missing
    go true is none next = absurd (true≢false none)
    go false is none next = rw is (ap (λ rs. r ∷ rs) (next none))

module _ (pairs : List Pair) (name : Text) (fresh : stands pairs name ≡ false) where
  no_row : has_row name (map row pairs) ≡ false
  no_row = row_stands pairs name ∙ fresh

  same_rows : at_row name (λ _. []) [] (map row pairs) ≡ map row pairs
  same_rows = at_fresh name (λ _. []) [] (map row pairs) no_row ∙ append-nil (map row pairs)

  pub option_used : (value : Text) → used (option_rule name) (value ∷ []) (map row pairs) ≡ map row (pairs ++ (name, Some value) ∷ [])
  option_used value =
      rw same_rows (at_fresh name (more_values CommandLine (value ∷ [])) (row (name, Some value) ∷ []) (map row pairs) no_row ∙ sym (map-append row pairs ((name, Some value) ∷ [])))

  pub flag_used : used (flag_rule name) [] (map row pairs) ≡ map row (pairs ++ (name, None) ∷ [])
  flag_used = rw same_rows (at_fresh name (more_values CommandLine (codes "true" ∷ [])) (row (name, None) ∷ []) (map row pairs) no_row ∙ sym (map-append row pairs ((name, None) ∷ [])))

  pub option_passes : (value : Text) → use_fault false (option_rule name) (value ∷ []) (map row pairs) ≡ []
  option_passes value = rw no_row refl

  pub flag_passes : use_fault false (flag_rule name) [] (map row pairs) ≡ []
  flag_passes = rw no_row refl

-- a name that stands is refused
module _ (pairs : List Pair) (name : Text) where
  pub option_fresh : (value : Text) → use_fault false (option_rule name) (value ∷ []) (map row pairs) ≡ [] → stands pairs name ≡ false
  option_fresh value none = sym (row_stands pairs name) ∙ go (has_row name (map row pairs)) refl
    where
      go : (b : Bool) → has_row name (map row pairs) ≡ b → has_row name (map row pairs) ≡ false
      go false is = is
      go true is = refused _ none (rw is refl)

  pub flag_fresh : use_fault false (flag_rule name) [] (map row pairs) ≡ [] → stands pairs name ≡ false
  flag_fresh none = sym (row_stands pairs name) ∙ go (has_row name (map row pairs)) refl
    where
      go : (b : Bool) → has_row name (map row pairs) ≡ b → has_row name (map row pairs) ≡ false
      go false is = is
      go true is = refused _ none (rw is refl)

-- ---- names that stand once

pub not_standing : (pairs : List Pair) (name : Text) → stands pairs name ≡ false → (k : ℕ) (d : Pair) → k < length pairs → (get_or pairs k d).0 ≢ name
not_standing [] name fresh k d lt is = absurd (omega arith)
not_standing (pair ∷ pairs) name fresh k d lt is = go (bytes_eq pair.0 name) refl fresh k lt is (not_standing pairs name)
  where
    go : (b : Bool) → bytes_eq pair.0 name ≡ b → (b || stands pairs name) ≡ false → (k : ℕ) → k < length (pair ∷ pairs) → (get_or (pair ∷ pairs) k d).0 ≡ name
        → (stands pairs name ≡ false → (k : ℕ) (d : Pair) → k < length pairs → (get_or pairs k d).0 ≢ name) → ⊥
    go true b none k lt is next = absurd (true≢false none)
    go false b none zero lt is next = absurd (true≢false (sym ((bytes_eq-Decides pair.0 name).1 is) ∙ b))
    go false b none (suc k) lt is next = next none k d (omega arith) is

pub once_more : (pairs : List Pair) (pair : Pair) → IsOnce pairs → stands pairs pair.0 ≡ false → IsOnce (pairs ++ pair ∷ [])
once_more pairs pair once fresh = all_pairs_push (λ one other. one.0 ≢ other.0) pairs pair once (not_standing pairs pair.0 fresh)

pub once_here : (pairs : List Pair) (pair : Pair) (more : List Pair) → IsOnce (pairs ++ pair ∷ more) → stands pairs pair.0 ≡ false
once_here [] pair more once = refl
once_here (first ∷ pairs) pair more once =
    go (bytes_eq first.0 pair.0) refl (once_here pairs pair more (λ i j d lt within. once (suc i) (suc j) d (omega arith) (omega arith)))
  where
    there : (xs : List Pair) → get_or (xs ++ pair ∷ more) (length xs) first ≡ pair
    there [] = refl
    there (x ∷ xs) = there xs

    inside : (xs : List Pair) → length xs < length (xs ++ pair ∷ more)
    inside [] = omega arith
    inside (x ∷ xs) = let next = inside xs in omega arith

    go : (b : Bool) → bytes_eq first.0 pair.0 ≡ b → stands pairs pair.0 ≡ false → (b || stands pairs pair.0) ≡ false
    go false is next = next
    go true is next = absurd (once 0 (suc (length pairs)) first (omega arith) (let far = inside pairs in omega arith)
        ((bytes_eq-Decides first.0 pair.0).0 is ∙ ap (λ (p : Pair). p.0) (sym (there pairs))))

pub once_front : (pairs more : List Pair) → IsOnce (pairs ++ more) → IsOnce pairs
once_front pairs [] once = subst IsOnce (append-nil pairs) once
once_front pairs (pair ∷ more) once = λ i j d lt within. let e = still pairs i d (omega arith) in let f = still pairs j d within in
    λ same. once i j d lt (let far = longer pairs in omega arith) (ap (λ (p : Pair). p.0) e ∙ same ∙ ap (λ (p : Pair). p.0) (sym f))
  where
    still : (xs : List Pair) (k : ℕ) (d : Pair) → k < length xs → get_or (xs ++ pair ∷ more) k d ≡ get_or xs k d
    still [] k d lt = absurd (omega arith)
    still (x ∷ xs) zero d lt = refl
    still (x ∷ xs) (suc k) d lt = still xs k d (omega arith)

    longer : (xs : List Pair) → length xs < length (xs ++ pair ∷ more)
    longer [] = omega arith
    longer (x ∷ xs) = let next = longer xs in omega arith

-- ---- what is held

-- the option that waits to be used, with its value
abbrev pub Last : Type 0
Last = Option (Text × Text)

abbrev pub last_pairs : Last → List Pair
last_pairs None = []
last_pairs (Some option) = (option.0, Some option.1) ∷ []

abbrev pub pending : Last → Option (Text × List Text)
pending None = None
pending (Some option) = Some (option.0, option.1 ∷ [])

abbrev pub all_of : List Pair → Last → List Pair
all_of done last = done ++ last_pairs last

abbrev pub held : List Pair → Last → Held
held done last = record { rows = map row done; pending = pending last; skip = 0 }

abbrev pub IsOption : List Text → Last → Type 0
IsOption os last = IfSome last (λ option. Contains os option.0)

module _ (os fs : List Text) where
  pub settle_rows : (done : List Pair) (last : Last) → IsOption os last → IsOnce (all_of done last)
      → settled_rows (rules os fs) (pending last) (map row done) ≡ map row (all_of done last)
  settle_rows done None is once = ap (map row) (sym (append-nil done))
  settle_rows done (Some option) is once =
      rw (id_option os fs option.0 is) (option_used done option.0 (once_here done (option.0, Some option.1) [] once) option.1)

  pub settle_passes : (done : List Pair) (last : Last) → IsOption os last → IsOnce (all_of done last) → settle_fault (rules os fs) false (held done last) ≡ []
  settle_passes done None is once = refl
  settle_passes done (Some option) is once =
      rw (id_option os fs option.0 is) (option_passes done option.0 (once_here done (option.0, Some option.1) [] once) option.1)

  pub settle_once : (done : List Pair) (last : Last) → IsOption os last → IsOnce done → settle_fault (rules os fs) false (held done last) ≡ [] → IsOnce (all_of done last)
  settle_once done None is once none = subst IsOnce (sym (append-nil done)) once
  settle_once done (Some option) is once none =
      once_more done (option.0, Some option.1) once
      (option_fresh done option.0 option.1 (rw (id_option os fs option.0 is) at none))
