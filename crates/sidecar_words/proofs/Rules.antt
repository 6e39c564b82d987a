-- The arguments of the command once it is built, and how they are found.
use Rattle.std.proofs.Common.{◌≡◌, ◌∙◌, ◌⊎◌, inl, inr, ℕ, suc, zero, Bool, true, false, true≢false, refl, sym, ap, arith, List, [], ◌∷◌, ◌++◌, map, Some, None, Contains, bytes_eq, codes, ◌||◌, ◌&&◌, not, find, append-nil}
use Rattle.std.proofs.lemmas.Slice.Eq.{bytes_eq-Decides}
use Rattle.clap.specs.Walk.{Rule, Text, arg_by_long, arg_by_id, arg_by_index, has_long}
use Rattle.clap.specs.Simple.{Shape, filled, new_shape, is_simple}
use Rattle.clap.specs.Faults.{is_simple_and_free}
use Rattle.sidecar_words.specs.Command.{option_of, flag_of, sidecar_app}

-- ---- lists of names

pub at_front : (first : Text) (names : List Text) (name : Text) → Contains (first ∷ names) name → (first ≡ name) ⊎ Contains names name
at_front first names name (zero, lt, is) = inl is
at_front first names name (suc k, lt, is) = inr (k, omega arith, is)

pub further : (first : Text) (names : List Text) (name : Text) → Contains names name → Contains (first ∷ names) name
further first names name (k, lt, is) = (suc k, omega arith, is)

pub front : (first : Text) (names : List Text) (name : Text) → first ≡ name → Contains (first ∷ names) name
front first names name is = (0, omega arith, is)

pub in_none : (name : Text) → Contains [] name → ⊥
in_none name (k, lt, is) = absurd (omega arith)

pub is_named : (names : List Text) (name : Text) → Contains names name ⊎ (Contains names name → ⊥)
is_named [] name = inr (in_none name)
is_named (first ∷ names) name = go (bytes_eq first name) refl (is_named names name)
  where
    go : (b : Bool) → bytes_eq first name ≡ b → Contains names name ⊎ (Contains names name → ⊥) → Contains (first ∷ names) name ⊎ (Contains (first ∷ names) name → ⊥)
    go true is later = inl (front first names name ((bytes_eq-Decides first name).0 is))
    go false is (inl later) = inl (further first names name later)
    go false is (inr not_later) = inr (λ c. elim (at_front first names name c) [
      | inl same ↦ absurd (true≢false (sym ((bytes_eq-Decides first name).1 same) ∙ is))
      | inr later ↦ not_later later
    ])

pub itself : (name : Text) → bytes_eq name name ≡ true
itself name = (bytes_eq-Decides name name).1 refl

-- ---- searches by name

module _ (rule : Text → Rule) (test : Rule → Bool) (name : Text) (tests : (other : Text) → test (rule other) ≡ bytes_eq other name) where
  pub found_named : (names : List Text) (more : List Rule) → Contains names name → find test (map rule names ++ more) ≡ Some (rule name)
  found_named [] more c = absurd (in_none name c)
  found_named (first ∷ names) more c = go (bytes_eq first name) refl (found_named names more)
    where
      go : (b : Bool) → bytes_eq first name ≡ b → (Contains names name → find test (map rule names ++ more) ≡ Some (rule name))
          → find test (map rule (first ∷ names) ++ more) ≡ Some (rule name)
      go true is later = rw (tests first, is) (ap (λ other. Some (rule other)) ((bytes_eq-Decides first name).0 is))
      go false is later = rw (tests first, is) (elim (at_front first names name c) [
        | inl same ↦ absurd (true≢false (sym ((bytes_eq-Decides first name).1 same) ∙ is))
        | inr rest ↦ later rest
      ])

  pub passed_named : (names : List Text) (more : List Rule) → (Contains names name → ⊥) → find test (map rule names ++ more) ≡ find test more
  passed_named [] more none = refl
  passed_named (first ∷ names) more none = go (bytes_eq first name) refl (passed_named names more)
    where
      go : (b : Bool) → bytes_eq first name ≡ b → ((Contains names name → ⊥) → find test (map rule names ++ more) ≡ find test more)
          → find test (map rule (first ∷ names) ++ more) ≡ find test more
      go true is later = absurd (none (front first names name ((bytes_eq-Decides first name).0 is)))
      go false is later = rw (tests first, is) (later (λ c. none (further first names name c)))

-- ---- the arguments

abbrev pub option_rule : Text → Rule
option_rule name = filled (option_of name)

abbrev pub flag_rule : Text → Rule
flag_rule name = filled (flag_of name)

abbrev pub rules : List Text → List Text → List Rule
rules os fs = map option_rule os ++ map flag_rule fs

abbrev pub shape : List Text → List Text → Shape
shape os fs = record (new_shape (codes "sidecar")) {
  rules = rules os fs;
  no_binary_name = true;
  disable_help_flag = true;
  disable_help_subcommand = true;
  disable_version_flag = true;
  is_built = true;
}

pub simple_app : is_simple sidecar_app ≡ true
simple_app = refl

pub simple_and_free : is_simple_and_free sidecar_app ≡ true
simple_and_free = refl

or_no : (b : Bool) → (b || false) ≡ b
or_no true = refl
or_no false = refl

module _ (os fs : List Text) (name : Text) where
  abbrev by_long : Rule → Bool
  by_long a = not (Rattle.std.specs.Option.is_some a.index) && has_long a name

  abbrev by_id : Rule → Bool
  by_id a = bytes_eq a.id name

  pub long_option : Contains os name → arg_by_long (rules os fs) name ≡ Some (option_rule name)
  long_option c = found_named option_rule by_long name (λ other. or_no (bytes_eq other name)) os (map flag_rule fs) c

  pub long_flag : (Contains os name → ⊥) → Contains fs name → arg_by_long (rules os fs) name ≡ Some (flag_rule name)
  long_flag no_option c =
      passed_named option_rule by_long name (λ other. or_no (bytes_eq other name)) os (map flag_rule fs) no_option
      ∙ ap (find by_long) (sym (append-nil (map flag_rule fs)))
      ∙ found_named flag_rule by_long name (λ other. or_no (bytes_eq other name)) fs [] c

  pub long_unknown : (Contains os name → ⊥) → (Contains fs name → ⊥) → arg_by_long (rules os fs) name ≡ None
  long_unknown no_option no_flag =
      passed_named option_rule by_long name (λ other. or_no (bytes_eq other name)) os (map flag_rule fs) no_option
      ∙ ap (find by_long) (sym (append-nil (map flag_rule fs)))
      ∙ passed_named flag_rule by_long name (λ other. or_no (bytes_eq other name)) fs [] no_flag

  pub id_option : Contains os name → arg_by_id (rules os fs) name ≡ Some (option_rule name)
  id_option c = found_named option_rule by_id name (λ other. refl) os (map flag_rule fs) c

-- none is a positional
no_flag_at : (fs : List Text) (i : ℕ) → arg_by_index (map flag_rule fs) i ≡ None
no_flag_at [] i = refl
no_flag_at (first ∷ fs) i = no_flag_at fs i

pub no_positional : (os fs : List Text) (i : ℕ) → arg_by_index (rules os fs) i ≡ None
no_positional [] fs i = no_flag_at fs i
no_positional (first ∷ os) fs i = no_positional os fs i
