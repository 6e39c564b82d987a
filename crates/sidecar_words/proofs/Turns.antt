-- What one word does to a parse.
use Rattle.std.proofs.Common.{◌≡◌, ◌∙◌, true, false, refl, sym, true≢false, ap, inl, inr, ◌⊎◌, List, [], ◌∷◌, map, Option, Some, None, Contains, bytes_eq, codes}
use Rattle.clap.specs.Kinds.{Kinds, or_else}
use Rattle.clap.specs.Lexer.{long_of}
use Rattle.clap.specs.Walk.{Held, Text, Waiting, idle, option, positional, Walk, reacted, settled, subcommand_met, walked}
use Rattle.clap.specs.Faults.{react_fault, settle_fault, turn_fault}
use Rattle.sidecar_words.specs.Spelling.{Pair, begins_with_dash}
use Rattle.sidecar_words.proofs.Lexing.{bare_long, bare_short, bare_double}
use Rattle.sidecar_words.proofs.Rules.{option_rule, flag_rule, rules, shape, is_named, itself, id_option, long_option, long_flag, long_unknown, no_positional}
use Rattle.sidecar_words.proofs.Settling.{is_refusal, row}

-- the walk between two words
abbrev pub at : Held → Waiting → Walk
at h waiting = record { held = h; waiting = waiting; position = 1; is_trailing = false; stopped = None }

no_subcommand : (waiting : Waiting) (word : Text) → subcommand_met [] waiting word ≡ None
no_subcommand idle word = refl
no_subcommand (option id) word = refl
no_subcommand positional word = refl

pub refusal_first : (first next : Kinds) → is_refusal first ≡ true → is_refusal (or_else first next) ≡ true
refusal_first [] next some = absurd (true≢false (sym some))
refusal_first (k ∷ ks) next some = refl

module _ (os fs : List Text) where
  abbrev fault : Held → Waiting → Text → Kinds
  fault h waiting word = turn_fault (shape os fs) [] (at h waiting) word

  abbrev after : Held → Waiting → Text → Walk
  after h waiting word = walked (rules os fs) [] (at h waiting) word

  module _ (h : Held) (waiting : Waiting) (word name : Text) (double : bytes_eq word (codes "--") ≡ false) where
    module _ (is : Contains os name) where
      pub option_fault : (value : Text) → long_of word ≡ Some (name, Some value)
          → fault h waiting word ≡ or_else (react_fault (rules os fs) false (option_rule name) (value ∷ []) h) []
      option_fault value long = rw (no_subcommand waiting word, double, long, long_option os fs name is) refl

      pub option_after : (value : Text) → long_of word ≡ Some (name, Some value)
          → after h waiting word ≡ at (reacted (rules os fs) (option_rule name) (value ∷ []) h) idle
      unfolding walked
      option_after value long = rw (no_subcommand waiting word, double, long, long_option os fs name is) refl

      pub name_fault : long_of word ≡ Some (name, None) → fault h waiting word ≡ or_else (settle_fault (rules os fs) false h) []
      name_fault long = rw (no_subcommand waiting word, double, long, long_option os fs name is) refl

      pub name_after : long_of word ≡ Some (name, None)
          → after h waiting word ≡ at (record (settled (rules os fs) h) { pending = Some (name, []) }) (option name)
      unfolding walked
      name_after long = rw (no_subcommand waiting word, double, long, long_option os fs name is) refl

    module _ (no_option : Contains os name → ⊥) (is : Contains fs name) where
      pub flag_fault : long_of word ≡ Some (name, None) → fault h waiting word ≡ or_else (react_fault (rules os fs) false (flag_rule name) [] h) []
      flag_fault long = rw (no_subcommand waiting word, double, long, long_flag os fs name no_option is) refl

      pub flag_after : long_of word ≡ Some (name, None) → after h waiting word ≡ at (reacted (rules os fs) (flag_rule name) [] h) idle
      unfolding walked
      flag_after long = rw (no_subcommand waiting word, double, long, long_flag os fs name no_option is) refl

      pub flag_value : (value : Text) → long_of word ≡ Some (name, Some value) → is_refusal (fault h waiting word) ≡ true
      flag_value value long = rw (no_subcommand waiting word, double, long, long_flag os fs name no_option is) refl

    pub unknown : (value : Option Text) → (Contains os name → ⊥) → (Contains fs name → ⊥) → long_of word ≡ Some (name, value) → is_refusal (fault h waiting word) ≡ true
    unknown value no_option no_flag long = rw (no_subcommand waiting word, double, long, long_unknown os fs name no_option no_flag) refl

  -- a word without dashes is refused where no option waits for a value
  pub stray : (h : Held) (word : Text) → begins_with_dash word ≡ false → is_refusal (fault h idle word) ≡ true
  stray h word none = rw (bare_double word none, bare_long word none, bare_short word none, no_positional os fs 1) refl

  -- an option waits for its value
  abbrev opened : List Pair → Text → Held
  opened pairs name = record { rows = map row pairs; pending = Some (name, []); skip = 0 }

  module _ (pairs : List Pair) (name : Text) (is : Contains os name) (word : Text) where
    pub value_fault : begins_with_dash word ≡ false → fault (opened pairs name) (option name) word ≡ []
    value_fault none = rw (bare_double word none, bare_long word none, bare_short word none) refl

    pub value_after : begins_with_dash word ≡ false
        → after (opened pairs name) (option name) word ≡ at (record { rows = map row pairs; pending = Some (name, word ∷ []); skip = 0 }) idle
    unfolding walked
    value_after none = rw (bare_double word none, bare_long word none, bare_short word none, id_option os fs name is, itself name) refl

    pub open_refused : is_refusal (settle_fault (rules os fs) false (opened pairs name)) ≡ true
    open_refused = rw (id_option os fs name is) refl

    refusal_by : (kinds next : Kinds) → kinds ≡ or_else (settle_fault (rules os fs) false (opened pairs name)) next → is_refusal kinds ≡ true
    refusal_by kinds next is_kinds = ap is_refusal is_kinds ∙ refusal_first (settle_fault (rules os fs) false (opened pairs name)) next open_refused

    -- another option stands in place of the value
    pub open_long : (other : Text) (value : Option Text) → bytes_eq word (codes "--") ≡ false
        → long_of word ≡ Some (other, value) → is_refusal (fault (opened pairs name) (option name) word) ≡ true
    open_long other value double long = go value long (is_named os other) (is_named fs other)
      where
        go : (v : Option Text) → long_of word ≡ Some (other, v) → Contains os other ⊎ (Contains os other → ⊥) → Contains fs other ⊎ (Contains fs other → ⊥)
            → is_refusal (fault (opened pairs name) (option name) word) ≡ true
        go (Some v) long (inl o) f =
            ap is_refusal (option_fault (opened pairs name) (option name) word other double o v long)
            ∙ refusal_first (react_fault (rules os fs) false (option_rule other) (v ∷ []) (opened pairs name)) [] (refusal_by _ _ refl)
        go None long (inl o) f = refusal_by _ _ (name_fault (opened pairs name) (option name) word other double o long)
        go None long (inr other_kind) (inl f) =
            ap is_refusal (flag_fault (opened pairs name) (option name) word other double other_kind f long)
            ∙ refusal_first (react_fault (rules os fs) false (flag_rule other) [] (opened pairs name)) [] (refusal_by _ _ refl)
        go (Some v) long (inr other_kind) (inl f) = flag_value (opened pairs name) (option name) word other double other_kind f v long
        go v long (inr other_kind) (inr not_f) = unknown (opened pairs name) (option name) word other double v other_kind not_f long
