-- A parse of words that passes has spelled pairs, and words that spell pairs pass.
use Rattle.std.proofs.Common.{◌≡◌, ◌∙◌, ◌≤◌, ◌⊎◌, inl, inr, ℕ, suc, zero, Bool, true, false, not, true≢false, refl, sym, ap, subst, arith, List, [], ◌∷◌, ◌++◌, map, length, fold, Option, Some, None, All, Contains, bytes_eq, codes, append-nil, append_assoc}
use Rattle.clap.specs.Kinds.{or_else}
use Rattle.clap.specs.Lexer.{long_of, has_byte}
use Rattle.clap.specs.Walk.{Held, Row, Rule, Text, Waiting, idle, option, Walk, reacted, settled, settled_rows, used, walked}
use Rattle.clap.specs.Faults.{react_fault, settle_fault, use_fault, turn_fault, walk_fault}
use Rattle.sidecar_words.specs.Spelling.{Pair, IsOnce, Spells, Writes, stands}
use Rattle.sidecar_words.specs.Spelling.{is_plain}
use Rattle.sidecar_words.proofs.Lexing.{Kind, undashed, dashed, kind_of_word, spelled, long_alone, long_with}
use Rattle.sidecar_words.proofs.Rules.{option_rule, flag_rule, rules, shape, is_named}
use Rattle.sidecar_words.proofs.Settling.{none_before, none_behind, refused, row, option_used, flag_used, option_passes, flag_passes, option_fresh, flag_fresh, once_more, once_here, once_front, Last, all_of, held, IsOption, settle_rows, settle_passes, settle_once}
use Rattle.sidecar_words.proofs.Turns.{at, option_fault, option_after, name_fault, name_after, flag_fault, flag_after, flag_value, unknown, stray, value_fault, value_after, open_refused, open_long}

abbrev pub IsPlain : Text → Type 0
IsPlain word = is_plain word ≡ true

first_plain : (word : Text) (rest : List Text) → All IsPlain (word ∷ rest) → IsPlain word
first_plain word rest plain = plain 0 word (omega arith)

rest_plain : (word : Text) (rest : List Text) → All IsPlain (word ∷ rest) → All IsPlain rest
rest_plain word rest plain = λ k d lt. plain (suc k) d (omega arith)

-- a name that can be written: it isn't empty and has no `=`
abbrev pub is_fit : Text → Bool
is_fit [] = false
is_fit (byte ∷ rest) = not (has_byte 61 (byte ∷ rest))

no_mark : (text : Text) → not (has_byte 61 text) ≡ true → has_byte 61 text ≡ false
no_mark text fit = go (has_byte 61 text) fit
  where
    go : (b : Bool) → not b ≡ true → b ≡ false
    go true fit = sym fit
    go false fit = refl

pub fit_alone : (name : Text) → is_fit name ≡ true → (long_of (codes "--" ++ name) ≡ Some (name, None)) × (bytes_eq (codes "--" ++ name) (codes "--") ≡ false)
fit_alone [] fit = absurd (true≢false (sym fit))
fit_alone (byte ∷ rest) fit = (long_alone byte rest (no_mark (byte ∷ rest) fit), refl)

pub fit_with : (name value : Text) → is_fit name ≡ true
    → (long_of (codes "--" ++ name ++ codes "=" ++ value) ≡ Some (name, Some value)) × (bytes_eq (codes "--" ++ name ++ codes "=" ++ value) (codes "--") ≡ false)
fit_with [] value fit = absurd (true≢false (sym fit))
fit_with (byte ∷ rest) value fit = (long_with byte rest value (no_mark (byte ∷ rest) fit), refl)

grown : (all : List Pair) (pair : Pair) (pairs : List Pair) → (all ++ pair ∷ []) ++ pairs ≡ all ++ pair ∷ pairs
grown all pair pairs = append_assoc all (pair ∷ []) pairs

grown_on : (all : List Pair) (pair : Pair) (pairs : List Pair) → all_of (all ++ pair ∷ []) None ++ pairs ≡ all ++ pair ∷ pairs
grown_on all pair pairs = ap (λ xs. xs ++ pairs) (append-nil (all ++ pair ∷ [])) ∙ grown all pair pairs

module _ (os fs : List Text) where
  -- what a parse holds at the end
  abbrev pub end : Held → Waiting → List Text → Held
  end h waiting words = (fold (walked (rules os fs) []) (at h waiting) words).held

  -- the rows at the end, where what waits last is used
  abbrev pub end_rows : Held → Waiting → List Text → List Row
  end_rows h waiting words = settled_rows (rules os fs) (end h waiting words).pending (end h waiting words).rows

  pub record Passes (h : Held) (waiting : Waiting) (words : List Text) : Type 0 where
    pub turns : walk_fault (shape os fs) [] (at h waiting) words ≡ []
    pub last : settle_fault (rules os fs) false (end h waiting words) ≡ []

  pub record Reads (all : List Pair) (words : List Text) (rows : List Row) : Type 0 where
    pub pairs : List Pair
    pub spelled : Spells os fs words pairs
    pub once : IsOnce (all ++ pairs)
    pub are : rows ≡ map row (all ++ pairs)

  -- one word more
  module _ (h next : Held) (waiting later : Waiting) (word : Text) (rest : List Text) (after : walked (rules os fs) [] (at h waiting) word ≡ at next later) where
    on_passes : Passes h waiting (word ∷ rest) → Passes next later rest
    unfolding walk_fault
    on_passes p = record {
      turns = subst (λ (w : Walk). walk_fault (shape os fs) [] w rest ≡ []) after (none_behind _ _ p.turns);
      last = subst (λ (w : Walk). settle_fault (rules os fs) false (fold (walked (rules os fs) []) w rest).held ≡ []) after p.last;
    }

    back_passes : turn_fault (shape os fs) [] (at h waiting) word ≡ [] → Passes next later rest → Passes h waiting (word ∷ rest)
    unfolding walk_fault
    back_passes none p = record {
      turns = rw none (subst (λ (w : Walk). walk_fault (shape os fs) [] w rest ≡ []) (sym after) p.turns);
      last = subst (λ (w : Walk). settle_fault (rules os fs) false (fold (walked (rules os fs) []) w rest).held ≡ []) (sym after) p.last;
    }

    same_rows : end_rows h waiting (word ∷ rest) ≡ end_rows next later rest
    same_rows =
        ap (λ (w : Walk). settled_rows (rules os fs) (fold (walked (rules os fs) []) w rest).held.pending (fold (walked (rules os fs) []) w rest).held.rows) after

  any_fault : (h : Held) (waiting : Waiting) (word : Text) (rest : List Text) → Passes h waiting (word ∷ rest) → turn_fault (shape os fs) [] (at h waiting) word ≡ []
  unfolding walk_fault
  any_fault h waiting word rest p = none_before _ _ p.turns

  nothing_left : (h : Held) (waiting : Waiting) → walk_fault (shape os fs) [] (at h waiting) [] ≡ []
  unfolding walk_fault
  nothing_left h waiting = refl

  -- a pair more in front of what the rest reads
  grow : (all base : List Pair) (pair : Pair) (first rest words : List Text) (rows : List Row) → base ≡ all ++ pair ∷ [] → words ≡ first ++ rest
      → Writes os fs first pair.0 pair.1 → Reads base rest rows → Reads all words rows
  grow all base pair first rest words rows is_base is_words writes reads = record {
    pairs = pair ∷ reads.pairs;
    spelled = (first, rest, is_words, writes, reads.spelled);
    once = subst IsOnce (ap (λ xs. xs ++ reads.pairs) is_base ∙ grown all pair reads.pairs) reads.once;
    are = reads.are ∙ ap (map row) (ap (λ xs. xs ++ reads.pairs) is_base ∙ grown all pair reads.pairs);
  }

  -- after a name with its value in the same word, and after a flag, nothing waits
  abbrev nothing_waits : List Row → Held
  nothing_waits rows = record { rows = rows; pending = None; skip = 0 }

  abbrev name_waits : Text → List Row → Held
  name_waits name rows = record { rows = rows; pending = Some (name, []); skip = 0 }

  module _ (done : List Pair) (last : Last) (is_option : IsOption os last) (once : IsOnce (all_of done last)) (name : Text) where
    option_held : stands (all_of done last) name ≡ false → (value : Text)
        → reacted (rules os fs) (option_rule name) (value ∷ []) (held done last) ≡ held (all_of done last ++ (name, Some value) ∷ []) None
    option_held fresh value =
        ap nothing_waits (ap (used (option_rule name) (value ∷ [])) (settle_rows os fs done last is_option once) ∙ option_used (all_of done last) name fresh value)

    flag_held : stands (all_of done last) name ≡ false → reacted (rules os fs) (flag_rule name) [] (held done last) ≡ held (all_of done last ++ (name, None) ∷ []) None
    flag_held fresh = ap nothing_waits (ap (used (flag_rule name) []) (settle_rows os fs done last is_option once) ∙ flag_used (all_of done last) name fresh)

    name_held : ◌≡◌ {A = Held} (record (settled (rules os fs) (held done last)) { pending = Some (name, []) }) (name_waits name (map row (all_of done last)))
    name_held = ap (name_waits name) (settle_rows os fs done last is_option once)

  react_none : (a : Rule) (values : List Text) (h : Held) → or_else (react_fault (rules os fs) false a values h) [] ≡ []
      → (settle_fault (rules os fs) false h ≡ []) × (use_fault false a values (settled (rules os fs) h).rows ≡ [])
  react_none a values h none =
      let both = none_before (react_fault (rules os fs) false a values h) [] none in
      (none_before (settle_fault (rules os fs) false h) _ both, none_behind (settle_fault (rules os fs) false h) _ both)

  none_react : (a : Rule) (values : List Text) (h : Held) → settle_fault (rules os fs) false h ≡ [] → use_fault false a values (settled (rules os fs) h).rows ≡ []
      → or_else (react_fault (rules os fs) false a values h) [] ≡ []
  none_react a values h settle once = ap (λ kinds. or_else (or_else kinds (use_fault false a values (settled (rules os fs) h).rows)) []) settle ∙ ap (λ kinds. or_else kinds []) once

  -- ---- what passes is spelled

  abbrev pub Sound : ℕ → Type 0
  Sound n = (words : List Text) (done : List Pair) (last : Last) → length words ≤ n → IsOption os last → IsOnce done → All IsPlain words
      → Passes (held done last) idle words → Reads (all_of done last) words (end_rows (held done last) idle words)

  module _ (n : ℕ) (shorter : Sound n) (done : List Pair) (last : Last) (is_option : IsOption os last) (once : IsOnce done) (word name : Text) (rest : List Text)
      (double : bytes_eq word (codes "--") ≡ false) (within : length rest ≤ n) (plain : All IsPlain rest) (passes : Passes (held done last) idle (word ∷ rest)) where
    none_here : turn_fault (shape os fs) [] (at (held done last) idle) word ≡ []
    none_here = any_fault (held done last) idle word rest passes

    -- nothing waits after the pair
    read_on : (pair : Pair) → IsOnce (all_of done last) → stands (all_of done last) pair.0 ≡ false
        → walked (rules os fs) [] (at (held done last) idle) word ≡ at (held (all_of done last ++ pair ∷ []) None) idle
        → Writes os fs (word ∷ []) pair.0 pair.1 → Reads (all_of done last) (word ∷ rest) (end_rows (held done last) idle (word ∷ rest))
    read_on pair once_all fresh after writes =
        let base = all_of done last ++ pair ∷ [] in
        let next = on_passes (held done last) (held base None) idle idle word rest after passes in
        let reads = shorter rest base None within tt (once_more (all_of done last) pair once_all fresh) plain next in
        grow (all_of done last) (all_of base None) pair (word ∷ []) rest (word ∷ rest) _ (append-nil base) refl writes
        (subst (Reads (all_of base None) rest) (sym (same_rows (held done last) (held base None) idle idle word rest after)) reads)

    attached : (value : Text) → Contains os name → long_of word ≡ Some (name, Some value) → word ≡ codes "--" ++ name ++ codes "=" ++ value
        → Reads (all_of done last) (word ∷ rest) (end_rows (held done last) idle (word ∷ rest))
    attached value is long is_word =
        let faults = react_none (option_rule name) (value ∷ []) (held done last) (sym (option_fault os fs (held done last) idle word name double is value long) ∙ none_here) in
        let once_all = settle_once os fs done last is_option once faults.0 in
        let fresh = option_fresh (all_of done last) name value (subst (λ (rows : List Row). use_fault false (option_rule name) (value ∷ []) rows ≡ []) (settle_rows os fs done last is_option once_all) faults.1) in
        read_on (name, Some value) once_all fresh
        (option_after os fs (held done last) idle word name double is value long ∙ ap (λ h. at h idle) (option_held done last is_option once_all name fresh value))
        (is, inl (ap (λ w. w ∷ []) is_word))

    flagged : (Contains os name → ⊥) → Contains fs name → long_of word ≡ Some (name, None) → word ≡ codes "--" ++ name
        → Reads (all_of done last) (word ∷ rest) (end_rows (held done last) idle (word ∷ rest))
    flagged no_option is long is_word =
        let faults = react_none (flag_rule name) [] (held done last) (sym (flag_fault os fs (held done last) idle word name double no_option is long) ∙ none_here) in
        let once_all = settle_once os fs done last is_option once faults.0 in
        let fresh = flag_fresh (all_of done last) name (subst (λ (rows : List Row). use_fault false (flag_rule name) [] rows ≡ []) (settle_rows os fs done last is_option once_all) faults.1) in
        read_on (name, None) once_all fresh
        (flag_after os fs (held done last) idle word name double no_option is long ∙ ap (λ h. at h idle) (flag_held done last is_option once_all name fresh))
        (is, ap (λ w. w ∷ []) is_word)

    -- the value is the next word
    module _ (is : Contains os name) (long : long_of word ≡ Some (name, None)) (is_word : word ≡ codes "--" ++ name) where
      once_all : IsOnce (all_of done last)
      once_all =
          settle_once os fs done last is_option once
          (none_before (settle_fault (rules os fs) false (held done last)) [] (sym (name_fault os fs (held done last) idle word name double is long) ∙ none_here))

      waiting_after : walked (rules os fs) [] (at (held done last) idle) word ≡ at (name_waits name (map row (all_of done last))) (option name)
      waiting_after = name_after os fs (held done last) idle word name double is long ∙ ap (λ h. at h (option name)) (name_held done last is_option once_all name)

      waiting_passes : Passes (name_waits name (map row (all_of done last))) (option name) rest
      waiting_passes = on_passes (held done last) (name_waits name (map row (all_of done last))) idle (option name) word rest waiting_after passes

      apart : (following : List Text) → rest ≡ following → length following ≤ n → All IsPlain following
          → Passes (name_waits name (map row (all_of done last))) (option name) following → Reads (all_of done last) (word ∷ rest) (end_rows (held done last) idle (word ∷ rest))
      apart [] is_rest few plain next = refused _ next.last (open_refused os fs (all_of done last) name is [])
      apart (value ∷ more) is_rest few plain next = go (kind_of_word value (first_plain value more plain))
        where
          go : Kind value → Reads (all_of done last) (word ∷ rest) (end_rows (held done last) idle (word ∷ rest))
          go (dashed other v long_value double_value is_value) =
              refused _ (any_fault (name_waits name (map row (all_of done last))) (option name) value more next)
              (open_long os fs (all_of done last) name is value other v double_value long_value)
          go (undashed none) =
              let value_is = value_after os fs (all_of done last) name is value none in
              let waits = name_waits name (map row (all_of done last)) in
              let full = held (all_of done last) (Some (name, value)) in
              let reads = shorter more (all_of done last) (Some (name, value)) (omega arith) is once_all (rest_plain value more plain) (on_passes waits full (option name) idle value more value_is next) in
              let rows = same_rows (held done last) waits idle (option name) word rest waiting_after
              ∙ ap (end_rows waits (option name)) is_rest ∙ same_rows waits full (option name) idle value more value_is in
              grow (all_of done last) (all_of (all_of done last) (Some (name, value))) (name, Some value) (word ∷ value ∷ []) more (word ∷ rest) _ refl
              (ap (λ ws. word ∷ ws) is_rest) (is, inr (ap (λ w. w ∷ value ∷ []) is_word, none))
              (subst (Reads (all_of (all_of done last) (Some (name, value))) more) (sym rows) reads)

  pub sound : (n : ℕ) → Sound n
  sound n [] done last within is_option once plain passes =
      let once_all = settle_once os fs done last is_option once passes.last in
      record {
        pairs = [];
        spelled = refl;
        once = subst IsOnce (sym (append-nil (all_of done last))) once_all;
        are = settle_rows os fs done last is_option once_all ∙ ap (map row) (sym (append-nil (all_of done last)));
      }
  sound zero (word ∷ rest) done last within is_option once plain passes = absurd (omega arith)
  sound (suc n) (word ∷ rest) done last within is_option once plain passes = go (sound n) (kind_of_word word (first_plain word rest plain))
    where
      few : length rest ≤ n
      few = omega arith

      named : Sound n → (name : Text) (value : Option Text) → long_of word ≡ Some (name, value) → bytes_eq word (codes "--") ≡ false → word ≡ codes "--" ++ spelled name value
          → Contains os name ⊎ (Contains os name → ⊥) → Contains fs name ⊎ (Contains fs name → ⊥)
          → Reads (all_of done last) (word ∷ rest) (end_rows (held done last) idle (word ∷ rest))
      named shorter name (Some value) long double is_word (inl is) kind_f =
          attached n shorter done last is_option once word name rest double few (rest_plain word rest plain) passes value is long is_word
      named shorter name None long double is_word (inl is) kind_f =
          apart n shorter done last is_option once word name rest double few (rest_plain word rest plain) passes is long is_word rest refl few (rest_plain word rest plain)
          (waiting_passes n shorter done last is_option once word name rest double few (rest_plain word rest plain) passes is long is_word)
      named shorter name None long double is_word (inr no_option) (inl is) =
          flagged n shorter done last is_option once word name rest double few (rest_plain word rest plain) passes no_option is long is_word
      named shorter name (Some value) long double is_word (inr no_option) (inl is) =
          refused _ (any_fault (held done last) idle word rest passes) (flag_value os fs (held done last) idle word name double no_option is value long)
      named shorter name value long double is_word (inr no_option) (inr no_flag) =
          refused _ (any_fault (held done last) idle word rest passes) (unknown os fs (held done last) idle word name double value no_option no_flag long)

      go : Sound n → Kind word → Reads (all_of done last) (word ∷ rest) (end_rows (held done last) idle (word ∷ rest))
      go shorter (undashed none) = refused _ (any_fault (held done last) idle word rest passes) (stray os fs (held done last) word none)
      go shorter (dashed name value long_word double is_word) = named shorter name value long_word double is_word (is_named os name) (is_named fs name)

  -- ---- what is spelled passes

  module _ (option_fit : (name : Text) → Contains os name → is_fit name ≡ true) (flag_fit : (name : Text) → Contains fs name → is_fit name ≡ true)
      (disjoint : (name : Text) → Contains os name → Contains fs name → ⊥) where
    pub complete : (pairs : List Pair) (words : List Text) (done : List Pair) (last : Last) → IsOption os last → IsOnce (all_of done last ++ pairs) → Spells os fs words pairs
        → Passes (held done last) idle words
    complete [] words done last is_option once spelled = subst (Passes (held done last) idle) (sym spelled) (record {
      turns = nothing_left (held done last) idle;
      last = settle_passes os fs done last is_option (subst IsOnce (append-nil (all_of done last)) once);
    })
    complete ((name, None) ∷ pairs) words done last is_option once (first, rest, is_words, (is, is_first), spelled) =
        let all = all_of done last in
        let base = all ++ (name, None) ∷ [] in
        let once_all = once_front all ((name, None) ∷ pairs) once in
        let fresh = once_here all (name, None) pairs once in
        let fit = fit_alone name (flag_fit name is) in
        let no_option : Contains os name → ⊥ = λ c. disjoint name c is in
        let word = codes "--" ++ name in
        let after = flag_after os fs (held done last) idle word name fit.1 no_option is fit.0 ∙ ap (λ h. at h idle) (flag_held done last is_option once_all name fresh) in
        let here = flag_fault os fs (held done last) idle word name fit.1 no_option is fit.0
        ∙ none_react (flag_rule name) [] (held done last) (settle_passes os fs done last is_option once_all)
        (subst (λ (rows : List Row). use_fault false (flag_rule name) [] rows ≡ []) (sym (settle_rows os fs done last is_option once_all)) (flag_passes all name fresh)) in
        let next = complete pairs rest base None tt (subst IsOnce (sym (grown_on all (name, None) pairs)) once) spelled in
        subst (Passes (held done last) idle) (sym (is_words ∙ ap (λ ws. ws ++ rest) is_first))
        (back_passes (held done last) (held base None) idle idle word rest after here next)
    complete ((name, Some value) ∷ pairs) words done last is_option once (first, rest, is_words, (is, inl is_first), spelled) =
        let all = all_of done last in
        let base = all ++ (name, Some value) ∷ [] in
        let once_all = once_front all ((name, Some value) ∷ pairs) once in
        let fresh = once_here all (name, Some value) pairs once in
        let fit = fit_with name value (option_fit name is) in
        let word = codes "--" ++ name ++ codes "=" ++ value in
        let after = option_after os fs (held done last) idle word name fit.1 is value fit.0 ∙ ap (λ h. at h idle) (option_held done last is_option once_all name fresh value) in
        let here = option_fault os fs (held done last) idle word name fit.1 is value fit.0
        ∙ none_react (option_rule name) (value ∷ []) (held done last) (settle_passes os fs done last is_option once_all)
        (subst (λ (rows : List Row). use_fault false (option_rule name) (value ∷ []) rows ≡ []) (sym (settle_rows os fs done last is_option once_all)) (option_passes all name fresh value)) in
        let next = complete pairs rest base None tt (subst IsOnce (sym (grown_on all (name, Some value) pairs)) once) spelled in
        subst (Passes (held done last) idle) (sym (is_words ∙ ap (λ ws. ws ++ rest) is_first))
        (back_passes (held done last) (held base None) idle idle word rest after here next)
    complete ((name, Some value) ∷ pairs) words done last is_option once (first, rest, is_words, (is, inr (is_first, none)), spelled) =
        let all = all_of done last in
        let once_all = once_front all ((name, Some value) ∷ pairs) once in
        let fit = fit_alone name (option_fit name is) in
        let word = codes "--" ++ name in
        let waits = name_waits name (map row all) in
        let full = held all (Some (name, value)) in
        let after = name_after os fs (held done last) idle word name fit.1 is fit.0 ∙ ap (λ h. at h (option name)) (name_held done last is_option once_all name) in
        let here = name_fault os fs (held done last) idle word name fit.1 is fit.0 ∙ ap (λ kinds. or_else kinds []) (settle_passes os fs done last is_option once_all) in
        let next = complete pairs rest all (Some (name, value)) is (subst IsOnce (sym (grown all (name, Some value) pairs)) once) spelled in
        subst (Passes (held done last) idle) (sym (is_words ∙ ap (λ ws. ws ++ rest) is_first))
        (back_passes (held done last) waits idle (option name) word (value ∷ rest) after here
        (back_passes waits full (option name) idle value rest (value_after os fs all name is value none) (value_fault os fs all name is value none) next))
