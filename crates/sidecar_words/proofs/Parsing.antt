-- What the command of the program makes of words.
use Rattle.std.proofs.Common.{◌≡◌, ◌≢◌, ◌∙◌, inl, inr, suc, zero, Bool, true, false, cond, not, true≢false, refl, sym, ap, subst, arith, List, [], ◌∷◌, ◌++◌, map, fold, length, Option, Some, None, All, Contains, bytes_eq, codes, ◌||◌, ◌&&◌}
use Rattle.std.proofs.lemmas.Slice.Eq.{bytes_eq-Decides}
use Rattle.std.specs.List.{list_all, list_any}
use Rattle.clap.proofs.WalkLemmas.{first_value-rows, one_text-rows}
use Rattle.clap.specs.Matches.{first_value, found_of, one_text}
use Rattle.clap.specs.Values.{kind_of}
use Rattle.clap.specs.declared.error.Error.{Error}
use Rattle.clap.specs.declared.error.kind.ErrorKind.TheVariants.{OutOfMemory}
use Rattle.clap.specs.declared.parser.matches.ArgMatches.{ArgMatches}
use Rattle.sidecar_words.specs.Found.{HoldsOf, IsFound, IsRead}
use Rattle.sidecar_words.specs.declared.checking.Values.{Values}
use Rattle.clap.specs.Kinds.{HasKind, Kinds, or_else}
use Rattle.clap.specs.Walk.{Held, Row, Rule, Text, first_of, one_of, rows_of, finished, has_row, idle, nothing_held, settled, walk, with_default}
use Rattle.clap.specs.Simple.{App, HasMatchesOf, entered, is_simple, matches_of}
use Rattle.clap.specs.Faults.{built_fault, check_fault, defaults_fault, entered_fault, fault_of, is_simple_and_free, settle_fault, walk_fault}
use Rattle.clap.specs.Takes.{is_given}
use Rattle.sidecar_words.specs.Spelling.{Pair, IsOnce, Spells, options, flags, begins_with_dash, stands, value_of}
use Rattle.sidecar_words.specs.Command.{sidecar_app}
use Rattle.sidecar_words.specs.Spelling.{is_plain}
use Rattle.sidecar_words.proofs.Rules.{option_rule, flag_rule, rules, shape, at_front, in_none, simple_app, simple_and_free}
use Rattle.sidecar_words.proofs.Settling.{none_before, none_behind, held}
use Rattle.sidecar_words.proofs.Turns.{at}
use Rattle.sidecar_words.proofs.Passing.{Passes, Reads, sound, complete, is_fit, end_rows}
use Rattle.sidecar_words.proofs.Defaults.{all_rows, flag_is, value_is}

-- ---- the program's names

all_of_names : (test : Text → Bool) (names : List Text) (name : Text) → list_all test names ≡ true → Contains names name → test name ≡ true
all_of_names test [] name all is = absurd (in_none name is)
all_of_names test (first ∷ names) name all is = go (test first) refl all (all_of_names test names name)
  where
    go : (b : Bool) → test first ≡ b → (b && list_all test names) ≡ true → (list_all test names ≡ true → Contains names name → test name ≡ true) → test name ≡ true
    go false is_false all next = absurd (true≢false (sym all))
    go true is_true all next = elim (at_front first names name is) [
      | inl same ↦ subst (λ n. test n ≡ true) same is_true
      | inr later ↦ next all later
    ]

pub option_fit : (name : Text) → Contains options name → is_fit name ≡ true
option_fit name is = all_of_names is_fit options name refl is

pub flag_fit : (name : Text) → Contains flags name → is_fit name ≡ true
flag_fit name is = all_of_names is_fit flags name refl is

pub disjoint : (name : Text) → Contains options name → Contains flags name → ⊥
disjoint name is other =
    let apart = all_of_names (λ n. list_all (λ f. not (bytes_eq n f)) flags) options name refl is in
    let differ = all_of_names (λ f. not (bytes_eq name f)) flags name apart other in
    true≢false (sym differ ∙ (rw ((bytes_eq-Decides name name).1 refl) refl))

-- ---- the refusals of the whole

module _ (os fs : List Text) where
  abbrev app : App
  app = record { top = shape os fs; subs = [] }

  no_entry : (stop : Option (Text × List Text)) → entered app stop ≡ None
  no_entry None = refl
  no_entry (Some p) = refl

  no_entry_fault : (stop : Option (Text × List Text)) → entered_fault app stop ≡ []
  no_entry_fault None = refl
  no_entry_fault (Some p) = refl

one_way : {X : Type 0} (b : Bool) (x : X) → cond b x x ≡ x
one_way true x = refl
one_way false x = refl

no_flag_fault : (fs : List Text) (rows : List Row) → defaults_fault rows (map flag_rule fs) ≡ []
unfolding defaults_fault
no_flag_fault [] rows = refl
no_flag_fault (name ∷ fs) rows =
    let here : ◌≡◌ {A = Kinds} (cond (has_row name rows || false) [] []) [] = one_way (has_row name rows || false) [] in
    ap (λ (kinds : Kinds). or_else kinds (defaults_fault (with_default rows (flag_rule name)) (map flag_rule fs))) here
    ∙ no_flag_fault fs (with_default rows (flag_rule name))

no_default_fault : (os fs : List Text) (rows : List Row) → defaults_fault rows (rules os fs) ≡ []
unfolding defaults_fault
no_default_fault [] fs rows = no_flag_fault fs rows
no_default_fault (name ∷ os) fs rows =
    let here : ◌≡◌ {A = Kinds} (cond (has_row name rows || true) [] []) [] = one_way (has_row name rows || true) [] in
    ap (λ (kinds : Kinds). or_else kinds (defaults_fault (with_default rows (option_rule name)) (rules os fs))) here
    ∙ no_default_fault os fs (with_default rows (option_rule name))

no_flag_required : (fs : List Text) (rows : List Row) → list_any (λ (a : Rule). a.required && not (is_given a.id rows)) (map flag_rule fs) ≡ false
no_flag_required [] rows = refl
no_flag_required (name ∷ fs) rows = no_flag_required fs rows

none_required : (os fs : List Text) (rows : List Row) → list_any (λ (a : Rule). a.required && not (is_given a.id rows)) (rules os fs) ≡ false
none_required [] fs rows = no_flag_required fs rows
none_required (name ∷ os) fs rows = none_required os fs rows

no_check_fault : (os fs : List Text) (rows : List Row) → check_fault (shape os fs) rows false ≡ []
no_check_fault os fs rows = rw (none_required os fs rows) refl

module _ (os fs : List Text) (words : List Text) where
  abbrev stop : Option (Text × List Text)
  stop = (walk (rules os fs) [] nothing_held words).stopped

  abbrev last_held : Held
  last_held = (walk (rules os fs) [] nothing_held words).held

  abbrev turns : Kinds
  turns = walk_fault (shape os fs) [] (at nothing_held idle) words

  whole_fault : built_fault (app os fs) nothing_held words ≡ or_else turns (or_else (settle_fault (rules os fs) false last_held) [])
  whole_fault =
      rw (no_entry os fs stop, no_entry_fault os fs stop)
      (ap (λ (kinds : Kinds). or_else turns (or_else (settle_fault (rules os fs) false last_held) kinds))
      (ap (λ (kinds : Kinds). or_else kinds (check_fault (shape os fs) (finished (rules os fs) last_held) false)) (no_default_fault os fs (settled (rules os fs) last_held).rows)
      ∙ no_check_fault os fs (finished (rules os fs) last_held)))

  pub fault_passes : built_fault (app os fs) nothing_held words ≡ [] → Passes os fs (held [] None) idle words
  fault_passes none =
      let all = sym whole_fault ∙ none in
      record {
        turns = none_before turns _ all;
        last = none_before (settle_fault (rules os fs) false last_held) [] (none_behind turns _ all);
      }

  pub passes_fault : Passes os fs (held [] None) idle words → built_fault (app os fs) nothing_held words ≡ []
  passes_fault passes =
      whole_fault ∙ ap (λ (kinds : Kinds). or_else kinds (or_else (settle_fault (rules os fs) false last_held) [])) passes.turns
      ∙ ap (λ (kinds : Kinds). or_else kinds []) passes.last

-- ---- words that are spelled are plain

plain_name : (name : Text) → is_fit name ≡ true → is_plain (codes "--" ++ name) ≡ true
plain_name [] fit = absurd (true≢false (sym fit))
plain_name (byte ∷ name) fit = refl

plain_with : (name value : Text) → is_fit name ≡ true → is_plain (codes "--" ++ name ++ codes "=" ++ value) ≡ true
plain_with [] value fit = absurd (true≢false (sym fit))
plain_with (byte ∷ name) value fit = refl

plain_value : (value : Text) → begins_with_dash value ≡ false → is_plain value ≡ true
plain_value [] none = refl
plain_value (byte ∷ rest) none = rw none refl

pub all_cons : {X : Type 0} (P : X → Type 0) (x : X) (xs : List X) → P x → All P xs → All P (x ∷ xs)
all_cons P x xs here rest zero d lt = here
all_cons P x xs here rest (suc k) d lt = rest k d (omega arith)

abbrev IsPlain : Text → Type 0
IsPlain word = is_plain word ≡ true

pub spelled_plain : (pairs : List Pair) (words : List Text) → Spells options flags words pairs → All IsPlain words
spelled_plain [] words spelled = subst (All IsPlain) (sym spelled) (λ k d lt. absurd (omega arith))
spelled_plain ((name, None) ∷ pairs) words (first, rest, is_words, (is, is_first), spelled) =
    subst (All IsPlain) (sym (is_words ∙ ap (λ ws. ws ++ rest) is_first)) (all_cons IsPlain (codes "--" ++ name) rest (plain_name name (flag_fit name is)) (spelled_plain pairs rest spelled))
spelled_plain ((name, Some value) ∷ pairs) words (first, rest, is_words, (is, inl is_first), spelled) =
    subst (All IsPlain) (sym (is_words ∙ ap (λ ws. ws ++ rest) is_first))
    (all_cons IsPlain (codes "--" ++ name ++ codes "=" ++ value) rest (plain_with name value (option_fit name is)) (spelled_plain pairs rest spelled))
spelled_plain ((name, Some value) ∷ pairs) words (first, rest, is_words, (is, inr (is_first, none)), spelled) =
    subst (All IsPlain) (sym (is_words ∙ ap (λ ws. ws ++ rest) is_first))
    (all_cons IsPlain (codes "--" ++ name) (value ∷ rest) (plain_name name (option_fit name is)) (all_cons IsPlain value rest (plain_value value none) (spelled_plain pairs rest spelled)))

-- ---- the parse

-- what a parse that passes reads
pub parsed : (words : List Text) → All IsPlain words → fault_of sidecar_app words ≡ [] → Reads options flags [] words (end_rows options flags (held [] None) idle words)
parsed words plain none = sound options flags (length words) words [] None (omega arith) tt (λ i j d lt within. absurd (omega arith)) plain (fault_passes options flags words none)

-- words that spell pairs pass
pub passing : (words : List Text) (pairs : List Pair) → Spells options flags words pairs → IsOnce pairs → fault_of sidecar_app words ≡ []
passing words pairs spelled once = passes_fault options flags words (complete options flags option_fit flag_fit disjoint pairs words [] None tt once spelled)

pub matches_are : (words : List Text) → matches_of sidecar_app words ≡ fold with_default (end_rows options flags (held [] None) idle words) (rules options flags)
matches_are words = refl

-- the values that a parse found are those of pairs that the words spell
pub found_pairs : (words : List Text) (a : App) (m : ArgMatches) (values : Values) → a ≡ sidecar_app → All IsPlain words → HasMatchesOf a words m
    → (is_simple_and_free a ≡ true → fault_of a words ≡ []) → IsFound (found_of m) values
    → (pairs : List Pair) × Spells options flags words pairs × IsOnce pairs × HoldsOf pairs values
found_pairs words a m values is_app plain matches kinds found =
    let free : is_simple_and_free a ≡ true = ap is_simple_and_free is_app ∙ simple_and_free in
    let simple : is_simple a ≡ true = ap is_simple is_app ∙ simple_app in
    let none : fault_of sidecar_app words ≡ [] = ap (λ (x : App). fault_of x words) (sym is_app) ∙ kinds free in
    let reads = parsed words plain none in
    let rows : rows_of (found_of m) ≡ all_rows options flags disjoint reads.pairs =
    (matches simple).0 ∙ ap (λ (x : App). matches_of x words) is_app ∙ matches_are words ∙ ap (λ (rs : List Row). fold with_default rs (rules options flags)) reads.are in
    let value : (id : Text) → Contains options id → first_value (found_of m) id ≡ value_of reads.pairs id = λ id is.
    first_value-rows (found_of m) id ∙ ap (λ (rs : List Row). first_of id rs) rows ∙ value_is options flags disjoint reads.pairs words reads.spelled id is in
    let flag : (id : Text) (shown : Bool) → Contains flags id → IsRead (one_text (found_of m) id) shown → shown ≡ stands reads.pairs id = λ id shown is read.
    flag_is options flags disjoint reads.pairs words reads.spelled id is shown (subst (λ (t : Option Text). IsRead t shown) (one_text-rows (found_of m) id ∙ ap (λ (rs : List Row). one_of id rs) rows) read) in (
      reads.pairs,
      reads.spelled,
      reads.once,
      λ i. record {
        app = (found.app ∙ value (codes "app-id") (0, omega arith, refl)) i;
        resources = (found.resources ∙ value (codes "resources-path") (1, omega arith, refl)) i;
        port = (found.port ∙ value (codes "dapr-http-port") (2, omega arith, refl)) i;
        app_port = (found.app_port ∙ value (codes "app-port") (3, omega arith, refl)) i;
        workers = (found.workers ∙ value (codes "workers") (4, omega arith, refl)) i;
        peers = (found.peers ∙ value (codes "peers") (5, omega arith, refl)) i;
        drill = (found.drill ∙ value (codes "drill") (6, omega arith, refl)) i;
        stdio = flag (codes "stdio") values.stdio (0, omega arith, refl) found.stdio i;
        check = flag (codes "check") values.check (1, omega arith, refl) found.check i;
      },
    )

-- an error that is no want of memory comes only where words spell no pairs
pub no_pairs : (words : List Text) (a : App) (e : Error) → a ≡ sidecar_app → (is_simple_and_free a ≡ true → HasKind (fault_of a words) e) → kind_of e ≢ OutOfMemory
    → (pairs : List Pair) → Spells options flags words pairs → IsOnce pairs → ⊥
no_pairs words a e is_app kinds no_memory pairs spelled once =
    let none : fault_of a words ≡ [] = ap (λ (x : App). fault_of x words) is_app ∙ passing words pairs spelled once in
    let has : HasKind [] e = subst (λ (k : Kinds). HasKind k e) none (kinds (ap is_simple_and_free is_app ∙ simple_and_free)) in
    elim has [
      | inl memory ↦ no_memory memory
      | inr among ↦ among
    ]
