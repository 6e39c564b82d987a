-- Words spell at most one list of pairs, and mean at most one thing.
use Rattle.std.proofs.Common.{◌≡◌, ◌∙◌, ◌⊎◌, inl, inr, ℕ, Bool, true, false, true≢false, refl, sym, ap, ap₂, subst, List, [], ◌∷◌, ◌++◌, Option, Some, None, Contains, is_some}
use Rattle.std.specs.List.{AllZip, slice_split}
use Rattle.app_peers.proofs.Cuts.{writes_once}
use Rattle.app_peers.specs.Peers.{Writes as Lists, is_comma}
use Rattle.app_peers.specs.declared.peer.Peer.{Peer}
use Rattle.clap.specs.Lexer.{long_of}
use Rattle.sidecar_words.specs.Spelling.{Pair, IsOnce, Spells, Writes, options, flags}
use Rattle.sidecar_words.specs.Value.{ArePeers, IsNumberIfAny, IsNumberOr}
use Rattle.sidecar_words.specs.Meaning.{Gives, IsMode, Means, Options, options_of}
use Rattle.sidecar_words.specs.Found.{GivesValues, HoldsOf}
use Rattle.sidecar_words.specs.declared.given.Mode.{Mode}
use Rattle.sidecar_words.specs.declared.given.Words.{Words}
use Rattle.sidecar_words.specs.declared.checking.Values.{Values}
use Rattle.sidecar_words.proofs.Lexing.{Text}
use Rattle.sidecar_words.proofs.Rules.{is_named}
use Rattle.sidecar_words.proofs.Passing.{fit_alone, fit_with}
use Rattle.sidecar_words.proofs.Parsing.{option_fit, flag_fit, disjoint}
use Rattle.sidecar_words.proofs.Drills.{one_drill}

-- ---- one list of pairs

-- the first pair of words, and the words after it, by what the first word is
abbrev Cut : Type 0
Cut = Option (Pair × List Text)

abbrev with_next : Text → List Text → Cut
with_next name [] = None
with_next name (value ∷ rest) = Some ((name, Some value), rest)

abbrev named_cut : (name : Text) → List Text → Contains flags name ⊎ (Contains flags name → ⊥) → Cut
named_cut name behind (inl is) = Some ((name, None), behind)
named_cut name behind (inr no_flag) = with_next name behind

abbrev long_cut : Option (Text × Option Text) → List Text → Cut
long_cut None behind = None
long_cut (Some (name, Some value)) behind = Some ((name, Some value), behind)
long_cut (Some (name, None)) behind = named_cut name behind (is_named flags name)

abbrev first_cut : List Text → Cut
first_cut [] = None
first_cut (word ∷ behind) = long_cut (long_of word) behind

flag_cut : (name : Text) (behind : List Text) (found : Contains flags name ⊎ (Contains flags name → ⊥)) → Contains flags name → named_cut name behind found ≡ Some ((name, None), behind)
flag_cut name behind (inl found) is = refl
flag_cut name behind (inr no_flag) is = absurd (no_flag is)

next_cut : (name value : Text) (rest : List Text) (found : Contains flags name ⊎ (Contains flags name → ⊥)) → Contains options name
    → named_cut name (value ∷ rest) found ≡ Some ((name, Some value), rest)
next_cut name value rest (inl found) is = absurd (disjoint name is found)
next_cut name value rest (inr no_flag) is = refl

cut_is : (name : Text) (value : Option Text) (words first rest : List Text) → words ≡ first ++ rest → Writes options flags first name value → first_cut words ≡ Some ((name, value), rest)
cut_is name None words first rest is_words (is, is_first) =
    ap first_cut (is_words ∙ ap (λ ws. ws ++ rest) is_first) ∙ ap (λ o. long_cut o rest) (fit_alone name (flag_fit name is)).0 ∙ flag_cut name rest (is_named flags name) is
cut_is name (Some value) words first rest is_words (is, inl is_first) =
    ap first_cut (is_words ∙ ap (λ ws. ws ++ rest) is_first) ∙ ap (λ o. long_cut o rest) (fit_with name value (option_fit name is)).0
cut_is name (Some value) words first rest is_words (is, inr (is_first, none)) =
    ap first_cut (is_words ∙ ap (λ ws. ws ++ rest) is_first) ∙ ap (λ o. long_cut o (value ∷ rest)) (fit_alone name (option_fit name is)).0
    ∙ next_cut name value rest (is_named flags name) is

no_cut : (words : List Text) (cut : Pair × List Text) → words ≡ [] → first_cut words ≡ Some cut → ⊥
no_cut words cut none is = true≢false (sym (ap (λ o. is_some o) is) ∙ ap (λ ws. is_some (first_cut ws)) none)

abbrev pair_in : Pair × List Text → Cut → Pair
pair_in cut None = cut.0
pair_in cut (Some other) = other.0

abbrev rest_in : Pair × List Text → Cut → List Text
rest_in cut None = cut.1
rest_in cut (Some other) = other.1

pub one_spelling : (pairs others : List Pair) (words : List Text) → Spells options flags words pairs → Spells options flags words others → pairs ≡ others
one_spelling [] [] words spelled other = refl
one_spelling [] (pair ∷ others) words spelled (first, rest, is_words, writes, later) = absurd (no_cut words (pair, rest) spelled (cut_is pair.0 pair.1 words first rest is_words writes))
one_spelling (pair ∷ pairs) [] words (first, rest, is_words, writes, later) other = absurd (no_cut words (pair, rest) other (cut_is pair.0 pair.1 words first rest is_words writes))
one_spelling (pair ∷ pairs) (twin ∷ others) words (first, rest, is_words, writes, later) (front, behind, are_words, write, further) =
    let same : ◌≡◌ {A = Cut} (Some (pair, rest)) (Some (twin, behind)) = sym (cut_is pair.0 pair.1 words first rest is_words writes) ∙ cut_is twin.0 twin.1 words front behind are_words write in
    let same_rest : rest ≡ behind = ap (rest_in (pair, rest)) same in
    ap₂ (λ (p : Pair) (ps : List Pair). p ∷ ps) (ap (pair_in (pair, rest)) same)
    (one_spelling pairs others behind (subst (λ (ws : List Text). Spells options flags ws pairs) same_rest later) further)

-- ---- one meaning

one_number : (most usual : ℕ) (value : Option Text) (one other : ℕ) → IsNumberOr most usual value one → IsNumberOr most usual value other → one ≡ other
one_number most usual None one other a b = a ∙ sym b
one_number most usual (Some text) one other a b = a.value ∙ sym b.value

one_if_any : (most : ℕ) (value : Option Text) (one other : Option ℕ) → IsNumberIfAny most value one → IsNumberIfAny most value other → one ≡ other
one_if_any most None one other a b = a ∙ sym b
one_if_any most (Some text) None other a b = absurd a
one_if_any most (Some text) (Some one) None a b = absurd b
one_if_any most (Some text) (Some one) (Some other) a b = ap Some (a.value ∙ sym b.value)

all_one : (items : List Text) (one other : List Peer) → AllZip Lists items one → AllZip Lists items other → one ≡ other
all_one [] [] [] a b = refl
all_one [] [] (y ∷ ys) a b = absurd b
all_one [] (x ∷ xs) other a b = absurd a
all_one (item ∷ items) [] other a b = absurd a
all_one (item ∷ items) (x ∷ xs) [] a b = absurd b
all_one (item ∷ items) (x ∷ xs) (y ∷ ys) a b = ap₂ (λ (p : Peer) (ps : List Peer). p ∷ ps) (writes_once item x y a.0 b.0) (all_one items xs ys a.1 b.1)

one_list : (own : Text) (value : Option Text) (one other : List Peer) → ArePeers own value one → ArePeers own value other → one ≡ other
one_list own None one other a b = a ∙ sym b
one_list own (Some text) one other a b = all_one (slice_split is_comma text) one other a.items b.items

abbrev some_in : {X : Type 0} → X → Option X → X
some_in x None = x
some_in x (Some y) = y

one_mode : (stdio check : Bool) (drill : Option Text) (one other : Mode) → IsMode stdio check drill one → IsMode stdio check drill other → one ≡ other
one_mode false false None one other a b = a ∙ sym b
one_mode false false (Some text) one other a b = one_drill text one other a b
one_mode false true None one other a b = a ∙ sym b
one_mode false true (Some text) one other a b = absurd a
one_mode true false None one other a b = a ∙ sym b
one_mode true false (Some text) one other a b = absurd a
one_mode true true drill one other a b = absurd a

one_given : (options : Options) (one other : Words) → Gives options one → Gives options other → one ≡ other
one_given options one other a b =
    let app : one.app ≡ other.app = ap (some_in one.app) (sym a.app_is ∙ b.app_is) in
    let resources : one.resources ≡ other.resources = sym a.resources_are ∙ b.resources_are in
    let port : one.port ≡ other.port = one_number 65535 3500 _ one.port other.port a.port_is b.port_is in
    let app_port : one.app_port ≡ other.app_port = one_if_any 65535 options.app_port one.app_port other.app_port a.app_port_is b.app_port_is in
    let workers : one.workers ≡ other.workers = one_number 64 4 _ one.workers other.workers a.workers_are b.workers_are in
    let peers : one.peers ≡ other.peers = one_list one.app options.peers one.peers other.peers a.peers_are (subst (λ (own : Text). ArePeers own options.peers other.peers) (sym app) b.peers_are) in
    let mode : one.mode ≡ other.mode = one_mode options.stdio options.check options.drill one.mode other.mode a.mode_is b.mode_is in
    λ i. record { app = app i; resources = resources i; port = port i; app_port = app_port i; workers = workers i; peers = peers i; mode = mode i }

pub one_meaning : (words : List Text) (one other : Words) → Means words one → Means words other → one ≡ other
one_meaning words one other (pairs, spelled, once, gives) (others, respelled, again, regives) =
    one_given (options_of pairs) one other gives (subst (λ ps. Gives (options_of ps) other) (sym (one_spelling pairs others words spelled respelled)) regives)

-- ---- what words mean, by their pairs

pub means_values : (words : List Text) (pairs : List Pair) (values : Values) (given : Words) → Spells options flags words pairs → HoldsOf pairs values → Means words given → GivesValues values given
means_values words pairs values given spelled holds (others, respelled, once, gives) =
    let same = one_spelling others pairs words respelled spelled in
    subst (λ (o : Options). Gives o given) (ap options_of same ∙ sym holds) gives

pub values_mean : (words : List Text) (pairs : List Pair) (values : Values) (given : Words) → Spells options flags words pairs → IsOnce pairs → HoldsOf pairs values → GivesValues values given → Means words given
values_mean words pairs values given spelled once holds gives = (pairs, spelled, once, subst (λ (o : Options). Gives o given) holds gives)
