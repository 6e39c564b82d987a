-- One document after the other, and one item of a list after the other.
use Rattle.std.proofs.Common.{◌≡◌, ◌≢◌, ◌∙◌, ap, sym, subst, refl, arith, ℕ, suc, ◌+◌, ◌-◌, ◌<◌, ◌≤◌, List, [], ◌∷◌, ◌++◌, length}
use Rattle.std.specs.Prelude.{Option, Some, None, MatchOption, IfSome, Result, Ok, Err}
use Rattle.json_text.specs.declared.doc.Doc.{Doc}
use Rattle.json_text.specs.declared.doc.Node.{Node}
use Rattle.json_text.specs.declared.spot.Spot.{Spot}
use Rattle.json_text.specs.Forest.{Forest, empty, grows}
use Rattle.json_text.specs.Doc.{bytes_read, IsNode, StandsAt, OfNode}
use Rattle.resource_spec.specs.Follow.{follow}
use Rattle.rule_value.specs.Standing.{IsAt}
use Rattle.rule_value.specs.Values.{held}
use Rattle.yaml_subset.specs.declared.preorder.Part.{Part}
use Rattle.yaml_subset.specs.Trees.{Trees, none, tree}
use Rattle.yaml_subset.specs.Docs.{IsPart, row_of, later_of, count_of, Begins, IsFirst}
use Rattle.topic_spec.proofs.Members.{at_node}
use Rattle.topic_spec.specs.declared.draft.Draft.{Draft}
use Rattle.topic_spec.specs.declared.sub.Sub.{Sub}
use Rattle.topic_spec.specs.declared.sub_err.SubErr.{SubErr}
use Rattle.topic_spec.specs.declared.sub_err.SubErr.TheVariants.{Missing, Wrong, NoMemory, SelfDead, TooMany, Rule}
use Rattle.topic_spec.specs.Draft.{IsSubErr}
use Rattle.topic_spec.specs.Reading.{IsSub, IsReading}
use Rattle.topic_spec.specs.Documents.{document_said, all_said}
use Rattle.topic_spec.specs.Listed.{item_said, items_said}
use Rattle.topic_spec.specs.Loading.{Loads, ended, passed, added, refused, unread, many, IsLoad, IsStep, IsAdded}

abbrev Said : Type 0
Said = Result (Option Draft) SubErr

-- ---- one step

-- a refusal is that of the document
pub refused_step : (doc : ℕ) (old new : List Sub) (e : SubErr) (said : Said) → IsSubErr {T = Option Draft} e said → IsStep (Err e) doc old new said
refused_step doc old new (Missing number field) said is more = subst (λ s. Loads doc old (s ∷ more) (Err (Missing number field))) (sym is) refused
refused_step doc old new (Wrong number field) said is more = subst (λ s. Loads doc old (s ∷ more) (Err (Wrong number field))) (sym is) refused
refused_step doc old new (SelfDead name) said is more = subst (λ s. Loads doc old (s ∷ more) (Err (SelfDead name))) (sym is) refused
refused_step doc old new (TooMany count) said is more = subst (λ s. Loads doc old (s ∷ more) (Err (TooMany count))) (sym is) refused
refused_step doc old new (Rule number at) said is more = subst (λ s. Loads doc old (s ∷ more) (Err (Rule number at))) (sym is) refused
refused_step doc old new NoMemory said is more = tt

-- what is said is added
pub said_step : (result : Result (Unit {0}) SubErr) (doc : ℕ) (old new : List Sub) (said : Option Draft) (wanted : Said) → wanted ≡ Ok said → IsStep result doc old new (Ok said) → IsStep result doc old new wanted
said_step result doc old new said wanted is step = subst (IsStep result doc old new) (sym is) step

pub nothing_step : (doc : ℕ) (old new : List Sub) → new ≡ old → IsStep (Ok tt) doc old new (Ok None)
nothing_step doc old new same = λ more result loads. passed (subst (λ subs. Loads (doc + 1) subs more result) same loads)

-- a rule isn't read
pub unread_step : {T : Type 0} (doc : ℕ) (old new : List Sub) (e : SubErr) (draft : Draft) (good : T → Type 0) → IsReading {T = T} doc draft.rules good (Err e) → IsStep (Err e) doc old new (Ok (Some draft))
unread_step doc old new (Rule number at) draft good is more = subst (λ n. Loads doc old (Ok (Some draft) ∷ more) (Err (Rule n at))) (sym is.0) (unread is.1)
unread_step doc old new NoMemory draft good is more = tt
unread_step doc old new (Missing number field) draft good is more = absurd is
unread_step doc old new (Wrong number field) draft good is more = absurd is
unread_step doc old new (SelfDead name) draft good is more = absurd is
unread_step doc old new (TooMany count) draft good is more = absurd is

-- a subscription whose rules are read is added, or there are too many
pub added_step : (result : Result (Unit {0}) SubErr) (doc : ℕ) (old new : List Sub) (draft : Draft) (sub : Sub) → IsSub draft sub → IsAdded result sub old new → IsStep result doc old new (Ok (Some draft))
added_step (Ok done) doc old new draft sub is add = λ more result loads. added is add.0 (subst (λ subs. Loads (doc + 1) subs more result) add.1 loads)
added_step (Err NoMemory) doc old new draft sub is add = λ more. tt
added_step (Err (TooMany count)) doc old new draft sub is add = λ more. subst (λ n. Loads doc old (Ok (Some draft) ∷ more) (Err (TooMany n))) (sym add.1) (many is add.0)
added_step (Err (Missing number field)) doc old new draft sub is add = λ more. absurd add
added_step (Err (Wrong number field)) doc old new draft sub is add = λ more. absurd add
added_step (Err (SelfDead name)) doc old new draft sub is add = λ more. absurd add
added_step (Err (Rule number at)) doc old new draft sub is add = λ more. absurd add

-- a draft that is refused
pub draft_refused : (doc : ℕ) (old new : List Sub) (e : SubErr) (said : Result Draft SubErr) → IsSubErr {T = Draft} e said → IsStep (Err e) doc old new (follow said (λ draft. Ok (Some draft)))
draft_refused doc old new e said is = refused_step doc old new e _ (err_on said e is)
  where
    err_on : (said : Result Draft SubErr) (e : SubErr) → IsSubErr {T = Draft} e said → IsSubErr {T = Option Draft} e (follow said (λ draft. Ok (Some draft)))
    err_on said (Missing number field) is = ap (λ s. follow s (λ draft. Ok (Some draft))) is
    err_on said (Wrong number field) is = ap (λ s. follow s (λ draft. Ok (Some draft))) is
    err_on said (SelfDead name) is = ap (λ s. follow s (λ draft. Ok (Some draft))) is
    err_on said (TooMany count) is = ap (λ s. follow s (λ draft. Ok (Some draft))) is
    err_on said (Rule number at) is = ap (λ s. follow s (λ draft. Ok (Some draft))) is
    err_on said NoMemory is = tt

-- a draft that is taken
pub draft_step : (result : Result (Unit {0}) SubErr) (doc : ℕ) (old new : List Sub) (draft : Draft) (said : Result Draft SubErr) → said ≡ Ok draft → IsStep result doc old new (Ok (Some draft)) → IsStep result doc old new (follow said (λ draft. Ok (Some draft)))
draft_step result doc old new draft said is step = subst (λ s. IsStep result doc old new (follow s (λ draft. Ok (Some draft)))) (sym is) step

-- ---- what may come of the rest may come of all

pub come : (goal : Result (List Sub) SubErr → Type 0) (doc : ℕ) (old : List Sub) (said : List Said) (e : SubErr) → ((r : Result (List Sub) SubErr) → Loads doc old said r → goal r) → IsLoad (Loads doc old said) (Err e) → IsLoad goal (Err e)
come goal doc old said (Missing number field) all is = all _ is
come goal doc old said (Wrong number field) all is = all _ is
come goal doc old said (SelfDead name) all is = all _ is
come goal doc old said (TooMany count) all is = all _ is
come goal doc old said (Rule number at) all is = all _ is
come goal doc old said NoMemory all is = tt

pub first_part : (docs row : Trees) (here : Option Part) → IsFirst docs row here → IfSome here (IsPart docs)
first_part docs row None first = tt
first_part docs row (Some p) first = first.inside

-- ---- documents

-- the documents from `here` on are still to be read; the next one has the number `doc`
pub record GoingDocs (app : List ℕ) (docs : Trees) (goal : Result (List Sub) SubErr → Type 0) (doc : ℕ) (here : Option Part) (all : List Sub) : Type 0 where
  pub rest : Trees
  pub first : IsFirst docs rest here
  pub count : count_of rest + doc ≡ count_of docs
  pub onward : (r : Result (List Sub) SubErr) → Loads doc all (all_said app doc rest) r → goal r

module _ (app : List ℕ) (docs : Trees) (goal : Result (List Sub) SubErr → Type 0) where
  said_first : (doc : ℕ) (rest : Trees) → rest ≢ none → all_said app doc rest ≡ document_said app doc rest ∷ all_said app (doc + 1) (later_of rest)
  unfolding all_said
  said_first doc none some = absurd (some refl)
  said_first doc (tree t inner later) some = refl

  count_first : (rest : Trees) → rest ≢ none → count_of rest ≡ 1 + count_of (later_of rest)
  count_first none some = absurd (some refl)
  count_first (tree t inner later) some = refl

  pub docs_start : (here : Option Part) (subs : List Sub) → subs ≡ [] → IsFirst docs docs here → ((r : Result (List Sub) SubErr) → Loads 0 [] (all_said app 0 docs) r → goal r) → GoingDocs app docs goal 0 here subs
  docs_start here subs no_subs first all = record { rest = docs; first = first; count = omega arith; onward = λ r loads. all r (subst (λ s. Loads 0 s (all_said app 0 docs) r) no_subs loads) }

  pub docs_next : (doc : ℕ) (p : Part) (next : Option Part) (old new : List Sub) → GoingDocs app docs goal doc (Some p) old → IsFirst docs (later_of (row_of docs p)) next → IsStep (Ok tt) doc old new (document_said app doc (row_of docs p)) → GoingDocs app docs goal (doc + 1) next new
  docs_next doc p next old new h follows step =
      let begins : Begins docs h.rest p = h.first in
      let same : row_of docs p ≡ h.rest = begins.is in
      record {
        rest = later_of h.rest;
        first = subst (λ row. IsFirst docs (later_of row) next) same follows;
        count = omega (arith, count_first h.rest begins.some, h.count);
        onward = λ r loads. h.onward r (subst (λ said. Loads doc old said r) (sym (said_first doc h.rest begins.some)) (subst (λ row. Loads doc old (document_said app doc row ∷ all_said app (doc + 1) (later_of h.rest)) r) same (step (all_said app (doc + 1) (later_of h.rest)) r loads)));
      }

  pub docs_stop : (doc : ℕ) (p : Part) (old new : List Sub) (e : SubErr) → GoingDocs app docs goal doc (Some p) old → IsStep (Err e) doc old new (document_said app doc (row_of docs p)) → IsLoad goal (Err e)
  docs_stop doc p old new e h step =
      let begins : Begins docs h.rest p = h.first in
      let same : row_of docs p ≡ h.rest = begins.is in
      come goal doc old (all_said app doc h.rest) e h.onward
      (subst (λ said. IsLoad (Loads doc old said) (Err e)) (sym (said_first doc h.rest begins.some)) (subst (λ row. IsLoad (Loads doc old (document_said app doc row ∷ all_said app (doc + 1) (later_of h.rest))) (Err e)) same (step (all_said app (doc + 1) (later_of h.rest)))))

  none_said : (doc : ℕ) (rest : Trees) → rest ≡ none → all_said app doc rest ≡ []
  unfolding all_said
  none_said doc none is = refl
  none_said doc (tree t inner later) is = let bad : ⊥ = cc in absurd bad

  pub docs_end : (doc : ℕ) (all : List Sub) (rest : Trees) → rest ≡ none → ((r : Result (List Sub) SubErr) → Loads doc all (all_said app doc rest) r → goal r) → goal (Ok all)
  docs_end doc all rest is onward = onward (Ok all) (subst (λ said. Loads doc all said (Ok all)) (sym (none_said doc rest is)) ended)

  pub docs_none : (doc : ℕ) (all : List Sub) → GoingDocs app docs goal doc None all → goal (Ok all)
  docs_none doc all h = docs_end doc all h.rest h.first h.onward

  no_more : (rest : Trees) → count_of rest ≡ 0 → rest ≡ none
  no_more none e = refl
  no_more (tree t inner later) e = absurd (omega (arith, e))

  pub docs_all : (doc : ℕ) (here : Option Part) (all : List Sub) → GoingDocs app docs goal doc here all → count_of docs ≤ doc → goal (Ok all)
  docs_all doc here all h over = docs_end doc all h.rest (no_more h.rest (omega (arith, h.count, over))) h.onward

-- ---- items of a list

-- `here` is the node of what is still to be read, if there is any
abbrev pub Left : Doc → Option Node → Forest → Type 0
Left doc here tail = MatchOption here (tail ≡ empty) (λ m. StandsAt doc m tail × (tail ≢ empty))

-- how many nodes may still follow
abbrev pub nodes_left : ℕ → Option Node → ℕ
nodes_left n None = 0
nodes_left n (Some node) = suc (n - node.number)

pub record GoingItems (doc : Doc) (goal : Result (List Sub) SubErr → Type 0) (place : ℕ) (here : Option Node) (all : List Sub) : Type 0 where
  pub tail : Forest
  pub at : Left doc here tail
  pub onward : (r : Result (List Sub) SubErr) → Loads place all (items_said (bytes_read doc) place tail) r → goal r

module _ (doc : Doc) (goal : Result (List Sub) SubErr → Type 0) where
  first_item : (place : ℕ) (spot : Spot) (children later : Forest) → items_said (bytes_read doc) place (grows spot children later) ≡ item_said (bytes_read doc) place (grows spot children later) ∷ items_said (bytes_read doc) (place + 1) later
  unfolding items_said
  first_item place spot children later = refl

  no_item : (place : ℕ) (tail : Forest) → tail ≡ empty → items_said (bytes_read doc) place tail ≡ []
  unfolding items_said
  no_item place empty is = refl
  no_item place (grows spot children later) is = let bad : ⊥ = cc in absurd bad

  pub items_start : (n : Node) (here : Option Node) (subs : List Sub) (values : Forest) → subs ≡ [] → OfNode doc n (λ spot children later. Left doc here children) → IsAt doc n values → ((r : Result (List Sub) SubErr) → Loads 0 [] (items_said (bytes_read doc) 0 (held values)) r → goal r) → GoingItems doc goal (length subs) here subs
  items_start n here subs values no_subs first at all = subst (λ s. GoingItems doc goal (length s) here s) (sym no_subs) (record {
    tail = at.children;
    at = at_node doc n _ first values at;
    onward = λ r loads. all r (subst (λ v. Loads 0 [] (items_said (bytes_read doc) 0 (held v)) r) (sym at.are) loads);
  })

  next_of : (place : ℕ) (n : Node) (next : Option Node) (old new : List Sub) (tail : Forest) → IsNode doc n → StandsAt doc n tail → tail ≢ empty → ((r : Result (List Sub) SubErr) → Loads place old (items_said (bytes_read doc) place tail) r → goal r)
      → OfNode doc n (λ spot children later. Left doc next later) → ((item : Forest) → IsAt doc n item → IsStep (Ok tt) place old new (item_said (bytes_read doc) place item)) → GoingItems doc goal (place + 1) next new
  next_of place n next old new empty inside stands some onward follows step = absurd (some refl)
  next_of place n next old new (grows spot children later) inside stands some onward follows step = record {
    tail = later;
    at = follows (grows spot children later) stands;
    onward = λ r loads. onward r (subst (λ said. Loads place old said r) (sym (first_item place spot children later))
        (step (grows spot children later) (record { inside = inside; spot = spot; children = children; later = later; are = refl; stands = stands }) (items_said (bytes_read doc) (place + 1) later) r loads));
  }

  pub items_next : (place : ℕ) (n : Node) (next : Option Node) (old new : List Sub) → GoingItems doc goal place (Some n) old → IsNode doc n → OfNode doc n (λ spot children later. Left doc next later) → ((item : Forest) → IsAt doc n item → IsStep (Ok tt) place old new (item_said (bytes_read doc) place item)) → GoingItems doc goal (place + 1) next new
  items_next place n next old new h inside follows step = next_of place n next old new h.tail inside h.at.0 h.at.1 h.onward follows step

  stop_of : (place : ℕ) (n : Node) (old new : List Sub) (e : SubErr) (tail : Forest) → IsNode doc n → StandsAt doc n tail → tail ≢ empty → ((r : Result (List Sub) SubErr) → Loads place old (items_said (bytes_read doc) place tail) r → goal r)
      → ((item : Forest) → IsAt doc n item → IsStep (Err e) place old new (item_said (bytes_read doc) place item)) → IsLoad goal (Err e)
  stop_of place n old new e empty inside stands some onward step = absurd (some refl)
  stop_of place n old new e (grows spot children later) inside stands some onward step =
      come goal place old (items_said (bytes_read doc) place (grows spot children later)) e onward
      (subst (λ said. IsLoad (Loads place old said) (Err e)) (sym (first_item place spot children later))
      (step (grows spot children later) (record { inside = inside; spot = spot; children = children; later = later; are = refl; stands = stands }) (items_said (bytes_read doc) (place + 1) later)))

  pub items_stop : (place : ℕ) (n : Node) (old new : List Sub) (e : SubErr) → GoingItems doc goal place (Some n) old → IsNode doc n → ((item : Forest) → IsAt doc n item → IsStep (Err e) place old new (item_said (bytes_read doc) place item)) → IsLoad goal (Err e)
  items_stop place n old new e h inside step = stop_of place n old new e h.tail inside h.at.0 h.at.1 h.onward step

  pub items_end : (place : ℕ) (all : List Sub) → GoingItems doc goal place None all → goal (Ok all)
  items_end place all h = h.onward (Ok all) (subst (λ said. Loads place all said (Ok all)) (sym (no_item place h.tail h.at)) ended)
