-- Subscriptions that are loaded can be delivered.
use Rattle.std.proofs.Common.{◌≡◌, ◌≢◌, inl, inr, ◌∙◌, ap, sym, subst, refl, cond, Bool, true, false, ℕ, ◌+◌, List, [], ◌∷◌, ◌++◌, append_assoc, append-nil, filter, Option, Some, None}
use Rattle.std.proofs.lemmas.Bool.Decides.{Decides-eqb}
use Rattle.std.proofs.lemmas.Slice.Eq.{bytes_eq-Decides}
use Rattle.std.specs.Prelude.{Result, Ok, Err, IfSome, ⊤, ◌==◌, ◌⊎◌, bytes_eq, is_some, option_map, codes}
use Rattle.json_text.specs.Forest.{Forest, empty, grows}
use Rattle.yaml_subset.specs.PartKind.{PartKind}
use Rattle.yaml_subset.specs.PartKind.TheVariants as parts
use Rattle.yaml_subset.specs.Trees.{Trees, none, tree}
use Rattle.yaml_subset.specs.Docs.{Walked, absent, wrong, here, walked, told_of, inner_of}
use Rattle.resource_spec.specs.declared.field_err.FieldErr.{FieldErr}
use Rattle.resource_spec.specs.declared.field_err.FieldErr.TheVariants as fields
use Rattle.resource_spec.specs.Field.{asked_at, text_at}
use Rattle.resource_spec.specs.Document.{head_of}
use Rattle.resource_spec.specs.Follow.{follow}
use Rattle.topic_spec.specs.declared.draft.RuleText.{RuleText}
use Rattle.topic_spec.specs.declared.draft.Routes.{Routes}
use Rattle.topic_spec.specs.declared.draft.Draft.{Draft}
use Rattle.topic_spec.specs.declared.sub.Rule.{Rule}
use Rattle.topic_spec.specs.declared.sub.Sub.{Sub}
use Rattle.topic_spec.specs.declared.sub_err.SubErr.{SubErr}
use Rattle.topic_spec.specs.declared.sub_err.SubErr.TheVariants as refusals
use Rattle.topic_spec.specs.Draft.{with_slash, some_route, is_same, unless_self, in_doc}
use Rattle.topic_spec.specs.Documents.{in_rules, rule_in, rules_from, rules_listed, rules_walked, rules_in, rules_path, routes_of_rules, routes_of_one, routes_in, draft_in, is_earlier, version_of, draft_named, document_said, all_said}
use Rattle.topic_spec.specs.Reading.{AreRules, IsSub}
use Rattle.topic_spec.specs.Listed as listed
use Rattle.topic_spec.specs.Listed.{provided, kind_of, is_map, is_list, needed_in, text_in, member_of, rule_members, rule_of, routes_members, routes_or_route, draft_members, draft_of, item_draft, item_said, items_said, ListLoads, ListLoadsIf}
use Rattle.rule_value.specs.Values.{Event, held}
use Rattle.std.specs.Option.{option_or}
use Rattle.ledger_core.specs.declared.plan.Aim.{Aim}
use Rattle.topic_spec.specs.Aiming.{is_yes, answer, first_yes, path_of, is_to, aim_at, aims_from, aims_of, AreSubs}
use Rattle.topic_spec.specs.Loading.{Loads, ended, passed, added, refused, unread, many}
use Rattle.topic_spec.specs.Laws.{BeginsWithSlash, HavePaths, IsSound, AreSound, LeadToPaths, drafts_said}

-- ---- results

-- what the first of two tests gave, where the second one did not refuse
pub went_on : {A B E : Type 0} (first : Result A E) (next : A → Result B E) (b : B) → follow first next ≡ Ok b → (a : A) × (first ≡ Ok a) × (next a ≡ Ok b)
went_on (Ok a) next b is = (a, refl, is)
went_on (Err e) next b is = let bad : ⊥ = cc in absurd bad

pub ok_in : {A E : Type 0} (a b : A) → ◌≡◌ {A = Result A E} (Ok a) (Ok b) → a ≡ b
ok_in a b e = cc

-- ---- paths

pub slash_first : (path : List ℕ) → BeginsWithSlash (with_slash path)
unfolding with_slash
slash_first [] = ([], refl)
slash_first (byte ∷ bytes) = go (byte == 47) refl
  where
    go : (b : Bool) → (byte == 47) ≡ b → BeginsWithSlash (cond b (byte ∷ bytes) (47 ∷ byte ∷ bytes))
    go true is = (bytes, ap (λ first. first ∷ bytes) ((Decides-eqb byte 47).0 is))
    go false is = (byte ∷ bytes, refl)

pub slash_if : (path : Option (List ℕ)) → IfSome (option_map with_slash path) BeginsWithSlash
slash_if None = tt
slash_if (Some path) = slash_first path

abbrev pub HaveTextPaths : List RuleText → Type 0
HaveTextPaths [] = ⊤
HaveTextPaths (text ∷ texts) = BeginsWithSlash text.path × HaveTextPaths texts

pub paths_push : (texts : List RuleText) (text : RuleText) → HaveTextPaths texts → BeginsWithSlash text.path → HaveTextPaths (texts ++ text ∷ [])
paths_push [] text have is = (is, tt)
paths_push (first ∷ texts) text have is = (have.0, paths_push texts text have.1 is)

-- ---- drafts

abbrev pub Somewhere : List RuleText → Option (List ℕ) → Type 0
Somewhere rules default = (rules ≢ []) ⊎ (is_some default ≡ true)

pub record AreRoutes (routes : Routes) : Type 0 where
  pub somewhere : Somewhere routes.rules routes.default
  pub rules : HaveTextPaths routes.rules
  pub default : IfSome routes.default BeginsWithSlash

pub record IsSoundDraft (draft : Draft) : Type 0 where
  pub somewhere : Somewhere draft.rules draft.default
  pub rules : HaveTextPaths draft.rules
  pub default : IfSome draft.default BeginsWithSlash
  pub dead : IfSome draft.dead (λ dead. dead ≢ draft.topic)

pub routes_sound : (field : List ℕ) (rules : List RuleText) (default : Option (List ℕ)) (routes : Routes) → some_route field rules default ≡ Ok routes → HaveTextPaths rules → IfSome default BeginsWithSlash → AreRoutes routes
routes_sound field [] None routes is have path = let bad : ⊥ = cc in absurd bad
routes_sound field [] (Some default) routes is have path = subst AreRoutes (ok_in _ routes is) (record { somewhere = inr refl; rules = tt; default = path })
routes_sound field (rule ∷ rules) default routes is have path = subst AreRoutes (ok_in _ routes is) (record { somewhere = inl (λ e. cc); rules = have; default = path })

-- a draft whose dead-letter topic is another one
pub other_dead : (topic : List ℕ) (dead : Option (List ℕ)) → is_same topic dead ≡ false → IfSome dead (λ d. d ≢ topic)
other_dead topic None is = tt
other_dead topic (Some dead) is = λ same. (let all : bytes_eq dead topic ≡ true = (bytes_eq-Decides dead topic).1 same in let bad : ⊥ = cc in bad)

-- ---- drafts of documents

rule_sound : (row : Trees) (rule : RuleText) → rule_in row ≡ Ok rule → BeginsWithSlash rule.path
rule_sound row rule is =
    let one = went_on (in_rules (asked_at [] (codes "match" ∷ []) row)) _ rule is in
    let two = went_on (in_rules (asked_at [] (codes "path" ∷ []) row)) _ rule one.2 in
    subst (λ (r : RuleText). BeginsWithSlash r.path) (ok_in _ rule two.2) (slash_first two.0)

rules_sound : (rules : List RuleText) (row : Trees) (all : List RuleText) → rules_from rules row ≡ Ok all → HaveTextPaths rules → HaveTextPaths all
rules_sound rules none all is have = subst HaveTextPaths (ok_in rules all is) have
rules_sound rules (tree t inner later) all is have =
    let one = went_on (rule_in (tree t inner later)) (λ rule. rules_from (rules ++ rule ∷ []) later) all is in
    rules_sound (rules ++ one.0 ∷ []) later all one.2 (paths_push rules one.0 have (rule_sound (tree t inner later) one.0 one.1))

kind_sound : (part : Trees) (k : PartKind) (all : List RuleText) → (told_of part).kind ≡ k → rules_listed part ≡ Ok all → HaveTextPaths all
kind_sound part parts.Sequence all e is = let same : rules_listed part ≡ rules_from [] (inner_of part) = rw e refl in rules_sound [] (inner_of part) all (sym same ∙ is) tt
kind_sound part parts.Scalar all e is = let same : rules_listed part ≡ Err (fields.Wrong (codes "spec.routes.rules")) = rw e refl in let bad : ⊥ = cc in absurd bad
kind_sound part parts.Mapping all e is = let same : rules_listed part ≡ Err (fields.Wrong (codes "spec.routes.rules")) = rw e refl in let bad : ⊥ = cc in absurd bad
kind_sound part parts.Empty all e is = let same : rules_listed part ≡ Err (fields.Wrong (codes "spec.routes.rules")) = rw e refl in let bad : ⊥ = cc in absurd bad

walked_sound : (w : Walked) (all : List RuleText) → rules_walked w ≡ Ok all → HaveTextPaths all
walked_sound absent all is = subst HaveTextPaths (ok_in [] all is) tt
walked_sound (wrong number) all is = let bad : ⊥ = cc in absurd bad
walked_sound (here part) all is = kind_sound part (told_of part).kind all refl is

of_rules_sound : (row : Trees) (routes : Routes) → routes_of_rules row ≡ Ok routes → AreRoutes routes
of_rules_sound row routes is =
    let one = went_on (rules_in row) _ routes is in
    let two = went_on (text_at [] (codes "spec" ∷ codes "routes" ∷ codes "default" ∷ []) row) _ routes one.2 in
    routes_sound (codes "spec.routes") one.0 (option_map with_slash two.0) routes two.2 (walked_sound (walked 0 row rules_path) one.0 one.1) (slash_if two.0)

of_one_sound : (row : Trees) (routes : Routes) → routes_of_one row ≡ Ok routes → AreRoutes routes
of_one_sound row routes is =
    let one = went_on (text_at [] (codes "spec" ∷ codes "route" ∷ []) row) _ routes is in
    routes_sound (codes "spec.route") [] (option_map with_slash one.0) routes one.2 tt (slash_if one.0)

routes_in_sound : (earlier : Bool) (row : Trees) (routes : Routes) → routes_in earlier row ≡ Ok routes → AreRoutes routes
routes_in_sound true row routes is = of_one_sound row routes is
routes_in_sound false row routes is = of_rules_sound row routes is

-- the routes of a draft
abbrev HasRoutes : Draft → Type 0
HasRoutes draft = AreRoutes (record { rules = draft.rules; default = draft.default })

draft_routes : (earlier : Bool) (row : Trees) (draft : Draft) → draft_in earlier row ≡ Ok draft → HasRoutes draft
draft_routes earlier row draft is =
    let pubsub = went_on (asked_at [] (codes "spec" ∷ codes "pubsubname" ∷ []) row) _ draft is in
    let topic = went_on (asked_at [] (codes "spec" ∷ codes "topic" ∷ []) row) _ draft pubsub.2 in
    let routes = went_on (routes_in earlier row) _ draft topic.2 in
    let dead = went_on (text_at [] (codes "spec" ∷ codes "deadLetterTopic" ∷ []) row) _ draft routes.2 in
    subst HasRoutes (ok_in _ draft dead.2) (routes_in_sound earlier row routes.0 routes.1)

-- a draft that is kept
kept_sound : (name : List ℕ) (draft kept : Draft) → unless_self name draft ≡ Ok kept → HasRoutes draft → IsSoundDraft kept
kept_sound name draft kept is routes = go (is_same draft.topic draft.dead) refl is
  where
    go : (b : Bool) → is_same draft.topic draft.dead ≡ b → ◌≡◌ {A = Result Draft SubErr} (cond b (Err (refusals.SelfDead name)) (Ok draft)) (Ok kept) → IsSoundDraft kept
    go true e is = let bad : ⊥ = cc in absurd bad
    go false e is = subst IsSoundDraft (ok_in draft kept is) (record { somewhere = routes.somewhere; rules = routes.rules; default = routes.default; dead = other_dead draft.topic draft.dead e })

in_doc_ok : {T : Type 0} (doc : ℕ) (r : Result T FieldErr) (x : T) → in_doc doc r ≡ Ok x → r ≡ Ok x
in_doc_ok doc (Ok y) x is = ap Ok (ok_in y x is)
in_doc_ok doc (Err e) x is = let bad : ⊥ = cc in absurd bad

some_in : (a b : Draft) → ◌≡◌ {A = Result (Option Draft) SubErr} (Ok (Some a)) (Ok (Some b)) → a ≡ b
some_in a b e = cc

named_sound : (doc : ℕ) (earlier : Bool) (row : Trees) (name : Option (List ℕ)) (draft : Draft) → draft_named doc earlier row name ≡ Ok (Some draft) → IsSoundDraft draft
named_sound doc earlier row None draft is = let bad : ⊥ = cc in absurd bad
named_sound doc earlier row (Some name) draft is =
    let one = went_on (in_doc doc (draft_in earlier row)) _ (Some draft) is in
    let two = went_on (unless_self name one.0) _ (Some draft) one.2 in
    subst IsSoundDraft (some_in two.0 draft two.2) (kept_sound name one.0 two.0 two.1 (draft_routes earlier row one.0 (in_doc_ok doc (draft_in earlier row) one.0 one.1)))

said_sound : (app : List ℕ) (doc : ℕ) (row : Trees) (draft : Draft) → document_said app doc row ≡ Ok (Some draft) → IsSoundDraft draft
unfolding document_said
said_sound app doc row draft is =
    let one = went_on (in_doc doc (head_of (codes "Subscription") (version_of (is_earlier row)) app row)) _ (Some draft) is in
    named_sound doc (is_earlier row) row one.0 draft one.2

-- what is said is sound
abbrev pub Said : Type 0
Said = Result (Option Draft) SubErr

abbrev pub SaySound : List Said → Type 0
SaySound [] = ⊤
SaySound (said ∷ more) = ((draft : Draft) → said ≡ Ok (Some draft) → IsSoundDraft draft) × SaySound more

pub documents_sound : (app : List ℕ) (doc : ℕ) (row : Trees) → SaySound (all_said app doc row)
unfolding all_said
documents_sound app doc none = tt
documents_sound app doc (tree t inner later) = (said_sound app doc (tree t inner later), documents_sound app (doc + 1) later)

-- ---- drafts of items

provided_ok : {T : Type 0} (b : Bool) (field : List ℕ) (r : Result T FieldErr) (x : T) → provided b field r ≡ Ok x → r ≡ Ok x
provided_ok true field r x is = is
provided_ok false field r x is = let bad : ⊥ = cc in absurd bad

members_sound : (bytes : List ℕ) (values : Forest) (rule : RuleText) → rule_members bytes values ≡ Ok rule → BeginsWithSlash rule.path
members_sound bytes values rule is =
    let one = went_on (needed_in bytes (codes "routes.rules") (codes "match") values) _ rule is in
    let two = went_on (needed_in bytes (codes "routes.rules") (codes "path") values) _ rule one.2 in
    subst (λ (r : RuleText). BeginsWithSlash r.path) (ok_in _ rule two.2) (slash_first two.0)

row_sound : (bytes : List ℕ) (rules : List RuleText) (row : Forest) (all : List RuleText) → listed.rules_from bytes rules row ≡ Ok all → HaveTextPaths rules → HaveTextPaths all
row_sound bytes rules empty all is have = subst HaveTextPaths (ok_in rules all is) have
row_sound bytes rules (grows spot children later) all is have =
    let one = went_on (rule_of bytes (grows spot children later)) (λ rule. listed.rules_from bytes (rules ++ rule ∷ []) later) all is in
    row_sound bytes (rules ++ one.0 ∷ []) later all one.2
    (paths_push rules one.0 have (members_sound bytes (grows spot children later) one.0 (provided_ok (is_map (kind_of (grows spot children later))) (codes "routes.rules") (rule_members bytes (grows spot children later)) one.0 one.1)))

listed_rules_sound : (bytes : List ℕ) (values : Option Forest) (all : List RuleText) → listed.rules_of bytes values ≡ Ok all → HaveTextPaths all
listed_rules_sound bytes None all is = subst HaveTextPaths (ok_in [] all is) tt
listed_rules_sound bytes (Some values) all is =
    row_sound bytes [] (held values) all (provided_ok (is_list (kind_of values)) (codes "routes.rules") (listed.rules_from bytes [] (held values)) all is) tt

listed_routes : (bytes : List ℕ) (values : Forest) (routes : Routes) → routes_members bytes values ≡ Ok routes → AreRoutes routes
listed_routes bytes values routes is =
    let one = went_on (listed.rules_of bytes (member_of bytes (codes "rules") values)) _ routes is in
    let two = went_on (text_in bytes (codes "routes.default") (codes "default") values) _ routes one.2 in
    routes_sound (codes "routes") one.0 (option_map with_slash two.0) routes two.2 (listed_rules_sound bytes (member_of bytes (codes "rules") values) one.0 one.1) (slash_if two.0)

either_routes : (bytes : List ℕ) (item : Forest) (found : Option Forest) (routes : Routes) → routes_or_route bytes item found ≡ Ok routes → AreRoutes routes
either_routes bytes item None routes is =
    let one = went_on (text_in bytes (codes "route") (codes "route") item) _ routes is in
    routes_sound (codes "routes") [] (option_map with_slash one.0) routes one.2 tt (slash_if one.0)
either_routes bytes item (Some values) routes is =
    listed_routes bytes values routes (provided_ok (is_map (kind_of values)) (codes "routes") (routes_members bytes values) routes is)

item_routes : (bytes : List ℕ) (item : Forest) (draft : Draft) → draft_members bytes item ≡ Ok draft → HasRoutes draft
item_routes bytes item draft is =
    let pubsub = went_on (needed_in bytes (codes "pubsubname") (codes "pubsubname") item) _ draft is in
    let topic = went_on (needed_in bytes (codes "topic") (codes "topic") item) _ draft pubsub.2 in
    let routes = went_on (listed.routes_of bytes item) _ draft topic.2 in
    let dead = went_on (text_in bytes (codes "deadLetterTopic") (codes "deadLetterTopic") item) _ draft routes.2 in
    subst HasRoutes (ok_in _ draft dead.2) (either_routes bytes item (member_of bytes (codes "routes") item) routes.0 routes.1)

item_sound : (bytes : List ℕ) (place : ℕ) (item : Forest) (draft : Draft) → item_said bytes place item ≡ Ok (Some draft) → IsSoundDraft draft
unfolding item_said item_draft
item_sound bytes place item draft is =
    let one = went_on (item_draft bytes place item) _ (Some draft) is in
    let two = went_on (in_doc place (draft_of bytes item)) _ one.0 one.1 in
    let given = in_doc_ok place (draft_of bytes item) two.0 two.1 in
    subst IsSoundDraft (some_in one.0 draft one.2)
    (kept_sound two.0.topic two.0 one.0 two.2 (item_routes bytes item two.0 (provided_ok (is_map (kind_of item)) (codes "list") (draft_members bytes item) two.0 given)))

pub items_sound : (bytes : List ℕ) (place : ℕ) (row : Forest) → SaySound (items_said bytes place row)
unfolding items_said
items_sound bytes place empty = tt
items_sound bytes place (grows spot children later) = (item_sound bytes place (grows spot children later), items_sound bytes (place + 1) later)

-- ---- subscriptions

have_paths : (texts : List RuleText) (rules : List Rule) → AreRules texts rules → HaveTextPaths texts → HavePaths rules
have_paths [] [] are have = tt
have_paths [] (rule ∷ rules) are have = absurd are
have_paths (text ∷ texts) [] are have = absurd are
have_paths (text ∷ texts) (rule ∷ rules) are have = (subst BeginsWithSlash (sym are.0.path) have.0, have_paths texts rules are.1 have.1)

some_rules : (texts : List RuleText) (rules : List Rule) → AreRules texts rules → texts ≢ [] → rules ≢ []
some_rules [] rules are some = absurd (some refl)
some_rules (text ∷ texts) [] are some = absurd are
some_rules (text ∷ texts) (rule ∷ rules) are some = λ e. cc

somewhere_on : (draft : Draft) (sub : Sub) → IsSub draft sub → Somewhere draft.rules draft.default → (sub.rules ≢ []) ⊎ (is_some sub.default ≡ true)
somewhere_on draft sub is (inl some) = inl (some_rules draft.rules sub.rules is.rules some)
somewhere_on draft sub is (inr some) = inr (ap is_some is.default ∙ some)

sub_sound : (draft : Draft) (sub : Sub) → IsSub draft sub → IsSoundDraft draft → IsSound sub
sub_sound draft sub is sound = record {
  somewhere = somewhere_on draft sub is sound.somewhere;
  rules = have_paths draft.rules sub.rules is.rules sound.rules;
  default = subst (λ d. IfSome d BeginsWithSlash) (sym is.default) sound.default;
  dead = subst (λ d. IfSome d (λ dead. dead ≢ sub.topic)) (sym is.dead) (subst (λ topic. IfSome draft.dead (λ dead. dead ≢ topic)) (sym is.topic) sound.dead);
}

pub sound_joined : (one more : List Sub) → AreSound one → AreSound more → AreSound (one ++ more)
sound_joined [] more sound others = others
sound_joined (sub ∷ subs) more sound others = (sound.0, sound_joined subs more sound.1 others)

abbrev pub SoundIfOk : Result (List Sub) SubErr → Type 0
SoundIfOk (Ok subs) = AreSound subs
SoundIfOk (Err e) = ⊤

pub loads_sound : (doc : ℕ) (subs : List Sub) (said : List Said) (result : Result (List Sub) SubErr) → Loads doc subs said result → AreSound subs → SaySound said → SoundIfOk result
loads_sound doc subs [] result ended sound all = sound
loads_sound doc subs (said ∷ more) result (passed loads) sound all = loads_sound (doc + 1) subs more result loads sound all.1
loads_sound doc subs (said ∷ more) result (added {draft = draft} {sub = sub} is less loads) sound all =
    loads_sound (doc + 1) (subs ++ sub ∷ []) more result loads (sound_joined subs (sub ∷ []) sound (sub_sound draft sub is (all.0 draft refl), tt)) all.1
loads_sound doc subs (said ∷ more) result refused sound all = tt
loads_sound doc subs (said ∷ more) result (unread is) sound all = tt
loads_sound doc subs (said ∷ more) result (many is over) sound all = tt

pub files_sound : (app : List ℕ) (documents : Trees) (subs : List Sub) → Loads 0 [] (all_said app 0 documents) (Ok subs) → AreSound subs
files_sound app documents subs loads = loads_sound 0 [] (all_said app 0 documents) (Ok subs) loads tt (documents_sound app 0 documents)

pub list_sound : (bytes : List ℕ) (values : Forest) (subs : List Sub) → ListLoads bytes values (Ok subs) → AreSound subs
list_sound bytes values subs loads = go (is_list (kind_of values)) loads
  where
    go : (b : Bool) → ListLoadsIf bytes values b (Ok subs) → AreSound subs
    go true loads = loads_sound 0 [] (items_said bytes 0 (held values)) (Ok subs) loads tt (items_sound bytes 0 (held values))
    go false is = let bad : ⊥ = cc in absurd bad

pub sound_some : (p : Sub → Bool) (subs : List Sub) → AreSound subs → AreSound (filter p subs)
sound_some p [] sound = tt
sound_some p (sub ∷ subs) sound = go (p sub) (sound_some p subs sound.1)
  where
    go : (b : Bool) → AreSound (filter p subs) → AreSound (cond b (sub ∷ filter p subs) (filter p subs))
    go true others = (sound.0, others)
    go false others = others

-- ---- aims

module _ (P : List ℕ → Type 0) where
  if_either : (b : Bool) (one other : Option (List ℕ)) → IfSome one P → IfSome other P → IfSome (cond b one other) P
  if_either true one other is or = is
  if_either false one other is or = or

  if_or : (one other : Option (List ℕ)) → IfSome one P → IfSome other P → IfSome (option_or one other) P
  if_or None other is or = or
  if_or (Some x) other is or = is

first_path : (event : Event) (rules : List Rule) → HavePaths rules → IfSome (first_yes event rules) BeginsWithSlash
unfolding first_yes
first_path event [] have = tt
first_path event (rule ∷ rules) have = if_either BeginsWithSlash (is_yes (answer event rule)) (Some rule.path) (first_yes event rules) have.0 (first_path event rules have.1)

path_leads : (event : Event) (sub : Sub) → IsSound sub → IfSome (path_of event sub) BeginsWithSlash
unfolding path_of
path_leads event sub sound = if_or BeginsWithSlash (first_yes event sub.rules) sub.default (first_path event sub.rules sound.rules) sound.default

leads_joined : (one more : List Aim) → LeadToPaths one → LeadToPaths more → LeadToPaths (one ++ more)
leads_joined [] more leads others = others
leads_joined (aim ∷ aims) more leads others = (leads.0, leads_joined aims more leads.1 others)

aim_leads : (place : ℕ) (event : Event) (pubsub topic : List ℕ) (sub : Sub) → IsSound sub → LeadToPaths (aim_at place event pubsub topic sub)
unfolding aim_at
aim_leads place event pubsub topic sub sound = go (is_to pubsub topic sub)
  where
    go : (b : Bool) → LeadToPaths (cond b (record { sub = place; path = path_of event sub } ∷ []) [])
    go true = (path_leads event sub sound, tt)
    go false = tt

aims_lead : (place : ℕ) (event : Event) (pubsub topic : List ℕ) (subs : List Sub) → AreSound subs → LeadToPaths (aims_from place event pubsub topic subs)
unfolding aims_from
aims_lead place event pubsub topic [] sound = tt
aims_lead place event pubsub topic (sub ∷ subs) sound =
    leads_joined (aim_at place event pubsub topic sub) (aims_from (place + 1) event pubsub topic subs) (aim_leads place event pubsub topic sub sound.0) (aims_lead (place + 1) event pubsub topic subs sound.1)

pub all_lead : (event : Event) (pubsub topic : List ℕ) (subs : List Sub) → AreSound subs → LeadToPaths (aims_of event pubsub topic subs)
all_lead event pubsub topic subs sound = aims_lead 0 event pubsub topic subs sound

-- ---- what was written down

pub written_joined : (drafts others : List Draft) (one more : List Sub) → AreSubs drafts one → AreSubs others more → AreSubs (drafts ++ others) (one ++ more)
written_joined [] others [] more are further = further
written_joined [] others (sub ∷ subs) more are further = absurd are
written_joined (draft ∷ drafts) others [] more are further = absurd are
written_joined (draft ∷ drafts) others (sub ∷ subs) more are further = (are.0, written_joined drafts others subs more are.1 further)

abbrev pub WrittenIfOk : List Draft → Result (List Sub) SubErr → Type 0
WrittenIfOk drafts (Ok subs) = AreSubs drafts subs
WrittenIfOk drafts (Err e) = ⊤

loads_written : (doc : ℕ) (subs : List Sub) (said : List Said) (result : Result (List Sub) SubErr) (before : List Draft) → Loads doc subs said result → AreSubs before subs → WrittenIfOk (before ++ drafts_said said) result
loads_written doc subs [] result before ended are = subst (λ drafts. AreSubs drafts subs) (sym (append-nil before)) are
loads_written doc subs (said ∷ more) result before (passed loads) are = loads_written (doc + 1) subs more result before loads are
loads_written doc subs (said ∷ more) result before (added {draft = draft} {sub = sub} is less loads) are =
    subst (λ drafts. WrittenIfOk drafts result) (append_assoc before (draft ∷ []) (drafts_said more))
    (loads_written (doc + 1) (subs ++ sub ∷ []) more result (before ++ draft ∷ []) loads (written_joined before (draft ∷ []) subs (sub ∷ []) are (is, tt)))
loads_written doc subs (said ∷ more) result before refused are = tt
loads_written doc subs (said ∷ more) result before (unread is) are = tt
loads_written doc subs (said ∷ more) result before (many is over) are = tt

pub loaded_written : (doc : ℕ) (said : List Said) (subs : List Sub) → Loads doc [] said (Ok subs) → AreSubs (drafts_said said) subs
loaded_written doc said subs loads = loads_written doc [] said (Ok subs) [] loads tt
