-- Why the parameters of a route give no texts.
use Rattle.std.proofs.Common.{◌≡◌, ℕ, inl, inr, List, [], ◌∷◌, Result, Ok, Err, drop, refl, sym, ap, ◌∙◌, subst}
use Rattle.api_routes.specs.declared.route.RouteErr.{RouteErr}
use Rattle.api_routes.specs.declared.route.RouteErr.TheVariants.{NotFound, MethodNotAllowed, BadEscape, NoMemory}
use Rattle.std.specs.List.{AllByRecursion}
use Rattle.api_routes.specs.declared.route.Route.{Route}
use Rattle.api_routes.specs.declared.route.Route.TheVariants as route
use Rattle.api_routes.specs.declared.table.Kind.{Kind}
use Rattle.api_routes.specs.declared.table.Kind.TheVariants as kind
use Rattle.api_routes.specs.Parameters.{Broken, Decodes, DecodesInvoked, DecodesRoute, DecodesThree, DecodesTwo, HasNth, Stands, parts_of}
use Rattle.api_routes.specs.Path.{Parameter}
use Rattle.api_routes.specs.Route.{IsText, Says, decoded, text_of}
use Rattle.api_routes.proofs.Cutting.{count, counts, one-of, three-of, two-of}

-- where the first of two is broken
pub broken-first : (first last : Parameter) (why : RouteErr) → Broken (first ∷ []) why → Broken (first ∷ last ∷ []) why
broken-first first last NotFound broken = broken
broken-first first last (MethodNotAllowed allow) broken = broken
broken-first first last (BadEscape at) (inl h) = inl h
broken-first first last (BadEscape at) (inr h) = absurd h.1
broken-first first last NoMemory broken = λ e. absurd (cc)

-- where the second is
pub broken-last : (first last : Parameter) (why : RouteErr) → IsText first → Broken (last ∷ []) why → Broken (first ∷ last ∷ []) why
broken-last first last NotFound text broken = broken
broken-last first last (MethodNotAllowed allow) text broken = broken
broken-last first last (BadEscape at) text broken = inr (text, broken)
broken-last first last NoMemory text broken = λ e. absurd (cc)

-- what mapping the value of a result makes
abbrev pub IsMapped : {X : Type 0} → (X → Route) → Result X RouteErr → Result Route RouteErr → Type 0
IsMapped make (Ok x) (Ok way) = way ≡ make x
IsMapped make (Ok x) (Err why) = ⊥
IsMapped make (Err why) (Ok way) = ⊥
IsMapped make (Err why) (Err other) = other ≡ why

-- a route of one parameter
one-at : (target : List ℕ) (sort : Kind) (first : Parameter) (make : List ℕ → Route) (one : Result (List ℕ) RouteErr) (result : Result Route RouteErr) → decoded sort (first ∷ []) ≡ first ∷ [] → Says target sort (first ∷ []) (make (text_of first)) → Decodes first one → IsMapped make one result → DecodesRoute target sort (first ∷ []) result
one-at target sort first make (Ok text) (Ok way) all says decodes is =
    (subst (λ (ps : List Parameter). AllByRecursion IsText ps) (sym all) (decodes.1, tt), rw (is, decodes.0) says)
one-at target sort first make (Ok text) (Err why) all says decodes is = absurd is
one-at target sort first make (Err why) (Ok way) all says decodes is = absurd is
one-at target sort first make (Err why) (Err other) all says decodes is = rw (is, all) decodes

pub one-route : (target path : List ℕ) (sort : Kind) (parameters : List Parameter) (make : List ℕ → Route) (one : Result (List ℕ) RouteErr) (result : Result Route RouteErr) → ((first : Parameter) → decoded sort (first ∷ []) ≡ first ∷ []) → ((first : Parameter) → Says target sort (first ∷ []) (make (text_of first))) → count (parts_of sort) ≡ 1 → Stands sort path parameters → ((first : Parameter) → Stands sort path (first ∷ []) → Decodes first one) → IsMapped make one result → DecodesRoute target sort parameters result
one-route target path sort parameters make one result all says single stands decodes cases =
    let found = one-of parameters (counts 0 (parts_of sort) path parameters stands ∙ single) in
    let at = subst (λ (ps : List Parameter). Stands sort path ps) found.1 stands in
    subst (λ (ps : List Parameter). DecodesRoute target sort ps result) (sym found.1)
    (one-at target sort found.0 make one result (all found.0) (says found.0) (decodes found.0 at) cases)

-- a route of two
two-at : (target : List ℕ) (sort : Kind) (first last : Parameter) (make : List ℕ × List ℕ → Route) (two : Result (List ℕ × List ℕ) RouteErr) (result : Result Route RouteErr) → decoded sort (first ∷ last ∷ []) ≡ first ∷ last ∷ [] → ((texts : List ℕ × List ℕ) → texts.0 ≡ text_of first → texts.1 ≡ text_of last → Says target sort (first ∷ last ∷ []) (make texts)) → DecodesTwo first last two → IsMapped make two result → DecodesRoute target sort (first ∷ last ∷ []) result
two-at target sort first last make (Ok texts) (Ok way) all says decodes is =
    (subst (λ (ps : List Parameter). AllByRecursion IsText ps) (sym all) (decodes.1, (decodes.3, tt)), rw is (says texts decodes.0 decodes.2))
two-at target sort first last make (Ok texts) (Err why) all says decodes is = absurd is
two-at target sort first last make (Err why) (Ok way) all says decodes is = absurd is
two-at target sort first last make (Err why) (Err other) all says decodes is = rw (is, all) decodes

pub two-route : (target path : List ℕ) (sort : Kind) (parameters : List Parameter) (make : List ℕ × List ℕ → Route) (two : Result (List ℕ × List ℕ) RouteErr) (result : Result Route RouteErr) → ((first last : Parameter) → decoded sort (first ∷ last ∷ []) ≡ first ∷ last ∷ []) → ((first last : Parameter) (texts : List ℕ × List ℕ) → texts.0 ≡ text_of first → texts.1 ≡ text_of last → Says target sort (first ∷ last ∷ []) (make texts)) → count (parts_of sort) ≡ 2 → Stands sort path parameters → ((first last : Parameter) → Stands sort path (first ∷ last ∷ []) → DecodesTwo first last two) → IsMapped make two result → DecodesRoute target sort parameters result
two-route target path sort parameters make two result all says pair stands decodes cases =
    let found = two-of parameters (counts 0 (parts_of sort) path parameters stands ∙ pair) in
    let at = subst (λ (ps : List Parameter). Stands sort path ps) found.2 stands in
    subst (λ (ps : List Parameter). DecodesRoute target sort ps result) (sym found.2)
    (two-at target sort found.0 found.1 make two result (all found.0 found.1) (says found.0 found.1) (decodes found.0 found.1 at) cases)

-- where the third is
broken-third : (first next last : Parameter) (why : RouteErr) → IsText first → IsText next → Broken (last ∷ []) why → Broken (first ∷ next ∷ last ∷ []) why
broken-third first next last NotFound one two broken = broken
broken-third first next last (MethodNotAllowed allow) one two broken = broken
broken-third first next last (BadEscape at) one two broken = inr (one, inr (two, broken))
broken-third first next last NoMemory one two broken = λ e. absurd (cc)

-- where one of the first two is
broken-before : (first next last : Parameter) (why : RouteErr) → Broken (first ∷ next ∷ []) why → Broken (first ∷ next ∷ last ∷ []) why
broken-before first next last NotFound broken = broken
broken-before first next last (MethodNotAllowed allow) broken = broken
broken-before first next last (BadEscape at) (inl h) = inl h
broken-before first next last (BadEscape at) (inr (one, inl h)) = inr (one, inl h)
broken-before first next last (BadEscape at) (inr (one, inr h)) = absurd h.1
broken-before first next last NoMemory broken = λ e. absurd (cc)

-- two texts, and then a third
pub three-texts : (first next last : Parameter) (texts : List ℕ × List ℕ) (third : List ℕ) → DecodesTwo first next (Ok texts) → Decodes last (Ok third) → DecodesThree first next last (Ok (texts.0, texts.1, third))
three-texts first next last texts third two one = (two.0, two.1, two.2, two.3, one.0, one.1)

pub third-broken : (first next last : Parameter) (texts : List ℕ × List ℕ) (why : RouteErr) → DecodesTwo first next (Ok texts) → Decodes last (Err why) → DecodesThree first next last (Err why)
third-broken first next last texts why two one = broken-third first next last why two.1 two.3 one

pub two-broken : (first next last : Parameter) (why : RouteErr) → DecodesTwo first next (Err why) → DecodesThree first next last (Err why)
two-broken first next last why two = broken-before first next last why two

-- a route of three
three-at : (target : List ℕ) (first next last : Parameter) (three : Result (List ℕ × List ℕ × List ℕ) RouteErr) (result : Result Route RouteErr) → DecodesThree first next last three → IsMapped (λ texts. route.ActorGet texts.0 texts.1 texts.2) three result → DecodesRoute target kind.ActorGet (first ∷ next ∷ last ∷ []) result
three-at target first next last (Ok texts) (Ok way) decodes is = ((decodes.1, (decodes.3, (decodes.5, tt))), rw is (refl, first, next, last, refl, decodes.0, decodes.2, decodes.4))
three-at target first next last (Ok texts) (Err why) decodes is = absurd is
three-at target first next last (Err why) (Ok way) decodes is = absurd is
three-at target first next last (Err why) (Err other) decodes is = rw is decodes

pub three-route : (target path : List ℕ) (parameters : List Parameter) (three : Result (List ℕ × List ℕ × List ℕ) RouteErr) (result : Result Route RouteErr) → Stands kind.ActorGet path parameters → ((first next last : Parameter) → Stands kind.ActorGet path (first ∷ next ∷ last ∷ []) → DecodesThree first next last three) → IsMapped (λ texts. route.ActorGet texts.0 texts.1 texts.2) three result → DecodesRoute target kind.ActorGet parameters result
three-route target path parameters three result stands decodes cases =
    let found = three-of parameters (counts 0 (parts_of kind.ActorGet) path parameters stands) in
    let at = subst (λ (ps : List Parameter). Stands kind.ActorGet path ps) found.3 stands in
    subst (λ (ps : List Parameter). DecodesRoute target kind.ActorGet ps result) (sym found.3)
    (three-at target found.0 found.1 found.2 three result (decodes found.0 found.1 found.2 at) cases)

-- the path has a third parameter
pub third-there : (sort : Kind) (path : List ℕ) (parameters : List Parameter) → count (parts_of sort) ≡ 3 → Stands sort path parameters → HasNth 0 (parts_of sort) path 2
third-there sort path parameters three stands =
    let found = three-of parameters (counts 0 (parts_of sort) path parameters stands ∙ three) in
    record { parameters = parameters; parameter = found.2; others = []; cuts = stands; is = ap (λ (ps : List Parameter). drop 2 ps) found.3 }

-- a call of an actor
call-at : (target : List ℕ) (first next last : Parameter) (two : Result (List ℕ × List ℕ) RouteErr) (result : Result Route RouteErr) → DecodesTwo first next two → IsMapped (λ texts. route.ActorCall texts.0 texts.1) two result → DecodesRoute target kind.ActorCall (first ∷ next ∷ last ∷ []) result
call-at target first next last (Ok texts) (Ok way) decodes is = ((decodes.1, (decodes.3, tt)), rw is (refl, first, next, last, refl, decodes.0, decodes.2))
call-at target first next last (Ok texts) (Err why) decodes is = absurd is
call-at target first next last (Err why) (Ok way) decodes is = absurd is
call-at target first next last (Err why) (Err other) decodes is = rw is decodes

pub call-route : (target path : List ℕ) (parameters : List Parameter) (two : Result (List ℕ × List ℕ) RouteErr) (result : Result Route RouteErr) → Stands kind.ActorCall path parameters → ((first next : Parameter) (others : List Parameter) → Stands kind.ActorCall path (first ∷ next ∷ others) → DecodesTwo first next two) → IsMapped (λ texts. route.ActorCall texts.0 texts.1) two result → DecodesRoute target kind.ActorCall parameters result
call-route target path parameters two result stands decodes cases =
    let found = three-of parameters (counts 0 (parts_of kind.ActorCall) path parameters stands) in
    let at = subst (λ (ps : List Parameter). Stands kind.ActorCall path ps) found.3 stands in
    subst (λ (ps : List Parameter). DecodesRoute target kind.ActorCall ps result) (sym found.3)
    (call-at target found.0 found.1 found.2 two result (decodes found.0 found.1 (found.2 ∷ []) at) cases)

-- an invocation
invoke-at : (target : List ℕ) (first last : Parameter) (two : Result (List ℕ × List ℕ) RouteErr) (result : Result Route RouteErr) → DecodesInvoked target first last two → IsMapped (λ texts. route.Invoke texts.0 texts.1) two result → DecodesRoute target kind.Invoke (first ∷ last ∷ []) result
invoke-at target first last (Ok texts) (Ok way) decodes is = ((decodes.1, tt), rw is (refl, first, last, refl, decodes.0, decodes.2))
invoke-at target first last (Ok texts) (Err why) decodes is = absurd is
invoke-at target first last (Err why) (Ok way) decodes is = absurd is
invoke-at target first last (Err why) (Err other) decodes is = rw is decodes

pub invoke-route : (target path : List ℕ) (parameters : List Parameter) (two : Result (List ℕ × List ℕ) RouteErr) (result : Result Route RouteErr) → Stands kind.Invoke path parameters → ((first last : Parameter) → Stands kind.Invoke path (first ∷ last ∷ []) → DecodesInvoked target first last two) → IsMapped (λ texts. route.Invoke texts.0 texts.1) two result → DecodesRoute target kind.Invoke parameters result
invoke-route target path parameters two result stands decodes cases =
    let found = two-of parameters (counts 0 (parts_of kind.Invoke) path parameters stands) in
    let at = subst (λ (ps : List Parameter). Stands kind.Invoke path ps) found.2 stands in
    subst (λ (ps : List Parameter). DecodesRoute target kind.Invoke ps result) (sym found.2)
    (invoke-at target found.0 found.1 two result (decodes found.0 found.1 at) cases)
