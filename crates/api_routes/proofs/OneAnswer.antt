-- A method and a target have one answer, but for want of memory.
use Rattle.std.proofs.Common.{◌≡◌, ◌≢◌, ◌⊎◌, ◌↔◌, inl, inr, ◌<◌, ◌≤◌, ℕ, Bool, true, false, List, [], ◌∷◌, ◌++◌, Option, Some, None, Result, Ok, Err, drop, arith, refl, sym, ap, subst, ◌∙◌}
use Rattle.std.proofs.lemmas.List.{append-nil, append_cancel_left}
use Rattle.std.proofs.lemmas.Bool.Decides.{eqb_tells, leb_tells}
use Rattle.std.specs.List.{AllByRecursion}
use Rattle.side_base.specs.declared.method.Method.{Method}
use Rattle.side_base.specs.declared.method.Method.TheVariants as method
use Rattle.api_routes.specs.declared.methods.Methods.{Methods}
use Rattle.api_routes.specs.declared.route.Route.{Route}
use Rattle.api_routes.specs.declared.route.Route.TheVariants as route
use Rattle.api_routes.specs.declared.route.RouteErr.{RouteErr}
use Rattle.api_routes.specs.declared.route.RouteErr.TheVariants.{NotFound, MethodNotAllowed, BadEscape, NoMemory}
use Rattle.api_routes.specs.declared.table.Kind.{Kind}
use Rattle.api_routes.specs.declared.table.Kind.TheVariants as kind
use Rattle.api_routes.specs.Methods.{has}
use Rattle.api_routes.specs.Path.{AreValues, IsClean, IsFirstBad, Parameter, Spells, parameters_from, path_of, spelled}
use Rattle.api_routes.specs.Route.{Answers, Fits, HasBadByte, HasParameter, HasRoute, IsBroken, IsFirstBroken, IsNotAllowed, IsNotFound, IsRowOf, IsText, Means, Says, decoded, text_of}
use Rattle.api_routes.specs.Table.{Part, RouteRow}
use Rattle.api_routes.specs.Table.Part.{Literal, Segment, Tail}
use Rattle.api_routes.proofs.Paths.{same-segment, spelled-starts}
use Rattle.api_routes.proofs.Tables.{fits-one}

-- the same parts spell one path with the same values
pub same-values : (parts : List Part) (values others : List (List ℕ)) → AreValues parts values → AreValues parts others → spelled parts values ≡ spelled parts others → values ≡ others
same-values [] values others are too e = are ∙ sym too
same-values (Literal text ∷ parts) values others are too e =
    same-values parts values others are too (append_cancel_left text _ _ (let rest : text ++ spelled parts values ≡ text ++ spelled parts others = cc in rest))
same-values (Segment ∷ parts) [] others are too e = absurd are
same-values (Segment ∷ parts) (value ∷ values) [] are too e = absurd too
same-values (Segment ∷ parts) (value ∷ values) (other ∷ others) are too e =
    let rest : value ++ spelled parts values ≡ other ++ spelled parts others = cc in
    let step = same-segment value other (spelled parts values) (spelled parts others) are.0.1 too.0.1 (spelled-starts parts values) (spelled-starts parts others) rest in
    let later = same-values parts values others are.1 too.1 step.1 in
    let first = step.0 in
    cc
same-values (Tail ∷ parts) [] others are too e = absurd are
same-values (Tail ∷ parts) (value ∷ values) [] are too e = absurd too
same-values (Tail ∷ parts) (value ∷ values) (other ∷ others) are too e =
    let rest : value ++ spelled parts values ≡ other ++ spelled parts others = cc in
    let gone : spelled parts values ≡ [] = ap (λ ps. spelled ps values) are.1 in
    let left : spelled parts others ≡ [] = ap (λ ps. spelled ps others) are.1 in
    let whole : value ≡ other = sym (append-nil value) ∙ (ap (λ xs. value ++ xs) (sym gone) ∙ (rest ∙ (ap (λ xs. other ++ xs) left ∙ append-nil other))) in
    let one = are.2 in
    let two = too.2 in
    cc

-- the same row spells a path with the same values
pub fits-values : (m : Method) (path : List ℕ) (row other : RouteRow) (values others : List (List ℕ)) → Fits m path row values → Fits m path other others → others ≡ values
fits-values m path row other values others fits too =
    let P : RouteRow → Type 0 = λ r. Spells r.parts others path in
    let spells : Spells row.parts others path = subst P (fits-one m path row other values others fits too) too.spells in
    same-values row.parts others values spells.are_values fits.spells.are_values (sym spells.path_is ∙ fits.spells.path_is)

-- what a path has for a method: one row, with one list of values
pub record Same (row other : RouteRow) (values others : List (List ℕ)) : Type 0 where
  pub rows : other ≡ row
  pub values_are : others ≡ values

pub same-row : (m : Method) (path : List ℕ) (row other : RouteRow) (values others : List (List ℕ)) → IsRowOf m path row values → IsRowOf m path other others → Same row other values others
same-row m path row other values others is too =
    record {
      rows = fits-one m path row other values others is.fits too.fits;
      values_are = fits-values m path row other values others is.fits too.fits;
    }

-- the route that a kind and its parameters make
abbrev pub made_of : List ℕ → Kind → List Parameter → Option Route
made_of target kind.Save (p ∷ []) = Some (route.Save (text_of p))
made_of target kind.Get (p ∷ q ∷ []) = Some (route.Get (text_of p) (text_of q))
made_of target kind.Delete (p ∷ q ∷ []) = Some (route.Delete (text_of p) (text_of q))
made_of target kind.Bulk (p ∷ []) = Some (route.Bulk (text_of p))
made_of target kind.Transact (p ∷ []) = Some (route.Transact (text_of p))
made_of target kind.Invoke (p ∷ q ∷ []) = Some (route.Invoke (text_of p) (drop q.at target))
made_of target kind.Publish (p ∷ q ∷ []) = Some (route.Publish (text_of p) (text_of q))
made_of target kind.Binding (p ∷ []) = Some (route.Binding (text_of p))
made_of target kind.ActorCall (p ∷ q ∷ r ∷ []) = Some (route.ActorCall (text_of p) (text_of q))
made_of target kind.ActorGet (p ∷ q ∷ r ∷ []) = Some (route.ActorGet (text_of p) (text_of q) (text_of r))
made_of target kind.ActorChange (p ∷ q ∷ []) = Some (route.ActorChange (text_of p) (text_of q))
made_of target kind.Health ps = Some route.Health
made_of target kind.Metadata ps = Some route.Metadata
made_of target kind.SetMetadata (p ∷ []) = Some (route.SetMetadata (text_of p))
made_of target kind.Shutdown ps = Some route.Shutdown
made_of target _ _ = None

says-made : (target : List ℕ) (sort : Kind) (ps : List Parameter) (way : Route) → Says target sort ps way → made_of target sort ps ≡ Some way
says-made target sort ps (route.Save store) (k, p, are, one) = rw (k, are, one) refl
says-made target sort ps (route.Get store key) (k, p, q, are, one, two) = rw (k, are, one, two) refl
says-made target sort ps (route.Delete store key) (k, p, q, are, one, two) = rw (k, are, one, two) refl
says-made target sort ps (route.Bulk store) (k, p, are, one) = rw (k, are, one) refl
says-made target sort ps (route.Transact store) (k, p, are, one) = rw (k, are, one) refl
says-made target sort ps (route.Invoke app rest) (k, p, q, are, one, two) = rw (k, are, one, two) refl
says-made target sort ps (route.Publish pubsub topic) (k, p, q, are, one, two) = rw (k, are, one, two) refl
says-made target sort ps (route.Binding name) (k, p, are, one) = rw (k, are, one) refl
says-made target sort ps (route.ActorCall actor id) (k, p, q, r, are, one, two) = rw (k, are, one, two) refl
says-made target sort ps (route.ActorGet actor id key) (k, p, q, r, are, one, two, three) = rw (k, are, one, two, three) refl
says-made target sort ps (route.ActorChange actor id) (k, p, q, are, one, two) = rw (k, are, one, two) refl
says-made target sort ps route.Health k = rw k refl
says-made target sort ps route.Metadata k = rw k refl
says-made target sort ps (route.SetMetadata name) (k, p, are, one) = rw (k, are, one) refl
says-made target sort ps route.Shutdown k = rw k refl

says-one : (target : List ℕ) (sort : Kind) (ps : List Parameter) (way other : Route) → Says target sort ps way → Says target sort ps other → way ≡ other
says-one target sort ps way other says too =
    let one = says-made target sort ps way says in
    let two = says-made target sort ps other too in
    cc

-- the same row makes the same parameters
moved : (P : RouteRow → List (List ℕ) → Type 0) (row other : RouteRow) (values others : List (List ℕ)) → Same row other values others → P other others → P row values
moved P row other values others same p =
    subst (λ (vs : List (List ℕ)). P row vs) same.values_are (subst (λ (r : RouteRow). P r others) same.rows p)

all-texts : (ps : List Parameter) (at : ℕ) → AllByRecursion IsText ps → IsFirstBroken ps at → ⊥
all-texts [] at texts broken = broken
all-texts (p ∷ ps) at texts (inl h) = h.0 texts.0
all-texts (p ∷ ps) at texts (inr h) = all-texts ps at texts.1 h.1

broken-one : (ps : List Parameter) (at other : ℕ) → IsFirstBroken ps at → IsFirstBroken ps other → at ≡ other
broken-one [] at other broken too = absurd broken
broken-one (p ∷ ps) at other (inl h) (inl g) = h.1 ∙ sym g.1
broken-one (p ∷ ps) at other (inl h) (inr g) = absurd (h.0 g.0)
broken-one (p ∷ ps) at other (inr h) (inl g) = absurd (g.0 h.0)
broken-one (p ∷ ps) at other (inr h) (inr g) = broken-one ps at other h.1 g.1

below : (x y : ℕ) → x ≤ y → x ≢ y → x < y
below x y low unlike = omega arith

first-bad-one : (path : List ℕ) (at other : ℕ) → IsFirstBad path at → IsFirstBad path other → at ≡ other
first-bad-one path at other is too = elim (order at other) [
  | inl h ↦ (let good = too.first at h in let bad = is.bad in absurd (cc))
  | inr h ↦ elim h [
    | inl g ↦ g
    | inr g ↦ (let good = is.first other g in let bad = too.bad in absurd (cc))
  ]
]
  where
    order : (x y : ℕ) → (x < y) ⊎ ((x ≡ y) ⊎ (y < x))
    order x y = elim (eqb_tells x y) [ inl h ↦ inr (inl h.1) | inr h ↦ elim (leb_tells x y) [ inl g ↦ inl (below x y g.1 h.1) | inr g ↦ inr (inr g.1) ] ]

clean-bad : (path : List ℕ) (at : ℕ) → IsClean path → IsFirstBad path at → ⊥
clean-bad path at clean is = let good = clean at in let bad = is.bad in absurd (cc)

flag-one : (a b : Bool) (H : Type 0) → (a ≡ true) ↔ H → (b ≡ true) ↔ H → a ≡ b
flag-one true true H is too = refl
flag-one true false H is too = sym (too.1 (is.0 refl))
flag-one false true H is too = is.1 (too.0 refl)
flag-one false false H is too = refl

abbrev made : Bool → Bool → Bool → Bool → Bool → Bool → Bool → Methods
made d g h o a p u = record { delete = d; get = g; head = h; options = o; patch = a; post = p; put = u }

made-one : (a b : Methods) → ((each : Method) → has a each ≡ has b each) → a ≡ b
made-one a b same =
    let d : a.delete ≡ b.delete = same method.Delete in
    let g : a.get ≡ b.get = same method.Get in
    let h : a.head ≡ b.head = same method.Head in
    let o : a.options ≡ b.options = same method.Options in
    let t : a.patch ≡ b.patch = same method.Patch in
    let p : a.post ≡ b.post = same method.Post in
    let u : a.put ≡ b.put = same method.Put in
    let whole : made a.delete a.get a.head a.options a.patch a.post a.put ≡ made b.delete b.get b.head b.options b.patch b.post b.put = rw (d, g, h, o, t, p, u) refl in
    whole

module _ (m : Method) (target : List ℕ) where
  means-route : (way : Route) → Means m target way → HasRoute (path_of target) m
  means-route way means = (means.row, means.values, means.is_row)

  broken-route : (at : ℕ) → IsBroken m target at → HasRoute (path_of target) m
  broken-route at broken = (broken.row, broken.values, broken.is_row)

  pub memory-route : HasParameter m target → HasRoute (path_of target) m
  memory-route has_one = (has_one.row, has_one.values, has_one.is_row)

  means-bad : (way : Route) (at : ℕ) → Means m target way → HasBadByte target at ⊎ IsBroken m target at → ⊥
  means-bad way at means (inl h) = clean-bad (path_of target) at means.clean h
  means-bad way at means (inr h) =
      let same = same-row m (path_of target) means.row h.row means.values h.values means.is_row h.is_row in
      all-texts _ at means.texts
      (moved (λ r vs. IsFirstBroken (decoded r.kind (parameters_from 0 r.parts vs)) at) means.row h.row means.values h.values same h.broken)

  pub found-bad : (at : ℕ) → IsNotFound target → HasBadByte target at ⊎ IsBroken m target at → ⊥
  found-bad at found (inl h) = clean-bad (path_of target) at found.clean h
  found-bad at found (inr h) = found.nowhere m (broken-route at h)

  allowed-bad : (allow : Methods) (at : ℕ) → IsNotAllowed m target allow → HasBadByte target at ⊎ IsBroken m target at → ⊥
  allowed-bad allow at is (inl h) = clean-bad (path_of target) at is.clean h
  allowed-bad allow at is (inr h) = is.lacks (broken-route at h)

  bad-one : (at other : ℕ) → HasBadByte target at ⊎ IsBroken m target at → HasBadByte target other ⊎ IsBroken m target other → at ≡ other
  bad-one at other (inl h) (inl g) = first-bad-one (path_of target) at other h g
  bad-one at other (inl h) (inr g) = absurd (clean-bad (path_of target) at g.clean h)
  bad-one at other (inr h) (inl g) = absurd (clean-bad (path_of target) other h.clean g)
  bad-one at other (inr h) (inr g) =
      let same = same-row m (path_of target) h.row g.row h.values g.values h.is_row g.is_row in
      broken-one _ at other h.broken
      (moved (λ r vs. IsFirstBroken (decoded r.kind (parameters_from 0 r.parts vs)) other) h.row g.row h.values g.values same g.broken)

  pub means-one : (way other : Route) → Means m target way → Means m target other → way ≡ other
  means-one way other means too =
      let same = same-row m (path_of target) means.row too.row means.values too.values means.is_row too.is_row in
      says-one target means.row.kind _ way other means.says
      (moved (λ r vs. Says target r.kind (parameters_from 0 r.parts vs) other) means.row too.row means.values too.values same too.says)

  allow-one : (allow other : Methods) → IsNotAllowed m target allow → IsNotAllowed m target other → allow ≡ other
  allow-one allow other is too =
      let same : (each : Method) → has allow each ≡ has other each = λ each. flag-one _ _ _ (is.exactly each) (too.exactly each) in
      made-one allow other same

  -- but for want of memory there is one answer
  pub same-answer : (a b : Result Route RouteErr) → Answers m target a → Answers m target b → a ≢ Err NoMemory → b ≢ Err NoMemory → a ≡ b
  same-answer (Ok way) (Ok other) is too n k = ap (λ w. Ok w) (means-one way other is too)
  same-answer (Ok way) (Err NotFound) is too n k = absurd (too.nowhere m (means-route way is))
  same-answer (Ok way) (Err (MethodNotAllowed allow)) is too n k = absurd (too.lacks (means-route way is))
  same-answer (Ok way) (Err (BadEscape at)) is too n k = absurd (means-bad way at is too)
  same-answer (Ok way) (Err NoMemory) is too n k = absurd (k refl)
  same-answer (Err NotFound) (Ok way) is too n k = absurd (is.nowhere m (means-route way too))
  same-answer (Err NotFound) (Err NotFound) is too n k = refl
  same-answer (Err NotFound) (Err (MethodNotAllowed allow)) is too n k = absurd (is.nowhere too.other too.elsewhere)
  same-answer (Err NotFound) (Err (BadEscape at)) is too n k = absurd (found-bad at is too)
  same-answer (Err NotFound) (Err NoMemory) is too n k = absurd (k refl)
  same-answer (Err (MethodNotAllowed allow)) (Ok way) is too n k = absurd (is.lacks (means-route way too))
  same-answer (Err (MethodNotAllowed allow)) (Err NotFound) is too n k = absurd (too.nowhere is.other is.elsewhere)
  same-answer (Err (MethodNotAllowed allow)) (Err (MethodNotAllowed other)) is too n k = ap (λ a. Err (MethodNotAllowed a)) (allow-one allow other is too)
  same-answer (Err (MethodNotAllowed allow)) (Err (BadEscape at)) is too n k = absurd (allowed-bad allow at is too)
  same-answer (Err (MethodNotAllowed allow)) (Err NoMemory) is too n k = absurd (k refl)
  same-answer (Err (BadEscape at)) (Ok way) is too n k = absurd (means-bad way at too is)
  same-answer (Err (BadEscape at)) (Err NotFound) is too n k = absurd (found-bad at too is)
  same-answer (Err (BadEscape at)) (Err (MethodNotAllowed allow)) is too n k = absurd (allowed-bad allow at too is)
  same-answer (Err (BadEscape at)) (Err (BadEscape other)) is too n k = ap (λ p. Err (BadEscape p)) (bad-one at other is too)
  same-answer (Err (BadEscape at)) (Err NoMemory) is too n k = absurd (k refl)
  same-answer (Err NoMemory) b is too n k = absurd (n refl)

  -- what is answered exactly where
  pub record IsExact (result : Result Route RouteErr) : Type 0 where
    pub ok : (way : Route) → (result ≡ Ok way) ↔ (Means m target way × (result ≢ Err NoMemory))
    pub not_found : (result ≡ Err NotFound) ↔ IsNotFound target
    pub not_allowed : (allow : Methods) → (result ≡ Err (MethodNotAllowed allow)) ↔ IsNotAllowed m target allow
    pub bad_byte : (at : ℕ) → HasBadByte target at → result ≡ Err (BadEscape at)
    pub bad_escape : (at : ℕ) → (result ≡ Err (BadEscape at)) ↔ (HasBadByte target at ⊎ (IsBroken m target at × (result ≢ Err NoMemory)))
    pub memory : result ≡ Err NoMemory → HasParameter m target

  moves : (result other : Result Route RouteErr) → result ≡ other → Answers m target result → Answers m target other
  moves result other e answers = subst (λ (r : Result Route RouteErr). Answers m target r) e answers

  -- no want of memory where no memory is wanted
  clear : (result : Result Route RouteErr) → Answers m target result → (HasParameter m target → ⊥) → result ≢ Err NoMemory
  clear result answers never e = never (moves result (Err NoMemory) e answers)

  pub exact : (result : Result Route RouteErr) → Answers m target result → IsExact result
  exact result answers =
      record {
        ok = λ way. ((λ e. (moves result (Ok way) e answers, (λ n. absurd (cc)))), (λ h. same-answer result (Ok way) answers h.0 h.1 (λ n. absurd (cc))));
        not_found = (moves-found result answers, found-is result answers);
        not_allowed = λ allow. ((λ e. moves result (Err (MethodNotAllowed allow)) e answers), (λ h. same-answer result (Err (MethodNotAllowed allow)) answers h (clear result answers (λ p. h.lacks (memory-route p))) (λ n. absurd (cc))));
        bad_byte = λ at h. bad-is result answers at h;
        bad_escape = λ at. ((λ e. escape-of at result e (moves result (Err (BadEscape at)) e answers)), (λ h. escape-is at result answers h));
        memory = λ e. moves result (Err NoMemory) e answers;
      }
    where
      moves-found : (result : Result Route RouteErr) → Answers m target result → result ≡ Err NotFound → IsNotFound target
      moves-found result answers e = moves result (Err NotFound) e answers

      found-is : (result : Result Route RouteErr) → Answers m target result → IsNotFound target → result ≡ Err NotFound
      found-is result answers h = same-answer result (Err NotFound) answers h (clear result answers (λ p. h.nowhere m (memory-route p))) (λ n. absurd (cc))

      bad-is : (result : Result Route RouteErr) → Answers m target result → (at : ℕ) → HasBadByte target at → result ≡ Err (BadEscape at)
      bad-is result answers at h = same-answer result (Err (BadEscape at)) answers (inl h) (clear result answers (λ p. clean-bad (path_of target) at p.clean h)) (λ n. absurd (cc))

      escape-of : (at : ℕ) (result : Result Route RouteErr) → result ≡ Err (BadEscape at) → HasBadByte target at ⊎ IsBroken m target at → HasBadByte target at ⊎ (IsBroken m target at × (result ≢ Err NoMemory))
      escape-of at result e (inl h) = inl h
      escape-of at result e (inr h) = inr (h, λ n. absurd (cc))

      escape-is : (at : ℕ) (result : Result Route RouteErr) → Answers m target result → HasBadByte target at ⊎ (IsBroken m target at × (result ≢ Err NoMemory)) → result ≡ Err (BadEscape at)
      escape-is at result answers (inl h) = bad-is result answers at h
      escape-is at result answers (inr h) = same-answer result (Err (BadEscape at)) answers (inr h.0) h.1 (λ n. absurd (cc))
