-- How the parts of a path and the pattern of a router read it alike.
use Rattle.std.proofs.Common.{◌≡◌, ◌≢◌, inl, inr, ◌<◌, ◌||◌, not, ℕ, Bool, true, false, List, [], ◌∷◌, ◌++◌, nat_eq, arith, refl, sym, ap, subst, ◌∙◌}
use Rattle.std.specs.List.{AllByRecursion}
use Rattle.std.specs.Cmp.Lexicographic.{pointwise}
use Rattle.std.proofs.lemmas.Bool.{eq-eqb}
use Rattle.std.proofs.lemmas.List.{append-nil}
use Rattle.matchit.specs.Rows.{param_token, catch_all_token}
use Rattle.api_routes.specs.Path.{slash, AreValues, Spells, StartsSegment, spelled}
use Rattle.api_routes.specs.Routers.{pattern_of}
use Rattle.api_routes.specs.Table.{Part}
use Rattle.api_routes.specs.Table.Part.{Literal, Segment, Tail}
use Rattle.api_routes.proofs.Seeks.{IsWhole, Reads}

-- the bytes of a literal
abbrev pub IsPlain : ℕ → Type 0
IsPlain byte = (byte < 256) × (byte ≢ slash)

-- literals are plain, and nothing follows a tail
abbrev pub Shaped : List Part → Type 0
Shaped [] = Unit {0}
Shaped (Literal text ∷ parts) = AllByRecursion IsPlain text × Shaped parts
Shaped (Segment ∷ parts) = Shaped parts
Shaped (Tail ∷ parts) = parts ≡ []

pub pattern-starts : (parts : List Part) → StartsSegment (pattern_of parts)
pattern-starts [] = tt
pattern-starts (Literal text ∷ parts) = refl
pattern-starts (Segment ∷ parts) = refl
pattern-starts (Tail ∷ parts) = refl

whole-text : (text pattern : List ℕ) → AllByRecursion IsPlain text → IsWhole pattern → IsWhole (text ++ pattern)
whole-text [] pattern plain whole = whole
whole-text (byte ∷ text) pattern plain whole =
    ((λ e. absurd (omega (arith, plain.0.0))), (λ e. absurd (omega (arith, plain.0.0))), whole-text text pattern plain.1 whole)

pub pattern-whole : (parts : List Part) → Shaped parts → IsWhole (pattern_of parts)
pattern-whole [] shaped = tt
pattern-whole (Literal text ∷ parts) shaped =
    ((λ e. absurd (omega (arith, e))), (λ e. absurd (omega (arith, e))), whole-text text (pattern_of parts) shaped.0 (pattern-whole parts shaped.1))
pattern-whole (Segment ∷ parts) shaped =
    ((λ e. absurd (omega (arith, e))), (λ e. absurd (omega (arith, e))), ((λ e. pattern-starts parts), (λ e. absurd (omega (arith, e))), pattern-whole parts shaped))
pattern-whole (Tail ∷ parts) shaped =
    ((λ e. absurd (omega (arith, e))), (λ e. absurd (omega (arith, e))), ((λ e. absurd (omega (arith, e))), (λ e. ap pattern_of shaped), subst (λ (ps : List Part). IsWhole (pattern_of ps)) (sym shaped) tt))

-- a text at the front of a pattern is that text of the path
pub record ReadsText (text pattern path : List ℕ) (values : List (List ℕ)) : Type 0 where
  pub rest : List ℕ
  pub path_is : path ≡ text ++ rest
  pub reads : Reads pattern rest values

reads-text : (text pattern path : List ℕ) (values : List (List ℕ)) → AllByRecursion (λ byte. byte < 256) text → Reads (text ++ pattern) path values → ReadsText text pattern path values
reads-text [] pattern path values small reads = record { rest = path; path_is = refl; reads = reads }
reads-text (byte ∷ text) pattern path values small (inl r) =
    let later = reads-text text pattern r.rest values small.1 r.reads in
    record { rest = later.rest; path_is = r.path_is ∙ ap (λ xs. byte ∷ xs) later.path_is; reads = later.reads }
reads-text (byte ∷ text) pattern path values small (inr (inl r)) = absurd (omega (arith, small.0, r.token_is))
reads-text (byte ∷ text) pattern path values small (inr (inr r)) = absurd (omega (arith, small.0, r.token_is))

small-text : (text : List ℕ) → AllByRecursion IsPlain text → AllByRecursion (λ byte. byte < 256) text
small-text [] plain = tt
small-text (byte ∷ text) plain = (plain.0.0, small-text text plain.1)

text-reads : (text pattern path : List ℕ) (values : List (List ℕ)) → AllByRecursion (λ byte. byte < 256) text → Reads pattern path values → Reads (text ++ pattern) (text ++ path) values
text-reads [] pattern path values small reads = reads
text-reads (byte ∷ text) pattern path values small reads =
    inl (record { rest = text ++ path; path_is = refl; small = small.0; reads = text-reads text pattern path values small.1 reads })

pub reads-spells : (parts : List Part) (path : List ℕ) (values : List (List ℕ)) → Shaped parts → Reads (pattern_of parts) path values → Spells parts values path
reads-spells [] path values shaped reads = record { are_values = reads.1; path_is = reads.0 }
reads-spells (Literal text ∷ parts) path values shaped reads =
    let front = reads-text (slash ∷ text) (pattern_of parts) path values (omega arith, small-text text shaped.0) reads in
    let later = reads-spells parts front.rest values shaped.1 front.reads in
    record { are_values = later.are_values; path_is = front.path_is ∙ ap (λ xs. slash ∷ (text ++ xs)) later.path_is }
reads-spells (Segment ∷ parts) path values shaped reads =
    let front = reads-text (slash ∷ []) (param_token ∷ pattern_of parts) path values (omega arith, tt) reads in
    by (λ rest others r. reads-spells parts rest others shaped r) front.rest front.path_is front.reads
  where
    by : ((rest : List ℕ) (others : List (List ℕ)) → Reads (pattern_of parts) rest others → Spells parts others rest) → (rest : List ℕ) → path ≡ slash ∷ rest → Reads (param_token ∷ pattern_of parts) rest values → Spells (Segment ∷ parts) values path
    by go rest e (inl r) = absurd (omega (arith, r.small))
    by go rest e (inr (inl r)) =
        let later = go r.rest r.others r.reads in
        subst (λ (vs : List (List ℕ)). Spells (Segment ∷ parts) vs path) (sym r.values_are)
        (record { are_values = (r.is_segment, later.are_values); path_is = e ∙ ap (λ xs. slash ∷ xs) (r.path_is ∙ ap (λ xs. r.value ++ xs) later.path_is) })
    by go rest e (inr (inr r)) = absurd (omega (arith, r.token_is))
reads-spells (Tail ∷ parts) path values shaped reads =
    let front = reads-text (slash ∷ []) (catch_all_token ∷ pattern_of parts) path values (omega arith, tt) reads in
    by front.rest front.path_is front.reads
  where
    by : (rest : List ℕ) → path ≡ slash ∷ rest → Reads (catch_all_token ∷ pattern_of parts) rest values → Spells (Tail ∷ parts) values path
    by rest e (inl r) = absurd (omega (arith, r.small))
    by rest e (inr (inl r)) = absurd (omega (arith, r.token_is))
    by rest e (inr (inr r)) =
        subst (λ (vs : List (List ℕ)). Spells (Tail ∷ parts) vs path) (sym r.values_are)
        (subst (λ (ps : List Part). Spells (Tail ∷ ps) (rest ∷ []) path) (sym shaped)
        (record { are_values = (r.some, refl, refl); path_is = e ∙ ap (λ xs. slash ∷ xs) (sym (append-nil rest)) }))

pub spelled-starts : (parts : List Part) (values : List (List ℕ)) → StartsSegment (spelled parts values)
spelled-starts [] values = tt
spelled-starts (Literal text ∷ parts) values = refl
spelled-starts (Segment ∷ parts) [] = tt
spelled-starts (Segment ∷ parts) (value ∷ values) = refl
spelled-starts (Tail ∷ parts) [] = tt
spelled-starts (Tail ∷ parts) (value ∷ values) = refl

pub spelled-reads : (parts : List Part) (values : List (List ℕ)) → Shaped parts → AreValues parts values → Reads (pattern_of parts) (spelled parts values) values
spelled-reads [] values shaped are = (refl, are)
spelled-reads (Literal text ∷ parts) values shaped are =
    text-reads (slash ∷ text) (pattern_of parts) (spelled parts values) values (omega arith, small-text text shaped.0) (spelled-reads parts values shaped.1 are)
spelled-reads (Segment ∷ parts) [] shaped are = absurd are
spelled-reads (Segment ∷ parts) (value ∷ values) shaped are =
    let here : Reads (param_token ∷ pattern_of parts) (value ++ spelled parts values) (value ∷ values) =
    inr (inl (record {
      token_is = refl;
      value = value;
      rest = spelled parts values;
      path_is = refl;
      is_segment = are.0;
      ends = spelled-starts parts values;
      others = values;
      values_are = refl;
      reads = spelled-reads parts values shaped are.1;
    })) in
    text-reads (slash ∷ []) (param_token ∷ pattern_of parts) (value ++ spelled parts values) (value ∷ values) (omega arith, tt) here
spelled-reads (Tail ∷ parts) [] shaped are = absurd are
spelled-reads (Tail ∷ parts) (value ∷ values) shaped are =
    let here : Reads (catch_all_token ∷ []) value (value ∷ []) = inr (inr (record { token_is = refl; some = are.0; last = refl; values_are = refl })) in
    let whole : Reads (slash ∷ catch_all_token ∷ []) (slash ∷ value) (value ∷ []) = text-reads (slash ∷ []) (catch_all_token ∷ []) value (value ∷ []) (omega arith, tt) here in
    let all : Reads (slash ∷ catch_all_token ∷ []) (slash ∷ (value ++ [])) (value ∷ []) = subst (λ (xs : List ℕ). Reads (slash ∷ catch_all_token ∷ []) (slash ∷ xs) (value ∷ [])) (sym (append-nil value)) whole in
    subst (λ (ps : List Part). Reads (slash ∷ catch_all_token ∷ pattern_of ps) (slash ∷ (value ++ spelled ps values)) (value ∷ values)) (sym are.1)
    (subst (λ (vs : List (List ℕ)). Reads (slash ∷ catch_all_token ∷ []) (slash ∷ (value ++ [])) (value ∷ vs)) (sym are.2) all)

-- two texts without a slash, each before the end or a slash, are one text
pub same-segment : (a b rest left : List ℕ) → AllByRecursion (λ byte. byte ≢ slash) a → AllByRecursion (λ byte. byte ≢ slash) b → StartsSegment rest → StartsSegment left → a ++ rest ≡ b ++ left → (a ≡ b) × (rest ≡ left)
same-segment [] [] rest left plain other ends starts e = (refl, e)
same-segment [] (y ∷ b) [] left plain other ends starts e = absurd (cc)
same-segment [] (y ∷ b) (x ∷ rest) left plain other ends starts e = absurd (other.0 (let xy : x ≡ y = cc in sym xy ∙ ends))
same-segment (x ∷ a) [] rest [] plain other ends starts e = absurd (cc)
same-segment (x ∷ a) [] rest (y ∷ left) plain other ends starts e = absurd (plain.0 (let xy : x ≡ y = cc in xy ∙ starts))
same-segment (x ∷ a) (y ∷ b) rest left plain other ends starts e =
    let tails : a ++ rest ≡ b ++ left = cc in
    let heads : x ≡ y = cc in
    let later = same-segment a b rest left plain.1 other.1 ends starts tails in
    (let ab = later.0 in cc, later.1)

-- at one part both have a literal, and these differ; or the one ends before the other
abbrev pub apart : List Part → List Part → Bool
apart [] [] = false
apart [] (part ∷ others) = true
apart (part ∷ parts) [] = true
apart (Literal text ∷ parts) (Literal other ∷ others) = not (pointwise nat_eq text other) || apart parts others
apart (Literal text ∷ parts) (Segment ∷ others) = apart parts others
apart (Literal text ∷ parts) (Tail ∷ others) = false
apart (Segment ∷ parts) (Literal other ∷ others) = apart parts others
apart (Segment ∷ parts) (Segment ∷ others) = apart parts others
apart (Segment ∷ parts) (Tail ∷ others) = false
apart (Tail ∷ parts) (part ∷ others) = false

pub no-slash-text : (text : List ℕ) → AllByRecursion IsPlain text → AllByRecursion (λ byte. byte ≢ slash) text
no-slash-text [] plain = tt
no-slash-text (byte ∷ text) plain = (plain.0.1, no-slash-text text plain.1)

pointwise-same : (text : List ℕ) → pointwise nat_eq text text ≡ true
pointwise-same [] = refl
pointwise-same (byte ∷ text) = rw (eq-eqb byte byte refl) (pointwise-same text)

literals-apart : (text other : List ℕ) (later : Bool) → text ≡ other → (not (pointwise nat_eq text other) || later) ≡ true → later ≡ true
literals-apart text other later same e =
    let equal : pointwise nat_eq text other ≡ true = rw (← same) (pointwise-same text) in
    rw equal at e

-- what has parts that are apart spells no path together
pub apart-never : (parts others : List Part) (values more : List (List ℕ)) → Shaped parts → Shaped others → AreValues parts values → AreValues others more → spelled parts values ≡ spelled others more → apart parts others ≡ true → ⊥
apart-never [] [] values more shaped other are is same e = absurd (cc)
apart-never [] (Literal text ∷ others) values more shaped other are is same e = absurd (cc)
apart-never [] (Segment ∷ others) values [] shaped other are is same e = is
apart-never [] (Segment ∷ others) values (value ∷ more) shaped other are is same e = absurd (cc)
apart-never [] (Tail ∷ others) values [] shaped other are is same e = is
apart-never [] (Tail ∷ others) values (value ∷ more) shaped other are is same e = absurd (cc)
apart-never (Literal text ∷ parts) [] values more shaped other are is same e = absurd (cc)
apart-never (Segment ∷ parts) [] [] more shaped other are is same e = are
apart-never (Segment ∷ parts) [] (value ∷ values) more shaped other are is same e = absurd (cc)
apart-never (Tail ∷ parts) [] [] more shaped other are is same e = are
apart-never (Tail ∷ parts) [] (value ∷ values) more shaped other are is same e = absurd (cc)
apart-never (Literal text ∷ parts) (Literal word ∷ others) values more shaped other are is same e =
    let rest : text ++ spelled parts values ≡ word ++ spelled others more = cc in
    let step = same-segment text word (spelled parts values) (spelled others more) (no-slash-text text shaped.0) (no-slash-text word other.0) (spelled-starts parts values) (spelled-starts others more) rest in
    apart-never parts others values more shaped.1 other.1 are is step.1 (literals-apart text word (apart parts others) step.0 e)
apart-never (Literal text ∷ parts) (Segment ∷ others) values [] shaped other are is same e = is
apart-never (Literal text ∷ parts) (Segment ∷ others) values (value ∷ more) shaped other are is same e =
    let rest : text ++ spelled parts values ≡ value ++ spelled others more = cc in
    let step = same-segment text value (spelled parts values) (spelled others more) (no-slash-text text shaped.0) is.0.1 (spelled-starts parts values) (spelled-starts others more) rest in
    apart-never parts others values more shaped.1 other are is.1 step.1 e
apart-never (Literal text ∷ parts) (Tail ∷ others) values more shaped other are is same e = absurd (cc)
apart-never (Segment ∷ parts) (part ∷ others) [] more shaped other are is same e = are
apart-never (Segment ∷ parts) (Literal word ∷ others) (value ∷ values) more shaped other are is same e =
    let rest : value ++ spelled parts values ≡ word ++ spelled others more = cc in
    let step = same-segment value word (spelled parts values) (spelled others more) are.0.1 (no-slash-text word other.0) (spelled-starts parts values) (spelled-starts others more) rest in
    apart-never parts others values more shaped other.1 are.1 is step.1 e
apart-never (Segment ∷ parts) (Segment ∷ others) (value ∷ values) [] shaped other are is same e = is
apart-never (Segment ∷ parts) (Segment ∷ others) (value ∷ values) (word ∷ more) shaped other are is same e =
    let rest : value ++ spelled parts values ≡ word ++ spelled others more = cc in
    let step = same-segment value word (spelled parts values) (spelled others more) are.0.1 is.0.1 (spelled-starts parts values) (spelled-starts others more) rest in
    apart-never parts others values more shaped other are.1 is.1 step.1 e
apart-never (Segment ∷ parts) (Tail ∷ others) (value ∷ values) more shaped other are is same e = absurd (cc)
apart-never (Tail ∷ parts) (part ∷ others) values more shaped other are is same e = absurd (cc)
