-- The search of a router finds a route exactly where one of its patterns reads the path.
use Rattle.std.proofs.lemmas.Bool.{eqb-true, eq-eqb}
use Rattle.std.proofs.Math.Seq.{drop-append_seam, drop-length}
use Rattle.std.proofs.lemmas.List.{length-append, append-nil}
use Rattle.std.proofs.Common.{◌≡◌, ◌≢◌, ◌⊎◌, inl, inr, ◌+◌, ◌-◌, ◌<◌, ℕ, zero, suc, Bool, true, false, cond, ltb, ◌==◌, List, [], ◌∷◌, ◌++◌, Option, Some, None, length, drop, arith, refl, sym, ap, subst, ◌∙◌}
use Rattle.std.specs.List.{AllByRecursion}
use Rattle.matchit.specs.Rows.{RowsOf, param_token, catch_all_token}
use Rattle.matchit.specs.Seek.{seek, param_step, own, step, or_else, segment, has_slash, longest_from, with_suffix, cuts, same_text}
use Rattle.api_routes.specs.Path.{slash, IsSegment, StartsSegment}
use Rattle.api_routes.specs.Routers.{Holds}
use Rattle.api_routes.proofs.Segments.{split, segment-last, segment-slash, cuts-last, cuts-slash}

-- each parameter of the pattern is a whole segment, and nothing follows a catch-all
abbrev pub IsWhole : List ℕ → Type 0
IsWhole [] = Unit {0}
IsWhole (token ∷ pattern) = (token ≡ param_token → StartsSegment pattern) × (token ≡ catch_all_token → pattern ≡ []) × IsWhole pattern

-- a byte of the pattern is that byte of the path
pub record ReadsByte (Rest : List ℕ → List (List ℕ) → Type 0) (token : ℕ) (path : List ℕ) (values : List (List ℕ)) : Type 0 where
  pub rest : List ℕ
  pub path_is : path ≡ token ∷ rest
  pub small : token < 256
  pub reads : Rest rest values

-- a parameter takes a segment of the path
pub record ReadsSegment (Rest : List ℕ → List (List ℕ) → Type 0) (token : ℕ) (path : List ℕ) (values : List (List ℕ)) : Type 0 where
  pub token_is : token ≡ param_token
  pub value : List ℕ
  pub rest : List ℕ
  pub path_is : path ≡ value ++ rest
  pub is_segment : IsSegment value
  pub ends : StartsSegment rest
  pub others : List (List ℕ)
  pub values_are : values ≡ value ∷ others
  pub reads : Rest rest others

-- a catch-all takes all that is left of the path
pub record ReadsTail (pattern : List ℕ) (token : ℕ) (path : List ℕ) (values : List (List ℕ)) : Type 0 where
  pub token_is : token ≡ catch_all_token
  pub some : path ≢ []
  pub last : pattern ≡ []
  pub values_are : values ≡ path ∷ []

-- the pattern reads the path, with these values of its parameters
abbrev pub Reads : List ℕ → List ℕ → List (List ℕ) → Type 0
Reads [] path values = (path ≡ []) × (values ≡ [])
Reads (token ∷ pattern) path values =
    ReadsByte (Reads pattern) token path values ⊎ (ReadsSegment (Reads pattern) token path values ⊎ ReadsTail pattern token path values)

-- a pattern that begins with a slash has that suffix
pub begins_slash : (x : ℕ) (other : List ℕ) → x ≡ slash → same_text (segment (x ∷ other)) (slash ∷ []) ≡ true
begins_slash x other e = rw e refl

module _ {K : Type 0} where
  abbrev pub AllWhole : RowsOf K → Type 0
  AllWhole [] = Unit {0}
  AllWhole ((pattern, key) ∷ rows) = IsWhole pattern × AllWhole rows

  -- the route whose pattern ends here
  pub own-holds : (rows : RowsOf K) (key : K) → own rows ≡ Some key → Holds [] key rows
  own-holds [] key h = absurd (cc)
  own-holds (([], first) ∷ rows) key h = inl (refl, cc)
  own-holds ((token ∷ pattern, first) ∷ rows) key h = inr (own-holds rows key h)

  pub own-finds : (rows : RowsOf K) (key : K) → Holds [] key rows → own rows ≡ None → ⊥
  own-finds [] key held none = held
  own-finds (([], first) ∷ rows) key held none = absurd (cc)
  own-finds ((token ∷ pattern, first) ∷ rows) key (inl h) none = absurd (cc (h.0))
  own-finds ((token ∷ pattern, first) ∷ rows) key (inr h) none = own-finds rows key h none

  -- the rows that go on with a token
  step-holds-at : (b : Bool) (token x : ℕ) (other : List ℕ) (first : K) (rows : RowsOf K) (pattern : List ℕ) (key : K) → (x == token) ≡ b → (Holds pattern key (step token rows) → Holds (token ∷ pattern) key rows) → Holds pattern key (cond b ((other, first) ∷ step token rows) (step token rows)) → Holds (token ∷ pattern) key ((x ∷ other, first) ∷ rows)
  step-holds-at true token x other first rows pattern key e ih (inl h) = inl (let xt : x ≡ token = eqb-true x token e in cc, h.1)
  step-holds-at true token x other first rows pattern key e ih (inr h) = inr (ih h)
  step-holds-at false token x other first rows pattern key e ih held = inr (ih held)

  pub step-holds : (token : ℕ) (rows : RowsOf K) (pattern : List ℕ) (key : K) → Holds pattern key (step token rows) → Holds (token ∷ pattern) key rows
  step-holds token [] pattern key held = held
  step-holds token (([], first) ∷ rows) pattern key held = inr (step-holds token rows pattern key held)
  step-holds token ((x ∷ other, first) ∷ rows) pattern key held =
      step-holds-at (x == token) token x other first rows pattern key refl (step-holds token rows pattern key) held

  step-finds-at : (b : Bool) (token x : ℕ) (other : List ℕ) (first : K) (rows : RowsOf K) (pattern : List ℕ) (key : K) → (x == token) ≡ b → (Holds (token ∷ pattern) key rows → Holds pattern key (step token rows)) → Holds (token ∷ pattern) key ((x ∷ other, first) ∷ rows) → Holds pattern key (cond b ((other, first) ∷ step token rows) (step token rows))
  step-finds-at true token x other first rows pattern key e ih (inl h) = inl (cc, h.1)
  step-finds-at true token x other first rows pattern key e ih (inr h) = inr (ih h)
  step-finds-at false token x other first rows pattern key e ih (inl h) =
      let xt : x ≡ token = cc in
      let same : (x == token) ≡ true = eq-eqb x token xt in
      absurd (cc)
  step-finds-at false token x other first rows pattern key e ih (inr h) = ih h

  pub step-finds : (token : ℕ) (rows : RowsOf K) (pattern : List ℕ) (key : K) → Holds (token ∷ pattern) key rows → Holds pattern key (step token rows)
  step-finds token [] pattern key held = held
  step-finds token (([], first) ∷ rows) pattern key (inl h) = absurd (cc (h.0))
  step-finds token (([], first) ∷ rows) pattern key (inr h) = step-finds token rows pattern key h
  step-finds token ((x ∷ other, first) ∷ rows) pattern key held =
      step-finds-at (x == token) token x other first rows pattern key refl (step-finds token rows pattern key) held

  step-whole-at : (b : Bool) (token : ℕ) (other : List ℕ) (first : K) (rows : RowsOf K) → IsWhole other → AllWhole (step token rows) → AllWhole (cond b ((other, first) ∷ step token rows) (step token rows))
  step-whole-at true token other first rows whole ih = (whole, ih)
  step-whole-at false token other first rows whole ih = ih

  pub step-whole : (token : ℕ) (rows : RowsOf K) → AllWhole rows → AllWhole (step token rows)
  step-whole token [] whole = tt
  step-whole token (([], first) ∷ rows) whole = step-whole token rows whole.1
  step-whole token ((x ∷ other, first) ∷ rows) whole =
      step-whole-at (x == token) token other first rows whole.0.2 (step-whole token rows whole.1)

  -- what follows a parameter in each row
  abbrev pub AllStart : RowsOf K → Type 0
  AllStart [] = Unit {0}
  AllStart ((pattern, key) ∷ rows) = StartsSegment pattern × AllStart rows

  step-start-at : (b : Bool) (x : ℕ) (other : List ℕ) (first : K) (rows : RowsOf K) → (x == param_token) ≡ b → (x ≡ param_token → StartsSegment other) → AllStart (step param_token rows) → AllStart (cond b ((other, first) ∷ step param_token rows) (step param_token rows))
  step-start-at true x other first rows e starts ih = (starts (eqb-true x param_token e), ih)
  step-start-at false x other first rows e starts ih = ih

  pub step-start : (rows : RowsOf K) → AllWhole rows → AllStart (step param_token rows)
  step-start [] whole = tt
  step-start (([], first) ∷ rows) whole = step-start rows whole.1
  step-start ((x ∷ other, first) ∷ rows) whole =
      step-start-at (x == param_token) x other first rows refl whole.0.0 (step-start rows whole.1)

  -- the longest suffix of rows that go on with a slash or end
  pub longest-none : (seg : List ℕ) (rows : RowsOf K) → AllStart rows → cuts seg (slash ∷ []) ≡ false → longest_from seg [] rows ≡ []
  longest-none seg [] starts no_cut = refl
  longest-none seg (([], first) ∷ rows) starts no_cut = longest-none seg rows starts.1 no_cut
  longest-none seg ((x ∷ other, first) ∷ rows) starts no_cut =
      rw (starts.0, no_cut) (longest-none seg rows starts.1 no_cut)

  pub longest-slash : (seg : List ℕ) (rows : RowsOf K) → AllStart rows → longest_from seg (slash ∷ []) rows ≡ slash ∷ []
  longest-slash seg [] starts = refl
  longest-slash seg (([], first) ∷ rows) starts = longest-slash seg rows starts.1
  longest-slash seg ((x ∷ other, first) ∷ rows) starts = rw (starts.0) (longest-slash seg rows starts.1)

  -- a row goes on with a slash
  abbrev pub SomeSlash : RowsOf K → Type 0
  SomeSlash [] = ⊥
  SomeSlash (([], first) ∷ rows) = SomeSlash rows
  SomeSlash ((x ∷ other, first) ∷ rows) = Unit {0}

  pub longest-cut : (seg : List ℕ) (rows : RowsOf K) → AllStart rows → cuts seg (slash ∷ []) ≡ true → (longest_from seg [] rows ≡ slash ∷ []) ⊎ ((longest_from seg [] rows ≡ []) × (¬ SomeSlash rows))
  longest-cut seg [] starts cut = inr (refl, λ h. h)
  longest-cut seg (([], first) ∷ rows) starts cut = longest-cut seg rows starts.1 cut
  longest-cut seg ((x ∷ other, first) ∷ rows) starts cut = inl (rw (starts.0, cut) (longest-slash seg rows starts.1))

  -- the rows that go on with a slash
  pub slash-holds : (rows : RowsOf K) (pattern : List ℕ) (key : K) → AllStart rows → Holds pattern key (with_suffix (slash ∷ []) rows) → Holds pattern key rows
  slash-holds [] pattern key starts held = held
  slash-holds (([], first) ∷ rows) pattern key starts held = inr (slash-holds rows pattern key starts.1 held)
  slash-holds ((x ∷ other, first) ∷ rows) pattern key starts held =
      elim (rw (begins_slash x other starts.0) at held) [ inl h ↦ inl h | inr h ↦ inr (slash-holds rows pattern key starts.1 h) ]

  pub slash-finds : (rows : RowsOf K) (x : ℕ) (pattern : List ℕ) (key : K) → AllStart rows → Holds (x ∷ pattern) key rows → Holds (x ∷ pattern) key (with_suffix (slash ∷ []) rows)
  slash-finds [] x pattern key starts held = held
  slash-finds (([], first) ∷ rows) x pattern key starts (inl h) = absurd (cc (h.0))
  slash-finds (([], first) ∷ rows) x pattern key starts (inr h) = slash-finds rows x pattern key starts.1 h
  slash-finds ((y ∷ other, first) ∷ rows) x pattern key starts (inl h) = rw (begins_slash y other starts.0) (inl h)
  slash-finds ((y ∷ other, first) ∷ rows) x pattern key starts (inr h) =
      rw (begins_slash y other starts.0) (inr (slash-finds rows x pattern key starts.1 h))

  pub slash-whole : (rows : RowsOf K) → AllStart rows → AllWhole rows → AllWhole (with_suffix (slash ∷ []) rows)
  slash-whole [] starts whole = tt
  slash-whole (([], first) ∷ rows) starts whole = slash-whole rows starts.1 whole.1
  slash-whole ((x ∷ other, first) ∷ rows) starts whole =
      rw (begins_slash x other starts.0) (whole.0, slash-whole rows starts.1 whole.1)

  pub some_slash : (rows : RowsOf K) (x : ℕ) (pattern : List ℕ) (key : K) → Holds (x ∷ pattern) key rows → SomeSlash rows
  some_slash [] x pattern key held = held
  some_slash (([], first) ∷ rows) x pattern key (inl h) = absurd (cc (h.0))
  some_slash (([], first) ∷ rows) x pattern key (inr h) = some_slash rows x pattern key h
  some_slash ((y ∷ other, first) ∷ rows) x pattern key held = tt

-- what reads a slash first is that slash
slash-first : (pattern rest : List ℕ) (values : List (List ℕ)) → Reads (slash ∷ pattern) rest values → (left : List ℕ) × (rest ≡ slash ∷ left)
slash-first pattern rest values (inl r) = (r.rest, r.path_is)
slash-first pattern rest values (inr (inl r)) = absurd (omega (arith, r.token_is))
slash-first pattern rest values (inr (inr r)) = absurd (omega (arith, r.token_is))

module _ {K : Type 0} where
  -- where a parameter takes the last segment
  pub param_step-last : (rows : RowsOf K) (value : List ℕ) → AllStart rows → AllByRecursion (λ byte. byte ≢ slash) value → param_step rows value ≡ (length value, rows)
  unfolding param_step
  param_step-last rows value starts plain =
      let seg = segment-last value plain in
      let longest : longest_from (segment value) [] rows ≡ [] = rw (seg.0) (longest-none value rows starts (cuts-last value plain)) in
      rw (longest, seg.1) refl

  param_step-by : (rows : RowsOf K) (path seg longest : List ℕ) → segment path ≡ seg → longest_from seg [] rows ≡ longest → has_slash path ≡ true → param_step rows path ≡ cond (ltb 0 (length longest)) (length seg - length longest, with_suffix longest rows) (0, [])
  unfolding param_step
  param_step-by rows path seg longest seg_is longest_is slashed = rw (seg_is, longest_is, slashed) refl

  -- where it takes a segment that a slash follows
  pub param_step-slash : (rows : RowsOf K) (byte : ℕ) (value rest : List ℕ) → AllStart rows → AllByRecursion (λ byte. byte ≢ slash) (byte ∷ value) → (param_step rows (byte ∷ (value ++ slash ∷ rest)) ≡ (length value + 1, with_suffix (slash ∷ []) rows)) ⊎ ((param_step rows (byte ∷ (value ++ slash ∷ rest)) ≡ (0, [])) × (¬ SomeSlash rows))
  param_step-slash rows byte value rest starts plain =
      let seg = segment-slash (byte ∷ value) rest plain in
      let size : length (byte ∷ (value ++ slash ∷ [])) ≡ length (byte ∷ value) + 1 = length-append (byte ∷ value) (slash ∷ []) in
      let left : length (byte ∷ (value ++ slash ∷ [])) - 1 ≡ length value + 1 = omega arith in
      elim (longest-cut (byte ∷ (value ++ slash ∷ [])) rows starts (cuts-slash byte value)) [
        | inl h ↦ inl (
            param_step-by rows (byte ∷ (value ++ slash ∷ rest)) (byte ∷ (value ++ slash ∷ [])) (slash ∷ []) seg.0 h seg.1
            ∙ ap (λ (n : ℕ). (n, with_suffix (slash ∷ []) rows)) left)
        | inr h ↦ inr (param_step-by rows (byte ∷ (value ++ slash ∷ rest)) (byte ∷ (value ++ slash ∷ [])) [] seg.0 h.0 seg.1, h.1)
      ]

  -- where a slash comes at once
  pub param_step-empty : (rows : RowsOf K) (rest : List ℕ) → AllStart rows → param_step rows (slash ∷ rest) ≡ (0, [])
  unfolding param_step
  param_step-empty rows rest starts =
      rw (longest-none (slash ∷ []) rows starts refl) refl

  pub seek-drop : (skip : ℕ) (rows : RowsOf K) (path : List ℕ) → seek skip rows path ≡ seek 0 rows (drop skip path)
  unfolding seek
  seek-drop zero rows path = refl
  seek-drop (suc skip) rows [] = refl
  seek-drop (suc skip) rows (byte ∷ path) = seek-drop skip rows path

  param_step-nothing : (path : List ℕ) → (param_step {K = K} [] path).1 ≡ []
  unfolding param_step
  param_step-nothing path = elim (has_slash path) as (λ b. (cond {A = ℕ × RowsOf K} b (0, []) (length path, [])).1 ≡ []) [ true ↦ refl | false ↦ refl ]

  pub seek-empty : (skip : ℕ) (path : List ℕ) → seek {K = K} skip [] path ≡ None
  unfolding seek
  seek-empty skip [] = refl
  seek-empty (suc skip) (byte ∷ path) = seek-empty skip path
  seek-empty zero (byte ∷ path) =
      simp (seek-empty 0 path, param_step-nothing (byte ∷ path), seek-empty ((param_step {K = K} [] (byte ∷ path)).0 - 1) path)

  -- a pattern with its route, and the values of its parameters, that reads a path
  pub record Found (rows : RowsOf K) (path : List ℕ) (key : K) : Type 0 where
    pub pattern : List ℕ
    pub values : List (List ℕ)
    pub held : Holds pattern key rows
    pub reads : Reads pattern path values

  -- what one of three searches found
  pub or_else-some : (first second : Option K) (key : K) → or_else first second ≡ Some key → (first ≡ Some key) ⊎ (second ≡ Some key)
  or_else-some None second key h = inr h
  or_else-some (Some found) second key h = inl h

  pub or_else-none : (first second : Option K) → or_else first second ≡ None → (first ≡ None) × (second ≡ None)
  or_else-none None second h = (refl, h)
  or_else-none (Some found) second h = absurd (cc)

  -- by the byte that comes
  found-byte : (rows : RowsOf K) (byte : ℕ) (path : List ℕ) (key : K) → byte < 256 → Found (step byte rows) path key → Found rows (byte ∷ path) key
  found-byte rows byte path key small found =
      record {
        pattern = byte ∷ found.pattern;
        values = found.values;
        held = step-holds byte rows found.pattern key found.held;
        reads = inl (record { rest = path; path_is = refl; small = small; reads = found.reads });
      }

  -- by a catch-all
  found-tail : (rows : RowsOf K) (byte : ℕ) (path : List ℕ) (key : K) → own (step catch_all_token rows) ≡ Some key → Found rows (byte ∷ path) key
  found-tail rows byte path key found =
      record {
        pattern = catch_all_token ∷ [];
        values = (byte ∷ path) ∷ [];
        held = step-holds catch_all_token rows [] key (own-holds (step catch_all_token rows) key found);
        reads = inr (inr (record { token_is = refl; some = λ e. absurd (cc); last = refl; values_are = refl }));
      }

  -- by a parameter
  found-parameter : (rows : RowsOf K) (value rest : List ℕ) (key : K) → IsSegment value → StartsSegment rest → Found (step param_token rows) rest key → Found rows (value ++ rest) key
  found-parameter rows value rest key is_segment ends found =
      record {
        pattern = param_token ∷ found.pattern;
        values = value ∷ found.values;
        held = step-holds param_token rows found.pattern key found.held;
        reads = inr (inl (record { token_is = refl; value = value; rest = rest; path_is = refl; is_segment = is_segment; ends = ends; others = found.values; values_are = refl; reads = found.reads }));
      }

  -- the patterns that a search goes on with are among those of the rows
  pub found-among : (rows : RowsOf K) (path : List ℕ) (key : K) → AllStart rows → Found (with_suffix (slash ∷ []) rows) path key → Found rows path key
  found-among rows path key starts found =
      record { pattern = found.pattern; values = found.values; held = slash-holds rows found.pattern key starts found.held; reads = found.reads }

  -- a search finds only what reads the rest of the path
  abbrev pub IsSound : List ℕ → K → Type 0
  IsSound path key = (skip : ℕ) (rows : RowsOf K) → AllWhole rows → seek skip rows path ≡ Some key → Found rows (drop skip path) key

  sound-last : (rows : RowsOf K) (byte : ℕ) (value : List ℕ) (key : K) → AllWhole rows → AllByRecursion (λ byte. byte ≢ slash) (byte ∷ value) → IsSound (value ++ []) key → seek ((param_step (step param_token rows) (byte ∷ (value ++ []))).0 - 1) (param_step (step param_token rows) (byte ∷ (value ++ []))).1 (value ++ []) ≡ Some key → Found rows (byte ∷ (value ++ [])) key
  sound-last rows byte value key whole plain sound found =
      let all : value ++ [] ≡ value = append-nil value in
      let stepped : param_step (step param_token rows) (byte ∷ (value ++ [])) ≡ (length (byte ∷ value), step param_token rows) =
      rw all (param_step-last (step param_token rows) (byte ∷ value) (step-start rows whole) plain) in
      let later = sound (length (byte ∷ value) - 1) (step param_token rows) (step-whole param_token rows whole) (rw stepped at found) in
      let count : length (byte ∷ value) - 1 ≡ length value = omega arith in
      let gone : drop (length (byte ∷ value) - 1) (value ++ []) ≡ [] = rw count (drop-append_seam value []) in
      found-parameter rows (byte ∷ value) [] key (λ e. absurd (cc), plain) tt (subst (λ (left : List ℕ). Found (step param_token rows) left key) gone later)

  sound-slash : (rows : RowsOf K) (byte : ℕ) (value rest : List ℕ) (key : K) → AllWhole rows → AllByRecursion (λ byte. byte ≢ slash) (byte ∷ value) → IsSound (value ++ slash ∷ rest) key → seek ((param_step (step param_token rows) (byte ∷ (value ++ slash ∷ rest))).0 - 1) (param_step (step param_token rows) (byte ∷ (value ++ slash ∷ rest))).1 (value ++ slash ∷ rest) ≡ Some key → Found rows (byte ∷ (value ++ slash ∷ rest)) key
  sound-slash rows byte value rest key whole plain sound found =
      elim (param_step-slash (step param_token rows) byte value rest (step-start rows whole) plain) [
        | inl stepped ↦ (
            let later = sound (length value + 1 - 1) (with_suffix (slash ∷ []) (step param_token rows)) (slash-whole (step param_token rows) (step-start rows whole) (step-whole param_token rows whole)) (rw stepped at found) in
            let count : length value + 1 - 1 ≡ length value = omega arith in
            let left : drop (length value + 1 - 1) (value ++ slash ∷ rest) ≡ slash ∷ rest = rw count (drop-append_seam value (slash ∷ rest)) in
            found-parameter rows (byte ∷ value) (slash ∷ rest) key (λ e. absurd (cc), plain) refl
            (found-among (step param_token rows) (slash ∷ rest) key (step-start rows whole) (subst (λ (left : List ℕ). Found (with_suffix (slash ∷ []) (step param_token rows)) left key) left later)))
        | inr stepped ↦ (
            let nothing : seek 0 [] (value ++ slash ∷ rest) ≡ Some key = rw (stepped.0) at found in
            let none : seek {K = K} 0 [] (value ++ slash ∷ rest) ≡ None = seek-empty 0 (value ++ slash ∷ rest) in
            absurd (cc))
      ]

  sound-empty : (rows : RowsOf K) (byte : ℕ) (path : List ℕ) (key : K) → AllWhole rows → byte ≡ slash → seek ((param_step (step param_token rows) (byte ∷ path)).0 - 1) (param_step (step param_token rows) (byte ∷ path)).1 path ≡ Some key → ⊥
  sound-empty rows byte path key whole slashed found =
      let stepped : param_step (step param_token rows) (byte ∷ path) ≡ (0, []) = rw slashed (param_step-empty (step param_token rows) path (step-start rows whole)) in
      let nothing : seek 0 [] path ≡ Some key = rw stepped at found in
      let none : seek {K = K} 0 [] path ≡ None = seek-empty 0 path in
      absurd (cc)

  -- what a parameter of the rows finds, for a path that is split at its first slash
  sound-split : (rows : RowsOf K) (byte : ℕ) (path value rest : List ℕ) (key : K) → AllWhole rows → byte ∷ path ≡ value ++ rest → AllByRecursion (λ byte. byte ≢ slash) value → StartsSegment rest → IsSound path key → seek ((param_step (step param_token rows) (byte ∷ path)).0 - 1) (param_step (step param_token rows) (byte ∷ path)).1 path ≡ Some key → Found rows (byte ∷ path) key
  sound-split rows byte path [] [] key whole e plain starts sound found = absurd (cc)
  sound-split rows byte path [] (next ∷ rest) key whole e plain starts sound found =
      let slashed : byte ≡ slash = cc in
      absurd (sound-empty rows byte path key whole slashed found)
  sound-split rows byte path (first ∷ value) [] key whole e plain starts sound found =
      let same : first ≡ byte = cc in
      let others : value ++ [] ≡ path = cc in
      let P : ℕ → Type 0 = λ b. AllByRecursion (λ byte. byte ≢ slash) (b ∷ value) in
      let Q : List ℕ → Type 0 = λ p. IsSound p key → seek ((param_step (step param_token rows) (byte ∷ p)).0 - 1) (param_step (step param_token rows) (byte ∷ p)).1 p ≡ Some key → Found rows (byte ∷ p) key in
      subst Q others (sound-last rows byte value key whole (subst P same plain)) sound found
  sound-split rows byte path (first ∷ value) (next ∷ rest) key whole e plain starts sound found =
      let same : first ≡ byte = cc in
      let others : value ++ slash ∷ rest ≡ path = ap (λ x. value ++ x ∷ rest) (sym starts) ∙ cc in
      let P : ℕ → Type 0 = λ b. AllByRecursion (λ byte. byte ≢ slash) (b ∷ value) in
      let Q : List ℕ → Type 0 = λ p. IsSound p key → seek ((param_step (step param_token rows) (byte ∷ p)).0 - 1) (param_step (step param_token rows) (byte ∷ p)).1 p ≡ Some key → Found rows (byte ∷ p) key in
      subst Q others (sound-slash rows byte value rest key whole (subst P same plain)) sound found

  found-end : (rows : RowsOf K) (key : K) → own rows ≡ Some key → Found rows [] key
  found-end rows key found = record { pattern = []; values = []; held = own-holds rows key found; reads = (refl, refl) }

  -- the search is sound
  pub seek_sound : (path : List ℕ) (key : K) → AllByRecursion (λ byte. byte < 256) path → IsSound path key
  unfolding seek
  seek_sound [] key small zero rows whole found = found-end rows key found
  seek_sound [] key small (suc skip) rows whole found = found-end rows key found
  seek_sound (byte ∷ path) key small (suc skip) rows whole found = seek_sound path key small.1 skip rows whole found
  seek_sound (byte ∷ path) key small zero rows whole found =
      elim (or_else-some _ _ key found) [
        | inl h ↦ found-byte rows byte path key small.0 (seek_sound path key small.1 0 (step byte rows) (step-whole byte rows whole) h)
        | inr h ↦ elim (or_else-some _ _ key h) [
          | inl g ↦ (
              let parts = split (byte ∷ path) in
              sound-split rows byte path parts.value parts.rest key whole parts.path_is parts.plain parts.ends (seek_sound path key small.1) g)
          | inr g ↦ found-tail rows byte path key g
        ]
      ]

  -- a pattern of the rows is whole
  pub holds-whole : (rows : RowsOf K) (pattern : List ℕ) (key : K) → AllWhole rows → Holds pattern key rows → IsWhole pattern
  holds-whole [] pattern key whole held = absurd held
  holds-whole ((other, first) ∷ rows) pattern key whole (inl h) = subst IsWhole (sym h.0) whole.0
  holds-whole ((other, first) ∷ rows) pattern key whole (inr h) = holds-whole rows pattern key whole.1 h

  -- where a pattern of the rows reads the path, the search finds something
  abbrev pub IsComplete : List ℕ → K → Type 0
  IsComplete pattern key = (rows : RowsOf K) (path : List ℕ) (values : List (List ℕ)) → AllWhole rows → Holds pattern key rows → Reads pattern path values → seek 0 rows path ≡ None → ⊥

  -- the three searches of a path that goes on
  seek-three : (rows : RowsOf K) (byte : ℕ) (path : List ℕ) → seek 0 rows (byte ∷ path) ≡ None → (seek 0 (step byte rows) path ≡ None) × (seek ((param_step (step param_token rows) (byte ∷ path)).0 - 1) (param_step (step param_token rows) (byte ∷ path)).1 path ≡ None) × (own (step catch_all_token rows) ≡ None)
  unfolding seek
  seek-three rows byte path none =
      let first = or_else-none _ _ none in
      let second = or_else-none _ _ first.1 in
      (first.0, second.0, second.1)

  complete-end : (rows : RowsOf K) (key : K) → Holds [] key rows → seek 0 rows [] ≡ None → ⊥
  unfolding seek
  complete-end rows key held none = own-finds rows key held none

  complete-last : (rows : RowsOf K) (byte : ℕ) (value : List ℕ) (key : K) → AllWhole rows → Holds (param_token ∷ []) key rows → AllByRecursion (λ byte. byte ≢ slash) (byte ∷ value) → seek 0 rows (byte ∷ value) ≡ None → ⊥
  complete-last rows byte value key whole held plain none =
      let stepped = param_step-last (step param_token rows) (byte ∷ value) (step-start rows whole) plain in
      let count : length (byte ∷ value) - 1 ≡ length value = omega arith in
      let after : seek (length (byte ∷ value) - 1) (step param_token rows) value ≡ None = rw stepped at (seek-three rows byte value none).1 in
      let end : seek 0 (step param_token rows) (drop (length (byte ∷ value) - 1) value) ≡ None = sym (seek-drop (length (byte ∷ value) - 1) (step param_token rows) value) ∙ after in
      let gone : drop (length (byte ∷ value) - 1) value ≡ [] = rw count (drop-length value) in
      complete-end (step param_token rows) key (step-finds param_token rows [] key held) (rw gone at end)

  complete-slash : (rows : RowsOf K) (byte : ℕ) (value rest pattern : List ℕ) (values : List (List ℕ)) (key : K) → AllWhole rows → Holds (param_token ∷ slash ∷ pattern) key rows → AllByRecursion (λ byte. byte ≢ slash) (byte ∷ value) → Reads (slash ∷ pattern) (slash ∷ rest) values → IsComplete (slash ∷ pattern) key → seek 0 rows (byte ∷ (value ++ slash ∷ rest)) ≡ None → ⊥
  complete-slash rows byte value rest pattern values key whole held plain reads complete none =
      let next = step-finds param_token rows (slash ∷ pattern) key held in
      let starts = step-start rows whole in
      elim (param_step-slash (step param_token rows) byte value rest starts plain) [
        | inl stepped ↦ (
            let count : length value + 1 - 1 ≡ length value = omega arith in
            let after : seek (length value + 1 - 1) (with_suffix (slash ∷ []) (step param_token rows)) (value ++ slash ∷ rest) ≡ None = rw stepped at (seek-three rows byte (value ++ slash ∷ rest) none).1 in
            let end : seek 0 (with_suffix (slash ∷ []) (step param_token rows)) (drop (length value + 1 - 1) (value ++ slash ∷ rest)) ≡ None = sym (seek-drop (length value + 1 - 1) (with_suffix (slash ∷ []) (step param_token rows)) (value ++ slash ∷ rest)) ∙ after in
            let left : drop (length value + 1 - 1) (value ++ slash ∷ rest) ≡ slash ∷ rest = rw count (drop-append_seam value (slash ∷ rest)) in
            complete (with_suffix (slash ∷ []) (step param_token rows)) (slash ∷ rest) values
            (slash-whole (step param_token rows) starts (step-whole param_token rows whole))
            (slash-finds (step param_token rows) slash pattern key starts next) reads (rw left at end))
        | inr stepped ↦ stepped.1 (some_slash (step param_token rows) slash pattern key next)
      ]

  complete-segment : (pattern : List ℕ) (rows : RowsOf K) (value rest : List ℕ) (values : List (List ℕ)) (key : K) → AllWhole rows → Holds (param_token ∷ pattern) key rows → IsSegment value → Reads pattern rest values → IsComplete pattern key → seek 0 rows (value ++ rest) ≡ None → ⊥
  complete-segment pattern rows [] rest values key whole held is_segment reads complete none = is_segment.0 refl
  complete-segment [] rows (byte ∷ value) rest values key whole held is_segment reads complete none =
      let all : (byte ∷ value) ++ rest ≡ byte ∷ value = ap (λ left. (byte ∷ value) ++ left) reads.0 ∙ append-nil (byte ∷ value) in
      complete-last rows byte value key whole held is_segment.1 (rw all at none)
  complete-segment (token ∷ pattern) rows (byte ∷ value) rest values key whole held is_segment reads complete none =
      let shape = holds-whole rows (param_token ∷ token ∷ pattern) key whole held in
      let slashed : token ≡ slash = shape.0 refl in
      let P : ℕ → Type 0 = λ t. Holds (param_token ∷ t ∷ pattern) key rows → Reads (t ∷ pattern) rest values → IsComplete (t ∷ pattern) key → ⊥ in
      let Q : List ℕ → Type 0 = λ left. Reads (slash ∷ pattern) left values → seek 0 rows (byte ∷ (value ++ left)) ≡ None → ⊥ in
      subst P (sym slashed) (λ held reads complete.
      let first = slash-first pattern rest values reads in
      subst Q (sym first.1) (λ reads none. complete-slash rows byte value first.0 pattern values key whole held is_segment.1 reads complete none) reads none)
      held reads complete

  -- the search is complete
  pub seek_complete : (pattern : List ℕ) (key : K) → IsComplete pattern key
  seek_complete [] key rows path values whole held reads none = complete-end rows key held (rw (reads.0) at none)
  seek_complete (token ∷ pattern) key rows path values whole held (inl r) none =
      let three = seek-three rows token r.rest (rw (r.path_is) at none) in
      seek_complete pattern key (step token rows) r.rest values (step-whole token rows whole) (step-finds token rows pattern key held) r.reads three.0
  seek_complete (token ∷ pattern) key rows path values whole held (inr (inl r)) none =
      let parameter : Holds (param_token ∷ pattern) key rows = subst (λ (t : ℕ). Holds (t ∷ pattern) key rows) r.token_is held in
      complete-segment pattern rows r.value r.rest r.others key whole parameter r.is_segment r.reads (seek_complete pattern key) (rw (r.path_is) at none)
  seek_complete (token ∷ pattern) key rows path values whole held (inr (inr r)) none =
      let tail : Holds (catch_all_token ∷ []) key rows = subst (λ (t : ℕ). Holds (t ∷ []) key rows) r.token_is (subst (λ (p : List ℕ). Holds (token ∷ p) key rows) r.last held) in
      complete-tail rows path key tail r.some none
    where
      complete-tail : (rows : RowsOf K) (path : List ℕ) (key : K) → Holds (catch_all_token ∷ []) key rows → path ≢ [] → seek 0 rows path ≡ None → ⊥
      complete-tail rows [] key held some none = some refl
      complete-tail rows (byte ∷ path) key held some none =
          own-finds (step catch_all_token rows) key (step-finds catch_all_token rows [] key held) (seek-three rows byte path none).2
