-- What the rows of a parse say of each name, once flags that were not used have their default.
use Rattle.std.proofs.Common.{◌≡◌, ◌≢◌, ◌∙◌, inl, inr, Bool, true, false, cond, true≢false, refl, sym, ap, subst, List, [], ◌∷◌, ◌++◌, map, fold, Option, Some, None, Contains, bytes_eq, codes, ◌||◌, find, is_some}
use Rattle.std.proofs.lemmas.Slice.Eq.{bytes_eq-Decides}
use Rattle.std.specs.List.{list_any}
use Rattle.clap.specs.Walk.{Row, Rule, Text, first_of, has_row, more_values, one_of, reading_by, row_text, with_default}
use Rattle.clap.specs.declared.parser.matches.ValueSource.TheVariants.{DefaultValue}
use Rattle.sidecar_words.specs.Spelling.{Pair, Spells, stands, value_of}
use Rattle.sidecar_words.specs.Found.{IsRead}
use Rattle.sidecar_words.proofs.Rules.{option_rule, flag_rule, rules, at_front, in_none, further, front, itself}
use Rattle.sidecar_words.proofs.Settling.{row, at_fresh}

-- ---- searches

some≢none : {X : Type 0} (x : X) → Some x ≡ None → ⊥
some≢none x e = true≢false (ap (λ o. is_some o) e)

module _ {X : Type 0} (test : X → Bool) where
  find_kept : (xs more : List X) (x : X) → find test xs ≡ Some x → find test (xs ++ more) ≡ Some x
  find_kept [] more x found = absurd (some≢none x (sym found))
  find_kept (y ∷ xs) more x found = go (test y) found (find_kept xs more x)
    where
      go : (b : Bool) → cond b (Some y) (find test xs) ≡ Some x → (find test xs ≡ Some x → find test (xs ++ more) ≡ Some x) → cond b (Some y) (find test (xs ++ more)) ≡ Some x
      go true found next = found
      go false found next = next found

  find_behind : (xs more : List X) → find test xs ≡ None → find test (xs ++ more) ≡ find test more
  find_behind [] more none = refl
  find_behind (y ∷ xs) more none = go (test y) none (find_behind xs more)
    where
      go : (b : Bool) → cond b (Some y) (find test xs) ≡ None → (find test xs ≡ None → find test (xs ++ more) ≡ find test more)
          → cond b (Some y) (find test (xs ++ more)) ≡ find test more
      go true none next = absurd (some≢none y none)
      go false none next = next none

  none_any : (xs : List X) → find test xs ≡ None → list_any test xs ≡ false
  none_any [] none = refl
  none_any (y ∷ xs) none = go (test y) none (none_any xs)
    where
      go : (b : Bool) → cond b (Some y) (find test xs) ≡ None → (find test xs ≡ None → list_any test xs ≡ false) → (b || list_any test xs) ≡ false
      go true none next = absurd (some≢none y none)
      go false none next = next none

-- ---- the defaults

abbrev row_of_name : Text → Row → Bool
row_of_name id r = bytes_eq r.id id

abbrev default_row : Text → Row
default_row name = record { id = name; values = codes "false" ∷ []; count = None; source = Some DefaultValue; reading = reading_by (flag_rule []) }

option_default : (rows : List Row) (name : Text) → with_default rows (option_rule name) ≡ rows
option_default rows name = go (has_row name rows)
  where
    go : (b : Bool) → cond b rows rows ≡ rows
    go true = refl
    go false = refl

no_option_default : (os : List Text) (rows : List Row) (more : List Rule) → fold with_default rows (map option_rule os ++ more) ≡ fold with_default rows more
no_option_default [] rows more = refl
no_option_default (name ∷ os) rows more = ap (λ (rs : List Row). fold with_default rs (map option_rule os ++ more)) (option_default rows name) ∙ no_option_default os rows more

flag_kept : (rows : List Row) (name : Text) → has_row name rows ≡ true → with_default rows (flag_rule name) ≡ rows
flag_kept rows name has = rw has refl

flag_new : (rows : List Row) (name : Text) → has_row name rows ≡ false → with_default rows (flag_rule name) ≡ rows ++ default_row name ∷ []
flag_new rows name none = rw none (at_fresh name (more_values DefaultValue (codes "false" ∷ [])) (default_row name ∷ []) rows none)

-- a row that stands is found again
kept : (fs : List Text) (rows : List Row) (id : Text) (r : Row) → find (row_of_name id) rows ≡ Some r → find (row_of_name id) (fold with_default rows (map flag_rule fs)) ≡ Some r
kept [] rows id r found = found
kept (name ∷ fs) rows id r found = kept fs (with_default rows (flag_rule name)) id r (now (has_row name rows) refl)
  where
    now : (b : Bool) → has_row name rows ≡ b → find (row_of_name id) (with_default rows (flag_rule name)) ≡ Some r
    now true has = rw (flag_kept rows name has) found
    now false none = rw (flag_new rows name none) (find_kept (row_of_name id) rows (default_row name ∷ []) r found)

-- a name that is no flag gets no row
other_row : (rows : List Row) (name id : Text) → find (row_of_name id) rows ≡ None → bytes_eq name id ≡ false → find (row_of_name id) (with_default rows (flag_rule name)) ≡ None
other_row rows name id none other = go (has_row name rows) refl
  where
    go : (b : Bool) → has_row name rows ≡ b → find (row_of_name id) (with_default rows (flag_rule name)) ≡ None
    go true has = rw (flag_kept rows name has) none
    go false no_row = rw (flag_new rows name no_row) (find_behind (row_of_name id) rows (default_row name ∷ []) none ∙ (rw other refl))

differs : (one other : Text) → one ≢ other → bytes_eq one other ≡ false
differs one other different = go (bytes_eq one other) refl
  where
    go : (b : Bool) → bytes_eq one other ≡ b → bytes_eq one other ≡ false
    go true same = absurd (different ((bytes_eq-Decides one other).0 same))
    go false is = is

absent : (fs : List Text) (rows : List Row) (id : Text) → (Contains fs id → ⊥) → find (row_of_name id) rows ≡ None → find (row_of_name id) (fold with_default rows (map flag_rule fs)) ≡ None
absent [] rows id no_flag none = none
absent (name ∷ fs) rows id no_flag none =
    absent fs (with_default rows (flag_rule name)) id (λ c. no_flag (further name fs id c))
    (other_row rows name id none (differs name id (λ same. no_flag (front name fs id same))))

-- a flag that was not used gets its default
given : (fs : List Text) (rows : List Row) (id : Text) → Contains fs id → find (row_of_name id) rows ≡ None
    → find (row_of_name id) (fold with_default rows (map flag_rule fs)) ≡ Some (default_row id)
given [] rows id is none = absurd (in_none id is)
given (name ∷ fs) rows id is none = go (bytes_eq name id) refl (given fs (with_default rows (flag_rule name)) id)
  where
    go : (b : Bool) → bytes_eq name id ≡ b
        → (Contains fs id → find (row_of_name id) (with_default rows (flag_rule name)) ≡ None → find (row_of_name id) (fold with_default rows (map flag_rule (name ∷ fs))) ≡ Some (default_row id))
        → find (row_of_name id) (fold with_default rows (map flag_rule (name ∷ fs))) ≡ Some (default_row id)
    go true same next =
        let is_name : name ≡ id = (bytes_eq-Decides name id).0 same in
        rw is_name (kept fs (with_default rows (flag_rule id)) id (default_row id)
        (rw (flag_new rows id (none_any (row_of_name id) rows none)) (find_behind (row_of_name id) rows (default_row id ∷ []) none ∙ (rw (itself id) refl))))
    go false other next = next (elim (at_front name fs id is) [
      | inl same ↦ absurd (true≢false (sym ((bytes_eq-Decides name id).1 same) ∙ other))
      | inr later ↦ later
    ]) (other_row rows name id none other)

-- ---- what the rows say

module _ (os fs : List Text) (disjoint : (name : Text) → Contains os name → Contains fs name → ⊥) where
  -- the rows of pairs, once all defaults are there
  abbrev pub all_rows : List Pair → List Row
  all_rows pairs = fold with_default (map row pairs) (rules os fs)

  value_row : (pairs : List Pair) (words : List Text) → Spells os fs words pairs → (id : Text) → Contains os id → first_of id (map row pairs) ≡ value_of pairs id
  value_row [] words spelled id is = refl
  value_row ((name, None) ∷ pairs) words (first, rest, is_words, (is_flag, is_first), spelled) id is = go (bytes_eq name id) refl (value_row pairs rest spelled id is)
    where
      go : (b : Bool) → bytes_eq name id ≡ b → first_of id (map row pairs) ≡ value_of pairs id → first_of id (map row ((name, None) ∷ pairs)) ≡ value_of ((name, None) ∷ pairs) id
      go true same next = absurd (disjoint name (subst (Contains os) (sym ((bytes_eq-Decides name id).0 same)) is) is_flag)
      go false other next = rw other next
  value_row ((name, Some value) ∷ pairs) words (first, rest, is_words, writes, spelled) id is = go (bytes_eq name id) refl (value_row pairs rest spelled id is)
    where
      go : (b : Bool) → bytes_eq name id ≡ b → first_of id (map row pairs) ≡ value_of pairs id → first_of id (map row ((name, Some value) ∷ pairs)) ≡ value_of ((name, Some value) ∷ pairs) id
      go true same next = rw same refl
      go false other next = rw other next

  pub value_is : (pairs : List Pair) (words : List Text) → Spells os fs words pairs → (id : Text) → Contains os id → first_of id (all_rows pairs) ≡ value_of pairs id
  value_is pairs words spelled id is = ap look (no_option_default os (map row pairs) (map flag_rule fs)) ∙ go (find (row_of_name id) (map row pairs)) refl ∙ value_row pairs words spelled id is
    where
      look : List Row → Option Text
      look rows = first_of id rows

      go : (o : Option Row) → find (row_of_name id) (map row pairs) ≡ o → first_of id (fold with_default (map row pairs) (map flag_rule fs)) ≡ first_of id (map row pairs)
      go (Some r) found = rw (kept fs (map row pairs) id r found, found) refl
      go None none = rw (absent fs (map row pairs) id (disjoint id is) none, none) refl

  -- the row of a flag that stands
  record FlagRow (pairs : List Pair) (id : Text) : Type 0 where
    r : Row
    found : find (row_of_name id) (map row pairs) ≡ Some r
    text : row_text r ≡ Some (codes "true")

  flag_row : (pairs : List Pair) (words : List Text) → Spells os fs words pairs → (id : Text) → Contains fs id → stands pairs id ≡ true → FlagRow pairs id
  flag_row [] words spelled id is on = absurd (true≢false (sym on))
  flag_row ((name, None) ∷ pairs) words (first, rest, is_words, writes, spelled) id is on = go (bytes_eq name id) refl on (flag_row pairs rest spelled id is)
    where
      go : (b : Bool) → bytes_eq name id ≡ b → (b || stands pairs id) ≡ true → (stands pairs id ≡ true → FlagRow pairs id) → FlagRow ((name, None) ∷ pairs) id
      go true same on next = record { r = row (name, None); found = rw same refl; text = refl }
      go false other on next = let later = next on in record { r = later.r; found = rw other later.found; text = later.text }
  flag_row ((name, Some value) ∷ pairs) words (first, rest, is_words, (is_option, writes), spelled) id is on = go (bytes_eq name id) refl on (flag_row pairs rest spelled id is)
    where
      go : (b : Bool) → bytes_eq name id ≡ b → (b || stands pairs id) ≡ true → (stands pairs id ≡ true → FlagRow pairs id) → FlagRow ((name, Some value) ∷ pairs) id
      go true same on next = absurd (disjoint name is_option (subst (Contains fs) (sym ((bytes_eq-Decides name id).0 same)) is))
      go false other on next = let later = next on in record { r = later.r; found = rw other later.found; text = later.text }

  no_flag_row : (pairs : List Pair) (id : Text) → stands pairs id ≡ false → find (row_of_name id) (map row pairs) ≡ None
  no_flag_row [] id off = refl
  no_flag_row (pair ∷ pairs) id off = go (bytes_eq pair.0 id) refl off (no_flag_row pairs id)
    where
      go : (b : Bool) → bytes_eq pair.0 id ≡ b → (b || stands pairs id) ≡ false → (stands pairs id ≡ false → find (row_of_name id) (map row pairs) ≡ None)
          → find (row_of_name id) (map row (pair ∷ pairs)) ≡ None
      go true same off next = absurd (true≢false off)
      go false other off next = rw other (next off)

  pub flag_is : (pairs : List Pair) (words : List Text) → Spells os fs words pairs → (id : Text) → Contains fs id → (value : Bool) → IsRead (one_of id (all_rows pairs)) value
      → value ≡ stands pairs id
  flag_is pairs words spelled id is value read = go (stands pairs id) refl
    where
      shown : (r : Row) → find (row_of_name id) (fold with_default (map row pairs) (map flag_rule fs)) ≡ Some r → one_of id (all_rows pairs) ≡ row_text r
      shown r found = ap (λ (rs : List Row). one_of id rs) (no_option_default os (map row pairs) (map flag_rule fs)) ∙ (rw found refl)

      go : (b : Bool) → stands pairs id ≡ b → value ≡ stands pairs id
      go true on =
          let r = flag_row pairs words spelled id is on in
          read.yes (shown r.r (kept fs (map row pairs) id r.r r.found) ∙ r.text) ∙ sym on
      go false off = read.no (shown (default_row id) (given fs (map row pairs) id is (no_flag_row pairs id off))) ∙ sym off
