-- What keys take after changes, by the last change of each.
use Rattle.std.proofs.Common.{◌≡◌, ℕ, ◌+◌, ◌-◌, ◌≤◌, Bool, true, false, cond, List, [], ◌∷◌, ◌++◌, Option, Some, None, Bor, refl, sym, ap, ◌∙◌, arith}
use Rattle.std.specs.Prelude.{unwrap_or}
use Rattle.std.specs.BTreeMap.{BTreeMap, get as got, Updates}
use Rattle.std.specs.Ordering.{is_eq, eq_by_cmp}
use Rattle.std.specs.Cmp.{eq_by_cmp_equiv}
use Rattle.std.specs.declared.cmp.Ordering.{Ordering}
use Rattle.std.specs.declared.cmp.Ordering.TheVariants.{Less, Equal, Greater}
use Rattle.std.specs.FinMap.{get-insert, get-remove}
use Rattle.keeper_core.specs.Rows.{Row, Rows, byte_order, row_at, entry_bytes, bytes_in}
use Rattle.keeper_core.specs.Changes.{after_change, after_changes}
use Rattle.keeper_core.specs.Growth.{found_bytes, bytes_at, bytes_after, bytes_put, key_of}
use Rattle.keeper_core.specs.declared.changes.Change.{Change}
use Rattle.keeper_core.specs.declared.changes.Change.TheVariants.{Put, Remove}
use Rattle.keeper_core.proofs.Sorted.{Key, total, antisymmetric}
use Rattle.keeper_core.proofs.Table.{over_cond}
use Rattle.keeper_core.proofs.Sizes.{bytes_in-insert, bytes_in-remove}

-- the order of borrowed keys
abbrev pub borrowed_order : Bor Key → Bor Key → Ordering
borrowed_order a b = byte_order a.now b.now

equal : (o : Ordering) → is_eq o ≡ true → o ≡ Equal
equal Less e = absurd (Rattle.std.proofs.lemmas.Bool.false≢true e)
equal Equal e = refl
equal Greater e = absurd (Rattle.std.proofs.lemmas.Bool.false≢true e)

tied : (a b : Key) → eq_by_cmp byte_order a b ≡ true → a ≡ b
tied a b e = antisymmetric a b (equal _ e)

-- a key that ties takes what the other takes
found_at : (b : Bool) (k q : Key) (row : Row) (found : Option Row) → eq_by_cmp byte_order k q ≡ b → found_bytes q (cond b (Some row) found) ≡ cond b (entry_bytes (k, row)) (found_bytes q found)
found_at true k q row found e = ap (λ key. entry_bytes (key, row)) (sym (tied k q e))
found_at false k q row found e = refl

bytes_at-after_change : (rows : Rows) (change : Change) (q : Key) → bytes_at (after_change rows change) q ≡ cond (eq_by_cmp byte_order (key_of change) q) (bytes_after change) (bytes_at rows q)
bytes_at-after_change rows (Put key value version until) q =
    let row : Row = record { value = value; version = version; until = until } in
    ap (found_bytes q) (get-insert total rows key row q ∙ ap (λ b. cond b (Some row) (row_at rows q)) ((eq_by_cmp_equiv total).symm q key)) ∙ found_at _ key q row (row_at rows q) refl
bytes_at-after_change rows (Remove key) q =
    ap (found_bytes q) (get-remove total rows key q ∙ ap (λ b. cond b None (row_at rows q)) ((eq_by_cmp_equiv total).symm q key)) ∙ sym (over_cond (found_bytes q) _ None (row_at rows q))

pub bytes_in-after_change : (rows : Rows) (change : Change) → bytes_in (after_change rows change) + bytes_at rows (key_of change) ≡ bytes_in rows + bytes_after change
bytes_in-after_change rows (Put key value version until) = bytes_in-insert rows key (record { value = value; version = version; until = until })
bytes_in-after_change rows (Remove key) = omega (arith, bytes_in-remove rows key)

pub bytes_at-most : (rows : Rows) (key : Key) → bytes_at rows key ≤ bytes_in rows
bytes_at-most rows key = omega (arith, bytes_in-remove rows key)

-- one more change puts what its key takes after it
pub bytes_put-append : (changes : List Change) (change : Change) → bytes_put (changes ++ change ∷ []) ≡ bytes_put changes + bytes_after change
bytes_put-append [] change = omega arith
bytes_put-append (other ∷ changes) change = omega (arith, bytes_put-append changes change)

-- rows take at most what they took before and what changes put
pub bytes_in-most : (rows : Rows) (changes : List Change) → bytes_in (after_changes rows changes) ≤ bytes_in rows + bytes_put changes
bytes_in-most rows [] = omega arith
bytes_in-most rows (change ∷ changes) = omega (arith, bytes_in-most (after_change rows change) changes, bytes_in-after_change rows change)

pub after_changes-append : (rows : Rows) (changes : List Change) (change : Change) → after_changes rows (changes ++ change ∷ []) ≡ after_change (after_changes rows changes) change
after_changes-append rows [] change = refl
after_changes-append rows (other ∷ changes) change = after_changes-append (after_change rows other) changes change

-- what is taken, where it is noted, and else by the rows from before, is what the rows take now
pub record Notes (taken : BTreeMap (Bor Key) ℕ) (rows now : Rows) : Type 0 where
  pub each : (q : Bor Key) → unwrap_or (got borrowed_order taken q) (bytes_at rows q.now) ≡ bytes_at now q.now

pub notes_more : (taken new : BTreeMap (Bor Key) ℕ) (rows now : Rows) (change : Change) (key : Bor Key) (after : ℕ) → Notes taken rows now → key.now ≡ key_of change → after ≡ bytes_after change → Updates borrowed_order taken new key (Some after) → Notes new rows (after_change now change)
notes_more taken new rows now change key after notes is exact updates = record {
  each = λ q.
      ap (λ found. unwrap_or found (bytes_at rows q.now)) (updates.0 q)
      ∙ sym (over_cond (λ found. unwrap_or found (bytes_at rows q.now)) (eq_by_cmp borrowed_order key q) (Some after) _)
      ∙ ap (cond (eq_by_cmp borrowed_order key q) after) (notes.each q)
      ∙ ap (λ k. cond (eq_by_cmp byte_order k q.now) after (bytes_at now q.now)) is
      ∙ ap (λ n. cond (eq_by_cmp byte_order (key_of change) q.now) n (bytes_at now q.now)) exact
      ∙ sym (bytes_at-after_change now change q.now);
}

-- what a key takes is a part of what all take
pub noted_most : (taken : BTreeMap (Bor Key) ℕ) (rows now : Rows) (key : Bor Key) (before : ℕ) → Notes taken rows now → before ≡ unwrap_or (got borrowed_order taken key) (bytes_at rows key.now) → before ≤ bytes_in now
noted_most taken rows now key before notes is = omega (arith, bytes_at-most now key.now, is, notes.each key)

pub bytes_more : (taken : BTreeMap (Bor Key) ℕ) (rows now : Rows) (change : Change) (key : Bor Key) (before after : ℕ) → Notes taken rows now → key.now ≡ key_of change → after ≡ bytes_after change → before ≡ unwrap_or (got borrowed_order taken key) (bytes_at rows key.now) → bytes_in now - before + after ≡ bytes_in (after_change now change)
bytes_more taken rows now change key before after notes is exact was =
    let here : before ≡ bytes_at now (key_of change) = was ∙ notes.each key ∙ ap (bytes_at now) is in
    omega (arith, here, exact, bytes_in-after_change now change, bytes_at-most now (key_of change))
