-- Writes after writes, and what a key has after one more.
use Rattle.std.proofs.Common.{◌≡◌, ◌+◌, ◌++◌, ◌∷◌, [], ℕ, Bool, true, false, List, Option, Some, None, refl, ap, ◌∙◌, arith, cond, bytes_eq, add_assoc}
use Rattle.std.specs.FinMap.{get-insert, get-remove}
use Rattle.std.specs.Cmp.Lexicographic.{nat_list_cmp_total}
use Rattle.std.proofs.lemmas.Cmp.{nat_list_eq_equiv}
use Rattle.std.proofs.lemmas.Map.Text.{is_eq-slice_cmp}
use Rattle.keeper_core.specs.Rows.{Rows, Row, row_at, is_live}
use Rattle.keeper_core.specs.Changes.{after_change, after_changes}
use Rattle.keeper_core.specs.declared.changes.Change.{Change}
use Rattle.keeper_core.specs.declared.changes.Change.TheVariants.{Put, Remove}
use Rattle.state_core.specs.Current.{live_row, version_of}
use Rattle.state_core.specs.Write.{Write, upsert, removal, upserts, numbered, rows_after}
use Rattle.state_core.specs.Judged.{version_in}

pub upserts-append : (a b : List Write) → upserts (a ++ b) ≡ upserts a + upserts b
upserts-append [] b = omega arith
upserts-append (upsert key value until ∷ a) b = omega (arith, upserts-append a b)
upserts-append (removal key ∷ a) b = upserts-append a b

pub numbered-append : (next : ℕ) (a b : List Write) → numbered next (a ++ b) ≡ numbered next a ++ numbered (next + upserts a) b
numbered-append next [] b = ap (λ n. numbered n b) (omega arith)
numbered-append next (upsert key value until ∷ a) b =
    ap (λ xs. Put key value next until ∷ xs) (numbered-append (next + 1) a b ∙ ap (λ n. numbered (next + 1) a ++ numbered n b) (add_assoc next 1 (upserts a)))
numbered-append next (removal key ∷ a) b = ap (λ xs. Remove key ∷ xs) (numbered-append next a b)

pub after_changes-append : (rows : Rows) (a b : List Change) → after_changes rows (a ++ b) ≡ after_changes (after_changes rows a) b
after_changes-append rows [] b = refl
after_changes-append rows (change ∷ a) b = after_changes-append (after_change rows change) a b

-- writes after writes
pub rows_after-append : (rows : Rows) (next : ℕ) (a b : List Write) → rows_after rows next (a ++ b) ≡ rows_after (rows_after rows next a) (next + upserts a) b
rows_after-append rows next a b = ap (after_changes rows) (numbered-append next a b) ∙ after_changes-append rows (numbered next a) (numbered (next + upserts a) b)

-- what a key has after a put and after a removal
pub row_at-put : (rows : Rows) (key : List ℕ) (row : Row) (q : List ℕ) → row_at (after_change rows (Put key row.value row.version row.until)) q ≡ cond (bytes_eq key q) (Some row) (row_at rows q)
row_at-put rows key row q = get-insert nat_list_cmp_total rows key row q ∙ ap (λ b. cond b (Some row) (row_at rows q)) (is_eq-slice_cmp q key ∙ nat_list_eq_equiv.symm q key)

pub row_at-remove : (rows : Rows) (key q : List ℕ) → row_at (after_change rows (Remove key)) q ≡ cond (bytes_eq key q) None (row_at rows q)
row_at-remove rows key q = get-remove nat_list_cmp_total rows key q ∙ ap (λ b. cond b None (row_at rows q)) (is_eq-slice_cmp q key ∙ nat_list_eq_equiv.symm q key)

version_of-cond : (moment : ℕ) (b : Bool) (x y : Option Row) → version_of (live_row moment (cond b x y)) ≡ cond b (version_of (live_row moment x)) (version_of (live_row moment y))
version_of-cond moment true x y = refl
version_of-cond moment false x y = refl

version_of-live : (moment : ℕ) (row : Row) → is_live moment row ≡ true → version_of (live_row moment (Some row)) ≡ Some row.version
version_of-live moment row live = ap (λ b. version_of (cond b (Some row) None)) live

-- the version that a key has after one more upsert of a row that is live, and after one more removal
pub version_in-upsert : (rows : Rows) (next moment : ℕ) (writes : List Write) (key value : List ℕ) (until : ℕ) (q : List ℕ)
    → is_live moment (record { value = value; version = next + upserts writes; until = until }) ≡ true
    → version_in rows next moment (writes ++ upsert key value until ∷ []) q ≡ cond (bytes_eq key q) (Some (next + upserts writes)) (version_in rows next moment writes q)
version_in-upsert rows next moment writes key value until q live =
    let row : Row = record { value = value; version = next + upserts writes; until = until } in
    ap (λ r. version_of (live_row moment (row_at r q))) (rows_after-append rows next writes (upsert key value until ∷ []))
    ∙ ap (λ o. version_of (live_row moment o)) (row_at-put (rows_after rows next writes) key row q)
    ∙ version_of-cond moment (bytes_eq key q) (Some row) _
    ∙ ap (λ o. cond (bytes_eq key q) o (version_in rows next moment writes q)) (version_of-live moment row live)

pub version_in-removal : (rows : Rows) (next moment : ℕ) (writes : List Write) (key q : List ℕ)
    → version_in rows next moment (writes ++ removal key ∷ []) q ≡ cond (bytes_eq key q) None (version_in rows next moment writes q)
version_in-removal rows next moment writes key q =
    ap (λ r. version_of (live_row moment (row_at r q))) (rows_after-append rows next writes (removal key ∷ []))
    ∙ ap (λ o. version_of (live_row moment o)) (row_at-remove (rows_after rows next writes) key q)
    ∙ version_of-cond moment (bytes_eq key q) None _
