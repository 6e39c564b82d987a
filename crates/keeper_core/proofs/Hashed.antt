-- The rows of a hash map's entries, by what a look-up finds.
use Rattle.std.proofs.Common.{◌≡◌, ℕ, Bool, true, false, cond, List, [], ◌∷◌, Option, Some, None, refl, sym, ap, ◌∙◌, subst}
use Rattle.std.specs.Prelude.{Vec, option_map}
use Rattle.std.specs.Ordering.{eq_by_cmp}
use Rattle.std.specs.Str.{bytes_eq}
use Rattle.std.specs.Cmp.Lexicographic.{bytes_decides, nat_list_eq_equiv, texts_ties}
use Rattle.std.specs.declared.alloc.Global.{Global}
use Rattle.std.specs.FinMap.{get, insert, remove, get-empty, get-insert, get-remove, same_map}
use Rattle.std.specs.Map.{lookup, IsKeyTest, AreApart, KeepsOthers}
use Rattle.keeper_core.specs.Rows.{byte_order}
use Rattle.keeper_core.specs.Table.{row_of, rows_of}
use Rattle.keeper_core.specs.declared.prepared.StoredRow.{StoredRow}
use Rattle.keeper_core.proofs.Sorted.{Key, total, antisymmetric}

-- an entry of the hash map
abbrev pub Stored : Type 0
Stored = Vec ℕ Global × StoredRow

-- what a look-up of a key tests
abbrev pub has_bytes : Key → Vec ℕ Global → Bool
has_bytes key k = bytes_eq key k.items

-- whether two keys are one
abbrev pub same_bytes : Vec ℕ Global → Vec ℕ Global → Bool
same_bytes a b = bytes_eq a.items b.items

mapped : (b : Bool) (row : StoredRow) (found : Option StoredRow) → cond b (Some (row_of row)) (option_map row_of found) ≡ option_map row_of (cond b (Some row) found)
mapped true row found = refl
mapped false row found = refl

pub get-rows_of : (es : List Stored) (q : Key) → get (rows_of es) q ≡ option_map row_of (lookup (has_bytes q) es)
get-rows_of [] q = get-empty byte_order q
get-rows_of (e ∷ es) q =
    get-insert total (rows_of es) e.0.items (row_of e.1) q
    ∙ ap (λ b. cond b (Some (row_of e.1)) (get (rows_of es) q)) (sym (texts_ties q e.0.items))
    ∙ ap (cond (has_bytes q e.0) (Some (row_of e.1))) (get-rows_of es q)
    ∙ mapped (has_bytes q e.0) e.1 (lookup (has_bytes q) es)

pub row_at-found : (es : List Stored) (q : Key) (row : StoredRow) → lookup (has_bytes q) es ≡ Some row → get (rows_of es) q ≡ Some (row_of row)
row_at-found es q row found = get-rows_of es q ∙ ap (option_map row_of) found

pub row_at-missing : (es : List Stored) (q : Key) → lookup (has_bytes q) es ≡ None → get (rows_of es) q ≡ None
row_at-missing es q missing = get-rows_of es q ∙ ap (option_map row_of) missing

-- a change of one key

apart : (key q k : Key) → bytes_eq key q ≡ false → bytes_eq key k ≡ true → bytes_eq q k ≡ false
apart key q k n y = nat_list_eq_equiv.symm q k ∙ sym (nat_list_eq_equiv.congr key k q y) ∙ n

others : (test : Vec ℕ Global → Bool) (old new : List Stored) → KeepsOthers same_bytes test old new → (other : Vec ℕ Global → Bool) → IsKeyTest same_bytes other → AreApart test other → lookup other new ≡ lookup other old
unfolding KeepsOthers
others test old new h = h

found-changed : (old new : List Stored) (key : Key) (w : Option StoredRow) → lookup (has_bytes key) new ≡ w → KeepsOthers same_bytes (has_bytes key) old new
    → (q : Key) → lookup (has_bytes q) new ≡ cond (bytes_eq q key) w (lookup (has_bytes q) old)
found-changed old new key w here other q =
    elim (bytes_eq key q) as (λ b. bytes_eq key q ≡ b → lookup (has_bytes q) new ≡ cond (bytes_eq q key) w (lookup (has_bytes q) old)) [
      | true ↦ λ e.
          subst (λ k. lookup (has_bytes k) new ≡ cond (bytes_eq k key) w (lookup (has_bytes k) old)) ((bytes_decides key q).0 e)
          (here ∙ ap (λ b. cond b w (lookup (has_bytes key) old)) (sym (nat_list_eq_equiv.refl key)))
      | false ↦ λ e.
          others _ old new other (has_bytes q) (λ x y. nat_list_eq_equiv.congr q x.items y.items) (λ k. apart key q k.items e)
          ∙ ap (λ b. cond b w (lookup (has_bytes q) old)) (sym (nat_list_eq_equiv.symm q key ∙ e))
    ] refl

pub rows_of-put : (old new : List Stored) (key : Key) (row : StoredRow) → lookup (has_bytes key) new ≡ Some row → KeepsOthers same_bytes (has_bytes key) old new
    → rows_of new ≡ insert (rows_of old) key (row_of row)
rows_of-put old new key row here other =
    same_map total antisymmetric _ _ (λ q.
    get-rows_of new q
    ∙ ap (option_map row_of) (found-changed old new key (Some row) here other q)
    ∙ sym (mapped (bytes_eq q key) row (lookup (has_bytes q) old))
    ∙ ap (λ b. cond b (Some (row_of row)) (option_map row_of (lookup (has_bytes q) old))) (texts_ties q key)
    ∙ ap (cond (eq_by_cmp byte_order q key) (Some (row_of row))) (sym (get-rows_of old q))
    ∙ sym (get-insert total (rows_of old) key (row_of row) q))

unmapped : (b : Bool) (found : Option StoredRow) → option_map row_of (cond b None found) ≡ cond b None (option_map row_of found)
unmapped true found = refl
unmapped false found = refl

pub rows_of-without : (old new : List Stored) (key : Key) → lookup (has_bytes key) new ≡ None → KeepsOthers same_bytes (has_bytes key) old new
    → rows_of new ≡ remove (rows_of old) key
rows_of-without old new key here other =
    same_map total antisymmetric _ _ (λ q.
    get-rows_of new q
    ∙ ap (option_map row_of) (found-changed old new key None here other q)
    ∙ unmapped (bytes_eq q key) (lookup (has_bytes q) old)
    ∙ ap (λ b. cond b None (option_map row_of (lookup (has_bytes q) old))) (texts_ties q key)
    ∙ ap (cond (eq_by_cmp byte_order q key) None) (sym (get-rows_of old q))
    ∙ sym (get-remove total (rows_of old) key q))

-- another order

found_key : (q : Key) (es : List Stored) (row : StoredRow) → lookup (has_bytes q) es ≡ Some row → (k : Vec ℕ Global) × (k.items ≡ q)
found_key q [] row e = absurd (cc)
found_key q (x ∷ es) row e =
    elim (has_bytes q x.0) as (λ b. has_bytes q x.0 ≡ b → cond b (Some x.1) (lookup (has_bytes q) es) ≡ Some row → (k : Vec ℕ Global) × (k.items ≡ q)) [
      | true ↦ λ t f. (x.0, sym ((bytes_decides q x.0.items).0 t))
      | false ↦ λ t f. found_key q es row f
    ] refl e

-- where look-ups by keys find the same, those by bytes do
found-same : (old new : List Stored) → ((k : Vec ℕ Global) → lookup (same_bytes k) new ≡ lookup (same_bytes k) old) → (q : Key) → lookup (has_bytes q) new ≡ lookup (has_bytes q) old
found-same old new same q =
    let at : (k : Vec ℕ Global) → k.items ≡ q → lookup (has_bytes q) new ≡ lookup (has_bytes q) old = λ k is. subst (λ l. lookup (has_bytes l) new ≡ lookup (has_bytes l) old) is (same k) in
    elim (lookup (has_bytes q) new) as (λ (found : Option StoredRow). lookup (has_bytes q) new ≡ found → lookup (has_bytes q) new ≡ lookup (has_bytes q) old) [
      | None ↦ λ e. elim (lookup (has_bytes q) old) as (λ (found : Option StoredRow). lookup (has_bytes q) old ≡ found → lookup (has_bytes q) new ≡ lookup (has_bytes q) old) [
        | None ↦ λ f. e ∙ sym f
        | Some row ↦ λ f. let k = found_key q old row f in at k.0 k.1
      ] refl
      | Some row ↦ λ e. let k = found_key q new row e in at k.0 k.1
    ] refl

pub rows_of-same : (old new : List Stored) → ((k : Vec ℕ Global) → lookup (same_bytes k) new ≡ lookup (same_bytes k) old) → rows_of new ≡ rows_of old
rows_of-same old new same = same_map total antisymmetric _ _ (λ q. get-rows_of new q ∙ ap (option_map row_of) (found-same old new same q) ∙ sym (get-rows_of old q))
