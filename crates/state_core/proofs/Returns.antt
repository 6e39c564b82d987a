-- A version that is gone never comes back.
use Rattle.std.proofs.Common.{◌≡◌, ◌+◌, ◌++◌, ◌≤◌, ◌<◌, ◌∷◌, [], ℕ, Bool, true, false, List, Option, Some, None, is_some, unwrap_or, fold, bytes_eq, refl, ap, sym, subst, ◌∙◌, arith, cond, append_assoc}
use Rattle.std.specs.List.{AllByRecursion}
use Rattle.std.specs.FinMap.{entries, find, get-entries}
use Rattle.std.specs.Ordering.{eq_by_cmp}
use Rattle.std.proofs.lemmas.Bool.{false≢true}
use Rattle.std.proofs.lemmas.Bool.Decides.{nat_tests}
use Rattle.std.proofs.lemmas.List.{append-nil}
use Rattle.std.proofs.lemmas.List.Elements.{recursion_from_All}
use Rattle.std.proofs.lemmas.List.Sums.{fold-append}
use Rattle.keeper_core.specs.Rows.{Rows, Row, byte_order, row_at, is_live, IsCounted}
use Rattle.keeper_core.specs.Changes.{after_change}
use Rattle.keeper_core.specs.declared.changes.Change.TheVariants.{Put, Remove}
use Rattle.state_core.specs.Current.{live_row, version_of}
use Rattle.state_core.specs.Write.{Write, upsert, removal, upserts, rows_after}
use Rattle.state_core.specs.Reply.{Held}
use Rattle.state_core.specs.Written.{written}
use Rattle.state_core.specs.History.{Step, Course, course_after, course_of, held_in, now_in}
use Rattle.state_core.specs.Laws.{rows_of, NeverReturns}
use Rattle.state_core.proofs.Writes.{rows_after-append, row_at-put, row_at-remove, upserts-append}

pub some_is : {X : Type 0} (x y : X) → Some x ≡ Some y → x ≡ y
some_is x y e = ap (λ o. unwrap_or o x) e

-- ---- old rows and new ones

not_new : (b : Bool) (new row : Row) (o : Option Row) → cond b (Some new) o ≡ Some row → row.version < new.version → o ≡ Some row
not_new true new row o e older = absurd (omega (arith, older, ap (λ (r : Row). r.version) (some_is new row e)))
not_new false new row o e older = e

pub not_gone : (b : Bool) (row : Row) (o : Option Row) → cond b None o ≡ Some row → o ≡ Some row
not_gone true row o e = absurd (false≢true (ap is_some e))
not_gone false row o e = e

-- a row of an old version stood there before the writes
pub row_kept : (rows : Rows) (next : ℕ) (writes : List Write) (key : List ℕ) (row : Row) → row_at (rows_after rows next writes) key ≡ Some row → row.version < next → row_at rows key ≡ Some row
row_kept rows next [] key row e older = e
row_kept rows next (upsert k value until ∷ writes) key row e older =
    let new : Row = record { value = value; version = next; until = until } in
    not_new (bytes_eq k key) new row (row_at rows key)
    (sym (row_at-put rows k new key) ∙ row_kept (after_change rows (Put k value next until)) (next + 1) writes key row e (omega (arith, older))) older
row_kept rows next (removal k ∷ writes) key row e older =
    not_gone (bytes_eq k key) row (row_at rows key)
    (sym (row_at-remove rows k key) ∙ row_kept (after_change rows (Remove k)) next writes key row e older)

-- every version is below the next
abbrev pub AreBelow : Rows → ℕ → Type 0
AreBelow rows next = (key : List ℕ) (row : Row) → row_at rows key ≡ Some row → row.version < next

new_or_old : (b : Bool) (new row : Row) (o : Option Row) (next : ℕ) → cond b (Some new) o ≡ Some row → new.version ≡ next → (o ≡ Some row → row.version < next) → row.version < next + 1
new_or_old true new row o next e is old = omega (arith, is, ap (λ (r : Row). r.version) (some_is new row e))
new_or_old false new row o next e is old = omega (arith, old e)

pub below_after : (rows : Rows) (next : ℕ) (writes : List Write) → AreBelow rows next → AreBelow (rows_after rows next writes) (next + upserts writes)
below_after rows next [] below key row e = omega (arith, below key row e)
below_after rows next (upsert k value until ∷ writes) below key row e =
    let new : Row = record { value = value; version = next; until = until } in
    let more = below_after (after_change rows (Put k value next until)) (next + 1) writes
    (λ q r is. new_or_old (bytes_eq k q) new r (row_at rows q) next (sym (row_at-put rows k new q) ∙ is) refl (below q r)) key row e in
    omega (arith, more)
below_after rows next (removal k ∷ writes) below key row e =
    below_after (after_change rows (Remove k)) next writes (λ q r is. below q r (not_gone (bytes_eq k q) r (row_at rows q) (sym (row_at-remove rows k q) ∙ is))) key row e

found_below : (next : ℕ) (es : List (List ℕ × Row)) (key : List ℕ) (row : Row) → AllByRecursion (λ entry. entry.1.version < next) es → find byte_order key es ≡ Some row → row.version < next
found_below next [] key row all e = absurd (false≢true (ap is_some e))
found_below next (entry ∷ es) key row all e =
    elim (eq_by_cmp byte_order key entry.0) as (λ b. cond b (Some entry.1) (find byte_order key es) ≡ Some row → row.version < next) [
      | true ↦ λ here. subst (λ (r : Row). r.version < next) (some_is entry.1 row here) all.0
      | false ↦ λ there. found_below next es key row all.1 there
    ] e

pub counted_below : (rows : Rows) (next : ℕ) → IsCounted rows next → AreBelow rows next
counted_below rows next counted key row e = found_below next (entries rows) key row (recursion_from_All _ _ counted.above) (sym (get-entries rows key) ∙ e)

-- ---- live rows

pub record IsLiveRow (moment : ℕ) (o : Option Row) (version : ℕ) : Type 0 where
  pub row : Row
  pub there : o ≡ Some row
  pub live : is_live moment row ≡ true
  pub version_is : row.version ≡ version

pub live_version : (moment : ℕ) (o : Option Row) (version : ℕ) → version_of (live_row moment o) ≡ Some version → IsLiveRow moment o version
live_version moment None version e = absurd (false≢true (ap is_some e))
live_version moment (Some row) version e =
    elim (is_live moment row) as (λ b. is_live moment row ≡ b → version_of (cond b (Some row) None) ≡ Some version → IsLiveRow moment (Some row) version) [
      | true ↦ λ live is. record { row = row; there = refl; live = live; version_is = some_is row.version version is }
      | false ↦ λ dead is. absurd (false≢true (ap is_some is))
    ] refl e

live_earlier : (moment later : ℕ) (row : Row) → moment ≤ later → is_live later row ≡ true → is_live moment row ≡ true
live_earlier moment later row before live = grind (arith, nat_tests)

version_live : (moment : ℕ) (row : Row) → is_live moment row ≡ true → version_of (live_row moment (Some row)) ≡ Some row.version
version_live moment row live = ap (λ b. version_of (cond b (Some row) None)) live

-- ---- over histories

pub course_more : (opening : Held) (course : Course) (more : List Step) → (writes : List Write) × ((fold (course_after opening) course more).passed ≡ course.passed ++ writes)
course_more opening course [] = ([], sym (append-nil course.passed))
course_more opening course (entry ∷ more) =
    let one = written (held_in opening course) (now_in course entry.cmd) entry.cmd entry.reply in
    let rest = course_more opening (course_after opening course entry) more in
    (one ++ rest.0, rest.1 ∙ append_assoc course.passed one rest.0)

-- the rows after more entries are those before them after more writes
pub record Goes (opening : Held) (before more : List Step) : Type 0 where
  pub writes : List Write
  pub rows_are : rows_of opening (before ++ more) ≡ rows_after (rows_of opening before) (opening.next + upserts (course_of opening before).passed) writes
  pub next_is : opening.next + upserts (course_of opening (before ++ more)).passed ≡ opening.next + upserts (course_of opening before).passed + upserts writes

pub goes : (opening : Held) (before more : List Step) → Goes opening before more
goes opening before more =
    let passed = (course_of opening before).passed in
    let longer = course_more opening (course_of opening before) more in
    let is : (course_of opening (before ++ more)).passed ≡ passed ++ longer.0 = ap (λ (c : Course). c.passed) (fold-append (course_after opening) _ before more) ∙ longer.1 in record {
      writes = longer.0;
      rows_are = ap (rows_after opening.rows opening.next) is ∙ rows_after-append opening.rows opening.next passed longer.0;
      next_is = omega (arith, ap upserts is, upserts-append passed longer.0);
    }

pub never_returns : (opening : Held) → IsCounted opening.rows opening.next → NeverReturns opening
never_returns opening counted before between after first second third key version early late had lost has =
    let old = live_version first (row_at (rows_of opening before) key) version had in
    let new = live_version third (row_at (rows_of opening ((before ++ between) ++ after)) key) version has in
    let one = goes opening before between in
    let two = goes opening (before ++ between) after in
    let low = below_after opening.rows opening.next (course_of opening before).passed (counted_below opening.rows opening.next counted) key old.row old.there in
    let older : new.row.version < opening.next + upserts (course_of opening (before ++ between)).passed = omega (arith, low, old.version_is, new.version_is, one.next_is) in
    let stood = row_kept (rows_of opening (before ++ between)) (opening.next + upserts (course_of opening (before ++ between)).passed) two.writes key new.row
    (sym (ap (λ rows. row_at rows key) two.rows_are) ∙ new.there) older in
    lost (
    ap (λ o. version_of (live_row second o)) stood
    ∙ version_live second new.row (live_earlier second third new.row late new.live)
    ∙ ap (λ n. Some n) new.version_is
    )
