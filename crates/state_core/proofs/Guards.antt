-- At most one write of a key passes by one ETag.
use Rattle.std.proofs.Common.{◌≡◌, ◌⊎◌, inl, inr, ◌+◌, ◌++◌, ◌≤◌, ◌<◌, ◌^◌, ◌∷◌, [], ℕ, Bool, true, false, List, Option, Some, None, is_some, fold, bytes_eq, decimal, refl, ap, sym, subst, ◌∙◌, arith, cond, append_assoc}
use Rattle.std.specs.Prelude.{◌&&◌}
use Rattle.std.proofs.lemmas.Bool.{false≢true, and_parts}
use Rattle.std.proofs.lemmas.Slice.Eq.{bytes_eq-Decides}
use Rattle.std.proofs.lemmas.Fmt.{decimal_injective}
use Rattle.std.proofs.lemmas.List.{append-nil}
use Rattle.keeper_core.specs.Rows.{Rows, Row, row_at}
use Rattle.state_core.specs.declared.command.Mode.{Mode}
use Rattle.state_core.specs.declared.command.Mode.TheVariants.{Unsaid, FirstWrite, LastWrite}
use Rattle.state_core.specs.declared.command.Op.{Op}
use Rattle.state_core.specs.declared.command.Op.TheVariants as op
use Rattle.state_core.specs.Current.{is_current, until_of}
use Rattle.state_core.specs.Write.{Write, upserts, rows_after}
use Rattle.state_core.specs.Judged.{Judged, key_of, passes, write_of, version_in, passed, refused, judge}
use Rattle.state_core.specs.Laws.{asks_for, is_guarded, guarded_in}
use Rattle.state_core.proofs.Writes.{rows_after-append, row_at-put, row_at-remove, upserts-append}
use Rattle.state_core.proofs.Returns.{some_is, row_kept, AreBelow, below_after, live_version}

-- this version of a key is given, and no longer there
pub record IsGone (key : List ℕ) (version : ℕ) (rows : Rows) (next : ℕ) : Type 0 where
  pub given : version < next
  pub lost : (row : Row) → row_at rows key ≡ Some row → row.version ≡ version → ⊥

pub gone_after : (key : List ℕ) (version : ℕ) (rows : Rows) (next : ℕ) (writes : List Write) → IsGone key version rows next → IsGone key version (rows_after rows next writes) (next + upserts writes)
gone_after key version rows next writes gone = record {
  given = omega (arith, gone.given);
  lost = λ row there is. gone.lost row (row_kept rows next writes key row there (omega (arith, gone.given, is))) is;
}

-- ---- an operation that passes by an ETag

asks_version : (etag : List ℕ) (mode : Mode) (other : Option (List ℕ)) (version : Option ℕ) → asks_for etag mode other ≡ true → is_current mode other version ≡ true → (v : ℕ) × (version ≡ Some v) × (etag ≡ decimal v)
asks_version etag LastWrite other version asks current = absurd (false≢true asks)
asks_version etag Unsaid None version asks current = absurd (false≢true asks)
asks_version etag FirstWrite None version asks current = absurd (false≢true asks)
asks_version etag Unsaid (Some other) None asks current = absurd (false≢true current)
asks_version etag FirstWrite (Some other) None asks current = absurd (false≢true current)
asks_version etag Unsaid (Some other) (Some v) asks current = (v, refl, sym ((bytes_eq-Decides other etag).0 asks) ∙ (bytes_eq-Decides other (decimal v)).0 current)
asks_version etag FirstWrite (Some other) (Some v) asks current = (v, refl, sym ((bytes_eq-Decides other etag).0 asks) ∙ (bytes_eq-Decides other (decimal v)).0 current)

pub record Guarded (key etag : List ℕ) (o : Op) (version : Option ℕ) : Type 0 where
  pub here : key_of o ≡ key
  pub v : ℕ
  pub version_is : version ≡ Some v
  pub etag_is : etag ≡ decimal v

guarded_is : (key etag : List ℕ) (o : Op) (version : Option ℕ) → (is_guarded key etag o && passes o version) ≡ true → Guarded key etag o version
guarded_is key etag (op.Upsert item) version e =
    let parts = and_parts _ _ e in
    let both = and_parts _ _ parts.0 in
    let asked = asks_version etag item.mode item.etag version both.1 parts.1 in
    record { here = (bytes_eq-Decides item.key key).0 both.0; v = asked.0; version_is = asked.1; etag_is = asked.2 }
guarded_is key etag (op.Remove k other mode) version e =
    let parts = and_parts _ _ e in
    let both = and_parts _ _ parts.0 in
    let asked = asks_version etag mode other version both.1 parts.1 in
    record { here = (bytes_eq-Decides k key).0 both.0; v = asked.0; version_is = asked.1; etag_is = asked.2 }

-- it takes that version away
new_row_is : (b : Bool) (new row : Row) (o : Option Row) → b ≡ true → cond b (Some new) o ≡ Some row → new ≡ row
new_row_is true new row o h e = some_is new row e
new_row_is false new row o h e = absurd (false≢true h)

no_row_is : (b : Bool) (row : Row) (o : Option Row) → b ≡ true → cond b None o ≡ Some row → ⊥
no_row_is true row o h e = false≢true (ap is_some e)
no_row_is false row o h e = false≢true h

gone_now : (rows : Rows) (next moment : ℕ) (key : List ℕ) (o : Op) (v : ℕ) → key_of o ≡ key → v < next → IsGone key v (rows_after rows next (write_of moment o (Some v))) (next + upserts (write_of moment o (Some v)))
gone_now rows next moment key (op.Upsert item) v here given = record {
  given = omega (arith, given);
  lost = λ row there is.
      let new : Row = record { value = item.value; version = next; until = until_of moment item.ttl } in
      let same = new_row_is (bytes_eq item.key key) new row (row_at rows key) ((bytes_eq-Decides item.key key).1 here) (sym (row_at-put rows item.key new key) ∙ there) in
      absurd (omega (arith, given, is, ap (λ (r : Row). r.version) same));
}
gone_now rows next moment key (op.Remove k etag mode) v here given = record {
  given = omega (arith, given);
  lost = λ row there is. no_row_is (bytes_eq k key) row (row_at rows key) ((bytes_eq-Decides k key).1 here) (sym (row_at-remove rows k key) ∙ there);
}

module _ (rows : Rows) (next moment : ℕ) (below : AreBelow rows next) (key etag : List ℕ) where
  version_given : (judged : Judged) (k : List ℕ) (v : ℕ) → version_in rows next moment judged.writes k ≡ Some v → v < next + upserts judged.writes
  version_given judged k v is =
      let live = live_version moment (row_at (rows_after rows next judged.writes) k) v is in
      omega (arith, below_after rows next judged.writes below k live.row live.there, live.version_is)

  gone_written : (v : ℕ) (judged : Judged) (writes : List Write) → IsGone key v (rows_after rows next judged.writes) (next + upserts judged.writes)
      → IsGone key v (rows_after rows next (judged.writes ++ writes)) (next + upserts (judged.writes ++ writes))
  gone_written v judged writes gone =
      subst (λ r. IsGone key v r (next + upserts (judged.writes ++ writes))) (sym (rows_after-append rows next judged.writes writes))
      (subst (λ n. IsGone key v (rows_after (rows_after rows next judged.writes) (next + upserts judged.writes) writes) n) (omega (arith, upserts-append judged.writes writes))
      (gone_after key v (rows_after rows next judged.writes) (next + upserts judged.writes) writes gone))

  -- judging goes on
  writes_more : (ops : List Op) (judged : Judged) → (more : List Write) × ((fold (judge rows next moment) judged ops).writes ≡ judged.writes ++ more)
  writes_more [] judged = ([], sym (append-nil judged.writes))
  writes_more (o ∷ ops) judged =
      let rest = writes_more ops (judge rows next moment judged o) in
      elim (passes o (version_in rows next moment judged.writes (key_of o))) as (λ b. passes o (version_in rows next moment judged.writes (key_of o)) ≡ b → (more : List Write) × ((fold (judge rows next moment) judged (o ∷ ops)).writes ≡ judged.writes ++ more)) [
        | true ↦ λ here.
            let one = write_of moment o (version_in rows next moment judged.writes (key_of o)) in
            (one ++ rest.0, rest.1 ∙ ap (λ b. (cond b (passed judged one) (refused judged)).writes ++ rest.0) here ∙ append_assoc judged.writes one rest.0)
        | false ↦ λ here.
            let one = write_of moment o (version_in rows next moment judged.writes (key_of o)) in
            (rest.0, rest.1 ∙ ap (λ b. (cond b (passed judged one) (refused judged)).writes ++ rest.0) here)
      ] refl

  few_now : (ops : List Op) (judged : Judged) → next + upserts (fold (judge rows next moment) judged ops).writes ≤ 2 ^ 62 → next + upserts judged.writes ≤ 2 ^ 62
  few_now ops judged few = let more = writes_more ops judged in omega (arith, few, ap upserts more.1, upserts-append judged.writes more.0)

  gone_judged : (v : ℕ) (judged : Judged) (o : Op) → IsGone key v (rows_after rows next judged.writes) (next + upserts judged.writes)
      → IsGone key v (rows_after rows next (judge rows next moment judged o).writes) (next + upserts (judge rows next moment judged o).writes)
  gone_judged v judged o gone =
      let one = write_of moment o (version_in rows next moment judged.writes (key_of o)) in
      elim (passes o (version_in rows next moment judged.writes (key_of o))) as (λ b. IsGone key v (rows_after rows next (cond b (passed judged one) (refused judged)).writes) (next + upserts (cond b (passed judged one) (refused judged)).writes)) [
        | true ↦ gone_written v judged one gone
        | false ↦ gone
      ]

  -- a version that is gone lets nothing pass
  never_again : (v : ℕ) (judged : Judged) (o : Op) → etag ≡ decimal v → next + upserts judged.writes ≤ 2 ^ 62 → IsGone key v (rows_after rows next judged.writes) (next + upserts judged.writes)
      → (is_guarded key etag o && passes o (version_in rows next moment judged.writes (key_of o))) ≡ true → ⊥
  never_again v judged o is few gone e =
      let g = guarded_is key etag o (version_in rows next moment judged.writes (key_of o)) e in
      let given = version_given judged (key_of o) g.v g.version_is in
      let same : v ≡ g.v = decimal_injective v g.v (omega (arith, gone.given, few)) (omega (arith, given, few)) (sym is ∙ g.etag_is) in
      let live = live_version moment (row_at (rows_after rows next judged.writes) (key_of o)) g.v g.version_is in
      gone.lost live.row (ap (row_at (rows_after rows next judged.writes)) (sym g.here) ∙ live.there) (live.version_is ∙ sym same)

  -- and one that passes takes its version away
  gone_passed : (judged : Judged) (o : Op) (e : (is_guarded key etag o && passes o (version_in rows next moment judged.writes (key_of o))) ≡ true)
      → (v : ℕ) × (etag ≡ decimal v) × IsGone key v (rows_after rows next (judge rows next moment judged o).writes) (next + upserts (judge rows next moment judged o).writes)
  gone_passed judged o e =
      let version = version_in rows next moment judged.writes (key_of o) in
      let g = guarded_is key etag o version e in
      let here : passes o version ≡ true = (and_parts _ _ e).1 in
      let one = write_of moment o version in
      let now = gone_now (rows_after rows next judged.writes) (next + upserts judged.writes) moment key o g.v g.here (version_given judged (key_of o) g.v g.version_is) in
      let now_of = subst (λ ver. IsGone key g.v (rows_after (rows_after rows next judged.writes) (next + upserts judged.writes) (write_of moment o ver)) (next + upserts judged.writes + upserts (write_of moment o ver))) (sym g.version_is) now in
      let whole = subst (λ r. IsGone key g.v r (next + upserts judged.writes + upserts one)) (sym (rows_after-append rows next judged.writes one)) now_of in
      let sum : next + upserts judged.writes + upserts one ≡ next + upserts (judged.writes ++ one) = omega (arith, upserts-append judged.writes one) in
      let counted = subst (IsGone key g.v (rows_after rows next (judged.writes ++ one))) sum whole in
      (g.v, g.etag_is, subst (λ b. IsGone key g.v (rows_after rows next (cond b (passed judged one) (refused judged)).writes) (next + upserts (cond b (passed judged one) (refused judged)).writes)) (sym here) counted)

  pub stays : (v : ℕ) (ops : List Op) (judged : Judged) → etag ≡ decimal v → next + upserts (fold (judge rows next moment) judged ops).writes ≤ 2 ^ 62
      → IsGone key v (rows_after rows next judged.writes) (next + upserts judged.writes)
      → (guarded_in rows next moment key etag judged ops ≡ 0) × IsGone key v (rows_after rows next (fold (judge rows next moment) judged ops).writes) (next + upserts (fold (judge rows next moment) judged ops).writes)
  stays v [] judged is few gone = (refl, gone)
  stays v (o ∷ ops) judged is few gone =
      let test = is_guarded key etag o && passes o (version_in rows next moment judged.writes (key_of o)) in
      let rest = stays v ops (judge rows next moment judged o) is few (gone_judged v judged o gone) in (
        elim test as (λ b. test ≡ b → cond b 1 0 + guarded_in rows next moment key etag (judge rows next moment judged o) ops ≡ 0) [
          | true ↦ λ e. absurd (never_again v judged o is (few_now (o ∷ ops) judged few) gone e)
          | false ↦ λ e. omega (arith, rest.0)
        ] refl,
        rest.1,
      )

  -- none passes by the ETag, or one does
  pub record PassedOnce (ops : List Op) (judged : Judged) : Type 0 where
    pub one : guarded_in rows next moment key etag judged ops ≡ 1
    pub v : ℕ
    pub etag_is : etag ≡ decimal v
    pub gone : IsGone key v (rows_after rows next (fold (judge rows next moment) judged ops).writes) (next + upserts (fold (judge rows next moment) judged ops).writes)

  pub at_most : (ops : List Op) (judged : Judged) → next + upserts (fold (judge rows next moment) judged ops).writes ≤ 2 ^ 62 → (guarded_in rows next moment key etag judged ops ≡ 0) ⊎ PassedOnce ops judged
  at_most [] judged few = inl refl
  at_most (o ∷ ops) judged few =
      let test = is_guarded key etag o && passes o (version_in rows next moment judged.writes (key_of o)) in
      let later = judge rows next moment judged o in
      elim test as (λ b. test ≡ b → (cond b 1 0 + guarded_in rows next moment key etag later ops ≡ 0) ⊎ PassedOnce (o ∷ ops) judged) [
        | true ↦ λ e.
            let passes_now = gone_passed judged o e in
            let rest = stays passes_now.0 ops later passes_now.1 few passes_now.2 in
            inr (record { one = ap (λ b. cond b 1 0 + guarded_in rows next moment key etag later ops) e ∙ omega (arith, rest.0); v = passes_now.0; etag_is = passes_now.1; gone = rest.1 })
        | false ↦ λ e. elim (at_most ops later few) [
          | inl none ↦ inl (omega (arith, none))
          | inr once ↦ inr (record { one = ap (λ b. cond b 1 0 + guarded_in rows next moment key etag later ops) e ∙ omega (arith, once.one); v = once.v; etag_is = once.etag_is; gone = once.gone })
        ]
      ] refl
