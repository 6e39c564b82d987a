-- What one more change makes of a batch.
use Rattle.std.proofs.Common.{◌≡◌, ◌+◌, ◌++◌, ◌∷◌, [], ℕ, Bool, true, false, List, Option, Some, None, is_some, map, subst, refl, ap, sym, ◌∙◌, arith, cond, bytes_eq, unwrap_or}
use Rattle.std.specs.Prelude.{option_to_list}
use Rattle.std.proofs.lemmas.List.{map-append}
use Rattle.std.proofs.lemmas.Bool.{false≢true}
use Rattle.keeper_core.specs.Rows.{Rows, is_live}
use Rattle.keeper_core.specs.declared.changes.Change.TheVariants.{Put, Remove}
use Rattle.state_core.specs.declared.batch.Batch.{Batch}
use Rattle.state_core.specs.Current.{live_at, version_of, is_current, until_of}
use Rattle.state_core.specs.Taken.{IsTtl}
use Rattle.state_core.specs.declared.command.Mode.{Mode}
use Rattle.state_core.specs.declared.command.Item.{Item}
use Rattle.state_core.specs.declared.command.Op.TheVariants as op
use Rattle.state_core.specs.Write.{Write, upsert, removal, upserts, numbered}
use Rattle.state_core.specs.Judged.{version_in, removal_of}
use Rattle.state_core.specs.Pending as pending
use Rattle.state_core.specs.Pending.{change_of}
use Rattle.state_core.specs.declared.batch.Pending.{Pending}
use Rattle.state_core.specs.Batch.{IsBatch, version_over, version_before, version_at, HasAdded, HasPut, HasRemoved, HasJudged}
use Rattle.state_core.proofs.Writes.{upserts-append, numbered-append, version_in-upsert, version_in-removal}

unwrap_or-cond : {X : Type 0} (b : Bool) (x y : Option X) (d : X) → unwrap_or (cond b x y) d ≡ cond b (unwrap_or x d) (unwrap_or y d)
unwrap_or-cond true x y d = refl
unwrap_or-cond false x y d = refl

pub has_put : (rows : Rows) (next moment : ℕ) (writes : List Write) (key value : List ℕ) (until : ℕ) (old new : Batch)
    → IsBatch rows next moment writes old → HasPut old new key value until
    → is_live moment (record { value = value; version = next + upserts writes; until = until }) ≡ true
    → IsBatch rows next moment (writes ++ upsert key value until ∷ []) new
has_put rows next moment writes key value until old new batch put live = record {
  changes =
      put.changes
      ∙ ap (λ xs. xs ++ Put key value old.next until ∷ []) batch.changes
      ∙ ap (λ n. numbered next writes ++ Put key value n until ∷ []) batch.next_is
      ∙ sym (numbered-append next writes (upsert key value until ∷ []));
  next_is = omega (arith, put.next_is, batch.next_is, upserts-append writes (upsert key value until ∷ []));
  versions = λ q.
      version_in-upsert rows next moment writes key value until q live
      ∙ ap (λ o. cond (bytes_eq key q) (Some (next + upserts writes)) o) (batch.versions q)
      ∙ ap (λ n. cond (bytes_eq key q) (Some n) (unwrap_or (version_at old q) (version_of (live_at rows moment q)))) (sym batch.next_is)
      ∙ sym (unwrap_or-cond (bytes_eq key q) (Some (Some old.next)) (version_at old q) (version_of (live_at rows moment q)))
      ∙ ap (λ o. unwrap_or o (version_of (live_at rows moment q))) (sym (put.versions q));
}

pub has_removed : (rows : Rows) (next moment : ℕ) (writes : List Write) (key : List ℕ) (old new : Batch)
    → IsBatch rows next moment writes old → HasRemoved old new key
    → IsBatch rows next moment (writes ++ removal key ∷ []) new
has_removed rows next moment writes key old new batch removed = record {
  changes =
      removed.changes
      ∙ ap (λ xs. xs ++ Remove key ∷ []) batch.changes
      ∙ sym (numbered-append next writes (removal key ∷ []));
  next_is = omega (arith, removed.next_is, batch.next_is, upserts-append writes (removal key ∷ []));
  versions = λ q.
      version_in-removal rows next moment writes key q
      ∙ ap (λ o. cond (bytes_eq key q) None o) (batch.versions q)
      ∙ sym (unwrap_or-cond (bytes_eq key q) (Some None) (version_at old q) (version_of (live_at rows moment q)))
      ∙ ap (λ o. unwrap_or o (version_of (live_at rows moment q))) (sym (removed.versions q));
}

-- a further change behind another
pub added_behind : (old new : Batch) (before last : Pending) → old.last ≡ Some before → new.last ≡ Some last → new.earlier.items ≡ old.earlier.items ++ before ∷ [] → new.next ≡ old.next
    → ((q : List ℕ) → version_before new q ≡ cond (bytes_eq (pending.key_of before) q) (Some (pending.version_of before)) (version_before old q)) → HasAdded old new last
added_behind old new before last some is earlier next versions = record {
  changes =
      ap (λ o. map change_of (new.earlier.items ++ option_to_list o)) is
      ∙ map-append change_of new.earlier.items (last ∷ [])
      ∙ ap (λ xs. map change_of xs ++ change_of last ∷ []) earlier
      ∙ ap (λ o. map change_of (old.earlier.items ++ option_to_list o) ++ change_of last ∷ []) (sym some);
  next_is = next;
  versions = λ q.
      ap (λ o. version_over o q (version_before new q)) is
      ∙ ap (cond (bytes_eq (pending.key_of last) q) (Some (pending.version_of last))) (versions q)
      ∙ ap (λ o. cond (bytes_eq (pending.key_of last) q) (Some (pending.version_of last)) (version_over o q (version_before old q))) (sym some);
}

-- a row that is stored at a moment is live then
is_live-stored : (moment : ℕ) (ttl : Option ℕ) (value : List ℕ) (version : ℕ) → IsTtl ttl → is_live moment (record { value = value; version = version; until = until_of moment ttl }) ≡ true
is_live-stored moment None value version ttl = refl
is_live-stored moment (Some seconds) value version ttl = grind (arith, ttl.0)

-- an upsert that passes, and a removal that passes where there is a row
pub judged_upsert : (rows : Rows) (next moment : ℕ) (writes : List Write) (item : Item) (passed : Bool) (until : ℕ) (old new : Batch)
    → IsBatch rows next moment writes old → passed ≡ is_current item.mode item.etag (version_in rows next moment writes item.key) → passed ≡ true
    → until ≡ until_of moment item.ttl → IsTtl item.ttl → HasPut old new item.key item.value until
    → HasJudged rows next moment writes (op.Upsert item) passed new
judged_upsert rows next moment writes item passed until old new batch passed_is is_true until_is ttl put = record {
  passed_is = passed_is;
  batch_is =
      subst (λ b. IsBatch rows next moment (writes ++ cond b (upsert item.key item.value (until_of moment item.ttl) ∷ []) []) new) (sym is_true)
      (has_put rows next moment writes item.key item.value (until_of moment item.ttl) old new batch (subst (HasPut old new item.key item.value) until_is put) (is_live-stored moment item.ttl item.value (next + upserts writes) ttl));
}

some_of : {X : Type 0} (o : Option X) → is_some o ≡ true → (x : X) × (o ≡ Some x)
some_of (Some x) e = (x, refl)
some_of None e = absurd (false≢true e)

pub judged_removal : (rows : Rows) (next moment : ℕ) (writes : List Write) (key : List ℕ) (etag : Option (List ℕ)) (mode : Mode) (passed : Bool) (version : Option ℕ) (old new : Batch)
    → IsBatch rows next moment writes old → version ≡ version_in rows next moment writes key → passed ≡ is_current mode etag version → passed ≡ true
    → is_some version ≡ true → HasRemoved old new key
    → HasJudged rows next moment writes (op.Remove key etag mode) passed new
judged_removal rows next moment writes key etag mode passed version old new batch version_is passed_is is_true there removed =
    let some = some_of version there in
    record {
      passed_is = passed_is ∙ ap (is_current mode etag) version_is;
      batch_is =
          subst (λ b. IsBatch rows next moment (writes ++ cond b (removal_of key (version_in rows next moment writes key)) []) new) (sym is_true)
          (subst (λ o. IsBatch rows next moment (writes ++ removal_of key o) new) (sym some.1 ∙ version_is) (has_removed rows next moment writes key old new batch removed));
    }
