-- What a commit answers and leaves.
use Rattle.std.proofs.Common.{◌≡◌, inl, inr, ◌+◌, ◌++◌, ◌≤◌, ◌<◌, ◌^◌, ◌∷◌, [], ℕ, true, false, List, Some, None, Result, Ok, Err, nat_lt, refl, ap, sym, ◌∙◌, subst, arith, cond}
use Rattle.std.proofs.lemmas.Bool.Decides.{nat_tests}
use Rattle.side_world.specs.Faults.{Rose}
use Rattle.keeper_core.specs.Faults.{Rises}
use Rattle.keeper_core.specs.Rows.{Rows}
use Rattle.keeper_core.specs.Changes.{after_changes, VersionsAreBelow}
use Rattle.keeper_core.specs.Commits.{acknowledged, HasMade}
use Rattle.keeper_core.specs.declared.changes.Change.{Change}
use Rattle.keeper_core.specs.declared.keeper.Keeper.{Ghosts}
use Rattle.keeper_core.specs.declared.keeper.KeepErr.{KeepErr}
use Rattle.keeper_core.specs.declared.keeper.KeepErr.TheVariants as keep
use Rattle.state_core.specs.declared.batch.Batch.{Batch}
use Rattle.state_core.specs.declared.reply.Reply.{Reply}
use Rattle.state_core.specs.declared.reply.Reply.TheVariants.{Full, Spent}
use Rattle.state_core.specs.Write.{Write, upserts, numbered, rows_after, sweep}
use Rattle.state_core.specs.Reply.{Held, held, is_spent, size_with, outcome, has_commit}
use Rattle.state_core.specs.Written.{stores, size_in, held_with, commit_of, refusal_of, IsCommitted}
use Rattle.state_core.specs.Batch.{IsBatch, changes_of}
use Rattle.state_core.proofs.Sweeps.{upserts-swept, versions_below}

-- the versions of a batch and its sweep are below its next
pub batch_below : (rows : Rows) (next moment : ℕ) (writes : List Write) (batch : Batch) (limit : ℕ) (list : List Change) → IsBatch rows next moment writes batch
    → list ≡ numbered next (sweep rows moment ++ writes) → limit ≡ batch.next → VersionsAreBelow limit list
batch_below rows next moment writes batch limit list is list_is limit_is =
    subst (VersionsAreBelow limit) (sym list_is) (versions_below next limit (sweep rows moment ++ writes) (omega (arith, upserts-swept rows moment writes, is.next_is, limit_is)))

-- ---- what a keeper holds

-- without writes
pub held_with-none : (h : Held) → h ≡ held_with h []
held_with-none h = ap (λ n. record { rows = h.rows; next = n; size = h.size; limit = h.limit; size_after = h.size_after; may_fail = h.may_fail }) (omega arith)

size_in-swept : (h : Held) (a : List Write) (write : Write) (writes : List Write) → size_in h (a ++ write ∷ writes) ≡ h.size_after h.rows h.size (numbered h.next (a ++ write ∷ writes))
size_in-swept h [] write writes = refl
size_in-swept h (w ∷ a) write writes = refl

one_commit : (h : Held) (a : List Write) (write : Write) (writes : List Write) (list : List Change) (next : ℕ) → list ≡ numbered h.next (a ++ write ∷ writes) → next ≡ h.next + upserts (a ++ write ∷ writes)
    → acknowledged (Some (record { list = list; next = next }) ∷ []) ≡ commit_of h (a ++ write ∷ writes)
one_commit h [] write writes list next list_is next_is = λ i. record { list = list_is i; next = next_is i } ∷ []
one_commit h (w ∷ a) write writes list next list_is next_is = λ i. record { list = list_is i; next = next_is i } ∷ []

module _ {K : Type 0} (keeping : Ghosts K) (old new : K) where
  -- where nothing changed but the count of faults
  pub held_same : keeping.rows new ≡ keeping.rows old → keeping.next new ≡ keeping.next old → keeping.size new ≡ keeping.size old → keeping.limit new ≡ keeping.limit old
      → ((rows : Rows) (size : ℕ) (changes : List Change) → keeping.size_after new rows size changes ≡ keeping.size_after old rows size changes)
      → keeping.may_fail new ≡ keeping.may_fail old
      → held keeping new ≡ held keeping old
  held_same rows next size limit size_after may_fail = λ i. record {
    rows = rows i;
    next = next i;
    size = size i;
    limit = limit i;
    size_after = λ r s c. size_after r s c i;
    may_fail = may_fail i;
  }

  -- where changes were made
  pub held_made : (write : Write) (writes a : List Write) → keeping.rows new ≡ rows_after (keeping.rows old) (keeping.next old) (a ++ write ∷ writes)
      → keeping.next new ≡ keeping.next old + upserts (a ++ write ∷ writes)
      → keeping.size new ≡ keeping.size_after old (keeping.rows old) (keeping.size old) (numbered (keeping.next old) (a ++ write ∷ writes)) → keeping.limit new ≡ keeping.limit old
      → ((rows : Rows) (size : ℕ) (changes : List Change) → keeping.size_after new rows size changes ≡ keeping.size_after old rows size changes)
      → keeping.may_fail new ≡ keeping.may_fail old
      → held keeping new ≡ held_with (held keeping old) (a ++ write ∷ writes)
  held_made write writes a rows next size limit size_after may_fail =
      let whole = size ∙ sym (size_in-swept (held keeping old) a write writes) in λ i. record {
        rows = rows i;
        next = next i;
        size = whole i;
        limit = limit i;
        size_after = λ r s c. size_after r s c i;
        may_fail = may_fail i;
      }

-- ---- what is answered

not_spent : (next : ℕ) (writes : List Write) → next + upserts writes ≤ 2 ^ 62 → is_spent next writes ≡ false
not_spent next writes few = grind (arith, nat_tests)

outcome_done : (h : Held) (moment : ℕ) (write : Write) (writes : List Write) (done : Reply) → h.next + upserts (write ∷ writes) ≤ 2 ^ 62 → size_with h moment (write ∷ writes) ≤ h.limit
    → done ≡ outcome h moment (write ∷ writes) done
outcome_done h moment write writes done few fits =
    let fitting : nat_lt h.limit (size_with h moment (write ∷ writes)) ≡ false = grind (arith, nat_tests) in
    ap (λ b. cond b (Full (size_with h moment (write ∷ writes))) done) (sym fitting)
    ∙ ap (λ b. cond b (Spent h.next) (cond (nat_lt h.limit (size_with h moment (write ∷ writes))) (Full (size_with h moment (write ∷ writes))) done)) (sym (not_spent h.next (write ∷ writes) few))

outcome_full : (h : Held) (moment : ℕ) (write : Write) (writes : List Write) (done : Reply) → h.next + upserts (write ∷ writes) ≤ 2 ^ 62 → h.limit < size_with h moment (write ∷ writes)
    → Full (size_with h moment (write ∷ writes)) ≡ outcome h moment (write ∷ writes) done
outcome_full h moment write writes done few fits =
    let over : nat_lt h.limit (size_with h moment (write ∷ writes)) ≡ true = grind (arith, nat_tests) in
    ap (λ b. cond b (Full (size_with h moment (write ∷ writes))) done) (sym over)
    ∙ ap (λ b. cond b (Spent h.next) (cond (nat_lt h.limit (size_with h moment (write ∷ writes))) (Full (size_with h moment (write ∷ writes))) done)) (sym (not_spent h.next (write ∷ writes) few))

pub no_error : {X E : Type 0} {x : X} {e : E} → Ok x ≡ Err e → ⊥
no_error is = cc

pub same_error : {X E : Type 0} {a b : E} → (let first : Result X E = Err a in first ≡ Err b) → a ≡ b
same_error is = cc

no_fault : {len : ℕ} → keep.Full len ≡ keep.Failed → ⊥
no_fault is = cc

no_memory : keep.NoMemory ≡ keep.Failed → ⊥
no_memory is = cc

-- a batch with changes that the versions suffice for
pub record IsFull (rows : Rows) (next moment : ℕ) (writes : List Write) (batch : Batch) : Type 0 where
  pub batch_is : IsBatch rows next moment writes batch
  pub some : changes_of batch ≡ [] → ⊥
  pub few : batch.next ≤ 2 ^ 62

module _ {K : Type 0} (keeping : Ghosts K) (old new : K) (moment : ℕ) (batch : Batch) (list : List Change) where
  pub made : (writes : List Write) (done : Reply) → IsFull (keeping.rows old) (keeping.next old) moment writes batch
      → list ≡ numbered (keeping.next old) (sweep (keeping.rows old) moment ++ writes)
      → keeping.rows new ≡ after_changes (keeping.rows old) list → keeping.next new ≡ batch.next
      → keeping.size new ≡ keeping.size_after old (keeping.rows old) (keeping.size old) list → keeping.size_after old (keeping.rows old) (keeping.size old) list ≤ keeping.limit old
      → keeping.limit new ≡ keeping.limit old
      → ((rows : Rows) (size : ℕ) (changes : List Change) → keeping.size_after new rows size changes ≡ keeping.size_after old rows size changes)
      → keeping.may_fail new ≡ keeping.may_fail old
      → Rises (keeping.may_fail old) (keeping.faults old) (keeping.faults new) → keeping.faults new ≡ keeping.faults old
      → (to_next : ℕ) → to_next ≡ batch.next → keeping.leads old (Some (record { list = list; next = to_next }) ∷ []) new
      → stores done ≡ true
      → IsCommitted (HasMade keeping old new) (held keeping old) (held keeping new) (keeping.faults old) (keeping.faults new) moment writes done done
  made [] done full list_is rows next size fits limit size_after may_fail faults steady to_next to_next_is leads stored = absurd (full.some full.batch_is.changes)
  made (write ∷ writes) done full list_is rows next size fits limit size_after may_fail faults steady to_next to_next_is leads stored =
      let to = keeping.size_after old (keeping.rows old) (keeping.size old) in
      let few : keeping.next old + upserts (write ∷ writes) ≤ 2 ^ 62 = omega (arith, full.few, full.batch_is.next_is) in
      let fitting : size_with (held keeping old) moment (write ∷ writes) ≤ keeping.limit old = subst (λ n. n ≤ keeping.limit old) (ap to list_is) fits in
      record {
        reply_is = inl (outcome_done (held keeping old) moment write writes done few fitting);
        held_is =
            held_made keeping old new write writes (sweep (keeping.rows old) moment)
            (rows ∙ ap (after_changes (keeping.rows old)) list_is)
            (omega (arith, next, full.batch_is.next_is, upserts-swept (keeping.rows old) moment (write ∷ writes)))
            (size ∙ ap to list_is) limit size_after may_fail
            ∙ ap (λ b. held_with (held keeping old) (cond b (sweep (keeping.rows old) moment ++ write ∷ writes) [])) (sym stored);
        faults = faults;
        steady = λ other. steady;
        commits = subst (λ b. HasMade keeping old new (commit_of (held keeping old) (cond b (sweep (keeping.rows old) moment ++ write ∷ writes) []))) (sym stored)
            (record { answers = Some (record { list = list; next = to_next }) ∷ []; leads = leads; made = one_commit (held keeping old) (sweep (keeping.rows old) moment) write writes list to_next list_is (omega (arith, to_next_is, full.batch_is.next_is, upserts-swept (keeping.rows old) moment (write ∷ writes))) });
      }

  has_commit-full : (writes : List Write) → IsFull (keeping.rows old) (keeping.next old) moment writes batch → has_commit (keeping.next old) writes ≡ true
  has_commit-full [] full = absurd (full.some full.batch_is.changes)
  has_commit-full (write ∷ writes) full =
      ap (λ b. cond b false true) (not_spent (keeping.next old) (write ∷ writes) (omega (arith, full.few, full.batch_is.next_is)))

  full_is : (writes : List Write) (done : Reply) (len : ℕ) → IsFull (keeping.rows old) (keeping.next old) moment writes batch → len ≡ size_with (held keeping old) moment writes → keeping.limit old < len
      → Full len ≡ outcome (held keeping old) moment writes done
  full_is [] done len full is over = absurd (full.some full.batch_is.changes)
  full_is (write ∷ writes) done len full is over =
      ap (λ n. Full n) is
      ∙ outcome_full (held keeping old) moment write writes done (omega (arith, full.few, full.batch_is.next_is)) (subst (λ n. keeping.limit old < n) is over)

  pub refused : (writes : List Write) (done : Reply) (error : KeepErr) (reply : Reply) → IsFull (keeping.rows old) (keeping.next old) moment writes batch
      → list ≡ numbered (keeping.next old) (sweep (keeping.rows old) moment ++ writes)
      → held keeping new ≡ held keeping old → Rises (keeping.may_fail old) (keeping.faults old) (keeping.faults new)
      → (error ≡ keep.Failed → Rose (keeping.faults old) (keeping.faults new))
      → ((error ≡ keep.Failed → ⊥) → keeping.faults new ≡ keeping.faults old) → keeping.leads old (None ∷ []) new
      → ((len : ℕ) → error ≡ keep.Full len → (len ≡ keeping.size_after old (keeping.rows old) (keeping.size old) list) × (keeping.limit old < len))
      → reply ≡ refusal_of error
      → IsCommitted (HasMade keeping old new) (held keeping old) (held keeping new) (keeping.faults old) (keeping.faults new) moment writes done reply
  refused writes done keep.Failed reply full list_is same faults failed steady leads over is =
      subst (IsCommitted (HasMade keeping old new) (held keeping old) (held keeping new) (keeping.faults old) (keeping.faults new) moment writes done) (sym is)
      (record { reply_is = inr (inr (refl, has_commit-full writes full, failed refl)); held_is = same ∙ held_with-none (held keeping old); faults = faults; steady = λ other. absurd (other refl); commits = record { answers = None ∷ []; leads = leads; made = refl } })
  refused writes done (keep.Full len) reply full list_is same faults failed steady leads over is =
      subst (IsCommitted (HasMade keeping old new) (held keeping old) (held keeping new) (keeping.faults old) (keeping.faults new) moment writes done) (sym is)
      (record {
        reply_is = inl (full_is writes done len full ((over len refl).0 ∙ ap (keeping.size_after old (keeping.rows old) (keeping.size old)) list_is) (over len refl).1);
        held_is = same ∙ held_with-none (held keeping old);
        faults = faults;
        steady = λ other. steady (λ is. no_fault is);
        commits = record { answers = None ∷ []; leads = leads; made = refl };
      })
  refused writes done keep.NoMemory reply full list_is same faults failed steady leads over is =
      subst (IsCommitted (HasMade keeping old new) (held keeping old) (held keeping new) (keeping.faults old) (keeping.faults new) moment writes done) (sym is)
      (record { reply_is = inr (inl refl); held_is = same ∙ held_with-none (held keeping old); faults = faults; steady = λ other. steady (λ is. no_memory is); commits = record { answers = None ∷ []; leads = leads; made = refl } })
