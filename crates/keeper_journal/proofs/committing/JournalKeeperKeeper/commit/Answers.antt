use Rattle.std.proofs.Common.{◌≡◌, ◌⊎◌, inl, inr, ◌<◌, ◌^◌, ℕ, Some, None, refl, sym, ap, ◌∙◌, subst}
use Rattle.keeper_core.specs.Rows.{IsCounted}
use Rattle.keeper_core.specs.Changes.{after_changes, VersionsAreBelow}
use Rattle.disk_journal.proofs.Crashes.{started, weaker}
use Rattle.disk_journal.proofs.Runs.{made_call, undone_call}
use Rattle.keeper_journal.specs.Body.{IsBodyOf}
use Rattle.keeper_journal.specs.History.{IsHistory, IsWithOneAtMost}
use Rattle.keeper_journal.specs.JournalKeeper.{disk_in}
use Rattle.keeper_journal.specs.Kept.{Kept, KeptAs}
use Rattle.keeper_journal.specs.Storing as storing
use Rattle.keeper_journal.proofs.Keeping.{says_commits, kept_says, doubt_says, kept_whole, kept_in_doubt, may_be_next, kept_more, kept_still, made_again, still_body}
use Rattle.keeper_journal.proofs.Runs.{idle_call}
use Rattle.keeper_journal.proofs.committing.JournalKeeperKeeper.commit.Goals as goal

-- ---- a commit that is too long

pub returns-then-not-is_torn-clause-any_moment : goal.returns-then-not-is_torn-clause-any_moment
returns-then-not-is_torn-clause-any_moment g c = λ commits doubt kept.
    started g.D.Disk (disk_in c.args.self.now) (IsWithOneAtMost commits doubt c.args.changes) (g.met.D.Disk.only_now (disk_in c.args.self.now))
    (λ bytes left told leaves. kept_says kept.bodies kept.doubted commits doubt c.args.changes left kept.say kept.in_doubt (kept.holds.file.left bytes left told leaves))

pub returns-then-not-is_torn-clause-leads_nowhere : goal.returns-then-not-is_torn-clause-leads_nowhere
returns-then-not-is_torn-clause-leads_nowhere g c = (_, idle_call g.D.Disk _ _ refl refl refl g.met.D.Disk.only_now, refl)

pub returns-then-not-is_torn-clause-refused : goal.returns-then-not-is_torn-clause-refused
returns-then-not-is_torn-clause-refused g c = λ len is whole. made_again c.args.self.now _ _

pub returns-in-Ok-clause-undone : goal.returns-in-Ok-clause-undone
returns-in-Ok-clause-undone g c = λ commits doubt kept.
    inr (inl (kept_whole g.D.Disk c.args.self.now.journal c.mend.new.journal c.args.self.now.table.rows c.args.self.now.next commits doubt kept (c.in-Ok.ensures.repaired kept.bodies kept.doubted kept.holds)))

pub returns-in-Ok-clause-any_moment : goal.returns-in-Ok-clause-any_moment
returns-in-Ok-clause-any_moment g c = λ commits doubt kept.
    weaker g.D.Disk (disk_in c.args.self.now) c.mend.new.journal.disk (storing.IsWithDoubt kept.bodies kept.doubted) (IsWithOneAtMost commits doubt c.args.changes)
    (λ bytes file. doubt_says kept.bodies kept.doubted commits doubt c.args.changes bytes kept.say kept.in_doubt file)
    (c.in-Ok.ensures.any_moment kept.bodies kept.doubted kept.holds)

pub returns-in-Ok-clause-leads_nowhere : goal.returns-in-Ok-clause-leads_nowhere
returns-in-Ok-clause-leads_nowhere g c =
    (_, undone_call g.D.Disk disk_in (Kept g.D.Disk) IsHistory _ _ c.args.changes (returns-in-Ok-clause-any_moment g c) (returns-in-Ok-clause-undone g c), refl)

pub returns-in-Ok-clause-repaired : goal.returns-in-Ok-clause-repaired
returns-in-Ok-clause-repaired g c = λ len is commits doubt kept.
    kept_whole g.D.Disk c.args.self.now.journal c.mend.new.journal c.args.self.now.table.rows c.args.self.now.next commits doubt kept (c.in-Ok.ensures.repaired kept.bodies kept.doubted kept.holds)

pub returns-in-Err-clause-undone : goal.returns-in-Err-clause-undone
returns-in-Err-clause-undone g c = λ commits doubt kept.
    inl (kept_in_doubt g.D.Disk c.args.self.now.journal c.mend.new.journal c.args.self.now.table.rows c.args.self.now.next commits doubt kept (c.in-Err.ensures.undone kept.bodies kept.doubted kept.holds))

pub returns-in-Err-clause-any_moment : goal.returns-in-Err-clause-any_moment
returns-in-Err-clause-any_moment g c = λ commits doubt kept.
    weaker g.D.Disk (disk_in c.args.self.now) c.mend.new.journal.disk (storing.IsWithDoubt kept.bodies kept.doubted) (IsWithOneAtMost commits doubt c.args.changes)
    (λ bytes file. doubt_says kept.bodies kept.doubted commits doubt c.args.changes bytes kept.say kept.in_doubt file)
    (c.in-Err.ensures.any_moment kept.bodies kept.doubted kept.holds)

pub returns-in-Err-clause-leads_nowhere : goal.returns-in-Err-clause-leads_nowhere
returns-in-Err-clause-leads_nowhere g c =
    (_, undone_call g.D.Disk disk_in (Kept g.D.Disk) IsHistory _ _ c.args.changes (returns-in-Err-clause-any_moment g c) (returns-in-Err-clause-undone g c), refl)

-- ---- one that finds no memory

pub returns-in_default-clause-leads_nowhere : goal.returns-in_default-clause-leads_nowhere
returns-in_default-clause-leads_nowhere g c = (_, idle_call g.D.Disk _ _ refl refl refl g.met.D.Disk.only_now, refl)

pub returns-in_default-prepare-clause-leads_nowhere : goal.returns-in_default-prepare-clause-leads_nowhere
returns-in_default-prepare-clause-leads_nowhere g c = (_, idle_call g.D.Disk _ _ refl c.prepare.ensures.rows refl g.met.D.Disk.only_now, refl)

pub returns-in_default-clause-any_moment : goal.returns-in_default-clause-any_moment
returns-in_default-clause-any_moment g c = λ commits doubt kept.
    started g.D.Disk (disk_in c.args.self.now) (IsWithOneAtMost commits doubt c.args.changes) (g.met.D.Disk.only_now (disk_in c.args.self.now))
    (λ bytes left told leaves. kept_says kept.bodies kept.doubted commits doubt c.args.changes left kept.say kept.in_doubt (kept.holds.file.left bytes left told leaves))

pub returns-in_default-prepare-clause-any_moment : goal.returns-in_default-prepare-clause-any_moment
returns-in_default-prepare-clause-any_moment g c = λ commits doubt kept.
    started g.D.Disk (disk_in c.args.self.now) (IsWithOneAtMost commits doubt c.args.changes) (g.met.D.Disk.only_now (disk_in c.args.self.now))
    (λ bytes left told leaves. kept_says kept.bodies kept.doubted commits doubt c.args.changes left kept.say kept.in_doubt (kept.holds.file.left bytes left told leaves))

-- ---- one that is stored, or fails

pub invariant_of-self-in-Ok-store : goal.invariant_of-self-in-Ok-store
invariant_of-self-in-Ok-store g c =
    let list : c.in-Ok-prepare.prepared ≡ c.args.changes.list = c.in-Ok-prepare.ensures.prepared ∙ c.from_vec.ensures ∙ c.into_vec-list.ensures in
    record {
      counted = c.apply.ensures.counted c.args.self.now.next c.args.changes.next (subst (λ rows. IsCounted rows c.args.self.now.next) (sym c.prepare.ensures.rows) c.args.self.now.counted) c.requires.grows c.requires.most (subst (VersionsAreBelow c.args.changes.next) (sym list) c.requires.below);
      short = subst (λ (n : ℕ). n < 2 ^ 32) (sym c.in-Ok-store.ensures.limit) c.args.self.now.short;
    }

pub returns-in-Ok-store-clause-kept : goal.returns-in-Ok-store-clause-kept
returns-in-Ok-store-clause-kept g c = λ commits doubt kept.
    let is : IsBodyOf c.bytes.result.now c.args.changes = still_body c.bytes.result.now c.in-Ok-encode.body c.into_vec-list.result.items c.deref-2.result.now c.args.changes c.bytes.ensures c.deref-2.ensures.value c.into_vec-list.ensures c.in-Ok-encode.ensures in
    let may = may_be_next c.args.self.now.next commits c.args.changes kept.next_is c.requires.grows c.requires.most c.requires.below in
    let list : c.in-Ok-prepare.prepared ≡ c.args.changes.list = c.in-Ok-prepare.ensures.prepared ∙ c.from_vec.ensures ∙ c.into_vec-list.ensures in
    kept_more g.D.Disk c.args.self.now.journal c.store.new.journal c.args.self.now.table.rows c.args.self.now.next commits doubt c.args.changes c.bytes.result.now kept is may
    c.apply.new.self.rows (c.apply.ensures.rows ∙ ap (λ rows. after_changes rows c.in-Ok-prepare.prepared) c.prepare.ensures.rows ∙ ap (after_changes c.args.self.now.table.rows) list) (c.in-Ok-store.ensures.stored kept.bodies kept.doubted kept.holds)

pub returns-in-Ok-store-clause-any_moment : goal.returns-in-Ok-store-clause-any_moment
returns-in-Ok-store-clause-any_moment g c = λ commits doubt kept.
    let is : IsBodyOf c.bytes.result.now c.args.changes = still_body c.bytes.result.now c.in-Ok-encode.body c.into_vec-list.result.items c.deref-2.result.now c.args.changes c.bytes.ensures c.deref-2.ensures.value c.into_vec-list.ensures c.in-Ok-encode.ensures in
    let may = may_be_next c.args.self.now.next commits c.args.changes kept.next_is c.requires.grows c.requires.most c.requires.below in
    weaker g.D.Disk (disk_in c.args.self.now) c.store.new.journal.disk (storing.IsWithOneAtMost kept.bodies kept.doubted c.bytes.result.now) (IsWithOneAtMost commits doubt c.args.changes)
    (λ bytes file. says_commits kept.bodies kept.doubted c.bytes.result.now commits doubt c.args.changes bytes kept.say kept.in_doubt is may file)
    (c.in-Ok-store.ensures.any_moment kept.bodies kept.doubted kept.holds)

pub returns-clause-undone : goal.returns-clause-undone
returns-clause-undone g c = λ commits doubt kept.
    let is : IsBodyOf c.bytes.result.now c.args.changes = still_body c.bytes.result.now c.in-Ok-encode.body c.into_vec-list.result.items c.deref-2.result.now c.args.changes c.bytes.ensures c.deref-2.ensures.value c.into_vec-list.ensures c.in-Ok-encode.ensures in
    let may = may_be_next c.args.self.now.next commits c.args.changes kept.next_is c.requires.grows c.requires.most c.requires.below in
    subst (λ rows. KeptAs g.D.Disk c.store.new.journal rows c.args.self.now.next commits doubt ⊎ KeptAs g.D.Disk c.store.new.journal rows c.args.self.now.next commits None ⊎ KeptAs g.D.Disk c.store.new.journal rows c.args.self.now.next commits (Some c.args.changes))
    (sym c.prepare.ensures.rows)
    (kept_still g.D.Disk c.args.self.now.journal c.store.new.journal c.args.self.now.table.rows c.args.self.now.next commits doubt c.args.changes c.bytes.result.now kept is may
    (c.in-Err-store.ensures.undone kept.bodies kept.doubted kept.holds))

pub returns-clause-any_moment : goal.returns-clause-any_moment
returns-clause-any_moment g c = λ commits doubt kept.
    let is : IsBodyOf c.bytes.result.now c.args.changes = still_body c.bytes.result.now c.in-Ok-encode.body c.into_vec-list.result.items c.deref-2.result.now c.args.changes c.bytes.ensures c.deref-2.ensures.value c.into_vec-list.ensures c.in-Ok-encode.ensures in
    let may = may_be_next c.args.self.now.next commits c.args.changes kept.next_is c.requires.grows c.requires.most c.requires.below in
    weaker g.D.Disk (disk_in c.args.self.now) c.store.new.journal.disk (storing.IsWithOneAtMost kept.bodies kept.doubted c.bytes.result.now) (IsWithOneAtMost commits doubt c.args.changes)
    (λ bytes file. says_commits kept.bodies kept.doubted c.bytes.result.now commits doubt c.args.changes bytes kept.say kept.in_doubt is may file)
    (c.in-Err-store.ensures.any_moment kept.bodies kept.doubted kept.holds)

pub returns-in-Ok-store-clause-leads : goal.returns-in-Ok-store-clause-leads
returns-in-Ok-store-clause-leads g c =
    (_, made_call g.D.Disk disk_in (Kept g.D.Disk) IsHistory _ _ c.args.changes (returns-in-Ok-store-clause-any_moment g c) (returns-in-Ok-store-clause-kept g c), refl)

pub returns-clause-leads_nowhere : goal.returns-clause-leads_nowhere
returns-clause-leads_nowhere g c =
    (_, undone_call g.D.Disk disk_in (Kept g.D.Disk) IsHistory _ _ c.args.changes (returns-clause-any_moment g c) (returns-clause-undone g c), refl)
