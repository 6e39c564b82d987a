use Rattle.std.proofs.Common.{Err, inr, refl, sym, ap, ◌∙◌, ◌+◌, take, subst}
use Rattle.std.specs.Prelude.{IfSome, IfNone}
use Rattle.disk_journal.specs.Parsing.{IsClosed, BeginsWithOf}
use Rattle.disk_journal.specs.Refusal.{IsCutShort}
use Rattle.disk_journal.specs.Window.{held_of}
use Rattle.disk_journal.specs.declared.opening.Opening.{Opening}
use Rattle.disk_journal.proofs.GivenBodies.{given_more, given_all, cut_short}
use Rattle.disk_journal.proofs.OnResult.{same_error}
use Rattle.disk_journal.proofs.Unique.{image_is_no_refusal}
use Rattle.disk_journal.proofs.opening.Opening.advance.Goals as goal

pub returns-in-Ok-Some-clause-gives : goal.returns-in-Ok-Some-clause-gives
returns-in-Ok-Some-clause-gives g c first bodies given =
    let has = c.in-Ok-Some.ensures in
    let new : Opening g.row.D.Denot g.D.Disk = record { window = c.pass-in-Ok-Some.new.self; limit = c.args.self.now.limit } in
    given_more g.D.Disk first c.args.self.now new c.hold_record.new.window bodies given has.place has.same (c.pass-in-Ok-Some.ensures.disk ∙ c.pass.ensures.disk) c.in-Ok-Some.len
    (subst (λ found. IfSome found (BeginsWithOf (held_of c.hold_record.new.window))) c.in-Ok-Some.field-0-is has.whole)
    (c.pass-in-Ok-Some.ensures.place ∙ ap (λ n. n + c.in-Ok-Some.len) c.pass.ensures.place) (c.pass-in-Ok-Some.ensures.passed ∙ ap (take c.in-Ok-Some.len) c.pass.ensures.held)

pub returns-in-Ok-None-clause-gives : goal.returns-in-Ok-None-clause-gives
returns-in-Ok-None-clause-gives g c first bodies given =
    let none = c.in-Ok-None.ensures in
    let new : Opening g.row.D.Denot g.D.Disk = record { window = c.hold_record.new.window; limit = c.args.self.now.limit } in
    given_all g.D.Disk first c.args.self.now new c.hold_record.new.window bodies given none.place none.same refl (subst (λ found. IfNone found (IsClosed (held_of c.hold_record.new.window))) c.in-Ok-None.field-0-is none.closed) refl

pub returns-in-Err-clause-refused : goal.returns-in-Err-clause-refused
returns-in-Err-clause-refused g c first bodies given at is bytes told =
    let e = c.in-Err.ensures in
    let same = ap Err (same_error is) in
    subst (IsCutShort bytes) (sym (e.at at same)) (cut_short g.D.Disk first c.args.self.now c.args.self.now c.hold_record.new.window bodies given e.place e.same g.met.D.Disk.as_long (e.cut at same) (e.ends at same) bytes told)

pub returns-in-Err-clause-refused_only : goal.returns-in-Err-clause-refused_only
returns-in-Err-clause-refused_only g c first bodies given at is bytes told others image =
    let e = c.in-Err.ensures in
    let same = ap Err (same_error is) in
    image_is_no_refusal bytes others at image
    (inr (inr (subst (IsCutShort bytes) (sym (e.at at same)) (cut_short g.D.Disk first c.args.self.now c.args.self.now c.hold_record.new.window bodies given e.place e.same g.met.D.Disk.as_long (e.cut at same) (e.ends at same) bytes told))))
