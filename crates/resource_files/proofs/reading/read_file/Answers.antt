use Rattle.std.proofs.Common.{rules, ℕ, List, Err, ap, subst}
use Rattle.side_world.specs.Files.{HasLength}
use Rattle.resource_files.specs.Added.{reading_for}
use Rattle.resource_files.proofs.Causes.{refused_next, unread_next}
use Rattle.resource_files.proofs.reading.read_file.Goals as goal

pub returns-in-Err-add_file-clause-next : goal.returns-in-Err-add_file-clause-next
returns-in-Err-add_file-clause-next g c =
    refused_next (g.F.Files.folders c.args.files.now) c.args.folder.now (reading_for c.args.app.now c.args.subscribing) c.args.name c.args.all.now c.add_file.new.all c.bytes-in-Ok-2.result.now c.in-Err-add_file.refusal c.refused.result c.refused.ensures (search rules) c.in-Err-add_file.ensures

pub returns-in-Err-clause-next : goal.returns-in-Err-clause-next
returns-in-Err-clause-next g c =
    unread_next (g.F.Files.folders c.args.files.now) c.args.folder.now (reading_for c.args.app.now c.args.subscribing) c.args.name c.args.all.now c.args.all.now c.in-Err.error c.unread.result c.unread.ensures (λ len is. c.in-Err.ensures.too_long len (ap Err is))
    (λ len is. subst (λ (name : List ℕ). HasLength (g.F.Files.folders c.args.files.now) c.args.folder.now name len) c.bytes.ensures.value (c.in-Err.ensures.length len (ap Err is)))
