use Rattle.std.proofs.Common.{◌∙◌}
use Rattle.resource_files.specs.Added.{reading_for}
use Rattle.resource_files.proofs.Underway.{goes_on, ends_so}
use Rattle.resource_files.proofs.reading.read_resources.Goals as goal

pub loop-name-preserved : goal.loop-name-preserved
loop-name-preserved g c =
    let h = c.loop-name.invariant in
    record {
      folders = c.in-Ok-read_file.ensures.folders ∙ h.folders;
      faults = c.in-Ok-read_file.ensures.faults ∙ h.faults;
      underway = goes_on (g.F.Files.folders c.args.files.now) (g.F.Files.folders c.loop-name.files) (g.F.Files.calls c.args.files.now) (g.F.Files.calls c.loop-name.files) (g.F.Files.calls c.read_file.new.files) c.args.folder.now (reading_for c.args.app.now c.args.subscribing) c.in-Some.name c.loop-name.names c.take_first.new.self c.loop-name.all c.read_file.new.all h.folders c.in-Some.ensures.first h.underway c.in-Ok-read_file.ensures.calls c.in-Ok-read_file.field-0 c.in-Ok-read_file.ensures.next;
    }

pub returns-in-Err-read_file-clause-read : goal.returns-in-Err-read_file-clause-read
returns-in-Err-read_file-clause-read g c =
    let h = c.loop-name.invariant in
    ends_so (g.F.Files.folders c.args.files.now) (g.F.Files.folders c.loop-name.files) (g.F.Files.calls c.args.files.now) (g.F.Files.calls c.loop-name.files) (g.F.Files.calls c.read_file.new.files) c.args.folder.now (reading_for c.args.app.now c.args.subscribing) c.in-Some.name c.loop-name.names c.take_first.new.self c.loop-name.all c.read_file.new.all h.folders c.in-Some.ensures.first h.underway c.in-Err-read_file.ensures.calls c.in-Err-read_file.error (g.F.Files.faults c.args.files.now) (g.F.Files.faults c.loop-name.files) (g.F.Files.faults c.read_file.new.files) h.faults c.in-Err-read_file.ensures.next c.in-Err-read_file.ensures.faults
