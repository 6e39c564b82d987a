use Rattle.std.proofs.Common.{◌≡◌, length}
use Rattle.resource_files.specs.Added.{reading_for}
use Rattle.resource_files.proofs.Underway.{IsUnderway}
use Rattle.resource_files.proofs.reading.read_resources.Given as goal

abbrev pub invariant-loop-name : goal.invariant-loop-name
invariant-loop-name g l = record {
  folders : g.F.Files.folders l.files ≡ g.F.Files.folders l.fn.files;
  faults : g.F.Files.faults l.files ≡ g.F.Files.faults l.fn.files;
  underway : IsUnderway (g.F.Files.folders l.fn.files) (g.F.Files.calls l.fn.files) (g.F.Files.calls l.files) l.folder (reading_for l.app l.subscribing) l.names l.all;
}

abbrev pub decreases-loop-name : goal.decreases-loop-name
decreases-loop-name g l = length l.names
