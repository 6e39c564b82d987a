use Rattle.std.proofs.Common.{◌++◌, sym}
use Rattle.disk_journal.specs.AnyRun.{acknowledged}
use Rattle.disk_journal.specs.Image.{IsImage}
use Rattle.disk_journal.specs.Journal.{disk_of, Holds}
use Rattle.disk_journal.proofs.Calls.{leaves_held}
use Rattle.disk_journal.proofs.OnResult.{if_ok, if_err}
use Rattle.disk_journal.proofs.Runs.{left_of_run, of_run_then}
use Rattle.disk_journal.proofs.laws.load_after_a_crash.Goals as goal

pub returns-clause-found : goal.returns-clause-found
returns-clause-found g c =
    if_ok c.load.result _ _
    (λ opened only bodies front back left run told.
    of_run_then (IsImage left) _ (bodies ++ acknowledged front) back (λ all image. sym (only left told all image))
    (left_of_run g.D.Disk disk_of (Holds g.D.Disk) IsImage g.met.D.Disk.only_now (leaves_held g.D.Disk) bodies front back left run))
    c.load.ensures.only

pub returns-clause-not_refused : goal.returns-clause-not_refused
returns-clause-not_refused g c =
    if_err c.load.result _ _
    (λ e refused bodies front back left run told at is.
    refused at is left told _ (left_of_run g.D.Disk disk_of (Holds g.D.Disk) IsImage g.met.D.Disk.only_now (leaves_held g.D.Disk) bodies front back left run).found.is)
    c.load.ensures.refused_only
