use Rattle.std.proofs.Common.{◌≡◌, ◌++◌, List, ℕ, Err, ap, ◌∙◌, subst}
use Rattle.disk_journal.specs.Image.{header}
use Rattle.disk_journal.specs.Moments.{Reads, ChangesNothing}
use Rattle.disk_journal.specs.Window.{disk_of}
use Rattle.disk_journal.proofs.Opened.{given_nothing}
use Rattle.disk_journal.proofs.Unique.{image_is_no_refusal}
use Rattle.disk_journal.proofs.journal.Journal.open.Goals as goal

pub returns-in-Ok-pass_header-clause-given : goal.returns-in-Ok-pass_header-clause-given
returns-in-Ok-pass_header-clause-given g c =
    given_nothing g.D.Disk c.args.disk c.synced_len.new.disk _ c.in-Ok.ensures.same c.in-Ok.ensures.synced
    (subst (λ d. ChangesNothing g.D.Disk d (disk_of c.pass_header.new.window)) c.new-window.ensures.disk c.in-Ok-pass_header.ensures.same)
    c.in-Ok-pass_header.ensures.place
    (subst (λ d. Reads g.D.Disk d (λ bytes. (left : List ℕ) × (bytes ≡ header ++ left))) c.new-window.ensures.disk c.in-Ok-pass_header.ensures.begins)

pub returns-in-Err-pass_header-clause-refused_only : goal.returns-in-Err-pass_header-clause-refused_only
returns-in-Err-pass_header-clause-refused_only g c at is bytes told bodies image =
    image_is_no_refusal bytes bodies at image (c.in-Err-pass_header.ensures.refused at (ap Err is) bytes (ap g.D.Disk.contents c.new-window.ensures.disk ∙ c.in-Ok.ensures.same.contents ∙ told))
