use Rattle.std.proofs.Common.{◌≡◌, [], ◌∷◌, ◌++◌, length, sym, ◌∙◌}
use Rattle.disk_journal.specs.Image.{header, IsImage}
use Rattle.disk_journal.proofs.Crashes.{synced, write_reads, shows_weaker}
use Rattle.disk_journal.proofs.Formatted.{formatted, empty_image}
use Rattle.disk_journal.proofs.OnResult.{on_ok}
use Rattle.disk_journal.proofs.formatting.format.Goals as goal

pub returns-in-Ok-clause-formatted : goal.returns-in-Ok-clause-formatted
unfolding header
returns-in-Ok-clause-formatted g c =
    let empty = g.met.D.Disk.as_long c.args.disk.now in
    let reads = write_reads g.D.Disk c.args.disk.now c.write_at.new.self (λ bytes. length bytes ≡ 0) (λ bytes. bytes ≡ header ++ 0 ∷ []) _ c.write_at.ensures.untold c.in-Ok.ensures.written (λ d c' none written. formatted d c' none written) (λ bytes is. sym (empty bytes is) ∙ c.requires) in
    on_ok c.sync.result (λ durable. synced g.D.Disk c.write_at.new.self c.sync.new.disk (λ bytes. bytes ≡ header ++ 0 ∷ []) c.sync.ensures.contents durable reads) c.sync.ensures.durable

pub returns-in-Ok-clause-image : goal.returns-in-Ok-clause-image
returns-in-Ok-clause-image g c =
    on_ok c.sync.result (λ shows. shows_weaker g.D.Disk c.sync.new.disk (λ bytes. bytes ≡ header ++ 0 ∷ []) (λ bytes. IsImage bytes []) (λ bytes is. empty_image bytes is) shows) (returns-in-Ok-clause-formatted g c)
