use Rattle.std.proofs.Common.{◌-◌, take, drop, length, ap, ◌∙◌, arith, length-drop}
use Rattle.std.proofs.lemmas.List.{take_rest}
use Rattle.disk_journal.proofs.OnResult.{on_ok}
use Rattle.disk_journal.proofs.Windows.{behind_front}
use Rattle.disk_journal.proofs.reading.read_behind.Goals as goal

pub returns-clause-read : goal.returns-clause-read
returns-clause-read g c =
    let room = length c.args.buffer.now - c.args.held in
    on_ok c.read_at.result
    (λ read bytes told.
    behind_front c.args.held room c.args.buffer.now c.read_at.new.into c.requires.within (omega arith) ∙ read bytes told
    ∙ ap (λ n. take n (drop c.args.at bytes)) (ap length (take_rest c.args.buffer.now c.args.held) ∙ length-drop c.args.held c.args.buffer.now))
    c.read_at.ensures.read
