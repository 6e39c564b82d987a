use Rattle.std.proofs.Common.{Some, [], ◌∷◌, ◌++◌, refl, ap, sym, ◌∙◌}
use Rattle.side_memory.specs.MemoryAcceptor.{AcceptorState, back_of}
use Rattle.side_memory.specs.declared.memory_acceptor.Visited.{Visited}
use Rattle.side_memory.specs.declared.memory_acceptor.AcceptorNote.{AcceptorNote}
use Rattle.side_memory.specs.declared.memory_acceptor.AcceptorNote.TheVariants as note
use Rattle.side_memory.proofs.Returned.{returned}
use Rattle.side_memory.proofs.memory_acceptor.MemoryAcceptorAcceptor.end.Goals as goal

pub returns-in-Some-Conn-None-clause-told : goal.returns-in-Some-Conn-None-clause-told
returns-in-Some-Conn-None-clause-told c = λ all is.
    let visited : Visited = record { source = c.args.source; sink = c.args.sink } in
    let last = c.in-Some-Conn-None.ensures in
    let out = c.in-Some-Conn-None.field-0-is ∙ ap note.Conn c.in-Some-Conn-None.field-0-0-is in
    let was = ap (λ (s : AcceptorState). s.notes) (sym c.self.view_is) ∙ (last.1 ∙ ap (λ (n : AcceptorNote). Some (last.0 ++ n ∷ [])) out) in
    let done = returned c.args.self.now.notes c.take_last.new.self c.add.new.self last.0 visited was last.2 c.add.ensures all is in
    (done.0, back_of visited, done.1, done.2, record { read = refl; earlier = refl; written = refl; ended = refl; faults = refl; sink_faults = refl })
