use Rattle.std.proofs.Common.{rules, sym, subst}
use Rattle.side_memory.specs.MemoryAcceptor.{StartsWith}
use Rattle.side_memory.proofs.memory_acceptor.MemoryAcceptor.answer.Goals.{in-Some-Conn, in-Some-Idle, in-Some-Closed, in-Some+in-Closed-1, in-None-1}
use Rattle.side_memory.proofs.memory_acceptor.MemoryAcceptor.answer.Goals as goal

pub returns-clause-first : goal.returns-clause-first
returns-clause-first c = elim c.match-take_first.branch [
  | in-Some-Conn w ↦ subst (λ z. StartsWith c.args.self.now.answers z c.take_first.new.self) (sym w.result-is) (search rules)
  | in-Some-Idle w ↦ subst (λ z. StartsWith c.args.self.now.answers z c.take_first.new.self) (sym w.result-is) (search rules)
  | in-Some-Closed w ↦
      subst (λ z. StartsWith c.args.self.now.answers z c.take_first.new.self) (sym w.result-is)
      (elim w.in-Some-Closed-1.branch [ in-Some+in-Closed-1 w' ↦ search rules | in-None-1 w' ↦ search rules ])
]
