use Rattle.side_memory.proofs.Backs.{is_back}
use Rattle.side_memory.proofs.memory_outside.MemoryOutsideOutside.give_worker.Goals as goal

pub returns-else-not-keep_back-clause-back : goal.returns-else-not-keep_back-clause-back
returns-else-not-keep_back-clause-back c =
    is_back c.args.self.now.backs_told c.args.self.now.backs.items c.keep_back.new.backs.items c.args.number c.args.parts c.if-not-keep_back.ensures.here c.if-not-keep_back.ensures.others
