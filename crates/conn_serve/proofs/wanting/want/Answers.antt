use Rattle.std.proofs.Common.{refl, subst, ◌++◌}
use Rattle.api_error.specs.NoMemory.{no_memory_response}
use Rattle.conn_serve.specs.declared.ended.Ended.TheVariants.{NoMemory}
use Rattle.conn_serve.specs.Ends.{IsFinish, sink_at, source_at}
use Rattle.conn_serve.specs.Answering as wants
use Rattle.conn_serve.proofs.Moved.{read_after, ended_at, over, short_piece}
use Rattle.conn_serve.proofs.wanting.want.Goals as goal

pub returns-in-Ok-eq0 : goal.returns-in-Ok-eq0
returns-in-Ok-eq0 g c = λ state stands. let e = c.in-Ok-eq0.ensures in over state c.args.out.now c.flush.new.out c.args.framer.now _ _ _ _ c.end_of.result (c.end_of.ensures state stands) c.in_default.ensures.sent
    (ended_at (source_at g.S.Source c.args.source.now) (source_at g.S.Source c.between.new.self) (source_at g.S.Source c.read.new.self) c.in-Ok-eq0.field-0 c.read.new.into c.in-Ok-eq0.field-0-test c.between.ensures.left c.between.ensures.taken c.between.ensures.faults e.took e.taken e.earlier e.end e.ended e.no_fault)

pub returns-in-Ok-feed : goal.returns-in-Ok-feed
returns-in-Ok-feed g c = λ state stands. let e = c.in-Ok.ensures in wants.more _ refl c.in_default.ensures.bare c.in_default.ensures.sent
    (read_after (source_at g.S.Source c.args.source.now) (source_at g.S.Source c.between.new.self) (source_at g.S.Source c.read.new.self) _ c.between.ensures.left c.between.ensures.taken c.between.ensures.faults e.took e.taken e.earlier e.no_fault)
    (short_piece c.in-Ok.count c.read.new.into c.args.piece.now e.within c.requires.short) (c.in-Ok-feed.ensures.ok state stands)

pub returns-in-Err-feed : goal.returns-in-Err-feed
returns-in-Err-feed g c = λ state stands. let e = c.in-Ok.ensures in wants.lacks _ (sink_at g.N.Sink c.flush.new.sink) c.in_default.ensures.sent
    (read_after (source_at g.S.Source c.args.source.now) (source_at g.S.Source c.between.new.self) (source_at g.S.Source c.read.new.self) _ c.between.ensures.left c.between.ensures.taken c.between.ensures.faults e.took e.taken e.earlier e.no_fault)
    (short_piece c.in-Ok.count c.read.new.into c.args.piece.now e.within c.requires.short)
    (c.finish_without_memory.result, refl, subst (λ l. IsFinish NoMemory (l ++ no_memory_response) (sink_at g.N.Sink c.flush.new.sink) (sink_at g.N.Sink c.finish_without_memory.new.sink) c.finish_without_memory.result) c.in_default.ensures.bare c.finish_without_memory.ensures)
