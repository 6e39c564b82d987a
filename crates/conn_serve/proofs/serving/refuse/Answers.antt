use Rattle.std.proofs.Common.{rules}
use Rattle.conn_serve.proofs.Over.{ends_by}
use Rattle.conn_serve.proofs.serving.refuse.Goals as goal

pub returns-in_default : goal.returns-in_default
returns-in_default g c = ends_by c.args.why c.args.out.now _ _ c.finish_refused.result (search rules) c.finish_refused.ensures
