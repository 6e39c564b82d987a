use Rattle.std.proofs.Common.{rules}
use Rattle.http_client.proofs.WrittenLemmas.{on_more, on_both}
use Rattle.http_client.proofs.written.send_prepared.Goals as goal

pub returns-clause-some : goal.returns-clause-some
returns-clause-some g c = on_more _ _ _ _ _ _ _ _ c.requires (search rules) c.bytes.ensures c.bytes-2.ensures c.in_ok-send.ensures.all c.send-2.ensures.some

pub returns-clause-all : goal.returns-clause-all
returns-clause-all g c = on_both _ _ _ _ _ _ _ _ c.requires (search rules) c.bytes.ensures c.bytes-2.ensures c.in_ok-send.ensures.all c.send-2.ensures.all
