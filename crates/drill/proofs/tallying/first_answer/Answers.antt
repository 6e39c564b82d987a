use Rattle.std.proofs.Common.{rules}
use Rattle.drill.proofs.Tallies.{first_bytes, first_len}
use Rattle.drill.proofs.tallying.first_answer.Goals as goal

pub returns-clause-reads : goal.returns-clause-reads
returns-clause-reads c = λ answer behind may whole. (
  c.status_in.ensures answer.response.status (first_bytes c.args.bytes.now answer behind whole).0 may.status (first_bytes c.args.bytes.now answer behind whole).1,
  first_len c.args.bytes.now answer behind c.head_of-head.result.len c.head_of-head.result.content c.min-len.result may whole c.head_of-head.ensures.reads (search rules) (search rules),
)
