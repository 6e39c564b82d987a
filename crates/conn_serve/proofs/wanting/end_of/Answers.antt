use Rattle.std.proofs.Common.{sym, ◌∙◌, true≢false}
use Rattle.conn_serve.proofs.wanting.end_of.Goals as goal

pub returns-then-is_between : goal.returns-then-is_between
returns-then-is_between c = λ state stands. (c.is_between.ensures state stands).0 c.if-is_between.true

pub returns-else-is_between : goal.returns-else-is_between
returns-else-is_between c = λ state stands same. absurd (true≢false (sym ((c.is_between.ensures state stands).1 same) ∙ c.if-is_between.false))
