use Rattle.api_routes.proofs.Ending.{ending-told, only-ends}
use Rattle.api_routes.proofs.shutdown.is_shutdown.Goals as goal

pub returns-in-Post : goal.returns-in-Post
returns-in-Post c =
    ending-told c.args.method c.args.target.now c.path_of.result.now c.as_bytes.result.now c.eq.result c.in-Post.is c.path_of.ensures c.as_bytes.ensures.value c.eq.ensures

pub returns-in_default : goal.returns-in_default
returns-in_default c =
    ((λ e. absurd (cc)), (λ means. absurd (c.in_default.not-Post (only-ends c.args.method c.args.target.now means).0)))
