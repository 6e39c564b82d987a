use Rattle.std.proofs.Common.{◌++◌, codes, sym, subst}
use Rattle.invoke_api.specs.Invoking.{UnplacedReplies, not_invoked}
use Rattle.invoke_api.proofs.replying.unplaced.Goals as goal

pub returns-in-NoPort : goal.returns-in-NoPort
returns-in-NoPort c = subst (λ w. UnplacedReplies c.args.app.now w c.given.result) (sym c.in-NoPort.is) (c.given.ensures (not_invoked (codes "no app port")) c.not_invoked.ensures)

pub returns-in-Unknown : goal.returns-in-Unknown
returns-in-Unknown c = subst (λ w. UnplacedReplies c.args.app.now w c.given-in-Unknown.result) (sym c.in-Unknown.is) (c.given-in-Unknown.ensures (not_invoked (codes "unknown app " ++ c.args.app.now)) c.unknown.ensures)
