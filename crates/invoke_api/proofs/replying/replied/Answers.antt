use Rattle.std.proofs.Common.{sym, subst}
use Rattle.policy_run.specs.RefusalText.{refusal_text}
use Rattle.link_call.specs.Passed.{passed_on}
use Rattle.invoke_api.specs.Invoking.{InvokeReplies, missed, not_invoked}
use Rattle.invoke_api.proofs.replying.replied.Goals as goal

pub returns-in-Good : goal.returns-in-Good
returns-in-Good c = subst (λ o. InvokeReplies o c.given.result) (sym c.in-Good.is) (c.given.ensures (passed_on c.in-Good.response) c.pass_on.ensures)

pub returns-in-Bad : goal.returns-in-Bad
returns-in-Bad c = subst (λ o. InvokeReplies o c.given-in-Bad.result) (sym c.in-Bad.is) (c.given-in-Bad.ensures (missed c.in-Bad.miss) c.missed.ensures)

pub returns-in-Refused : goal.returns-in-Refused
returns-in-Refused c = subst (λ o. InvokeReplies o c.given-in-Refused.result) (sym c.in-Refused.is) (c.given-in-Refused.ensures (not_invoked (refusal_text c.in-Refused.refusal)) c.refused.ensures)
