use Rattle.std.proofs.Common.{sym, subst}
use Rattle.policy_run.specs.RefusalText.{refusal_text}
use Rattle.bind_api.specs.Binding.{BindingReplies, missed, not_bound, told}
use Rattle.bind_api.proofs.replying.replied.Goals as goal

pub returns-in-Good : goal.returns-in-Good
returns-in-Good c = subst (λ o. BindingReplies o c.given.result) (sym c.in-Good.is) (c.given.ensures (told c.in-Good.response) c.told.ensures)

pub returns-in-Bad : goal.returns-in-Bad
returns-in-Bad c = subst (λ o. BindingReplies o c.given-in-Bad.result) (sym c.in-Bad.is) (c.given-in-Bad.ensures (missed c.in-Bad.miss) c.missed.ensures)

pub returns-in-Refused : goal.returns-in-Refused
returns-in-Refused c = subst (λ o. BindingReplies o c.given-in-Refused.result) (sym c.in-Refused.is) (c.given-in-Refused.ensures (not_bound (refusal_text c.in-Refused.refusal)) c.refused.ensures)
