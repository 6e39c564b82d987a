use Rattle.std.proofs.Common.{◌∙◌, ap, sym}
use Rattle.policy_spec.specs.Named.{under}
use Rattle.policy_spec.specs.Policies.{app, outbound, inbound}
use Rattle.policy_spec.proofs.Found.{sound_named}
use Rattle.policy_spec.proofs.policy_list.Policies.named.Goals as goal

pub returns-in-App-clause-within : goal.returns-in-App-clause-within
returns-in-App-clause-within c x e =
    sound_named _ _ c.self.view_is c.self.invariant (app c.in-App.id.now) x (ap (λ n. under n c.self.inside.apps) (sym c.as_str.ensures.value) ∙ sym c.find.ensures ∙ e)

pub returns-in-Outbound-clause-within : goal.returns-in-Outbound-clause-within
returns-in-Outbound-clause-within c x e =
    sound_named _ _ c.self.view_is c.self.invariant (outbound c.in-Outbound.name.now) x (ap (λ n. under n c.self.inside.outbound) (sym c.as_str-in-Outbound.ensures.value) ∙ sym c.find-in-Outbound.ensures ∙ e)

pub returns-in-Inbound-clause-within : goal.returns-in-Inbound-clause-within
returns-in-Inbound-clause-within c x e =
    sound_named _ _ c.self.view_is c.self.invariant (inbound c.in-Inbound.name.now) x (ap (λ n. under n c.self.inside.inbound) (sym c.as_str-in-Inbound.ensures.value) ∙ sym c.find-in-Inbound.ensures ∙ e)
